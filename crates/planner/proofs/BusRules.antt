-- The rule of a bus, among rules that are lent: that at its place, and none where there is no such bus. A network has a rule for each bus.
use Rattle.std.proofs.Common.{◌≡◌, ℕ, zero, suc, ◌+◌, ◌-◌, ◌<◌, ◌≤◌, ◌⊎◌, List, [], ◌∷◌, map, length, get_or, refl, ap, ◌∙◌, inl, inr, arith}
use Rattle.std.proofs.lemmas.List.{length-map}
use Rattle.bus.specs.Rules.{Meaning}
use Rattle.boards.specs.Boards.{rule_at, no_rule}
use Rattle.boards.proofs.RuleAt.{rule_of_bus}
use Rattle.planner.specs.Networks.{rules_of}
use Rattle.planner.specs.declared.network.Network.{Network}

module _ {S : Type 0} (f : S → Meaning) where
  pub rule_at-no_bus : (rules : List S) (k : ℕ) → (k < 1) ⊎ ((1 ≤ k) × (length rules < k)) → rule_at (map f rules) k ≡ no_rule
  rule_at-no_bus [] k h = refl
  rule_at-no_bus (r ∷ rules) zero h = refl
  rule_at-no_bus (r ∷ rules) (suc zero) (inl h) = absurd (omega arith)
  rule_at-no_bus (r ∷ rules) (suc zero) (inr h) = absurd (omega arith)
  rule_at-no_bus (r ∷ rules) (suc (suc k)) (inl h) = absurd (omega arith)
  rule_at-no_bus (r ∷ rules) (suc (suc k)) (inr h) = rule_at-no_bus rules (suc k) (inr (omega arith, omega arith))

  pub rule_at-of_bus : (rules : List S) (k : ℕ) (s : S) → 1 ≤ k → k ≤ length rules → s ≡ get_or rules (k - 1) s → rule_at (map f rules) k ≡ f s
  rule_at-of_bus rules k s low high read =
      let at : k ≡ k - 1 + 1 = omega arith in
      ap (rule_at (map f rules)) at ∙ rule_of_bus f rules (k - 1) s (omega arith) read

  -- as many rules as the table has buses
  pub length-rules_of : (n : Network S) → length (rules_of f n) ≡ n.table.buses
  length-rules_of n = length-map n.rules.now f ∙ n.ruled
