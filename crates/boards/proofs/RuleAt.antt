-- The rule of a bus: it keeps the rule laws where each rule does; and which it is, among rules that are lent.
use Rattle.std.proofs.Common.{◌≡◌, ℕ, zero, suc, ◌+◌, ◌<◌, List, [], ◌∷◌, map, length, get_or, refl, sym, ap, add-one, arith}
use Rattle.std.specs.List.{AllByRecursion}
use Rattle.std.proofs.lemmas.Option.{none-some}
use Rattle.bus.specs.Rules.{Meaning}
use Rattle.boards.specs.Boards.{no_rule, rule_at, Keeps}

no_rule-keeps : Keeps no_rule
no_rule-keeps = record {
  bounded = λ legs n h leg d rises here e. absurd (none-some d e);
  absent = λ legs n h rises none. refl;
  shorter = λ legs n h k d rises part e. absurd (none-some d e);
}

pub rule_at-keeps : (fs : List Meaning) → AllByRecursion Keeps fs → (k : ℕ) → Keeps (rule_at fs k)
rule_at-keeps [] keeps k = no_rule-keeps
rule_at-keeps (f ∷ fs) keeps zero = no_rule-keeps
rule_at-keeps (f ∷ fs) keeps (suc zero) = keeps.0
rule_at-keeps (f ∷ fs) keeps (suc (suc k)) = rule_at-keeps fs keeps.1 (suc k)

module _ {S : Type 0} (f : S → Meaning) where
  rule_at-map : (rules : List S) (i : ℕ) (s : S) → i < length rules → s ≡ get_or rules i s → rule_at (map f rules) (suc i) ≡ f s
  rule_at-map [] i s within read = absurd (omega arith)
  rule_at-map (r ∷ rules) zero s within read = ap f (sym read)
  rule_at-map (r ∷ rules) (suc i) s within read = rule_at-map rules i s (omega arith) read

  -- bus i + 1 has the rule at place i
  pub rule_of_bus : (rules : List S) (i : ℕ) (s : S) → i < length rules → s ≡ get_or rules i s → rule_at (map f rules) (i + 1) ≡ f s
  rule_of_bus rules i s within read = rw add-one (rule_at-map rules i s within read)
