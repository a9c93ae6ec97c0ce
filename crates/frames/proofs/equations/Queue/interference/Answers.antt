use Rattle.std.proofs.Common.{rules, tests, ◌≡◌, ℕ, ◌+◌, min, Bool, true, false, cond, List, [], ◌∷◌, fold, refl, ap, ◌∙◌, arith}
use Rattle.std.proofs.lemmas.Iterator.{YieldsList-from_slice}
use Rattle.std.proofs.lemmas.Iterator.Consumers.{fold_from_yields_List}
use Rattle.bus.specs.Numbered.{member}
use Rattle.frames.specs.Equation.{above, demand_of}
use Rattle.frames.proofs.equations.Queue.interference.Goals as goal

module _ {X : Type 0} (p : X → Bool) (f : X → ℕ) (m : ℕ) where
  abbrev cut : ℕ → List X → ℕ
  cut = fold (λ s x. cond (p x) (min (s + f x) m) s)

  abbrev whole : ℕ → List X → ℕ
  whole = fold (λ s x. s + cond (p x) (f x) 0)

  cut-more : (t : Bool) (a b : ℕ) → cond t (min (min a m + b) m) (min a m) ≡ min (a + cond t b 0) m
  cut-more true a b = omega arith
  cut-more false a b = omega arith

  -- the sum over the items that pass, cut at m all along, is that sum cut at m, from any sum so far
  cut_sum : (a : ℕ) (xs : List X) → cut (min a m) xs ≡ min (whole a xs) m
  cut_sum a [] = refl
  cut_sum a (x ∷ xs) = ap (λ s. cut s xs) (cut-more (p x) a (f x)) ∙ cut_sum (a + cond (p x) (f x) 0) xs

pub returns : goal.returns
returns g c =
    let queue = c.args.self.now in
    let rule = queue.rule.now in
    let part = above queue.number (member queue.above.bits) in
    let time = demand_of (g.C.Carrier.time rule.carrier) (g.C.Carrier.bit rule.carrier) c.args.w.time in
    let cut : c.fold.result ≡ fold (λ s leg. cond (part leg) (min (s + time leg) 18446744073709551615) s) 0 queue.legs.now =
    fold_from_yields_List _ (λ s leg. cond (part leg) (min (s + time leg) 18446744073709551615) s) 0 c.fold.result c.fold.ensures.ran (YieldsList-from_slice queue.legs.now cc) (λ a x b q k. search (rules, tests))
    in cut ∙ cut_sum part time 18446744073709551615 0 queue.legs.now
