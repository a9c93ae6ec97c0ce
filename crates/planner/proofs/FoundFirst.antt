-- What `find_map` over a chain answers, by its closure's answers one after another.
use denote.Param.Members.{Mut}
use Rattle.std.proofs.Common.{◌≡◌, ℕ, suc, ◌+◌, ◌<◌, true, List, [], ◌∷◌, Some, None, Option, refl, sym, subst, ◌∙◌}
use Rattle.std.specs.Fn.{Called}
use Rattle.std.specs.Iterator.{AlwaysYields, Yields, FindsMapped}
use Rattle.std.specs.Iterator.Runs.{Run, SomeRun, YieldsRun, AllItemsGive, IsFirstToGive, CallKeepsClosure}
use Rattle.std.specs.List.{FoldsTo, slice_get}
use Rattle.std.specs.Option.{MatchOption, IfSome}
use Rattle.std.proofs.lemmas.Iterator.{YieldsList}
use Rattle.std.proofs.lemmas.Option.{none-some}

module _ {S A B F R : Type 0} (steps : S → Option A → S → Type 0) (v : A → B) (g : Mut F (A × Unit {0}) (Option R)) (f : F)
    (P : List B → Option R → Type 0) (same : CallKeepsClosure g f) (none : P [] None)
    (hit : (x : A) (ys : List B) (y : R) (q : F) → Called g f (x, tt) (Some y) q → P (v x ∷ ys) (Some y))
    (miss : (x : A) (ys : List B) (r : Option R) (q : F) → Called g f (x, tt) None q → P ys r → P (v x ∷ ys) r) where
  -- every item was passed over
  through : (xs : List A) (all : List B) (s t u : S) → AlwaysYields steps v s all → Yields steps s xs t → steps t None u →
      ((k : ℕ) → IfSome (slice_get xs k) (λ x. Called g f (x, tt) None f)) → P all None
  through [] [] s t u gives ran stop passed = none
  through [] (z ∷ all) s t u gives ran stop passed = absurd (gives.0 u (subst (λ w. steps w None u) (sym ran) stop))
  through (x ∷ xs) [] s t u gives ran stop passed = absurd (gives x ran.0 ran.1)
  through (x ∷ xs) (z ∷ all) s t u gives ran stop passed =
      let next = gives.1 x ran.0 ran.1 in
      subst (λ z. P (z ∷ all) None) next.0 (miss x all None f (passed 0) (through xs all ran.0 t u next.1 ran.2 stop (λ k. passed (suc k))))

  -- the items before the last were passed over
  until : (xs : List A) (all : List B) (s t u : S) (x : A) (y : R) (p q h : F) → AlwaysYields steps v s all → Yields steps s xs t → steps t (Some x) u →
      p ≡ f → FoldsTo (λ p x q. Called g p (x, tt) None q) p xs q → Called g q (x, tt) (Some y) h → P all (Some y)
  until [] [] s t u x y p q h gives ran stop at passed call = absurd (gives x u (subst (λ w. steps w (Some x) u) (sym ran) stop))
  until [] (z ∷ all) s t u x y p q h gives ran stop at passed call =
      subst (λ z. P (z ∷ all) (Some y)) (gives.1 x u (subst (λ w. steps w (Some x) u) (sym ran) stop)).0
      (hit x all y h (subst (λ w. Called g w (x, tt) (Some y) h) (sym passed ∙ at) call))
  until (w ∷ xs) [] s t u x y p q h gives ran stop at passed call = absurd (gives w ran.0 ran.1)
  until (w ∷ xs) (z ∷ all) s t u x y p q h gives ran stop at passed call =
      let next = gives.1 w ran.0 ran.1 in
      let here = subst (λ j. Called g j (w, tt) None passed.0) at passed.1 in
      subst (λ z. P (z ∷ all) (Some y)) next.0
      (miss w all (Some y) passed.0 here (until xs all ran.0 t u x y passed.0 q h next.1 ran.2 stop (same (w, tt) None passed.0 here) passed.2 call))

  no_run : (p : Run steps) (s : S) (all : List B) → p.from ≡ s → AlwaysYields steps v s all → p.whole ≡ true → AllItemsGive p g f None → P all None
  unfolding YieldsRun
  no_run p s all from gives whole give =
      let run = p.gave.0 in
      through p.items all p.from run.0 (run.2 whole).0 (subst (λ w. AlwaysYields steps v w all) (sym from) gives) run.1 (run.2 whole).1
      (λ k. subst (λ o. IfSome o (λ x. Called g f (x, tt) None f)) (p.gave.1 k) (give same k))

pub found_from_find_map : {S A B F R : Type 0} {steps : S → Option A → S → Type 0} {v : A → B} {g : Mut F (A × Unit {0}) (Option R)} {f : F} {s : S} {all : List B}
    (P : List B → Option R → Type 0) (u : S) (r : Option R) → FindsMapped steps g s f r u →
    SomeRun steps s (λ p. MatchOption r ((p.whole ≡ true) × AllItemsGive p g f None) (λ y. (i : ℕ) × (i < p.len) × (p.len ≡ i + 1) × IsFirstToGive p g f (Some y) None i)) →
    YieldsList steps v s all → CallKeepsClosure g f → P [] None →
    ((x : A) (ys : List B) (y : R) (q : F) → Called g f (x, tt) (Some y) q → P (v x ∷ ys) (Some y)) →
    ((x : A) (ys : List B) (r : Option R) (q : F) → Called g f (x, tt) None q → P ys r → P (v x ∷ ys) r) → P all r
found_from_find_map {steps = steps} {v} {g} {f} {s} {all} P u None ran runs chain same none hit miss =
    no_run steps v g f P same none hit miss runs.0 s all runs.1 chain.runs runs.2.0 runs.2.1
found_from_find_map {A = A} {F = F} {steps = steps} {v} {g} {f} {s} {all} P u (Some y) ran runs chain same none hit miss = ends ran.1 ran.3.2 ran.5
  where
    ends : (o : Option A) → steps ran.3.0 o u → MatchOption o (Some y ≡ None) (λ x. (h : F) × Called g ran.2 (x, tt) (Some y) h) → P all (Some y)
    ends None stop end = absurd (none-some y (sym end))
    ends (Some x) stop end = until steps v g f P same none hit miss ran.0 all s ran.3.0 u x y f ran.2 end.0 chain.runs ran.3.1 stop refl ran.4 end.1
