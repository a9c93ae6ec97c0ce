-- The ranked legs that belong to a walk of a board are legs of the board, each once; where the walk is complete they are all its legs.
use Rattle.std.proofs.Common.{◌≡◌, Bool, true, false, not, ◌&&◌, ◌||◌, List, [], ◌∷◌, map, is_some, None, sym, refl, ap, ◌∙◌, arith}
use Rattle.std.proofs.lemmas.Bool.{and_parts, and_from, or_left, or_right, false≢true, not_from_false}
use Rattle.std.specs.List.{list_all, filter}
use Rattle.search.specs.Net.{Leg, Net, has, has_any}
use Rattle.search.specs.Laws.{Apart}
use Rattle.search.specs.Stored as walk
use Rattle.search.proofs.Filled.{open-as_stored}
use Rattle.search.proofs.Legs.{same-turned, has_kept}
use Rattle.search.proofs.Place.{was_open, placed_below, was_unranked}
use Rattle.planner.proofs.OrderTests.{is_empty-nil}

-- ---------------------------------------------------------------- the ranked legs
-- what is open of the first list that has any is in that list
or_next-open : (rs : List walk.Ranked) (x : Leg) (l k more : List Leg) → filter (walk.unranked rs) l ≡ k → (b : Bool) → (has x more ≡ true → b ≡ true) →
    has x (walk.or_next k more) ≡ true → (has x l || b) ≡ true
or_next-open rs x l [] more e b rest h = or_right (has x l) b (rest h)
or_next-open rs x l (y ∷ k) more e b rest h =
    or_left (has x l) b (and_parts (walk.unranked rs x) (has x l) (sym (has_kept x (walk.unranked rs) l) ∙ ap (has x) e ∙ h)).1

first_open-somewhere : (rs : List walk.Ranked) (x : Leg) (ls : List (List Leg)) → has x (walk.first_open rs ls) ≡ true → has_any x ls ≡ true
first_open-somewhere rs x [] h = h
first_open-somewhere rs x (l ∷ ls) h =
    or_next-open rs x l (filter (walk.unranked rs) l) (walk.first_open rs ls) refl (has_any x ls) (first_open-somewhere rs x ls) h

module _ (net : Net) (apart : Apart net.buses) where
  pub has_any-placed : (ws : List walk.Ranked) → walk.placed net ws ≡ true → list_all (λ r. has_any r.leg net.buses) ws ≡ true
  has_any-placed [] h = refl
  has_any-placed (w ∷ ws) h =
      let below = placed_below net w ws h in
      and_from (has_any w.leg net.buses) _
      (first_open-somewhere ws w.leg net.buses (ap (has w.leg) (sym (open-as_stored net apart ws below)) ∙ was_open net w ws h))
      (has_any-placed ws below)

  stored-none : (ws : List walk.Ranked) (x : Leg) → walk.stored ws x ≡ None → has x (map (λ r. r.leg) ws) ≡ false
  stored-none [] x h = refl
  stored-none (w ∷ ws) x h = grind (arith, same-turned w.leg x, stored-none ws x)

  pub distinct-placed : (ws : List walk.Ranked) → walk.placed net ws ≡ true → walk.distinct (map (λ r. r.leg) ws) ≡ true
  distinct-placed [] h = refl
  distinct-placed (w ∷ ws) h =
      and_from (not (has w.leg (map (λ r. r.leg) ws))) _
      (not_from_false _ (stored-none ws w.leg (was_unranked net apart w ws h))) (distinct-placed ws (placed_below net w ws h))

-- ---------------------------------------------------------------- all legs
or_next-none : (k more : List Leg) → walk.or_next k more ≡ [] → (k ≡ []) × (more ≡ [])
or_next-none [] more e = (refl, e)
or_next-none (y ∷ k) more e = absurd (cc)

first_open-all_stored : (ws : List walk.Ranked) (x : Leg) (ls : List (List Leg)) → walk.first_open ws ls ≡ [] → has_any x ls ≡ true → is_some (walk.stored ws x) ≡ true
first_open-all_stored ws x [] e h = absurd (false≢true h)
first_open-all_stored ws x (l ∷ ls) e h =
    let empty = or_next-none (filter (walk.unranked ws) l) (walk.first_open ws ls) e in
    let here : (walk.unranked ws x && has x l) ≡ false = sym (has_kept x (walk.unranked ws) l) ∙ ap (has x) empty.0 in
    grind (arith, here, first_open-all_stored ws x ls empty.1)

-- where the walk is complete every leg of a bus is ranked
pub stored-complete : (net : Net) → Apart net.buses → (ws : List walk.Ranked) → walk.placed_at net (walk.complete ws) ≡ true → (x : Leg) →
    has_any x net.buses ≡ true → is_some (walk.stored ws x) ≡ true
stored-complete net apart ws h x on =
    let both = and_parts (walk.is_empty (walk.place_of net ws).open') (walk.placed net ws) h in
    first_open-all_stored ws x net.buses (sym (open-as_stored net apart ws both.1) ∙ is_empty-nil _ both.0) on
