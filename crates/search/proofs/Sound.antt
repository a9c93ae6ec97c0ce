-- What the walk keeps while it ranks legs that fit: the pairs of ranked legs are in time, and each leg on a bus is ranked or open.
use Rattle.std.proofs.Common.{◌≡◌, ℕ, true, ◌&&◌, ◌||◌, List, [], ◌∷◌, is_some, Some, None, refl, inl, inr, arith}
use Rattle.std.proofs.lemmas.Bool.{cases_Bool}
use Rattle.search.specs.Net.{Leg, Pair, Net, has, has_any, less, touches, Delays}
use Rattle.search.specs.Deadlines.{met}
use Rattle.search.specs.Walk.{put, fit}
use Rattle.search.specs.Laws.{Lawful}
use Rattle.search.proofs.Lists.{Among, list_all-at, list_all-by}
use Rattle.search.proofs.Legs.{has-less}
use Rattle.search.proofs.Open.{Open, open-ranked, open-next_bus}
use Rattle.search.proofs.Marks.{marks, Solves, met-marked}
use Rattle.search.proofs.Fits.{fit-meets}

-- p has the delays of the ranked legs, and ls the open ones
pub record Sound (net : Net) (p : Delays) (ls : List (List Leg)) : Type 0 where
  pub stands : Open p ls
  pub settled : (pr : Pair) → Among pr net.pairs → is_some (p pr.source) ≡ true → is_some (p pr.destination) ≡ true →
      met net p pr ≡ true
  pub covered : (y : Leg) → has_any y net.buses ≡ true → (is_some (p y) || has_any y ls) ≡ true

pub sound-start : (net : Net) → Lawful net → Sound net (λ _. None) net.buses
sound-start net lawful = record {
  stands = record { apart = lawful.apart; none = λ y m. refl };
  settled = λ pr m a b. grind arith;
  covered = λ y m. m;
}

pub sound-next_bus : (net : Net) (p : Delays) (ls : List (List Leg)) → Sound net p ([] ∷ ls) → Sound net p ls
sound-next_bus net p ls s = record { stands = open-next_bus p ls s.stands; settled = s.settled; covered = s.covered }

module _ (net : Net) (p : Delays) (l : List Leg) (ls : List (List Leg)) (s : Sound net p (l ∷ ls))
    (c : Leg) (on : has c l ≡ true) (d : ℕ) (fits : fit net p l c ≡ Some d)
  where
    settled_ranked : (pr : Pair) → Among pr net.pairs → is_some (put p c (Some d) pr.source) ≡ true →
        is_some (put p c (Some d) pr.destination) ≡ true → met net (put p c (Some d)) pr ≡ true
    settled_ranked pr m a b =
        elim (cases_Bool (touches c pr)) [
          | inl t ↦ fit-meets net p l c d fits pr m t a b
          | inr t ↦ grind (arith, s.settled pr m)
        ]

    pub sound-ranked : Sound net (put p c (Some d)) (less c l ∷ ls)
    sound-ranked = record {
      stands = open-ranked p c (Some d) l ls s.stands on;
      settled = settled_ranked;
      covered = λ y h. grind (arith, s.covered y h, has-less c y l);
    }

-- where no leg is open, all is solved
module _ (net : Net) (lawful : Lawful net) (p : Delays) (s : Sound net p []) where
  ended-meets : (pr : Pair) → Among pr net.pairs → met net (marks net p []) pr ≡ true
  ended-meets pr m =
      let on = list_all-at (λ r. has_any r.source net.buses && has_any r.destination net.buses) pr net.pairs lawful.pairs_on m in
      met-marked net p [] pr (grind (arith, on, s.settled pr m, s.covered pr.source, s.covered pr.destination))

  pub sound-ended : Solves net p [] []
  sound-ended = record {
    orders = tt;
    ranked = λ y h. grind arith;
    pairs = list_all-by (met net (marks net p [])) net.pairs ended-meets;
  }
