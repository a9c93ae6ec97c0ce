-- Whether a leg fits is told by its own message's pairs.
use Rattle.std.proofs.Common.{◌≡◌, ℕ, Bool, true, false, cond, not, ◌||◌, Some, None, Option, refl, sym, ap, ◌∙◌}
use Rattle.std.specs.Bool.{then_some}
use Rattle.std.specs.List.{list_all}
use Rattle.bus.specs.declared.message.Message.{Message}
use Rattle.search.specs.Net.{Delays}
use Rattle.search.specs.Deadlines.{met}
use Rattle.search.specs.Walk.{counted, passes, fit_at}
use Rattle.boards.specs.Boards.{Board, message_of, rising_messages}
use Rattle.boards.specs.Nets.{leg_at, net_of, pairs_of}
use Rattle.boards.proofs.OwnPairs.{own_pairs}

then_some-cond : (r : Bool) (d : ℕ) → then_some r d ≡ cond r (Some d) None
then_some-cond true d = refl
then_some-cond false d = refl

pub fit_at-own : (b : Board) (p : Delays) (m : Message) (bus : ℕ) → rising_messages b.messages ≡ true → message_of b.messages m.number ≡ Some m →
    (o : Option ℕ) (d : ℕ) → Some d ≡ o → (r : Bool) → r ≡ list_all (passes (net_of b) p (leg_at bus m.number) d) (pairs_of m) →
    then_some r d ≡ fit_at (net_of b) p (leg_at bus m.number) o
fit_at-own b p m bus rises here o d is r told =
    let x = leg_at bus m.number in
    then_some-cond r d
    ∙ ap (λ t. cond t (Some d) None)
    (told
    ∙ sym (own_pairs x (passes (net_of b) p x d) (λ pr away. ap (λ t. not t || met (net_of b) (counted (net_of b) p x d) pr) away) b.messages rises m here))
    ∙ ap (fit_at (net_of b) p x) is
