-- Every log of a sound board keeps the law: by induction over its lines, with what is left of the walk of the board of the moment.
use Rattle.std.proofs.Common.{◌≡◌, ℕ, ◌+◌, ◌-◌, ◌^◌, ◌≤◌, min, Bool, true, false, cond, ◌&&◌, eqb, ltb, leb, ◌⊎◌, List, [], ◌∷◌, is_some, Some, None, Option, sym, refl, ap, ◌∙◌, subst, inl, inr, ⊎_elim, arith}
use Rattle.std.proofs.lemmas.Option.{none-some}
use Rattle.std.proofs.lemmas.Bool.{le-leb, cond-true, not-false}
use Rattle.bus.specs.Entries.{Holds}
use Rattle.bus.specs.declared.entry.Entry.{Entry}
use Rattle.bus.specs.declared.message.Message.{Message}
use Rattle.bus.specs.declared.refusal.Refusal.{Refusal}
use Rattle.search.specs.Net.{Leg}
use Rattle.search.specs.Machine.{left_after}
use Rattle.search.specs.Walk.{walk}
use Rattle.boards.specs.Boards.{Board, bus_count, message_of, on_board, Belong, Sound}
use Rattle.boards.specs.Nets.{net_of}
use Rattle.boards.proofs.BoardLaws.{walk_laws-hold}
use Rattle.planner.specs.Calls.{rows_of, row_at}
use Rattle.planner.specs.Checks.{orders_in, margin_rows, all_met}
use Rattle.planner.specs.Logs.{Call, enter, withdraw, attempt, look, list, check, Answer, done, refused, tried, looked, listed, checked, Unless, with_messages, Gives, Line, Happened, spent_after, found_after, TryLaw, TriedLaw, ListedLaw, CallLaw, LogLaw, EveryLogKeepsTheLaw}
use Rattle.planner.specs.Messages.{entered, withdrawn}
use Rattle.planner.specs.Refusing.{refused_if, given_on_board, enter_fault, withdraw_fault, is_none}
use Rattle.planner.specs.Standing.{Standing, fresh, end_of, progress_of, found_orders}
use Rattle.planner.specs.declared.progress.Progress.TheVariants.{GoingOn}
use Rattle.planner.specs.declared.rows.Row.{Row}
use Rattle.planner.specs.declared.rows.Spot.{Spot}
use Rattle.planner.proofs.Entered.{list_all-entered, entered-rises}
use Rattle.planner.proofs.Withdrawn.{withdrawn-rises, list_all-withdrawn}
use Rattle.planner.proofs.Spending.{left_after-more, progress_of-left_after, left_after-tries, end_of-nothing, end_of-not_going_on}

-- a sound board, of whose walk so many tries are spent
record Stands (s : Standing) (spent : ℕ) : Type 0 where
  pub sound : Sound s.board
  pub left : s.left ≡ left_after spent (walk (net_of s.board))

try_law : (s : Standing) (spent n : ℕ) → Stands s spent →
    TryLaw s.board spent n (progress_of (left_after n s.left)) (min n s.left.tries)
try_law s spent n h =
    let w = walk (net_of s.board) in
    let laws = walk_laws-hold s.board h.sound in
    let at : progress_of (left_after n s.left) ≡ cond (leb w.tries (spent + n)) (end_of w.outcome) GoingOn =
    ap (λ l. progress_of (left_after n l)) h.left ∙ progress_of-left_after spent n w
    in
    let over : (limit : ℕ) → w.tries ≤ limit → limit ≤ spent + n → progress_of (left_after n s.left) ≡ GoingOn → ⊥ =
    λ limit below above e.
    end_of-not_going_on w.outcome
    (sym (at ∙ cond-true (leb w.tries (spent + n)) (end_of w.outcome) GoingOn (le-leb w.tries (spent + n) (omega arith))) ∙ e)
    in record {
      stands = at;
      makes = ap (λ l. min n l.tries) h.left ∙ left_after-tries spent n w;
      none = λ e. laws.none (end_of-nothing _ _ (sym at ∙ e));
      ends = over _ laws.tries;
      ends_local = λ locals. over _ (laws.local_tries locals);
    }

-- one line: its law, and where the board stands after it
abbrev Next : Standing → ℕ → Bool → Call → Answer → Standing → Type 0
Next s spent found c a t = CallLaw s.board spent found c a × Stands t (spent_after spent c a)

-- a call is refused, or accepted
Unless-settled : (o : Option Refusal) (s : Standing) (a : Answer) (t : Standing) (P : Type 0) → Unless o s a t P →
    ((f : Refusal) × (a ≡ refused f) × (t ≡ s)) ⊎ ((o ≡ None) × P)
Unless-settled None s a t P h = inr (refl, h)
Unless-settled (Some f) s a t P h = inl (f, h.0, h.1)

refused_law : (b : Board) (spent : ℕ) (found : Bool) (c : Call) (f : Refusal) → CallLaw b spent found c (refused f)
refused_law b spent found (enter e) f = tt
refused_law b spent found (withdraw n) f = tt
refused_law b spent found (attempt n) f = tt
refused_law b spent found (look bus n) f = tt
refused_law b spent found (list lent) f = tt
refused_law b spent found (check rows lent) f = tt

refused_spent : (spent : ℕ) (c : Call) (f : Refusal) → spent_after spent c (refused f) ≡ spent
refused_spent spent (enter e) f = refl
refused_spent spent (withdraw n) f = refl
refused_spent spent (attempt n) f = refl
refused_spent spent (look bus n) f = refl
refused_spent spent (list lent) f = refl
refused_spent spent (check rows lent) f = refl

refused_next : (s : Standing) (spent : ℕ) (found : Bool) (c : Call) (a : Answer) (t : Standing) → Stands s spent →
    (f : Refusal) × (a ≡ refused f) × (t ≡ s) → Next s spent found c a t
refused_next s spent found c a t h (f, e, same) = (
  subst (CallLaw s.board spent found c) (sym e) (refused_law s.board spent found c f),
  subst (λ u. Stands u (spent_after spent c a)) (sym same)
      (subst (Stands s) (sym (ap (spent_after spent c) e ∙ refused_spent spent c f)) h),
)

-- a call that leaves all as it was, and whose answer has no law
same_next : (s t : Standing) (spent : ℕ) → Stands s spent → t ≡ s → Stands t spent
same_next s t spent h e = subst (λ u. Stands u spent) (sym e) h

found_orders-outcome : (s : Standing) (os : List (List Leg)) → found_orders s ≡ Some os → s.left.outcome ≡ Some os
found_orders-outcome s os e = go (is_none s.board.messages) (eqb s.left.tries 0) e
  where
    go : (p q : Bool) → cond p None (cond q s.left.outcome None) ≡ Some os → s.left.outcome ≡ Some os
    go true q e = absurd (none-some os e)
    go false true e = e
    go false false e = absurd (none-some os e)

Stands-fresh : (b : Board) → Sound b → Stands (fresh b) 0
Stands-fresh b sound =
    let w = walk (net_of b) in
    let e : w.tries ≡ w.tries - min 0 w.tries = omega arith in
    record { sound = sound; left = λ i. record { tries = e i; outcome = w.outcome } }

Sound-with_messages : (b : Board) → Sound b → (ms : List Message) → Belong (bus_count b) ms → Sound (with_messages b ms)
Sound-with_messages b sound ms belong = record { rules = sound.rules; few = sound.few; messages = belong }

attempt_next : (s : Standing) (spent : ℕ) (found : Bool) (n : ℕ) (a : Answer) (t : Standing) → Stands s spent →
    Gives s (attempt n) a t → Next s spent found (attempt n) a t
attempt_next s spent found n a t h g =
    ⊎_elim
    (refused_next s spent found (attempt n) a t h)
    (λ (k : (_ ≡ None) × ((a ≡ tried (progress_of (left_after n s.left)) (min n s.left.tries)) × (t ≡ record { board = s.board; left = left_after n s.left }))).
    let to : Standing = record { board = s.board; left = left_after n s.left } in
    let stands : Stands to (spent + n) = record { sound = h.sound; left = ap (left_after n) h.left ∙ left_after-more spent n (walk (net_of s.board)) } in
    let next : Next s spent found (attempt n) a t = (
      subst (TriedLaw s.board spent n) (sym k.1.0) (try_law s spent n h),
      subst (λ u. Stands u (spent_after spent (attempt n) a)) (sym k.1.1)
          (subst (λ x. Stands to (spent_after spent (attempt n) x)) (sym k.1.0) stands),
    )
    in next)
    (Unless-settled _ s a t _ g)

list_next : (s : Standing) (spent : ℕ) (found : Bool) (lent : ℕ) (a : Answer) (t : Standing) → Stands s spent →
    Gives s (list lent) a t → Next s spent found (list lent) a t
list_next s spent found lent a t h g =
    ⊎_elim
    (refused_next s spent found (list lent) a t h)
    (λ (k : (_ ≡ None) × ((os : List (List Leg)) × (found_orders s ≡ Some os) × (a ≡ listed (rows_of (net_of s.board) os)) × (t ≡ s))).
    let os = k.1.0 in
    let outcome : (walk (net_of s.board)).outcome ≡ Some os = ap (λ l. l.outcome) (sym h.left) ∙ found_orders-outcome s os k.1.1 in
    let law : ListedLaw s.board found (listed (rows_of (net_of s.board) os)) =
    λ _. (os, (walk_laws-hold s.board h.sound).found os outcome, refl)
    in
    let next : Next s spent found (list lent) a t =
    (subst (ListedLaw s.board found) (sym k.1.2) law, same_next s t spent h k.1.3)
    in next)
    (Unless-settled _ s a t _ g)

look_next : (s : Standing) (spent : ℕ) (found : Bool) (bus n : ℕ) (a : Answer) (t : Standing) → Stands s spent →
    Gives s (look bus n) a t → Next s spent found (look bus n) a t
look_next s spent found bus n a t h g =
    ⊎_elim
    (refused_next s spent found (look bus n) a t h)
    (λ (k : (_ ≡ None) × ((os : List (List Leg)) × (found_orders s ≡ Some os) × (r : Row) × (row_at bus n (rows_of (net_of s.board) os) ≡ Some r) × (a ≡ looked r.rank r.delay) × (t ≡ s))).
    let next : Next s spent found (look bus n) a t = (tt, same_next s t spent h k.1.5) in next)
    (Unless-settled _ s a t _ g)

check_next : (s : Standing) (spent : ℕ) (found : Bool) (rows : List Spot) (lent : ℕ) (a : Answer) (t : Standing) → Stands s spent →
    Gives s (check rows lent) a t → Next s spent found (check rows lent) a t
check_next s spent found rows lent a t h g =
    ⊎_elim
    (refused_next s spent found (check rows lent) a t h)
    (λ (k : (_ ≡ None) × ((a ≡ checked (all_met (net_of s.board) (orders_in (bus_count s.board) rows)) (margin_rows s.board (orders_in (bus_count s.board) rows))) × (t ≡ s))).
    let next : Next s spent found (check rows lent) a t = (tt, same_next s t spent h k.1.1) in next)
    (Unless-settled _ s a t _ g)

pub refused_if-none : (t : Bool) (f : Refusal) (rest : Option Refusal) → refused_if t f rest ≡ None → (t ≡ false) × (rest ≡ None)
refused_if-none true f rest e = absurd (cc)
refused_if-none false f rest e = (refl, e)

is_some-none : (o : Option Message) → is_some o ≡ false → o ≡ None
is_some-none None e = refl
is_some-none (Some m) e = absurd (cc)

-- what an accepted enter has tested
entered-belongs : (n : ℕ) (ms : List Message) (e : Entry) (m : Message) → enter_fault n ms e ≡ None → Holds e m → Belong n ms → Belong n (entered m ms)
entered-belongs n ms e m none holds belong =
    let buses = refused_if-none _ _ _ (refused_if-none _ _ _ none).1 in
    let taken = refused_if-none _ _ _ (refused_if-none _ _ _ buses.1).1 in
    let free : message_of ms m.number ≡ None = ap (message_of ms) holds.number ∙ is_some-none _ taken.0 in
    let on : on_board n m ≡ true =
    ap (λ x. leb x n && ltb m.destinations (2 ^ n)) holds.source
    ∙ ap (λ x. leb e.source n && ltb x (2 ^ n)) holds.destinations
    ∙ not-false (given_on_board n e) buses.0
    in record { rise = entered-rises m ms belong.rise free; on_buses = list_all-entered m (on_board n) ms on belong.on_buses }

withdrawn-belongs : (n k : ℕ) (ms : List Message) → Belong n ms → Belong n (withdrawn k ms)
withdrawn-belongs n k ms belong =
    record { rise = withdrawn-rises k ms belong.rise; on_buses = list_all-withdrawn k (on_board n) ms belong.on_buses }

-- an accepted change begins anew
change_next : (s : Standing) (spent : ℕ) (found : Bool) (c : Call) (a : Answer) (t : Standing) (b : Board) → Sound b →
    CallLaw s.board spent found c done → spent_after spent c done ≡ 0 → a ≡ done → t ≡ fresh b → Next s spent found c a t
change_next s spent found c a t b sound law none e to = (
  subst (CallLaw s.board spent found c) (sym e) law,
  subst (λ u. Stands u (spent_after spent c a)) (sym to) (subst (Stands (fresh b)) (sym (ap (spent_after spent c) e ∙ none)) (Stands-fresh b sound)),
)

enter_next : (s : Standing) (spent : ℕ) (found : Bool) (e : Entry) (a : Answer) (t : Standing) → Stands s spent →
    Gives s (enter e) a t → Next s spent found (enter e) a t
enter_next s spent found e a t h g =
    let b = s.board in
    ⊎_elim
    (refused_next s spent found (enter e) a t h)
    (λ (k : (enter_fault (bus_count b) b.messages e ≡ None) × ((m : Message) × Holds e m × (a ≡ done) × (t ≡ fresh (with_messages b (entered m b.messages))))).
    let m = k.1.0 in
    change_next s spent found (enter e) a t (with_messages b (entered m b.messages))
    (Sound-with_messages b h.sound _ (entered-belongs (bus_count b) b.messages e m k.0 k.1.1 h.sound.messages))
    tt refl k.1.2 k.1.3)
    (Unless-settled _ s a t _ g)

withdraw_next : (s : Standing) (spent : ℕ) (found : Bool) (n : ℕ) (a : Answer) (t : Standing) → Stands s spent →
    Gives s (withdraw n) a t → Next s spent found (withdraw n) a t
withdraw_next s spent found n a t h g =
    let b = s.board in
    ⊎_elim
    (refused_next s spent found (withdraw n) a t h)
    (λ (k : (withdraw_fault b.messages n ≡ None) × ((a ≡ done) × (t ≡ fresh (with_messages b (withdrawn n b.messages))))).
    change_next s spent found (withdraw n) a t (with_messages b (withdrawn n b.messages))
    (Sound-with_messages b h.sound _ (withdrawn-belongs (bus_count b) n b.messages h.sound.messages))
    tt refl k.1.0 k.1.1)
    (Unless-settled _ s a t _ g)

next : (s : Standing) (spent : ℕ) (found : Bool) (c : Call) (a : Answer) (t : Standing) → Stands s spent → Gives s c a t → Next s spent found c a t
next s spent found (enter e) a t h g = enter_next s spent found e a t h g
next s spent found (withdraw n) a t h g = withdraw_next s spent found n a t h g
next s spent found (attempt n) a t h g = attempt_next s spent found n a t h g
next s spent found (look bus n) a t h g = look_next s spent found bus n a t h g
next s spent found (list lent) a t h g = list_next s spent found lent a t h g
next s spent found (check rows lent) a t h g = check_next s spent found rows lent a t h g

lines : (s : Standing) (spent : ℕ) (found : Bool) (log : List Line) → Stands s spent → Happened s log → LogLaw spent found log
lines s spent found [] h g = tt
lines s spent found (l ∷ ls) h (t, before, gives, later) =
    let n = next s spent found l.call l.answer t h gives in (
      subst (λ b. CallLaw b spent found l.call l.answer) (sym before) n.0,
      lines t (spent_after spent l.call l.answer) (found_after found l.call l.answer) ls n.1 later,
    )

pub every_log_keeps_the_law : EveryLogKeepsTheLaw
every_log_keeps_the_law b sound log h = lines (fresh b) 0 false log (Stands-fresh b sound) h
