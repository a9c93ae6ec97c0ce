-- What one call leaves of a board: its rules, its gateway time, and the messages as the answer tells.
use Rattle.std.proofs.Common.{◌≡◌, min, List, Some, None, Option, sym, refl, subst}
use Rattle.bus.specs.Entries.{Holds}
use Rattle.bus.specs.declared.message.Message.{Message}
use Rattle.bus.specs.declared.refusal.Refusal.{Refusal}
use Rattle.search.specs.Machine.{left_after}
use Rattle.search.specs.Net.{Leg}
use Rattle.boards.specs.Boards.{bus_count}
use Rattle.boards.specs.Nets.{net_of}
use Rattle.planner.specs.Calls.{rows_of, row_at}
use Rattle.planner.specs.Checks.{orders_in, margin_rows, all_met}
use Rattle.planner.specs.Logs.{Call, enter, withdraw, attempt, look, list, check, Answer, done, refused, tried, looked, listed, checked, Unless, with_messages, Gives}
use Rattle.planner.specs.Messages.{entered, withdrawn}
use Rattle.planner.specs.Standing.{Standing, fresh, progress_of, found_orders}
use Rattle.planner.specs.declared.rows.Row.{Row}
use Rattle.logs.specs.Law.{Holding}

pub record Moved (s : Standing) (c : Call) (a : Answer) (t : Standing) : Type 0 where
  pub rules : t.board.rules ≡ s.board.rules
  pub gateway : t.board.gateway ≡ s.board.gateway
  pub held : Holding s.board.messages c a t.board.messages

-- the same under another name of the answer and of where the board stands
as_told : (s : Standing) (c : Call) (a b : Answer) (t u : Standing) → a ≡ b → t ≡ u → Moved s c b u → Moved s c a t
as_told s c a b t u e to h = subst (λ x. Moved s c x t) (sym e) (subst (λ x. Moved s c b x) (sym to) h)

refused_holds : (ms : List Message) (c : Call) (f : Refusal) → Holding ms c (refused f) ms
refused_holds ms (enter e) f = refl
refused_holds ms (withdraw n) f = refl
refused_holds ms (attempt n) f = refl
refused_holds ms (look bus n) f = refl
refused_holds ms (list lent) f = refl
refused_holds ms (check rows lent) f = refl

-- a call is refused, or it does what an accepted one does
settled : (o : Option Refusal) (s : Standing) (c : Call) (a : Answer) (t : Standing) (P : Type 0) → (P → Moved s c a t) → Unless o s a t P → Moved s c a t
settled None s c a t P accept h = accept h
settled (Some f) s c a t P accept (e, same) =
    as_told s c a (refused f) t s e same (record { rules = refl; gateway = refl; held = refused_holds s.board.messages c f })

pub moves : (s : Standing) (c : Call) (a : Answer) (t : Standing) → Gives s c a t → Moved s c a t
moves s (enter e) a t g =
    let b = s.board in
    settled _ s (enter e) a t _
    (λ (k : (m : Message) × Holds e m × (a ≡ done) × (t ≡ fresh (with_messages b (entered m b.messages)))).
    as_told s (enter e) a done t (fresh (with_messages b (entered k.0 b.messages))) k.2 k.3
    (record { rules = refl; gateway = refl; held = (k.0, k.1, refl) }))
    g
moves s (withdraw n) a t g =
    let b = s.board in
    settled _ s (withdraw n) a t _
    (λ (k : (a ≡ done) × (t ≡ fresh (with_messages b (withdrawn n b.messages)))).
    as_told s (withdraw n) a done t (fresh (with_messages b (withdrawn n b.messages))) k.0 k.1
    (record { rules = refl; gateway = refl; held = refl }))
    g
moves s (attempt n) a t g =
    settled _ s (attempt n) a t _
    (λ (k : (a ≡ tried (progress_of (left_after n s.left)) (min n s.left.tries)) × (t ≡ record { board = s.board; left = left_after n s.left })).
    as_told s (attempt n) a a t (record { board = s.board; left = left_after n s.left }) refl k.1
    (record { rules = refl; gateway = refl; held = refl }))
    g
moves s (look bus n) a t g =
    settled _ s (look bus n) a t _
    (λ (k : (os : List (List Leg)) × (found_orders s ≡ Some os) × (r : Row) × (row_at bus n (rows_of (net_of s.board) os) ≡ Some r) × (a ≡ looked r.rank r.delay) × (t ≡ s)).
    as_told s (look bus n) a a t s refl k.5 (record { rules = refl; gateway = refl; held = refl }))
    g
moves s (list lent) a t g =
    settled _ s (list lent) a t _
    (λ (k : (os : List (List Leg)) × (found_orders s ≡ Some os) × (a ≡ listed (rows_of (net_of s.board) os)) × (t ≡ s)).
    as_told s (list lent) a a t s refl k.3 (record { rules = refl; gateway = refl; held = refl }))
    g
moves s (check rows lent) a t g =
    let os = orders_in (bus_count s.board) rows in
    settled _ s (check rows lent) a t _
    (λ (k : (a ≡ checked (all_met (net_of s.board) os) (margin_rows s.board os)) × (t ≡ s)).
    as_told s (check rows lent) a a t s refl k.1 (record { rules = refl; gateway = refl; held = refl }))
    g
