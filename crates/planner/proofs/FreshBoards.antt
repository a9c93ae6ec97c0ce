-- A board whose walk is sent back to its start, as a log has it.
use Rattle.std.proofs.Common.{◌≡◌, ℕ, ◌≤◌, true, List, map, length, Some, None, Option, sym, refl, ap, ◌∙◌, subst}
use Rattle.std.proofs.lemmas.List.{length-map}
use Rattle.std.specs.List.{list_all}
use Rattle.bus.specs.Entries.{Holds}
use Rattle.bus.specs.Rules.{Meaning}
use Rattle.bus.specs.declared.entry.Entry.{Entry}
use Rattle.bus.specs.declared.message.Message.{Message}
use Rattle.bus.specs.declared.refusal.Refusal.{Refusal}
use Rattle.search.specs.Stored as walk
use Rattle.search.specs.Walk.{Walked}
use Rattle.search.proofs.Kept.{every_stage_is_kept}
use Rattle.search.proofs.Stored.{first-stage_has_all}
use Rattle.boards.specs.Boards.{Board, board_of, bus_count, rising_messages, on_board, Keeps, Sound}
use Rattle.boards.specs.Nets.{net_of}
use Rattle.boards.proofs.BoardLaws.{walk_laws-over}
use Rattle.planner.specs.Logs.{Answer, done, refused, enter, withdraw, with_messages, Unless, Gives}
use Rattle.planner.specs.Messages.{entered, withdrawn}
use Rattle.planner.specs.Refusing.{enter_fault, withdraw_fault}
use Rattle.planner.specs.Standing.{Standing, fresh}
use Rattle.planner.specs.Stages.{layout, stage_of, stands}
use Rattle.planner.specs.declared.ranked.Ranked.{Ranked}
use Rattle.planner.specs.declared.stage.Stage.{Stage}
use Rattle.planner.specs.declared.stage.Stage.TheVariants.{Start}

pub Unless-none : (o : Option Refusal) (s : Standing) (a : Answer) (t : Standing) (P : Type 0) → o ≡ None → P → Unless o s a t P
Unless-none o s a t P e h = subst (λ x. Unless x s a t P) (sym e) h

pub Unless-some : (o : Option Refusal) (s : Standing) (t : Standing) (P : Type 0) (f : Refusal) → o ≡ Some f → t ≡ s → Unless o s (refused f) t P
Unless-some o s t P f e h = subst (λ x. Unless x s (refused f) t P) (sym e) (refl, h)

-- a walk at its start: nothing is ranked, and all is still to come
module _ (rs : List Ranked) (s : Stage) (start : s ≡ Start) where
  pub stands-start : (n : ℕ) (ms : List Message) → stands n ms rs s ≡ true
  stands-start n ms = ap (stands n ms rs) start ∙ (every_stage_is_kept (layout n ms)).1.first

  pub fresh-start : (b : Board) → ◌≡◌ {A = Standing} (record { board = b; left = walk.left (net_of b) (stage_of (net_of b) rs s) }) (fresh b)
  fresh-start b =
      ap (λ (l : Walked). record { board = b; left = l })
      (ap (λ x. walk.left (net_of b) (stage_of (net_of b) rs x)) start ∙ first-stage_has_all (net_of b))

-- a change that is accepted
module _ (b : Board) (l : Walked) (ms : List Message) (t : Standing) (new : t ≡ fresh (with_messages b ms)) where
  pub Gives-enter : (e : Entry) (m : Message) → enter_fault (bus_count b) b.messages e ≡ None → Holds e m → ms ≡ entered m b.messages →
      Gives (record { board = b; left = l }) (enter e) done t
  Gives-enter e m none holds put =
      Unless-none _ (record { board = b; left = l }) done t _ none (m, holds, refl, new ∙ ap (λ ms. fresh (with_messages b ms)) put)

  pub Gives-withdraw : (n : ℕ) → withdraw_fault b.messages n ≡ None → ms ≡ withdrawn n b.messages →
      Gives (record { board = b; left = l }) (withdraw n) done t
  Gives-withdraw n none took =
      Unless-none _ (record { board = b; left = l }) done t _ none (refl, new ∙ ap (λ ms. fresh (with_messages b ms)) took)

-- a board of these parts with these messages, whose walk is at its start
module _ {S : Type 0} (f : S → Meaning) (rules : List S) (gateway : ℕ) where
  abbrev pub begun : List Message → Standing
  begun ms =
      record {
        board = board_of (map f rules) gateway ms;
        left = walk.left (net_of (board_of (map f rules) gateway ms)) (walk.start_stage (net_of (board_of (map f rules) gateway ms)));
      }

  pub begun_fresh : (ms : List Message) → begun ms ≡ fresh (board_of (map f rules) gateway ms)
  begun_fresh ms = λ i. record { board = board_of (map f rules) gateway ms; left = first-stage_has_all (net_of (board_of (map f rules) gateway ms)) i }

  abbrev at : List Message → Walked → Standing
  at ms l = record { board = board_of (map f rules) gateway ms; left = l }

  pub entered-gives : (ms after : List Message) (l : Walked) (e : Entry) (m : Message) → enter_fault (length rules) ms e ≡ None → Holds e m →
      after ≡ entered m ms → Gives (at ms l) (enter e) done (begun after)
  entered-gives ms after l e m none holds put =
      Gives-enter (board_of (map f rules) gateway ms) l after (begun after) (begun_fresh after) e m (ap (λ n. enter_fault n ms e) (length-map rules f) ∙ none) holds put

  pub enter_refused : (ms : List Message) (l : Walked) (e : Entry) (r : Refusal) → enter_fault (length rules) ms e ≡ Some r →
      Gives (at ms l) (enter e) (refused r) (at ms l)
  enter_refused ms l e r some = Unless-some _ (at ms l) (at ms l) _ r (ap (λ n. enter_fault n ms e) (length-map rules f) ∙ some) refl

  pub withdrawn-gives : (ms after : List Message) (l : Walked) (n : ℕ) → withdraw_fault ms n ≡ None → after ≡ withdrawn n ms →
      Gives (at ms l) (withdraw n) done (begun after)
  withdrawn-gives ms after l n none took = Gives-withdraw (board_of (map f rules) gateway ms) l after (begun after) (begun_fresh after) n none took

  pub withdraw_refused : (ms : List Message) (l : Walked) (n : ℕ) (r : Refusal) → withdraw_fault ms n ≡ Some r →
      Gives (at ms l) (withdraw n) (refused r) (at ms l)
  withdraw_refused ms l n r some = Unless-some _ (at ms l) (at ms l) _ r some refl

-- a board that is made of rules with the laws
pub Sound-board_of : {S : Type 0} (f : S → Meaning) → ((s : S) → Keeps (f s)) → (rules : List S) (gateway : ℕ) (ms : List Message) → length rules ≤ 8 →
    rising_messages ms ≡ true → list_all (on_board (length rules)) ms ≡ true → Sound (board_of (map f rules) gateway ms)
Sound-board_of f keeps rules gateway ms few rise on =
    (walk_laws-over f keeps rules gateway ms (subst (λ n. n ≤ 8) (sym (length-map rules f)) few)
    (record { rise = rise; on_buses = subst (λ n. list_all (on_board n) ms ≡ true) (sym (length-map rules f)) on })).0
