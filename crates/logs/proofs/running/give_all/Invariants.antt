use Rattle.std.proofs.Common.{◌≡◌, ◌≤◌, length, vec_items, vec_len, vec_capacity}
use Rattle.planner.specs.Views.{standing}
use Rattle.logs.specs.Lines.{log_of, Leads}
use Rattle.logs.proofs.running.give_all.Given as goal

-- the answers so far are those of the calls before, in their order, and there is room for the others
abbrev pub invariant-loop-call : goal.invariant-loop-call
invariant-loop-call g l =
    Leads (standing g.R.BusRule.answer l.initial.board) (log_of l.calls (vec_items l.answers)) (standing g.R.BusRule.answer l.board)
    × (vec_len l.answers ≡ l.call-index) × (length l.calls ≤ vec_capacity l.answers)
