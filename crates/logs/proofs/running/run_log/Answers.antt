use Rattle.std.proofs.Common.{map, Ok, Err, vec_items, Result, ◌∙◌, subst}
use Rattle.planner.specs.Views.{standing}
use Rattle.logs.specs.Faults.{WhereMade}
use Rattle.logs.specs.Lines.{log_of, Leads}
use Rattle.logs.specs.declared.log_fault.LogFault.{LogFault}
use Rattle.logs.specs.declared.log_fault.LogFault.TheVariants.{Refused, Memory}
use Rattle.logs.proofs.Kept.{LogKept-from_law}
use Rattle.logs.proofs.Turns.{Leads-none}
use Rattle.logs.proofs.running.run_log.Goals as goal

-- what holds anyhow holds where the board was made
where_made : (r : Result (Unit {0}) LogFault) (P : Type 0) → P → WhereMade r P
where_made (Ok u) P p = p
where_made (Err (Refused f)) P p = tt
where_made (Err Memory) P p = p

-- memory was wanting for the answers: no call was made
pub returns-in_err-reserve-clause-law : goal.returns-in_err-reserve-clause-law
returns-in_err-reserve-clause-law g c =
    let made = c.in_ok-make.ensures in
    let none = Leads-none (standing g.R.BusRule.answer c.make.new.self) c.args.calls.now _ (c.in_err-reserve.ensures.items ∙ c.clear.ensures.items) in
    where_made c.from_residual-in_err-reserve.result _ (LogKept-from_law _ (map g.R.BusRule.answer c.args.rules.now) c.args.gateway made.answer.1 made.law _ _ none)

pub returns-in_err-reserve-clause-leads : goal.returns-in_err-reserve-clause-leads
returns-in_err-reserve-clause-leads g c =
    let t = standing g.R.BusRule.answer c.make.new.self in
    let answers = vec_items c.reserve.new.self in
    let none = Leads-none t c.args.calls.now answers (c.in_err-reserve.ensures.items ∙ c.clear.ensures.items) in
    where_made c.from_residual-in_err-reserve.result _ (subst (λ s. Leads s (log_of c.args.calls.now answers) t) c.in_ok-make.ensures.answer.1 none)

pub returns-in_err-give_all-clause-law : goal.returns-in_err-give_all-clause-law
returns-in_err-give_all-clause-law g c =
    let made = c.in_ok-make.ensures in
    where_made c.from_residual-in_err-give_all.result _
    (LogKept-from_law _ (map g.R.BusRule.answer c.args.rules.now) c.args.gateway made.answer.1 made.law _ _ c.in_err-give_all.ensures.leads)

pub returns-clause-law : goal.returns-clause-law
returns-clause-law g c =
    let made = c.in_ok-make.ensures in
    LogKept-from_law _ (map g.R.BusRule.answer c.args.rules.now) c.args.gateway made.answer.1 made.law _ _ c.in_ok-give_all.ensures.leads
