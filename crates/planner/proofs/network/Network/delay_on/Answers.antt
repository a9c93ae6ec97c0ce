use Rattle.std.proofs.Common.{◌-◌, get_or, sym, ap, ◌∙◌, inl, inr, arith, rules, ◌≡◌, ◌+◌, ◌<◌, ◌≤◌, length, None}
use Rattle.std.proofs.lemmas.List.{length-take}
use Rattle.bus.specs.Legs.{legs_on}
use Rattle.bus.specs.Numbered.{member}
use Rattle.planner.proofs.BusRules.{rule_at-no_bus, rule_at-of_bus}
use Rattle.planner.proofs.Rising.{rising_messages-few}
use Rattle.planner.proofs.network.Network.delay_on.Goals as goal

pub fill-count-requires : goal.fill-count-requires
fill-count-requires g c = let table = c.args.self.now.table in record { room = rising_messages-few table.messages.items table.rises }

pub slice_bounds-legs-end : goal.slice_bounds-legs-end
slice_bounds-legs-end g c = let table = c.args.self.now.table in omega (arith, rising_messages-few table.messages.items table.rises)

pub slice_bounds-delay-end : goal.slice_bounds-delay-end
slice_bounds-delay-end g c =
    let table = c.args.self.now.table in
    omega (arith, rising_messages-few table.messages.items table.rises, length-take c.fill-count.result c.fill-count.new.legs)

pub returns-in_err-checked_sub : goal.returns-in_err-checked_sub
returns-in_err-checked_sub g c =
    let low : c.args.bus < 1 = search rules in
    let none : c.from_residual.result ≡ None = search rules in
    none
    ∙ sym
    (ap (λ f. f (legs_on c.args.self.now.table.messages.items c.args.bus) c.args.number (member c.args.above.bits))
    (rule_at-no_bus g.R.BusRule.answer c.args.self.now.rules.now c.args.bus (inl low)))

pub returns-in_err-rule : goal.returns-in_err-rule
returns-in_err-rule g c =
    let at : c.in_ok-checked_sub.field-0 + 1 ≡ c.args.bus = search rules in
    let past : length c.args.self.now.rules.now ≤ c.in_ok-checked_sub.field-0 = search rules in
    let none : c.from_residual-in_err-rule.result ≡ None = search rules in
    none
    ∙ sym
    (ap (λ f. f (legs_on c.args.self.now.table.messages.items c.args.bus) c.args.number (member c.args.above.bits))
    (rule_at-no_bus g.R.BusRule.answer c.args.self.now.rules.now c.args.bus (inr (omega (arith, at, past), omega (arith, at, past)))))

pub returns : goal.returns
returns g c =
    let lent = c.args.self.now.rules.now in
    let at : c.in_ok-checked_sub.field-0 + 1 ≡ c.args.bus = search rules in
    let within : c.in_ok-checked_sub.field-0 < length lent = search rules in
    let read : c.in_ok-rule.rule.now ≡ get_or lent c.in_ok-checked_sub.field-0 c.in_ok-rule.rule.now = search rules in
    let less : c.in_ok-checked_sub.field-0 ≡ c.args.bus - 1 = omega (arith, at) in
    c.delay.ensures
    ∙ ap (λ l. g.R.BusRule.answer c.in_ok-rule.rule.now l c.args.number (member c.args.above.bits)) c.fill-count.ensures.legs
    ∙ ap (λ f. f (legs_on c.args.self.now.table.messages.items c.args.bus) c.args.number (member c.args.above.bits))
    (sym (rule_at-of_bus g.R.BusRule.answer lent c.args.bus c.in_ok-rule.rule.now (omega (arith, at)) (omega (arith, at, within))
    (read ∙ ap (λ i. get_or lent i c.in_ok-rule.rule.now) less)))
