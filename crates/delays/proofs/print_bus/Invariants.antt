-- Each leg printed counts once at most, and those counted are safe.
use Rattle.std.proofs.Common.{◌≡◌, ◌+◌, ◌≤◌, drop, length}
use Rattle.std.specs.List.{filter}
use Rattle.delays.specs.Safe.{is_safe, safe_count}
use Rattle.delays.proofs.print_bus.Given as goal

abbrev pub invariant-loop-leg : goal.invariant-loop-leg
invariant-loop-leg g l =
    let time = g.C.Carrier.time l.rule.carrier in
    let tau = g.C.Carrier.bit l.rule.carrier in
    (l.safe ≤ l.leg-index) × (l.safe + length (filter (is_safe time tau l.legs) (drop l.leg-index l.legs)) ≡ safe_count time tau l.legs)
