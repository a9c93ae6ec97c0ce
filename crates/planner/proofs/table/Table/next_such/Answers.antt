use Rattle.std.proofs.Common.{◌≡◌, ◌&&◌, ltb, sym, ap, ◌∙◌, rules, tests}
use Rattle.std.specs.Option.{option_map}
use Rattle.std.proofs.lemmas.Iterator.{YieldsList-from_slice}
use Rattle.std.proofs.lemmas.Iterator.Search.{find_from_yields_List}
use Rattle.bus.specs.declared.message.Message.{Message}
use Rattle.boards.specs.Nets.{leg_at, pairs_of}
use Rattle.planner.specs.Storage.{is_open, ready_is}
use Rattle.planner.proofs.Mapped.{option_map-twice}
use Rattle.planner.proofs.Such.{next_such-finds}
use Rattle.planner.proofs.table.Table.next_such.Goals as goal

pub returns : goal.returns
returns c =
    let ms = c.args.self.now.messages.items in
    let rs = c.args.ranked.now in
    let bus = c.args.bus in
    let leg = λ (m : Message). leg_at bus m.number in
    let found =
    find_from_yields_List (λ (m : Message). ltb c.args.after m.number && (is_open rs bus m && ready_is c.args.ready rs (pairs_of m) (leg m)))
    _ _ c.find.result c.find.ensures.ran (YieldsList-from_slice ms (cc)) (λ x b q k. search (rules, tests)) in
    let told : c.map.result ≡ option_map (λ r. r.now.number) c.find.result = search rules in
    ap (option_map (leg_at bus)) told
    ∙ sym (option_map-twice (λ r. r.now.number) (leg_at bus) c.find.result)
    ∙ option_map-twice (λ r. r.now) leg c.find.result
    ∙ ap (option_map leg) found
    ∙ next_such-finds rs bus c.args.after c.args.ready ms c.args.self.now.rises
