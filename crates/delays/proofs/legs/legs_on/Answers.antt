use Rattle.std.proofs.Common.{rules, tests, ◌≡◌, ℕ, List, [], ◌∷◌, ◌++◌, Some, None, Option, IfOk, refl, ap, subst, ◌∙◌}
use Rattle.std.proofs.lemmas.Iterator.{items_from_collect, YieldsList-from_slice}
use Rattle.std.proofs.lemmas.Iterator.Consumers.{YieldsList-from_filter_map}
use Rattle.std.specs.List.{filter_map, cons_option}
use Rattle.std.specs.Option.{option_to_list}
use Rattle.bus.specs.Legs.{leg_on, legs_on}
use Rattle.bus.specs.declared.message.Message.{Message}
use Rattle.delays.proofs.legs.legs_on.Goals as goal

cons_option-append : {X : Type 0} (o : Option X) (xs : List X) → cons_option o xs ≡ option_to_list o ++ xs
cons_option-append None xs = refl
cons_option-append (Some x) xs = refl

listed : (ms : List Message) (bus : ℕ) → filter_map (λ m. leg_on m bus) ms ≡ legs_on ms bus
listed [] bus = refl
listed (m ∷ ms) bus = cons_option-append (leg_on m bus) _ ∙ ap (λ l. option_to_list (leg_on m bus) ++ l) (listed ms bus)

pub returns : goal.returns
returns c =
    let messages = c.args.messages.now in
    let whole : IfOk c.collect.result (λ v. v.items ≡ filter_map (λ m. leg_on m c.args.bus) messages) =
    items_from_collect _ c.collect.ensures.ran (YieldsList-from_filter_map _ _ (YieldsList-from_slice messages cc) c.filter_map.ensures.closure (λ x r q k. search (rules, tests)))
    in subst (λ l. IfOk c.collect.result (λ v. v.items ≡ l)) (listed messages c.args.bus) whole
