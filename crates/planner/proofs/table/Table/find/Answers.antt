use Rattle.std.proofs.Common.{rules, tests, ◌≡◌, ℕ, cond, List, [], ◌∷◌, Some, refl, ap, ◌∙◌, ◌==◌}
use Rattle.std.specs.List.{find}
use Rattle.std.proofs.lemmas.Iterator.{YieldsList-from_slice}
use Rattle.std.proofs.lemmas.Iterator.Search.{find_from_yields_List}
use Rattle.bus.specs.declared.message.Message.{Message}
use Rattle.boards.specs.Boards.{message_of}
use Rattle.planner.proofs.table.Table.find.Goals as goal

-- the first that has the number
first_with : (ms : List Message) (n : ℕ) → find (λ m. m.number == n) ms ≡ message_of ms n
first_with [] n = refl
first_with (m ∷ ms) n = ap (cond (m.number == n) (Some m)) (first_with ms n)

pub returns : goal.returns
returns c =
    let ms = c.args.self.now.messages.items in
    c.copied.ensures
    ∙ find_from_yields_List (λ m. m.number == c.args.number) _ _ _ c.find.ensures.ran (YieldsList-from_slice ms cc) (λ x b q k. search (rules, tests))
    ∙ first_with ms c.args.number
