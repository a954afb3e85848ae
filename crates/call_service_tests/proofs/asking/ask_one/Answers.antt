-- Both children stay, since the list only grows.
use Rattle.std.proofs.Common.{List, subst}
use Rattle.turn_cell.specs.declared.view.Entry.{Entry}
use Rattle.turn_cell.specs.Cell.{start_of}
use Rattle.call_service.specs.May.{IsChild}
use Rattle.call_service.proofs.Adds.{serving_adds}
use Rattle.call_service.proofs.Further.{children_stay}
use Rattle.call_service_tests.proofs.asking.ask_one.Goals as goal

pub returns-clause-two : goal.returns-clause-two
returns-clause-two g c = λ child low.
    let more = serving_adds _ _ _ _ _ _ _ _ _ _ c.serve_call.ensures.serves in
    subst (λ (l : List Entry). IsChild (start_of c.args.turns.now) l 0 child) more.1 (children_stay (start_of c.args.turns.now) 0 child _ more.0 (c.requires.two child low))
