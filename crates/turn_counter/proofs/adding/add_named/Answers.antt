-- The pass has its earlier entries and the one that it made.
use Rattle.std.proofs.Common.{◌++◌, ◌∷◌, [], ap, ◌∙◌}
use Rattle.turn_cell.specs.History.{entry}
use Rattle.turn_cell.specs.Cell.{pass_list, pass_number, turn_list}
use Rattle.turn_cell.proofs.Own.{own_adds, own_extends}
use Rattle.turn_counter.proofs.adding.add_named.Goals as goal

pub returns-clause-own : goal.returns-clause-own
returns-clause-own g c = let n = pass_number c.args.pass in let list = turn_list c.take-held.result in
    rw (c.give.ensures.list, c.take-held.ensures.cell.1, c.requires.entry) (own_adds n (c.args.amount ∷ []) list ∙ ap (λ z. z ++ entry n (c.args.amount ∷ []) ∷ []) (own_extends n (pass_list c.args.pass) list c.take-held.ensures.list))
