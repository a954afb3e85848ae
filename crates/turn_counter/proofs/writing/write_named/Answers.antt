-- The pass has its earlier entries, and the line where it was written.
use Rattle.std.proofs.Common.{◌++◌, ◌∷◌, [], sym, ap, ◌∙◌}
use Rattle.std.proofs.lemmas.List.{append-nil}
use Rattle.turn_cell.specs.History.{own, entry}
use Rattle.turn_cell.specs.Cell.{pass_list, pass_number, turn_list}
use Rattle.turn_cell.proofs.Own.{own_adds, own_extends}
use Rattle.turn_counter.proofs.writing.write_named.Goals as goal

pub returns-then-add-clause-own : goal.returns-then-add-clause-own
returns-then-add-clause-own g c = let n = pass_number c.args.pass in let list = turn_list c.take-held.result in
    rw (c.give.ensures.list, c.take-held.ensures.cell.1, c.requires.entry) (own_adds n (c.args.line ∷ []) list ∙ ap (λ z. z ++ entry n (c.args.line ∷ []) ∷ []) (own_extends n (pass_list c.args.pass) list c.take-held.ensures.list))

pub returns-else-add-clause-own : goal.returns-else-add-clause-own
returns-else-add-clause-own g c = let n = pass_number c.args.pass in let list = turn_list c.take-held.result in
    rw (c.give_back.ensures.list) (own_extends n (pass_list c.args.pass) list c.take-held.ensures.list ∙ sym (append-nil (own n (pass_list c.args.pass))))
