-- What the turn left is what was asked.
use Rattle.std.proofs.Common.{sym, subst}
use Rattle.faaslet_meaning.specs.declared.ask.Ask.{Ask}
use Rattle.turn_cell.specs.Cell.{pass_list, pass_number, start_of}
use Rattle.call_service.specs.May.{MayCall}
use Rattle.call_service.specs.Served.{Answers, Serves}
use Rattle.call_service.proofs.Asks.{callee_so, submit_serves, look_serves}
use Rattle.call_service.proofs.service.serve_call.Goals as goal

pub returns-in-Submit-clause-serves : goal.returns-in-Submit-clause-serves
returns-in-Submit-clause-serves g c =
    let start = start_of c.args.table.now in
    let may = subst (λ (a : Ask). MayCall c.args.callees.now start c.args.call a (pass_list c.args.pass) c.args.scratch.now) c.in-Submit.is c.requires.may in
    subst (λ (a : Ask). Answers c.args.callees.now start (pass_number c.args.pass) c.args.call a (pass_list c.args.pass) (pass_list c.submit-pass.result.0) c.submit-pass.result.1 c.args.scratch.now c.args.scratch.now) (sym c.in-Submit.is)
    (submit_serves _ _ _ _ _ _ _ _ _ _ _ (callee_so c.args.callees.now c.in-Submit.function may.function may.is_callee) may.there c.submit-pass.ensures.submits)

pub returns-in-Look-clause-serves : goal.returns-in-Look-clause-serves
returns-in-Look-clause-serves g c =
    subst (λ (a : Ask). Serves c.args.callees.now (start_of c.args.table.now) (pass_number c.args.pass) c.args.call a (pass_list c.args.pass) (pass_list c.look.result.0) c.look.result.1 c.args.scratch.now c.look.new.scratch) (sym c.in-Look.is)
    (look_serves _ _ _ _ _ _ _ _ _ _ c.look.ensures.looks)
