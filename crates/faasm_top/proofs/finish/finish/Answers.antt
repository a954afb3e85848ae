use Rattle.std.proofs.Common.{[], refl, ◌∙◌}
use Rattle.faaslet_meaning.specs.CallState.{fresh_state, over, runs}
use Rattle.faaslet_meaning.specs.Runs.{invocation}
use Rattle.faaslet_meaning.specs.Words.{call_function}
use Rattle.faasm_top.proofs.Told.{no_other, ends_at, told_runs, told_no_want}
use Rattle.faasm_top.proofs.finish.finish.Goals as goal

pub unreachable-requires : goal.unreachable-requires
unreachable-requires c =
    let (code, fuel, input, f) = c.requires in
    let j = invocation (call_function code fuel) input in
    let start = fresh_state f.config in
    no_other code fuel input c.args.faaslet.now c.next.new.self f c.next.result (c.next.ensures.tells j start [] (runs start) f.stands tt) c.in_default.not-Ended

pub returns-clause-runs : goal.returns-clause-runs
returns-clause-runs c = λ code fuel input f.
    let j = invocation (call_function code fuel) input in
    let start = fresh_state f.config in
    let tells = c.next.ensures.tells j start [] (runs start) f.stands tt in
    let end = ends_at code fuel input c.args.faaslet.now c.next.new.self f c.next.result c.in-Ended.outcome c.in-Ended.is tells in
    let put = c.output.ensures j start [] (over end.state c.in-Ended.outcome) end.state end.at refl in
    let spent = c.used.ensures j start [] (over end.state c.in-Ended.outcome) end.state end.at refl in
    told_runs code fuel input c.args.faaslet.now c.next.new.self f c.in-Ended.outcome end c.in_ok-from_slice.field-0.items c.used.result (c.in_ok-from_slice.ensures.items ∙ put) spent

pub returns-clause-no_want : goal.returns-clause-no_want
returns-clause-no_want c =
    let (code, fuel, input, f) = c.requires in
    let j = invocation (call_function code fuel) input in
    let start = fresh_state f.config in
    let tells = c.next.ensures.tells j start [] (runs start) f.stands tt in
    let end = ends_at code fuel input c.args.faaslet.now c.next.new.self f c.next.result c.in-Ended.outcome c.in-Ended.is tells in
    told_no_want code fuel input c.args.faaslet.now c.next.new.self f c.in-Ended.outcome end
