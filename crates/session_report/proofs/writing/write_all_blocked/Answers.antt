-- One more blocked call is written, or what stops it.
use Rattle.std.proofs.Common.{◌<◌, ◌+◌, length, drop, subst, ◌∙◌, arith}
use Rattle.fa_outside.specs.Appended.{Appends, AppendsPart}
use Rattle.session_report.specs.Told.{blocked_line, blocked_lines}
use Rattle.session_report.proofs.Folds.{blocked_left, next_blocked, there}
use Rattle.session_report.proofs.Fronts.{blocked_some, in_part, none_of_it, one_more, stopped}
use Rattle.session_report.proofs.writing.write_all_blocked.Goals as goal

pub returns-in_err-push_blocked-clause-written : goal.returns-in_err-push_blocked-clause-written
returns-in_err-push_blocked-clause-written g c =
    let plan = g.S.Reported.plan c.args.session.now in
    let records = g.S.Reported.records c.args.session.now in
    let all = c.args.blocked.now in
    let i = c.loop-each.each-index in
    let within : i < length all = omega (arith, c.loop-each-test.true) in
    let b = there all i within in
    in_part c.from_residual.result _ _ _ c.from_residual.ensures.0
    (stopped _ _ _ (blocked_lines plan records all) _ (blocked_line plan records b.0) (blocked_lines plan records (drop (i + 1) all)) (blocked_left plan records all i b.0 b.1)
    (none_of_it _ (blocked_line plan records b.0) (blocked_some plan records b.0)) c.loop-each.invariant.written)

pub returns-in_err-write_whole-clause-written : goal.returns-in_err-write_whole-clause-written
returns-in_err-write_whole-clause-written g c =
    let plan = g.S.Reported.plan c.args.session.now in
    let records = g.S.Reported.records c.args.session.now in
    let all = c.args.blocked.now in
    let i = c.loop-each.each-index in
    let within : i < length all = omega (arith, c.loop-each-test.true) in
    let b = next_blocked plan records all i _ _ _ _ within c.as_bytes.ensures.value c.in_ok-push_blocked.ensures c.clear.ensures.bytes in
    in_part c.from_residual-in_err-write_whole.result _ _ _ c.from_residual-in_err-write_whole.ensures.0
    (stopped _ _ _ (blocked_lines plan records all) _ (blocked_line plan records b.0) (blocked_lines plan records (drop (i + 1) all)) (blocked_left plan records all i b.0 b.1)
    (subst (AppendsPart _ _) b.2 c.in_err-write_whole.ensures.part) c.loop-each.invariant.written)

pub loop-each-preserved : goal.loop-each-preserved
loop-each-preserved g c =
    let plan = g.S.Reported.plan c.args.session.now in
    let records = g.S.Reported.records c.args.session.now in
    let all = c.args.blocked.now in
    let i = c.loop-each.each-index in
    let within : i < length all = omega (arith, c.loop-each-test.true) in
    let b = next_blocked plan records all i _ _ _ _ within c.as_bytes.ensures.value c.in_ok-push_blocked.ensures c.clear.ensures.bytes in
    record {
      written = one_more _ _ _ (blocked_lines plan records all) _ (blocked_line plan records b.0) (blocked_lines plan records (drop (i + 1) all)) (blocked_left plan records all i b.0 b.1)
          (subst (Appends _ _) b.2 c.in_ok-write_whole.ensures.whole) c.loop-each.invariant.written;
      quiet = c.in_ok-write_whole.ensures.quiet ∙ c.loop-each.invariant.quiet;
    }
