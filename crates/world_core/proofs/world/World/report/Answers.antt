-- What is printed of the records, of the blocked calls and of the values is the report of the world.
use Rattle.std.proofs.Common.{Result, Ok, Err, ap, ◌∙◌}
use Rattle.std.specs.Prelude.{IfOk}
use Rattle.session_meaning.specs.SessionReport as report
use Rattle.session_report.specs.Told.{blocked_lines}
use Rattle.world_core.specs.Whole.{world_after}
use Rattle.world_core.proofs.world.World.report.Goals as goal

if_more : {A E : Type 0} (r : Result A E) (P Q : A → Type 0) → IfOk r P → ((x : A) → P x → Q x) → IfOk r Q
if_more (Ok x) P Q h go = go x h
if_more (Err e) P Q h go = tt

pub returns : goal.returns
returns c =
    let s = c.args.self.now in
    let w = world_after s in
    if_more c.report.result _ _ c.report.ensures
    (λ bytes e. e ∙ ap (λ all. report.report s.plan w.table.records (report.values w) (blocked_lines s.plan w.table.records all)) c.deref.ensures.value ∙ c.report_of_world.ensures s.plan w c.in_ok-blocked.blocked.items c.in_ok-blocked.ensures)
