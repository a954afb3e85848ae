use Rattle.faaslet_run_tests.proofs.calls.run.Goals as goal

pub begin-requires-clause-snapshot : goal.begin-requires-clause-snapshot
begin-requires-clause-snapshot c = (c.args.module.now, c.requires.snapshot, c.in_ok-faaslet.ensures.room)

pub begin-requires-clause-pages : goal.begin-requires-clause-pages
begin-requires-clause-pages c = c.in_ok-faaslet.ensures.pages

pub begin-requires-clause-grants : goal.begin-requires-clause-grants
begin-requires-clause-grants c = c.requires.grants

pub finish-requires : goal.finish-requires
finish-requires c = c.begin.ensures
