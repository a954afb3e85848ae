use Rattle.serde_json.specs.View.{view}
use Rattle.session_file.specs.Told.{planned_of}
use Rattle.session_file.proofs.Files.{fits, given, given_err, is_long, is_no_json, unmet}
use Rattle.session_file.proofs.reader.read_session.Goals as goal

pub returns-then-bytes-gt8388608-clause-refused : goal.returns-then-bytes-gt8388608-clause-refused
returns-then-bytes-gt8388608-clause-refused c = is_long c.args.bytes.now _ c.if-bytes-gt8388608.true c.of_file.ensures

pub returns-in-Err-clause-refused : goal.returns-in-Err-clause-refused
returns-in-Err-clause-refused c =
    λ r some.
    let json = c.unread.ensures.json (λ want. unmet want some) in
    is_no_json c.args.bytes.now _ c.if-bytes-gt8388608.false (c.in-Err.ensures.err json.1) json.0 r some

pub returns-in-Ok-clause-ok : goal.returns-in-Ok-clause-ok
returns-in-Ok-clause-ok c = given c.args.bytes.now (view c.in-Ok.tree) c.if-bytes-gt8388608.false c.in-Ok.ensures.ok.0 c.in-Ok.ensures.ok.1 planned_of c.read_tree.result c.read_tree.ensures.ok

pub returns-in-Ok-clause-fits : goal.returns-in-Ok-clause-fits
returns-in-Ok-clause-fits c = fits c.args.bytes.now (view c.in-Ok.tree) c.if-bytes-gt8388608.false c.in-Ok.ensures.ok.0 c.in-Ok.ensures.ok.1 planned_of c.read_tree.result c.read_tree.ensures.ok

pub returns-in-Ok-clause-refused : goal.returns-in-Ok-clause-refused
returns-in-Ok-clause-refused c = given_err c.args.bytes.now (view c.in-Ok.tree) c.if-bytes-gt8388608.false c.in-Ok.ensures.ok.0 c.in-Ok.ensures.ok.1 c.read_tree.result c.read_tree.ensures.refused
