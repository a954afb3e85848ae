use Rattle.session_file.specs.Texts.{function_text_of}
use Rattle.session_file.proofs.Turns.{entitled}
use Rattle.session_file.proofs.fill.entitle.Goals as goal

pub returns-clause-refused : goal.returns-clause-refused
returns-clause-refused c =
    let granted = rw c.deref.ensures.value at c.in_ok-grant_all.ensures.ok in
    let allowed = rw c.deref-2.ensures.value at c.allow_all.ensures.refused in
    entitled c.args.f c.args.registry.now c.grant_all.new.registry (function_text_of c.args.function.now) c.allow_all.result granted allowed
