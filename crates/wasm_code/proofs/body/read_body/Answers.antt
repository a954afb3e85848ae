use Rattle.std.proofs.Common.{length, sym, ap, ◌∙◌}
use Rattle.std.proofs.lemmas.Bool.{eqb-true, eqb-false}
use Rattle.std.proofs.lemmas.List.{nil_from_length}
use Rattle.std.proofs.lemmas.Result.{err_from_is_err_and}
use Rattle.faaslet_meaning.specs.Grammar.{IsBody}
use Rattle.faaslet_meaning.specs.ModuleReading.{entry_at}
use Rattle.faaslet_meaning.proofs.Readers.{none_is_none, once}
use Rattle.faaslet_meaning.proofs.BodyReaders.{entry_reads}
use Rattle.wasm_code.proofs.Ends.{all_front, none_at_all, more_behind}
use Rattle.wasm_code.proofs.Loop.{passed_none}
use Rattle.wasm_code.proofs.body.read_body.Goals as goal

pub returns-in_err-body-clause-malformed : goal.returns-in_err-body-clause-malformed
returns-in_err-body-clause-malformed c =
    let p = err_from_is_err_and c.from_residual.result c.from_residual.ensures.1 in
    λ of. none_at_all IsBody _ (none_is_none IsBody entry_at _ entry_reads (passed_none c.from_residual.result p.0 _ _ p.1 p.2 c.in_err-body.ensures of))

pub returns-then-not-is_empty-clause-malformed : goal.returns-then-not-is_empty-clause-malformed
returns-then-not-is_empty-clause-malformed c = λ _. more_behind IsBody _ _ _ (once IsBody entry_at entry_reads) (entry_reads.takes _ _ _ c.in_ok-body.ensures) (λ e. eqb-false (length c.in_ok-body.rest.now) 0 (sym c.is_empty.ensures ∙ c.if-not-is_empty.true) (ap length e))

pub returns-clause-found : goal.returns-clause-found
returns-clause-found c = all_front IsBody _ _ _ (entry_reads.takes _ _ _ c.in_ok-body.ensures) (nil_from_length c.in_ok-body.rest.now (eqb-true (length c.in_ok-body.rest.now) 0 (sym c.is_empty.ensures ∙ c.if-not-is_empty.false)))
