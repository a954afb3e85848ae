-- The record that was read is the call's.
use Rattle.std.proofs.Common.{◌≡◌, ◌<◌, Some, false, length, slice_get, refl, ap, sym, subst, ◌∙◌}
use Rattle.std.proofs.lemmas.Option.{slice_get_read}
use Rattle.faaslet_meaning.specs.declared.call.CallState.TheVariants.{Finished}
use Rattle.faaslet_meaning.specs.Lists.{passes_at}
use Rattle.faaslet_meaning.specs.Records.{is_finished}
use Rattle.faaslet_meaning.specs.Table.{Table}
use Rattle.call_table.proofs.Look.{looked, not_finished}
use Rattle.call_table.proofs.Places.{passes_so}
use Rattle.call_table.proofs.store.Store.look.Goals as goal

pub returns-in-Finished-clause-finished : goal.returns-in-Finished-clause-finished
returns-in-Finished-clause-finished c =
    let records = c.self.inside.records.items in
    let inside : c.args.call < length records = subst (λ (t : Table). c.args.call < length t.records) (sym c.self.view_is) c.requires.call in
    let there : slice_get records c.args.call ≡ Some c.index.result.now = slice_get_read records (length records) c.args.call c.index.result.now refl inside c.index.ensures in
    let state = c.in-Finished.is ∙ ap (λ o. Finished c.in-Finished.host c.in-Finished.bench c.in-Finished.order c.in-Finished.outcome c.in-Finished.used o c.in-Finished.counts) (sym c.as_slice-output.ensures) in
    looked c.args.self.now c.args.call c.index.result.now c.in-Finished.host c.in-Finished.bench c.in-Finished.order c.in-Finished.outcome c.in-Finished.used c.as_slice-output.result.now c.in-Finished.counts c.args.out.now c.copied.new.buffer
    (subst (λ (t : Table). slice_get t.records c.args.call ≡ Some c.index.result.now) c.self.view_is there) state c.copied.ensures

pub returns-in_default : goal.returns-in_default
returns-in_default c =
    let records = c.self.inside.records.items in
    let inside : c.args.call < length records = subst (λ (t : Table). c.args.call < length t.records) (sym c.self.view_is) c.requires.call in
    let there : slice_get records c.args.call ≡ Some c.index.result.now = slice_get_read records (length records) c.args.call c.index.result.now refl inside c.index.ensures in
    let no : passes_at (λ r. is_finished r.state) records c.args.call ≡ false = passes_so (λ r. is_finished r.state) records c.args.call c.index.result.now there ∙ not_finished c.index.result.now.state c.in_default.not-Finished in
    record { finished = tt; unfinished = (subst (λ (t : Table). passes_at (λ r. is_finished r.state) t.records c.args.call ≡ false) c.self.view_is no, refl) }
