-- The record that is lent is the call's, and what holds of every record holds of it.
use Rattle.std.proofs.Common.{◌≡◌, ◌<◌, Some, length, slice_get, refl, sym, subst}
use Rattle.std.proofs.lemmas.Option.{slice_get_read}
use Rattle.faaslet_meaning.specs.Table.{Table}
use Rattle.call_table.specs.Held.{IsHeld}
use Rattle.call_table.proofs.Held.{held_at}
use Rattle.call_table.proofs.store.Store.record_of.Goals as goal

pub returns-clause-held : goal.returns-clause-held
returns-clause-held c =
    let inside = c.self.inside in
    let rs = inside.records.items in
    let within : c.args.call < length rs = subst (λ (t : Table). c.args.call < length t.records) (sym c.self.view_is) c.requires in
    let r = c.index.result.now in
    let there : slice_get rs c.args.call ≡ Some r = slice_get_read rs (length rs) c.args.call r refl within c.index.ensures in
    let held = held_at inside.hosts inside.functions.items rs inside.spares.items c.self.invariant c.args.call r there in
    subst (λ (t : Table). IsHeld t.hosts (length t.functions) (length t.records) r) c.self.view_is held
