-- The record behind the others has its room beside it.
use Rattle.std.proofs.Common.{◌≡◌, ◌++◌, ◌∷◌, [], Option, Some, length, slice_get, unwrap_or, refl, ap, sym, subst, ◌∙◌}
use Rattle.std.proofs.lemmas.Option.{slice_get_read}
use Rattle.faaslet_meaning.specs.declared.call.Callable.{Callable}
use Rattle.faaslet_meaning.specs.Table.{Table}
use Rattle.call_table.specs.Held.{IsHeld}
use Rattle.call_table.specs.Inside.{channels_of}
use Rattle.call_table.specs.Spare.{HasRoom}
use Rattle.call_table.proofs.Held.{table_push}
use Rattle.call_table.proofs.store.Store.push.Goals as goal

pub invariant_of-self-2 : goal.invariant_of-self-2
invariant_of-self-2 c =
    let inside = c.self.inside in
    let records = c.push_reserved.ensures.items ∙ ap (λ rs. rs ++ c.args.queued ∷ []) c.in_ok-make_room.ensures.records in
    let spares = c.push_reserved-2.ensures.items ∙ ap (λ ss. ss ++ Some c.in_ok-spare.spare ∷ []) c.in_ok-make_room.ensures.spares in
    let held : IsHeld inside.hosts (length inside.functions.items) (length inside.records.items) c.args.queued =
    subst (λ (t : Table). IsHeld t.hosts (length t.functions) (length t.records) c.args.queued) (sym c.self.view_is) c.requires.held in
    let f = c.args.queued.function in
    let known : slice_get inside.functions.items f ≡ Some c.index.result.now = slice_get_read inside.functions.items (length inside.functions.items) f c.index.result.now refl held.function c.index.ensures in
    let same : c.index.result.now.channels ≡ channels_of inside.functions.items f = sym (ap (λ (o : Option Callable). (unwrap_or o (record { fuel = 0; room = 0; channels = 0 })).channels) known) in
    let room = subst (λ n. HasRoom c.args.queued.room n c.in_ok-spare.spare) same c.in_ok-spare.ensures in
    rw (records, spares) (table_push inside.hosts inside.functions.items inside.records.items inside.spares.items c.self.invariant c.args.queued c.in_ok-spare.spare held room c.in_ok-make_room.ensures.few)
