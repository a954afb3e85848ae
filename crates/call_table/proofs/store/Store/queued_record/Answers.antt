-- A new record is what the definition says, and fits the table.
use Rattle.std.proofs.Common.{◌≡◌, ◌<◌, ◌≤◌, Some, length, slice_get, refl, ap, sym, subst, ◌∙◌, arith}
use Rattle.std.proofs.lemmas.Option.{slice_get_read}
use Rattle.faaslet_meaning.specs.declared.call.Callable.{Callable}
use Rattle.faaslet_meaning.specs.Table.{Table, place_of, queued_record}
use Rattle.call_table.specs.Held.{piece_limit}
use Rattle.call_table.specs.Inside.{table_in}
use Rattle.call_table.proofs.Hosts.{record_made, known_so}
use Rattle.call_table.proofs.store.Store.queued_record.Goals as goal

pub returns-clause-queued : goal.returns-clause-queued
returns-clause-queued c =
    let inside = c.self.inside in
    let within : c.args.function < length inside.functions.items = subst (λ (t : Table). c.args.function < length t.functions) (sym c.self.view_is) c.requires.function in
    let known : slice_get inside.functions.items c.args.function ≡ Some c.index-known.result.now =
    slice_get_read inside.functions.items (length inside.functions.items) c.args.function c.index-known.result.now refl within c.index-known.ensures in
    let t = table_in inside in
    let call = known_so t c.args.function c.index-known.result.now known in
    let bytes : c.of.result ≡ c.args.input.now = c.of.ensures ∙ c.in_ok-input.ensures.items_if_clones_equal (λ x y e. e) in
    let placed : c.args.placed ≡ place_of t c.args.function c.args.from = subst (λ (u : Table). c.args.placed ≡ place_of u c.args.function c.args.from) (sym c.self.view_is) c.requires.placed in
    record_made t c.args.function c.args.from c.args.request c.index-known.result.now.room c.index-known.result.now.fuel c.args.placed c.args.input.now c.of.result bytes
    (sym (ap (λ (k : Callable). k.room) call)) (sym (ap (λ (k : Callable). k.fuel) call)) placed
    ∙ ap (λ (u : Table). record (queued_record u c.args.function c.args.from c.args.input.now) { request = c.args.request }) c.self.view_is

pub returns-clause-held : goal.returns-clause-held
returns-clause-held c =
    let inside = c.self.inside in
    let rs = inside.records.items in
    let within : c.args.function < length inside.functions.items = subst (λ (t : Table). c.args.function < length t.functions) (sym c.self.view_is) c.requires.function in
    let known : slice_get inside.functions.items c.args.function ≡ Some c.index-known.result.now =
    slice_get_read inside.functions.items (length inside.functions.items) c.args.function c.index-known.result.now refl within c.index-known.ensures in
    let k = c.index-known.result.now in
    let bytes : c.of.result ≡ c.args.input.now = c.of.ensures ∙ c.in_ok-input.ensures.items_if_clones_equal (λ x y e. e) in
    let short : length c.of.result ≤ piece_limit = rw bytes c.requires.input in
    let small : k.room ≤ piece_limit = subst (λ (x : Callable). x.room ≤ piece_limit) (sym c.index-known.ensures) (c.self.invariant.rooms c.args.function k within) in
    record {
      small = record { input = short; room = small };
      host = tt;
      output = tt;
      function = c.requires.function;
      children = omega arith;
      depth = omega arith;
    }
