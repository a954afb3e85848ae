-- The call is taken, and has room for its output and its counts.
use Rattle.std.proofs.Common.{◌≤◌, length, sym, ◌∙◌, arith}
use Rattle.std.specs.Prelude.{nat_le}
use Rattle.std.proofs.lemmas.Bool.{leb-true}
use Rattle.faaslet_meaning.specs.Records.{is_open}
use Rattle.call_table.specs.Inside.{table_in}
use Rattle.call_table.proofs.Finish.{open_inside, within_records, within_spares, has_spare, short_inside, place, open_taken, finish_did}
use Rattle.call_table.proofs.Held.{table_finished}
use Rattle.call_table.proofs.Places.{read_at, passes_so}
use Rattle.call_table.proofs.store.Store.finish.Goals as goal

pub index_mut-requires : goal.index_mut-requires
index_mut-requires c =
    let within = within_spares c.self.inside c.args.self.now c.args.call c.self.invariant c.self.view_is c.requires.open in
    omega (arith, c.self.inside.spares.ok.0)

pub unreachable-requires : goal.unreachable-requires
unreachable-requires c =
    has_spare c.self.inside c.args.self.now c.args.call c.self.invariant c.self.view_is c.requires.open c.index_mut.result.now c.index_mut.ensures.value (sym c.take.ensures.value ∙ c.in_default.is)

pub index_mut-known-requires : goal.index_mut-known-requires
index_mut-known-requires c =
    let within = within_records c.self.inside c.args.self.now c.args.call c.self.invariant c.self.view_is c.requires.open in
    omega (arith, c.self.inside.records.ok.0)

pub unreachable-requires-in_default-state : goal.unreachable-requires-in_default-state
unreachable-requires-in_default-state c =
    let opened = open_inside c.self.inside c.args.self.now c.args.call c.self.invariant c.self.view_is c.requires.open in
    let read = read_at (λ r. is_open r.state) c.self.inside.records.items c.args.call c.index_mut-known.result.now opened c.index_mut-known.ensures.value in
    open_taken c.index_mut-known.result.now.state read.passes c.in_default-state.not-Taken

pub filled-requires-clause-empty : goal.filled-requires-clause-empty
filled-requires-clause-empty c =
    (place c.self.inside c.args.self.now c.args.call c.self.invariant c.self.view_is c.requires.open c.index_mut.result.now c.in-Some.spare c.args.output.now c.args.counts.now c.index_mut.ensures.value (sym c.take.ensures.value ∙ c.in-Some.is) c.requires.output c.requires.counts).no_output

pub filled-requires-clause-enough : goal.filled-requires-clause-enough
filled-requires-clause-enough c =
    (place c.self.inside c.args.self.now c.args.call c.self.invariant c.self.view_is c.requires.open c.index_mut.result.now c.in-Some.spare c.args.output.now c.args.counts.now c.index_mut.ensures.value (sym c.take.ensures.value ∙ c.in-Some.is) c.requires.output c.requires.counts).output_fits

pub filled-requires-2-clause-empty : goal.filled-requires-2-clause-empty
filled-requires-2-clause-empty c =
    (place c.self.inside c.args.self.now c.args.call c.self.invariant c.self.view_is c.requires.open c.index_mut.result.now c.in-Some.spare c.args.output.now c.args.counts.now c.index_mut.ensures.value (sym c.take.ensures.value ∙ c.in-Some.is) c.requires.output c.requires.counts).no_counts

pub filled-requires-2-clause-enough : goal.filled-requires-2-clause-enough
filled-requires-2-clause-enough c =
    (place c.self.inside c.args.self.now c.args.call c.self.invariant c.self.view_is c.requires.open c.index_mut.result.now c.in-Some.spare c.args.output.now c.args.counts.now c.index_mut.ensures.value (sym c.take.ensures.value ∙ c.in-Some.is) c.requires.output c.requires.counts).counts_fit

pub invariant_of-self : goal.invariant_of-self
invariant_of-self c =
    let i = c.self.inside in
    let opened = open_inside i c.args.self.now c.args.call c.self.invariant c.self.view_is c.requires.open in
    let short = short_inside i c.args.self.now c.args.call c.self.invariant c.self.view_is c.requires.open c.args.output.now c.requires.output in
    let r = c.index_mut-known.result.now in
    let read = read_at (λ r. is_open r.state) i.records.items c.args.call r opened c.index_mut-known.ensures.value in
    let fits = leb-true (length c.args.output.now) r.room (sym (passes_so (λ x. nat_le (length c.args.output.now) x.room) i.records.items c.args.call r read.there) ∙ short) in
    let output : length c.filled.result ≤ r.room = rw c.filled.ensures fits in
    rw c.take.ensures.after (table_finished i.hosts i.functions.items i.records.items i.spares.items c.self.invariant c.args.call r c.in-Taken.host c.in-Taken.bench c.in-Taken.order c.args.outcome c.args.used c.filled.result c.filled-2.result read.there c.in-Taken.is output)

pub returns : goal.returns
returns c =
    let i = c.self.inside in
    let opened = open_inside i c.args.self.now c.args.call c.self.invariant c.self.view_is c.requires.open in
    let r = c.index_mut-known.result.now in
    let read = read_at (λ r. is_open r.state) i.records.items c.args.call r opened c.index_mut-known.ensures.value in
    let did = finish_did (table_in i) c.args.call r c.in-Taken.host c.in-Taken.bench c.in-Taken.order c.args.outcome c.args.used c.args.output.now c.args.counts.now read.there c.in-Taken.is opened in
    rw (← c.self.view_is, c.filled.ensures, c.filled-2.ensures) did
