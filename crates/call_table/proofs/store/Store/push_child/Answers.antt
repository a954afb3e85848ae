-- The parent's record stands where it stood, and has one child more.
use Rattle.std.proofs.Common.{◌≡◌, ◌+◌, ◌<◌, ◌++◌, ◌∷◌, [], Some, length, get_or, slice_set, refl, ap, subst, ◌∙◌, arith}
use Rattle.std.proofs.lemmas.List.{length_push}
use Rattle.std.proofs.lemmas.Option.{slice_get_read, slice_get_within}
use Rattle.faaslet_meaning.specs.declared.call.CallRecord.{CallRecord}
use Rattle.faaslet_meaning.specs.Lists.{changed}
use Rattle.faaslet_meaning.specs.Table.{Table, one_more_child}
use Rattle.call_table.proofs.Child.{child_made}
use Rattle.call_table.proofs.Held.{table_child}
use Rattle.call_table.proofs.store.Store.push_child.Goals as goal

pub push-requires-clause-held : goal.push-requires-clause-held
push-requires-clause-held c =
    let h = c.in_ok-queued.ensures.held in
    record { small = record { input = h.small.input; room = h.small.room }; host = h.host; output = h.output; function = h.function; children = h.children; depth = omega arith }

pub index_mut-requires : goal.index_mut-requires
index_mut-requires c =
    let old = c.args.self.now.records in
    let p = c.args.p in
    let made : CallRecord = record c.in_ok-queued.queued { request = p.request; parent = Some p.call; child = p.child; depth = p.depth + 1 } in
    let now : c.self.inside.records.items ≡ old ++ made ∷ [] = ap (λ (t : Table). t.records) (c.self.view_is ∙ c.in_ok-push.ensures.ok) in
    let of = c.requires.parent in
    let within = slice_get_within old p.call of.of of.there in
    let len = ap length now ∙ length_push old made in
    omega (arith, c.self.inside.records.ok.0)

pub invariant_of-self : goal.invariant_of-self
invariant_of-self c =
    let old = c.args.self.now.records in
    let p = c.args.p in
    let made : CallRecord = record c.in_ok-queued.queued { request = p.request; parent = Some p.call; child = p.child; depth = p.depth + 1 } in
    let now : c.self.inside.records.items ≡ old ++ made ∷ [] = ap (λ (t : Table). t.records) (c.self.view_is ∙ c.in_ok-push.ensures.ok) in
    let of = c.requires.parent in
    let within = slice_get_within old p.call of.of of.there in
    let len = ap length now ∙ length_push old made in
    let inside = c.self.inside in
    let rs = inside.records.items in
    let low : p.call < length rs = omega arith in
    let fits = of.child_fits in
    let there = slice_get_read rs (length rs) p.call c.index_mut.result.now refl low c.index_mut.ensures.value in
    table_child inside.hosts inside.functions.items rs inside.spares.items c.self.invariant p.call c.index_mut.result.now (p.child + 1) there (omega arith)

pub returns-clause-ok : goal.returns-clause-ok
returns-clause-ok c =
    let old = c.args.self.now.records in
    let p = c.args.p in
    let made : CallRecord = record c.in_ok-queued.queued { request = p.request; parent = Some p.call; child = p.child; depth = p.depth + 1 } in
    let now : c.self.inside.records.items ≡ old ++ made ∷ [] = ap (λ (t : Table). t.records) (c.self.view_is ∙ c.in_ok-push.ensures.ok) in
    let of = c.requires.parent in
    let r = c.index_mut.result.now in
    let new : CallRecord = record r { children = p.child + 1 } in
    let before = c.args.self.now in
    let is = subst (λ xs. r ≡ get_or xs p.call r) now c.index_mut.ensures.value in
    ap (λ (t : Table). record t { records = slice_set t.records p.call new }) (c.self.view_is ∙ c.in_ok-push.ensures.ok)
    ∙ ap (λ xs. record before { records = xs }) (child_made old p.call of.of made r of.there is p.child of.child_so)
    ∙ ap (λ (q : CallRecord). record before { records = changed old p.call one_more_child ++ record q { request = p.request; parent = Some p.call; child = p.child; depth = p.depth + 1 } ∷ [] }) c.in_ok-queued.ensures.queued
