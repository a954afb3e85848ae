use Rattle.std.proofs.Common.{rules, ◌∙◌, ◌-◌, length, leb, sym, ap, subst, arith, slice_get}
use Rattle.std.proofs.lemmas.List.Sorted.{IsPartitionPoint-from_clause, IsPartitionedBy-leb}
use Rattle.std.specs.List.Sorted.{IsNonDecreasingBy}
use Rattle.wasm_validate.proofs.Groups.{ends_rise, local_found}
use Rattle.wasm_validate.proofs.locals.Locals.get.Goals as goal

pub returns : goal.returns
returns c =
    let params = c.self.inside.params.now in
    let groups = c.self.inside.groups.now in
    let ends = c.self.inside.ends.items in
    let behind = c.args.k - length params in
    let rise = subst (λ l. IsNonDecreasingBy (λ x. x) l) (sym (c.as_slice.ensures.value ∙ c.self.invariant)) (ends_rise 0 groups) in
    let point = IsPartitionPoint-from_clause (λ y. leb y behind) _ _ c.partition_point-place.ensures.partitioned (IsPartitionedBy-leb (λ x. x) _ behind rise) (λ a r q k. search rules) in
    let found = local_found params groups c.as_slice.result.now c.args.k c.partition_point-place.result (c.as_slice.ensures.value ∙ c.self.invariant) (omega arith) c.partition_point-place.ensures.bound point in
    c.kind_of.ensures ∙ sym found ∙ ap (λ l. slice_get l c.args.k) c.self.view_is
