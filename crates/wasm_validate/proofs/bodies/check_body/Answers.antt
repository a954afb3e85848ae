use Rattle.std.proofs.Common.{◌<◌, ◌∙◌, ◌++◌, length, sym, ap, subst}
use Rattle.wasm_validate.specs.Groups.{in_groups}
use Rattle.wasm_validate.proofs.Contexts.{type_found, type_exists, typed_there}
use Rattle.wasm_validate.proofs.bodies.check_body.Goals as goal

pub returns-clause-untyped : goal.returns-clause-untyped
returns-clause-untyped c =
    let m = c.args.module.now in
    let s = c.args.spaces.now in
    let t = c.index-types-functions.result in
    let types = c.as_slice-types.ensures in
    let numbers = c.as_slice-functions.ensures.value in
    let within = subst (λ l. c.args.k < length l) (sym numbers) c.requires.is_function in
    let low = type_exists m s c.requires.spaces_are c.requires.rules _ _ c.args.k types numbers within in
    let is_type = type_found m s c.requires.spaces_are _ _ c.args.k t types numbers within c.index-types-functions.is low in
    let locals =
    c.in_ok-locals.ensures
    ∙ ap (λ l. l ++ in_groups c.as_slice-2.result.now) c.as_slice.ensures
    ∙ ap (λ l. t.params ++ in_groups l) c.as_slice-2.ensures in
    λ is h. c.validate_body.ensures.untyped is (typed_there m t c.args.body.now c.scope_of-scope.result _ _ c.scope_of-scope.ensures locals c.as_slice-3.ensures (h t is_type))
