-- What a call goes on with is the function of the definition.
use Rattle.std.proofs.Common.{rules, ◌≡◌, ◌∙◌, ◌+◌, ◌-◌, ◌<◌, length, sym, ap, arith, Some, refl, subst}
use Rattle.std.specs.Prelude.{slice_get}
use Rattle.std.proofs.lemmas.Option.{slice_get_read}
use Rattle.faaslet_meaning.specs.declared.module.Module.{Module}
use Rattle.faaslet_meaning.specs.Program.{functions_of, host_number}
use Rattle.wasm_validate.specs.Jumps.{JumpsFit}
use Rattle.faaslet_meaning.specs.Valid.{Valid}
use Rattle.wasm_interp.proofs.OwnFunctions.{own_within, finds_host, finds_own}
use Rattle.wasm_interp.proofs.functions.find_function.Goals as goal

pub returns-then-f-imports : goal.returns-then-f-imports
returns-then-f-imports c g e =
    let m = c.args.code.now in
    let f = c.args.f in
    let same = c.module-module.ensures.same in
    let v = subst Valid same c.module-module.ensures.valid in
    let i = c.index-imports-f.result in
    let at : slice_get m.imports f ≡ Some i =
    ap (λ (n : Module). slice_get n.imports f) (sym same) ∙ ap (λ l. slice_get l f) (sym c.as_slice-imports.ensures) ∙ slice_get_read c.as_slice-imports.result.now _ f i refl c.if-f-imports.true c.index-imports-f.is in
    let found = ap (λ (n : Module). slice_get (functions_of n) f) same ∙ e in
    finds_host m v c.requires.imports f i g c.host_number.result _ c.function_type-t.result.now at e (c.host_number.ensures ∙ ap host_number c.as_slice.ensures) (c.function_type-t.ensures.is g found) (ap length c.as_slice-params.ensures)

pub bounds-as_slice-place : goal.bounds-as_slice-place
bounds-as_slice-place c =
    let m = c.args.code.now in
    let same = c.module-module.ensures.same in
    let v = subst Valid same c.module-module.ensures.valid in
    let imports : length c.as_slice-imports.result.now ≡ length m.imports = ap length c.as_slice-imports.ensures ∙ ap (λ (n : Module). length n.imports) same in
    let bodies : length c.as_slice-2.result.now ≡ length m.bodies = ap length c.as_slice-2.ensures ∙ ap (λ (n : Module). length n.bodies) same in
    omega (arith, (own_within m v c.requires.imports c.args.f c.requires.there.0 (omega (arith, imports)) c.requires.there.1).1)

pub offset_bounds-as_slice-place : goal.offset_bounds-as_slice-place
offset_bounds-as_slice-place c =
    let m = c.args.code.now in
    let same = c.module-module.ensures.same in
    let v = subst Valid same c.module-module.ensures.valid in
    let imports : length c.as_slice-imports.result.now ≡ length m.imports = ap length c.as_slice-imports.ensures ∙ ap (λ (n : Module). length n.imports) same in
    let bodies : length c.as_slice-2.result.now ≡ length m.bodies = ap length c.as_slice-2.ensures ∙ ap (λ (n : Module). length n.bodies) same in
    let lt : c.args.f - length c.as_slice-imports.result.now < length c.as_slice-2.result.now = omega (arith, (own_within m v c.requires.imports c.args.f c.requires.there.0 (omega (arith, imports)) c.requires.there.1).1) in
    search rules

pub jumps-requires : goal.jumps-requires
jumps-requires c =
    let m = c.args.code.now in
    let same = c.module-module.ensures.same in
    let v = subst Valid same c.module-module.ensures.valid in
    let imports : length c.as_slice-imports.result.now ≡ length m.imports = ap length c.as_slice-imports.ensures ∙ ap (λ (n : Module). length n.imports) same in
    omega (arith, (own_within m v c.requires.imports c.args.f c.requires.there.0 (omega (arith, imports)) c.requires.there.1).1)

pub local_count-requires : goal.local_count-requires
local_count-requires c =
    let m = c.args.code.now in
    let same = c.module-module.ensures.same in
    let v = subst Valid same c.module-module.ensures.valid in
    let imports : length c.as_slice-imports.result.now ≡ length m.imports = ap length c.as_slice-imports.ensures ∙ ap (λ (n : Module). length n.imports) same in
    omega (arith, (own_within m v c.requires.imports c.args.f c.requires.there.0 (omega (arith, imports)) c.requires.there.1).1)

pub returns : goal.returns
returns c g e =
    let m = c.args.code.now in
    let f = c.args.f in
    let same = c.module-module.ensures.same in
    let v = subst Valid same c.module-module.ensures.valid in
    let place = f - length c.as_slice-imports.result.now in
    let imports : length c.as_slice-imports.result.now ≡ length m.imports = ap length c.as_slice-imports.ensures ∙ ap (λ (n : Module). length n.imports) same in
    let bodies : length c.as_slice-2.result.now ≡ length m.bodies = ap length c.as_slice-2.ensures ∙ ap (λ (n : Module). length n.bodies) same in
    let lt : place < length c.as_slice-2.result.now = omega (arith, (own_within m v c.requires.imports f g (omega (arith, imports)) e).1) in
    let b = c.index-as_slice-place.result in
    let at : slice_get m.bodies place ≡ Some b =
    ap (λ (n : Module). slice_get n.bodies place) (sym same) ∙ ap (λ l. slice_get l place) (sym c.as_slice-2.ensures) ∙ slice_get_read c.as_slice-2.result.now _ place b refl lt c.index-as_slice-place.is in
    let found = ap (λ (n : Module). slice_get (functions_of n) f) same ∙ e in
    let p : f ≡ length m.imports + place = omega (arith, imports) in
    finds_own m v c.requires.imports f place g _ b c.function_type-t.result.now p e at (c.function_type-t.ensures.is g found) c.function_type-t.ensures.few
    c.as_slice-3.ensures (subst (λ l. JumpsFit b.code l) (sym c.as_slice-4.ensures) (c.jumps.ensures b at)) (ap length c.as_slice-params.ensures)
    (c.local_count.ensures b at) (ap length c.as_slice-5.ensures)
