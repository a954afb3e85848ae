-- A function's type is that of its import, or of its own entry.
use Rattle.std.proofs.Common.{rules, ◌≡◌, ◌∙◌, ◌+◌, ◌-◌, ◌<◌, length, sym, ap, arith, Some, refl}
use Rattle.std.specs.Prelude.{slice_get, slice_index_or}
use Rattle.std.proofs.lemmas.Option.{slice_get_read, slice_get-get_or}
use Rattle.wasm_interp.proofs.OwnFunctions.{function_there, host_type, own_type}
use Rattle.wasm_interp.proofs.functions.type_index.Goals as goal

pub offset_bounds-own-f : goal.offset_bounds-own-f
offset_bounds-own-f c =
    let m = c.args.code.now in
    let there = function_there m c.requires.valid c.requires.imports c.args.f c.requires.there.0 c.requires.there.1 in
    let lt : c.args.f - length c.as_slice-imports.result.now < length c.as_slice-own.result.now = omega (arith, ap length c.as_slice-imports.ensures, ap length c.as_slice-own.ensures) in
    search rules

pub bounds-own-f : goal.bounds-own-f
bounds-own-f c =
    let m = c.args.code.now in
    let there = function_there m c.requires.valid c.requires.imports c.args.f c.requires.there.0 c.requires.there.1 in
    omega (arith, ap length c.as_slice-imports.ensures, ap length c.as_slice-own.ensures)

pub returns-in-Function-clause-is : goal.returns-in-Function-clause-is
returns-in-Function-clause-is c g e =
    let m = c.args.code.now in
    let i = c.index-imports-f.result in
    let at : slice_get m.imports c.args.f ≡ Some i = ap (λ l. slice_get l c.args.f) (sym c.as_slice-imports.ensures) ∙ slice_get_read c.as_slice-imports.result.now _ c.args.f i refl c.if-f-imports.true c.index-imports-f.is in
    (host_type m c.requires.valid c.requires.imports c.args.f i g c.in-Function.t at c.in-Function.is e).0

pub returns-in-Function-clause-within : goal.returns-in-Function-clause-within
returns-in-Function-clause-within c =
    let m = c.args.code.now in
    let i = c.index-imports-f.result in
    let at : slice_get m.imports c.args.f ≡ Some i = ap (λ l. slice_get l c.args.f) (sym c.as_slice-imports.ensures) ∙ slice_get_read c.as_slice-imports.result.now _ c.args.f i refl c.if-f-imports.true c.index-imports-f.is in
    (host_type m c.requires.valid c.requires.imports c.args.f i c.requires.there.0 c.in-Function.t at c.in-Function.is c.requires.there.1).1

pub returns-else-f-imports-clause-is : goal.returns-else-f-imports-clause-is
returns-else-f-imports-clause-is c g e =
    let m = c.args.code.now in
    let place = c.args.f - length c.as_slice-imports.result.now in
    let there = function_there m c.requires.valid c.requires.imports c.args.f g e in
    let lt : place < length c.as_slice-own.result.now = omega (arith, ap length c.as_slice-imports.ensures, ap length c.as_slice-own.ensures) in
    let is : c.args.f ≡ length m.imports + place = omega (arith, ap length c.as_slice-imports.ensures) in
    let at : slice_get m.functions place ≡ Some (slice_index_or c.as_slice-own.result.now place 0) = ap (λ l. slice_get l place) (sym c.as_slice-own.ensures) ∙ slice_get-get_or c.as_slice-own.result.now place 0 lt in
    (own_type m c.requires.valid c.requires.imports c.args.f place g _ is at e).0

pub returns-else-f-imports-clause-within : goal.returns-else-f-imports-clause-within
returns-else-f-imports-clause-within c =
    let m = c.args.code.now in
    let g = c.requires.there.0 in
    let e = c.requires.there.1 in
    let place = c.args.f - length c.as_slice-imports.result.now in
    let there = function_there m c.requires.valid c.requires.imports c.args.f g e in
    let lt : place < length c.as_slice-own.result.now = omega (arith, ap length c.as_slice-imports.ensures, ap length c.as_slice-own.ensures) in
    let is : c.args.f ≡ length m.imports + place = omega (arith, ap length c.as_slice-imports.ensures) in
    let at : slice_get m.functions place ≡ Some (slice_index_or c.as_slice-own.result.now place 0) = ap (λ l. slice_get l place) (sym c.as_slice-own.ensures) ∙ slice_get-get_or c.as_slice-own.result.now place 0 lt in
    (own_type m c.requires.valid c.requires.imports c.args.f place g _ is at e).1
