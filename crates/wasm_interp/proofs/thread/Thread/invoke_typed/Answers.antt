-- A call through the table goes on where the types are the same.
use Rattle.std.proofs.Common.{◌≡◌, ◌∙◌, List, ap, sym, subst}
use Rattle.std.specs.Prelude.{slice_get}
use Rattle.std.proofs.lemmas.Option.{get_or_from_slice_get}
use Rattle.faaslet_meaning.specs.declared.module.Module.{Module}
use Rattle.faaslet_meaning.specs.declared.module.FuncType.{FuncType}
use Rattle.faaslet_meaning.specs.Configuration.{Next}
use Rattle.faaslet_meaning.specs.Program.{functions_of}
use Rattle.wasm_interp.specs.StandsFor.{StageStands}
use Rattle.wasm_interp.specs.declared.machine.Stage.TheVariants as stage
use Rattle.faaslet_meaning.specs.declared.outcome.Outcome.TheVariants.{Trap}
use Rattle.faaslet_meaning.specs.declared.outcome.Trap.TheVariants as trap
use Rattle.wasm_interp.proofs.Calling.{element_of, type_is_same, type_differs}
use Rattle.wasm_interp.proofs.thread.Thread.invoke_typed.Goals as goal

pub function_type-requires-clause-there : goal.function_type-requires-clause-there
function_type-requires-clause-there c =
    let (grants, type, at, (memory, d, s, ok)) = c.requires.ready in
    let e = element_of c.args.code.now grants d type c.args.f ok in
    (e.function, ap (λ (m : Module). slice_get (functions_of m) c.args.f) c.module-module.ensures.same ∙ e.at)

pub invoke-requires-clause-ready : goal.invoke-requires-clause-ready
invoke-requires-clause-ready c =
    let (grants, type, at, (memory, d, s, ok)) = c.requires.ready in
    let e = element_of c.args.code.now grants d type c.args.f ok in
    let found = ap (λ (m : Module). slice_get (functions_of m) c.args.f) c.module-module.ensures.same ∙ e.at in
    let wanted = ap (λ (l : List FuncType). slice_get l c.args.t) c.as_slice-types.ensures ∙ ap (λ (m : Module). slice_get m.types c.args.t) c.module-module.ensures.same ∙ at in
    let v : c.index-types-t.result ≡ type = c.index-types-t.is ∙ get_or_from_slice_get c.as_slice-types.result.now c.args.t type c.index-types-t.result wanted in
    let same = type_is_same d type c.function_type.result.now c.index-types-t.result e.function c.have_same_type.result c.have_same_type.ensures (c.function_type.ensures.is e.function found) v c.if-have_same_type.true in
    (grants, (memory, d, s, λ h. ok (e.typed ∙ same ∙ sym e.called ∙ h)))

pub returns-then-have_same_type-clause-done : goal.returns-then-have_same_type-clause-done
returns-then-have_same_type-clause-done c grants memory d type s at ok =
    let e = element_of c.args.code.now grants d type c.args.f ok in
    let found = ap (λ (m : Module). slice_get (functions_of m) c.args.f) c.module-module.ensures.same ∙ e.at in
    let wanted = ap (λ (l : List FuncType). slice_get l c.args.t) c.as_slice-types.ensures ∙ ap (λ (m : Module). slice_get m.types c.args.t) c.module-module.ensures.same ∙ at in
    let v : c.index-types-t.result ≡ type = c.index-types-t.is ∙ get_or_from_slice_get c.as_slice-types.result.now c.args.t type c.index-types-t.result wanted in
    let same = type_is_same d type c.function_type.result.now c.index-types-t.result e.function c.have_same_type.result c.have_same_type.ensures (c.function_type.ensures.is e.function found) v c.if-have_same_type.true in
    let way = e.typed ∙ same ∙ sym e.called in
    subst (λ (n : Next). StageStands memory c.invoke.new.self c.invoke.result n) (sym way) (c.invoke.ensures.done grants memory d s (λ h. ok (way ∙ h)))

pub returns-else-have_same_type-clause-done : goal.returns-else-have_same_type-clause-done
returns-else-have_same_type-clause-done c grants memory d type s at ok =
    let e = element_of c.args.code.now grants d type c.args.f ok in
    let found = ap (λ (m : Module). slice_get (functions_of m) c.args.f) c.module-module.ensures.same ∙ e.at in
    let wanted = ap (λ (l : List FuncType). slice_get l c.args.t) c.as_slice-types.ensures ∙ ap (λ (m : Module). slice_get m.types c.args.t) c.module-module.ensures.same ∙ at in
    let v : c.index-types-t.result ≡ type = c.index-types-t.is ∙ get_or_from_slice_get c.as_slice-types.result.now c.args.t type c.index-types-t.result wanted in
    subst (λ (n : Next). StageStands memory c.args.self.now (stage.Over (Trap trap.TypeMismatch)) n) (sym e.typed)
    (type_differs memory c.args.self.now d type c.function_type.result.now c.index-types-t.result e.function c.have_same_type.result c.have_same_type.ensures (c.function_type.ensures.is e.function found) v c.if-have_same_type.false s)
