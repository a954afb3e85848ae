use Rattle.std.proofs.Common.{◌≡◌, ◌∙◌, ◌++◌, List, Option, length, map, ap, arith}
use Rattle.std.specs.Prelude.{filter_map}
use Rattle.faaslet_meaning.specs.declared.module.Import.{Import}
use Rattle.faaslet_meaning.specs.declared.module.ImportKind.{ImportKind}
use Rattle.faaslet_meaning.specs.declared.module.GlobalDef.{GlobalDef}
use Rattle.faaslet_meaning.specs.IndexSpaces.{imported_function, imported_table, imported_memory, imported_global}
use Rattle.wasm_validate.proofs.spaces.index_spaces.Goals as goal

gathered : {A : Type 0} (kind : ImportKind → Option A) (xs : List A) (is js : List Import) → xs ≡ filter_map (λ i. kind i.kind) is → is ≡ js → xs ≡ filter_map (λ i. kind i.kind) js
gathered kind xs is js e f = e ∙ ap (filter_map (λ i. kind i.kind)) f

joined : {A : Type 0} (new old more front back : List A) → new ≡ old ++ more → old ≡ front → more ≡ back → new ≡ front ++ back
joined new old more front back e f b = e ∙ ap (λ l. l ++ more) f ∙ ap (λ l. front ++ l) b

pub returns : goal.returns
returns c =
    let imports = c.as_slice-imports.ensures in
    let functions = gathered imported_function c.in_ok-functions.functions.items _ c.args.module.now.imports c.in_ok-functions.ensures imports in
    let tables = gathered imported_table c.in_ok-tables.tables.items _ c.args.module.now.imports c.in_ok-tables.ensures imports in
    let memories = gathered imported_memory c.in_ok-memories.memories.items _ c.args.module.now.imports c.in_ok-memories.ensures imports in
    let globals = gathered imported_global c.in_ok-imported_globals.imported_globals.items _ c.args.module.now.imports c.in_ok-imported_globals.ensures imports in
    record {
      functions_are = joined c.extend_from_slice.new.self.items c.in_ok-functions.functions.items c.as_slice.result.now _ c.args.module.now.functions c.in_ok-extend_from_slice.ensures.items functions c.as_slice.ensures;
      tables_are = joined c.extend_from_slice-2.new.self.items c.in_ok-tables.tables.items c.as_slice-2.result.now _ c.args.module.now.tables c.in_ok-extend_from_slice-2.ensures.items tables c.as_slice-2.ensures;
      memories_are = joined c.extend_from_slice-3.new.self.items c.in_ok-memories.memories.items c.as_slice-3.result.now _ c.args.module.now.memories c.in_ok-extend_from_slice-3.ensures.items memories c.as_slice-3.ensures;
      globals_are = joined c.add_globals.new.globals.items c.in_ok-globals.globals.items _ _ _ c.in_ok-add_globals.ensures (c.in_ok-globals.ensures.items ∙ c.as_slice-4.ensures.value ∙ globals) (ap (map (λ (d : GlobalDef). d.kind)) c.as_slice-5.ensures);
      imported_functions_are = omega (arith, c.in_ok-functions.functions.ok.0, ap length functions, c.len-imported_functions.ensures);
      imported_globals_are = globals;
    }
