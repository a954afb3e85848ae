use Rattle.std.proofs.Common.{◌≢◌, ◌<◌, List, map, AllPairs, subst}
use Rattle.faaslet_meaning.specs.declared.module.Export.{Export}
use Rattle.faaslet_meaning.specs.Valid.{count_of}
use Rattle.wasm_validate.specs.Rules.{count_in}
use Rattle.wasm_validate.proofs.Kept.{all_of, start_is, export_is}
use Rattle.wasm_validate.proofs.module_rules.check_parts.Goals as goal

pub returns-clause-kept : goal.returns-clause-kept
returns-clause-kept c =
    let m = c.args.module.now in
    let s = c.args.spaces.now in
    record {
      globals_constant = c.globals_hold.ensures.0 c.in_ok-must.ensures.kept;
      elements_ok = c.elements_hold.ensures.0 c.in_ok-must-2.ensures.kept;
      segments_ok = c.segments_hold.ensures.0 c.in_ok-must-3.ensures.kept;
      start_ok = start_is m s c.requires _ _ c.as_slice-types.ensures c.as_slice-functions.ensures.value m.start (c.may_start.ensures.0 c.in_ok-must-4.ensures.kept);
      exports_exist = all_of (λ (e : Export). e.index < count_in s e.kind) (λ (e : Export). e.index < count_of m e.kind) _ _ c.as_slice-exports.ensures (export_is m s c.requires) (c.exist.ensures.0 c.in_ok-must-5.ensures.kept);
      exports_differ = subst (λ (l : List Export). AllPairs (λ a b. a ≢ b) (map (λ (e : Export). e.name) l)) c.as_slice-exports.ensures (c.in_ok-differ.ensures.0 c.in_ok-must-6.ensures.kept);
    }
