use Rattle.std.proofs.Common.{◌≡◌, All, List, Some, take, refl, ◌∙◌, subst}
use Rattle.std.specs.Prelude.{slice_get}
use Rattle.std.proofs.lemmas.List.{take_all}
use Rattle.std.proofs.lemmas.List.Elements.{All-more}
use Rattle.std.proofs.lemmas.Option.{slice_get_read}
use Rattle.faaslet_meaning.specs.declared.module.Import.{Import}
use Rattle.faaslet_meaning.specs.Runnable.{IsHostCall}
use Rattle.function_rules.proofs.imports.first_bad_import.Goals as goal

pub returns-then-not-is_host_call : goal.returns-then-not-is_host_call
returns-then-not-is_host_call c =
    let m = c.args.module.now in
    let is = c.as_slice-import-items.ensures in
    record {
      one = c.import-item.result;
      found = subst (λ (l : List Import). slice_get l c.loop-k.k ≡ Some c.import-item.result) is (slice_get_read _ _ c.loop-k.k _ refl c.loop-k-test.true c.import-item.is);
      bad = λ h. let never : ⊥ = cc (c.is_host_call.ensures.1 h, c.if-not-is_host_call.true) in never;
      first = subst (λ (l : List Import). All (IsHostCall m) (take c.loop-k.k l)) is c.loop-k.invariant;
    }

pub loop-k-preserved : goal.loop-k-preserved
loop-k-preserved c =
    let P : Import → Type 0 = IsHostCall c.args.module.now in
    All-more P _ c.loop-k.k c.import-item.result c.loop-k-test.true c.loop-k.invariant (subst P c.import-item.is (c.is_host_call.ensures.0 c.if-not-is_host_call.false))

pub returns : goal.returns
returns c =
    let m = c.args.module.now in
    let items = c.as_slice-import-items.result.now in
    subst (λ (l : List Import). All (IsHostCall m) l) (take_all c.loop-k.k items c.loop-k-test.false ∙ c.as_slice-import-items.ensures) c.loop-k.invariant
