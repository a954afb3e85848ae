use Rattle.std.proofs.Common.{◌≡◌, ◌∙◌, ◌+◌, arith, ap, length, subst, [], ◌∷◌}
use Rattle.std.proofs.lemmas.List.{length-append}
use Rattle.wasm_validate.specs.Jumps.{JumpsFit}
use Rattle.wasm_validate.proofs.JumpTables.{more_tables}
use Rattle.wasm_validate.proofs.jumps.tables_of.Goals as goal

pub loop-body-preserved : goal.loop-body-preserved
loop-body-preserved c =
    let v = c.loop-body.invariant in
    let code : c.as_slice.result.now ≡ c.body-item.result.code = c.as_slice.ensures in
    record {
      long = ap length c.in_ok-push.ensures.items ∙ length-append c.loop-body.tables.items (c.in_ok-jumps_of.field-0 ∷ []) ∙ ap (λ n. n + 1) v.long;
      fit = more_tables c.args.bodies.now c.loop-body.tables.items c.push.new.self.items c.loop-body.body-index c.body-item.result c.in_ok-jumps_of.field-0 c.in_ok-push.ensures.items v.long (omega arith) c.body-item.is (subst (λ l. JumpsFit l c.in_ok-jumps_of.field-0) code c.in_ok-jumps_of.ensures) v.fit;
    }
