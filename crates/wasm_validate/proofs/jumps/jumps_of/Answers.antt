use Rattle.std.proofs.Common.{◌≡◌, ◌∙◌, arith, length, ◌-◌, ◌+◌, ◌<◌, drop, subst, length-set, refl}
use Rattle.std.proofs.lemmas.Option.{slice_get_read}
use Rattle.faaslet_meaning.specs.Parse.{parts}
use Rattle.wasm_validate.specs.Jumps.{OpensStand}
use Rattle.wasm_validate.proofs.JumpTables.{drop_one, more_fit}
use Rattle.wasm_validate.proofs.jumps.jumps_of.Goals as goal

pub places-preserved : goal.places-preserved
places-preserved c =
    let i = c.places.place - 1 in
    let code = c.args.code.now in
    let v = c.places.invariant in
    let next : c.places.place ≡ i + 1 = omega arith in
    let within : i < length code = omega (arith, v.within) in
    let opens = subst (λ n. OpensStand code c.places.opens (parts (drop n code))) next v.opens in
    let at = drop_one code i _ (slice_get_read code (length code) i _ refl within c.index-code-place.is) in
    record {
      long = length-set c.places.jumps.items i c.jump_of.result ∙ v.long;
      within = omega arith;
      opens = c.in_ok-pass.ensures code at opens;
      fit = more_fit code c.places.place i c.places.jumps.items c.jump_of.result next (omega (arith, v.long)) v.fit (c.jump_of.ensures code i opens);
    }
