use Rattle.std.proofs.Common.{◌≡◌, ◌∙◌, ◌++◌, length, take, drop, ap, refl, arith}
use Rattle.wasm_interp.specs.Lending.{laid}
use Rattle.faaslet_run.proofs.buffer.Buffer.as_mut_slice.Goals as goal

pub returns : goal.returns
returns c =
    let v = c.self.inside.bytes in
    let many : v.len ≡ length v.items = omega (arith, v.ok.0) in (
      (refl, λ w. ap (λ n. take n (w ++ drop (length w) v.items)) many ∙ ap (λ l. laid l w) c.self.view_is),
      record { writes_back = tt; bytes = c.as_mut_slice.ensures.value ∙ c.self.view_is; long = ap length c.as_mut_slice.ensures.value ∙ c.self.invariant },
    )
