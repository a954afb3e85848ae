-- A numeric instruction answers its row, by the class of its code.
use Rattle.std.proofs.Common.{◌∙◌, ◌≤◌, ap, subst, arith, inl, inr, Some, length}
use Rattle.faaslet_meaning.specs.Integers.{Numeric}
use Rattle.wasm_interp.proofs.Numerics.{operands, operated}
use Rattle.wasm_interp.proofs.OpcodeClasses.{is_compare, is_unary, is_binary, is_convert}
use Rattle.wasm_interp.proofs.thread.Thread.numeric.Goals as goal

pub compare-requires-clause-class : goal.compare-requires-clause-class
compare-requires-clause-class c =
    let o = operated c.args.self.now c.args.op c.requires in
    let k = is_compare c.args.op o.numeric o.is c.if-op-lt103.true c.if-op-eq69.false c.if-op-eq80.false in
    (k.0, k.1, o.is ∙ ap Some k.2)

pub compare-requires-clause-values : goal.compare-requires-clause-values
compare-requires-clause-values c =
    let o = operated c.args.self.now c.args.op c.requires in
    let k = is_compare c.args.op o.numeric o.is c.if-op-lt103.true c.if-op-eq69.false c.if-op-eq80.false in
    subst (λ (n : Numeric). operands n ≤ length c.args.self.now.values) k.2 o.there

pub unary-requires-clause-class : goal.unary-requires-clause-class
unary-requires-clause-class c =
    let o = operated c.args.self.now c.args.op c.requires in
    let k = is_unary c.args.op o.numeric o.is c.if-op-lt103.false (inl c.if-op-lt106.true) in
    (k.0, k.1, o.is ∙ ap Some k.2)

pub binary-requires-clause-class : goal.binary-requires-clause-class
binary-requires-clause-class c =
    let o = operated c.args.self.now c.args.op c.requires in
    let k = is_binary c.args.op o.numeric o.is c.if-op-lt106.false (omega (arith, c.if-op-lt121.true)) (inl c.if-op-lt121.true) in
    (k.0, k.1, o.is ∙ ap Some k.2)

pub binary-requires-clause-values : goal.binary-requires-clause-values
binary-requires-clause-values c =
    let o = operated c.args.self.now c.args.op c.requires in
    let k = is_binary c.args.op o.numeric o.is c.if-op-lt106.false (omega (arith, c.if-op-lt121.true)) (inl c.if-op-lt121.true) in
    subst (λ (n : Numeric). operands n ≤ length c.args.self.now.values) k.2 o.there

pub unary-requires-then-op-lt124-clause-class : goal.unary-requires-then-op-lt124-clause-class
unary-requires-then-op-lt124-clause-class c =
    let o = operated c.args.self.now c.args.op c.requires in
    let k = is_unary c.args.op o.numeric o.is c.if-op-lt103.false (inr (c.if-op-lt121.false, c.if-op-lt124.true)) in
    (k.0, k.1, o.is ∙ ap Some k.2)

pub binary-requires-then-op-lt167-clause-class : goal.binary-requires-then-op-lt167-clause-class
binary-requires-then-op-lt167-clause-class c =
    let o = operated c.args.self.now c.args.op c.requires in
    let k = is_binary c.args.op o.numeric o.is c.if-op-lt106.false c.if-op-lt167.true (inr c.if-op-lt124.false) in
    (k.0, k.1, o.is ∙ ap Some k.2)

pub binary-requires-then-op-lt167-clause-values : goal.binary-requires-then-op-lt167-clause-values
binary-requires-then-op-lt167-clause-values c =
    let o = operated c.args.self.now c.args.op c.requires in
    let k = is_binary c.args.op o.numeric o.is c.if-op-lt106.false c.if-op-lt167.true (inr c.if-op-lt124.false) in
    subst (λ (n : Numeric). operands n ≤ length c.args.self.now.values) k.2 o.there

pub convert-requires-clause-class : goal.convert-requires-clause-class
convert-requires-clause-class c =
    let o = operated c.args.self.now c.args.op c.requires in
    let k = is_convert c.args.op o.numeric o.is c.if-op-lt167.false in
    (k.0, o.is ∙ ap Some k.1)
