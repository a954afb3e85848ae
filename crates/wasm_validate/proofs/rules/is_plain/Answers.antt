use Rattle.std.proofs.Common.{◌≡◌, eqb, true, List, [], length, sym, ap, ◌∙◌}
use Rattle.std.proofs.lemmas.Bool.{eqb-true}
use Rattle.std.proofs.lemmas.List.{nil_from_length}
use Rattle.faaslet_meaning.specs.declared.instr.ValType.{ValType}
use Rattle.faaslet_meaning.specs.declared.module.FuncType.{FuncType}
use Rattle.wasm_validate.proofs.rules.is_plain.Goals as goal

none : (xs ys : List ValType) (b : _) → xs ≡ ys → b ≡ eqb (length xs) 0 → b ≡ true → ys ≡ []
none xs ys b e f t = sym e ∙ nil_from_length xs (eqb-true (length xs) 0 (sym f ∙ t))

plain : (t : FuncType) → t.params ≡ [] → t.results ≡ [] → t ≡ record { params = []; results = [] }
plain t p r = ap (λ (l : List ValType). record { params = l; results = t.results }) p ∙ ap (λ (l : List ValType). record { params = []; results = l }) r

tested : (xs ys : List ValType) (b : _) → xs ≡ ys → b ≡ eqb (length xs) 0 → ys ≡ [] → b ≡ true
tested xs ys b e f n = f ∙ ap (λ (l : List ValType). eqb (length l) 0) (e ∙ n)

pub returns-then-is_empty : goal.returns-then-is_empty
returns-then-is_empty c =
    let no_params = none _ c.args.t.now.params _ c.as_slice.ensures c.is_empty.ensures c.if-is_empty.true in (
      λ e. plain c.args.t.now no_params (none _ c.args.t.now.results _ c.as_slice-then-is_empty.ensures c.is_empty-then-is_empty.ensures e),
      λ e. tested _ c.args.t.now.results _ c.as_slice-then-is_empty.ensures c.is_empty-then-is_empty.ensures (ap (λ (t : FuncType). t.results) e),
    )

pub returns-else-is_empty : goal.returns-else-is_empty
returns-else-is_empty c = (
  λ e. absurd (cc (e, c.if-is_empty.false)),
  λ e. tested _ c.args.t.now.params _ c.as_slice.ensures c.is_empty.ensures (ap (λ (t : FuncType). t.params) e),
)
