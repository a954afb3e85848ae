-- A whole body: the rest is typed exactly where the step goes on and what follows is.
use Rattle.std.proofs.Common.{◌≡◌, ⊎_elim, Option, Some, None, List, [], ◌∷◌, ◌++◌, refl, sym, ap, ◌∙◌, subst, option_and_then}
use Rattle.faaslet_meaning.specs.declared.instr.ValType.{ValType}
use Rattle.faaslet_meaning.specs.declared.instr.Instr.{Instr}
use Rattle.faaslet_meaning.specs.declared.instr.Instr.TheVariants.{Unreachable, Nop, Block, Loop, If, Else, End, Br, BrIf, BrTable, Return, Call, Drop, Select, LocalGet, LocalSet, LocalTee, I32Const, I64Const, F32Const, F64Const, Num, GlobalGet, GlobalSet, Load, Store, MemorySize, MemoryGrow, CallIndirect}
use Rattle.faaslet_meaning.specs.Typing.{Context, Typed, IsTyped}
use Rattle.faaslet_meaning.specs.Tree.{written, types_of}
use Rattle.wasm_validate.specs.declared.kind.Kind.{Kind}
use Rattle.wasm_validate.specs.declared.kind.Kind.TheVariants.{Body, Again, Choice}
use Rattle.wasm_validate.specs.Frames.{Frame, opened}
use Rattle.wasm_validate.specs.Steps.{go_at, step_at, run_at}
use Rattle.wasm_validate.specs.Admits.{Both, inside, of_body, Closes, Fits, FitsSome}
use Rattle.faaslet_meaning.proofs.Written.{typed_plain}
use Rattle.wasm_validate.proofs.Plain.{plain_fits}
use Rattle.wasm_validate.proofs.Opening.{block_fits, loop_fits}
use Rattle.wasm_validate.proofs.Choosing.{if_fits}
use Rattle.wasm_validate.proofs.Closing.{else_fits, end_fits}

go_fits : (s : Context) (i : Instr) (f : Frame) (fs : List Frame) (is : List Instr) → Both (Fits s [] (f ∷ fs) (i ∷ is)) (FitsSome s (go_at s i (f ∷ fs)) is)
go_fits s (Block x) f fs is = block_fits s x f fs is
go_fits s (Loop x) f fs is = loop_fits s x f fs is
go_fits s (If x) f fs is = if_fits s x f fs is
go_fits s Else f fs is = else_fits s f fs is
go_fits s End f fs is = end_fits s f fs is
go_fits s Unreachable f fs is = plain_fits s Unreachable f fs is tt
go_fits s Nop f fs is = plain_fits s Nop f fs is tt
go_fits s (Br n) f fs is = plain_fits s (Br n) f fs is tt
go_fits s (BrIf n) f fs is = plain_fits s (BrIf n) f fs is tt
go_fits s (BrTable ns n) f fs is = plain_fits s (BrTable ns n) f fs is tt
go_fits s Return f fs is = plain_fits s Return f fs is tt
go_fits s (Call n) f fs is = plain_fits s (Call n) f fs is tt
go_fits s Drop f fs is = plain_fits s Drop f fs is tt
go_fits s Select f fs is = plain_fits s Select f fs is tt
go_fits s (LocalGet n) f fs is = plain_fits s (LocalGet n) f fs is tt
go_fits s (LocalSet n) f fs is = plain_fits s (LocalSet n) f fs is tt
go_fits s (LocalTee n) f fs is = plain_fits s (LocalTee n) f fs is tt
go_fits s (I32Const n) f fs is = plain_fits s (I32Const n) f fs is tt
go_fits s (I64Const n) f fs is = plain_fits s (I64Const n) f fs is tt
go_fits s (F32Const n) f fs is = plain_fits s (F32Const n) f fs is tt
go_fits s (F64Const n) f fs is = plain_fits s (F64Const n) f fs is tt
go_fits s (Num op) f fs is = plain_fits s (Num op) f fs is tt
go_fits s (GlobalGet k) f fs is = plain_fits s (GlobalGet k) f fs is tt
go_fits s (GlobalSet k) f fs is = plain_fits s (GlobalSet k) f fs is tt
go_fits s (Load o a n) f fs is = plain_fits s (Load o a n) f fs is tt
go_fits s (Store o a n) f fs is = plain_fits s (Store o a n) f fs is tt
go_fits s MemorySize f fs is = plain_fits s MemorySize f fs is tt
go_fits s MemoryGrow f fs is = plain_fits s MemoryGrow f fs is tt
go_fits s (CallIndirect k) f fs is = plain_fits s (CallIndirect k) f fs is tt

-- the two-sided law of one step
pub step_fits : (s : Context) (i : Instr) (fs : List Frame) (is : List Instr) → Both (Fits s [] fs (i ∷ is)) (FitsSome s (step_at s i fs) is)
step_fits s i [] is = (λ e. let f : ⊥ = cc in f, λ g. absurd g)
step_fits s i (f ∷ fs) is = go_fits s i f fs is

-- a block that is open is not closed by nothing
closed_empty : (k : Kind) (t : Option ValType) (c : Context) (rest : List Instr) → Closes k t c [] rest → ⊥
closed_empty Body t c rest h = let f : ⊥ = cc in f
closed_empty Again t c rest h = let f : ⊥ = cc in f
closed_empty Choice t c rest h = ⊎_elim (λ x. let e = x.1 in let f : ⊥ = cc in f) (λ x. let e = x.2 in let f : ⊥ = cc in f) h

no_tail : (xs tail : List Instr) → [] ≡ xs ++ tail → tail ≡ []
no_tail [] tail e = sym e
no_tail (x ∷ xs) tail e = cc

pub run_fits : (s : Context) (code : List Instr) (fs : List Frame) → Both (Fits s [] fs code) (run_at s code fs ≡ Some [])
run_fits s [] [] = (λ e. refl, λ e. refl)
run_fits s [] (f ∷ fs) = (
  λ r. absurd (closed_empty f.kind f.ends (inside s (f ∷ fs)) r.rest (subst (λ l. Closes f.kind f.ends (inside s (f ∷ fs)) l r.rest) (no_tail (written r.tree) r.tail r.code_is) r.closes)),
  λ e. let g : ⊥ = cc in absurd g,
)
run_fits s (i ∷ is) fs =
    let one = step_fits s i fs is in
    let rest = more (step_at s i fs) (λ gs. run_fits s is gs) in
    (λ r. rest.0 (one.0 r), λ e. one.1 (rest.1 e))
  where
    more : (o : Option (List Frame)) → ((gs : List Frame) → Both (Fits s [] gs is) (run_at s is gs ≡ Some [])) → Both (FitsSome s o is) (option_and_then (run_at s is) o ≡ Some [])
    more None h = (λ r. absurd r, λ e. let g : ⊥ = cc in g)
    more (Some gs) h = h gs

-- the walk over a whole body ends with nothing open exactly where the body is typed
pub body_fits : (s : Context) (t : Option ValType) (code : List Instr) → types_of t ≡ s.results → Both (IsTyped (of_body s) code) (run_at s code (opened Body t []) ≡ Some [])
body_fits s t code e =
    let r = run_fits s code (opened Body t []) in
    let same : inside s (opened Body t []) ≡ of_body s = ap (λ (l : List ValType). record s { labels = l ∷ [] }) e in (
      λ b. r.0 (record {
        tree = b.tree;
        tail = End ∷ [];
        rest = [];
        types = [];
        code_is = b.is_written.flat;
        admits = refl;
        typed = subst (λ (c : Context). Typed b.tree c (types_of t) []) (sym same) (subst (λ (l : List ValType). Typed b.tree (of_body s) l []) (sym e) b.typed);
        closes = refl;
        after = refl;
      }),
      λ h.
          let f = r.1 h in
          let typed : Typed f.tree (of_body s) s.results [] = subst (λ (l : List ValType). Typed f.tree (of_body s) l []) e (subst (λ (c : Context). Typed f.tree c (types_of t) []) same (subst (λ (l : List ValType). Typed f.tree (inside s (opened Body t [])) (types_of t) l) f.admits f.typed)) in
          record {
            tree = f.tree;
            is_written = record { plain = typed_plain f.tree (of_body s) s.results [] typed; flat = f.code_is ∙ ap (λ l. written f.tree ++ l) (f.closes ∙ ap (λ l. End ∷ l) f.after) };
            typed = typed;
          },
    )

pub typed_from : (s : Context) (t : Option ValType) (code : List Instr) (fs gs : List Frame) → types_of t ≡ s.results → fs ≡ opened Body t [] → run_at s code fs ≡ Some gs → gs ≡ [] → IsTyped (of_body s) code
typed_from s t code fs gs k e r n = (body_fits s t code k).1 (ap (run_at s code) (sym e) ∙ r ∙ ap (λ x. Some x) n)

pub untyped_run : (s : Context) (t : Option ValType) (code : List Instr) (fs : List Frame) → types_of t ≡ s.results → fs ≡ opened Body t [] → run_at s code fs ≡ None → IsTyped (of_body s) code → ⊥
untyped_run s t code fs k e r b = let h = (body_fits s t code k).0 b in let p : Some [] ≡ None = sym h ∙ ap (run_at s code) (sym e) ∙ r in let f : ⊥ = cc in f

pub untyped_open : (s : Context) (t : Option ValType) (code : List Instr) (fs gs : List Frame) → types_of t ≡ s.results → fs ≡ opened Body t [] → run_at s code fs ≡ Some gs → (gs ≡ [] → ⊥) → IsTyped (of_body s) code → ⊥
untyped_open s t code fs gs k e r n b = let h = (body_fits s t code k).0 b in let p : Some [] ≡ Some gs = sym h ∙ ap (run_at s code) (sym e) ∙ r in n (let q : gs ≡ [] = cc in q)

pub begun : (t : Option ValType) (old new : List Frame) → Some (opened Body t old) ≡ Some new → old ≡ [] → new ≡ opened Body t []
begun t old new e n = let p : new ≡ opened Body t old = cc in p ∙ ap (opened Body t) n
