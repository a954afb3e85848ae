-- A block is closed: the rest is typed exactly where the step goes on and what follows is.
use Rattle.std.proofs.Common.{◌≡◌, Bool, true, false, inl, inr, ⊎_elim, Option, Some, None, List, [], ◌∷◌, ◌++◌, refl, sym, ap, ◌∙◌, subst, option_and_then}
use Rattle.std.proofs.lemmas.List.{append-nil}
use Rattle.faaslet_meaning.specs.declared.instr.ValType.{ValType}
use Rattle.faaslet_meaning.specs.declared.instr.Instr.{Instr}
use Rattle.faaslet_meaning.specs.declared.instr.Instr.TheVariants.{Block, Loop, If, Else, End}
use Rattle.faaslet_meaning.specs.Typing.{Context, HasType, Typed, with_label}
use Rattle.faaslet_meaning.specs.Tree.{Tree, stop, plain, block, loop, if_then, if_else, written, types_of}
use Rattle.wasm_validate.specs.declared.kind.Kind.{Kind}
use Rattle.wasm_validate.specs.declared.kind.Kind.TheVariants.{Body, Again, Choice}
use Rattle.wasm_validate.specs.Frames.{Frame, closed, close, push_type, label_type}
use Rattle.wasm_validate.specs.Steps.{go_at, other, other_side, end, ended}
use Rattle.wasm_validate.specs.Admits.{Admits, AdmitsSome, Both, inside, Rest, Fits, FitsSome}
use Rattle.wasm_validate.proofs.Taking.{pops_os, lift, pops_lift, pops_admits}

-- what a block that may be closed gives
pub data Closed (f : Frame) (fs : List Frame) : Type 0 where
  may : close (f ∷ fs) ≡ Some ((f.kind, f.ends), fs) → Admits f.operands f.unreachable (types_of f.ends) → Closed f fs
  may_not : close (f ∷ fs) ≡ None → (Admits f.operands f.unreachable (types_of f.ends) → ⊥) → Closed f fs

closed_by : (f : Frame) (fs : List Frame) (o : Option (List (Option ValType))) → close (f ∷ fs) ≡ option_and_then closed (lift f fs o) → Both (Admits f.operands f.unreachable (types_of f.ends ++ [])) (AdmitsSome o f.unreachable []) → Closed f fs
closed_by f fs None e b = may_not e (λ a. b.0 (subst (λ l. Admits f.operands f.unreachable l) (sym (append-nil (types_of f.ends))) a))
closed_by f fs (Some (x ∷ os)) e b = may_not e (λ a. b.0 (subst (λ l. Admits f.operands f.unreachable l) (sym (append-nil (types_of f.ends))) a))
closed_by f fs (Some []) e b = may e (subst (λ l. Admits f.operands f.unreachable l) (append-nil (types_of f.ends)) (b.1 (none_left f.unreachable)))
  where
    none_left : (u : Bool) → Admits [] u []
    none_left true = tt
    none_left false = refl

is_closed : (f : Frame) (fs : List Frame) → Closed f fs
is_closed f fs = closed_by f fs (pops_os (types_of f.ends) f.unreachable f.operands) (ap (option_and_then closed) (pops_lift (types_of f.ends) f fs)) (pops_admits (types_of f.ends) f.unreachable f.operands [])

-- at an instruction that ends something the tree is stop
at_end : (c : Context) (rs : List ValType) (i : Instr) (is : List Instr) → ((ins outs : List ValType) → HasType c i ins outs → ⊥) → ((x : Option ValType) → i ≡ Block x → ⊥) → ((x : Option ValType) → i ≡ Loop x → ⊥) → ((x : Option ValType) → i ≡ If x → ⊥) → (e : Tree) (tail : List Instr) (ts : List ValType) → i ∷ is ≡ written e ++ tail → Typed e c rs ts → (tail ≡ i ∷ is) × (ts ≡ rs)
at_end c rs i is un nb nl ni stop tail ts q h = (sym q, h)
at_end c rs i is un nb nl ni (plain j e) tail ts q h = let same : j ≡ i = cc in absurd (un h.1.takes h.1.leaves (subst (λ y. HasType c y h.1.takes h.1.leaves) same h.1.type))
at_end c rs i is un nb nl ni (block x b e) tail ts q h = absurd (nb x (let same : i ≡ Block x = cc in same))
at_end c rs i is un nb nl ni (loop x b e) tail ts q h = absurd (nl x (let same : i ≡ Loop x = cc in same))
at_end c rs i is un nb nl ni (if_then x b e) tail ts q h = absurd (ni x (let same : i ≡ If x = cc in same))
at_end c rs i is un nb nl ni (if_else x b d e) tail ts q h = absurd (ni x (let same : i ≡ If x = cc in same))

abbrev pub here : Context → Kind → Option ValType → List Frame → Context
here s k t fs = with_label (inside s fs) (types_of (label_type k t))

else_at : (s : Context) (k : Kind) (t : Option ValType) (fs : List Frame) (u : Bool) (os : List (Option ValType)) (is : List Instr) → Admits os u (types_of t) → Both (Rest (here s k t fs) k t u os (Else ∷ is) (Fits s (types_of t) fs)) (FitsSome s (other k t fs) is)
else_at s Body t fs u os is a = (
  λ r. let h = at_end (here s Body t fs) (types_of t) Else is (λ ins outs h. h) (λ x e. cc) (λ x e. cc) (λ x e. cc) r.tree r.tail r.types r.code_is r.typed in
      let e : Else ∷ is ≡ End ∷ r.rest = sym h.0 ∙ r.closes in let f : ⊥ = cc in f,
  λ g. absurd g,
)
else_at s Again t fs u os is a = (
  λ r. let h = at_end (here s Again t fs) (types_of t) Else is (λ ins outs h. h) (λ x e. cc) (λ x e. cc) (λ x e. cc) r.tree r.tail r.types r.code_is r.typed in
      let e : Else ∷ is ≡ End ∷ r.rest = sym h.0 ∙ r.closes in let f : ⊥ = cc in f,
  λ g. absurd g,
)
else_at s Choice t fs u os is a = (
  λ r. let h = at_end (here s Choice t fs) (types_of t) Else is (λ ins outs h. h) (λ x e. cc) (λ x e. cc) (λ x e. cc) r.tree r.tail r.types r.code_is r.typed in
      ⊎_elim
      (λ x. let e : Else ∷ is ≡ End ∷ r.rest = sym h.0 ∙ x.1 in let f : ⊥ = cc in absurd f)
      (λ x. let e : Else ∷ is ≡ Else ∷ (written x.0 ++ (End ∷ r.rest)) = sym h.0 ∙ x.2 in
      let next : is ≡ written x.0 ++ (End ∷ r.rest) = cc in
      let rest : Rest (here s Choice t fs) Body t false [] is (Fits s (types_of t) fs) = record { tree = x.0; tail = End ∷ r.rest; rest = r.rest; types = []; code_is = next; admits = refl; typed = x.1; closes = refl; after = r.after } in rest)
      r.closes,
  λ g. record {
    tree = stop;
    tail = Else ∷ is;
    rest = g.rest;
    types = types_of t;
    code_is = refl;
    admits = a;
    typed = refl;
    closes = inr (g.tree, subst (λ l. Typed g.tree (here s Choice t fs) (types_of t) l) g.admits g.typed, ap (λ l. Else ∷ l) (g.code_is ∙ ap (λ l. written g.tree ++ l) g.closes));
    after = g.after;
  },
)

fits_push : (s : Context) (t : Option ValType) (fs : List Frame) (code : List Instr) → Both (Fits s (types_of t) fs code) (Fits s [] (push_type t fs) code)
fits_push s None fs code = (λ r. r, λ r. r)
fits_push s (Some t) [] code = (λ r. r, λ r. r)
fits_push s (Some t) (f ∷ fs) code = (λ r. r, λ r. r)

end_at : (s : Context) (k : Kind) (t : Option ValType) (fs : List Frame) (u : Bool) (os : List (Option ValType)) (is : List Instr) → Admits os u (types_of t) → Both (Rest (here s k t fs) k t u os (End ∷ is) (Fits s (types_of t) fs)) (FitsSome s (end k t fs) is)
end_at s Body t fs u os is a = (
  λ r. let h = at_end (here s Body t fs) (types_of t) End is (λ ins outs h. h) (λ x e. cc) (λ x e. cc) (λ x e. cc) r.tree r.tail r.types r.code_is r.typed in
      let e : End ∷ is ≡ End ∷ r.rest = sym h.0 ∙ r.closes in
      let next : r.rest ≡ is = cc in
      (fits_push s t fs is).0 (subst (λ l. Fits s (types_of t) fs l) next r.after),
  λ g. record { tree = stop; tail = End ∷ is; rest = is; types = types_of t; code_is = refl; admits = a; typed = refl; closes = refl; after = (fits_push s t fs is).1 g },
)
end_at s Again t fs u os is a = (
  λ r. let h = at_end (here s Again t fs) (types_of t) End is (λ ins outs h. h) (λ x e. cc) (λ x e. cc) (λ x e. cc) r.tree r.tail r.types r.code_is r.typed in
      let e : End ∷ is ≡ End ∷ r.rest = sym h.0 ∙ r.closes in
      let next : r.rest ≡ is = cc in
      (fits_push s t fs is).0 (subst (λ l. Fits s (types_of t) fs l) next r.after),
  λ g. record { tree = stop; tail = End ∷ is; rest = is; types = types_of t; code_is = refl; admits = a; typed = refl; closes = refl; after = (fits_push s t fs is).1 g },
)
end_at s Choice (Some t) fs u os is a = (
  λ r. let h = at_end (here s Choice (Some t) fs) (t ∷ []) End is (λ ins outs h. h) (λ x e. cc) (λ x e. cc) (λ x e. cc) r.tree r.tail r.types r.code_is r.typed in
      ⊎_elim
      (λ x. let n = x.0 in let f : ⊥ = cc in f)
      (λ x. let e : End ∷ is ≡ Else ∷ (written x.0 ++ (End ∷ r.rest)) = sym h.0 ∙ x.2 in let f : ⊥ = cc in f)
      r.closes,
  λ g. absurd g,
)
end_at s Choice None fs u os is a = (
  λ r. let h = at_end (here s Choice None fs) [] End is (λ ins outs h. h) (λ x e. cc) (λ x e. cc) (λ x e. cc) r.tree r.tail r.types r.code_is r.typed in
      ⊎_elim
      (λ x. let e : End ∷ is ≡ End ∷ r.rest = sym h.0 ∙ x.1 in let next : r.rest ≡ is = cc in subst (λ l. Fits s [] fs l) next r.after)
      (λ x. let e : End ∷ is ≡ Else ∷ (written x.0 ++ (End ∷ r.rest)) = sym h.0 ∙ x.2 in let f : ⊥ = cc in absurd f)
      r.closes,
  λ g. record { tree = stop; tail = End ∷ is; rest = is; types = []; code_is = refl; admits = a; typed = refl; closes = inl (refl, refl); after = g },
)

else_by : (s : Context) (f : Frame) (fs : List Frame) (is : List Instr) → Closed f fs → Both (Fits s [] (f ∷ fs) (Else ∷ is)) (FitsSome s (go_at s Else (f ∷ fs)) is)
else_by s f fs is (may e a) =
    let link : go_at s Else (f ∷ fs) ≡ other f.kind f.ends fs = ap (option_and_then other_side) e in
    let b = else_at s f.kind f.ends fs f.unreachable f.operands is a in
    (λ r. subst (λ m. FitsSome s m is) (sym link) (b.0 r), λ g. b.1 (subst (λ m. FitsSome s m is) link g))
else_by s f fs is (may_not e a) =
    let link : go_at s Else (f ∷ fs) ≡ None = ap (option_and_then other_side) e in (
      λ r. let h = at_end (inside s (f ∷ fs)) (types_of f.ends) Else is (λ ins outs h. h) (λ x e. cc) (λ x e. cc) (λ x e. cc) r.tree r.tail r.types r.code_is r.typed in
          absurd (a (subst (λ l. Admits f.operands f.unreachable l) h.1 r.admits)),
      λ g. absurd (subst (λ m. FitsSome s m is) link g),
    )

end_by : (s : Context) (f : Frame) (fs : List Frame) (is : List Instr) → Closed f fs → Both (Fits s [] (f ∷ fs) (End ∷ is)) (FitsSome s (go_at s End (f ∷ fs)) is)
end_by s f fs is (may e a) =
    let link : go_at s End (f ∷ fs) ≡ end f.kind f.ends fs = ap (option_and_then ended) e in
    let b = end_at s f.kind f.ends fs f.unreachable f.operands is a in
    (λ r. subst (λ m. FitsSome s m is) (sym link) (b.0 r), λ g. b.1 (subst (λ m. FitsSome s m is) link g))
end_by s f fs is (may_not e a) =
    let link : go_at s End (f ∷ fs) ≡ None = ap (option_and_then ended) e in (
      λ r. let h = at_end (inside s (f ∷ fs)) (types_of f.ends) End is (λ ins outs h. h) (λ x e. cc) (λ x e. cc) (λ x e. cc) r.tree r.tail r.types r.code_is r.typed in
          absurd (a (subst (λ l. Admits f.operands f.unreachable l) h.1 r.admits)),
      λ g. absurd (subst (λ m. FitsSome s m is) link g),
    )

pub else_fits : (s : Context) (f : Frame) (fs : List Frame) (is : List Instr) → Both (Fits s [] (f ∷ fs) (Else ∷ is)) (FitsSome s (go_at s Else (f ∷ fs)) is)
else_fits s f fs is = else_by s f fs is (is_closed f fs)

pub end_fits : (s : Context) (f : Frame) (fs : List Frame) (is : List Instr) → Both (Fits s [] (f ∷ fs) (End ∷ is)) (FitsSome s (go_at s End (f ∷ fs)) is)
end_fits s f fs is = end_by s f fs is (is_closed f fs)
