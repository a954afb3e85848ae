-- Taking and leaving operands, against the types that a stack admits.
use Rattle.std.proofs.Common.{◌≡◌, Bool, true, false, Option, Some, None, List, [], ◌∷◌, ◌++◌, map, cond, refl, sym, ap, ◌∙◌, subst, option_and_then, option_map}
use Rattle.faaslet_meaning.specs.declared.instr.ValType.{ValType}
use Rattle.faaslet_meaning.specs.declared.instr.ValType.TheVariants.{I32, I64, F32, F64}
use Rattle.wasm_validate.specs.Frames.{Frame, same, may_be, with_operands, any_of, expected, pop, pops, push}
use Rattle.wasm_validate.specs.Steps.{pushes}
use Rattle.wasm_validate.specs.Admits.{May, Admits, AdmitsSome, Both}

abbrev pub pop_os : ValType → Bool → List (Option ValType) → Option (List (Option ValType))
pop_os t u (o ∷ os) = cond (may_be o t) (Some os) None
pop_os t true [] = Some []
pop_os t false [] = None

abbrev pub pops_os : List ValType → Bool → List (Option ValType) → Option (List (Option ValType))
pops_os [] u os = Some os
pops_os (t ∷ ts) u os = option_and_then (pops_os ts u) (pop_os t u os)

abbrev pub known : List ValType → List (Option ValType)
known ts = map (λ t. Some t) ts

abbrev pub lift : Frame → List Frame → Option (List (Option ValType)) → Option (List Frame)
lift f fs o = option_map (λ os. with_operands f os ∷ fs) o

lift_cond : (f : Frame) (fs : List Frame) (b : Bool) (os : List (Option ValType)) → cond b (Some (with_operands f os ∷ fs)) None ≡ lift f fs (cond b (Some os) None)
lift_cond f fs true os = refl
lift_cond f fs false os = refl

any_lift : (t : ValType) (f : Frame) (fs : List Frame) (u : Bool) (os : List (Option ValType)) → option_and_then (expected t) (any_of f fs u os) ≡ lift f fs (pop_os t u os)
any_lift t f fs u (o ∷ os) = lift_cond f fs (may_be o t) os
any_lift t f fs true [] = refl
any_lift t f fs false [] = refl

pub pop_lift : (t : ValType) (f : Frame) (fs : List Frame) → pop t (f ∷ fs) ≡ lift f fs (pop_os t f.unreachable f.operands)
pop_lift t f fs = any_lift t f fs f.unreachable f.operands

pub pops_lift : (ts : List ValType) (f : Frame) (fs : List Frame) → pops ts (f ∷ fs) ≡ lift f fs (pops_os ts f.unreachable f.operands)
pops_lift [] f fs = refl
pops_lift (t ∷ ts) f fs = ap (option_and_then (pops ts)) (pop_lift t f fs) ∙ more (pop_os t f.unreachable f.operands) (λ os. pops_lift ts (with_operands f os) fs)
  where
    more : (o : Option (List (Option ValType))) → ((os : List (Option ValType)) → pops ts (with_operands f os ∷ fs) ≡ lift f fs (pops_os ts f.unreachable os)) → option_and_then (pops ts) (lift f fs o) ≡ lift f fs (option_and_then (pops_os ts f.unreachable) o)
    more None h = refl
    more (Some os) h = h os

pub pushes_lift : (ts : List ValType) (f : Frame) (fs : List Frame) (os : List (Option ValType)) → pushes ts (with_operands f os ∷ fs) ≡ with_operands f (known ts ++ os) ∷ fs
pushes_lift [] f fs os = refl
pushes_lift (t ∷ ts) f fs os = ap (push (Some t)) (pushes_lift ts f fs os)

pub same_is : (s t : ValType) → same s t ≡ true → s ≡ t
same_is I32 I32 e = refl
same_is I64 I64 e = refl
same_is F32 F32 e = refl
same_is F64 F64 e = refl
same_is I32 _ e = cc
same_is I64 _ e = cc
same_is F32 _ e = cc
same_is F64 _ e = cc

pub same_self : (t : ValType) → same t t ≡ true
same_self I32 = refl
same_self I64 = refl
same_self F32 = refl
same_self F64 = refl

pub may_is : (o : Option ValType) (t : ValType) → may_be o t ≡ true → May o t
may_is None t e = tt
may_is (Some s) t e = same_is s t e

pub is_may : (o : Option ValType) (t : ValType) → May o t → may_be o t ≡ true
is_may None t m = refl
is_may (Some s) t m = subst (λ x. same s x ≡ true) m (same_self s)

cond_admits : (o : Option ValType) (t : ValType) (b : Bool) (os : List (Option ValType)) (u : Bool) (ts : List ValType) → may_be o t ≡ b → Both (May o t × Admits os u ts) (AdmitsSome (cond b (Some os) None) u ts)
cond_admits o t true os u ts e = (λ a. a.1, λ a. (may_is o t e, a))
cond_admits o t false os u ts e = (λ a. let f : ⊥ = cc (is_may o t a.0) in absurd f, λ a. absurd a)

pub pop_admits : (t : ValType) (u : Bool) (os : List (Option ValType)) (ts : List ValType) → Both (Admits os u (t ∷ ts)) (AdmitsSome (pop_os t u os) u ts)
pop_admits t u (o ∷ os) ts = cond_admits o t (may_be o t) os u ts refl
pop_admits t true [] ts = (λ a. tt, λ a. tt)
pop_admits t false [] ts = (λ a. let f : ⊥ = cc in absurd f, λ a. absurd a)

pub pops_admits : (ps : List ValType) (u : Bool) (os : List (Option ValType)) (ts : List ValType) → Both (Admits os u (ps ++ ts)) (AdmitsSome (pops_os ps u os) u ts)
pops_admits [] u os ts = (λ a. a, λ a. a)
pops_admits (p ∷ ps) u os ts =
    let one = pop_admits p u os (ps ++ ts) in
    let rest = more (pop_os p u os) (λ l. pops_admits ps u l ts) in
    (λ a. rest.0 (one.0 a), λ a. one.1 (rest.1 a))
  where
    more : (o : Option (List (Option ValType))) → ((l : List (Option ValType)) → Both (Admits l u (ps ++ ts)) (AdmitsSome (pops_os ps u l) u ts)) → Both (AdmitsSome o u (ps ++ ts)) (AdmitsSome (option_and_then (pops_os ps u) o) u ts)
    more None h = (λ a. a, λ a. a)
    more (Some l) h = h l

pub push_admits : (qs : List ValType) (u : Bool) (os : List (Option ValType)) (us xs : List ValType) → us ≡ qs ++ xs → Admits os u xs → Admits (known qs ++ os) u us
push_admits [] u os us xs e a = subst (λ l. Admits os u l) (sym e) a
push_admits (q ∷ qs) u os us xs e a = subst (λ l. Admits (known (q ∷ qs) ++ os) u l) (sym e) (refl, push_admits qs u os (qs ++ xs) xs refl a)

pub admits_push : (qs : List ValType) (u : Bool) (os : List (Option ValType)) (us : List ValType) → Admits (known qs ++ os) u us → (xs : List ValType) × (us ≡ qs ++ xs) × Admits os u xs
admits_push [] u os us a = (us, refl, a)
admits_push (q ∷ qs) u os [] a = absurd a
admits_push (q ∷ qs) u os (t ∷ us) a =
    let r = admits_push qs u os us a.1 in
    let e : t ≡ q = sym a.0 in
    let h : us ≡ qs ++ r.0 = r.1 in
    let both : t ∷ us ≡ q ∷ (qs ++ r.0) = cc in
    (r.0, both, r.2)

-- each stack admits some types
pub admits_some : (u : Bool) (os : List (Option ValType)) → (ts : List ValType) × Admits os u ts
admits_some true [] = ([], tt)
admits_some false [] = ([], refl)
admits_some u (None ∷ os) = let r = admits_some u os in (I32 ∷ r.0, (tt, r.1))
admits_some u (Some t ∷ os) = let r = admits_some u os in (t ∷ r.0, (refl, r.1))
