-- What each instruction without blocks makes of the stack is the image of the operand types that the stack admits.
use Rattle.std.proofs.Common.{◌≡◌, ℕ, ◌≤◌, zero, suc, Bool, true, false, ◌&&◌, Option, Some, None, List, [], ◌∷◌, ◌++◌, map, cond, refl, sym, ap, ◌∙◌, subst, append_assoc, slice_get, option_and_then, option_map, reverse}
use Rattle.std.proofs.lemmas.List.{append-nil}
use Rattle.faaslet_meaning.specs.declared.instr.ValType.{ValType}
use Rattle.faaslet_meaning.specs.declared.instr.ValType.TheVariants.{I32, I64}
use Rattle.faaslet_meaning.specs.declared.module.GlobalType.{GlobalType}
use Rattle.std.specs.Prelude.{nat_le}
use Rattle.std.proofs.lemmas.Bool.{le-leb, leb-true}
use Rattle.faaslet_meaning.specs.declared.instr.Instr.{Instr}
use Rattle.faaslet_meaning.specs.declared.instr.Instr.TheVariants.{Unreachable, Nop, Block, Loop, If, Else, End, Br, BrIf, BrTable, Return, Call, Drop, Select, LocalGet, LocalSet, LocalTee, I32Const, I64Const, F32Const, F64Const, Num, GlobalGet, GlobalSet, Load, Store, MemorySize, MemoryGrow, CallIndirect}
use Rattle.faaslet_meaning.specs.LoadStore.{store_value}
use Rattle.faaslet_meaning.specs.Typing.{Context, HasType, Takes, LabelIs, LabelsAre, Effect, value_of}
use Rattle.faaslet_meaning.specs.Tree.{IsPlain, types_of}
use Rattle.wasm_validate.specs.declared.opcodes.Access.{Access}
use Rattle.wasm_validate.specs.declared.opcodes.Signature.{Signature}
use Rattle.wasm_validate.specs.Opcodes.{signature_at, operands, load_access, load_at, store_access, store_at}
use Rattle.wasm_validate.proofs.Rows.{signature_of, operands_are, result_is, found_numeric, numeric_found, found_load, load_found, found_store, store_found}
use Rattle.wasm_validate.specs.Frames.{Frame, may_be, with_operands, dead, any_of, push, label_of}
use Rattle.wasm_validate.specs.Steps.{pushes, arrow, leaves_by, label, same_type, is_label, all_labels, select_first, if_mutable, settable, if_aligned, accessed, go_at}
use Rattle.wasm_validate.specs.Admits.{May, Admits, AdmitsSome, Both, Image, inside}
use Rattle.wasm_validate.proofs.Taking.{pop_os, pops_os, known, lift, pop_lift, pops_lift, pushes_lift, may_is, is_may, same_is, same_self, pop_admits, pops_admits, push_admits, admits_push, admits_some}

none_image : (c : Context) (i : Instr) (u : Bool) (os : List (Option ValType)) (v : Bool) → ((ts us : List ValType) → Admits os u ts → Effect c i ts us → ⊥) → Image c i u os v None
none_image c i u os v never = record { forth = λ ts us a e. never ts us a e; back = λ us a. absurd a }

untyped : (c : Context) (i : Instr) (u : Bool) (os : List (Option ValType)) (v : Bool) → ((ins outs : List ValType) → HasType c i ins outs → ⊥) → Image c i u os v None
untyped c i u os v never = none_image c i u os v (λ ts us a e. never e.takes e.leaves e.type)

arrow_by : (c : Context) (i : Instr) (u : Bool) (os : List (Option ValType)) (ps qs : List ValType) (o : Option (List (Option ValType))) → ((ins outs : List ValType) → HasType c i ins outs → Takes ins outs ps qs) → HasType c i ps qs → ((xs : List ValType) → Both (Admits os u (ps ++ xs)) (AdmitsSome o u xs)) → Image c i u os u (option_map (λ l. known qs ++ l) o)
arrow_by c i u os ps qs None only has both =
    none_image c i u os u (λ ts us a e. (both e.under).0 (subst (λ l. Admits os u l) (e.before ∙ ap (λ p. p ++ e.under) (only e.takes e.leaves e.type).0) a))
arrow_by c i u os ps qs (Some l) only has both = record {
  forth = λ ts us a e.
      let h = only e.takes e.leaves e.type in
      push_admits qs u l us e.under (e.after ∙ ap (λ q. q ++ e.under) h.1) ((both e.under).0 (subst (λ x. Admits os u x) (e.before ∙ ap (λ p. p ++ e.under) h.0) a));
  back = λ us a.
      let r = admits_push qs u l us a in
      (ps ++ r.0, (both r.0).1 r.2, record { takes = ps; leaves = qs; under = r.0; type = has; before = refl; after = r.1 });
}

arrow_image : (c : Context) (i : Instr) (u : Bool) (os : List (Option ValType)) (ps qs : List ValType) → ((ins outs : List ValType) → HasType c i ins outs → Takes ins outs ps qs) → HasType c i ps qs → Image c i u os u (option_map (λ l. known qs ++ l) (pops_os ps u os))
arrow_image c i u os ps qs only has = arrow_by c i u os ps qs (pops_os ps u os) only has (λ xs. pops_admits ps u os xs)

leave_by : (c : Context) (i : Instr) (u : Bool) (os : List (Option ValType)) (ps : List ValType) (o : Option (List (Option ValType))) → ((ins outs : List ValType) → HasType c i ins outs → (xs : List ValType) × (ins ≡ ps ++ xs)) → ((xs bs : List ValType) → HasType c i (ps ++ xs) bs) → ((xs : List ValType) → Both (Admits os u (ps ++ xs)) (AdmitsSome o u xs)) → Image c i u os true (option_map (λ l. []) o)
leave_by c i u os ps None only has both =
    none_image c i u os true (λ ts us a e.
    let h = only e.takes e.leaves e.type in
    (both (h.0 ++ e.under)).0 (subst (λ l. Admits os u l) (e.before ∙ ap (λ p. p ++ e.under) h.1 ∙ append_assoc ps h.0 e.under) a))
leave_by c i u os ps (Some l) only has both = record {
  forth = λ ts us a e. tt;
  back = λ us a.
      let r = admits_some u l in
      (ps ++ r.0, (both r.0).1 r.1, record { takes = ps ++ r.0; leaves = us; under = []; type = has r.0 us; before = sym (append-nil (ps ++ r.0)); after = sym (append-nil us) });
}

leave_image : (c : Context) (i : Instr) (u : Bool) (os : List (Option ValType)) (ps : List ValType) → ((ins outs : List ValType) → HasType c i ins outs → (xs : List ValType) × (ins ≡ ps ++ xs)) → ((xs bs : List ValType) → HasType c i (ps ++ xs) bs) → Image c i u os true (option_map (λ l. []) (pops_os ps u os))
leave_image c i u os ps only has = leave_by c i u os ps (pops_os ps u os) only has (λ xs. pops_admits ps u os xs)

abbrev pub lifts : Frame → List Frame → Bool → Option (List (Option ValType)) → Option (List Frame)
lifts f fs v o = option_map (λ os. record f { unreachable = v; operands = os } ∷ fs) o

arrow_link : (ps qs : List ValType) (f : Frame) (fs : List Frame) → arrow ps qs (f ∷ fs) ≡ lifts f fs f.unreachable (option_map (λ l. known qs ++ l) (pops_os ps f.unreachable f.operands))
arrow_link ps qs f fs = ap (option_map (pushes qs)) (pops_lift ps f fs) ∙ by (pops_os ps f.unreachable f.operands)
  where
    by : (o : Option (List (Option ValType))) → option_map (pushes qs) (lift f fs o) ≡ lifts f fs f.unreachable (option_map (λ l. known qs ++ l) o)
    by None = refl
    by (Some l) = ap (λ x. Some x) (pushes_lift qs f fs l)

leave_link : (ps : List ValType) (f : Frame) (fs : List Frame) → leaves_by ps (f ∷ fs) ≡ lifts f fs true (option_map (λ l. []) (pops_os ps f.unreachable f.operands))
leave_link ps f fs = ap (option_map dead) (pops_lift ps f fs) ∙ by (pops_os ps f.unreachable f.operands)
  where
    by : (o : Option (List (Option ValType))) → option_map dead (lift f fs o) ≡ lifts f fs true (option_map (λ l. []) o)
    by None = refl
    by (Some l) = refl

-- the instruction changes the innermost block alone, and its stack as the typing says
pub record Moves (s : Context) (i : Instr) (f : Frame) (fs : List Frame) : Type 0 where
  pub flag : Bool
  pub made : Option (List (Option ValType))
  pub link : go_at s i (f ∷ fs) ≡ lifts f fs flag made
  pub image : Image (inside s (f ∷ fs)) i f.unreachable f.operands flag made

by_arrow : (s : Context) (i : Instr) (f : Frame) (fs : List Frame) (ps qs : List ValType) → go_at s i (f ∷ fs) ≡ arrow ps qs (f ∷ fs) → ((ins outs : List ValType) → HasType (inside s (f ∷ fs)) i ins outs → Takes ins outs ps qs) → HasType (inside s (f ∷ fs)) i ps qs → Moves s i f fs
by_arrow s i f fs ps qs e only has =
    record { flag = f.unreachable; made = option_map (λ l. known qs ++ l) (pops_os ps f.unreachable f.operands); link = e ∙ arrow_link ps qs f fs; image = arrow_image (inside s (f ∷ fs)) i f.unreachable f.operands ps qs only has }

by_leave : (s : Context) (i : Instr) (f : Frame) (fs : List Frame) (ps : List ValType) → go_at s i (f ∷ fs) ≡ leaves_by ps (f ∷ fs) → ((ins outs : List ValType) → HasType (inside s (f ∷ fs)) i ins outs → (xs : List ValType) × (ins ≡ ps ++ xs)) → ((xs bs : List ValType) → HasType (inside s (f ∷ fs)) i (ps ++ xs) bs) → Moves s i f fs
by_leave s i f fs ps e only has =
    record { flag = true; made = option_map (λ l. []) (pops_os ps f.unreachable f.operands); link = e ∙ leave_link ps f fs; image = leave_image (inside s (f ∷ fs)) i f.unreachable f.operands ps only has }

by_none : (s : Context) (i : Instr) (f : Frame) (fs : List Frame) → go_at s i (f ∷ fs) ≡ None → ((ins outs : List ValType) → HasType (inside s (f ∷ fs)) i ins outs → ⊥) → Moves s i f fs
by_none s i f fs e never = record { flag = f.unreachable; made = None; link = e; image = untyped (inside s (f ∷ fs)) i f.unreachable f.operands f.unreachable never }

-- labels
label_types : (n : ℕ) (fs : List Frame) → slice_get (map (λ f. types_of (label_of f)) fs) n ≡ option_map types_of (label n fs)
label_types n [] = refl
label_types zero (f ∷ fs) = refl
label_types (suc n) (f ∷ fs) = label_types n fs

label_is : (s : Context) (fs : List Frame) (n : ℕ) (t : Option ValType) → label n fs ≡ Some t → LabelIs (inside s fs) n (types_of t)
label_is s fs n t e = label_types n fs ∙ ap (option_map types_of) e

is_that : (s : Context) (fs : List Frame) (n : ℕ) (t : Option ValType) (ls : List ValType) → label n fs ≡ Some t → LabelIs (inside s fs) n ls → ls ≡ types_of t
is_that s fs n t ls e h = let p : Some ls ≡ Some (types_of t) = sym h ∙ label_is s fs n t e in cc

no_label : (s : Context) (fs : List Frame) (n : ℕ) (ls : List ValType) → label n fs ≡ None → LabelIs (inside s fs) n ls → ⊥
no_label s fs n ls e h = let p : Some ls ≡ None = sym h ∙ label_types n fs ∙ ap (option_map types_of) e in let f : ⊥ = cc in f

br_moves : (s : Context) (n : ℕ) (f : Frame) (fs : List Frame) (o : Option (Option ValType)) → label n (f ∷ fs) ≡ o → Moves s (Br n) f fs
br_moves s n f fs None e = by_none s (Br n) f fs (ap (option_and_then (λ t. leaves_by (types_of t) (f ∷ fs))) e) (λ ins outs h. no_label s (f ∷ fs) n h.0 e h.2)
br_moves s n f fs (Some t) e =
    by_leave s (Br n) f fs (types_of t) (ap (option_and_then (λ t. leaves_by (types_of t) (f ∷ fs))) e)
    (λ ins outs h. (h.1, h.3 ∙ ap (λ l. l ++ h.1) (is_that s (f ∷ fs) n t h.0 e h.2)))
    (λ xs bs. (types_of t, xs, label_is s (f ∷ fs) n t e, refl))

br_if_moves : (s : Context) (n : ℕ) (f : Frame) (fs : List Frame) (o : Option (Option ValType)) → label n (f ∷ fs) ≡ o → Moves s (BrIf n) f fs
br_if_moves s n f fs None e = by_none s (BrIf n) f fs (ap (option_and_then (λ t. arrow (I32 ∷ types_of t) (types_of t) (f ∷ fs))) e) (λ ins outs h. no_label s (f ∷ fs) n h.0 e h.1)
br_if_moves s n f fs (Some t) e =
    by_arrow s (BrIf n) f fs (I32 ∷ types_of t) (types_of t) (ap (option_and_then (λ t. arrow (I32 ∷ types_of t) (types_of t) (f ∷ fs))) e)
    (λ ins outs h. let same = is_that s (f ∷ fs) n t h.0 e h.1 in (h.2.0 ∙ ap (λ l. I32 ∷ l) same, h.2.1 ∙ same))
    (types_of t, label_is s (f ∷ fs) n t e, (refl, refl))

and_parts : (a b : Bool) → (a && b) ≡ true → (a ≡ true) × (b ≡ true)
and_parts true b e = (refl, e)
and_parts false b e = cc

-- an instruction whose type is found by a look-up
found_moves : {A : Type 0} (s : Context) (i : Instr) (f : Frame) (fs : List Frame) (look : Option A) (ps qs : A → List ValType) → go_at s i (f ∷ fs) ≡ option_and_then (λ x. arrow (ps x) (qs x) (f ∷ fs)) look → ((ins outs : List ValType) → HasType (inside s (f ∷ fs)) i ins outs → (x : A) × (look ≡ Some x) × Takes ins outs (ps x) (qs x)) → ((x : A) → look ≡ Some x → HasType (inside s (f ∷ fs)) i (ps x) (qs x)) → (o : Option A) → look ≡ o → Moves s i f fs
found_moves {A} s i f fs look ps qs l only has None e =
    by_none s i f fs (l ∙ ap (option_and_then (λ x. arrow (ps x) (qs x) (f ∷ fs))) e) (λ ins outs h. let r = only ins outs h in let p : None ≡ Some r.0 = sym e ∙ r.1 in let never : ⊥ = cc in never)
found_moves {A} s i f fs look ps qs l only has (Some x) e =
    by_arrow s i f fs (ps x) (qs x) (l ∙ ap (option_and_then (λ x. arrow (ps x) (qs x) (f ∷ fs))) e)
    (λ ins outs h.
    let r = only ins outs h in
    let p : Some x ≡ Some r.0 = sym e ∙ r.1 in
    let same : r.0 ≡ x = cc in
    (r.2.0 ∙ ap ps same, r.2.1 ∙ ap qs same))
    (has x e)

pub cond_some : {A : Type 0} (b : Bool) (x y : A) → cond b (Some x) None ≡ Some y → (b ≡ true) × (x ≡ y)
cond_some true x y e = let same : x ≡ y = cc in (refl, same)
cond_some false x y e = let never : ⊥ = cc in absurd never

-- what a global's or a memory's look-up says
set_found : (o : Option GlobalType) (t : ValType) → option_and_then if_mutable o ≡ Some t → (g : GlobalType) × (o ≡ Some g) × (g.mutable ≡ true) × (g.value ≡ t)
set_found None t e = let never : ⊥ = cc in absurd never
set_found (Some g) t e = let p = cond_some g.mutable g.value t e in (g, refl, p.0, p.1)

found_set : (o : Option GlobalType) (g : GlobalType) → o ≡ Some g → g.mutable ≡ true → option_and_then if_mutable o ≡ Some g.value
found_set o g e m = ap (option_and_then if_mutable) e ∙ ap (λ b. cond b (Some g.value) None) m

access_found : (m : Bool) (align : ℕ) (o : Option Access) (t : ValType) → option_and_then (if_aligned m align) o ≡ Some t → (x : Access) × (o ≡ Some x) × (m ≡ true) × (align ≤ x.align) × (x.value ≡ t)
access_found m align None t e = let never : ⊥ = cc in absurd never
access_found m align (Some x) t e =
    let p = cond_some (m && nat_le align x.align) x.value t e in
    let q = and_parts m (nat_le align x.align) p.0 in
    (x, refl, q.0, leb-true align x.align q.1, p.1)

found_access : (m : Bool) (align : ℕ) (o : Option Access) (x : Access) → o ≡ Some x → m ≡ true → align ≤ x.align → option_and_then (if_aligned m align) o ≡ Some x.value
found_access m align o x e h l =
    ap (option_and_then (if_aligned m align)) e ∙ ap (λ b. cond (b && nat_le align x.align) (Some x.value) None) h ∙ ap (λ b. cond b (Some x.value) None) (le-leb align x.align l)

load_moves : (s : Context) (op align offset : ℕ) (f : Frame) (fs : List Frame) → Moves s (Load op align offset) f fs
load_moves s op align offset f fs =
    found_moves s (Load op align offset) f fs (accessed s (load_at op) align) (λ t. I32 ∷ []) (λ t. t ∷ []) refl
    (λ ins outs h. let r = found_load op align h.0 h.1 h.3 in (value_of h.0.value, found_access s.has_memory align (load_at op) (load_access h.0) r.0 h.2 r.1, h.4))
    (λ t e.
    let r = access_found s.has_memory align (load_at op) t e in
    let l = load_found op align r.0 r.1 r.3 in
    (l.0, l.1, r.2, l.2, (refl, ap (λ x. x ∷ []) (sym (l.3 ∙ r.4)))))
    (accessed s (load_at op) align) refl

store_moves : (s : Context) (op align offset : ℕ) (f : Frame) (fs : List Frame) → Moves s (Store op align offset) f fs
store_moves s op align offset f fs =
    found_moves s (Store op align offset) f fs (accessed s (store_at op) align) (λ t. t ∷ (I32 ∷ [])) (λ t. []) refl
    (λ ins outs h. let r = found_store op align h.0 h.1 h.3 in (value_of (store_value op), found_access s.has_memory align (store_at op) (store_access op h.0) r.0 h.2 r.1, h.4))
    (λ t e.
    let r = access_found s.has_memory align (store_at op) t e in
    let n = store_found op align r.0 r.1 r.3 in
    (n.0, n.1, r.2, n.2, (ap (λ x. x ∷ (I32 ∷ [])) (sym (n.3 ∙ r.4)), refl)))
    (accessed s (store_at op) align) refl

num_moves : (s : Context) (op : ℕ) (f : Frame) (fs : List Frame) → Moves s (Num op) f fs
num_moves s op f fs =
    found_moves s (Num op) f fs (signature_at op) (λ g. operands g.operand g.two) (λ g. g.leaves ∷ []) refl
    (λ ins outs h. (signature_of h.0, found_numeric op h.0 h.1, (h.2.0 ∙ operands_are h.0, h.2.1 ∙ ap (λ t. t ∷ []) (result_is h.0))))
    (λ g e.
    let n = numeric_found op g e in
    (n.0, n.1, (ap (λ (x : Signature). operands x.operand x.two) (sym n.2) ∙ sym (operands_are n.0), ap (λ t. t ∷ []) (ap (λ (x : Signature). x.leaves) (sym n.2) ∙ sym (result_is n.0)))))
    (signature_at op) refl

set_moves : (s : Context) (k : ℕ) (f : Frame) (fs : List Frame) → Moves s (GlobalSet k) f fs
set_moves s k f fs =
    found_moves s (GlobalSet k) f fs (settable s k) (λ t. t ∷ []) (λ t. []) refl
    (λ ins outs h. (h.0.value, found_set (slice_get s.globals k) h.0 h.1 h.2, h.3))
    (λ t e. let r = set_found (slice_get s.globals k) t e in (r.0, r.1, r.2, (ap (λ x. x ∷ []) (sym r.3), refl)))
    (settable s k) refl

-- an instruction that needs a memory or a table
needs_moves : (s : Context) (i : Instr) (f : Frame) (fs : List Frame) (ps qs : List ValType) (b : Bool) → go_at s i (f ∷ fs) ≡ cond b (arrow ps qs (f ∷ fs)) None → ((ins outs : List ValType) → HasType (inside s (f ∷ fs)) i ins outs → (b ≡ true) × Takes ins outs ps qs) → (b ≡ true → HasType (inside s (f ∷ fs)) i ps qs) → Moves s i f fs
needs_moves s i f fs ps qs false l only has = by_none s i f fs l (λ ins outs h. let p = (only ins outs h).0 in let never : ⊥ = cc in never)
needs_moves s i f fs ps qs true l only has = by_arrow s i f fs ps qs l (λ ins outs h. (only ins outs h).1) (has refl)

cond_found : {A : Type 0} (b : Bool) (o : Option A) (x : A) → cond b o None ≡ Some x → (b ≡ true) × (o ≡ Some x)
cond_found true o x e = (refl, e)
cond_found false o x e = let never : ⊥ = cc in absurd never

indirect_moves : (s : Context) (k : ℕ) (f : Frame) (fs : List Frame) → Moves s (CallIndirect k) f fs
indirect_moves s k f fs =
    found_moves s (CallIndirect k) f fs (cond s.has_table (slice_get s.types k) None) (λ g. I32 ∷ reverse g.params) (λ g. g.results) refl
    (λ ins outs h. (h.0, ap (λ b. cond b (slice_get s.types k) None) h.2 ∙ h.1, h.3))
    (λ g e. let r = cond_found s.has_table (slice_get s.types k) g e in (g, r.1, r.0, (refl, refl)))
    (cond s.has_table (slice_get s.types k) None) refl

-- tables of labels
type_self : (t : Option ValType) → same_type t t ≡ true
type_self None = refl
type_self (Some t) = same_self t

type_is : (a b : Option ValType) → same_type a b ≡ true → a ≡ b
type_is None None e = refl
type_is (Some a) (Some b) e = ap (λ t. Some t) (same_is a b e)
type_is None (Some b) e = cc
type_is (Some a) None e = cc

types_inj : (a b : Option ValType) → types_of a ≡ types_of b → a ≡ b
types_inj None None e = refl
types_inj (Some a) (Some b) e = cc
types_inj None (Some b) e = cc
types_inj (Some a) None e = cc

one_label : (t : Option ValType) (o : Option (Option ValType)) → is_label t o ≡ true → o ≡ Some t
one_label t None e = cc
one_label t (Some a) e = ap (λ x. Some x) (type_is a t e)

tables_typed : (s : Context) (fs : List Frame) (t : Option ValType) (ns : List ℕ) → all_labels t ns fs ≡ true → LabelsAre (inside s fs) ns (types_of t)
tables_typed s fs t [] e = tt
tables_typed s fs t (n ∷ ns) e =
    let p = and_parts (is_label t (label n fs)) (all_labels t ns fs) e in
    (label_is s fs n t (one_label t (label n fs) p.0), tables_typed s fs t ns p.1)

label_true : (s : Context) (fs : List Frame) (t : Option ValType) (n : ℕ) (o : Option (Option ValType)) → label n fs ≡ o → LabelIs (inside s fs) n (types_of t) → is_label t o ≡ true
label_true s fs t n None e h = absurd (no_label s fs n (types_of t) e h)
label_true s fs t n (Some a) e h =
    let same : types_of t ≡ types_of a = is_that s fs n a (types_of t) e h in
    ap (λ x. same_type a x) (types_inj t a same) ∙ type_self a

typed_tables : (s : Context) (fs : List Frame) (t : Option ValType) (ns : List ℕ) → LabelsAre (inside s fs) ns (types_of t) → all_labels t ns fs ≡ true
typed_tables s fs t [] h = refl
typed_tables s fs t (n ∷ ns) h =
    ap (λ b. b && all_labels t ns fs) (label_true s fs t n (label n fs) refl h.0) ∙ typed_tables s fs t ns h.1

table_by : (s : Context) (ns : List ℕ) (n : ℕ) (f : Frame) (fs : List Frame) (t : Option ValType) → label n (f ∷ fs) ≡ Some t → (b : Bool) → all_labels t ns (f ∷ fs) ≡ b → go_at s (BrTable ns n) (f ∷ fs) ≡ cond b (leaves_by (I32 ∷ types_of t) (f ∷ fs)) None → Moves s (BrTable ns n) f fs
table_by s ns n f fs t e false all l =
    by_none s (BrTable ns n) f fs l (λ ins outs h.
    let same = is_that s (f ∷ fs) n t h.0 e h.3 in
    let p : false ≡ true = sym all ∙ typed_tables s (f ∷ fs) t ns (subst (λ x. LabelsAre (inside s (f ∷ fs)) ns x) same h.2) in
    let never : ⊥ = cc in never)
table_by s ns n f fs t e true all l =
    by_leave s (BrTable ns n) f fs (I32 ∷ types_of t) l
    (λ ins outs h. (h.1, h.4 ∙ ap (λ x. I32 ∷ (x ++ h.1)) (is_that s (f ∷ fs) n t h.0 e h.3)))
    (λ xs outs. (types_of t, xs, tables_typed s (f ∷ fs) t ns all, label_is s (f ∷ fs) n t e, refl))

table_moves : (s : Context) (ns : List ℕ) (n : ℕ) (f : Frame) (fs : List Frame) (o : Option (Option ValType)) → label n (f ∷ fs) ≡ o → Moves s (BrTable ns n) f fs
table_moves s ns n f fs None e =
    by_none s (BrTable ns n) f fs (ap (option_and_then (λ t. cond (all_labels t ns (f ∷ fs)) (leaves_by (I32 ∷ types_of t) (f ∷ fs)) None)) e) (λ ins outs h. no_label s (f ∷ fs) n h.0 e h.3)
table_moves s ns n f fs (Some t) e =
    table_by s ns n f fs t e (all_labels t ns (f ∷ fs)) refl (ap (option_and_then (λ t. cond (all_labels t ns (f ∷ fs)) (leaves_by (I32 ∷ types_of t) (f ∷ fs)) None)) e)

-- drop
abbrev pub drop_os : Bool → List (Option ValType) → Option (List (Option ValType))
drop_os u (o ∷ os) = Some os
drop_os true [] = Some []
drop_os false [] = None

drop_link : (f : Frame) (fs : List Frame) (u : Bool) (os : List (Option ValType)) → option_map (λ x. x.1) (any_of f fs u os) ≡ lift f fs (drop_os u os)
drop_link f fs u (o ∷ os) = refl
drop_link f fs true [] = refl
drop_link f fs false [] = refl

may_some : (o : Option ValType) → (t : ValType) × May o t
may_some None = (I32, tt)
may_some (Some t) = (t, refl)

drop_forth : (u : Bool) (os : List (Option ValType)) (t : ValType) (us : List ValType) → Admits os u (t ∷ us) → AdmitsSome (drop_os u os) u us
drop_forth u (o ∷ os) t us a = a.1
drop_forth true [] t us a = tt
drop_forth false [] t us a = let never : ⊥ = cc in absurd never

drop_back : (u : Bool) (os : List (Option ValType)) (us : List ValType) → AdmitsSome (drop_os u os) u us → (t : ValType) × Admits os u (t ∷ us)
drop_back u (o ∷ os) us a = let m = may_some o in (m.0, (m.1, a))
drop_back true [] us a = (I32, tt)
drop_back false [] us a = absurd a

drop_moves : (s : Context) (f : Frame) (fs : List Frame) → Moves s Drop f fs
drop_moves s f fs = record {
  flag = f.unreachable;
  made = drop_os f.unreachable f.operands;
  link = drop_link f fs f.unreachable f.operands;
  image = record {
    forth = λ ts us a e.
        let p : ts ≡ e.type.0 ∷ us = e.before ∙ ap (λ l. l ++ e.under) e.type.1.0 ∙ ap (λ l. e.type.0 ∷ l) (sym (e.after ∙ ap (λ l. l ++ e.under) e.type.1.1)) in
        drop_forth f.unreachable f.operands e.type.0 us (subst (λ l. Admits f.operands f.unreachable l) p a);
    back = λ us a.
        let r = drop_back f.unreachable f.operands us a in
        (r.0 ∷ us, r.1, record { takes = r.0 ∷ []; leaves = []; under = us; type = (r.0, (refl, refl)); before = refl; after = refl });
  };
}

-- select, once the condition is taken
abbrev pub sel_os : Bool → List (Option ValType) → Option (List (Option ValType))
sel_os u (None ∷ (b ∷ os)) = Some (b ∷ os)
sel_os u (Some t ∷ (b ∷ os)) = cond (may_be b t) (Some (Some t ∷ os)) None
sel_os true (a ∷ []) = Some (a ∷ [])
sel_os false (a ∷ []) = None
sel_os true [] = Some (None ∷ [])
sel_os false [] = None

sel_cond : (f : Frame) (fs : List Frame) (t : ValType) (b : Bool) (os : List (Option ValType)) → cond b (Some (push (Some t) (with_operands f os ∷ fs))) None ≡ lift f fs (cond b (Some (Some t ∷ os)) None)
sel_cond f fs t true os = refl
sel_cond f fs t false os = refl

sel_link : (f : Frame) (fs : List Frame) (u : Bool) (os : List (Option ValType)) → select_first (record f { unreachable = u; operands = os } ∷ fs) ≡ lift (record f { unreachable = u }) fs (sel_os u os)
sel_link f fs u (None ∷ (b ∷ os)) = refl
sel_link f fs u (Some t ∷ (b ∷ os)) = sel_cond (record f { unreachable = u }) fs t (may_be b t) os
sel_link f fs true (None ∷ []) = refl
sel_link f fs true (Some t ∷ []) = refl
sel_link f fs false (a ∷ []) = refl
sel_link f fs true [] = refl
sel_link f fs false [] = refl

sel_true : (b : Bool) (o : List (Option ValType)) (u : Bool) (us : List ValType) → b ≡ true → Admits o u us → AdmitsSome (cond b (Some o) None) u us
sel_true true o u us e a = a
sel_true false o u us e a = let never : ⊥ = cc in absurd never

true_sel : (b : Bool) (o : List (Option ValType)) (u : Bool) (us : List ValType) → AdmitsSome (cond b (Some o) None) u us → (b ≡ true) × Admits o u us
true_sel true o u us a = (refl, a)
true_sel false o u us a = absurd a

sel_forth : (u : Bool) (os : List (Option ValType)) (t : ValType) (xs : List ValType) → Admits os u (t ∷ (t ∷ xs)) → AdmitsSome (sel_os u os) u (t ∷ xs)
sel_forth u (None ∷ (b ∷ os)) t xs a = a.1
sel_forth u (Some s ∷ (b ∷ os)) t xs a =
    sel_true (may_be b s) (Some s ∷ os) u (t ∷ xs) (is_may b s (subst (λ x. May b x) (sym a.0) a.1.0)) (a.0, a.1.1)
sel_forth true (a ∷ []) t xs h = (h.0, tt)
sel_forth false (a ∷ []) t xs h = let e = h.1 in let never : ⊥ = cc in absurd never
sel_forth true [] t xs h = (tt, tt)
sel_forth false [] t xs h = let never : ⊥ = cc in absurd never

sel_back : (u : Bool) (os : List (Option ValType)) (us : List ValType) → AdmitsSome (sel_os u os) u us → (t : ValType) × (xs : List ValType) × (us ≡ t ∷ xs) × Admits os u (t ∷ (t ∷ xs))
sel_back u (None ∷ (b ∷ os)) [] a = absurd a
sel_back u (None ∷ (b ∷ os)) (t ∷ xs) a = (t, xs, refl, (tt, a))
sel_back u (Some s ∷ (b ∷ os)) [] a = absurd (true_sel (may_be b s) (Some s ∷ os) u [] a).1
sel_back u (Some s ∷ (b ∷ os)) (t ∷ xs) a =
    let r = true_sel (may_be b s) (Some s ∷ os) u (t ∷ xs) a in
    let m : May b t = subst (λ x. May b x) r.1.0 (may_is b s r.0) in
    (t, xs, refl, (r.1.0, (m, r.1.1)))
sel_back true (a ∷ []) [] h = absurd h
sel_back true (a ∷ []) (t ∷ xs) h = (t, xs, refl, (h.0, tt))
sel_back false (a ∷ []) us h = absurd h
sel_back true [] [] h = absurd h
sel_back true [] (t ∷ xs) h = (t, xs, refl, tt)
sel_back false [] us h = absurd h

then_forth : (u : Bool) (o : Option (List (Option ValType))) (t : ValType) (xs : List ValType) → AdmitsSome o u (t ∷ (t ∷ xs)) → AdmitsSome (option_and_then (sel_os u) o) u (t ∷ xs)
then_forth u None t xs a = a
then_forth u (Some os) t xs a = sel_forth u os t xs a

then_back : (u : Bool) (o : Option (List (Option ValType))) (us : List ValType) → AdmitsSome (option_and_then (sel_os u) o) u us → (t : ValType) × (xs : List ValType) × (us ≡ t ∷ xs) × AdmitsSome o u (t ∷ (t ∷ xs))
then_back u None us a = absurd a
then_back u (Some os) us a = sel_back u os us a

select_moves : (s : Context) (f : Frame) (fs : List Frame) → Moves s Select f fs
select_moves s f fs = record {
  flag = f.unreachable;
  made = option_and_then (sel_os f.unreachable) (pop_os I32 f.unreachable f.operands);
  link = ap (option_and_then select_first) (pop_lift I32 f fs) ∙ by (pop_os I32 f.unreachable f.operands);
  image = record {
    forth = λ ts us a e.
        let t = e.type.0 in
        let p : ts ≡ I32 ∷ (t ∷ (t ∷ e.under)) = e.before ∙ ap (λ l. l ++ e.under) e.type.1.0 in
        let q : us ≡ t ∷ e.under = e.after ∙ ap (λ l. l ++ e.under) e.type.1.1 in
        let popped = (pop_admits I32 f.unreachable f.operands (t ∷ (t ∷ e.under))).0 (subst (λ l. Admits f.operands f.unreachable l) p a) in
        subst (λ l. AdmitsSome (option_and_then (sel_os f.unreachable) (pop_os I32 f.unreachable f.operands)) f.unreachable l) (sym q) (then_forth f.unreachable (pop_os I32 f.unreachable f.operands) t e.under popped);
    back = λ us a.
        let r = then_back f.unreachable (pop_os I32 f.unreachable f.operands) us a in
        (I32 ∷ (r.0 ∷ (r.0 ∷ r.1)), (pop_admits I32 f.unreachable f.operands (r.0 ∷ (r.0 ∷ r.1))).1 r.3, record { takes = I32 ∷ (r.0 ∷ (r.0 ∷ [])); leaves = r.0 ∷ []; under = r.1; type = (r.0, (refl, refl)); before = refl; after = r.2 });
  };
}
  where
    by : (o : Option (List (Option ValType))) → option_and_then select_first (lift f fs o) ≡ lifts f fs f.unreachable (option_and_then (sel_os f.unreachable) o)
    by None = refl
    by (Some os) = sel_link f fs f.unreachable os

pub moves : (s : Context) (i : Instr) (f : Frame) (fs : List Frame) → IsPlain i → Moves s i f fs
moves s Unreachable f fs p = by_leave s Unreachable f fs [] refl (λ ins outs h. (ins, refl)) (λ xs outs. tt)
moves s Nop f fs p = by_arrow s Nop f fs [] [] refl (λ ins outs h. h) (refl, refl)
moves s (Block t) f fs p = absurd p
moves s (Loop t) f fs p = absurd p
moves s (If t) f fs p = absurd p
moves s Else f fs p = absurd p
moves s End f fs p = absurd p
moves s (Br n) f fs p = br_moves s n f fs (label n (f ∷ fs)) refl
moves s (BrIf n) f fs p = br_if_moves s n f fs (label n (f ∷ fs)) refl
moves s (BrTable ns n) f fs p = table_moves s ns n f fs (label n (f ∷ fs)) refl
moves s Return f fs p = by_leave s Return f fs s.results refl (λ ins outs h. h) (λ xs outs. (xs, refl))
moves s (Call k) f fs p = found_moves s (Call k) f fs (slice_get s.functions k) (λ g. reverse g.params) (λ g. g.results) refl (λ ins outs h. h) (λ g e. (g, e, (refl, refl))) (slice_get s.functions k) refl
moves s Drop f fs p = drop_moves s f fs
moves s Select f fs p = select_moves s f fs
moves s (LocalGet k) f fs p = found_moves s (LocalGet k) f fs (slice_get s.locals k) (λ t. []) (λ t. t ∷ []) (get (slice_get s.locals k)) (λ ins outs h. h) (λ t e. (t, e, (refl, refl))) (slice_get s.locals k) refl
  where
    get : (o : Option ValType) → option_map (λ t. push (Some t) (f ∷ fs)) o ≡ option_and_then (λ t. arrow [] (t ∷ []) (f ∷ fs)) o
    get None = refl
    get (Some t) = refl
moves s (LocalSet k) f fs p = found_moves s (LocalSet k) f fs (slice_get s.locals k) (λ t. t ∷ []) (λ t. []) refl (λ ins outs h. h) (λ t e. (t, e, (refl, refl))) (slice_get s.locals k) refl
moves s (LocalTee k) f fs p = found_moves s (LocalTee k) f fs (slice_get s.locals k) (λ t. t ∷ []) (λ t. t ∷ []) refl (λ ins outs h. h) (λ t e. (t, e, (refl, refl))) (slice_get s.locals k) refl
moves s (I32Const n) f fs p = by_arrow s (I32Const n) f fs [] (I32 ∷ []) refl (λ ins outs h. h) (refl, refl)
moves s (I64Const n) f fs p = by_arrow s (I64Const n) f fs [] (I64 ∷ []) refl (λ ins outs h. h) (refl, refl)
moves s (F32Const n) f fs p = by_none s (F32Const n) f fs refl (λ ins outs h. h)
moves s (F64Const n) f fs p = by_none s (F64Const n) f fs refl (λ ins outs h. h)
moves s (Num op) f fs p = num_moves s op f fs
moves s (GlobalGet k) f fs p = found_moves s (GlobalGet k) f fs (slice_get s.globals k) (λ g. []) (λ g. g.value ∷ []) refl (λ ins outs h. h) (λ g e. (g, e, (refl, refl))) (slice_get s.globals k) refl
moves s (GlobalSet k) f fs p = set_moves s k f fs
moves s (Load op align offset) f fs p = load_moves s op align offset f fs
moves s (Store op align offset) f fs p = store_moves s op align offset f fs
moves s MemorySize f fs p = needs_moves s MemorySize f fs [] (I32 ∷ []) s.has_memory refl (λ ins outs h. h) (λ b. (b, (refl, refl)))
moves s MemoryGrow f fs p = needs_moves s MemoryGrow f fs (I32 ∷ []) (I32 ∷ []) s.has_memory refl (λ ins outs h. h) (λ b. (b, (refl, refl)))
moves s (CallIndirect k) f fs p = indirect_moves s k f fs
