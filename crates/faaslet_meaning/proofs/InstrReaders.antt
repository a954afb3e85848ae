-- The readers of flat instructions.
use Rattle.std.proofs.Common.{◌≡◌, ℕ, ◌≤◌, eqb, leb, ltb, Bool, true, false, ◌&&◌, List, [], ◌∷◌, ◌++◌, length, take, drop, Option, Some, None, inl, inr, refl, sym, ap, subst, ◌∙◌, arith}
use Rattle.std.specs.Int.{Width, w32, w64, byte_len, from_le_bytes}
use Rattle.std.proofs.lemmas.Bool.{eqb-true, leb-true, leb-false, ltb-false, le-ltb, le-leb, lt-leb, eq-eqb}
use Rattle.std.proofs.lemmas.List.{take-append-drop, length-take, length-append, take_at, drop_at}
use Rattle.faaslet_meaning.specs.declared.instr.ValType.{ValType}
use Rattle.faaslet_meaning.specs.declared.instr.ValType.TheVariants.{I32, I64, F32, F64}
use Rattle.faaslet_meaning.specs.declared.instr.Instr.{Instr}
use Rattle.faaslet_meaning.specs.declared.instr.Instr.TheVariants.{Unreachable, Nop, Block, Loop, If, Else, End, Br, BrIf, BrTable, Return, Call, CallIndirect, Drop, Select, LocalGet, LocalSet, LocalTee, GlobalGet, GlobalSet, Load, Store, MemorySize, MemoryGrow, I32Const, I64Const, F32Const, F64Const, Num}
use Rattle.faaslet_meaning.specs.Productions.{Byte, ◌⨾◌, Front, Fronts}
use Rattle.faaslet_meaning.specs.Numbers.{IsU32, IsS32, IsS64, IsVec}
use Rattle.faaslet_meaning.specs.Instructions.{IsValType, IsBlockType, IsInstr, IsF32, IsF64}
use Rattle.faaslet_meaning.specs.Reading.{mapped, byte_at, tag_at, le_bytes_at, vec_at, val_type_at, block_type_at, unsigned_at, signed_at, bare_at, block_at, index_at, const_at, pair_at, access_at, other_at, instr_at}
use Rattle.faaslet_meaning.proofs.Readers.{Reads, either, mapped_some, bind_some, some_is, front_is, byte_takes, operand_takes, at_value, tagged, tag_parts}
use Rattle.faaslet_meaning.proofs.NumberReaders.{unsigned_reads, signed_reads}
use Rattle.faaslet_meaning.proofs.VecReaders.{fronts, fronts_then, regroup, vec_reads}

and-left : (a b : Bool) → a && b ≡ true → a ≡ true
and-left true b e = refl
and-left false b e = e

and-right : (a b : Bool) → a && b ≡ true → b ≡ true
and-right true b e = e
and-right false b e = absurd cc

-- one flat instruction
abbrev pub IsFlat : Instr → List ℕ → Type 0
IsFlat (Block t) = Byte 0x02 ⨾ IsBlockType t
IsFlat (Loop t) = Byte 0x03 ⨾ IsBlockType t
IsFlat (If t) = Byte 0x04 ⨾ IsBlockType t
IsFlat Else = Byte 0x05
IsFlat End = Byte 0x0B
IsFlat i = IsInstr i

-- the byte k, as a value
abbrev pub IsTag : ℕ → ℕ → List ℕ → Type 0
IsTag k x bytes = (x ≡ k) × Byte x bytes

val_type_takes : (bytes : List ℕ) (x : ValType) (rest : List ℕ) → val_type_at bytes ≡ Some (x, rest) → Front IsValType bytes x rest
unfolding val_type_at byte_at
val_type_takes [] x rest e = absurd cc
val_type_takes (b ∷ bs) x rest e =
    elim (either (eqb b 0x7F)) [
      | inl h ↦ byte_takes IsValType 0x7F b I32 bs x rest (eqb-true _ _ h) refl (rw h at e)
      | inr h ↦ (let e1 = rw h at e in elim (either (eqb b 0x7E)) [
        | inl h ↦ byte_takes IsValType 0x7E b I64 bs x rest (eqb-true _ _ h) refl (rw h at e1)
        | inr h ↦ (let e2 = rw h at e1 in elim (either (eqb b 0x7D)) [
          | inl h ↦ byte_takes IsValType 0x7D b F32 bs x rest (eqb-true _ _ h) refl (rw h at e2)
          | inr h ↦ (let e3 = rw h at e2 in elim (either (eqb b 0x7C)) [
            | inl h ↦ byte_takes IsValType 0x7C b F64 bs x rest (eqb-true _ _ h) refl (rw h at e3)
            | inr h ↦ (let e4 = rw h at e3 in absurd cc)
          ])
        ])
      ])
    ]

val_type_again : (x : ValType) (a rest : List ℕ) → IsValType x a → val_type_at (a ++ rest) ≡ Some (x, rest)
unfolding val_type_at byte_at
val_type_again I32 a rest p = rw p refl
val_type_again I64 a rest p = rw p refl
val_type_again F32 a rest p = rw p refl
val_type_again F64 a rest p = rw p refl

pub val_type_reads : Reads IsValType val_type_at
val_type_reads = record { takes = val_type_takes; again = val_type_again }

block_type_takes : (bytes : List ℕ) (x : Option ValType) (rest : List ℕ) → block_type_at bytes ≡ Some (x, rest) → Front IsBlockType bytes x rest
unfolding block_type_at byte_at
block_type_takes [] x rest e = absurd cc
block_type_takes (b ∷ bs) x rest e =
    elim (either (eqb b 0x40)) [
      | inl h ↦ byte_takes IsBlockType 0x40 b None bs x rest (eqb-true _ _ h) refl (rw h at e)
      | inr h ↦
          (let m = mapped_some (λ t. Some t) (val_type_at (b ∷ bs)) x rest (rw h at e) in
          let f = val_type_takes (b ∷ bs) m.0 rest m.1 in
          let within : IsBlockType (Some m.0) f.text = f.spells in
          record { text = f.text; parts = f.parts; spells = subst (λ y. IsBlockType y f.text) m.2 within })
    ]

block_type_again : (x : Option ValType) (a rest : List ℕ) → IsBlockType x a → block_type_at (a ++ rest) ≡ Some (x, rest)
unfolding block_type_at byte_at val_type_at
block_type_again None a rest p = rw p refl
block_type_again (Some I32) a rest p = rw p refl
block_type_again (Some I64) a rest p = rw p refl
block_type_again (Some F32) a rest p = rw p refl
block_type_again (Some F64) a rest p = rw p refl

pub block_type_reads : Reads IsBlockType block_type_at
block_type_reads = record { takes = block_type_takes; again = block_type_again }

tag_takes : (k : ℕ) (bytes : List ℕ) (x : ℕ) (rest : List ℕ) → tag_at k bytes ≡ Some (x, rest) → Front (IsTag k) bytes x rest
unfolding tag_at byte_at
tag_takes k [] x rest e = absurd cc
tag_takes k (b ∷ bs) x rest e =
    elim (either (eqb b k)) [
      | inl h ↦ (let is : b ≡ k = eqb-true _ _ h in byte_takes (IsTag k) b b b bs x rest refl (is, refl) (rw h at e))
      | inr h ↦ (let e = rw h at e in absurd cc)
    ]

tag_again : (k : ℕ) (x : ℕ) (a rest : List ℕ) → IsTag k x a → tag_at k (a ++ rest) ≡ Some (x, rest)
unfolding tag_at byte_at
tag_again k x a rest p = rw (p.1, eq-eqb x k p.0) refl

pub tag_reads : (k : ℕ) → Reads (IsTag k) (tag_at k)
tag_reads k = record { takes = tag_takes k; again = tag_again k }

le_takes : (w : Width) (P : ℕ → List ℕ → Type 0) (bytes : List ℕ) (x : ℕ) (rest : List ℕ) → ((t : List ℕ) → length t ≡ byte_len w → P (from_le_bytes w t) t) → le_bytes_at w bytes ≡ Some (x, rest) → Front P bytes x rest
unfolding le_bytes_at
le_takes w P bytes x rest back e =
    elim (either (ltb (length bytes) (byte_len w))) [
      | inl short ↦ (let h = rw short at e in absurd cc)
      | inr long ↦
          (let le : byte_len w ≤ length bytes = ltb-false _ _ long in
          let len : length (take (byte_len w) bytes) ≡ byte_len w = omega (arith, length-take (byte_len w) bytes) in
          front_is P bytes (from_le_bytes w (take (byte_len w) bytes), drop (byte_len w) bytes) (x, rest) (some_is _ _ (rw long at e)) (record { text = take (byte_len w) bytes; parts = sym (take-append-drop (byte_len w) bytes); spells = back (take (byte_len w) bytes) len }))
    ]

le_again : (w : Width) (x : ℕ) (a rest : List ℕ) → length a ≡ byte_len w → x ≡ from_le_bytes w a → le_bytes_at w (a ++ rest) ≡ Some (x, rest)
unfolding le_bytes_at
le_again w x a rest len value =
    let long : ltb (length (a ++ rest)) (byte_len w) ≡ false = le-ltb _ _ (omega (arith, length-append a rest)) in
    rw (long, take_at a rest (byte_len w) len, drop_at a rest (byte_len w) len) (at_value _ _ rest (sym value))

f32_reads : Reads IsF32 (le_bytes_at w32)
f32_reads = record { takes = λ bytes x rest e. le_takes w32 IsF32 bytes x rest (λ t len. (len, refl)) e; again = λ x a rest p. le_again w32 x a rest p.0 p.1 }

f64_reads : Reads IsF64 (le_bytes_at w64)
f64_reads = record { takes = λ bytes x rest e. le_takes w64 IsF64 bytes x rest (λ t len. (len, refl)) e; again = λ x a rest p. le_again w64 x a rest p.0 p.1 }

bare_takes : (b : ℕ) (bs : List ℕ) (x : Instr) (rest : List ℕ) → bare_at b bs ≡ Some (x, rest) → Front IsFlat (b ∷ bs) x rest
unfolding bare_at
bare_takes b bs x rest e =
    elim (either (eqb b 0x00)) [
      | inl h ↦ byte_takes IsFlat 0x00 b Unreachable bs x rest (eqb-true _ _ h) refl (rw h at e)
      | inr h ↦ (let e = rw h at e in elim (either (eqb b 0x01)) [
        | inl h ↦ byte_takes IsFlat 0x01 b Nop bs x rest (eqb-true _ _ h) refl (rw h at e)
        | inr h ↦ (let e = rw h at e in elim (either (eqb b 0x05)) [
          | inl h ↦ byte_takes IsFlat 0x05 b Else bs x rest (eqb-true _ _ h) refl (rw h at e)
          | inr h ↦ (let e = rw h at e in elim (either (eqb b 0x0B)) [
            | inl h ↦ byte_takes IsFlat 0x0B b End bs x rest (eqb-true _ _ h) refl (rw h at e)
            | inr h ↦ (let e = rw h at e in elim (either (eqb b 0x0F)) [
              | inl h ↦ byte_takes IsFlat 0x0F b Return bs x rest (eqb-true _ _ h) refl (rw h at e)
              | inr h ↦ (let e = rw h at e in elim (either (eqb b 0x1A)) [
                | inl h ↦ byte_takes IsFlat 0x1A b Drop bs x rest (eqb-true _ _ h) refl (rw h at e)
                | inr h ↦ (let e = rw h at e in elim (either (eqb b 0x1B)) [
                  | inl h ↦ byte_takes IsFlat 0x1B b Select bs x rest (eqb-true _ _ h) refl (rw h at e)
                  | inr h ↦ (let e = rw h at e in absurd cc)
                ])
              ])
            ])
          ])
        ])
      ])
    ]

block_takes : (b : ℕ) (bs : List ℕ) (x : Instr) (rest : List ℕ) → block_at b bs ≡ Some (x, rest) → Front IsFlat (b ∷ bs) x rest
unfolding block_at
block_takes b bs x rest e =
    elim (either (eqb b 0x02)) [
      | inl h ↦ operand_takes IsFlat IsBlockType block_type_at 0x02 b (λ t. Block t) bs x rest block_type_reads (eqb-true _ _ h) (λ n a q. tagged 0x02 a q) (rw h at e)
      | inr h ↦ (let e = rw h at e in elim (either (eqb b 0x03)) [
        | inl h ↦ operand_takes IsFlat IsBlockType block_type_at 0x03 b (λ t. Loop t) bs x rest block_type_reads (eqb-true _ _ h) (λ n a q. tagged 0x03 a q) (rw h at e)
        | inr h ↦ (let e = rw h at e in elim (either (eqb b 0x04)) [
          | inl h ↦ operand_takes IsFlat IsBlockType block_type_at 0x04 b (λ t. If t) bs x rest block_type_reads (eqb-true _ _ h) (λ n a q. tagged 0x04 a q) (rw h at e)
          | inr h ↦ (let e = rw h at e in absurd cc)
        ])
      ])
    ]

index_takes : (b : ℕ) (bs : List ℕ) (x : Instr) (rest : List ℕ) → index_at b bs ≡ Some (x, rest) → Front IsFlat (b ∷ bs) x rest
unfolding index_at
index_takes b bs x rest e =
    elim (either (eqb b 0x0C)) [
      | inl h ↦ operand_takes IsFlat IsU32 (unsigned_at 32) 0x0C b (λ n. Br n) bs x rest (unsigned_reads 32) (eqb-true _ _ h) (λ n a q. tagged 0x0C a q) (rw h at e)
      | inr h ↦ (let e = rw h at e in elim (either (eqb b 0x0D)) [
        | inl h ↦ operand_takes IsFlat IsU32 (unsigned_at 32) 0x0D b (λ n. BrIf n) bs x rest (unsigned_reads 32) (eqb-true _ _ h) (λ n a q. tagged 0x0D a q) (rw h at e)
        | inr h ↦ (let e = rw h at e in elim (either (eqb b 0x10)) [
          | inl h ↦ operand_takes IsFlat IsU32 (unsigned_at 32) 0x10 b (λ n. Call n) bs x rest (unsigned_reads 32) (eqb-true _ _ h) (λ n a q. tagged 0x10 a q) (rw h at e)
          | inr h ↦ (let e = rw h at e in elim (either (eqb b 0x20)) [
            | inl h ↦ operand_takes IsFlat IsU32 (unsigned_at 32) 0x20 b (λ n. LocalGet n) bs x rest (unsigned_reads 32) (eqb-true _ _ h) (λ n a q. tagged 0x20 a q) (rw h at e)
            | inr h ↦ (let e = rw h at e in elim (either (eqb b 0x21)) [
              | inl h ↦ operand_takes IsFlat IsU32 (unsigned_at 32) 0x21 b (λ n. LocalSet n) bs x rest (unsigned_reads 32) (eqb-true _ _ h) (λ n a q. tagged 0x21 a q) (rw h at e)
              | inr h ↦ (let e = rw h at e in elim (either (eqb b 0x22)) [
                | inl h ↦ operand_takes IsFlat IsU32 (unsigned_at 32) 0x22 b (λ n. LocalTee n) bs x rest (unsigned_reads 32) (eqb-true _ _ h) (λ n a q. tagged 0x22 a q) (rw h at e)
                | inr h ↦ (let e = rw h at e in elim (either (eqb b 0x23)) [
                  | inl h ↦ operand_takes IsFlat IsU32 (unsigned_at 32) 0x23 b (λ n. GlobalGet n) bs x rest (unsigned_reads 32) (eqb-true _ _ h) (λ n a q. tagged 0x23 a q) (rw h at e)
                  | inr h ↦ (let e = rw h at e in elim (either (eqb b 0x24)) [
                    | inl h ↦ operand_takes IsFlat IsU32 (unsigned_at 32) 0x24 b (λ n. GlobalSet n) bs x rest (unsigned_reads 32) (eqb-true _ _ h) (λ n a q. tagged 0x24 a q) (rw h at e)
                    | inr h ↦ (let e = rw h at e in absurd cc)
                  ])
                ])
              ])
            ])
          ])
        ])
      ])
    ]

const_takes : (b : ℕ) (bs : List ℕ) (x : Instr) (rest : List ℕ) → const_at b bs ≡ Some (x, rest) → Front IsFlat (b ∷ bs) x rest
unfolding const_at
const_takes b bs x rest e =
    elim (either (eqb b 0x41)) [
      | inl h ↦ operand_takes IsFlat IsS32 (signed_at 32) 0x41 b (λ n. I32Const n) bs x rest (signed_reads 32) (eqb-true _ _ h) (λ n a q. tagged 0x41 a q) (rw h at e)
      | inr h ↦ (let e = rw h at e in elim (either (eqb b 0x42)) [
        | inl h ↦ operand_takes IsFlat IsS64 (signed_at 64) 0x42 b (λ n. I64Const n) bs x rest (signed_reads 64) (eqb-true _ _ h) (λ n a q. tagged 0x42 a q) (rw h at e)
        | inr h ↦ (let e = rw h at e in elim (either (eqb b 0x43)) [
          | inl h ↦ operand_takes IsFlat IsF32 (le_bytes_at w32) 0x43 b (λ n. F32Const n) bs x rest f32_reads (eqb-true _ _ h) (λ n a q. tagged 0x43 a q) (rw h at e)
          | inr h ↦ (let e = rw h at e in elim (either (eqb b 0x44)) [
            | inl h ↦ operand_takes IsFlat IsF64 (le_bytes_at w64) 0x44 b (λ n. F64Const n) bs x rest f64_reads (eqb-true _ _ h) (λ n a q. tagged 0x44 a q) (rw h at e)
            | inr h ↦ (let e = rw h at e in absurd cc)
          ])
        ])
      ])
    ]

abbrev pub IsPair : ℕ × ℕ → List ℕ → Type 0
IsPair m = IsU32 m.0 ⨾ IsU32 m.1

pair_takes : (bytes : List ℕ) (x : ℕ × ℕ) (rest : List ℕ) → pair_at bytes ≡ Some (x, rest) → Front IsPair bytes x rest
unfolding pair_at
pair_takes bytes x rest e =
    let al = bind_some (unsigned_at 32 bytes) (λ al. mapped (λ o. (al.0, o)) (unsigned_at 32 al.1)) (x, rest) e in
    let o = mapped_some (λ o. (al.0.0, o)) (unsigned_at 32 al.0.1) x rest al.2 in
    let two = fronts_then (fronts ((unsigned_reads 32).takes bytes al.0.0 al.0.1 al.1)) (fronts ((unsigned_reads 32).takes al.0.1 o.0 rest o.1)) in
    record { text = two.text; parts = two.parts; spells = subst (λ (m : ℕ × ℕ). IsPair m two.text) o.2 two.spells }

pair_again : (x : ℕ × ℕ) (a rest : List ℕ) → IsPair x a → pair_at (a ++ rest) ≡ Some (x, rest)
unfolding pair_at
pair_again x a rest q = ap pair_at (regroup q rest) ∙ rw ((unsigned_reads 32).again x.0 q.front (q.back ++ rest) q.first, (unsigned_reads 32).again x.1 q.back rest q.second) refl

pub pair_reads : Reads IsPair pair_at
pair_reads = record { takes = pair_takes; again = pair_again }

access_takes : (b : ℕ) (bs : List ℕ) (x : Instr) (rest : List ℕ) → 0x28 ≤ b → b ≤ 0x3E → access_at b bs ≡ Some (x, rest) → Front IsFlat (b ∷ bs) x rest
unfolding access_at
access_takes b bs x rest low high e =
    elim (either (leb b 0x35)) [
      | inl h ↦ (let le : b ≤ 0x35 = leb-true _ _ h in operand_takes IsFlat IsPair pair_at b b (λ m. Load b m.0 m.1) bs x rest pair_reads refl (λ n a q. record { front = b ∷ []; back = a; parts = refl; first = (low, le, refl); second = q }) (rw h at e))
      | inr h ↦ (let lt : 0x36 ≤ b = (let k = leb-false b 0x35 h in omega arith) in operand_takes IsFlat IsPair pair_at b b (λ m. Store b m.0 m.1) bs x rest pair_reads refl (λ n a q. record { front = b ∷ []; back = a; parts = refl; first = (lt, high, refl); second = q }) (rw h at e))
    ]

labels_reads : Reads (IsVec IsU32) (vec_at (unsigned_at 32))
labels_reads = vec_reads IsU32 (unsigned_at 32) (unsigned_reads 32)

tag_front : (k b : ℕ) (bs : List ℕ) → b ≡ k → Fronts (Byte k) (b ∷ bs) bs
tag_front k b bs is = record { text = k ∷ []; parts = ap (λ (h : ℕ). h ∷ bs) is; spells = refl }

other_takes : (b : ℕ) (bs : List ℕ) (x : Instr) (rest : List ℕ) → other_at b bs ≡ Some (x, rest) → Front IsFlat (b ∷ bs) x rest
unfolding other_at
other_takes b bs x rest e =
    elim (either (eqb b 0x0E)) [
      | inl h ↦ (let e = rw h at e in
          let ls = bind_some (vec_at (unsigned_at 32) bs) (λ ls. mapped (λ n. BrTable ls.0 n) (unsigned_at 32 ls.1)) (x, rest) e in
          let n = mapped_some (λ n. BrTable ls.0.0 n) (unsigned_at 32 ls.0.1) x rest ls.2 in
          let all = fronts_then (tag_front 0x0E b bs (eqb-true _ _ h)) (fronts_then (fronts (labels_reads.takes bs ls.0.0 ls.0.1 ls.1)) (fronts ((unsigned_reads 32).takes ls.0.1 n.0 rest n.1))) in
          record { text = all.text; parts = all.parts; spells = subst (λ (i : Instr). IsFlat i all.text) n.2 all.spells })
      | inr h ↦ (let e = rw h at e in elim (either (eqb b 0x11)) [
        | inl h ↦ (let e = rw h at e in
            let t = bind_some (unsigned_at 32 bs) (λ t. mapped (λ _. CallIndirect t.0) (tag_at 0x00 t.1)) (x, rest) e in
            let z = mapped_some (λ _. CallIndirect t.0.0) (tag_at 0x00 t.0.1) x rest t.2 in
            let zero_tag = tag_takes 0x00 t.0.1 z.0 rest z.1 in
            let last : Fronts (Byte 0x00) t.0.1 rest = record { text = zero_tag.text; parts = zero_tag.parts; spells = zero_tag.spells.1 ∙ ap (λ (k : ℕ). k ∷ []) zero_tag.spells.0 } in
            let all = fronts_then (tag_front 0x11 b bs (eqb-true _ _ h)) (fronts_then (fronts ((unsigned_reads 32).takes bs t.0.0 t.0.1 t.1)) last) in
            record { text = all.text; parts = all.parts; spells = subst (λ (i : Instr). IsFlat i all.text) z.2 all.spells })
        | inr h ↦ (let e = rw h at e in elim (either (eqb b 0x3F)) [
          | inl h ↦ (let z = mapped_some (λ _. MemorySize) (tag_at 0x00 bs) x rest (rw h at e) in
              let zero_tag = tag_takes 0x00 bs z.0 rest z.1 in
              let last : Fronts (Byte 0x00) bs rest = record { text = zero_tag.text; parts = zero_tag.parts; spells = zero_tag.spells.1 ∙ ap (λ (k : ℕ). k ∷ []) zero_tag.spells.0 } in
              let all = fronts_then (tag_front 0x3F b bs (eqb-true _ _ h)) last in
              record { text = all.text; parts = all.parts; spells = subst (λ (i : Instr). IsFlat i all.text) z.2 all.spells })
          | inr h ↦ (let e = rw h at e in elim (either (eqb b 0x40)) [
            | inl h ↦ (let z = mapped_some (λ _. MemoryGrow) (tag_at 0x00 bs) x rest (rw h at e) in
                let zero_tag = tag_takes 0x00 bs z.0 rest z.1 in
                let last : Fronts (Byte 0x00) bs rest = record { text = zero_tag.text; parts = zero_tag.parts; spells = zero_tag.spells.1 ∙ ap (λ (k : ℕ). k ∷ []) zero_tag.spells.0 } in
                let all = fronts_then (tag_front 0x40 b bs (eqb-true _ _ h)) last in
                record { text = all.text; parts = all.parts; spells = subst (λ (i : Instr). IsFlat i all.text) z.2 all.spells })
            | inr h ↦ (let e = rw h at e in absurd cc)
          ])
        ])
      ])
    ]

instr_takes : (bytes : List ℕ) (x : Instr) (rest : List ℕ) → instr_at bytes ≡ Some (x, rest) → Front IsFlat bytes x rest
unfolding instr_at byte_at
instr_takes [] x rest e = absurd cc
instr_takes (b ∷ bs) x rest e =
    elim (either (leb 0x45 b && leb b 0xBF)) [
      | inl h ↦ byte_takes IsFlat b b (Num b) bs x rest refl (leb-true _ _ (and-left (leb 0x45 b) (leb b 0xBF) h), leb-true _ _ (and-right (leb 0x45 b) (leb b 0xBF) h), refl) (rw h at e)
      | inr h ↦ (let e = rw h at e in elim (either (leb 0x28 b && leb b 0x3E)) [
        | inl h ↦ access_takes b bs x rest (leb-true _ _ (and-left (leb 0x28 b) (leb b 0x3E) h)) (leb-true _ _ (and-right (leb 0x28 b) (leb b 0x3E) h)) (rw h at e)
        | inr h ↦ (let e = rw h at e in elim (either (leb 0x41 b && leb b 0x44)) [
          | inl h ↦ const_takes b bs x rest (rw h at e)
          | inr h ↦ (let e = rw h at e in elim (either (leb 0x20 b && leb b 0x24)) [
            | inl h ↦ index_takes b bs x rest (rw h at e)
            | inr h ↦ (let e = rw h at e in elim (either (eqb b 0x0C)) [
              | inl h ↦ index_takes b bs x rest (rw h at e)
              | inr h ↦ (let e = rw h at e in elim (either (eqb b 0x0D)) [
                | inl h ↦ index_takes b bs x rest (rw h at e)
                | inr h ↦ (let e = rw h at e in elim (either (eqb b 0x10)) [
                  | inl h ↦ index_takes b bs x rest (rw h at e)
                  | inr h ↦ (let e = rw h at e in elim (either (leb 0x02 b && leb b 0x04)) [
                    | inl h ↦ block_takes b bs x rest (rw h at e)
                    | inr h ↦ (let e = rw h at e in elim (either (eqb b 0x0E)) [
                      | inl h ↦ other_takes b bs x rest (rw h at e)
                      | inr h ↦ (let e = rw h at e in elim (either (eqb b 0x11)) [
                        | inl h ↦ other_takes b bs x rest (rw h at e)
                        | inr h ↦ (let e = rw h at e in elim (either (leb 0x3F b && leb b 0x40)) [
                          | inl h ↦ other_takes b bs x rest (rw h at e)
                          | inr h ↦ bare_takes b bs x rest (rw h at e)
                        ])
                      ])
                    ])
                  ])
                ])
              ])
            ])
          ])
        ])
      ])
    ]

instr_again : (x : Instr) (a rest : List ℕ) → IsFlat x a → instr_at (a ++ rest) ≡ Some (x, rest)
unfolding instr_at byte_at bare_at block_at index_at const_at access_at other_at tag_at
instr_again Unreachable a rest p = rw p refl
instr_again Nop a rest p = rw p refl
instr_again Else a rest p = rw p refl
instr_again End a rest p = rw p refl
instr_again Return a rest p = rw p refl
instr_again Drop a rest p = rw p refl
instr_again Select a rest p = rw p refl
instr_again (Block t) a rest p = ap instr_at (tag_parts (IsBlockType t) 0x02 a rest p) ∙ rw (block_type_again t p.back rest p.second) refl
instr_again (Loop t) a rest p = ap instr_at (tag_parts (IsBlockType t) 0x03 a rest p) ∙ rw (block_type_again t p.back rest p.second) refl
instr_again (If t) a rest p = ap instr_at (tag_parts (IsBlockType t) 0x04 a rest p) ∙ rw (block_type_again t p.back rest p.second) refl
instr_again (Br n) a rest p = ap instr_at (tag_parts (IsU32 n) 0x0C a rest p) ∙ rw ((unsigned_reads 32).again n p.back rest p.second) refl
instr_again (BrIf n) a rest p = ap instr_at (tag_parts (IsU32 n) 0x0D a rest p) ∙ rw ((unsigned_reads 32).again n p.back rest p.second) refl
instr_again (Call n) a rest p = ap instr_at (tag_parts (IsU32 n) 0x10 a rest p) ∙ rw ((unsigned_reads 32).again n p.back rest p.second) refl
instr_again (LocalGet n) a rest p = ap instr_at (tag_parts (IsU32 n) 0x20 a rest p) ∙ rw ((unsigned_reads 32).again n p.back rest p.second) refl
instr_again (LocalSet n) a rest p = ap instr_at (tag_parts (IsU32 n) 0x21 a rest p) ∙ rw ((unsigned_reads 32).again n p.back rest p.second) refl
instr_again (LocalTee n) a rest p = ap instr_at (tag_parts (IsU32 n) 0x22 a rest p) ∙ rw ((unsigned_reads 32).again n p.back rest p.second) refl
instr_again (GlobalGet n) a rest p = ap instr_at (tag_parts (IsU32 n) 0x23 a rest p) ∙ rw ((unsigned_reads 32).again n p.back rest p.second) refl
instr_again (GlobalSet n) a rest p = ap instr_at (tag_parts (IsU32 n) 0x24 a rest p) ∙ rw ((unsigned_reads 32).again n p.back rest p.second) refl
instr_again (I32Const n) a rest p = ap instr_at (tag_parts (IsS32 n) 0x41 a rest p) ∙ rw ((signed_reads 32).again n p.back rest p.second) refl
instr_again (I64Const n) a rest p = ap instr_at (tag_parts (IsS64 n) 0x42 a rest p) ∙ rw ((signed_reads 64).again n p.back rest p.second) refl
instr_again (F32Const n) a rest p = ap instr_at (tag_parts (IsF32 n) 0x43 a rest p) ∙ rw (f32_reads.again n p.back rest p.second) refl
instr_again (F64Const n) a rest p = ap instr_at (tag_parts (IsF64 n) 0x44 a rest p) ∙ rw (f64_reads.again n p.back rest p.second) refl
instr_again (BrTable ls l) a rest p = let q = p.second in ap instr_at (tag_parts (IsVec IsU32 ls ⨾ IsU32 l) 0x0E a rest p) ∙ rw (regroup q rest, labels_reads.again ls q.front (q.back ++ rest) q.first, (unsigned_reads 32).again l q.back rest q.second) refl
instr_again (CallIndirect t) a rest p = let q = p.second in ap instr_at (tag_parts (IsU32 t ⨾ Byte 0x00) 0x11 a rest p) ∙ rw (regroup q rest, (unsigned_reads 32).again t q.front (q.back ++ rest) q.first, q.second) refl
instr_again MemorySize a rest p = ap instr_at (tag_parts (Byte 0x00) 0x3F a rest p) ∙ rw p.second refl
instr_again MemoryGrow a rest p = ap instr_at (tag_parts (Byte 0x00) 0x40 a rest p) ∙ rw p.second refl
instr_again (Load op align offset) a rest p =
    let low : 0x28 ≤ op = p.first.0 in
    let high : op ≤ 0x35 = p.first.1 in
    ap instr_at (regroup p rest) ∙ rw (p.first.2, lt-leb 0x45 op (omega arith), le-leb 0x28 op low, le-leb op 0x3E (omega arith), le-leb op 0x35 high, pair_again (align, offset) p.back rest p.second) refl
instr_again (Store op align offset) a rest p =
    let low : 0x36 ≤ op = p.first.0 in
    let high : op ≤ 0x3E = p.first.1 in
    ap instr_at (regroup p rest) ∙ rw (p.first.2, lt-leb 0x45 op (omega arith), le-leb 0x28 op (omega arith), le-leb op 0x3E high, lt-leb op 0x35 (omega arith), pair_again (align, offset) p.back rest p.second) refl
instr_again (Num op) a rest p = rw (p.2, le-leb _ _ p.0, le-leb _ _ p.1) refl

pub instr_reads : Reads IsFlat instr_at
instr_reads = record { takes = instr_takes; again = instr_again }
