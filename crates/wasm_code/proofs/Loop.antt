-- Reading one after the other, as a loop does, by any reader.
use Rattle.std.proofs.Common.{◌≡◌, ℕ, suc, ◌-◌, ◌+◌, ◌≤◌, ◌<◌, List, [], ◌∷◌, ◌++◌, Option, Some, None, Result, Ok, Err, refl, sym, ap, ◌∙◌, append_assoc, arith}
use Rattle.std.proofs.lemmas.List.{append-nil}
use Rattle.wasm_code.specs.declared.fault.BodyFault.{BodyFault}
use Rattle.wasm_code.specs.declared.fault.BodyFault.TheVariants as faults
use Rattle.std.specs.Result.{IsErrOf}
use Rattle.wasm_code.specs.Reading.{Fails, GivesOrWants}
use Rattle.std.specs.Prelude.{IfOk}
use Rattle.std.specs.Borrow.{Bor}
use Rattle.faaslet_meaning.specs.declared.instr.Instr.{Instr}
use Rattle.faaslet_meaning.specs.Productions.{Front, NoFront}
use Rattle.faaslet_meaning.specs.Instructions.{IsExpression}
use Rattle.faaslet_meaning.specs.Reading.{Read, mapped, many_at}
use Rattle.faaslet_meaning.specs.ModuleReading.{expression_at}
use Rattle.faaslet_meaning.proofs.BodyReaders.{expression_reads}

-- what was read before, and what is still read
abbrev pub with_front : {A : Type 0} → List A → Read (List A) → Read (List A)
with_front front read = mapped (λ xs. front ++ xs) read

regroup : {A : Type 0} (front : List A) (x : A) (read : Read (List A)) → with_front front (mapped (λ xs. x ∷ xs) read) ≡ with_front (front ++ x ∷ []) read
regroup front x (Some y) = ap (λ xs. Some (xs, y.1)) (simp append_assoc)
regroup front x None = refl

pub goes_on : {A : Type 0} (at : List ℕ → Read A) (front : List A) (count i : ℕ) (bytes : List ℕ) (x : A) (after : List ℕ) (total : Read (List A)) → i < count → at bytes ≡ Some (x, after)
    → with_front front (many_at at (count - i) bytes) ≡ total → with_front (front ++ x ∷ []) (many_at at (count - (i + 1)) after) ≡ total
unfolding many_at
goes_on at front count i bytes x after total lt h so_far =
    let k : count - i ≡ suc (count - (i + 1)) = omega arith in
    let one : with_front front (many_at at (count - i) bytes) ≡ with_front (front ++ x ∷ []) (many_at at (count - (i + 1)) after) = rw (k, h) (regroup front x (many_at at (count - (i + 1)) after)) in
    sym one ∙ so_far

pub ends : {A : Type 0} (at : List ℕ → Read A) (front : List A) (count i : ℕ) (bytes : List ℕ) (total : Read (List A)) → i < count → at bytes ≡ None
    → with_front front (many_at at (count - i) bytes) ≡ total → total ≡ None
unfolding many_at
ends at front count i bytes total lt h so_far =
    let k : count - i ≡ suc (count - (i + 1)) = omega arith in
    let one : with_front front (many_at at (count - i) bytes) ≡ None = rw (k, h) refl in
    sym so_far ∙ one

pub fails_on : {A : Type 0} (e : BodyFault) (at : List ℕ → Read A) (front : List A) (count i : ℕ) (bytes : List ℕ) (total : Read (List A)) → i < count → Fails e (at bytes)
    → with_front front (many_at at (count - i) bytes) ≡ total → Fails e total
fails_on faults.Want at front count i bytes total lt h so_far = tt
fails_on faults.Malformed at front count i bytes total lt h so_far = ends at front count i bytes total lt h so_far

pub is_done : {A : Type 0} (at : List ℕ → Read A) (front : List A) (count i : ℕ) (bytes : List ℕ) (total : Read (List A)) → count ≤ i → with_front front (many_at at (count - i) bytes) ≡ total → total ≡ Some (front, bytes)
unfolding many_at
is_done at front count i bytes total le so_far =
    let k : count - i ≡ 0 = omega arith in
    let one : with_front front (many_at at (count - i) bytes) ≡ Some (front, bytes) = rw k (ap (λ xs. Some (xs, bytes)) (append-nil front)) in
    sym so_far ∙ one

-- the same, as one fact with a name
pub record Going {A : Type 0} (at : List ℕ → Read A) (front : List A) (count i : ℕ) (bytes : List ℕ) (total : Read (List A)) : Type 0 where
  pub so_far : with_front front (many_at at (count - i) bytes) ≡ total

pub going_first : {A : Type 0} (at : List ℕ → Read A) (count : ℕ) (bytes : List ℕ) → Going at [] count 0 bytes (many_at at count bytes)
going_first {A = A} at count bytes = let k : count - 0 ≡ count = omega arith in record { so_far = rw k (go (many_at at count bytes)) }
  where
    go : (r : Read (List A)) → with_front [] r ≡ r
    go (Some x) = refl
    go None = refl

pub going_on : {A : Type 0} (at : List ℕ → Read A) (new front : List A) (count i : ℕ) (bytes : List ℕ) (x : A) (after : List ℕ) (total : Read (List A)) → Going at front count i bytes total → i < count → at bytes ≡ Some (x, after) → new ≡ front ++ x ∷ [] → Going at new count (i + 1) after total
going_on at new front count i bytes x after total g lt h e = record { so_far = rw e (goes_on at front count i bytes x after total lt h g.so_far) }

pub going_fails : {A : Type 0} (e : BodyFault) (at : List ℕ → Read A) (front : List A) (count i : ℕ) (bytes : List ℕ) (total : Read (List A)) → Going at front count i bytes total → i < count → Fails e (at bytes) → Fails e total
going_fails e at front count i bytes total g lt h = fails_on e at front count i bytes total lt h g.so_far

pub going_none : {A : Type 0} (at : List ℕ → Read A) (front : List A) (count i : ℕ) (bytes : List ℕ) (total : Read (List A)) → Going at front count i bytes total → i < count → at bytes ≡ None → total ≡ None
going_none at front count i bytes total g lt h = ends at front count i bytes total lt h g.so_far

pub going_done : {A : Type 0} (at : List ℕ → Read A) (front : List A) (count i : ℕ) (bytes : List ℕ) (total : Read (List A)) → Going at front count i bytes total → count ≤ i → total ≡ Some (front, bytes)
going_done at front count i bytes total g le = is_done at front count i bytes total le g.so_far

pub ruleset going = (going_first, going_on, going_fails, going_none, going_done)

-- what the loop over instructions answered, as reading gives it
pub gives_expression : (r : Result (List Instr × Bor (List ℕ)) BodyFault) (bytes : List ℕ) → IfOk r (λ x. Front IsExpression bytes x.0 x.1.now) → (IsErrOf r faults.Malformed → NoFront IsExpression bytes) → GivesOrWants (λ x. (x.0, x.1.now)) r (expression_at bytes)
gives_expression (Ok x) bytes found none = ap expression_at found.parts ∙ expression_reads.again x.0 found.text x.1.now found.spells
gives_expression (Err faults.Want) bytes found none = tt
gives_expression (Err faults.Malformed) bytes found none = go (expression_at bytes) refl
  where
    go : (o : Read (List Instr)) → expression_at bytes ≡ o → o ≡ None
    go None e = refl
    go (Some p) e = let f = expression_reads.takes bytes p.0 p.1 e in absurd ((none refl).none p.0 f.text p.1 f.parts f.spells)

-- an error of a callee that a `?` passes on, where it is `Malformed`
pub passed_none : {T Y : Type 0} (r : Result T BodyFault) (x y : BodyFault) (read : Option Y) → r ≡ Err x → x ≡ y → Fails y read → IsErrOf r faults.Malformed → read ≡ None
passed_none {T = T} r x y read is same fails of = go y fails (sym same ∙ error_is r x is of)
  where
    error_is : (r : Result T BodyFault) (x : BodyFault) → r ≡ Err x → IsErrOf r faults.Malformed → x ≡ faults.Malformed
    error_is r x is of = cc

    go : (y : BodyFault) → Fails y read → y ≡ faults.Malformed → read ≡ None
    go faults.Malformed fails e = fails
    go faults.Want fails e = absurd cc
