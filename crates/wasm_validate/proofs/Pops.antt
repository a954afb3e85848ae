-- Operands taken or left one after another.
use Rattle.std.proofs.Common.{◌≡◌, ℕ, zero, suc, ◌-◌, ◌<◌, ◌≤◌, Some, None, List, [], ◌∷◌, ◌++◌, length, refl, take, get_or, reverse, sym, ap, ◌∙◌, arith, option_and_then}
use Rattle.std.proofs.lemmas.List.{reverse-append}
use Rattle.std.proofs.Math.Seq.{take-suc}
use Rattle.faaslet_meaning.specs.declared.instr.ValType.{ValType}
use Rattle.wasm_validate.specs.declared.fault.Fault.{Fault}
use Rattle.wasm_validate.specs.declared.fault.Fault.TheVariants.{Invalid, Want}
use Rattle.wasm_validate.specs.Frames.{Frame, push, pop_any, expected, pop, pops}
use Rattle.wasm_validate.specs.Steps.{pushes}
use Rattle.wasm_validate.specs.Gives.{Fails}

pub last_first : (ts : List ValType) (n : ℕ) (d : ValType) → 0 < n → n ≤ length ts → reverse (take n ts) ≡ get_or ts (n - 1) d ∷ reverse (take (n - 1) ts)
last_first ts zero d h l = absurd (omega arith)
last_first ts (suc j) d h l =
    let same : j ≡ suc j - 1 = omega arith in
    ap reverse (take-suc ts j d (omega arith)) ∙ reverse-append (take j ts) (get_or ts j d ∷ []) ∙ ap (λ k. get_or ts k d ∷ reverse (take k ts)) same

pub popped_more : (ts ws : List ValType) (t : ValType) (fs new : List Frame) → ts ≡ t ∷ ws → pop t fs ≡ Some new → pops ws new ≡ pops ts fs
popped_more ts ws t fs new e p = sym (ap (λ l. pops l fs) e ∙ ap (λ o. option_and_then (pops ws) o) p)

-- where any operand may be taken, all of these may
pub all_unknown : (ts : List ValType) (fs : List Frame) → pop_any fs ≡ Some (None, fs) → pops ts fs ≡ Some fs
all_unknown [] fs e = refl
all_unknown (t ∷ ts) fs e = ap (λ o. option_and_then (pops ts) (option_and_then (expected t) o)) e ∙ all_unknown ts fs e

pub fails_more : (fault : Fault) (ts ws : List ValType) (t : ValType) (fs : List Frame) → ts ≡ t ∷ ws → Fails fault (pop t fs) → Fails fault (pops ts fs)
fails_more Want ts ws t fs e p = tt
fails_more Invalid ts ws t fs e p = ap (λ l. pops l fs) e ∙ ap (λ o. option_and_then (pops ws) o) p

pushes_both : (xs ys : List ValType) (fs : List Frame) → pushes (xs ++ ys) fs ≡ pushes xs (pushes ys fs)
pushes_both [] ys fs = refl
pushes_both (x ∷ xs) ys fs = ap (push (Some x)) (pushes_both xs ys fs)

pub pushed_more : (ts : List ValType) (n : ℕ) (d : ValType) (fs new : List Frame) → 0 < n → n ≤ length ts → Some (push (Some (get_or ts (n - 1) d)) fs) ≡ Some new → pushes (take (n - 1) ts) new ≡ pushes (take n ts) fs
pushed_more ts zero d fs new h l e = absurd (omega arith)
pushed_more ts (suc j) d fs new h l e =
    let same : suc j - 1 ≡ j = omega arith in
    let made : new ≡ push (Some (get_or ts j d)) fs = cc (e, ap (λ k. push (Some (get_or ts k d)) fs) same) in
    ap (λ k. pushes (take k ts) new) same
    ∙ ap (pushes (take j ts)) made
    ∙ sym (pushes_both (take j ts) (get_or ts j d ∷ []) fs)
    ∙ ap (λ l. pushes l fs) (sym (take-suc ts j d (omega arith)))
