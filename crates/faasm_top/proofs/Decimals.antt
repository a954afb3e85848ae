-- A word that is parsed and printed again is the one spelling of its number.
use Rattle.std.proofs.Common.{◌≡◌, ℕ, ◌^◌, ◌<◌, ◌≤◌, List, Result, Ok, Err, sym, ap, ◌∙◌, arith}
use Rattle.std.specs.Fmt.{decimal}
use Rattle.std.specs.Str.Parse.{ParsesUnsigned}
use Rattle.std.proofs.lemmas.Fmt.{parse-decimal}
use Rattle.faaslet_meaning.specs.Productions.{NoSpelling}
use Rattle.faaslet_meaning.specs.Words.{IsNumber}

-- a word that is no number
pub unparsed : {E : Type 0} (least most : ℕ) (word : List ℕ) (r : Result ℕ E) (e : E) → most < 2 ^ 64 → r ≡ Err e → ParsesUnsigned 64 10 word r → NoSpelling (IsNumber least most) word
unparsed least most word r e few is parses =
    record { none = λ n p. (let again = parse-decimal 64 n word r (omega (arith, p.at_most)) (omega (arith, p.at_most)) p.spells parses in cc) }

same_number : {E : Type 0} (least most : ℕ) (word : List ℕ) (r : Result ℕ E) (m n : ℕ) → most < 2 ^ 64 → r ≡ Ok m → ParsesUnsigned 64 10 word r → IsNumber least most n word → m ≡ n
same_number least most word r m n few is parses p = let again = parse-decimal 64 n word r (omega (arith, p.at_most)) (omega (arith, p.at_most)) p.spells parses in cc

-- one whose number is out of range
pub out : {E : Type 0} (least most : ℕ) (word : List ℕ) (r : Result ℕ E) (m : ℕ) → most < 2 ^ 64 → r ≡ Ok m → ParsesUnsigned 64 10 word r → (least ≤ m → most < m) → NoSpelling (IsNumber least most) word
out least most word r m few is parses far =
    record { none = λ n p. (let same = same_number least most word r m n few is parses p in absurd (omega (arith, p.at_least, p.at_most))) }

-- and one that isn't its number printed
pub other : {E : Type 0} (least most : ℕ) (word : List ℕ) (r : Result ℕ E) (m : ℕ) → most < 2 ^ 64 → r ≡ Ok m → ParsesUnsigned 64 10 word r → (decimal m ≡ word → ⊥) → NoSpelling (IsNumber least most) word
other least most word r m few is parses differs =
    record { none = λ n p. (let same = same_number least most word r m n few is parses p in absurd (differs (ap decimal same ∙ sym p.spells))) }
