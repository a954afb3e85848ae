-- What the crate `hex` decodes is what the words say of an input.
use Rattle.std.proofs.Common.{◌≡◌, ℕ, ◌+◌, ◌*◌, ◌%◌, ◌<◌, ◌≤◌, List, [], ◌∷◌, Option, Some, None, Result, Ok, Err, length, refl, sym, ap, subst, ◌∙◌, inl, inr, ◌⊎◌, arith}
use Rattle.std.proofs.lemmas.Bool.Decides.{nat_tests}
use Rattle.hex.specs.Hex.{hex_digit_value, digit_or_error, value_at, pair_value, decode_pairs, decode_of, ◌>>=◌}
use Rattle.hex.proofs.HexLemmas.{decode_of-even, decode_of-ok}
use Rattle.hex.specs.declared.error.FromHexError.{FromHexError}
use Rattle.hex.specs.declared.error.FromHexError.TheVariants.{OutOfMemory}
use Rattle.std.specs.Prelude.{IsErrOf}
use Rattle.std.specs.Result.{IsErrAnd}
use Rattle.faasm_top.specs.declared.words.WordsFault.{WordsFault}
use Rattle.faasm_top.specs.declared.words.WordsFault.TheVariants.{Usage, Want}
use Rattle.faaslet_meaning.specs.Productions.{NoSpelling}
use Rattle.faaslet_meaning.specs.Words.{IsHexDigit, IsHex, IsInput}

digit_found : (c v : ℕ) → hex_digit_value c ≡ Some v → IsHexDigit v c
digit_found c v h = record { spells = grind (arith, nat_tests) }

digit_again : (c v : ℕ) → IsHexDigit v c → hex_digit_value c ≡ Some v
digit_again c v p = grind (arith, nat_tests)

value_found : (c i : ℕ) (o : Option ℕ) (v : ℕ) → digit_or_error c i o ≡ Ok v → o ≡ Some v
value_found c i (Some w) v h = cc
value_found c i None v h = absurd cc

bind_ok : {A B : Type 0} (r : Result A FromHexError) (f : A → Result B FromHexError) (y : B) → (r >>= f) ≡ Ok y → (x : A) × (r ≡ Ok x) × (f x ≡ Ok y)
bind_ok (Ok x) f y h = (x, refl, h)
bind_ok (Err e) f y h = absurd cc

ok_is : {A : Type 0} (x y : A) → (let r : Result A FromHexError = Ok x in r ≡ Ok y) → x ≡ y
ok_is x y e = cc

hex_found : (i : ℕ) (bytes word : List ℕ) → decode_pairs i word ≡ Ok bytes → IsHex bytes word
unfolding decode_pairs
hex_found i [] [] h = tt
hex_found i (b ∷ bytes) [] h = absurd cc
hex_found i bytes (c ∷ []) h = absurd cc
hex_found i bytes (a ∷ b ∷ word) h =
    let pair = bind_ok (pair_value a b i) _ bytes h in
    let high = bind_ok (value_at a i) _ pair.0 pair.1 in
    let low = bind_ok (value_at b (i + 1)) _ pair.0 high.2 in
    let more = bind_ok (decode_pairs (i + 2) word) _ bytes pair.2 in
    let whole : pair.0 ∷ more.0 ≡ bytes = ok_is _ _ more.2 in
    let byte : high.0 * 16 + low.0 ≡ pair.0 = ok_is _ _ low.2 in
    let digits : IsHexDigit high.0 a × IsHexDigit low.0 b =
    (digit_found a high.0 (value_found a i (hex_digit_value a) high.0 high.1), digit_found b low.0 (value_found b (i + 1) (hex_digit_value b) low.0 low.1)) in
    subst (λ t. IsHex t (a ∷ b ∷ word)) whole ((high.0, low.0, digits.0, digits.1, omega (arith, byte)), hex_found (i + 2) more.0 word more.1)

hex_again : (i : ℕ) (bytes word : List ℕ) → IsHex bytes word → decode_pairs i word ≡ Ok bytes
unfolding decode_pairs
hex_again i [] [] p = refl
hex_again i (x ∷ bytes) (h ∷ l ∷ word) p =
    let byte : p.0.0 * 16 + p.0.1 ≡ x = omega (arith, p.0.4) in
    rw (digit_again h p.0.0 p.0.2, digit_again l p.0.1 p.0.3, hex_again (i + 2) bytes word p.1) (ap (λ (t : ℕ). let r : Result (List ℕ) FromHexError = Ok (t ∷ bytes) in r) byte)
hex_again i [] (c ∷ word) p = absurd p
hex_again i (x ∷ bytes) [] p = absurd p
hex_again i (x ∷ bytes) (h ∷ []) p = absurd p

hex_length : (bytes word : List ℕ) → IsHex bytes word → length word ≡ 2 * length bytes
hex_length [] [] p = refl
hex_length (x ∷ bytes) (h ∷ l ∷ word) p = omega (arith, hex_length bytes word p.1)
hex_length [] (c ∷ word) p = absurd p
hex_length (x ∷ bytes) [] p = absurd p
hex_length (x ∷ bytes) (h ∷ []) p = absurd p

-- what is decoded, of a word that is not too long
pub input_found : (bytes word : List ℕ) → decode_of word ≡ Ok bytes → length word ≤ 131072 → IsInput bytes word
input_found bytes word h few =
    let even = decode_of-ok word bytes h in
    let spells = hex_found 0 bytes word (sym (decode_of-even word even.0) ∙ h) in
    record { spells = spells; few = omega (arith, hex_length bytes word spells) }

input_again : (bytes word : List ℕ) → IsInput bytes word → decode_of word ≡ Ok bytes
input_again bytes word p =
    let even : length word % 2 ≡ 0 = omega (arith, hex_length bytes word p.spells) in
    decode_of-even word even ∙ hex_again 0 bytes word p.spells

-- a word that is too long, and one that isn't decoded though there was memory
pub input_long : (word : List ℕ) → 131072 < length word → NoSpelling IsInput word
input_long word long = record { none = λ bytes p. absurd (omega (arith, hex_length bytes word p.spells, p.few)) }

pub input_none : (word : List ℕ) (e : FromHexError) → (e ≡ OutOfMemory → ⊥) → (e ≡ OutOfMemory) ⊎ (decode_of word ≡ Err e) → NoSpelling IsInput word
input_none word e had (inl out) = absurd (had out)
input_none word e had (inr h) = record { none = λ bytes p. let again = input_again bytes word p in absurd cc }

-- a fault that is told as bad usage was no want of memory
pub refused : {T : Type 0} (r : Result T WordsFault) (e : FromHexError) → IsErrAnd r (λ f. (e ≡ OutOfMemory → f ≡ Want) × ((e ≡ OutOfMemory → ⊥) → f ≡ Usage)) → IsErrOf r Usage → e ≡ OutOfMemory → ⊥
refused (Ok x) e gives is out = absurd gives
refused (Err f) e gives is out = let want = gives.0 out in absurd cc
