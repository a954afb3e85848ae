-- Words are one command at most.
use Rattle.std.proofs.Common.{◌≡◌, ℕ, ◌<◌, ◌^◌, List, [], ◌∷◌, length, codes, refl, sym, ap, ◌∙◌, arith, lit<}
use Rattle.std.specs.Fmt.{decimal}
use Rattle.std.proofs.lemmas.Fmt.{decimal_injective}
use Rattle.faaslet_meaning.specs.Words.{Command, check, call, trace, run, load, IsHexDigit, IsHex, IsInput, IsNumber, CommandOf}

one_digit : (m n c : ℕ) → IsHexDigit m c → IsHexDigit n c → m ≡ n
one_digit m n c p q = grind arith

one_hex : (a b word : List ℕ) → IsHex a word → IsHex b word → a ≡ b
one_hex [] [] [] p q = refl
one_hex (a ∷ as_) (b ∷ bs) (h ∷ l ∷ word) p q =
    let high : p.0.0 ≡ q.0.0 = one_digit p.0.0 q.0.0 h p.0.2 q.0.2 in
    let low : p.0.1 ≡ q.0.1 = one_digit p.0.1 q.0.1 l p.0.3 q.0.3 in
    let head : a ≡ b = omega arith in
    let tail : as_ ≡ bs = one_hex as_ bs word p.1 q.1 in
    cc
one_hex [] b (c ∷ word) p q = absurd p
one_hex [] (b ∷ bs) [] p q = absurd q
one_hex (a ∷ as_) b [] p q = absurd p
one_hex (a ∷ as_) b (h ∷ []) p q = absurd p
one_hex (a ∷ as_) [] (h ∷ l ∷ word) p q = absurd q

one_input : (a b v w : List ℕ) → v ≡ w → IsInput a v → IsInput b w → a ≡ b
one_input a b v w same p q = one_hex a b v p.spells (rw same q.spells)

one_number : (low high m n : ℕ) (v w : List ℕ) → high < 2 ^ 64 → v ≡ w → IsNumber low high m v → IsNumber low high n w → m ≡ n
one_number low high m n v w few same p q =
    let digits : decimal m ≡ decimal n = sym p.spells ∙ same ∙ q.spells in
    decimal_injective m n (omega (arith, p.at_most)) (omega (arith, q.at_most)) digits

-- words that are the same are so one by one
same_two : (a b c d : List ℕ) → a ∷ b ∷ [] ≡ c ∷ d ∷ [] → (a ≡ c) × (b ≡ d)
same_two a b c d same = (cc, cc)

same_three : (a b c d e f : List ℕ) → a ∷ b ∷ c ∷ [] ≡ d ∷ e ∷ f ∷ [] → (a ≡ d) × (b ≡ e) × (c ≡ f)
same_three a b c d e f same = (cc, cc, cc)

same_four : (a b c d e f g h : List ℕ) → a ∷ b ∷ c ∷ d ∷ [] ≡ e ∷ f ∷ g ∷ h ∷ [] → (a ≡ e) × (b ≡ f) × (c ≡ g) × (d ≡ h)
same_four a b c d e f g h same = (cc, cc, cc, cc)

-- how many words a command has
abbrev count_of : Command → ℕ
count_of (check file) = 2
count_of (call file input fuel) = 4
count_of (trace file seed) = 3
count_of (run file) = 2
count_of (load count) = 2

counted : (words : List (List ℕ)) (c : Command) → CommandOf c words → length words ≡ count_of c
counted words (check file) p = ap length p
counted words (call file input fuel) p = ap length p.words_are
counted words (trace file seed) p = ap length p.words_are
counted words (run file) p = ap length p
counted words (load count) p = ap length p.words_are

other_count : {A : Type 0} (words : List (List ℕ)) (c d : Command) → CommandOf c words → CommandOf d words → (count_of c ≡ count_of d → ⊥) → A
other_count words c d p q other = absurd (other (sym (counted words c p) ∙ counted words d q))

names_differ : {A : Type 0} (words : List (List ℕ)) (a b c d : List ℕ) → words ≡ a ∷ b ∷ [] → words ≡ c ∷ d ∷ [] → (a ≡ c → ⊥) → A
names_differ words a b c d p q other = absurd (other (same_two a b c d (sym p ∙ q)).0)

check_run : codes "check" ≡ codes "run" → ⊥
check_run e = cc

check_load : codes "check" ≡ codes "load" → ⊥
check_load e = cc

run_load : codes "run" ≡ codes "load" → ⊥
run_load e = cc

pub one_command : (words : List (List ℕ)) (c d : Command) → CommandOf c words → CommandOf d words → c ≡ d
one_command words (check file) (check other) p q = let same = same_two _ _ _ _ (sym p ∙ q) in ap check same.1
one_command words (check file) (run other) p q = names_differ words _ _ _ _ p q check_run
one_command words (check file) (load count) p q = names_differ words _ _ _ _ p q.words_are check_load
one_command words (check file) (call other content limit) p q = other_count words (check file) (call other content limit) p q (λ e. cc)
one_command words (check file) (trace other seed) p q = other_count words (check file) (trace other seed) p q (λ e. cc)
one_command words (run file) (run other) p q = let same = same_two _ _ _ _ (sym p ∙ q) in ap run same.1
one_command words (run file) (check other) p q = names_differ words _ _ _ _ q p check_run
one_command words (run file) (load count) p q = names_differ words _ _ _ _ p q.words_are run_load
one_command words (run file) (call other content limit) p q = other_count words (run file) (call other content limit) p q (λ e. cc)
one_command words (run file) (trace other seed) p q = other_count words (run file) (trace other seed) p q (λ e. cc)
one_command words (load count) (load other) p q =
    let same = same_two _ _ _ _ (sym p.words_are ∙ q.words_are) in
    ap load (one_number 1 1024 count other p.count_word q.count_word (lit< tt) same.1 p.is_count q.is_count)
one_command words (load count) (check other) p q = names_differ words _ _ _ _ q p.words_are check_load
one_command words (load count) (run other) p q = names_differ words _ _ _ _ q p.words_are run_load
one_command words (load count) (call other content limit) p q = other_count words (load count) (call other content limit) p q (λ e. cc)
one_command words (load count) (trace other seed) p q = other_count words (load count) (trace other seed) p q (λ e. cc)
one_command words (trace file seed) (trace other start) p q =
    let same = same_three _ _ _ _ _ _ (sym p.words_are ∙ q.words_are) in
    let files : file ≡ other = same.1 in
    let seeds : seed ≡ start = one_number 0 18446744073709551615 seed start p.seed_word q.seed_word (lit< tt) same.2 p.is_seed q.is_seed in
    cc
one_command words (trace file seed) (check other) p q = other_count words (trace file seed) (check other) p q (λ e. cc)
one_command words (trace file seed) (run other) p q = other_count words (trace file seed) (run other) p q (λ e. cc)
one_command words (trace file seed) (load count) p q = other_count words (trace file seed) (load count) p q (λ e. cc)
one_command words (trace file seed) (call other content limit) p q = other_count words (trace file seed) (call other content limit) p q (λ e. cc)
one_command words (call file input fuel) (call other content limit) p q =
    let same = same_four _ _ _ _ _ _ _ _ (sym p.words_are ∙ q.words_are) in
    let files : file ≡ other = same.1 in
    let inputs : input ≡ content = one_input input content p.input_word q.input_word same.2 p.is_input q.is_input in
    let fuels : fuel ≡ limit = one_number 1 1099511627776 fuel limit p.fuel_word q.fuel_word (lit< tt) same.3 p.is_fuel q.is_fuel in
    cc
one_command words (call file input fuel) (check other) p q = other_count words (call file input fuel) (check other) p q (λ e. cc)
one_command words (call file input fuel) (run other) p q = other_count words (call file input fuel) (run other) p q (λ e. cc)
one_command words (call file input fuel) (load count) p q = other_count words (call file input fuel) (load count) p q (λ e. cc)
one_command words (call file input fuel) (trace other seed) p q = other_count words (call file input fuel) (trace other seed) p q (λ e. cc)
