-- The image of a memory, page by page.
use Rattle.std.proofs.Common.{◌≡◌, ℕ, ◌+◌, ◌*◌, ◌<◌, ◌≤◌, List, ◌++◌, length, take, drop, refl, ap, arith, ◌∙◌, sym}
use Rattle.std.proofs.lemmas.List.{take-append-drop, take-take, drop-take, take_all}
use Rattle.faaslet_meaning.specs.Memory.{Memory, IsMemory, page_size, pages_of, read_bytes, lies_in}

take_on : (a c : ℕ) (b : List ℕ) → take (a + c) b ≡ take a b ++ take c (drop a b)
take_on a c b = sym (take-append-drop a (take (a + c) b)) ∙ rw (take-take a (a + c) b (omega arith), drop-take a c b) refl

-- the first pages, and one more
pub more_pages : (b bytes page : List ℕ) (k at n : ℕ) → bytes ≡ take (k * page_size) b → page ≡ read_bytes at n b → at ≡ k * page_size → n ≡ page_size → bytes ++ page ≡ take ((k + 1) * page_size) b
more_pages b bytes page k at n e f a m =
    let z : (k + 1) * page_size ≡ k * page_size + page_size = omega arith in
    ap (λ (x : List ℕ). x ++ page) e ∙ ap (λ (x : List ℕ). take (k * page_size) b ++ x) (f ∙ ap (λ (i : ℕ). read_bytes i n b) a ∙ ap (λ (i : ℕ). read_bytes (k * page_size) i b) m) ∙ sym (ap (λ (i : ℕ). take i b) z ∙ take_on (k * page_size) page_size b)

-- in the end all bytes
pub all_pages : (m : Memory) (k : ℕ) → IsMemory m → k ≡ pages_of m.segments → take (k * page_size) m.bytes ≡ m.bytes
all_pages m k h e = take_all (k * page_size) m.bytes (omega (arith, h.long, e))
