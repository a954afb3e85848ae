-- A list piece by piece.
use Rattle.std.proofs.Common.{◌≡◌, ℕ, zero, suc, ◌+◌, ◌-◌, ◌*◌, ◌<◌, ◌≤◌, List, [], ◌∷◌, ◌++◌, All, length, get_or, set, take, drop, replicate, refl, ap, arith, ◌∙◌, sym, mul-le-mul_right, append_assoc}
use Rattle.std.proofs.lemmas.List.{length-drop, length-take-le, drop-drop, drop-take, take-take, take-append-le, drop-append-le, take_at, drop_at, take_all, nil_from_length}
use Rattle.std.proofs.lemmas.List.Elements.{All-nil, All-cons}
use Rattle.page_pool.specs.PagePool.{chunks}

pub many : (size n : ℕ) (b : List ℕ) → length (chunks size n b) ≡ n
many size zero b = refl
many size (suc n) b = ap suc (many size n (drop size b))

pub chunk_at : (size n : ℕ) (b : List ℕ) (k : ℕ) → k < n → get_or (chunks size n b) k [] ≡ take size (drop (k * size) b)
chunk_at size zero b k h = absurd (omega arith)
chunk_at size (suc n) b zero h =
    let z : 0 * size ≡ 0 = omega arith in
    rw z refl
chunk_at size (suc n) b (suc k) h =
    chunk_at size n (drop size b) k (omega arith) ∙ ap (take size) (drop-drop (k * size) size b ∙ ap (λ (i : ℕ). drop i b) (omega arith))

pub each_whole : (size n : ℕ) (b : List ℕ) → length b ≡ n * size → All (λ c. length c ≡ size) (chunks size n b)
each_whole size zero b h = All-nil (λ c. length c ≡ size)
each_whole size (suc n) b h =
    All-cons (λ c. length c ≡ size) (take size b) (chunks size n (drop size b)) (length-take-le size b (omega arith)) (each_whole size n (drop size b) (omega (arith, length-drop size b)))

-- a piece written anew
pub chunk_set : (size n : ℕ) (b : List ℕ) (k at : ℕ) (new : List ℕ) → k < n → length b ≡ n * size → length new ≡ size → at ≡ k * size → chunks size n (take at b ++ (new ++ drop size (drop at b))) ≡ set (chunks size n b) k new
chunk_set size zero b k at new h l w e = absurd (omega arith)
chunk_set size (suc n) b zero at new h l w e =
    let z : at ≡ 0 = omega arith in
    rw (z, take_at new (drop size b) size w, drop_at new (drop size b) size w) refl
chunk_set size (suc n) b (suc k) at new h l w e =
    let m = k * size in
    let r = new ++ drop size (drop (size + m) b) in
    let z : at ≡ size + m = e ∙ omega arith in
    let y : k * size ≤ n * size = mul-le-mul_right size (omega arith) in
    let fits : size + m ≤ length b = omega arith in
    let t : length (take (size + m) b) ≡ size + m = length-take-le (size + m) b fits in
    let first : take size (take (size + m) b ++ r) ≡ take size b = take-append-le size (take (size + m) b) r (omega arith) ∙ take-take size (size + m) b (omega arith) in
    let rest : drop size (take (size + m) b ++ r) ≡ take m (drop size b) ++ (new ++ drop size (drop m (drop size b))) =
    drop-append-le size (take (size + m) b) r (omega arith) ∙ rw (drop-take size m b, ← drop-drop m size b) refl in
    rw (z, first, rest, chunk_set size n (drop size b) k m new (omega arith) (omega (arith, length-drop size b)) w refl) refl

-- a piece put behind
pub chunks_more : (size n : ℕ) (b z : List ℕ) → length b ≡ n * size → length z ≡ size → chunks size (suc n) (b ++ z) ≡ chunks size n b ++ z ∷ []
chunks_more size zero b z h w =
    let e : b ≡ [] = nil_from_length b (omega arith) in
    rw e (ap (λ (x : List ℕ). x ∷ []) (take_all size z (omega arith)))
chunks_more size (suc n) b z h w =
    let fits : size ≤ length b = omega arith in
    rw (take-append-le size b z fits, drop-append-le size b z fits, chunks_more size n (drop size b) z (omega (arith, length-drop size b)) w) refl

-- the pages made so far and all others, when one more is made
pub contents_more : (size pages made k : ℕ) (b z : List ℕ) → length b ≡ made * size → length z ≡ size → pages - made ≡ suc k → pages - (made + 1) ≡ k → chunks size (made + 1) (b ++ z) ++ replicate (pages - (made + 1)) z ≡ chunks size made b ++ replicate (pages - made) z
contents_more size pages made k b z h w e f =
    let one : made + 1 ≡ suc made = omega arith in
    ap (λ (i : ℕ). chunks size i (b ++ z) ++ replicate (pages - (made + 1)) z) one
    ∙ ap (λ (x : List (List ℕ)). x ++ replicate (pages - (made + 1)) z) (chunks_more size made b z h w)
    ∙ ap (λ (i : ℕ). (chunks size made b ++ z ∷ []) ++ replicate i z) f
    ∙ append_assoc (chunks size made b) (z ∷ []) (replicate k z)
    ∙ ap (λ (i : ℕ). chunks size made b ++ replicate i z) (sym e)
