-- A piece more of a buffer, as the machine goes over it.
use Rattle.std.proofs.Common.{◌≡◌, ℕ, ◌+◌, ◌-◌, ◌≤◌, true, false, List, ◌∷◌, Option, Some, None, length, take, drop, refl, ap, arith, ◌∙◌, sym, subst, zero-add}
use Rattle.std.specs.Prelude.{slice_get}
use Rattle.std.proofs.lemmas.List.{length-drop, length-take-le}
use Rattle.faaslet_meaning.specs.declared.grant.Grant.{Grant}
use Rattle.faaslet_meaning.specs.declared.grant.Mode.{Mode}
use Rattle.faaslet_meaning.specs.declared.linear.Home.TheVariants as code
use Rattle.faaslet_meaning.specs.declared.linear.Home as linear_home
use Rattle.faaslet_meaning.specs.declared.linear.Piece as linear_piece
use Rattle.faaslet_meaning.specs.Memory.{mapped, Piece, Memory, Backing, IsMemory, IsHome, IsFirstPiece, shared_pieces, read_bytes, over, put}
use Rattle.faaslet_meaning.specs.MemoryRules.{granted, all_granted}
use Rattle.wasm_interp.specs.declared.machine.Machine.{Machine}
use Rattle.wasm_interp.proofs.PieceLists.{shared, shared_mapped, cut_none}
use Rattle.wasm_interp.proofs.PieceSteps.{left_behind, others_are}
use Rattle.host_calls.specs.declared.span.Span.{Span}
use Rattle.host_calls.specs.declared.span.Shared.{Shared}
use Rattle.host_calls.specs.Buffers.{IsWithin, AtShared, StopsAt, reading_on, written_on}
use Rattle.host_calls.proofs.Lists.{over_front, length_over}
use Rattle.host_calls.proofs.Buffers.{further, read_long, reading_step, writing_step, within_further, within_put}

-- ---- into the second buffer

pub record Fetched {M : Type 0} (shape : M → Memory) (a d : Machine M) (from s : Span) : Type 0 where
  pub only : d ≡ record a { aside = d.aside }
  pub within : IsWithin (shape a.memory) s
  pub same : reading_on (shape a.memory) s d.aside ≡ reading_on (shape a.memory) from a.aside
  pub long : length d.aside ≡ 65536

pub fetch_step : {M : Type 0} (shape : M → Memory) (a b c d : Machine M) (s from : Span) (found : linear_piece.Piece) (addr : ℕ) → b ≡ record a { aside = b.aside } → c ≡ b → d ≡ record c { aside = over c.aside s.done (read_bytes addr found.len (shape c.memory).bytes) } → addr ≡ s.ptr + s.done → IsWithin (shape a.memory) s → length b.aside ≡ 65536 → reading_on (shape a.memory) s b.aside ≡ reading_on (shape a.memory) from a.aside → IsFirstPiece (shape b.memory) (s.ptr + s.done) (s.len - s.done) found → IsMemory (shape b.memory) → found.home ≡ code.Private → found.len ≤ s.len - s.done → Fetched shape a d from (further s found.len)
fetch_step {M} shape a b c d s from found addr only same load at w long before first sound home few =
    let m = shape a.memory in
    let mb : shape b.memory ≡ m = ap (λ (z : Machine M). shape z.memory) only in
    let f : IsFirstPiece m (s.ptr + s.done) (s.len - s.done) found = subst (λ x. IsFirstPiece x (s.ptr + s.done) (s.len - s.done) found) mb first in
    let so : IsMemory m = subst IsMemory mb sound in
    let r = read_bytes (s.ptr + s.done) found.len m.bytes in
    let x = over c.aside s.done (read_bytes addr found.len (shape c.memory).bytes) in
    let y = over b.aside s.done r in
    let xy : x ≡ y =
    ap (λ (z : Machine M). over z.aside s.done (read_bytes addr found.len (shape z.memory).bytes)) same
    ∙ ap (λ k. over b.aside s.done (read_bytes k found.len (shape b.memory).bytes)) at
    ∙ ap (λ (k : Memory). over b.aside s.done (read_bytes (s.ptr + s.done) found.len k.bytes)) mb in
    let aside : d.aside ≡ x = ap (λ (z : Machine M). z.aside) load in
    let nr = read_long m s found.len w so few in
    record {
      only = load ∙ ap (λ (z : Machine M). record z { aside = x }) (same ∙ only) ∙ ap (λ k. record a { aside = k }) (sym aside);
      within = within_further m s found.len w few;
      same = ap (reading_on m (further s found.len)) (aside ∙ xy) ∙ reading_step m s b.aside found w so long f home few ∙ before;
      long = ap length (aside ∙ xy) ∙ length_over b.aside s.done r (omega (arith, w.few, w.most)) ∙ long;
    }

-- ---- out of it

pub record Stored {M : Type 0} (shape : M → Memory) (behind : M → Backing) (a d : Machine M) (from s : Span) : Type 0 where
  pub only : d ≡ record a { memory = d.memory }
  pub backing : behind d.memory ≡ behind a.memory
  pub within : IsWithin (shape d.memory) s
  pub same : written_on (shape d.memory) s a.aside ≡ written_on (shape a.memory) from a.aside

pub store_step : {M : Type 0} (shape : M → Memory) (behind : M → Backing) (a b c d : Machine M) (s from : Span) (found : linear_piece.Piece) (addr : ℕ) → b ≡ record a { memory = b.memory } → c ≡ b → d ≡ record c { memory = d.memory } → shape d.memory ≡ put (shape c.memory) addr (take found.len (drop s.done c.aside)) → behind d.memory ≡ behind c.memory → behind b.memory ≡ behind a.memory → addr ≡ s.ptr + s.done → IsWithin (shape b.memory) s → written_on (shape b.memory) s a.aside ≡ written_on (shape a.memory) from a.aside → IsFirstPiece (shape b.memory) (s.ptr + s.done) (s.len - s.done) found → found.home ≡ code.Private → found.len ≤ s.len - s.done → Stored shape behind a d from (further s found.len)
store_step {M} shape behind a b c d s from found addr only same store put_is behind_d behind_b at w before first home few =
    let ab : b.aside ≡ a.aside = ap (λ (z : Machine M). z.aside) only in
    let p : shape d.memory ≡ put (shape b.memory) (s.ptr + s.done) (take found.len (drop s.done a.aside)) =
    put_is ∙ ap (λ (z : Machine M). put (shape z.memory) addr (take found.len (drop s.done z.aside))) same
    ∙ ap (λ k. put (shape b.memory) k (take found.len (drop s.done b.aside))) at
    ∙ ap (λ k. put (shape b.memory) (s.ptr + s.done) (take found.len (drop s.done k))) ab in
    record {
      only = store ∙ ap (λ (z : Machine M). record z { memory = d.memory }) (same ∙ only);
      backing = behind_d ∙ ap (λ (z : Machine M). behind z.memory) same ∙ behind_b;
      within = within_put (shape b.memory) (shape d.memory) (further s found.len) (s.ptr + s.done) (take found.len (drop s.done a.aside)) (within_further (shape b.memory) s found.len w few) p;
      same = writing_step (shape b.memory) s a.aside found (shape d.memory) first home few p ∙ before;
    }

pub stops_some : (m : Memory) (b : Span) (o : Option Shared) (p : Shared) → StopsAt m b o → o ≡ Some p → AtShared m b p
stops_some m b o p h e = subst (StopsAt m b) e h

pub stops_none : (m : Memory) (b : Span) (o : Option Shared) → StopsAt m b o → o ≡ None → b.done ≡ b.len
stops_none m b o h e = subst (StopsAt m b) e h

-- bytes brought to the front
pub brought : (scratch bs : List ℕ) (n : ℕ) → length bs ≡ n → take n (over scratch 0 bs) ≡ bs
brought scratch bs n e =
    let z : 0 + n ≡ n = zero-add n in
    sym (ap (λ k. take k (over scratch 0 bs)) z) ∙ over_front scratch 0 n bs (omega arith) (sym e)

-- the front of the scratch, once bytes of the second buffer were brought there
pub record Brought {M : Type 0} (a d : Machine M) (done len : ℕ) : Type 0 where
  pub bytes : take len d.scratch ≡ take len (drop done a.aside)
  pub long : length d.scratch ≡ 65536

pub bring_step : {M : Type 0} (a r s b d : Machine M) (done len : ℕ) → length a.aside ≡ 65536 → length r.scratch ≡ 65536 → r ≡ a → s ≡ r → b ≡ record s { memory = b.memory } → d ≡ record b { scratch = over b.scratch 0 (take len (drop done b.aside)) } → done + len ≤ 65536 → Brought a d done len
bring_step {M} a r s b d done len la lr ra sr bs db few =
    let ab : b.aside ≡ a.aside = ap (λ (z : Machine M). z.aside) bs ∙ ap (λ (z : Machine M). z.aside) (sr ∙ ra) in
    let rb : b.scratch ≡ r.scratch = ap (λ (z : Machine M). z.scratch) bs ∙ ap (λ (z : Machine M). z.scratch) sr in
    let t = take len (drop done b.aside) in
    let dt : d.scratch ≡ over b.scratch 0 t = ap (λ (z : Machine M). z.scratch) db in
    let lb : length b.aside ≡ 65536 = ap length ab ∙ la in
    let ls : length b.scratch ≡ 65536 = ap length rb ∙ lr in
    let n : length t ≡ len = length-take-le len (drop done b.aside) (omega (arith, length-drop done b.aside)) in
    record {
      bytes = ap (take len) dt ∙ brought b.scratch t len n ∙ ap (λ (k : List ℕ). take len (drop done k)) ab;
      long = ap length dt ∙ length_over b.scratch 0 t (omega arith) ∙ ls;
    }

-- ---- modes

shared_home : (f : Piece) (home : linear_home.Home) (place off : ℕ) → IsHome f home → home ≡ code.Shared place off → f.home ≡ mapped place
shared_home f home place off h e = (subst (IsHome f) e h).0

granted_first : (grants : List Grant) (mode : Mode) (p : Piece) (ps : List Piece) (k : ℕ) → p.home ≡ mapped k → granted mode (slice_get grants k) ≡ true → all_granted grants mode (p ∷ ps) ≡ all_granted grants mode ps
granted_first grants mode p ps k e g = rw (e, g) refl

denied_first : (grants : List Grant) (mode : Mode) (p : Piece) (ps : List Piece) (k : ℕ) → p.home ≡ mapped k → granted mode (slice_get grants k) ≡ false → all_granted grants mode (p ∷ ps) ≡ false
denied_first grants mode p ps k e g = rw (e, g) refl

shared_is : (m : Memory) (at n : ℕ) (found : linear_piece.Piece) (place off : ℕ) → (f : IsFirstPiece m at n found) → found.home ≡ code.Shared place off → shared_pieces m at n ≡ f.first ∷ shared f.others
shared_is m at n found place off f e = ap shared f.cut ∙ shared_mapped f.first f.others place (shared_home f.first found.home place off f.is_home e)

pub mode_shared : (grants : List Grant) (mode : Mode) (m : Memory) (s : Span) (found : linear_piece.Piece) (place off : ℕ) → IsFirstPiece m (s.ptr + s.done) (s.len - s.done) found → found.home ≡ code.Shared place off → granted mode (slice_get grants place) ≡ true → all_granted grants mode (shared_pieces m (s.ptr + (s.done + found.len)) (s.len - (s.done + found.len))) ≡ all_granted grants mode (shared_pieces m (s.ptr + s.done) (s.len - s.done))
mode_shared grants mode m s found place off f e g =
    ap (λ ps. all_granted grants mode (shared ps)) (others_are m s.ptr s.len s.done found.len f.first f.others f.cut f.is_long)
    ∙ sym (ap (all_granted grants mode) (shared_is m (s.ptr + s.done) (s.len - s.done) found place off f e) ∙ granted_first grants mode f.first (shared f.others) place (shared_home f.first found.home place off f.is_home e) g)

pub mode_denied : (grants : List Grant) (mode : Mode) (m : Memory) (s : Span) (found : linear_piece.Piece) (place off : ℕ) → IsFirstPiece m (s.ptr + s.done) (s.len - s.done) found → found.home ≡ code.Shared place off → granted mode (slice_get grants place) ≡ false → all_granted grants mode (shared_pieces m (s.ptr + s.done) (s.len - s.done)) ≡ false
mode_denied grants mode m s found place off f e g =
    ap (all_granted grants mode) (shared_is m (s.ptr + s.done) (s.len - s.done) found place off f e) ∙ denied_first grants mode f.first (shared f.others) place (shared_home f.first found.home place off f.is_home e) g

pub mode_private : (grants : List Grant) (mode : Mode) (m : Memory) (s : Span) (found : linear_piece.Piece) → IsFirstPiece m (s.ptr + s.done) (s.len - s.done) found → found.home ≡ code.Private → all_granted grants mode (shared_pieces m (s.ptr + (s.done + found.len)) (s.len - (s.done + found.len))) ≡ all_granted grants mode (shared_pieces m (s.ptr + s.done) (s.len - s.done))
mode_private grants mode m s found f e = ap (all_granted grants mode) (left_behind m s.ptr s.len s.done found f e)

pub mode_end : (grants : List Grant) (mode : Mode) (m : Memory) (at n : ℕ) → n ≡ 0 → all_granted grants mode (shared_pieces m at n) ≡ true
mode_end grants mode m at n e = ap (λ k. all_granted grants mode (shared_pieces m at k)) e ∙ ap (λ ps. all_granted grants mode (shared ps)) (cut_none m.segments 0 at)

-- from its first byte on
pub mode_first : (grants : List Grant) (mode : Mode) (m : Memory) (s : Span) → s.done ≡ 0 → all_granted grants mode (shared_pieces m (s.ptr + s.done) (s.len - s.done)) ≡ all_granted grants mode (shared_pieces m s.ptr s.len)
mode_first grants mode m s e =
    let p : s.ptr + s.done ≡ s.ptr = omega arith in
    let l : s.len - s.done ≡ s.len = omega arith in
    ap (λ k. all_granted grants mode (shared_pieces m k (s.len - s.done))) p ∙ ap (λ k. all_granted grants mode (shared_pieces m s.ptr k)) l
