-- What a move leaves of the two objects of a key.
use Rattle.std.proofs.Common.{◌≡◌, ℕ, ◌+◌, ◌-◌, ◌≤◌, List, [], ◌∷◌, ◌++◌, length, drop, slice_range, ap, ◌∙◌, subst, arith, length-drop}
use Rattle.std.proofs.lemmas.List.{length-take}
use Rattle.faaslet_meaning.specs.declared.ask.Move.{Move}
use Rattle.faaslet_meaning.specs.declared.ask.Move.TheVariants as move
use Rattle.faaslet_meaning.specs.Region.{Region, after}
use Rattle.session_meaning.specs.declared.mark.Mark.{Mark}
use Rattle.session_meaning.specs.Trail.{mark}
use Rattle.shared_region.specs.Shared.{Shared}
use Rattle.shared_region.specs.Moves.{local_part, global_part, moved, MoveFits}
use Rattle.world_objects.specs.Kept.{Kept, applied}
use Rattle.world_objects.specs.Asked.{moved_length}

range_long : (xs : List ℕ) (off len : ℕ) → off + len ≤ length xs → length (slice_range xs off (off + len)) ≡ len
range_long xs off len h = omega (arith, length-take (off + len - off) (drop off xs), length-drop off xs)

-- both regions have this size
pub record Sized (size : ℕ) (l g : Region) (k : Move) : Type 0 where
  pub local_so : size ≡ l.size
  pub global_so : size ≡ g.size
  pub local_whole : size ≤ length l.bytes
  pub global_whole : size ≤ length g.bytes
  pub fits : MoveFits k l.size

pub moved_long : (size : ℕ) (l g : Region) (k : Move) → Sized size l g k → length (moved l g k) ≡ moved_length k size
moved_long size l g move.Fill s = let e = range_long g.bytes 0 g.size (omega (arith, s.global_so, s.global_whole)) in omega (arith, e, s.global_so)
moved_long size l g (move.Pull off len) s = range_long g.bytes off len (omega (arith, s.fits, s.local_so, s.global_whole))
moved_long size l g (move.Push off len) s = range_long l.bytes off len (omega (arith, s.fits, s.local_so, s.local_whole))

abbrev kept_at : Region → List Mark → Kept
kept_at r t = record { region = r; trail = t }

kept_so : (r s : Region) (t u : List Mark) → r ≡ s → t ≡ u → kept_at r t ≡ kept_at s u
kept_so r s t u e f = ap (λ x. kept_at x t) e ∙ ap (λ x. kept_at s x) f

pub local_moved : (maker size : ℕ) (k : Move) (l g n : Shared) (lt gt t : List Mark) (a b : Kept) (m : Mark) → kept_at l.region lt ≡ a → kept_at g.region gt ≡ b → Sized size l.region g.region k → ((bytes : List ℕ) → length bytes ≡ moved_length k size → m ≡ mark (maker, local_part k bytes)) → n ≡ record l { region = after l.region maker (local_part k (moved l.region g.region k)) } → t ≡ lt ++ m ∷ [] → kept_at n.region t ≡ applied maker (local_part k (moved a.region b.region k)) a
local_moved maker size k l g n lt gt t a b m p q s marked left more =
    let bytes = moved l.region g.region k in
    let here = kept_so _ _ _ _ (ap (λ (x : Shared). x.region) left) (more ∙ ap (λ x. lt ++ x ∷ []) (marked bytes (moved_long size l.region g.region k s))) in
    here ∙ (ap (λ (y : Kept). applied maker (local_part k (moved l.region y.region k)) (kept_at l.region lt)) q ∙ ap (λ (x : Kept). applied maker (local_part k (moved x.region b.region k)) x) p)

pub global_moved : (maker size : ℕ) (k : Move) (l g n : Shared) (lt gt t : List Mark) (a b : Kept) (m : Mark) → kept_at l.region lt ≡ a → kept_at g.region gt ≡ b → Sized size l.region g.region k → ((bytes : List ℕ) → length bytes ≡ moved_length k size → m ≡ mark (maker, global_part k size bytes)) → n ≡ record g { region = after g.region maker (global_part k g.region.size (moved l.region g.region k)) } → t ≡ gt ++ m ∷ [] → kept_at n.region t ≡ applied maker (global_part k b.region.size (moved a.region b.region k)) b
global_moved maker size k l g n lt gt t a b m p q s marked left more =
    let bytes = moved l.region g.region k in
    let as_marked = marked bytes (moved_long size l.region g.region k s) ∙ ap (λ x. mark (maker, global_part k x bytes)) s.global_so in
    let here = kept_so _ _ _ _ (ap (λ (x : Shared). x.region) left) (more ∙ ap (λ x. gt ++ x ∷ []) as_marked) in
    here ∙ (ap (λ (x : Kept). applied maker (global_part k g.region.size (moved x.region g.region k)) (kept_at g.region gt)) p ∙ ap (λ (y : Kept). applied maker (global_part k y.region.size (moved a.region y.region k)) y) q)

pub moved_here : (size : ℕ) (k : Move) (l g : Shared) (lt gt : List Mark) (a b : Kept) → kept_at l.region lt ≡ a → kept_at g.region gt ≡ b → Sized size l.region g.region k → length (moved a.region b.region k) ≡ moved_length k b.region.size
moved_here size k l g lt gt a b p q s =
    let here : length (moved l.region g.region k) ≡ moved_length k g.region.size = moved_long size l.region g.region k s ∙ ap (moved_length k) s.global_so in
    subst (λ (x : Kept). length (moved x.region b.region k) ≡ moved_length k b.region.size) p (subst (λ (y : Kept). length (moved l.region y.region k) ≡ moved_length k y.region.size) q here)
