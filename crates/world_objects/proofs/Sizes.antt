-- No operation changes the size of a region.
use Rattle.std.proofs.Common.{◌≡◌, ℕ, zero, suc, Bool, true, false, List, [], ◌∷◌, Some, option_map, map, slice_set, slice_get, slice_index_or, cond, refl, sym, ap, ◌∙◌}
use Rattle.faaslet_meaning.specs.Channels.{RegionOperation}
use Rattle.faaslet_meaning.specs.Region.{Region, after, has_room}
use Rattle.session_meaning.proofs.Kept.{get_map}
use Rattle.world_objects.specs.Kept.{Kept, sizes}
use Rattle.world_objects.specs.Served.{global_start, local_start}
use Rattle.world_objects.specs.declared.objects.KeyStart.{KeyStart}

either : (b : Bool) (n : ℕ) (x y : Region) → x.size ≡ n → y.size ≡ n → (cond b x y).size ≡ n
either true n x y e f = e
either false n x y e f = f

pub size_after : (s : Region) (maker : ℕ) (o : RegionOperation) → (after s maker o).size ≡ s.size
size_after s maker RegionOperation.probe = refl
size_after s maker (RegionOperation.read off len) = refl
size_after s maker (RegionOperation.send off len) = refl
size_after s maker RegionOperation.size = refl
size_after s maker (RegionOperation.fill bytes) = either s.present s.size _ _ refl refl
size_after s maker (RegionOperation.write off bytes) = refl
size_after s maker (RegionOperation.take off bytes) = refl
size_after s maker (RegionOperation.put off bytes) = refl
size_after s maker (RegionOperation.append bytes) = either (has_room s bytes) s.size _ _ refl refl
size_after s maker RegionOperation.lock_read = refl
size_after s maker RegionOperation.lock_write = refl
size_after s maker RegionOperation.unlock = refl

pub sizes_set : (xs : List Kept) (n : ℕ) (x y : Kept) → x ≡ slice_index_or xs n x → y.region.size ≡ x.region.size → sizes (slice_set xs n y) ≡ sizes xs
sizes_set [] n x y e f = refl
sizes_set (z ∷ xs) zero x y e f = ap (λ m. m ∷ sizes xs) (f ∙ ap (λ (w : Kept). w.region.size) e)
sizes_set (z ∷ xs) (suc n) x y e f = ap (λ l. z.region.size ∷ l) (sizes_set xs n x y e f)

-- two objects at one place of rows of the same sizes
pub one_size : (xs ys : List Kept) (n : ℕ) (x y : Kept) → sizes xs ≡ sizes ys → slice_get xs n ≡ Some x → slice_get ys n ≡ Some y → x.region.size ≡ y.region.size
one_size xs ys n x y s e f =
    let here : Some x.region.size ≡ Some y.region.size = sym (get_map (λ (z : Kept). z.region.size) xs n ∙ ap (option_map (λ (z : Kept). z.region.size)) e) ∙ (ap (λ l. slice_get l n) s ∙ (get_map (λ (z : Kept). z.region.size) ys n ∙ ap (option_map (λ (z : Kept). z.region.size)) f)) in
    cc

-- what a world begins with has one size for each key
pub start_sizes : (keys : List KeyStart) → sizes (map local_start keys) ≡ sizes (map global_start keys)
start_sizes [] = refl
start_sizes (k ∷ keys) = ap (λ l. k.size ∷ l) (start_sizes keys)
