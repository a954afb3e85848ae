-- What instantiation makes can be run.
use Rattle.std.proofs.Common.{◌≡◌, ℕ, ◌+◌, ◌≤◌, All, true, List, [], ◌∷◌, ◌++◌, None, length, map, take, drop, replicate, refl, sym, ap, ◌∙◌, subst, arith}
use Rattle.std.specs.Prelude.{nat_le}
use Rattle.std.proofs.lemmas.List.{length-append, length-take, length-drop, length-replicate}
use Rattle.std.proofs.lemmas.List.Elements.{All-head, All-tail}
use Rattle.faaslet_meaning.specs.declared.module.Module.{Module}
use Rattle.faaslet_meaning.specs.Fine.{ground_of}
use Rattle.faaslet_meaning.specs.Fresh.{Function, makes, all_over, instantiated}
use Rattle.faaslet_meaning.specs.Memory.{Memory, over}
use Rattle.faaslet_meaning.specs.Program.{table_size, memory_limits}
use Rattle.faaslet_meaning.specs.Runnable.{HostImports}
use Rattle.faaslet_meaning.specs.Valid.{Valid}
use Rattle.faaslet_meaning.proofs.SoundFresh.{MadeOk, StoreOk, instantiated_ok}
use Rattle.proto_faaslet.specs.declared.instantiation.Instance.{Instance}
use Rattle.proto_faaslet.specs.Entries.{IsKept}
use Rattle.proto_faaslet.specs.Instances.{Fits, IsOne, element_of, globals_of, store_of, IsFilled}
use Rattle.proto_faaslet.proofs.Begun.{filled}

over_long : {A : Type 0} (to : List A) (at : ℕ) (new : List A) → at + length new ≤ length to → length (over to at new) ≡ length to
over_long to at new h =
    length-append (take at to) (new ++ drop (at + length new) to)
    ∙ ap (λ n. length (take at to) + n) (length-append new (drop (at + length new) to))
    ∙ omega (arith, length-take at to, length-drop (at + length new) to)

all_long : {A X : Type 0} (f : X → ℕ × List A) (to : List A) (xs : List X) → All (λ x. Fits (length to) (f x)) xs → length (all_over to (map f xs)) ≡ length to
all_long f to [] h = refl
all_long {A} {X} f to (x ∷ xs) h =
    let P : X → Type 0 = λ y. Fits (length to) (f y) in
    let same : length (over to (f x).0 (f x).1) ≡ length to = over_long to (f x).0 (f x).1 (All-head P x xs h) in
    all_long f (over to (f x).0 (f x).1) xs (subst (λ n. All (λ y. Fits n (f y)) xs) (sym same) (All-tail P x xs h)) ∙ same

pub kept_first : (m : Module) (q : ℕ) (i : Instance) (memory : Memory) → Valid m → HostImports m → nat_le (memory_limits m).min q ≡ true → IsFilled m q i memory → IsKept m q (store_of i memory)
kept_first m q i memory v hosts within h =
    let f : Function = record { code = m; quota = q; fuel = 0; room = 0; grants = []; callees = [] } in
    let made : instantiated f ≡ makes (store_of i memory) = filled f m q i memory (record { code = refl; quota_is = refl }) v hosts within h in
    let ok : StoreOk (ground_of m) (store_of i memory) = subst (MadeOk (StoreOk (ground_of m))) made (instantiated_ok f v hosts) in
    record {
      globals = ok.globals;
      table = ap length h.table ∙ all_long (element_of (globals_of m.globals)) (replicate (table_size m) None) m.elements (subst (λ n. All (λ e. Fits n (element_of (globals_of m.globals) e)) m.elements) (sym (length-replicate (table_size m) None)) h.fit.elements) ∙ length-replicate (table_size m) None;
      indices = ok.table;
      one = subst (λ (x : Memory). IsOne x.segments) (sym h.memory_is) refl;
      quota_is = ap (λ (x : Memory). x.quota) h.memory_is;
    }
