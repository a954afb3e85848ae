-- Pages that were written: for each place nothing or the content of its own page. This project's own.
use Rattle.std.specs.Prelude.{◌≡◌, ℕ, ◌+◌, ◌≤◌, List, [], ◌∷◌, All, Option, Some, None, IfSome, length, set, replicate, slice_index_or}
use Rattle.page_pool.specs.Pool.{page_size, over}

pub record Own : Type 0 where
  pub pages : List (Option (List ℕ))
  pub work : ℕ

abbrev pub page_of : Own → ℕ → Option (List ℕ)
page_of o place = slice_index_or o.pages place None

-- how many places have a page
abbrev pub own_count : {A : Type 0} → List (Option A) → ℕ
own_count [] = 0
own_count (None ∷ es) = own_count es
own_count (Some a ∷ es) = own_count es + 1

pub record AreWhole (o : Own) : Type 0 where
  pub each : All (λ e. IfSome e (λ b. length b ≡ page_size)) o.pages

abbrev pub content_or_zeros : Option (List ℕ) → List ℕ
content_or_zeros None = replicate page_size 0
content_or_zeros (Some b) = b

-- bytes were put into the page that a place has
pub record IsPut (old : Own) (place from : ℕ) (source : List ℕ) (new : Own) : Type 0 where
  pub own : List ℕ
  pub was : page_of old place ≡ Some own
  pub now : new.pages ≡ set old.pages place (Some (over own from source))
  pub work : new.work ≤ old.work + 1
