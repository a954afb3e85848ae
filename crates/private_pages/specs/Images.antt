-- The model of `Image`. This project's own.
use Rattle.std.specs.Prelude.{◌≡◌, ◌≢◌, ℕ, ◌+◌, ◌*◌, ◌%◌, ◌≤◌, List, Option, Some, None, All, IfSome, length, replicate, slice_index_or}
use Rattle.faaslet_meaning.specs.Memory.{Content, page_size, page_limit}
use Rattle.private_pages.specs.Pages.{page_at, joined}
use Rattle.private_pages.specs.declared.image.Image.TheInside.{Inside}

-- a page that is kept at this place, or zeros
abbrev pub kept_page : List ℕ → Option ℕ → List ℕ
kept_page kept None = replicate page_size 0
kept_page kept (Some place) = page_at kept place

abbrev pub content_in : Inside → Content
content_in s = record { pages = length s.places.items; bytes = joined (λ place. kept_page s.kept.items (slice_index_or s.places.items place None)) (length s.places.items) }

pub record IsImage (s : Inside) : Type 0 where
  pub few : length s.places.items ≤ page_limit
  pub each : All (λ e. IfSome e (λ place. place * page_size + page_size ≤ length s.kept.items)) s.places.items
  pub some : All (λ e. IfSome e (λ place. page_at s.kept.items place ≢ replicate page_size 0)) s.places.items
  pub room : length s.kept.items ≤ length s.places.items * page_size
  pub whole : length s.kept.items % page_size ≡ 0
