-- A pool of pages: the content of each page, and the numbers of those that are free. This project's own.
use Rattle.std.specs.Prelude.{◌≡◌, ℕ, ◌+◌, ◌<◌, List, [], ◌++◌, All, length, set, take, drop, min, slice_index_or}
use Rattle.std.specs.List.{AllPairs}

-- the bytes of a page
abbrev pub page_size : ℕ
page_size = 65536

-- The pages are numbered from 0. Those below `made` were taken at least once: for these alone memory was written.
pub record Pool : Type 0 where
  pub contents : List (List ℕ)
  pub free : List ℕ
  pub made : ℕ
  pub work : ℕ

pub record IsPool (p : Pool) : Type 0 where
  pub each : All (λ c. length c ≡ page_size) p.contents
  pub below : All (λ n. n < length p.contents) p.free
  pub apart : AllPairs (λ m n. m ≡ n → ⊥) p.free

-- a page of the pool that is not free
pub record IsTaken (p : Pool) (page : ℕ) : Type 0 where
  pub below : page < length p.contents
  pub not_free : All (λ n. n ≡ page → ⊥) p.free

abbrev pub content_of : Pool → ℕ → List ℕ
content_of p page = slice_index_or p.contents page []

-- one more call that changes the pool or a page; the count stays at the greatest number of 64 bits
abbrev pub worked : ℕ → ℕ
worked work = min (work + 1) 18446744073709551615

-- the pool after a page was given another content
abbrev pub with_content : Pool → ℕ → List ℕ → Pool
with_content p page content = record p { contents = set p.contents page content; work = worked p.work }

-- a pool of so many pages, none of them taken yet
pub record IsFresh (p : Pool) (pages : ℕ) : Type 0 where
  pub many : length p.contents ≡ pages
  pub all : length p.free ≡ pages
  pub none_made : p.made ≡ 0
  pub none : p.work ≡ 0
  pub sound : IsPool p

-- bytes put over others, from a place on
abbrev pub over : List ℕ → ℕ → List ℕ → List ℕ
over bytes at new = take at bytes ++ (new ++ drop (at + length new) bytes)
