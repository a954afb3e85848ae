-- The model of `PagePool`: a page that was not made yet is free and all zero. This project's own.
use Rattle.std.specs.Prelude.{◌≡◌, ℕ, zero, suc, ◌+◌, ◌-◌, ◌*◌, ◌<◌, ◌≤◌, List, [], ◌∷◌, ◌++◌, All, length, take, drop, replicate, vec_capacity}
use Rattle.page_pool.specs.Pool.{Pool, IsPool, page_size}
use Rattle.page_pool.specs.declared.pool.PagePool.TheInside.{Inside}

-- the first pieces of a list, each of this size
abbrev pub chunks : ℕ → ℕ → List ℕ → List (List ℕ)
chunks size zero bytes = []
chunks size (suc n) bytes = take size bytes ∷ chunks size n (drop size bytes)

-- so many numbers from `made` on, the greatest first
abbrev pub numbers_from : ℕ → ℕ → List ℕ
numbers_from made zero = []
numbers_from made (suc n) = (made + n) ∷ numbers_from made n

abbrev pub contents_in : ℕ → ℕ → List ℕ → List (List ℕ)
contents_in pages made bytes = chunks page_size made bytes ++ replicate (pages - made) (replicate page_size 0)

abbrev pub pool_in : Inside → Pool
pool_in s = record {
  contents = contents_in s.pages s.made s.bytes.items;
  free = numbers_from s.made (s.pages - s.made) ++ s.given_back.items;
  made = s.made;
  work = s.work;
}

-- the bytes are those of the pages made so far, and there is room for all others
pub record IsPagePool (s : Inside) : Type 0 where
  pub are : IsPool (pool_in s)
  pub within : s.made ≤ s.pages
  pub whole : length s.bytes.items ≡ s.made * page_size
  pub given : All (λ n. n < s.made) s.given_back.items
  pub reserved : s.pages * page_size ≤ vec_capacity s.bytes
  pub room : s.pages ≤ vec_capacity s.given_back
