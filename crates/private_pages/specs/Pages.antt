-- Private pages: their content, and the image that they are set back to. This project's own.
use Rattle.std.specs.Prelude.{◌≡◌, ℕ, zero, suc, ◌+◌, ◌-◌, ◌*◌, ◌/◌, ◌≤◌, List, [], ◌++◌, length, take, drop, replicate, nat_lt, nat_eq, if◌then◌else◌, Option, Some, None, IfSome, slice_index_or}
use Rattle.faaslet_meaning.specs.Memory.{Content, page_size, page_limit, over}

-- whole pages of bytes
pub record IsContent (c : Content) : Type 0 where
  pub whole : length c.bytes ≡ c.pages * page_size
  pub few : c.pages ≤ page_limit

-- Content, how many pages there may be, how many there is memory for, the image that was restored last, how many pages
-- of the pool are in use, and the work of the pool. What is read depends on the content alone.
pub record Pages : Type 0 where
  pub content : Content
  pub quota : ℕ
  pub room : ℕ
  pub last : Option Content
  pub dirty : ℕ
  pub work : ℕ

pub record ArePages (p : Pages) : Type 0 where
  pub content : IsContent p.content
  pub within : p.content.pages ≤ p.quota
  pub roomy : p.quota ≤ p.room
  pub few : p.room ≤ page_limit
  pub kept : IfSome p.last (λ c. IsContent c × (c.pages ≤ p.quota))

-- no page, over a pool of so many pages with this work
abbrev pub fresh_pages : ℕ → ℕ → Pages
fresh_pages n work = record { content = record { pages = 0; bytes = [] }; quota = n; room = n; last = None; dirty = 0; work = work }

-- the content of the image that was restored last, and without one no page
abbrev pub last_content : Option Content → Content
last_content None = record { pages = 0; bytes = [] }
last_content (Some c) = c

-- a page of bytes
abbrev pub page_at : List ℕ → ℕ → List ℕ
page_at bytes place = take page_size (drop (place * page_size) bytes)

-- what a page has that was not written: that of the image, and zeros past its end
abbrev pub clean_page : Option Content → ℕ → List ℕ
clean_page last place = if nat_lt place (last_content last).pages then page_at (last_content last).bytes place else replicate page_size 0

-- An entry is a page of its own or none; then the page is that of the image, or zero.
abbrev pub own_or : Option (List ℕ) → List ℕ → List ℕ
own_or None clean = clean
own_or (Some own) clean = own

abbrev pub page_content : List (Option (List ℕ)) → Option Content → ℕ → List ℕ
page_content own last place = own_or (slice_index_or own place None) (clean_page last place)

-- the contents of the first pages one after the other
abbrev pub joined : (ℕ → List ℕ) → ℕ → List ℕ
joined page zero = []
joined page (suc n) = joined page n ++ page n

-- how many pages a range touches
abbrev pub pages_touched : ℕ → ℕ → ℕ
pages_touched at size = if nat_eq size 0 then 0 else (at + size - 1) / page_size - at / page_size + 1

-- Bytes were put at an address. At most so many pages of the pool came in use: each was taken, filled and written.
pub record IsWritten (old new : Pages) (at : ℕ) (bytes : List ℕ) (most : ℕ) : Type 0 where
  pub content : new.content ≡ record old.content { bytes = over old.content.bytes at bytes }
  pub quota : new.quota ≡ old.quota
  pub room : new.room ≡ old.room
  pub last : new.last ≡ old.last
  pub low : old.dirty ≤ new.dirty
  pub high : new.dirty ≤ old.dirty + most
  pub work : new.work ≤ old.work + 3 * most
