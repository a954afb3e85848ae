-- A shelf in memory. This project's own.
use Rattle.std.specs.Prelude.{ℕ, ◌+◌, ◌-◌, ◌^◌, min, List, [], Option, Some, None, String, Vec, map, drop, option_map, slice_get, unwrap_or}
use Rattle.std.specs.String.{string_bytes}
use Rattle.std.specs.declared.alloc.Global.{Global}
use Rattle.fa_outside.specs.declared.mem_shelf.Place.{Place}
use Rattle.fa_outside.specs.Files.{Files, file_named}

-- its files, what is not yet read of the open one, and how often it has failed
pub record Shelved : Type 0 where
  pub files : Files
  pub unread : Option (List ℕ)
  pub faults : ℕ

-- the names and the contents
abbrev pub files_of : List (String Global × Vec ℕ Global) → Files
files_of files = map (λ f. (string_bytes f.0, f.1.items)) files

-- what the file at this place of the list holds
abbrev pub content_at : Files → ℕ → List ℕ
content_at files i = unwrap_or (option_map (λ f. f.1) (slice_get files i)) []

-- what is not yet read behind a place
abbrev pub rest_at : Files → Place → List ℕ
rest_at files place = drop place.offset (content_at files place.file)

-- after a fault nothing is open
abbrev pub failed : Shelved → Shelved
failed s = record s { unread = None; faults = min (s.faults + 1) (2 ^ 64 - 1) }

-- after a call of `open`
abbrev opened_as : Shelved → Option (List ℕ) → Shelved
opened_as s None = failed s
opened_as s (Some bytes) = record s { unread = Some bytes }

abbrev pub opened : Shelved → List ℕ → Shelved
opened s name = opened_as s (file_named s.files name)
