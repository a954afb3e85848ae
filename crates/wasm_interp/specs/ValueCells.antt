-- How the stack of values lies in its cells. This project's own.
use Rattle.std.specs.Prelude.{◌≡◌, ℕ, zero, suc, ◌+◌, ◌/◌, ◌<◌, ◌≤◌, List, [], ◌∷◌, Bool, true, false, length, take, slice_index_or, slice_set}

-- a cell written that is there or is the next
abbrev pub put_at : List ℕ → ℕ → ℕ → List ℕ
put_at [] k x = x ∷ []
put_at (y ∷ ys) zero x = x ∷ ys
put_at (y ∷ ys) (suc k) x = y ∷ put_at ys k x

-- zeros in place of so many cells from one on
abbrev pub cleared : List ℕ → ℕ → ℕ → List ℕ
cleared xs from zero = xs
cleared xs from (suc n) = slice_set (cleared xs from n) (from + n) 0

-- each cell whose run isn't marked is zero; one that isn't there yet counts as zero
abbrev pub AreClean : List ℕ → List Bool → Type 0
AreClean cells marks = (k : ℕ) → slice_index_or marks (k / 64) true ≡ false → slice_index_or cells k 0 ≡ 0

-- none of the marks from one on up to another is set
abbrev pub AreUnmarked : List Bool → ℕ → ℕ → Type 0
AreUnmarked marks from to = (j : ℕ) → from ≤ j → j < to → slice_index_or marks j true ≡ false

-- what holds of the stack between its calls
pub record AreValues (cells : List ℕ) (top : ℕ) (marks : List Bool) (room : ℕ) : Type 0 where
  pub top_in : top ≤ length cells
  pub few : length cells ≤ 65536
  pub enough : 65536 ≤ room
  pub clean : AreClean cells marks

-- The cells from one on up to another are zero, those below are as they were, and the marks are right again.
pub record Cleaned (old new : List ℕ) (marks : List Bool) (from to : ℕ) : Type 0 where
  pub long : length new ≡ length old
  pub below : take from new ≡ take from old
  pub zeros : (k : ℕ) → from ≤ k → k < to → slice_index_or new k 0 ≡ 0
  pub clean : AreClean new marks
