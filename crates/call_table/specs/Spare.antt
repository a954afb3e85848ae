-- Room for an output and counts. This project's own.
use Rattle.std.specs.Prelude.{ℕ, ◌≤◌, ◌≡◌, [], vec_capacity}
use Rattle.call_table.specs.declared.spare.Spare.{Spare}

pub record HasRoom (room channels : ℕ) (s : Spare) : Type 0 where
  pub no_output : s.output.items ≡ []
  pub no_counts : s.counts.items ≡ []
  pub output_room : room ≤ vec_capacity s.output
  pub counts_room : channels ≤ vec_capacity s.counts
