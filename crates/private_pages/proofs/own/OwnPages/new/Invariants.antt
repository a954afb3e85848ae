-- So far no place has a page.
use Rattle.std.proofs.Common.{◌≡◌, ◌≤◌, None, replicate, vec_capacity}
use Rattle.private_pages.proofs.own.OwnPages.new.Given as goal

abbrev pub invariant-places : goal.invariant-places
invariant-places l = record {
  none : l.entries.items ≡ replicate l._place None;
  room : l.room ≤ vec_capacity l.entries;
}
