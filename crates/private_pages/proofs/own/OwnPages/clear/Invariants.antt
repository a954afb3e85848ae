-- The places still listed are those with a page, and each step costs one call.
use Rattle.std.proofs.Common.{◌≡◌, ◌+◌, ◌≤◌, length, vec_capacity}
use Rattle.private_pages.specs.OwnPages.{AreEntries}
use Rattle.private_pages.proofs.own.OwnPages.clear.Given as goal

abbrev pub invariant-places : goal.invariant-places
invariant-places l = record {
  are : AreEntries l.self-inside.pool l.self-inside.entries.items l.self-inside.dirty.items;
  few : length l.self-inside.pool.contents ≤ 4294967295;
  room : length l.self-inside.pool.contents ≤ vec_capacity l.self-inside.dirty;
  many : length l.self-inside.entries.items ≡ length l.initial.self-inside.entries.items;
  work : l.self-inside.pool.work + length l.self-inside.dirty.items ≤ l.initial.self-inside.pool.work + length l.initial.self-inside.dirty.items;
}

abbrev pub decreases-places : goal.decreases-places
decreases-places l = length l.self-inside.dirty.items
