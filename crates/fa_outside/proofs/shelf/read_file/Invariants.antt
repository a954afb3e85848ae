use Rattle.std.proofs.Common.{◌≡◌, ◌+◌, ◌-◌, ◌≤◌, ◌++◌, vec_len, IsTrue}
use Rattle.fa_outside.specs.Files.{IsFile}
use Rattle.fa_outside.proofs.shelf.read_file.Given as goal

abbrev pub invariant-pieces : goal.invariant-pieces
invariant-pieces g l = record {
  open_file : IsTrue (g.F.Shelf.is_open l.shelf);
  content : IsFile (g.F.Shelf.told l.fn.shelf) l.fn.name (l.bytes.items ++ g.F.Shelf.rest l.shelf);
  told : g.F.Shelf.told l.shelf ≡ g.F.Shelf.told l.fn.shelf;
  quiet : g.F.Shelf.faults l.shelf ≡ g.F.Shelf.faults l.fn.shelf;
  within : vec_len l.bytes ≤ l.limit + 1;
}

abbrev pub decreases-pieces : goal.decreases-pieces
decreases-pieces g l = l.limit + 1 - vec_len l.bytes
