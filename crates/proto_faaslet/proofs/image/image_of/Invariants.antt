-- So far the image has the first pages of the memory.
use Rattle.std.proofs.Common.{◌≡◌, ◌*◌, length, take}
use Rattle.faaslet_meaning.specs.Memory.{page_size}
use Rattle.proto_faaslet.proofs.image.image_of.Given as goal

abbrev pub invariant-loop-place : goal.invariant-loop-place
invariant-loop-place g l = record {
  pages : l.image.pages ≡ l.place;
  bytes : l.image.bytes ≡ take (l.place * page_size) (g.M.Linear.memory l.memory).bytes;
  whole : length l.page.items ≡ page_size;
}
