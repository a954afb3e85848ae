-- A new record fits the table.
use Rattle.std.proofs.Common.{◌≡◌, ℕ, List, Some, None, slice_get, unwrap_or, refl, ap}
use Rattle.faaslet_meaning.specs.declared.call.CallState.TheVariants.{Queued}
use Rattle.faaslet_meaning.specs.declared.call.Callable.{Callable}
use Rattle.faaslet_meaning.specs.Table.{Table, callable, place_of, queued_record}

-- ---- A new record.

pub record_made : (t : Table) (function from request room fuel placed : ℕ) (input bytes : List ℕ) → bytes ≡ input → room ≡ (callable t function).room → fuel ≡ (callable t function).fuel → placed ≡ place_of t function from
    → record { request = request; parent = None; child = 0; depth = 1; function = function; input = bytes; room = room; fuel = fuel; from = from; placed = placed; state = Queued; children = 0 } ≡ record (queued_record t function from input) { request = request }
record_made t function from request room fuel placed input bytes b c d e = rw (b, c, d, e) refl

pub known_so : (t : Table) (function : ℕ) (known : Callable) → slice_get t.functions function ≡ Some known → callable t function ≡ known
known_so t function known e = ap (λ o. unwrap_or o (record { fuel = 0; room = 0; channels = 0 })) e
