-- Who makes entries on the objects of some keys, who holds their locks, who keeps a call of some functions from its next event, and of
-- whom such a call is a child: calls of these functions alone. So each number of a call in a cut is that of a call that is kept. This
-- project's own.
use Rattle.std.specs.Prelude.{◌≡◌, ℕ, true, Some, is_some, slice_get, List}
use Rattle.std.specs.List.{AllByRecursion}
use Rattle.faaslet_meaning.specs.declared.call.CallRecord.{CallRecord}
use Rattle.faaslet_meaning.specs.Region.{writes, holders}
use Rattle.session_meaning.specs.Plan.{Plan, Names, is_key_of}
use Rattle.session_meaning.specs.World.{Object, World}
use Rattle.session_meaning.specs.Cut.{rank, calls_of, part_of, cut_table_entry}
use Rattle.session_meaning.specs.CallNames.{call_name}
use Rattle.session_meaning.specs.NamedCut.{world_by_name}

-- It is a call of these functions, and its number in the cut stands for its name.
pub record OfPart (plan : Plan) (functions keys : Names) (w : World) (call : ℕ) : Type 0 where
  pub is_kept : calls_of plan functions w call ≡ true
  pub stands : slice_get (world_by_name plan functions keys w).calls (rank (calls_of plan functions w) call) ≡ Some (call_name plan w.table.records call)

-- each maker in the history of an object, and each who holds a lock of it
pub record ObjectOfPart (plan : Plan) (functions keys : Names) (w : World) (o : Object) : Type 0 where
  pub makers : AllByRecursion (λ e. OfPart plan functions keys w e.0) o.history
  pub holders : AllByRecursion (OfPart plan functions keys w) (holders o.region writes)

-- So of each replica and of each global value of these keys. On the table an entry is in the cut exactly where its maker is such
-- a call.
pub record MakersOfPart (plan : Plan) (functions keys : Names) (w : World) : Type 0 where
  pub locals : (host key : ℕ) (objects : List Object) (o : Object) → slice_get w.locals host ≡ Some objects → slice_get objects key ≡ Some o → is_key_of plan keys key ≡ true → ObjectOfPart plan functions keys w o
  pub globals : (key : ℕ) (o : Object) → slice_get w.globals key ≡ Some o → is_key_of plan keys key ≡ true → ObjectOfPart plan functions keys w o
  pub table : AllByRecursion (λ e. is_some (cut_table_entry (part_of plan functions keys w) e) ≡ calls_of plan functions w e.0) w.table_history

-- So of the parent of each such call, and of the first call of its request.
pub record KinOfPart (plan : Plan) (functions keys : Names) (w : World) : Type 0 where
  pub parents : (call parent : ℕ) (r : CallRecord) → slice_get w.table.records call ≡ Some r → calls_of plan functions w call ≡ true → r.parent ≡ Some parent → OfPart plan functions keys w parent
  pub requests : (call : ℕ) (r : CallRecord) → slice_get w.table.records call ≡ Some r → calls_of plan functions w call ≡ true → OfPart plan functions keys w r.request
