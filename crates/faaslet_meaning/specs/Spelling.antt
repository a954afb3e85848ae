-- How the entries of a history are spelled where each is a list of numbers. This project's own.
use Rattle.std.specs.Prelude.{◌≡◌, ℕ, List, [], ◌∷◌, ◌++◌, length, map, IsTrue, FitsSigned}
use Rattle.std.specs.Int.{cast_unsigned, w32}
use Rattle.faaslet_meaning.specs.declared.outcome.Trap.{Trap}
use Rattle.faaslet_meaning.specs.declared.outcome.Trap.TheVariants as trap
use Rattle.faaslet_meaning.specs.declared.outcome.Broken.{Broken}
use Rattle.faaslet_meaning.specs.declared.outcome.Broken.TheVariants as broken
use Rattle.faaslet_meaning.specs.declared.outcome.Outcome.{Outcome}
use Rattle.faaslet_meaning.specs.declared.outcome.Outcome.TheVariants as outcome
use Rattle.faaslet_meaning.specs.Channels.{RegionOperation}
use Rattle.faaslet_meaning.specs.Table as table
use Rattle.faaslet_meaning.specs.Table.{TableOperation}
use Rattle.faaslet_meaning.specs.History.{Rules, History}

-- a list has its length before it
abbrev pub listed : List ℕ → List ℕ
listed xs = length xs ∷ xs

-- First comes the place of an operation among those on a region, then its parts in order.
abbrev pub spelled : RegionOperation → List ℕ
spelled RegionOperation.probe = 0 ∷ []
spelled (RegionOperation.read off len) = 1 ∷ off ∷ len ∷ []
spelled (RegionOperation.send off len) = 2 ∷ off ∷ len ∷ []
spelled RegionOperation.size = 3 ∷ []
spelled (RegionOperation.fill bytes) = 4 ∷ listed bytes
spelled (RegionOperation.write off bytes) = 5 ∷ off ∷ listed bytes
spelled (RegionOperation.take off bytes) = 6 ∷ off ∷ listed bytes
spelled (RegionOperation.put off bytes) = 7 ∷ off ∷ listed bytes
spelled (RegionOperation.append bytes) = 8 ∷ listed bytes
spelled RegionOperation.lock_read = 9 ∷ []
spelled RegionOperation.lock_write = 10 ∷ []
spelled RegionOperation.unlock = 11 ∷ []

-- the place of a trap in the order of its type
abbrev pub trap_place : Trap → ℕ
trap_place trap.Unreachable = 0
trap_place trap.OutOfBounds = 1
trap_place trap.DivideByZero = 2
trap_place trap.IntegerOverflow = 3
trap_place trap.UndefinedElement = 4
trap_place trap.UninitializedElement = 5
trap_place trap.TypeMismatch = 6
trap_place trap.StackExhausted = 7
trap_place trap.Denied = 8
trap_place trap.BadKey = 9
trap_place trap.BadFunction = 10
trap_place trap.BadChild = 11
trap_place trap.BufferTooLong = 12
trap_place trap.StateRange = 13
trap_place trap.AppendFull = 14
trap_place trap.LockMisuse = 15
trap_place trap.TooManyLocks = 16
trap_place trap.TooManyMappings = 17
trap_place trap.MapFull = 18
trap_place trap.CallRange = 19
trap_place trap.OutputFull = 20
trap_place trap.ChainFull = 21

abbrev pub spelled_broken : Broken → List ℕ
spelled_broken broken.Segment = 0 ∷ []
spelled_broken broken.Quota = 1 ∷ []
spelled_broken (broken.Trap kind) = 2 ∷ trap_place kind ∷ []
spelled_broken broken.Fuel = 3 ∷ []
spelled_broken broken.HostCall = 4 ∷ []

-- the place of each variant, and then its number, where it is negative modulo 2 ^ 32
abbrev pub spelled_outcome : Outcome → List ℕ
spelled_outcome (outcome.Done n) = 0 ∷ cast_unsigned w32 n ∷ []
spelled_outcome (outcome.Trap kind) = 1 ∷ trap_place kind ∷ []
spelled_outcome outcome.FuelOut = 2 ∷ []
spelled_outcome (outcome.Broken kind) = 3 ∷ spelled_broken kind
spelled_outcome outcome.Want = 4 ∷ []

-- an operation on the call table
abbrev pub spelled_on_table : TableOperation → List ℕ
spelled_on_table (table.submit_request function host input) = 0 ∷ function ∷ host ∷ listed input
spelled_on_table (table.submit parent function input) = 1 ∷ parent ∷ function ∷ listed input
spelled_on_table (table.take_next host bench) = 2 ∷ host ∷ bench ∷ []
spelled_on_table (table.take_this call host bench) = 3 ∷ call ∷ host ∷ bench ∷ []
spelled_on_table (table.finish call o used output counts) = 4 ∷ call ∷ (spelled_outcome o ++ used ∷ (listed output ++ listed counts))
spelled_on_table (table.look parent child) = 5 ∷ parent ∷ child ∷ []

-- A maker's entry makes one state of another, where it spells an operation that may stand.
pub record Makes {S O : Type 0} (rules : Rules S O) (spell : O → List ℕ) (maker : ℕ) (entry : List ℕ) (before after : S) : Type 0 where
  pub operation : O
  pub spelled_so : entry ≡ spell operation
  pub may_stand : IsTrue (rules.may before maker operation)
  pub after_so : after ≡ rules.after before maker operation

-- entries that lead from a state to another, each making one state of the one before
abbrev pub MakeAll : {S O : Type 0} → Rules S O → (O → List ℕ) → S → List (ℕ × List ℕ) → S → Type 0
MakeAll rules spell s [] t = t ≡ s
MakeAll {S} rules spell s (e ∷ es) t = (u : S) × Makes rules spell e.0 e.1 s u × MakeAll rules spell u es t

-- a list of makers and spelled entries is this history
abbrev pub Spells : {O : Type 0} → (O → List ℕ) → List (ℕ × List ℕ) → History O → Type 0
Spells spell entries history = entries ≡ map (λ e. (e.0, spell e.1)) history

-- what an outcome or an operation must fit so that it can be told from its spelling: the result of `main` is an i32
abbrev pub CodeFits : Outcome → Type 0
CodeFits (outcome.Done n) = FitsSigned w32 n
CodeFits _ = Unit {0}

abbrev pub OperationFits : TableOperation → Type 0
OperationFits (table.finish call o used output counts) = CodeFits o
OperationFits _ = Unit {0}
