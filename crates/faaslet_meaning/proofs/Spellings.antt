-- No two operations have one spelling.
use Rattle.std.proofs.Common.{◌≡◌, ℕ, List, [], ◌∷◌, ◌++◌, length, take, drop, refl, sym, ap, ◌∙◌, Option, Some, None, arith}
use Rattle.std.proofs.lemmas.List.{take_all, take_at, drop_at}
use Rattle.std.proofs.lemmas.Int.{to_z-of_z}
use Rattle.std.specs.Prelude.{IsTrue, option_map, option_and_then, slice_get, slice_index_or}
use Rattle.std.specs.Int.{cast_signed, w32}
use Rattle.faaslet_meaning.specs.declared.outcome.Trap.{Trap}
use Rattle.faaslet_meaning.specs.declared.outcome.Trap.TheVariants as trap
use Rattle.faaslet_meaning.specs.declared.outcome.Broken.{Broken}
use Rattle.faaslet_meaning.specs.declared.outcome.Broken.TheVariants as broken
use Rattle.faaslet_meaning.specs.declared.outcome.Outcome.{Outcome}
use Rattle.faaslet_meaning.specs.declared.outcome.Outcome.TheVariants as outcome
use Rattle.faaslet_meaning.specs.Table as table
use Rattle.faaslet_meaning.specs.Table.{TableOperation}
use Rattle.faaslet_meaning.specs.Lists.{row_at}
use Rattle.faaslet_meaning.specs.Channels.{RegionOperation}
use Rattle.faaslet_meaning.specs.Spelling.{listed, spelled, trap_place, spelled_broken, spelled_outcome, spelled_on_table, CodeFits, OperationFits}

-- the parts of a spelling
abbrev number : ℕ → List ℕ → ℕ
number i xs = slice_index_or xs i 0

abbrev listing : List ℕ → List ℕ
listing [] = []
listing (n ∷ xs) = take n xs

abbrev rows : List (ℕ × (List ℕ → RegionOperation))
rows =
    (0, λ xs. RegionOperation.probe)
    ∷ (1, λ xs. RegionOperation.read (number 0 xs) (number 1 xs))
    ∷ (2, λ xs. RegionOperation.send (number 0 xs) (number 1 xs))
    ∷ (3, λ xs. RegionOperation.size)
    ∷ (4, λ xs. RegionOperation.fill (listing xs))
    ∷ (5, λ xs. RegionOperation.write (number 0 xs) (listing (drop 1 xs)))
    ∷ (6, λ xs. RegionOperation.take (number 0 xs) (listing (drop 1 xs)))
    ∷ (7, λ xs. RegionOperation.put (number 0 xs) (listing (drop 1 xs)))
    ∷ (8, λ xs. RegionOperation.append (listing xs))
    ∷ (9, λ xs. RegionOperation.lock_read)
    ∷ (10, λ xs. RegionOperation.lock_write)
    ∷ (11, λ xs. RegionOperation.unlock)
    ∷ []

-- what a spelling says
abbrev said : List ℕ → Option RegionOperation
said [] = None
said (n ∷ xs) = option_map (λ row. row xs) (row_at rows n)

listed_says : (bytes : List ℕ) → take (length bytes) bytes ≡ bytes
listed_says bytes = take_all (length bytes) bytes (let n = length bytes in omega arith)

says : (op : RegionOperation) → said (spelled op) ≡ Some op
says RegionOperation.probe = refl
says (RegionOperation.read off len) = refl
says (RegionOperation.send off len) = refl
says RegionOperation.size = refl
says (RegionOperation.fill bytes) = ap (λ bs. Some (RegionOperation.fill bs)) (listed_says bytes)
says (RegionOperation.write off bytes) = ap (λ bs. Some (RegionOperation.write off bs)) (listed_says bytes)
says (RegionOperation.take off bytes) = ap (λ bs. Some (RegionOperation.take off bs)) (listed_says bytes)
says (RegionOperation.put off bytes) = ap (λ bs. Some (RegionOperation.put off bs)) (listed_says bytes)
says (RegionOperation.append bytes) = ap (λ bs. Some (RegionOperation.append bs)) (listed_says bytes)
says RegionOperation.lock_read = refl
says RegionOperation.lock_write = refl
says RegionOperation.unlock = refl

pub one_spelling : (a b : RegionOperation) → spelled a ≡ spelled b → a ≡ b
one_spelling a b e =
    let same : Some a ≡ Some b = sym (says a) ∙ ap said e ∙ says b in
    cc

-- ---- Operations on the table.

abbrev traps : List Trap
traps =
    trap.Unreachable
    ∷ trap.OutOfBounds
    ∷ trap.DivideByZero
    ∷ trap.IntegerOverflow
    ∷ trap.UndefinedElement
    ∷ trap.UninitializedElement
    ∷ trap.TypeMismatch
    ∷ trap.StackExhausted
    ∷ trap.Denied
    ∷ trap.BadKey
    ∷ trap.BadFunction
    ∷ trap.BadChild
    ∷ trap.BufferTooLong
    ∷ trap.StateRange
    ∷ trap.AppendFull
    ∷ trap.LockMisuse
    ∷ trap.TooManyLocks
    ∷ trap.TooManyMappings
    ∷ trap.MapFull
    ∷ trap.CallRange
    ∷ trap.OutputFull
    ∷ trap.ChainFull
    ∷ []

trap_says : (t : Trap) → slice_get traps (trap_place t) ≡ Some t
trap_says trap.Unreachable = refl
trap_says t = refl

abbrev broken_rows : List (ℕ × (List ℕ → Option (Broken × List ℕ)))
broken_rows =
    (0, λ xs. Some (broken.Segment, xs))
    ∷ (1, λ xs. Some (broken.Quota, xs))
    ∷ (2, λ xs. option_map (λ t. (broken.Trap t, drop 1 xs)) (slice_get traps (number 0 xs)))
    ∷ (3, λ xs. Some (broken.Fuel, xs))
    ∷ (4, λ xs. Some (broken.HostCall, xs))
    ∷ []

abbrev said_by : {A : Type 0} → List (ℕ × (List ℕ → Option (A × List ℕ))) → List ℕ → Option (A × List ℕ)
said_by forms [] = None
said_by forms (n ∷ xs) = option_and_then (λ form. form xs) (row_at forms n)

broken_says : (b : Broken) (rest : List ℕ) → said_by broken_rows (spelled_broken b ++ rest) ≡ Some (b, rest)
broken_says (broken.Trap kind) rest = ap (option_map (λ t. (broken.Trap t, rest))) (trap_says kind)
broken_says b rest = refl

abbrev outcome_rows : List (ℕ × (List ℕ → Option (Outcome × List ℕ)))
outcome_rows =
    (0, λ xs. Some (outcome.Done (cast_signed w32 (number 0 xs)), drop 1 xs))
    ∷ (1, λ xs. option_map (λ t. (outcome.Trap t, drop 1 xs)) (slice_get traps (number 0 xs)))
    ∷ (2, λ xs. Some (outcome.FuelOut, xs))
    ∷ (3, λ xs. option_map (λ b. (outcome.Broken b.0, b.1)) (said_by broken_rows xs))
    ∷ (4, λ xs. Some (outcome.Want, xs))
    ∷ []

outcome_says : (o : Outcome) (rest : List ℕ) → CodeFits o → said_by outcome_rows (spelled_outcome o ++ rest) ≡ Some (o, rest)
outcome_says (outcome.Done n) rest h = ap (λ m. Some (outcome.Done m, rest)) (to_z-of_z w32 n h)
outcome_says (outcome.Trap kind) rest h = ap (option_map (λ t. (outcome.Trap t, rest))) (trap_says kind)
outcome_says outcome.FuelOut rest h = refl
outcome_says (outcome.Broken kind) rest h = ap (option_map (λ b. (outcome.Broken b.0, b.1))) (broken_says kind rest)
outcome_says outcome.Want rest h = refl

abbrev rest_of_finish : ℕ → Outcome → List ℕ → TableOperation
rest_of_finish call o xs = table.finish call o (number 0 xs) (take (number 1 xs) (drop 2 xs)) (listing (drop (number 1 xs) (drop 2 xs)))

abbrev table_rows : List (ℕ × (List ℕ → Option TableOperation))
table_rows =
    (0, λ xs. Some (table.submit_request (number 0 xs) (number 1 xs) (listing (drop 2 xs))))
    ∷ (1, λ xs. Some (table.submit (number 0 xs) (number 1 xs) (listing (drop 2 xs))))
    ∷ (2, λ xs. Some (table.take_next (number 0 xs) (number 1 xs)))
    ∷ (3, λ xs. Some (table.take_this (number 0 xs) (number 1 xs) (number 2 xs)))
    ∷ (4, λ xs. option_map (λ o. rest_of_finish (number 0 xs) o.0 o.1) (said_by outcome_rows (drop 1 xs)))
    ∷ (5, λ xs. Some (table.look (number 0 xs) (number 1 xs)))
    ∷ []

abbrev said_on_table : List ℕ → Option TableOperation
said_on_table [] = None
said_on_table (n ∷ xs) = option_and_then (λ row. row xs) (row_at table_rows n)

says_on_table : (op : TableOperation) → OperationFits op → said_on_table (spelled_on_table op) ≡ Some op
says_on_table (table.submit_request f host input) h = ap (λ bs. Some (table.submit_request f host bs)) (listed_says input)
says_on_table (table.submit parent f input) h = ap (λ bs. Some (table.submit parent f bs)) (listed_says input)
says_on_table (table.take_next host bench) h = refl
says_on_table (table.take_this call host bench) h = refl
says_on_table (table.finish call o used output counts) h =
    ap (option_map (λ p. rest_of_finish call p.0 p.1)) (outcome_says o (used ∷ (listed output ++ listed counts)) h)
    ∙ ap (λ bs. Some (table.finish call o used bs (listing (drop (length output) (output ++ listed counts))))) (take_at output (listed counts) (length output) refl)
    ∙ ap (λ bs. Some (table.finish call o used output (listing bs))) (drop_at output (listed counts) (length output) refl)
    ∙ ap (λ bs. Some (table.finish call o used output bs)) (listed_says counts)
says_on_table (table.look parent child) h = refl

pub one_spelling_on_table : (a b : TableOperation) → OperationFits a → OperationFits b → spelled_on_table a ≡ spelled_on_table b → a ≡ b
one_spelling_on_table a b h k e =
    let same : Some a ≡ Some b = sym (says_on_table a h) ∙ ap said_on_table e ∙ says_on_table b k in
    cc
