-- What a bench heard on a channel leaves it no lock: each of its calls ended without.
use Rattle.std.proofs.Common.{◌≡◌, ℕ, zero, suc, ◌+◌, ◌<◌, ◌≤◌, Bool, true, false, List, [], ◌∷◌, refl, sym, ap, ◌∙◌, subst, length, take, drop, arith}
use Rattle.std.proofs.Math.Logic.{∥∥₁_elim}
use Rattle.std.proofs.Math.Bool.{Bool-set}
use Rattle.std.proofs.lemmas.List.{length-map, take-map}
use Rattle.faaslet_meaning.specs.declared.grant.Channel.{Channel}
use Rattle.faaslet_meaning.specs.declared.outcome.Outcome.{Outcome}
use Rattle.faaslet_meaning.specs.Channels.{RegionOperation, Operation, on_region, Reply, Told}
use Rattle.faaslet_meaning.specs.Configuration.{Configuration}
use Rattle.faaslet_meaning.specs.Fresh.{Function, Made, makes, breaks, nothing, fresh}
use Rattle.faaslet_meaning.specs.Runnable.{Runnable}
use Rattle.faaslet_meaning.specs.Runs.{runs_by, Runs}
use Rattle.faaslet_meaning.specs.Valid.{Valid}
use Rattle.faaslet_meaning.proofs.Ways.{run_goes}
use Rattle.session_meaning.specs.Answered.{Answered, told_of}
use Rattle.session_meaning.specs.Own.{Session, order_of, count_on, made_before}
use Rattle.session_meaning.specs.Plan.{Plan}
use Rattle.session_meaning.specs.WellFormed.{WellFormed}
use Rattle.session_meaning.proofs.BenchParts.{found}
use Rattle.session_meaning.proofs.CallsRan.{all_get}
use Rattle.session_meaning.proofs.Orders.{marks, InOrder, history_in_order}
use Rattle.session_meaning.proofs.RanSections.{drop_map}
use Rattle.session_meaning.proofs.WellFits.{modules_fit}
use Rattle.faaslet_meaning.specs.Table.{Table}
use Rattle.turn_cell.specs.declared.view.Entry.{Entry}
use Rattle.turn_cell.specs.History.{Stands}
use Rattle.call_table.specs.Makers.{MakesTable}
use Rattle.call_table.specs.Session.{SessionTable}
use Rattle.told_asks.specs.Leaves.{leaves_one, leaves_lock}
use Rattle.told_asks.proofs.Ends.{ends_without}
use Rattle.bench_parts.specs.Parts.{Heard, part_in}
use Rattle.bench_parts.specs.Ran.{BenchRan}
use Rattle.bench_parts.proofs.Counts.{of_bench}
use Rattle.session_ends.specs.Opened.{first_session}
use Rattle.session_ends.proofs.Makers.{WellLed, well_led, good_first}

-- ---- A lock that is left was taken somewhere, and any part with that place leaves it.

more_locks : (b : Bool) (xs : List (Operation × Reply)) → leaves_lock false xs ≡ true → leaves_lock b xs ≡ true
more_locks false xs h = h
more_locks true [] h = refl
more_locks true (x ∷ xs) h = by x.0 h (more_locks true xs)
  where
    by : (op : Operation) → leaves_lock (leaves_one op false) xs ≡ true → (leaves_lock false xs ≡ true → leaves_lock true xs ≡ true) → leaves_lock (leaves_one op true) xs ≡ true
    by (on_region RegionOperation.lock_read) h go = h
    by (on_region RegionOperation.lock_write) h go = h
    by (on_region RegionOperation.unlock) h go = h
    by (on_region op) h go = go h
    by (Operation.submit f input) h go = go h
    by (Operation.look c) h go = go h

-- where it matters whether there was a lock before, nothing locks or unlocks
quiet : (n : ℕ) (xs : List (Operation × Reply)) → leaves_lock true xs ≡ true → leaves_lock false xs ≡ false → leaves_lock true (take n xs) ≡ true
quiet zero xs h k = refl
quiet (suc n) [] h k = refl
quiet (suc n) (x ∷ xs) h k = by x.0 h k (quiet n xs)
  where
    by : (op : Operation) → leaves_lock (leaves_one op true) xs ≡ true → leaves_lock (leaves_one op false) xs ≡ false → (leaves_lock true xs ≡ true → leaves_lock false xs ≡ false → leaves_lock true (take n xs) ≡ true) → leaves_lock (leaves_one op true) (take n xs) ≡ true
    by (on_region RegionOperation.lock_read) h k go = let no : ⊥ = cc in absurd no
    by (on_region RegionOperation.lock_write) h k go = let no : ⊥ = cc in absurd no
    by (on_region RegionOperation.unlock) h k go = let no : ⊥ = cc in absurd no
    by (on_region op) h k go = go h k
    by (Operation.submit f input) h k go = go h k
    by (Operation.look c) h k go = go h k

record Lasting (xs : List (Operation × Reply)) : Type 0 where
  pub at : ℕ
  pub within : at < length xs
  pub locks : (from count : ℕ) → from ≤ at → at < from + count → leaves_lock false (take count (drop from xs)) ≡ true

later_part : (x : Operation × Reply) (xs : List (Operation × Reply)) (l : Lasting xs) (from count : ℕ) → from ≤ suc l.at → suc l.at < from + count → leaves_lock false (take count (drop from (x ∷ xs))) ≡ true
later_part x xs l zero zero h k = let no : ⊥ = omega (arith, k) in absurd no
later_part x xs l zero (suc count) h k = more_locks (leaves_one x.0 false) (take count xs) (l.locks 0 count (omega arith) (omega (arith, k)))
later_part x xs l (suc from) count h k = l.locks from count (omega (arith, h)) (omega (arith, k))

first_part : (x : Operation × Reply) (xs : List (Operation × Reply)) (from count : ℕ) → leaves_one x.0 false ≡ true → leaves_lock true xs ≡ true → leaves_lock false xs ≡ false → from ≤ 0 → 0 < from + count → leaves_lock false (take count (drop from (x ∷ xs))) ≡ true
first_part x xs zero zero i e f h k = let no : ⊥ = omega (arith, k) in absurd no
first_part x xs zero (suc count) i e f h k = ap (λ b. leaves_lock b (take count xs)) i ∙ quiet count xs e f
first_part x xs (suc from) count i e f h k = let no : ⊥ = omega (arith, h) in absurd no

lasting : (xs : List (Operation × Reply)) → leaves_lock false xs ≡ true → Lasting xs
lasting [] e = let no : ⊥ = cc in absurd no
lasting (x ∷ xs) e = by (leaves_lock false xs) (leaves_one x.0 false) refl refl e (lasting xs)
  where
    by : (b c : Bool) → leaves_lock false xs ≡ b → leaves_one x.0 false ≡ c → leaves_lock c xs ≡ true → (leaves_lock false xs ≡ true → Lasting xs) → Lasting (x ∷ xs)
    by true c h i e go = let l = go h in let w = l.within in record { at = suc l.at; within = omega (arith, w); locks = later_part x xs l }
    by false true h i e go = record { at = 0; within = omega arith; locks = λ from count. first_part x xs from count i e h }
    by false false h i e go = let no : ⊥ = cc in absurd no

-- ---- A call ends without a lock, and so does a bench.

run_unlocked : (f : Function) (input : List ℕ) (told : Told) (o : Outcome) (output : List ℕ) (used : ℕ) (ch : Channel) → Valid f.code → Runs f input told o output used → leaves_lock false (told ch) ≡ false
run_unlocked f input told o output used ch valid run = by (fresh f) refl run
  where
    by : (m : Made Configuration) → fresh f ≡ m → runs_by f m input told o output used → leaves_lock false (told ch) ≡ false
    by (makes c) e k = ap (leaves_lock false) (k.told_so ch) ∙ ends_without f input c k.transcript k.last o ch valid e (run_goes k.run)
    by (breaks b) e k = ap (leaves_lock false) (k.1 ch)
    by nothing e k = absurd k

pub bench_unlocked : (plan : Plan) (s : Session) (bench : ℕ) (ch : Channel) (heard : Heard) → WellFormed plan → InOrder (marks s.records) → BenchRan plan s.records bench heard → leaves_lock false (told_of (heard ch)) ≡ false
bench_unlocked plan s bench ch heard fine order ran = by (leaves_lock false all) refl
  where
    step : Answered → Operation × Reply
    step x = (x.operation, x.reply)

    all : List (Operation × Reply)
    all = told_of (heard ch)

    never : Lasting all → ⊥
    never l =
        let number = length-map (heard ch) step in
        let used = ran.used_up ch in
        let within = l.within in
        let f = found plan s bench l.at ch order (omega (arith, number, used, within)) in
        let c = ran.calls f.call f.r f.here (sym (of_bench bench f.r) ∙ f.of_bench) in
        let from = made_before plan s bench (order_of f.r.state) ch in
        let count = count_on plan f.r ch in
        let part : told_of (part_in plan s.records bench heard f.r ch) ≡ take count (drop from all) = sym (take-map step count (drop from (heard ch))) ∙ ap (take count) (drop_map step from (heard ch)) in
        let locked = l.locks from count f.from f.below in
        let valid = (all_get (λ f. Valid f.function.code × Runnable f.function.code) plan.functions f.r.function c.function (modules_fit plan fine) c.function_so).0 in
        let free : leaves_lock false (told_of (part_in plan s.records bench heard f.r ch)) ≡ false = ∥∥₁_elim {A = Runs c.function.function f.r.input (λ ch. told_of (part_in plan s.records bench heard f.r ch)) c.outcome c.output c.used} c.runs (Bool-set (leaves_lock false (told_of (part_in plan s.records bench heard f.r ch))) false) (λ run. run_unlocked c.function.function f.r.input (λ ch. told_of (part_in plan s.records bench heard f.r ch)) c.outcome c.output c.used ch valid run) in
        let both : leaves_lock false (take count (drop from all)) ≡ false = ap (leaves_lock false) (sym part) ∙ free in
        let no : ⊥ = cc (locked, both) in no

    by : (b : Bool) → leaves_lock false all ≡ b → leaves_lock false all ≡ false
    by true e = absurd (never (lasting all e))
    by false e = e

-- ---- By a list of the table.

pub led_in_order : (plan : Plan) (end : SessionTable) (list : List Entry) → WellLed plan (first_session plan) end list → InOrder (marks end.table.records)
led_in_order plan end list led =
    subst (λ (t : Table). InOrder (marks t.records)) (sym led.leads.end_so)
    (history_in_order (first_session plan).table led.history led.leads.legal (record { apart = λ m n o e f. let no : ⊥ = cc in absurd no; below = λ m o e. let no : ⊥ = cc in absurd no }))

pub rests_unlocked : (plan : Plan) (list : List Entry) (end : SessionTable) (bench : ℕ) (heard : Heard) → WellFormed plan → Stands MakesTable (first_session plan) list end → BenchRan plan end.table.records bench heard → (ch : Channel) → leaves_lock false (told_of (heard ch)) ≡ false
rests_unlocked plan list end bench heard fine st ran ch =
    bench_unlocked plan (record { records = end.table.records; locals = []; globals = []; table_history = [] }) bench ch heard fine (led_in_order plan end list (well_led plan (first_session plan) end list (good_first plan) st)) ran
