-- A call makes few entries, so that the numbers that are kept of them never come to their type's end; and it begins with the
-- fuel of its function.
use Rattle.std.proofs.Common.{◌≡◌, ℕ, suc, ◌-◌, ◌*◌, ◌≤◌, ◌^◌, Bool, true, false, cond, List, [], ◌∷◌, refl, ap₂, length, map, arith}
use Rattle.std.specs.Prelude.{min, codes, option_and_then, slice_get}
use Rattle.std.proofs.lemmas.List.{length-append}
use Rattle.faaslet_meaning.specs.declared.grant.Channel.{Channel}
use Rattle.faaslet_meaning.specs.declared.outcome.Outcome.{Outcome}
use Rattle.faaslet_meaning.specs.CallState.{Invocation, State, runs}
use Rattle.faaslet_meaning.specs.Channels.{Entry, Question, Reply, Transcript, ask, channels, counts, entries, entries_of, fills, on_channel, pulls, pushes, same_channel, told_by}
use Rattle.faaslet_meaning.specs.Configuration.{Configuration}
use Rattle.faaslet_meaning.specs.Fresh.{Function, Made, breaks, fresh, instantiated, makes, nothing, program, then_make, through}
use Rattle.faaslet_meaning.specs.Program.{export_of}
use Rattle.faaslet_meaning.specs.Runs.{Run}
use Rattle.faaslet_meaning.proofs.Counted.{few_questions}
use Rattle.faaslet_run.proofs.Beginning.{entered_with}

-- ---- Fuel.

abbrev HasFuel : ℕ → Made Configuration → Type 0
HasFuel fuel m = (c : Configuration) → m ≡ makes c → c.fuel ≡ fuel

then_fuel : {A : Type 0} (fuel : ℕ) (m : Made A) (go : A → Made Configuration) → ((a : A) → HasFuel fuel (go a)) → HasFuel fuel (then_make m go)
then_fuel fuel (makes a) go h c e = h a c e
then_fuel fuel (breaks k) go h c e = let no : ⊥ = cc in absurd no
then_fuel fuel nothing go h c e = let no : ⊥ = cc in absurd no

pub first_fuel : (f : Function) (c : Configuration) → fresh f ≡ makes c → c.fuel ≡ f.fuel
first_fuel f = then_fuel f.fuel (instantiated f) _ (λ s. then_fuel f.fuel (through f f.code.start s) _ (λ t. then_fuel f.fuel (through f (export_of f.code (codes "init")) t) _
    (λ u c e. (entered_with f u (option_and_then (slice_get (program f).functions) (export_of f.code (codes "main"))) c e).1)))

-- ---- Entries.

few_entries : (q : Question) (r : Reply) → length (entries q r) ≤ 2
few_entries q Reply.want = omega arith
few_entries (ask ch op) Reply.done = omega arith
few_entries (ask ch op) Reply.full = omega arith
few_entries (ask ch op) Reply.chain_full = omega arith
few_entries (ask ch op) (Reply.present b) = omega arith
few_entries (ask ch op) (Reply.bytes bs) = omega arith
few_entries (ask ch op) (Reply.number n) = omega arith
few_entries (ask ch op) (Reply.child n) = omega arith
few_entries (ask ch op) (Reply.finished p bs) = omega arith
few_entries (fills key size) (Reply.bytes bs) = omega arith
few_entries (pulls key off len) (Reply.bytes bs) = omega arith
few_entries (pushes key off len) (Reply.bytes bs) = omega arith
few_entries (fills key size) r = omega arith
few_entries (pulls key off len) r = omega arith
few_entries (pushes key off len) r = omega arith

on_few : (ch : Channel) (es : List Entry) → length (on_channel ch es) ≤ length es
on_few ch [] = omega arith
on_few ch (e ∷ es) = by (same_channel ch e.channel) (on_few ch es)
  where
    by : (b : Bool) → length (on_channel ch es) ≤ length es → length (cond b ((e.operation, e.reply) ∷ on_channel ch es) (on_channel ch es)) ≤ suc (length es)
    by true h = omega (arith, h)
    by false h = omega (arith, h)

all_few : (t : Transcript) → length (entries_of t) ≤ 2 * length t
all_few [] = omega arith
all_few (x ∷ t) = let a = few_entries x.0 x.1 in let b = all_few t in let c = length-append (entries x.0 x.1) (entries_of t) in omega (arith, a, b, c)

none_lost : (most : ℕ) (t : Transcript) (chs : List Channel) → 2 * length t ≤ most → map (λ n. min n most) (map (λ ch. length (told_by t ch)) chs) ≡ map (λ ch. length (told_by t ch)) chs
none_lost most t [] h = refl
none_lost most t (ch ∷ chs) h =
    let a = on_few ch (entries_of t) in
    let b = all_few t in
    let one : min (length (told_by t ch)) most ≡ length (told_by t ch) = omega (arith, a, b, h) in
    ap₂ (λ n ns. n ∷ ns) one (none_lost most t chs h)

pub counts_so : (j : Invocation) (s last : State) (t : Transcript) (o : Outcome) → Run j (runs s) t last o → s.config.fuel ≤ 1099511627776 → length j.program.grants ≤ 32 → map (λ n. min n (2 ^ 64 - 1)) (counts j.program.grants (told_by t)) ≡ counts j.program.grants (told_by t)
counts_so j s last t o run fuel grants = let few = few_questions run in none_lost (2 ^ 64 - 1) t (channels j.program.grants) (omega (arith, few, fuel, grants))
