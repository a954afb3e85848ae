-- A call makes few entries, so the numbers that are kept of them never come to their type's end.
use Rattle.std.proofs.Common.{◌≡◌, ℕ, suc, ◌+◌, ◌-◌, ◌*◌, ◌≤◌, ◌^◌, Bool, true, false, cond, List, [], ◌∷◌, refl, ap₂, length, map, arith}
use Rattle.std.specs.Prelude.{min}
use Rattle.std.proofs.lemmas.List.{length-append}
use Rattle.faaslet_meaning.specs.declared.grant.Channel.{Channel}
use Rattle.faaslet_meaning.specs.Bounds.{bound}
use Rattle.faaslet_meaning.specs.CallState.{Invocation, Progress, State, runs}
use Rattle.faaslet_meaning.specs.Channels.{Entry, Question, Reply, Transcript, ask, channels, counts, entries, entries_of, fills, on_channel, pulls, pushes, same_channel, told_by}
use Rattle.faaslet_meaning.specs.Goes.{Goes, answered, here, stepped}
use Rattle.faaslet_meaning.proofs.Bounded.{reply_bound, step_bound}

pub goes_few : {j : Invocation} {p y : Progress} {t : Transcript} → Goes j p t y → length t + bound j y ≤ bound j p
goes_few {y = y} here = let b = y in omega arith
goes_few {j} (stepped {s = s} g) = let a = goes_few g in let b = step_bound j s in omega (arith, a, b)
goes_few {j} (answered {s = s} {q = q} {r = r} fit g) = let a = goes_few g in let b = reply_bound j s q r in omega (arith, a, b)

few_entries : (q : Question) (r : Reply) → length (entries q r) ≤ 2
few_entries (ask ch op) Reply.want = omega arith
few_entries (ask ch op) Reply.done = omega arith
few_entries (ask ch op) Reply.full = omega arith
few_entries (ask ch op) Reply.chain_full = omega arith
few_entries (ask ch op) (Reply.present b) = omega arith
few_entries (ask ch op) (Reply.bytes bs) = omega arith
few_entries (ask ch op) (Reply.number n) = omega arith
few_entries (ask ch op) (Reply.child n) = omega arith
few_entries (ask ch op) (Reply.finished p bs) = omega arith
few_entries (fills key size) Reply.want = omega arith
few_entries (fills key size) Reply.done = omega arith
few_entries (fills key size) Reply.full = omega arith
few_entries (fills key size) Reply.chain_full = omega arith
few_entries (fills key size) (Reply.present b) = omega arith
few_entries (fills key size) (Reply.bytes bs) = omega arith
few_entries (fills key size) (Reply.number n) = omega arith
few_entries (fills key size) (Reply.child n) = omega arith
few_entries (fills key size) (Reply.finished p bs) = omega arith
few_entries (pulls key off len) Reply.want = omega arith
few_entries (pulls key off len) Reply.done = omega arith
few_entries (pulls key off len) Reply.full = omega arith
few_entries (pulls key off len) Reply.chain_full = omega arith
few_entries (pulls key off len) (Reply.present b) = omega arith
few_entries (pulls key off len) (Reply.bytes bs) = omega arith
few_entries (pulls key off len) (Reply.number n) = omega arith
few_entries (pulls key off len) (Reply.child n) = omega arith
few_entries (pulls key off len) (Reply.finished p bs) = omega arith
few_entries (pushes key off len) Reply.want = omega arith
few_entries (pushes key off len) Reply.done = omega arith
few_entries (pushes key off len) Reply.full = omega arith
few_entries (pushes key off len) Reply.chain_full = omega arith
few_entries (pushes key off len) (Reply.present b) = omega arith
few_entries (pushes key off len) (Reply.bytes bs) = omega arith
few_entries (pushes key off len) (Reply.number n) = omega arith
few_entries (pushes key off len) (Reply.child n) = omega arith
few_entries (pushes key off len) (Reply.finished p bs) = omega arith

on_few : (ch : Channel) (es : List Entry) → length (on_channel ch es) ≤ length es
on_few ch [] = omega arith
on_few ch (e ∷ es) = by (same_channel ch e.channel) (on_few ch es)
  where
    by : (b : Bool) → length (on_channel ch es) ≤ length es → length (cond b ((e.operation, e.reply) ∷ on_channel ch es) (on_channel ch es)) ≤ suc (length es)
    by true h = omega (arith, h)
    by false h = omega (arith, h)

entries_few : (t : Transcript) → length (entries_of t) ≤ 2 * length t
entries_few [] = omega arith
entries_few (x ∷ t) =
    let a = few_entries x.0 x.1 in
    let b = entries_few t in
    let c = length-append (entries x.0 x.1) (entries_of t) in
    omega (arith, a, b, c)

pub told_few : (t : Transcript) (ch : Channel) → length (told_by t ch) ≤ 2 * length t
told_few t ch = let a = on_few ch (entries_of t) in let b = entries_few t in omega (arith, a, b)

same_counts : (most : ℕ) (t : Transcript) (chs : List Channel) → 2 * length t ≤ most → map (λ n. min n most) (map (λ ch. length (told_by t ch)) chs) ≡ map (λ ch. length (told_by t ch)) chs
same_counts most t [] h = refl
same_counts most t (ch ∷ chs) h =
    let few = told_few t ch in
    let one : min (length (told_by t ch)) most ≡ length (told_by t ch) = omega (arith, few, h) in
    ap₂ (λ n ns. n ∷ ns) one (same_counts most t chs h)

-- a call with so much fuel and so many grants
pub counts_kept : (j : Invocation) (start : State) (t : Transcript) (y : Progress) → Goes j (runs start) t y → start.config.fuel ≤ 1099511627776 → length j.program.grants ≤ 32 → map (λ n. min n (2 ^ 64 - 1)) (counts j.program.grants (told_by t)) ≡ counts j.program.grants (told_by t)
counts_kept j start t y way fuel grants =
    let few = goes_few way in
    same_counts (2 ^ 64 - 1) t (channels j.program.grants) (omega (arith, few, fuel, grants))
