-- What a call that was finished counts on each channel, and a call that runs or is queued nothing; the sums of counts over the calls of a
-- bench.
use Rattle.std.proofs.Common.{◌≡◌, ℕ, ◌+◌, Bool, true, false, cond, List, [], ◌∷◌, Some, None, refl, sym, ap, ◌∙◌, length, slice_get, filter, nat_lt, map, arith}
use Rattle.std.proofs.lemmas.List.{length-map}
use Rattle.std.specs.Prelude.{not, ◌&&◌, ◌||◌, ◌==◌}
use Rattle.std.specs.List.{list_any, list_all}
use Rattle.std.proofs.lemmas.Bool.{and_parts, or_parts, eqb-true}
use Rattle.faaslet_meaning.specs.declared.call.CallRecord.{CallRecord}
use Rattle.faaslet_meaning.specs.declared.call.CallState.{CallState}
use Rattle.faaslet_meaning.specs.declared.call.CallState.TheVariants.{Queued, Taken, Finished}
use Rattle.faaslet_meaning.specs.declared.grant.Channel.{Channel}
use Rattle.faaslet_meaning.specs.declared.grant.Channel.TheVariants.{Local, Global, Table as OnTable}
use Rattle.faaslet_meaning.specs.declared.grant.Grant.{Grant}
use Rattle.faaslet_meaning.specs.Channels.{Operation, Told, channels, counts}
use Rattle.faaslet_meaning.specs.declared.grant.Mode.TheVariants.{Write}
use Rattle.faaslet_meaning.specs.MemoryRules.{includes}
use Rattle.call_table.specs.Mine.{is_of, childless, mine}
use Rattle.session_meaning.specs.Answered.{Answered, told_of}
use Rattle.session_meaning.specs.Own.{bench_of, order_of, counts_of, count_in, channels_of, count_on, is_of_bench, is_before}
use Rattle.session_meaning.specs.Plan.{NamedFunction, Plan}
use Rattle.session_meaning.specs.Ran.{allows, is_granted, needs_write}
use Rattle.bench_parts.specs.Parts.{made_in, made_by_all}
use Rattle.bench_parts.proofs.Sums.{pick, sum_if, sum_filter}

-- ---- The count of a channel.

abbrev has : List Grant → ℕ → Bool
has gs key = list_any (λ g. g.key == key) gs

local_count : (gs : List Grant) (key : ℕ) (told : Told) → (has gs key ≡ false → told (Local key) ≡ []) → count_in (channels gs) (counts gs told) (Local key) ≡ length (told (Local key))
local_count [] key told none = sym (ap length (none refl))
local_count (g ∷ gs) key told none = by (g.key == key) refl none (λ h. local_count gs key told h)
  where
    by : (b : Bool) → (g.key == key) ≡ b → ((b || has gs key) ≡ false → told (Local key) ≡ []) → ((has gs key ≡ false → told (Local key) ≡ []) → count_in (channels gs) (counts gs told) (Local key) ≡ length (told (Local key))) → cond b (length (told (Local g.key))) (count_in (channels gs) (counts gs told) (Local key)) ≡ length (told (Local key))
    by true e h go = ap (λ k. length (told (Local k))) (eqb-true g.key key e)
    by false e h go = go h

global_count : (gs : List Grant) (key : ℕ) (told : Told) → (has gs key ≡ false → told (Global key) ≡ []) → count_in (channels gs) (counts gs told) (Global key) ≡ length (told (Global key))
global_count [] key told none = sym (ap length (none refl))
global_count (g ∷ gs) key told none = by (g.key == key) refl none (λ h. global_count gs key told h)
  where
    by : (b : Bool) → (g.key == key) ≡ b → ((b || has gs key) ≡ false → told (Global key) ≡ []) → ((has gs key ≡ false → told (Global key) ≡ []) → count_in (channels gs) (counts gs told) (Global key) ≡ length (told (Global key))) → cond b (length (told (Global g.key))) (count_in (channels gs) (counts gs told) (Global key)) ≡ length (told (Global key))
    by true e h go = ap (λ k. length (told (Global k))) (eqb-true g.key key e)
    by false e h go = go h

table_count : (gs : List Grant) (told : Told) → count_in (channels gs) (counts gs told) OnTable ≡ length (told OnTable)
table_count [] told = refl
table_count (g ∷ gs) told = table_count gs told

-- a key that is not granted allows nothing, so nothing was told there
none_allows : (gs : List Grant) (key : ℕ) (op : Operation) → has gs key ≡ false → list_any (allows key op) gs ≡ false
none_allows [] key op h = refl
none_allows (g ∷ gs) key op h = let parts = or_parts (g.key == key) (has gs key) h in ap (λ b. (b && (not (needs_write op) || includes g.mode Write)) || list_any (allows key op) gs) parts.0 ∙ none_allows gs key op parts.1

none_told : (gs : List Grant) (key : ℕ) (es : List Answered) → list_all (λ e. list_any (allows key e.operation) gs) es ≡ true → has gs key ≡ false → es ≡ []
none_told gs key [] all h = refl
none_told gs key (e ∷ es) all h =
    let yes = (and_parts (list_any (allows key e.operation) gs) _ all).0 in
    let none = none_allows gs key e.operation h in
    let no : ⊥ = cc in absurd no

count_told : (call : ℕ) (gs : List Grant) (told : Channel → List Answered) → ((ch : Channel) → list_all (is_granted call gs ch) (told ch) ≡ true) → (ch : Channel) → count_in (channels gs) (counts gs (λ ch. told_of (told ch))) ch ≡ length (told_of (told ch))
count_told call gs told granted (Local key) = local_count gs key (λ ch. told_of (told ch)) (λ h. ap told_of (none_told gs key (told (Local key)) (granted (Local key)) h))
count_told call gs told granted (Global key) = global_count gs key (λ ch. told_of (told ch)) (λ h. ap told_of (none_told gs key (told (Global key)) (granted (Global key)) h))
count_told call gs told granted OnTable = table_count gs (λ ch. told_of (told ch))

pub counted : (plan : Plan) (r : CallRecord) (f : NamedFunction) (call : ℕ) (told : Channel → List Answered) (ch : Channel) → slice_get plan.functions r.function ≡ Some f → counts_of r.state ≡ counts f.function.grants (λ ch. told_of (told ch)) → ((ch : Channel) → list_all (is_granted call f.function.grants ch) (told ch) ≡ true) → count_on plan r ch ≡ length (told ch)
counted plan r f call told ch is_function counts_so granted =
    ap (λ o. count_in (elim o as (λ o. List Channel) [ None ↦ [] | Some f ↦ channels f.function.grants ]) (counts_of r.state) ch) is_function
    ∙ ap (λ ns. count_in (channels f.function.grants) ns ch) counts_so
    ∙ count_told call f.function.grants told granted ch
    ∙ length-map (told ch) (λ (e : Answered). (e.operation, e.reply))

count_none : (chs : List Channel) (ch : Channel) → count_in chs [] ch ≡ 0
count_none [] ch = refl
count_none (c ∷ chs) ch = refl

-- a call that isn't finished counts nothing
pub uncounted : (plan : Plan) (r : CallRecord) (ch : Channel) → counts_of r.state ≡ [] → count_on plan r ch ≡ 0
uncounted plan r ch e = ap (λ ns. count_in (channels_of plan r) ns ch) e ∙ count_none (channels_of plan r) ch

-- ---- The calls of a bench.

same_of : (bench : ℕ) (s : CallState) → elim (bench_of s) as (λ o. Bool) [ None ↦ false | Some b ↦ b == bench ] ≡ is_of bench s
same_of bench Queued = refl
same_of bench (Taken host b order) = refl
same_of bench (Finished host b order o used output ns) = refl

pub of_bench : (bench : ℕ) (r : CallRecord) → is_of_bench bench r ≡ is_of bench r.state
of_bench bench r = same_of bench r.state

-- the sum over those that pass a test of their states is one over the bench's own
module _ (plan : Plan) (ch : Channel) where
  abbrev count : CallRecord → ℕ
  count r = count_on plan r ch

  sum_mine : (bench : ℕ) (test : CallRecord → Bool) (less : CallState → Bool) → ((r : CallRecord) → test r ≡ (is_of bench r.state && less r.state)) → (records : List CallRecord) → sum_if test count records ≡ sum_if (λ r. less r.state) count (mine bench records)
  sum_mine bench test less same [] = refl
  sum_mine bench test less same (r ∷ rs) = by (is_of bench r.state) (same r) (sum_mine bench test less same rs)
    where
      by : (b : Bool) → test r ≡ (b && less r.state) → sum_if test count rs ≡ sum_if (λ r. less r.state) count (mine bench rs) → pick (test r) (count r) + sum_if test count rs ≡ sum_if (λ r. less r.state) count (map childless (cond b (r ∷ filter (λ r. is_of bench r.state) rs) (filter (λ r. is_of bench r.state) rs)))
      by true e h = ap (λ c. pick c (count r) + sum_if test count rs) e ∙ ap (λ n. pick (less r.state) (count r) + n) h
      by false e h = ap (λ c. pick c (count r) + sum_if test count rs) e ∙ omega (arith, h)

  -- how many entries these of a bench's calls made: those before an order, or all
  abbrev pub made_of : ℕ → List CallRecord → ℕ
  made_of order rs = sum_if (λ r. nat_lt (order_of r.state) order) count rs

  abbrev pub all_of : List CallRecord → ℕ
  all_of rs = sum_if (λ r. true) count rs

  and_true : (b : Bool) → b ≡ (b && true)
  and_true true = refl
  and_true false = refl

  pub made_mine : (records : List CallRecord) (bench order : ℕ) → made_in plan records bench order ch ≡ made_of order (mine bench records)
  made_mine records bench order =
      sum_filter (is_before bench order) count records
      ∙ sum_mine bench (is_before bench order) (λ s. nat_lt (order_of s) order) (λ r. ap (λ b. b && nat_lt (order_of r.state) order) (of_bench bench r)) records

  pub all_mine : (records : List CallRecord) (bench : ℕ) → made_by_all plan records bench ch ≡ all_of (mine bench records)
  all_mine records bench =
      sum_filter (is_of_bench bench) count records
      ∙ sum_mine bench (is_of_bench bench) (λ s. true) (λ r. of_bench bench r ∙ and_true (is_of bench r.state)) records
