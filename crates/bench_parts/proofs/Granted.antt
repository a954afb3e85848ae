-- A call was granted what it did, with the mode for it; and on the table it submits and looks alone.
use Rattle.std.proofs.Common.{◌≡◌, ℕ, zero, suc, Bool, true, false, cond, List, [], ◌∷◌, ◌++◌, Some, refl, sym, ap, ap₂, ◌∙◌, subst, map, slice_get}
use Rattle.std.specs.Prelude.{IsTrue, not, ◌&&◌, ◌||◌}
use Rattle.std.specs.List.{list_all, list_any}
use Rattle.std.proofs.lemmas.Bool.{and_parts, eqb-true, eq-eqb, or_left, or_right}
use Rattle.faaslet_meaning.specs.declared.grant.Channel.{Channel}
use Rattle.faaslet_meaning.specs.declared.grant.Channel.TheVariants.{Local, Global, Table as OnTable}
use Rattle.faaslet_meaning.specs.declared.grant.Grant.{Grant}
use Rattle.faaslet_meaning.specs.declared.grant.Mode.TheVariants.{Write}
use Rattle.faaslet_meaning.specs.CallState.{Invocation, Progress, runs, fresh_state}
use Rattle.faaslet_meaning.specs.Channels.{RegionOperation, Operation, on_region, submit, look, is_on_region, Reply, Question, ask, fills, pulls, pushes, Entry, entry, entries, entries_of, on_channel, same_channel, Transcript, told_by}
use Rattle.faaslet_meaning.specs.Configuration.{Configuration}
use Rattle.faaslet_meaning.specs.Fresh.{Function, fresh, makes}
use Rattle.faaslet_meaning.specs.Goes.{Goes, here, stepped, answered}
use Rattle.faaslet_meaning.specs.MemoryRules.{includes}
use Rattle.faaslet_meaning.specs.Runs.{invocation}
use Rattle.session_meaning.specs.Ran.{needs_write, allows, is_granted}
use Rattle.session_meaning.proofs.Asked.{Belongs, Proper, AsksProper, step_proper, reply_proper}
use Rattle.session_meaning.proofs.AsksGranted.{asks_granted}
use Rattle.session_meaning.proofs.Invariants.{Comes, HasKey, Granted}
use Rattle.session_meaning.proofs.Invariants as comes
use Rattle.bench_parts.specs.AnsweredBy.{answered as as_answered, parent_on, answered_by}
use Rattle.bench_parts.proofs.Modes.{KeyMay, AskMay, QuestionMay, ProgressMay, call_step_may, replied_may}

any_at : {A : Type 0} (test : A → Bool) (xs : List A) (n : ℕ) (x : A) → slice_get xs n ≡ Some x → test x ≡ true → list_any test xs ≡ true
any_at test [] n x at h = let no : ⊥ = cc in absurd no
any_at test (y ∷ ys) zero x at h = let same : y ≡ x = cc in or_left (test y) (list_any test ys) (ap test same ∙ h)
any_at test (y ∷ ys) (suc n) x at h = or_right (test y) (list_any test ys) (any_at test ys n x at h)

module _ (j : Invocation) (call : ℕ) where
  allowed : (key : ℕ) (op : Operation) → HasKey j key → AskMay j key op → list_any (allows key op) j.program.grants ≡ true
  allowed key op has may = by (needs_write op) refl may
    where
      at : (k : ℕ) (g : Grant) → slice_get j.program.grants k ≡ Some g → g.key ≡ key → (not (needs_write op) || includes g.mode Write) ≡ true → list_any (allows key op) j.program.grants ≡ true
      at k g e same mode = any_at (allows key op) j.program.grants k g e (ap₂ (λ a b. a && b) (eq-eqb g.key key same) mode)

      by : (b : Bool) → needs_write op ≡ b → (b ≡ true → KeyMay j key) → list_any (allows key op) j.program.grants ≡ true
      by true e may = let w = may refl in at w.0 w.1 w.2 w.3 (or_right (not (needs_write op)) (includes w.1.mode Write) w.4)
      by false e may = at has.0 has.1 has.2 has.3 (or_left (not (needs_write op)) (includes has.1.mode Write) (ap not e))

  -- an entry was granted, and belongs on its channel
  abbrev EntryOk : Entry → Type 0
  EntryOk e = (is_granted call j.program.grants e.channel (as_answered (parent_on call e.channel) (e.operation, e.reply)) ≡ true)

  abbrev EntriesOk : List Entry → Type 0
  EntriesOk [] = Unit {0}
  EntriesOk (e ∷ es) = EntryOk e × EntriesOk es

  both_ok : (es fs : List Entry) → EntriesOk es → EntriesOk fs → EntriesOk (es ++ fs)
  both_ok [] fs h k = k
  both_ok (e ∷ es) fs h k = (h.0, both_ok es fs h.1 k)

  -- ---- The entries of one question.

  ask_ok : (ch : Channel) (op : Operation) (r : Reply) → Granted j (ask ch op) → QuestionMay j (ask ch op) → EntryOk (record { channel = ch; operation = op; reply = r })
  ask_ok (Local key) op r has may = allowed key op has.0 may
  ask_ok (Global key) op r has may = allowed key op has.0 may
  ask_ok OnTable op r has may = eq-eqb call call refl

  one_ok : (ch : Channel) (op : Operation) (r : Reply) → Granted j (ask ch op) → QuestionMay j (ask ch op) → EntriesOk (entries (ask ch op) r)
  one_ok ch op Reply.want has may = tt
  one_ok ch op r has may = (ask_ok ch op r has may, tt)

  free : (key : ℕ) (op : Operation) → needs_write op ≡ false → AskMay j key op
  free key op e f = let no : ⊥ = cc in absurd no

  question_ok : (q : Question) (r : Reply) → Granted j q → QuestionMay j q → EntriesOk (entries q r)
  question_ok (ask ch op) r has may = one_ok ch op r has may
  question_ok (fills key n) (Reply.bytes bs) has may = (allowed key (on_region (RegionOperation.send 0 n)) has (free key (on_region (RegionOperation.send 0 n)) refl), (allowed key (on_region (RegionOperation.fill bs)) has (free key (on_region (RegionOperation.fill bs)) refl), tt))
  question_ok (pulls key off len) (Reply.bytes bs) has may = (allowed key (on_region (RegionOperation.send off len)) has (free key (on_region (RegionOperation.send off len)) refl), (allowed key (on_region (RegionOperation.take off bs)) has (λ needed. may), tt))
  question_ok (pushes key off len) (Reply.bytes bs) has may = (allowed key (on_region (RegionOperation.send off len)) has (free key (on_region (RegionOperation.send off len)) refl), (allowed key (on_region (RegionOperation.put off bs)) has (λ needed. may), tt))
  question_ok (fills key n) r has may = tt
  question_ok (pulls key off len) r has may = tt
  question_ok (pushes key off len) r has may = tt

  -- ---- What stands on one channel.

  same_so : (a b : Channel) → same_channel a b ≡ true → a ≡ b
  same_so (Local a) (Local b) e = ap Local (eqb-true a b e)
  same_so (Global a) (Global b) e = ap Global (eqb-true a b e)
  same_so OnTable OnTable e = refl
  same_so (Local a) (Global b) e = let no : ⊥ = cc in absurd no
  same_so (Local a) OnTable e = let no : ⊥ = cc in absurd no
  same_so (Global a) (Local b) e = let no : ⊥ = cc in absurd no
  same_so (Global a) OnTable e = let no : ⊥ = cc in absurd no
  same_so OnTable (Local b) e = let no : ⊥ = cc in absurd no
  same_so OnTable (Global b) e = let no : ⊥ = cc in absurd no

  on_channel_ok : (ch : Channel) (es : List Entry) → EntriesOk es → list_all (is_granted call j.program.grants ch) (map (as_answered (parent_on call ch)) (on_channel ch es)) ≡ true
  on_channel_ok ch [] h = refl
  on_channel_ok ch (e ∷ es) h = by (same_channel ch e.channel) refl (on_channel_ok ch es h.1)
    where
      by : (b : Bool) → same_channel ch e.channel ≡ b → list_all (is_granted call j.program.grants ch) (map (as_answered (parent_on call ch)) (on_channel ch es)) ≡ true → list_all (is_granted call j.program.grants ch) (map (as_answered (parent_on call ch)) (cond b ((e.operation, e.reply) ∷ on_channel ch es) (on_channel ch es))) ≡ true
      by true s k = ap₂ (λ a b. a && b) (subst (λ c. is_granted call j.program.grants c (as_answered (parent_on call c) (e.operation, e.reply)) ≡ true) (sym (same_so ch e.channel s)) h.0) k
      by false s k = k

goes_granted : (f : Function) (input : List ℕ) (c : Configuration) (call : ℕ) {p y : Progress} {transcript : Transcript} → fresh f ≡ makes c → Goes (invocation f input) p transcript y → Comes (invocation f input) c p → ProgressMay (invocation f input) p → EntriesOk (invocation f input) call (entries_of transcript)
goes_granted f input c call made here came may = tt
goes_granted f input c call made (stepped {s = s} g) came may = goes_granted f input c call made g (comes.stepped came) (call_step_may (invocation f input) s)
goes_granted f input c call made (answered {s = s} {q = q} {r = r} {transcript = transcript} fit g) came may =
    let j = invocation f input in
    both_ok j call (entries q r) (entries_of transcript) (question_ok j call q r (asks_granted f input c s q made came) may.1) (goes_granted f input c call made g (comes.replying r came) (replied_may j s q r may))

pub told_granted : (f : Function) (input : List ℕ) (c : Configuration) (transcript : Transcript) (p : Progress) (call : ℕ) (ch : Channel) → fresh f ≡ makes c → Goes (invocation f input) (runs (fresh_state c)) transcript p → IsTrue (list_all (is_granted call f.grants ch) (answered_by call transcript ch))
told_granted f input c transcript p call ch made g = on_channel_ok (invocation f input) call ch (entries_of transcript) (goes_granted f input c call made g comes.begun tt)

-- ---- On the table.

abbrev TableOk : List Entry → Type 0
TableOk es = list_all {X = Operation × Reply} (λ x. not (is_on_region x.0)) (on_channel OnTable es) ≡ true

table_both : (es fs : List Entry) → TableOk es → TableOk fs → TableOk (es ++ fs)
table_both [] fs h k = k
table_both (e ∷ es) fs h k = by (same_channel OnTable e.channel) h (λ i. table_both es fs i k)
  where
    by : (b : Bool) → list_all {X = Operation × Reply} (λ x. not (is_on_region x.0)) (cond b ((e.operation, e.reply) ∷ on_channel OnTable es) (on_channel OnTable es)) ≡ true → (TableOk es → TableOk (es ++ fs)) → list_all {X = Operation × Reply} (λ x. not (is_on_region x.0)) (cond b ((e.operation, e.reply) ∷ on_channel OnTable (es ++ fs)) (on_channel OnTable (es ++ fs))) ≡ true
    by true h go = let parts = and_parts (not (is_on_region e.operation)) _ h in ap₂ (λ a b. a && b) parts.0 (go parts.1)
    by false h go = go h

-- an operation that belongs on the table is none on a region
table_entry : (ch : Channel) (op : Operation) (r : Reply) → Belongs ch op → TableOk (entry ch op r ∷ [])
table_entry (Local key) op r h = refl
table_entry (Global key) op r h = refl
table_entry OnTable (submit f bs) r h = refl
table_entry OnTable (look child) r h = refl
table_entry OnTable (on_region o) r h = absurd h

table_one : (ch : Channel) (op : Operation) (r : Reply) → Belongs ch op → TableOk (entries (ask ch op) r)
table_one ch op Reply.want h = refl
table_one ch op r h = table_entry ch op r h

table_question : (q : Question) (r : Reply) → Proper q → TableOk (entries q r)
table_question (ask ch op) r h = table_one ch op r h
table_question (fills key n) (Reply.bytes bs) h = refl
table_question (pulls key off len) (Reply.bytes bs) h = refl
table_question (pushes key off len) (Reply.bytes bs) h = refl
table_question (fills key n) r h = refl
table_question (pulls key off len) r h = refl
table_question (pushes key off len) r h = refl

goes_table : {j : Invocation} {p y : Progress} {transcript : Transcript} → Goes j p transcript y → AsksProper p → TableOk (entries_of transcript)
goes_table here h = refl
goes_table {j} (stepped {s = s} g) h = goes_table g (step_proper j s)
goes_table {j} (answered {s = s} {q = q} {r = r} {transcript = transcript} fit g) h = table_both (entries q r) (entries_of transcript) (table_question q r h) (goes_table g (reply_proper j s r))

pub told_table : (f : Function) (input : List ℕ) (c : Configuration) (transcript : Transcript) (p : Progress) → fresh f ≡ makes c → Goes (invocation f input) (runs (fresh_state c)) transcript p → IsTrue (list_all {X = Operation × Reply} (λ x. not (is_on_region x.0)) (told_by transcript OnTable))
told_table f input c transcript p made g = goes_table g tt
