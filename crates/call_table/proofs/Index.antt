-- What is kept beside the records stays theirs where a record is put behind the others, a call is taken, one is finished, and
-- one has a child more.
use Rattle.std.proofs.Common.{ne_eqb, ◌≡◌, ℕ, suc, ◌+◌, ◌<◌, ◌^◌, List, [], ◌∷◌, ◌++◌, length, true, false, cond, Some, slice_get, slice_set, refl, sym, ap, subst, ◌∙◌, arith}
use Rattle.std.specs.Prelude.{◌==◌, not}
use Rattle.std.proofs.lemmas.List.{length-set, length_push}
use Rattle.faaslet_meaning.specs.declared.call.CallRecord.{CallRecord}
use Rattle.faaslet_meaning.specs.declared.call.CallState.{CallState}
use Rattle.faaslet_meaning.specs.declared.call.CallState.TheVariants.{Queued, Taken, Finished}
use Rattle.faaslet_meaning.specs.declared.outcome.Outcome.{Outcome}
use Rattle.faaslet_meaning.specs.Lists.{passes_at, changed}
use Rattle.faaslet_meaning.specs.Records.{is_queued, is_open, is_finished, takes}
use Rattle.faaslet_meaning.specs.Table.{Table, taken, finished_state, one_more_child, queued_record}
use Rattle.call_table.specs.SessionInside.{Indexed}
use Rattle.call_table.specs.Parent.{IsParent}
use Rattle.call_table.specs.declared.store.Parent.{Parent}
use Rattle.call_table.specs.declared.heads.Heads.{Heads}
use Rattle.call_table.specs.declared.progress.Progress.{Progress}
use Rattle.call_table.proofs.Counting.{some_counted}
use Rattle.call_table.proofs.Counts.{few, progress_pushed, progress_taken, progress_finished, progress_same}
use Rattle.call_table.proofs.Fronts.{heads_pushed, heads_set}
use Rattle.call_table.proofs.Held.{changed_set}
use Rattle.call_table.proofs.Places.{passes_there, weaker}

-- the counts are small
pub record Small (p : Progress) : Type 0 where
  pub came : p.came < 2 ^ 31
  pub taken : p.taken < 2 ^ 31
  pub unfinished : p.unfinished < 2 ^ 31

pub small : (rs : List CallRecord) (p : Progress) (h : Heads) → Indexed rs p h → Small p
small rs p h x =
    let n = x.few in
    let a = few (λ r. r.depth == 1) rs in
    let b = few (λ r. not (is_queued r.state)) rs in
    let c = few (λ r. not (is_finished r.state)) rs in
    let d = x.progress_fits.came_so in
    let e = x.progress_fits.taken_so in
    let f = x.progress_fits.open_so in
    record { came = omega arith; taken = omega arith; unfinished = omega arith }

pub pushed : (rs : List CallRecord) (p q : Progress) (h : Heads) (r : CallRecord) → Indexed rs p h → is_queued r.state ≡ true → length rs + 1 < 2 ^ 31 → q.came ≡ cond (r.depth == 1) (suc p.came) p.came → q.taken ≡ p.taken → q.unfinished ≡ p.unfinished + 1
    → Indexed (rs ++ r ∷ []) q h
pushed rs p q h r x is small c t u =
    let len = length_push rs r in
    record { few = omega arith; progress_fits = progress_pushed rs p q r is x.progress_fits c t u; heads_fit = heads_pushed rs h r x.heads_fit }

pub taken_so : (t : Table) (p q : Progress) (h : Heads) (call host bench : ℕ) → Indexed t.records p h → passes_at (λ r. is_queued r.state) t.records call ≡ true → q.came ≡ p.came → q.taken ≡ p.taken + 1 → q.unfinished ≡ p.unfinished
    → Indexed (taken t call host bench).records q h
taken_so t p q h call host bench x queued c k u =
    let rs = t.records in
    let there = passes_there (λ r. is_queued r.state) rs call queued in
    let r = there.item in
    let new : CallRecord = record r { state = Taken host bench (takes rs) } in
    let len = length-set rs call new in
    let n = x.few in
    let fits : Indexed (slice_set rs call new) q h = record {
      few = omega arith;
      progress_fits = progress_taken rs p q call r new there.there there.passes refl refl x.progress_fits c k u;
      heads_fit = heads_set rs h call r new there.there (λ host e. refl) (λ e. refl) x.heads_fit;
    } in
    subst (λ l. Indexed l q h) (sym (changed_set rs call r (λ y. record y { state = Taken host bench (takes rs) }) there.there)) fits

finished_is : (s : CallState) (o : Outcome) (used : ℕ) (output counts : List ℕ) → is_open s ≡ true → is_finished (finished_state s o used output counts) ≡ true
finished_is Queued o used output counts e = let no : ⊥ = cc in absurd no
finished_is (Taken host bench order) o used output counts e = refl
finished_is (Finished host bench order outcome u out c) o used output counts e = refl

not_queued : (s : CallState) → is_finished s ≡ true → is_queued s ≡ false
not_queued Queued e = let no : ⊥ = cc in absurd no
not_queued (Taken host bench order) e = refl
not_queued (Finished host bench order outcome used output counts) e = refl

open_open : (s : CallState) → is_open s ≡ true → not (is_finished s) ≡ true
open_open Queued e = let no : ⊥ = cc in absurd no
open_open (Taken host bench order) e = refl
open_open (Finished host bench order outcome used output counts) e = let no : ⊥ = cc in absurd no

pub one_open : (t : Table) (p : Progress) (h : Heads) (call : ℕ) → Indexed t.records p h → passes_at (λ r. is_open r.state) t.records call ≡ true → 0 < p.unfinished
one_open t p h call x opened =
    let some = some_counted (λ r. not (is_finished r.state)) t.records call (weaker (λ r. is_open r.state) (λ r. not (is_finished r.state)) t.records call (λ r e. open_open r.state e) opened) in
    let e = x.progress_fits.open_so in
    omega arith

pub finished_so : (t : Table) (p q : Progress) (h : Heads) (call : ℕ) (o : Outcome) (used : ℕ) (output counts : List ℕ) → Indexed t.records p h → passes_at (λ r. is_open r.state) t.records call ≡ true
    → q.came ≡ p.came → q.taken ≡ p.taken → q.unfinished + 1 ≡ p.unfinished
    → Indexed (changed t.records call (λ r. record r { state = finished_state r.state o used output counts })) q h
finished_so t p q h call o used output counts x opened c k u =
    let rs = t.records in
    let there = passes_there (λ r. is_open r.state) rs call opened in
    let r = there.item in
    let new : CallRecord = record r { state = finished_state r.state o used output counts } in
    let done = finished_is r.state o used output counts there.passes in
    let none = not_queued new.state done in
    let len = length-set rs call new in
    let n = x.few in
    let fits : Indexed (slice_set rs call new) q h = record {
      few = omega arith;
      progress_fits = progress_finished rs p q call r new there.there there.passes done refl x.progress_fits c k u;
      heads_fit = heads_set rs h call r new there.there (λ host e. rw none refl) (λ e. none) x.heads_fit;
    } in
    subst (λ l. Indexed l q h) (sym (changed_set rs call r (λ y. record y { state = finished_state y.state o used output counts }) there.there)) fits

pub one_more : (rs : List CallRecord) (p : Progress) (h : Heads) (call : ℕ) (r : CallRecord) → Indexed rs p h → slice_get rs call ≡ Some r → Indexed (changed rs call one_more_child) p h
one_more rs p h call r x there =
    let new = one_more_child r in
    let len = length-set rs call new in
    let n = x.few in
    let fits : Indexed (slice_set rs call new) p h = record {
      few = omega arith;
      progress_fits = progress_same rs p call r new there refl refl x.progress_fits;
      heads_fit = heads_set rs h call r new there (λ host e. e) (λ e. e) x.heads_fit;
    } in
    subst (λ l. Indexed l p h) (sym (changed_set rs call r one_more_child there)) fits

-- a child: its parent has one more, and it stands behind all. Nothing is a request's but the depth 1
pub child_so : (t : Table) (p : Parent) → IsParent t p → (function : ℕ) (input : List ℕ) (g q : Progress) (h : Heads) → Indexed t.records g h → length t.records + 1 < 2 ^ 31 → q ≡ record g { unfinished = g.unfinished + 1 }
    → Indexed (changed t.records p.call one_more_child ++ record (queued_record t function p.host input) { request = p.request; parent = Some p.call; child = p.child; depth = p.depth + 1 } ∷ []) q h
child_so t p of function input g q h x low is =
    let rs = changed t.records p.call one_more_child in
    let len : length rs ≡ length t.records = ap length (changed_set t.records p.call of.of one_more_child of.there) ∙ length-set t.records p.call (one_more_child of.of) in
    let deep = of.deep in
    let not_one : (p.depth + 1 == 1) ≡ false = ne_eqb (p.depth + 1) 1 (λ e. omega arith) in
    let came : q.came ≡ cond (p.depth + 1 == 1) (suc g.came) g.came = rw not_one (ap (λ (y : Progress). y.came) is) in
    pushed rs g q h (record (queued_record t function p.host input) { request = p.request; parent = Some p.call; child = p.child; depth = p.depth + 1 })
    (one_more t.records g h p.call of.of x of.there) refl (omega arith) came (ap (λ (y : Progress). y.taken) is) (ap (λ (y : Progress). y.unfinished) is)
