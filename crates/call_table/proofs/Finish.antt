-- The end of a call: it is taken, there is room for its output and its counts, and it is finished as the table says.
use Rattle.std.proofs.Common.{◌≡◌, ℕ, ◌<◌, ◌≤◌, List, [], true, Option, Some, None, length, get_or, slice_get, slice_set, vec_capacity, refl, sym, ap, subst, ◌∙◌, arith}
use Rattle.std.specs.Prelude.{nat_le, ◌==◌}
use Rattle.std.proofs.lemmas.Bool.{leb-true, eqb-true}
use Rattle.std.proofs.lemmas.Option.{slice_get_read}
use Rattle.faaslet_meaning.specs.declared.call.Callable.{Callable}
use Rattle.faaslet_meaning.specs.declared.call.CallRecord.{CallRecord}
use Rattle.faaslet_meaning.specs.declared.call.CallState.{CallState}
use Rattle.faaslet_meaning.specs.declared.call.CallState.TheVariants.{Queued, Taken, Finished}
use Rattle.faaslet_meaning.specs.declared.outcome.Outcome.{Outcome}
use Rattle.faaslet_meaning.specs.Channels.{Reply}
use Rattle.faaslet_meaning.specs.Lists.{passes_at}
use Rattle.faaslet_meaning.specs.Records.{is_open, is_finished}
use Rattle.faaslet_meaning.specs.Table.{Table, finish, finished_state}
use Rattle.call_table.specs.Did.{Did}
use Rattle.call_table.specs.Inside.{IsInside, IsTable, HasSpare, channels_of, table_in}
use Rattle.call_table.specs.declared.spare.Spare.{Spare}
use Rattle.call_table.specs.declared.store.Store.TheInside.{Inside}
use Rattle.call_table.proofs.Held.{changed_set, have_len, spare_at}
use Rattle.call_table.proofs.Places.{passes_there, passes_so}

open_not_finished : (s : CallState) → is_open s ≡ true → is_finished s ≡ true → ⊥
open_not_finished Queued o f = cc
open_not_finished (Taken host bench order) o f = cc
open_not_finished (Finished host bench order outcome used output counts) o f = cc

pub open_taken : (s : CallState) → is_open s ≡ true → ((host bench order : ℕ) → s ≡ Taken host bench order → ⊥) → ⊥
open_taken Queued o h = cc
open_taken (Taken host bench order) o h = h host bench order refl
open_taken (Finished host bench order outcome used output counts) o h = cc

-- what fits into the room beside a record
pub record HasPlace (output counts : List ℕ) (s : Spare) : Type 0 where
  pub no_output : s.output.items ≡ []
  pub no_counts : s.counts.items ≡ []
  pub output_fits : length output ≤ vec_capacity s.output
  pub counts_fit : length counts ≤ vec_capacity s.counts

module _ (hosts : ℕ) (fs : List Callable) (rs : List CallRecord) (ss : List (Option Spare)) (t : IsTable hosts fs rs ss) (call : ℕ) (opened : passes_at (λ r. is_open r.state) rs call ≡ true) where
  pub inside : call < length rs
  inside = (passes_there (λ r. is_open r.state) rs call opened).inside

  pub inside_spares : call < length ss
  inside_spares = rw (have_len fs rs ss t.spare) inside

  has : (o : Option Spare) → o ≡ get_or ss call o → HasSpare fs (passes_there (λ r. is_open r.state) rs call opened).item o
  has o is = let p = passes_there (λ r. is_open r.state) rs call opened in spare_at fs rs ss call p.item o t.spare p.there (slice_get_read ss (length ss) call o refl inside_spares is)

  pub never_none : (o : Option Spare) → o ≡ get_or ss call o → o ≡ None → ⊥
  never_none o is e =
      let p = passes_there (λ r. is_open r.state) rs call opened in
      open_not_finished p.item.state p.passes (subst (HasSpare fs p.item) e (has o is))

  pub has_place : (o : Option Spare) (s : Spare) (output counts : List ℕ) → o ≡ get_or ss call o → o ≡ Some s → passes_at (λ r. nat_le (length output) r.room) rs call ≡ true
      → passes_at (λ r. length counts == channels_of fs r.function) rs call ≡ true → HasPlace output counts s
  has_place o s output counts is e short many =
      let p = passes_there (λ r. is_open r.state) rs call opened in
      let h : HasSpare fs p.item (Some s) = subst (HasSpare fs p.item) e (has o is) in
      let out = leb-true (length output) p.item.room (sym (passes_so (λ r. nat_le (length output) r.room) rs call p.item p.there) ∙ short) in
      let num = eqb-true (length counts) (channels_of fs p.item.function) (sym (passes_so (λ r. length counts == channels_of fs r.function) rs call p.item p.there) ∙ many) in
      let out_room = h.output_room in
      let num_room = h.counts_room in
      record { no_output = h.no_output; no_counts = h.no_counts; output_fits = omega arith; counts_fit = omega arith }

-- The same of a store that is seen as a table, in which the call is open.
module _ (i : Inside) (t : Table) (call : ℕ) (h : IsInside i) (is : table_in i ≡ t) (was_open : passes_at (λ r. is_open r.state) t.records call ≡ true) where
  pub open_inside : passes_at (λ r. is_open r.state) i.records.items call ≡ true
  open_inside = subst (λ (u : Table). passes_at (λ r. is_open r.state) u.records call ≡ true) (sym is) was_open

  pub within_records : call < length i.records.items
  within_records = (passes_there (λ r. is_open r.state) i.records.items call open_inside).inside

  pub within_spares : call < length i.spares.items
  within_spares = inside_spares i.hosts i.functions.items i.records.items i.spares.items h call open_inside

  pub has_spare : (o : Option Spare) → o ≡ get_or i.spares.items call o → o ≡ None → ⊥
  has_spare = never_none i.hosts i.functions.items i.records.items i.spares.items h call open_inside

  pub short_inside : (output : List ℕ) → passes_at (λ r. nat_le (length output) r.room) t.records call ≡ true → passes_at (λ r. nat_le (length output) r.room) i.records.items call ≡ true
  short_inside output short = subst (λ (u : Table). passes_at (λ r. nat_le (length output) r.room) u.records call ≡ true) (sym is) short

  pub place : (o : Option Spare) (s : Spare) (output counts : List ℕ) → o ≡ get_or i.spares.items call o → o ≡ Some s → passes_at (λ r. nat_le (length output) r.room) t.records call ≡ true
      → passes_at (λ r. length counts == channels_of t.functions r.function) t.records call ≡ true → HasPlace output counts s
  place o s output counts at e short many =
      has_place i.hosts i.functions.items i.records.items i.spares.items h call open_inside o s output counts at e (short_inside output short)
      (subst (λ (u : Table). passes_at (λ r. length counts == channels_of u.functions r.function) u.records call ≡ true) (sym is) many)

pub finish_did : (t : Table) (call : ℕ) (r : CallRecord) (host bench order : ℕ) (outcome : Outcome) (used : ℕ) (output counts : List ℕ) → slice_get t.records call ≡ Some r
    → r.state ≡ Taken host bench order → passes_at (λ x. is_open x.state) t.records call ≡ true
    → Did t (finish call outcome used output counts) (record t { records = slice_set t.records call (record r { state = Finished host bench order outcome used output counts }) }) Reply.done
finish_did t call r host bench order outcome used output counts e is opened =
    record {
      may_stand = λ m. opened;
      after_so = λ m.
          ap (λ s. record t { records = slice_set t.records call (record r { state = s }) }) (sym (ap (λ s. finished_state s outcome used output counts) is))
          ∙ ap (λ rs. record t { records = rs }) (sym (changed_set t.records call r (λ x. record x { state = finished_state x.state outcome used output counts }) e));
      reply_so = λ m. refl;
    }
