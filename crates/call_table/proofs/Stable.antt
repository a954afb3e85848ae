-- Where no call is unfinished, no entry may stand.
use Rattle.std.proofs.Common.{◌≡◌, ℕ, ◌+◌, List, Bool, true, refl, arith}
use Rattle.std.specs.Prelude.{not}
use Rattle.faaslet_meaning.specs.declared.call.CallState.{CallState}
use Rattle.faaslet_meaning.specs.declared.call.CallState.TheVariants.{Queued, Taken, Finished}
use Rattle.faaslet_meaning.specs.Lists.{passes_at}
use Rattle.faaslet_meaning.specs.Records.{is_queued, is_open, is_finished}
use Rattle.faaslet_meaning.specs.Table as table
use Rattle.faaslet_meaning.specs.Table.{TableOperation}
use Rattle.faaslet_meaning.specs.Table.TableOperation.{submit_request, submit, take_next, take_this, finish, look}
use Rattle.call_table.specs.Makers.{is_on, MayMake, MakesTable}
use Rattle.call_table.specs.Session.{SessionTable, unfinished, open_or_queued, to_come}
use Rattle.call_table.proofs.Counting.{some_counted, place_counted}
use Rattle.call_table.proofs.Places.{weaker}

on_open : (b : ℕ) (s : CallState) → is_on b s ≡ true → not (is_finished s) ≡ true
on_open b Queued e = let no : ⊥ = cc in absurd no
on_open b (Taken host bench order) e = refl
on_open b (Finished host bench order outcome used output counts) e = let no : ⊥ = cc in absurd no

open_open : (s : CallState) → is_open s ≡ true → not (is_finished s) ≡ true
open_open Queued e = refl
open_open (Taken host bench order) e = refl
open_open (Finished host bench order outcome used output counts) e = let no : ⊥ = cc in absurd no

queued_open : (s : CallState) → is_queued s ≡ true → not (is_finished s) ≡ true
queued_open Queued e = refl
queued_open (Taken host bench order) e = refl
queued_open (Finished host bench order outcome used output counts) e = let no : ⊥ = cc in absurd no

module _ (s : SessionTable) (maker : ℕ) (z : open_or_queued s.table.records + to_come s ≡ 0) where
  none : (test : CallState → Bool) (n : ℕ) → ((x : CallState) → test x ≡ true → not (is_finished x) ≡ true) → passes_at (λ r. test r.state) s.table.records n ≡ true → ⊥
  none test n h e =
      let some = some_counted (λ r. not (is_finished r.state)) s.table.records n (weaker (λ r. test r.state) (λ r. not (is_finished r.state)) s.table.records n (λ r t. h r.state t) e) in
      omega arith

  may_not : (o : TableOperation) → table.may s.table maker o ≡ true → MayMake s maker o → ⊥
  may_not (submit_request function host input) may who = let low = who.1 in omega arith
  may_not (submit parent function input) may who = none (is_on maker) parent (on_open maker) who
  may_not (take_next host bench) may who =
      let some = place_counted (λ r. is_queued r.state) (λ r. not (is_finished r.state)) 0 s.table.records (λ r t. queued_open r.state t) may in
      omega arith
  may_not (take_this call host bench) may who = none is_queued call queued_open may
  may_not (finish call o used output counts) may who = none is_open call open_open may
  may_not (look parent child) may who = none (is_on maker) parent (on_open maker) who

pub none_left : (maker : ℕ) (entry : List ℕ) (before after : SessionTable) → unfinished before ≡ 0 → MakesTable maker entry before after → ⊥
none_left maker entry before after z m = may_not before maker z m.table.operation m.table.may_stand m.maker_so
