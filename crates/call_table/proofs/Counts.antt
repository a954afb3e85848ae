-- The counts of the records, where a record is put behind the others, a call is taken, and one is finished.
use Rattle.std.proofs.Common.{◌≡◌, ℕ, suc, ◌+◌, ◌≤◌, List, [], ◌∷◌, ◌++◌, length, Bool, true, false, cond, Some, filter, slice_get, slice_set, refl, sym, ap, ◌∙◌, arith}
use Rattle.std.specs.Prelude.{not, ◌==◌}
use Rattle.faaslet_meaning.specs.declared.call.CallRecord.{CallRecord}
use Rattle.faaslet_meaning.specs.declared.call.CallState.{CallState}
use Rattle.faaslet_meaning.specs.declared.call.CallState.TheVariants.{Queued, Taken, Finished}
use Rattle.faaslet_meaning.specs.Records.{is_queued, is_open, is_finished}
use Rattle.call_table.specs.Progress.{ProgressFits}
use Rattle.call_table.specs.declared.progress.Progress.{Progress}
use Rattle.call_table.proofs.Counting.{count, count_same, count_more, count_less, count_push}

pub few : {A : Type 0} (test : A → Bool) (xs : List A) → count test xs ≤ length xs
few test [] = omega arith
few test (x ∷ xs) = by (test x) (few test xs)
  where
    by : (b : Bool) → count test xs ≤ length xs → length (cond b (x ∷ filter test xs) (filter test xs)) ≤ suc (length xs)
    by true h = omega arith
    by false h = omega arith

queued_open : (s : CallState) → is_queued s ≡ true → not (is_finished s) ≡ true
queued_open Queued e = refl
queued_open (Taken host bench order) e = refl
queued_open (Finished host bench order outcome used output counts) e = let no : ⊥ = cc in absurd no

open_not_queued : (s : CallState) → is_open s ≡ true → not (is_queued s) ≡ true
open_not_queued Queued e = let no : ⊥ = cc in absurd no
open_not_queued (Taken host bench order) e = refl
open_not_queued (Finished host bench order outcome used output counts) e = let no : ⊥ = cc in absurd no

open_open : (s : CallState) → is_open s ≡ true → not (is_finished s) ≡ true
open_open Queued e = let no : ⊥ = cc in absurd no
open_open (Taken host bench order) e = refl
open_open (Finished host bench order outcome used output counts) e = let no : ⊥ = cc in absurd no

finished_not_queued : (s : CallState) → is_finished s ≡ true → not (is_queued s) ≡ true
finished_not_queued Queued e = let no : ⊥ = cc in absurd no
finished_not_queued (Taken host bench order) e = refl
finished_not_queued (Finished host bench order outcome used output counts) e = refl

pub progress_pushed : (rs : List CallRecord) (p q : Progress) (r : CallRecord) → is_queued r.state ≡ true → ProgressFits rs p → q.came ≡ cond (r.depth == 1) (suc p.came) p.came → q.taken ≡ p.taken → q.unfinished ≡ p.unfinished + 1 → ProgressFits (rs ++ r ∷ []) q
progress_pushed rs p q r is h c t o = record {
  came_so = c ∙ ap (λ n. cond (r.depth == 1) (suc n) n) h.came_so ∙ sym (count_push (λ x. x.depth == 1) rs r (r.depth == 1) refl);
  taken_so = t ∙ h.taken_so ∙ sym (count_push (λ x. not (is_queued x.state)) rs r false (ap not is));
  open_so = let a = h.open_so in let b = count_push (λ x. not (is_finished x.state)) rs r true (queued_open r.state is) in omega arith;
}

pub progress_taken : (rs : List CallRecord) (p q : Progress) (n : ℕ) (r x : CallRecord) → slice_get rs n ≡ Some r → is_queued r.state ≡ true → is_open x.state ≡ true → x.depth ≡ r.depth → ProgressFits rs p
    → q.came ≡ p.came → q.taken ≡ p.taken + 1 → q.unfinished ≡ p.unfinished → ProgressFits (slice_set rs n x) q
progress_taken rs p q n r x e old new depth h c t o = record {
  came_so = c ∙ h.came_so ∙ sym (count_same (λ y. y.depth == 1) rs n r x e (ap (λ d. d == 1) depth));
  taken_so = let a = h.taken_so in let b = count_more (λ y. not (is_queued y.state)) rs n r x e (ap not old) (open_not_queued x.state new) in omega arith;
  open_so = o ∙ h.open_so ∙ sym (count_same (λ y. not (is_finished y.state)) rs n r x e (open_open x.state new ∙ sym (queued_open r.state old)));
}

pub progress_finished : (rs : List CallRecord) (p q : Progress) (n : ℕ) (r x : CallRecord) → slice_get rs n ≡ Some r → is_open r.state ≡ true → is_finished x.state ≡ true → x.depth ≡ r.depth → ProgressFits rs p
    → q.came ≡ p.came → q.taken ≡ p.taken → q.unfinished + 1 ≡ p.unfinished → ProgressFits (slice_set rs n x) q
progress_finished rs p q n r x e old new depth h c t o = record {
  came_so = c ∙ h.came_so ∙ sym (count_same (λ y. y.depth == 1) rs n r x e (ap (λ d. d == 1) depth));
  taken_so = t ∙ h.taken_so ∙ sym (count_same (λ y. not (is_queued y.state)) rs n r x e (finished_not_queued x.state new ∙ sym (open_not_queued r.state old)));
  open_so = let a = h.open_so in let b = count_less (λ y. not (is_finished y.state)) rs n r x e (open_open r.state old) (ap not new) in omega arith;
}

-- a change that leaves how far a call is, and its depth
pub progress_same : (rs : List CallRecord) (p : Progress) (n : ℕ) (r x : CallRecord) → slice_get rs n ≡ Some r → x.state ≡ r.state → x.depth ≡ r.depth → ProgressFits rs p → ProgressFits (slice_set rs n x) p
progress_same rs p n r x e state depth h = record {
  came_so = h.came_so ∙ sym (count_same (λ y. y.depth == 1) rs n r x e (ap (λ d. d == 1) depth));
  taken_so = h.taken_so ∙ sym (count_same (λ y. not (is_queued y.state)) rs n r x e (ap (λ s. not (is_queued s)) state));
  open_so = h.open_so ∙ sym (count_same (λ y. not (is_finished y.state)) rs n r x e (ap (λ s. not (is_finished s)) state));
}
