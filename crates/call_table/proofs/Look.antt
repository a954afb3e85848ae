-- What a look at a finished call answers, and that one at another is refused.
use Rattle.std.proofs.Common.{◌≡◌, ℕ, ◌++◌, List, true, false, cond, Some, None, length, drop, take, slice_get, refl, sym, ap, ◌∙◌, arith}
use Rattle.std.specs.Prelude.{option_and_then, option_map}
use Rattle.std.proofs.lemmas.Bool.{le-leb, and_from}
use Rattle.std.proofs.lemmas.List.{take_at, length-append}
use Rattle.faaslet_meaning.specs.declared.ask.Reply.TheVariants as coded
use Rattle.faaslet_meaning.specs.declared.call.CallRecord.{CallRecord}
use Rattle.faaslet_meaning.specs.declared.call.CallState.{CallState}
use Rattle.faaslet_meaning.specs.declared.call.CallState.TheVariants.{Queued, Taken, Finished}
use Rattle.faaslet_meaning.specs.declared.outcome.Outcome.{Outcome}
use Rattle.faaslet_meaning.specs.Asks.{front}
use Rattle.faaslet_meaning.specs.Channels.{Reply}
use Rattle.faaslet_meaning.specs.Lists.{passes_at}
use Rattle.faaslet_meaning.specs.Records.{is_open, is_finished, child_of, told_of}
use Rattle.faaslet_meaning.specs.Table.{Table}
use Rattle.call_table.specs.Looked.{Looked}
use Rattle.call_table.proofs.Places.{passes_so}

front_so : (xs rest : List ℕ) → front (length xs) (xs ++ rest) ≡ Some xs
front_so xs rest =
    let some = le-leb (length xs) (length (xs ++ rest)) (let l = length-append xs rest in omega arith) in
    ap (λ b. cond b (Some (take (length xs) (xs ++ rest))) None) some ∙ ap (λ ys. Some ys) (take_at xs rest (length xs) refl)

same_output : (a b : Outcome) (xs ys : List ℕ) → Reply.finished a xs ≡ Reply.finished b ys → xs ≡ ys
same_output a b xs ys e = cc

pub looked : (t : Table) (call : ℕ) (of : CallRecord) (host bench order : ℕ) (outcome : Outcome) (used : ℕ) (output counts before after : List ℕ) → slice_get t.records call ≡ Some of
    → of.state ≡ Finished host bench order outcome used output counts → after ≡ output ++ drop (length output) before → Looked t call (coded.Finished outcome (length output)) before after
looked t call of host bench order outcome used output counts before after e is so =
    let finished : is_finished of.state ≡ true = ap is_finished is in
    let told : told_of of.state ≡ Reply.finished outcome output = ap told_of is in
    record {
      of = of;
      there = e;
      finished = finished;
      told = ap (λ b. option_map (λ o. Reply.finished outcome o) (front (length output) b)) so ∙ ap (λ o. option_map (λ x. Reply.finished outcome x) o) (front_so output (drop (length output) before)) ∙ ap (λ r. Some r) (sym told);
      rest = λ o out f. let same : output ≡ out = same_output outcome o output out (sym told ∙ f) in so ∙ ap (λ x. x ++ drop (length x) before) same;
      did = λ parent child opened found. record {
        may_stand = λ m. and_from (passes_at (λ r. is_open r.state) t.records parent) (elim (child_of t.records parent child) [ None ↦ false | Some c ↦ passes_at (λ r. is_finished r.state) t.records c ]) opened
            (ap (λ o. elim o [ None ↦ false | Some c ↦ passes_at (λ r. is_finished r.state) t.records c ]) found ∙ passes_so (λ r. is_finished r.state) t.records call of e ∙ finished);
        after_so = λ m. refl;
        reply_so = λ m. sym (ap (λ o. elim (option_and_then (slice_get t.records) o) [ None ↦ Reply.done | Some r ↦ told_of r.state ]) found ∙ ap (λ o. elim o [ None ↦ Reply.done | Some r ↦ told_of r.state ]) e);
      };
    }

pub not_finished : (s : CallState) → ((host bench order : ℕ) (outcome : Outcome) (used : ℕ) (output counts : List ℕ) → s ≡ Finished host bench order outcome used output counts → ⊥) → is_finished s ≡ false
not_finished Queued h = refl
not_finished (Taken host bench order) h = refl
not_finished (Finished host bench order outcome used output counts) h = absurd (h host bench order outcome used output counts refl)
