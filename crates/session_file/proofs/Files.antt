-- What a file is answered.
use Rattle.std.proofs.Common.{◌≡◌, ℕ, ◌<◌, ◌≤◌, List, length, Option, Some, None, is_some, Result, Ok, Err, IfOk, IfErr, IsUtf8, sym, ap, ◌∙◌, subst, true≢false}
use Rattle.std.specs.Option.{ForSome}
use Rattle.serde_json.specs.Data.{Data}
use Rattle.serde_json.specs.Read.{read}
use Rattle.session_meaning.specs.declared.fault.SessionFault.{SessionFault}
use Rattle.session_meaning.specs.declared.fault.SessionFault.TheVariants.{Want}
use Rattle.session_meaning.specs.declared.fault.Kind.TheVariants.{Long, Json}
use Rattle.session_meaning.specs.declared.fault.SessionList.TheVariants.{Session}
use Rattle.session_meaning.specs.SessionLimits.{file_limit}
use Rattle.session_meaning.specs.SessionFile.{Answer, Planned, Refused, refused, PlanOf, plan_of_tree, FileFits, too_many_bytes, no_tree, has_tree}
use Rattle.session_meaning.proofs.FilePlans.{file_fits}
use Rattle.session_file.specs.Told.{refusal, Tells}

clash : {A : Type 0} {a : A} {o : Option A} → o ≡ Some a → o ≡ None → ⊥
clash some none = true≢false (ap is_some (sym some ∙ none))

-- want of memory is no refusal
pub unmet : {e : SessionFault} {r : Refused} → e ≡ Want → refusal e ≡ Some r → ⊥
unmet want some = clash some (ap refusal want)

this : (o : Option Refused) (a : Refused) (P : Refused → Type 0) → o ≡ Some a → P a → ForSome o P
this o a P is p r so = let equal : a ≡ r = cc in subst P equal p

pub is_long : (bytes : List ℕ) (e : SessionFault) → file_limit < length bytes → refusal e ≡ Some (refused Long Session 0) → ForSome (refusal e) (λ r. PlanOf bytes (Err r))
is_long bytes e long so = this (refusal e) (refused Long Session 0) (λ r. PlanOf bytes (Err r)) so (too_many_bytes long)

pub is_no_json : (bytes : List ℕ) (e : SessionFault) → length bytes ≤ file_limit → (IsUtf8 bytes → read bytes ≡ None) → refusal e ≡ Some (refused Json Session 0) → ForSome (refusal e) (λ r. PlanOf bytes (Err r))
is_no_json bytes e short none so = this (refusal e) (refused Json Session 0) (λ r. PlanOf bytes (Err r)) so (no_tree short (λ tree is. clash is.value (none is.text)))

module _ (bytes : List ℕ) (tree : Data) (short : length bytes ≤ file_limit) (text : IsUtf8 bytes) (value : read bytes ≡ Some tree) where
  so : {a : Answer Planned} → plan_of_tree tree ≡ a → PlanOf bytes a
  so e = subst (PlanOf bytes) e (has_tree short tree (record { text = text; value = value }))

  pub given : {A : Type 0} (view : A → Planned) (r : Result A SessionFault) → IfOk r (λ p. plan_of_tree tree ≡ Ok (view p)) → IfOk r (λ p. PlanOf bytes (Ok (view p)))
  given view (Ok p) e = so e
  given view (Err f) e = tt

  pub fits : {A : Type 0} (view : A → Planned) (r : Result A SessionFault) → IfOk r (λ p. plan_of_tree tree ≡ Ok (view p)) → IfOk r (λ p. FileFits (view p))
  fits view (Ok p) e = file_fits bytes (view p) (so e)
  fits view (Err f) e = tt

  pub given_err : {A : Type 0} (r : Result A SessionFault) → IfErr r (λ f. Tells f (plan_of_tree tree)) → IfErr r (λ f. ForSome (refusal f) (λ x. PlanOf bytes (Err x)))
  given_err (Ok p) e = tt
  given_err (Err f) e = λ x is. so (e x is)
