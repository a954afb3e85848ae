-- What a well-formed plan says of one of its functions: its limits, its module, its numbers, and the keys of its grants.
use Rattle.std.proofs.Common.{◌≡◌, ℕ, ◌<◌, List, Some, slice_get, slice_index_or, length, subst}
use Rattle.std.proofs.lemmas.Option.{slice_get_within, get_or_from_slice_get}
use Rattle.faaslet_meaning.specs.declared.grant.Grant.{Grant}
use Rattle.faaslet_meaning.specs.Asked.{IsNumbered}
use Rattle.faaslet_meaning.specs.Formed.{KeysDiffer}
use Rattle.faaslet_meaning.specs.Runs.{invocation}
use Rattle.faaslet_meaning.specs.Valid.{Valid}
use Rattle.session_meaning.specs.Plan.{Key, NamedFunction, Plan}
use Rattle.session_meaning.specs.Draft.{drafted}
use Rattle.session_meaning.specs.WellFormed.{FunctionFits, GrantFits, KeyFits, WellFormed}
use Rattle.session_meaning.proofs.WellFits.{functions_fit, modules_fit, invocations_fit}

module _ (plan : Plan) (fine : WellFormed plan) (n : ℕ) (f : NamedFunction) (at : slice_get plan.functions n ≡ Some f) where
  here : n < length plan.functions
  here = slice_get_within plan.functions n f at

  same : slice_index_or plan.functions n f ≡ f
  same = get_or_from_slice_get plan.functions n f f at

  pub function_fits : FunctionFits plan.keys (length plan.functions) (drafted f)
  function_fits = subst (λ g. FunctionFits plan.keys (length plan.functions) (drafted g)) same (functions_fit plan fine n f here)

  pub is_valid : Valid f.function.code
  is_valid = subst (λ g. Valid g.function.code) same (modules_fit plan fine n f here).0

  pub keys_differ : (input : List ℕ) → KeysDiffer (invocation f.function input)
  keys_differ input = subst (λ g. KeysDiffer (invocation g.function input)) same (invocations_fit plan fine n f here input).0

  pub is_numbered : (input : List ℕ) → IsNumbered (invocation f.function input)
  is_numbered input = subst (λ g. IsNumbered (invocation g.function input)) same (invocations_fit plan fine n f here input).1

  -- a grant names a key and has its size
  pub grant_fits : (k : ℕ) (g : Grant) → slice_get f.function.grants k ≡ Some g → GrantFits plan.keys g
  grant_fits k g e = subst (GrantFits plan.keys) (get_or_from_slice_get f.function.grants k g g e) (function_fits.grants k g (slice_get_within f.function.grants k g e))

-- a key of the plan keeps its limits
pub key_fits : (plan : Plan) → WellFormed plan → (n : ℕ) (k : Key) → slice_get plan.keys n ≡ Some k → KeyFits k
key_fits plan fine n k at = subst KeyFits (get_or_from_slice_get plan.keys n k k at) (fine.limits.keys n k (slice_get_within plan.keys n k at))
