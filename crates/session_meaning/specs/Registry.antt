-- What each call of the registry makes of a draft, or why it refuses. The rules of a call are tested in the order in which they
-- stand here. This project's own.
use Rattle.std.specs.Prelude.{ℕ, ◌==◌, Bool, true, false, List, [], Option, Some, None, Result, Ok, Err, not, length, nat_le, nat_lt, option_and_then, slice_get}
use Rattle.std.specs.List.{list_any}
use Rattle.std.specs.Option.{option_map_or}
use Rattle.faaslet_meaning.specs.declared.module.Module.{Module}
use Rattle.faaslet_meaning.specs.declared.grant.Grant.{Grant}
use Rattle.faaslet_meaning.specs.declared.grant.Mode.{Mode}
use Rattle.session_meaning.specs.SessionLimits as at_most
use Rattle.session_meaning.specs.Names.{is_within, is_name, number_of, is_taken}
use Rattle.session_meaning.specs.Draft.{Draft, empty, new_function, with_key, with_function, with_request, with_grant, with_callee}
use Rattle.session_meaning.specs.WellFormed.{key_names, function_names, labels, state_pages, own_pages}

pub data Refusal : Type 0 where
  too_many bad_name taken out_of_range too_long unknown_name over_state_budget over_page_budget : Refusal

abbrev pub Answer : Type 0
Answer = Result Draft Refusal

abbrev pub refuse_if : Bool → Refusal → Answer → Answer
refuse_if true e answer = Err e
refuse_if false e answer = answer

-- the answer for the number that a name has
abbrev pub of_name : Option ℕ → (ℕ → Answer) → Answer
of_name None go = Err unknown_name
of_name (Some n) go = go n

-- no more may be added
abbrev pub is_full : {A : Type 0} → ℕ → List A → Bool
is_full most xs = nat_le most (length xs)

abbrev pub new : ℕ → ℕ → Answer
new hosts workers =
    refuse_if (not (is_within 1 at_most.host_limit hosts)) out_of_range
    (refuse_if (not (is_within 1 at_most.worker_limit workers)) out_of_range
    (Ok (empty hosts workers)))

abbrev pub add_key : Draft → List ℕ → ℕ → List ℕ → Answer
add_key d key size init =
    refuse_if (is_full at_most.key_limit d.keys) too_many
    (refuse_if (not (is_name key)) bad_name
    (refuse_if (is_taken key (key_names d)) taken
    (refuse_if (not (is_within 1 at_most.size_limit size)) out_of_range
    (refuse_if (nat_lt size (length init)) too_long
    (Ok (with_key d (record { name = key; size = size; init = init })))))))

abbrev pub add_function : Draft → List ℕ → ℕ → ℕ → ℕ → Answer
add_function d function quota fuel room =
    refuse_if (is_full at_most.function_limit d.functions) too_many
    (refuse_if (not (is_name function)) bad_name
    (refuse_if (is_taken function (function_names d)) taken
    (refuse_if (not (is_within 1 at_most.quota_limit quota)) out_of_range
    (refuse_if (not (is_within 1 at_most.fuel_limit fuel)) out_of_range
    (refuse_if (not (is_within 0 at_most.room_limit room)) out_of_range
    (Ok (with_function d (new_function function quota fuel room))))))))

-- what the function of this number was granted, what it may call, and its module
abbrev pub grants_of : Draft → ℕ → List Grant
grants_of d f = option_map_or (λ g. g.grants) (slice_get d.functions f) []

abbrev pub callees_of : Draft → ℕ → List ℕ
callees_of d f = option_map_or (λ g. g.callees) (slice_get d.functions f) []

abbrev pub module_of : Draft → ℕ → Option Module
module_of d f = option_and_then (λ g. g.code) (slice_get d.functions f)

abbrev pub size_of : Draft → ℕ → ℕ
size_of d k = option_map_or (λ key. key.size) (slice_get d.keys k) 0

abbrev pub quota_of : Draft → ℕ → ℕ
quota_of d f = option_map_or (λ g. g.quota) (slice_get d.functions f) 0

abbrev pub grant : Draft → ℕ → List ℕ → Mode → Answer
grant d f key mode =
    refuse_if (is_full at_most.grant_limit (grants_of d f)) too_many
    (of_name (number_of key (key_names d)) λ k.
    refuse_if (list_any (λ g. g.key == k) (grants_of d f)) taken
    (Ok (with_grant d f (record { key = k; size = size_of d k; mode = mode }))))

abbrev pub allow : Draft → ℕ → List ℕ → Answer
allow d f callee =
    refuse_if (is_full at_most.callee_limit (callees_of d f)) too_many
    (of_name (number_of callee (function_names d)) λ c.
    refuse_if (list_any (λ g. g == c) (callees_of d f)) taken
    (Ok (with_callee d f c)))

abbrev pub add_request : Draft → List ℕ → List ℕ → ℕ → List ℕ → Answer
add_request d label function host input =
    refuse_if (is_full at_most.request_limit d.requests) too_many
    (refuse_if (not (is_name label)) bad_name
    (refuse_if (is_taken label (labels d)) taken
    (of_name (number_of function (function_names d)) λ f.
    refuse_if (not (nat_lt host d.hosts)) out_of_range
    (refuse_if (nat_lt at_most.input_limit (length input)) too_long
    (Ok (with_request d (record { label = label; function = f; host = host; input = input })))))))

abbrev pub check_budget : Draft → Answer
check_budget d =
    refuse_if (nat_lt at_most.state_budget (state_pages d)) over_state_budget
    (refuse_if (nat_lt at_most.page_budget (own_pages d)) over_page_budget
    (Ok d))
