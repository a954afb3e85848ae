-- That the entries keep the limits, with their numbers.
use Rattle.std.proofs.Common.{ℕ, ◌≤◌, List, length, map, String, Global, subst}
use Rattle.std.proofs.lemmas.List.{length-map}
use Rattle.session_meaning.specs.WellFormed.{KeepsLimits}
use Rattle.grant_registry.specs.declared.entries.KeyEntry.{KeyEntry}
use Rattle.grant_registry.specs.declared.entries.FunctionEntry.{FunctionEntry}
use Rattle.grant_registry.specs.declared.entries.RequestEntry.{RequestEntry}
use Rattle.grant_registry.specs.Entries.{key_of, function_of, request_of, draft, Kept}

few : {A B : Type 0} (f : A → B) (xs : List A) (n : ℕ) → length (map f xs) ≤ n → length xs ≤ n
few f xs n h = subst (λ m. m ≤ n) (length-map xs f) h

pub entered : (hosts workers : ℕ) (ks : List (String Global × KeyEntry)) (fs : List (String Global × FunctionEntry)) (rs : List (String Global × RequestEntry)) → KeepsLimits (draft hosts workers ks fs rs) → Kept hosts workers ks fs rs
entered hosts workers ks fs rs h =
    record {
      limits = h;
      few_hosts = h.hosts.1;
      few_workers = h.workers.1;
      few_keys = few key_of ks 64 h.few_keys;
      few_functions = few function_of fs 256 h.few_functions;
      few_requests = few request_of rs 1024 h.few_requests;
    }
