-- Each function of a well-formed plan keeps the limits that a Faaslet asks for.
use Rattle.std.proofs.Common.{◌≡◌, ℕ, [], Some, slice_get, slice_index_or, sym, subst}
use Rattle.session_meaning.specs.SessionLimits.{Within, size_limit}
use Rattle.session_meaning.specs.Plan.{NamedFunction, Plan}
use Rattle.session_meaning.specs.WellFormed.{WellFormed}
use Rattle.granted_asks.specs.CanStart.{CanStart}
use Rattle.granted_asks.proofs.Granting.{function_fits, keys_differ, key_fits}

pub can_start : (plan : Plan) (n : ℕ) (f : NamedFunction) → WellFormed plan → slice_get plan.functions n ≡ Some f → CanStart f.function
can_start plan n f fine at =
    let fits = function_fits plan fine n f at in
    record {
      few_grants = fits.few_grants;
      grants_differ = keys_differ plan fine n f at [];
      sizes = λ k d l.
          let grant = fits.grants k d l in
          let size = (key_fits plan fine (slice_index_or f.function.grants k d).key grant.0 grant.1).size in
          subst (Within 1 size_limit) (sym grant.2) size;
      few_callees = fits.few_callees;
      room = fits.room;
      quota = fits.quota;
      fuel = fits.fuel;
    }
