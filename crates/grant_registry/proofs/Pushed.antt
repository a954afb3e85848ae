-- What the registry stands for after an entry was put at the end or a function was written, and that it keeps the limits.
use Rattle.std.proofs.Common.{◌≡◌, ℕ, List, length, map, slice_get, Option, Some, None, Ok, IfSome, option_copied, option_and_then, Bor, String, Global, string_bytes, refl, sym, ap, subst, ◌∙◌, false}
use Rattle.std.specs.Map.{values_of}
use Rattle.std.specs.String.{string_eq}
use Rattle.std.proofs.lemmas.Option.{get_or_from_slice_get, slice_get_within}
use Rattle.indexmap.specs.IndexMap.{insert_entry, set_value_at}
use Rattle.faaslet_meaning.specs.declared.module.Module.{Module}
use Rattle.session_meaning.specs.Plan.{Key, Request}
use Rattle.session_meaning.specs.Draft.{DraftFunction, Draft, new_function, with_key, with_function, with_request, on_function}
use Rattle.session_meaning.specs.Names.{is_taken}
use Rattle.session_meaning.specs.Registry.{add_key, add_function, module_of}
use Rattle.session_meaning.specs.WellFormed.{KeepsLimits, FunctionFits, ModuleFits, key_names, function_names, labels}
use Rattle.session_meaning.proofs.KeptLimits.{keeps_key, keeps_function, new_key, named_anew}
use Rattle.grant_registry.specs.declared.entries.KeyEntry.{KeyEntry}
use Rattle.grant_registry.specs.declared.entries.FunctionEntry.{FunctionEntry}
use Rattle.grant_registry.specs.declared.entries.RequestEntry.{RequestEntry}
use Rattle.grant_registry.specs.Entries.{key_of, function_of, request_of, draft, Kept}
use Rattle.grant_registry.proofs.Entered.{entered}
use Rattle.grant_registry.proofs.Named.{pushed}
use Rattle.grant_registry.proofs.Placed.{stands, written, kept}

module _ (hosts workers : ℕ) (ks : List (String Global × KeyEntry)) (fs : List (String Global × FunctionEntry)) (rs : List (String Global × RequestEntry))
    (d : Draft) (is : draft hosts workers ks fs rs ≡ d) where
  -- ---- An entry more.

  module _ (new : List (String Global × KeyEntry)) (k : String Global) (x : KeyEntry) (name : List ℕ) (size : ℕ) (init : List ℕ)
      (ok : add_key d name size init ≡ Ok (with_key d (record { name = name; size = size; init = init })))
      (named : string_bytes k ≡ name) (size_is : x.size ≡ size) (init_is : x.init ≡ init) (entries : new ≡ insert_entry string_eq ks k x) where
    pub key_made : draft hosts workers new fs rs ≡ with_key d (record { name = name; size = size; init = init })
    key_made =
        let y : Key = record { name = name; size = size; init = init } in
        let free = subst (λ e. is_taken name (key_names e) ≡ false) (sym is) (new_key d (with_key d y) name size init ok) in
        ap (λ xs. record (draft hosts workers ks fs rs) { keys = xs }) (pushed key_of (λ p. p.name) (λ e. refl) ks new k x name y free named (rw (named, size_is, init_is) refl) entries)
        ∙ ap (λ e. with_key e y) is

    pub key_kept : KeepsLimits (draft hosts workers ks fs rs) → Kept hosts workers new fs rs
    key_kept h = entered hosts workers new fs rs (subst KeepsLimits (sym key_made) (keeps_key d (with_key d (record { name = name; size = size; init = init })) name size init (subst KeepsLimits is h) ok).limits)

  module _ (new : List (String Global × FunctionEntry)) (k : String Global) (x : FunctionEntry) (name : List ℕ) (quota fuel room : ℕ)
      (ok : add_function d name quota fuel room ≡ Ok (with_function d (new_function name quota fuel room)))
      (so : function_of (k, x) ≡ new_function name quota fuel room) (named : string_bytes k ≡ name) (entries : new ≡ insert_entry string_eq fs k x) where
    pub function_made : draft hosts workers ks new rs ≡ with_function d (new_function name quota fuel room)
    function_made =
        let free = subst (λ e. is_taken name (function_names e) ≡ false) (sym is) (named_anew d (with_function d (new_function name quota fuel room)) name quota fuel room ok) in
        ap (λ xs. record (draft hosts workers ks fs rs) { functions = xs }) (pushed function_of (λ p. p.name) (λ e. refl) fs new k x name (new_function name quota fuel room) free named so entries)
        ∙ ap (λ e. with_function e (new_function name quota fuel room)) is

    pub function_kept : KeepsLimits (draft hosts workers ks fs rs) → Kept hosts workers ks new rs
    function_kept h = entered hosts workers ks new rs (subst KeepsLimits (sym function_made) (keeps_function d (with_function d (new_function name quota fuel room)) name quota fuel room (subst KeepsLimits is h) ok).limits)

  module _ (new : List (String Global × RequestEntry)) (k : String Global) (x : RequestEntry) (label : List ℕ)
      (free : is_taken label (labels d) ≡ false) (named : string_bytes k ≡ label) (entries : new ≡ insert_entry string_eq rs k x) where
    pub request_made : draft hosts workers ks fs new ≡ with_request d (record { label = label; function = x.function; host = x.host; input = x.input })
    request_made =
        let y : Request = record { label = label; function = x.function; host = x.host; input = x.input } in
        let unused = subst (λ e. is_taken label (labels e) ≡ false) (sym is) free in
        ap (λ xs. record (draft hosts workers ks fs rs) { requests = xs }) (pushed request_of (λ p. p.label) (λ e. refl) rs new k x label y unused named (rw named refl) entries)
        ∙ ap (λ e. with_request e y) is

    pub request_kept : KeepsLimits (draft hosts workers ks fs rs) → (KeepsLimits d → KeepsLimits (with_request d (record { label = label; function = x.function; host = x.host; input = x.input }))) → Kept hosts workers ks fs new
    request_kept h keeps = entered hosts workers ks fs new (subst KeepsLimits (sym request_made) (keeps (subst KeepsLimits is h)))

  -- ---- A function written.

  module _ (f : ℕ) (x y : FunctionEntry) (at : slice_get (values_of fs) f ≡ Some x) where
    module _ (change : DraftFunction → DraftFunction) (so : (k : String Global) → function_of (k, y) ≡ change (function_of (k, x))) where
      pub changed_made : draft hosts workers ks (set_value_at fs f y) rs ≡ on_function d f change
      changed_made = ap (λ gs. record (draft hosts workers ks fs rs) { functions = gs }) (written function_of change fs f x y at so) ∙ ap (λ e. on_function e f change) is

      pub changed_kept : KeepsLimits (draft hosts workers ks fs rs) → (KeepsLimits d → KeepsLimits (on_function d f change)) → Kept hosts workers ks (set_value_at fs f y) rs
      changed_kept h keeps = entered hosts workers ks (set_value_at fs f y) rs (subst KeepsLimits (sym changed_made) (keeps (subst KeepsLimits is h)))

    module _ (same : (k : String Global) → function_of (k, y) ≡ function_of (k, x)) where
      same_draft : draft hosts workers ks (set_value_at fs f y) rs ≡ draft hosts workers ks fs rs
      same_draft = ap (λ gs. record (draft hosts workers ks fs rs) { functions = gs }) (kept function_of fs f x y at same)

      pub unchanged : draft hosts workers ks (set_value_at fs f y) rs ≡ d
      unchanged = same_draft ∙ is

      pub unchanged_kept : KeepsLimits (draft hosts workers ks fs rs) → Kept hosts workers ks (set_value_at fs f y) rs
      unchanged_kept h = entered hosts workers ks (set_value_at fs f y) rs (subst KeepsLimits (sym same_draft) h)

    -- ---- A module read.

    pub module_there : x.«module» ≡ module_of d f
    module_there = let s = stands function_of fs f x at in sym (ap (option_and_then (λ g. g.code)) s.at) ∙ ap (λ e. module_of e f) is

    pub module_fits : KeepsLimits (draft hosts workers ks fs rs) → (m : Module) → x.«module» ≡ Some m → ModuleFits m
    module_fits h m e =
        let s = stands function_of fs f x at in
        let there = function_of (s.key, x) in
        let inside = slice_get_within (map function_of fs) f there s.at in
        let fits = subst (FunctionFits (map key_of ks) (length (map function_of fs))) (get_or_from_slice_get (map function_of fs) f there there s.at) (h.functions f there inside) in
        fits.code m e

pub lent_fits : (o : Option (Bor Module)) (p : Option Module) → option_copied o ≡ p → ((m : Module) → p ≡ Some m → ModuleFits m) → IfSome o (λ m. ModuleFits m.now)
lent_fits None p e h = tt
lent_fits (Some r) p e h = h r.now (sym e)
