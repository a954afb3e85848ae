-- The table of buffer lengths is that of the host calls.
use Rattle.std.proofs.Common.{◌≡◌, ℕ, zero, suc, List, [], ◌∷◌, refl, sym, ap, ◌∙◌, subst, Some, None, Option, take}
use Rattle.std.specs.Prelude.{slice_get, option_map, option_and_then}
use Rattle.std.proofs.lemmas.Option.{same_Some}
use Rattle.faaslet_meaning.specs.HostCalls.{HostCall, state_size, state_used, get_state, read_state, set_state, push_state, pull_state, push_state_offset, pull_state_offset, append_state, lock_state_read, lock_state_write, unlock_state, lock_global_read, lock_global_write, unlock_global, input_size, read_input, write_output, chain_call, await_call, output_size, read_output, HostRow, Form, of_none, of_one, of_two, of_three, of_four, arity, made, host_rows, Buffer, buffer_of}
use Rattle.wasm_interp.specs.declared.host_calls.TheConstants.{BUFFER_LENGTHS}

-- how long the buffer of a host call is, and which argument says so
abbrev pub long : HostCall → Option ℕ
long h = option_map (λ (b : Buffer). b.len) (buffer_of h)

abbrev pub Tells : Form → Option ℕ → Type 0
Tells f place = (args : List ℕ) (h : HostCall) → made f (take (arity f) args) ≡ Some h → long h ≡ option_and_then (slice_get args) place

none : (h : HostCall) → (at : Option ℕ) → ((xs : List ℕ) → long h ≡ option_and_then (slice_get xs) at) → Tells (of_none h) at
none h at is args g e = ap long (sym (same_Some h g e)) ∙ is args

one : (f : ℕ → HostCall) (at : Option ℕ) → ((x : ℕ) (xs : List ℕ) → long (f x) ≡ option_and_then (slice_get (x ∷ xs)) at) → Tells (of_one f) at
one f at is [] h e = absurd (cc)
one f at is (x ∷ xs) h e = ap long (sym (same_Some (f x) h e)) ∙ is x xs

two : (f : ℕ → ℕ → HostCall) (at : Option ℕ) → ((x y : ℕ) (xs : List ℕ) → long (f x y) ≡ option_and_then (slice_get (x ∷ (y ∷ xs))) at) → Tells (of_two f) at
two f at is [] h e = absurd (cc)
two f at is (x ∷ []) h e = absurd (cc)
two f at is (x ∷ (y ∷ xs)) h e = ap long (sym (same_Some (f x y) h e)) ∙ is x y xs

three : (f : ℕ → ℕ → ℕ → HostCall) (at : Option ℕ) → ((x y z : ℕ) (xs : List ℕ) → long (f x y z) ≡ option_and_then (slice_get (x ∷ (y ∷ (z ∷ xs)))) at) → Tells (of_three f) at
three f at is [] h e = absurd (cc)
three f at is (x ∷ []) h e = absurd (cc)
three f at is (x ∷ (y ∷ [])) h e = absurd (cc)
three f at is (x ∷ (y ∷ (z ∷ xs))) h e = ap long (sym (same_Some (f x y z) h e)) ∙ is x y z xs

four : (f : ℕ → ℕ → ℕ → ℕ → HostCall) (at : Option ℕ) → ((x y z u : ℕ) (xs : List ℕ) → long (f x y z u) ≡ option_and_then (slice_get (x ∷ (y ∷ (z ∷ (u ∷ xs))))) at) → Tells (of_four f) at
four f at is [] h e = absurd (cc)
four f at is (x ∷ []) h e = absurd (cc)
four f at is (x ∷ (y ∷ [])) h e = absurd (cc)
four f at is (x ∷ (y ∷ (z ∷ []))) h e = absurd (cc)
four f at is (x ∷ (y ∷ (z ∷ (u ∷ xs)))) h e = ap long (sym (same_Some (f x y z u) h e)) ∙ is x y z u xs

abbrev AllTell : List HostRow → List (Option ℕ) → Type 0
AllTell [] [] = Unit {0}
AllTell (r ∷ rs) (p ∷ ps) = Tells r.form p × AllTell rs ps
AllTell _ _ = ⊥

at_row : (rows : List HostRow) (ps : List (Option ℕ)) (n : ℕ) (r : HostRow) → AllTell rows ps → slice_get rows n ≡ Some r → Tells r.form (option_and_then (λ p. p) (slice_get ps n))
at_row [] [] n r h e = absurd (cc)
at_row [] (p ∷ ps) n r h e = absurd h
at_row (s ∷ rs) [] n r h e = absurd h
at_row (s ∷ rs) (p ∷ ps) zero r h e = subst (λ (x : HostRow). Tells x.form p) (same_Some s r e) h.0
at_row (s ∷ rs) (p ∷ ps) (suc n) r h e = at_row rs ps n r h.1 e

all_tell : AllTell host_rows BUFFER_LENGTHS
all_tell = (
  one state_size None (λ x xs. refl),
  (
    one state_used None (λ x xs. refl),
    (
      one get_state None (λ x xs. refl),
      (
        four read_state (Some 3) (λ x y z u xs. refl),
        (
          four set_state (Some 3) (λ x y z u xs. refl),
          (
            one push_state None (λ x xs. refl),
            (
              one pull_state None (λ x xs. refl),
              (
                three push_state_offset None (λ x y z xs. refl),
                (
                  three pull_state_offset None (λ x y z xs. refl),
                  (
                    three append_state (Some 2) (λ x y z xs. refl),
                    (
                      one lock_state_read None (λ x xs. refl),
                      (
                        one lock_state_write None (λ x xs. refl),
                        (
                          one unlock_state None (λ x xs. refl),
                          (
                            one lock_global_read None (λ x xs. refl),
                            (
                              one lock_global_write None (λ x xs. refl),
                              (
                                one unlock_global None (λ x xs. refl),
                                (
                                  none input_size None (λ xs. refl),
                                  (
                                    three read_input (Some 2) (λ x y z xs. refl),
                                    (
                                      two write_output (Some 1) (λ x y xs. refl),
                                      (
                                        three chain_call (Some 2) (λ x y z xs. refl),
                                        (
                                          one await_call None (λ x xs. refl),
                                          (
                                            one output_size None (λ x xs. refl),
                                            (
                                              four read_output (Some 3) (λ x y z u xs. refl),
                                              tt,
                                            ),
                                          ),
                                        ),
                                      ),
                                    ),
                                  ),
                                ),
                              ),
                            ),
                          ),
                        ),
                      ),
                    ),
                  ),
                ),
              ),
            ),
          ),
        ),
      ),
    ),
  ),
)

pub length_told : (call : ℕ) (row : HostRow) (h : HostCall) (args : List ℕ) (place : Option ℕ) → place ≡ option_and_then (λ p. p) (slice_get BUFFER_LENGTHS call) → slice_get host_rows call ≡ Some row → made row.form (take (arity row.form) args) ≡ Some h → long h ≡ option_and_then (slice_get args) place
length_told call row h args place is found e = subst (λ o. long h ≡ option_and_then (slice_get args) o) (sym is) (at_row host_rows BUFFER_LENGTHS call row all_tell found args h e)
