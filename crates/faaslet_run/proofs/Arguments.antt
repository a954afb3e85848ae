-- The arguments of a host call at which the steps of a machine stop are those of an i32, and they are what it is asked with.
use Rattle.std.proofs.Common.{◌≡◌, ℕ, zero, suc, ◌<◌, ◌%◌, ◌^◌, List, [], ◌∷◌, refl, sym, ap, ◌∙◌, subst, arith, Some, take, get_or}
use Rattle.std.specs.Prelude.{slice_get, slice_index}
use Rattle.std.proofs.Math.Nat.{mod-lt, mod-eq_of_lt}
use Rattle.std.proofs.lemmas.Option.{same_Some}
use Rattle.call_laws.specs.HostAsks.{call_numbers}
use Rattle.call_laws.proofs.HostAsks.{host_asks_carried}
use Rattle.faaslet_meaning.specs.HostCalls.{HostCall, HostRow, Form, of_none, of_one, of_two, of_three, of_four, arity, made, host_rows}
use Rattle.faaslet_meaning.specs.Configuration.{Program, Configuration, Next, goes, ends, touches, calls, stuck}
use Rattle.faaslet_meaning.specs.Fresh.{steps, then_go}
use Rattle.faaslet_meaning.specs.Step.{step}
use Rattle.faaslet_meaning.proofs.CallParts.{Each, each_all}
use Rattle.wasm_interp.specs.StandsFor.{AsksHost}
use Rattle.wasm_interp.specs.declared.machine.HostAsk.{HostAsk}
use Rattle.faaslet_run.specs.Hosts.{HasSmall}

-- ---- The arguments of a row.

abbrev IsGood : Form → Type 0
IsGood (of_none h) = call_numbers h ≡ []
IsGood (of_one f) = (x : ℕ) → call_numbers (f x) ≡ x ∷ []
IsGood (of_two f) = (x y : ℕ) → call_numbers (f x y) ≡ x ∷ y ∷ []
IsGood (of_three f) = (x y z : ℕ) → call_numbers (f x y z) ≡ x ∷ y ∷ z ∷ []
IsGood (of_four f) = (x y z u : ℕ) → call_numbers (f x y z u) ≡ x ∷ y ∷ z ∷ u ∷ []

rows_good : Each (λ r. IsGood r.form) host_rows
rows_good = (
  λ k. refl,
  (
    λ k. refl,
    (
      λ k. refl,
      (
        λ k a b c. refl,
        (
          λ k a b c. refl,
          (
            λ k. refl,
            (
              λ k. refl,
              (
                λ k a b. refl,
                (
                  λ k a b. refl,
                  (
                    λ k a b. refl,
                    (
                      λ k. refl,
                      (
                        λ k. refl,
                        (
                          λ k. refl,
                          (
                            λ k. refl,
                            (
                              λ k. refl,
                              (
                                λ k. refl,
                                (
                                  refl,
                                  (λ k a b. refl, (λ k a. refl, (λ k a b. refl, (λ k. refl, (λ k. refl, (λ k a b c. refl, tt)))))),
                                ),
                              ),
                            ),
                          ),
                        ),
                      ),
                    ),
                  ),
                ),
              ),
            ),
          ),
        ),
      ),
    ),
  ),
)

got_row : (P : HostRow → Type 0) (rs : List HostRow) (k : ℕ) (r : HostRow) → Each P rs → slice_get rs k ≡ Some r → P r
got_row P [] k r h e = absurd (cc)
got_row P (x ∷ rs) zero r h e = let same : x ≡ r = cc in subst P same h.0
got_row P (x ∷ rs) (suc k) r h e = got_row P rs k r h.1 e

made_args : (f : Form) → IsGood f → (xs : List ℕ) (h : HostCall) → made f xs ≡ Some h → call_numbers h ≡ xs
made_args (of_none g) i [] h e = ap call_numbers (sym (same_Some _ _ e)) ∙ i
made_args (of_none g) i (x ∷ xs) h e = absurd (cc)
made_args (of_one g) i [] h e = absurd (cc)
made_args (of_one g) i (x ∷ []) h e = ap call_numbers (sym (same_Some _ _ e)) ∙ i x
made_args (of_one g) i (x ∷ y ∷ xs) h e = absurd (cc)
made_args (of_two g) i [] h e = absurd (cc)
made_args (of_two g) i (x ∷ []) h e = absurd (cc)
made_args (of_two g) i (x ∷ y ∷ []) h e = ap call_numbers (sym (same_Some _ _ e)) ∙ i x y
made_args (of_two g) i (x ∷ y ∷ z ∷ xs) h e = absurd (cc)
made_args (of_three g) i [] h e = absurd (cc)
made_args (of_three g) i (x ∷ []) h e = absurd (cc)
made_args (of_three g) i (x ∷ y ∷ []) h e = absurd (cc)
made_args (of_three g) i (x ∷ y ∷ z ∷ []) h e = ap call_numbers (sym (same_Some _ _ e)) ∙ i x y z
made_args (of_three g) i (x ∷ y ∷ z ∷ u ∷ xs) h e = absurd (cc)
made_args (of_four g) i [] h e = absurd (cc)
made_args (of_four g) i (x ∷ []) h e = absurd (cc)
made_args (of_four g) i (x ∷ y ∷ []) h e = absurd (cc)
made_args (of_four g) i (x ∷ y ∷ z ∷ []) h e = absurd (cc)
made_args (of_four g) i (x ∷ y ∷ z ∷ u ∷ []) h e = ap call_numbers (sym (same_Some _ _ e)) ∙ i x y z u
made_args (of_four g) i (x ∷ y ∷ z ∷ u ∷ v ∷ xs) h e = absurd (cc)

row_args : (k : ℕ) (r : HostRow) (xs : List ℕ) (h : HostCall) → slice_get host_rows k ≡ Some r → made r.form xs ≡ Some h → call_numbers h ≡ xs
row_args k r xs h found e = made_args r.form (got_row (λ x. IsGood x.form) host_rows k r rows_good found) xs h e

-- ---- The last step is one to the host call.

abbrev LastStep : Program → Configuration → HostCall → Type 0
LastStep p d h = (c : Configuration) × (step p c ≡ calls d h)

last_step : (p : Program) (n : ℕ) (c d : Configuration) (h : HostCall) → steps p n c ≡ calls d h → LastStep p d h
last_step p zero c d h e = absurd (cc)
last_step p (suc n) c d h e = by (step p c) refl (λ b f. last_step p n b d h f) e
  where
    by : (x : Next) → step p c ≡ x → ((b : Configuration) → steps p n b ≡ calls d h → LastStep p d h) → then_go x (steps p n) ≡ calls d h → LastStep p d h
    by (goes b) f k g = k b g
    by (ends b o) f k g = absurd (cc)
    by (touches b u) f k g = absurd (cc)
    by (calls b i) f k g = (c, f ∙ g)
    by stuck f k g = absurd (cc)

-- what is stopped at has small arguments
pub stops_small : (p : Program) (n : ℕ) (c d : Configuration) (h : HostCall) → steps p n c ≡ calls d h → HasSmall h
stops_small p n c d h e = let (b, f) = last_step p n c d h e in (host_asks_carried p b d h f).numbers

-- ---- What a host call is asked with.

abbrev IsSmall : ℕ → Type 0
IsSmall n = n < 2 ^ 32

abbrev low_half : ℕ → ℕ
low_half x = x % 2 ^ 32

same_low : (x : ℕ) → x < 2 ^ 32 → low_half x ≡ x
same_low x l = mod-eq_of_lt l

-- the low halves of four arguments
abbrev pub lows : List ℕ → List ℕ
lows xs = low_half (get_or xs 0 0) ∷ low_half (get_or xs 1 0) ∷ low_half (get_or xs 2 0) ∷ low_half (get_or xs 3 0) ∷ []

-- those that a form takes are their own low halves, where they are small
same_taken : (f : Form) (xs : List ℕ) (h : HostCall) → made f (take (arity f) xs) ≡ Some h → Each IsSmall (take (arity f) xs) → take (arity f) (lows xs) ≡ take (arity f) xs
same_taken (of_none g) xs h e s = refl
same_taken (of_one g) [] h e s = absurd (cc)
same_taken (of_one g) (x ∷ xs) h e s = ap (λ a. a ∷ []) (same_low x s.0)
same_taken (of_two g) [] h e s = absurd (cc)
same_taken (of_two g) (x ∷ []) h e s = absurd (cc)
same_taken (of_two g) (x ∷ y ∷ xs) h e s = ap (λ a. a ∷ low_half y ∷ []) (same_low x s.0) ∙ ap (λ a. x ∷ a ∷ []) (same_low y s.1.0)
same_taken (of_three g) [] h e s = absurd (cc)
same_taken (of_three g) (x ∷ []) h e s = absurd (cc)
same_taken (of_three g) (x ∷ y ∷ []) h e s = absurd (cc)
same_taken (of_three g) (x ∷ y ∷ z ∷ xs) h e s =
    ap (λ a. a ∷ low_half y ∷ low_half z ∷ []) (same_low x s.0) ∙ ap (λ a. x ∷ a ∷ low_half z ∷ []) (same_low y s.1.0) ∙ ap (λ a. x ∷ y ∷ a ∷ []) (same_low z s.1.1.0)
same_taken (of_four g) [] h e s = absurd (cc)
same_taken (of_four g) (x ∷ []) h e s = absurd (cc)
same_taken (of_four g) (x ∷ y ∷ []) h e s = absurd (cc)
same_taken (of_four g) (x ∷ y ∷ z ∷ []) h e s = absurd (cc)
same_taken (of_four g) (x ∷ y ∷ z ∷ u ∷ xs) h e s =
    ap (λ a. a ∷ low_half y ∷ low_half z ∷ low_half u ∷ []) (same_low x s.0) ∙ ap (λ a. x ∷ a ∷ low_half z ∷ low_half u ∷ []) (same_low y s.1.0)
    ∙ ap (λ a. x ∷ y ∷ a ∷ low_half u ∷ []) (same_low z s.1.1.0) ∙ ap (λ a. x ∷ y ∷ z ∷ a ∷ []) (same_low u s.1.1.1.0)

-- it is asked with their low halves as with them
pub asks_low : (ask low : HostAsk) (h : HostCall) → AsksHost ask h → HasSmall h → low.call ≡ ask.call → low.args ≡ lows ask.args → AsksHost low h
asks_low ask low h a s call args =
    let n = arity a.row.form in
    let own : call_numbers h ≡ take n ask.args = row_args ask.call a.row (take n ask.args) h a.row_is a.made_is in
    let small : Each IsSmall (take n ask.args) = subst (λ xs. Each IsSmall xs) own (each_all IsSmall (call_numbers h) s) in
    let same : take n low.args ≡ take n ask.args = ap (take n) args ∙ same_taken a.row.form ask.args h a.made_is small in
    record {
      row = a.row;
      row_is = ap (slice_get host_rows) call ∙ a.row_is;
      made_is = ap (made a.row.form) same ∙ a.made_is;
    }

-- four low halves are small
pub lows_small : (a b c d k : ℕ) → slice_index (low_half a ∷ low_half b ∷ low_half c ∷ low_half d ∷ []) k < 2 ^ 32
lows_small a b c d zero = mod-lt a {m = 2 ^ 32} (omega arith)
lows_small a b c d (suc zero) = mod-lt b {m = 2 ^ 32} (omega arith)
lows_small a b c d (suc (suc zero)) = mod-lt c {m = 2 ^ 32} (omega arith)
lows_small a b c d (suc (suc (suc zero))) = mod-lt d {m = 2 ^ 32} (omega arith)
lows_small a b c d (suc (suc (suc (suc k)))) = omega arith
