-- Two lists of records that are alike for a bench, place by place.
use Rattle.std.proofs.Common.{◌≡◌, ℕ, zero, suc, List, [], ◌∷◌, ◌++◌, Bool, true, false, Some, slice_get, slice_set, refl, sym, ap, ◌∙◌}
use Rattle.std.specs.List.{AllByRecursion}
use Rattle.std.proofs.lemmas.Option.{same_Some}
use Rattle.faaslet_meaning.specs.declared.call.CallRecord.{CallRecord}
use Rattle.call_table.specs.Mine.{is_of, childless, mine}
use Rattle.held_calls.specs.Places.{SameOn}

-- both are of the bench, and the same but for their children, or none is
pub record OneAlike (b : ℕ) (r x : CallRecord) : Type 0 where
  pub whose : is_of b x.state ≡ is_of b r.state
  pub same : is_of b r.state ≡ true → childless r ≡ childless x

abbrev pub NoneOf : ℕ → List CallRecord → Type 0
NoneOf b rs = AllByRecursion (λ r. is_of b r.state ≡ false) rs

-- each record is alike to that at its place, and none that stand behind them is of the bench
abbrev pub Alike : ℕ → List CallRecord → List CallRecord → Type 0
Alike b [] xs = NoneOf b xs
Alike b (r ∷ rs) [] = ⊥
Alike b (r ∷ rs) (x ∷ xs) = OneAlike b r x × Alike b rs xs

one_same : (b : ℕ) (r : CallRecord) → OneAlike b r r
one_same b r = record { whose = refl; same = λ e. refl }

alike_same : (b : ℕ) (rs : List CallRecord) → Alike b rs rs
alike_same b [] = tt
alike_same b (r ∷ rs) = (one_same b r, alike_same b rs)

pub alike_push : (b : ℕ) (rs more : List CallRecord) → NoneOf b more → Alike b rs (rs ++ more)
alike_push b [] more none = none
alike_push b (r ∷ rs) more none = (one_same b r, alike_push b rs more none)

pub alike_set : (b : ℕ) (rs : List CallRecord) (n : ℕ) (r x : CallRecord) → slice_get rs n ≡ Some r → OneAlike b r x → Alike b rs (slice_set rs n x)
alike_set b [] n r x e o = tt
alike_set b (y ∷ rs) zero r x e o = let same = same_Some y r e in (record { whose = o.whose ∙ ap (λ (z : CallRecord). is_of b z.state) (sym same); same = λ t. ap childless same ∙ o.same (ap (λ (z : CallRecord). is_of b z.state) (sym same) ∙ t) }, alike_same b rs)
alike_set b (y ∷ rs) (suc n) r x e o = (one_same b y, alike_set b rs n r x e o)

-- ---- The calls of the bench are then the same.

mine_none : (b : ℕ) (xs : List CallRecord) → NoneOf b xs → mine b xs ≡ []
mine_none b [] none = refl
mine_none b (x ∷ xs) none = rw none.0 (mine_none b xs none.1)

mine_first : (b : ℕ) (r x : CallRecord) (rs xs : List CallRecord) → OneAlike b r x → mine b xs ≡ mine b rs → mine b (x ∷ xs) ≡ mine b (r ∷ rs)
mine_first b r x rs xs o e = by (is_of b r.state) refl
  where
    by : (t : Bool) → is_of b r.state ≡ t → mine b (x ∷ xs) ≡ mine b (r ∷ rs)
    by true t = rw (o.whose, t) (ap (λ l. childless x ∷ l) e ∙ ap (λ y. y ∷ mine b rs) (sym (o.same t)))
    by false t = rw (o.whose, t) e

mine_alike : (b : ℕ) (rs xs : List CallRecord) → Alike b rs xs → mine b xs ≡ mine b rs
mine_alike b [] xs a = mine_none b xs a
mine_alike b (r ∷ rs) [] a = absurd a
mine_alike b (r ∷ rs) (x ∷ xs) a = mine_first b r x rs xs a.0 (mine_alike b rs xs a.1)

-- ---- And each is at its place.

abbrev Was : List CallRecord → ℕ → CallRecord → Type 0
Was rs n x = (r : CallRecord) × (slice_get rs n ≡ Some r) × (childless r ≡ childless x)

abbrev Is : List CallRecord → ℕ → CallRecord → Type 0
Is xs n r = (x : CallRecord) × (slice_get xs n ≡ Some x) × (childless r ≡ childless x)

not_there : (b : ℕ) (xs : List CallRecord) (n : ℕ) (x : CallRecord) → NoneOf b xs → slice_get xs n ≡ Some x → is_of b x.state ≡ true → ⊥
not_there b [] n x none e t = cc
not_there b (y ∷ xs) zero x none e t = let f = none.0 in let g = ap (λ (z : CallRecord). is_of b z.state) (same_Some y x e) in cc
not_there b (y ∷ xs) (suc n) x none e t = not_there b xs n x none.1 e t

was : (b : ℕ) (rs xs : List CallRecord) (n : ℕ) (x : CallRecord) → Alike b rs xs → slice_get xs n ≡ Some x → is_of b x.state ≡ true → Was rs n x
was b [] xs n x a e t = absurd (not_there b xs n x a e t)
was b (r ∷ rs) [] n x a e t = absurd a
was b (r ∷ rs) (y ∷ xs) zero x a e t =
    let same = same_Some y x e in
    (r, refl, a.0.same (sym a.0.whose ∙ ap (λ (z : CallRecord). is_of b z.state) same ∙ t) ∙ ap childless same)
was b (r ∷ rs) (y ∷ xs) (suc n) x a e t = was b rs xs n x a.1 e t

is : (b : ℕ) (rs xs : List CallRecord) (n : ℕ) (r : CallRecord) → Alike b rs xs → slice_get rs n ≡ Some r → is_of b r.state ≡ true → Is xs n r
is b [] xs n r a e t = let no : ⊥ = cc in absurd no
is b (y ∷ rs) [] n r a e t = absurd a
is b (y ∷ rs) (x ∷ xs) zero r a e t =
    let same = same_Some y r e in
    (x, refl, ap childless (sym same) ∙ a.0.same (ap (λ (z : CallRecord). is_of b z.state) same ∙ t))
is b (y ∷ rs) (x ∷ xs) (suc n) r a e t = is b rs xs n r a.1 e t

pub same_on : (b : ℕ) (rs xs : List CallRecord) → Alike b rs xs → SameOn b rs xs
same_on b rs xs a = record { mine_so = mine_alike b rs xs a; at = λ n x e t. was b rs xs n x a e t; stays = λ n r e t. is b rs xs n r a e t }

-- ---- None, and twice.

pub same_none : (b : ℕ) (rs : List CallRecord) → SameOn b rs rs
same_none b rs = record { mine_so = refl; at = λ n x e t. (x, e, refl); stays = λ n r e t. (r, e, refl) }

of_childless : (b : ℕ) (r x : CallRecord) → childless r ≡ childless x → is_of b r.state ≡ is_of b x.state
of_childless b r x e = ap (λ (z : CallRecord). is_of b z.state) e

pub same_both : (b : ℕ) (rs xs ys : List CallRecord) → SameOn b rs xs → SameOn b xs ys → SameOn b rs ys
same_both b rs xs ys s t = record {
  mine_so = t.mine_so ∙ s.mine_so;
  at = λ n y e h.
      let mid = t.at n y e h in
      let old = s.at n mid.0 mid.1 (of_childless b mid.0 y mid.2 ∙ h) in
      (old.0, old.1, old.2 ∙ mid.2);
  stays = λ n r e h.
      let mid = s.stays n r e h in
      let new = t.stays n mid.0 mid.1 (sym (of_childless b r mid.0 mid.2) ∙ h) in
      (new.0, new.1, mid.2 ∙ new.2);
}
