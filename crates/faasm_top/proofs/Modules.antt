-- Functions that were given the modules in their files, one after the other.
use Rattle.std.proofs.Common.{◌≡◌, ℕ, zero, suc, ◌+◌, ◌<◌, ◌≤◌, List, [], ◌∷◌, ◌++◌, All, IsSome, length, map, take, drop, Option, Some, None, String, Global, string_bytes, refl, sym, ap, ap₂, subst, ◌∙◌, arith, add-one, append_assoc, append-nil, length-append}
use Rattle.std.specs.Prelude.{slice_get, get_or}
use Rattle.std.proofs.lemmas.List.Elements.{All-nil, All-cons}
use Rattle.std.proofs.lemmas.Option.{slice_get_within, slice_get_cases, get_or_from_slice_get}
use Rattle.std.proofs.Math.Seq.{drop-cons}
use Rattle.fa_outside.specs.Files.{Files, IsFile}
use Rattle.faaslet_meaning.specs.declared.module.Module.{Module}
use Rattle.faaslet_meaning.specs.Lists.{changed}
use Rattle.session_meaning.specs.Draft.{Draft, DraftFunction, with_module}
use Rattle.session_meaning.specs.WellFormed.{ModuleFits, WellFormedDraft}
use Rattle.session_meaning.proofs.FilePlans.{module_keeps}
use Rattle.session_meaning.proofs.LegalEntries.{changed_next}
use Rattle.protos.specs.Keeps.{HasModules}
use Rattle.faasm_top.specs.Commands.{texts}
use Rattle.faasm_top.specs.ModuleFiles.{IsAccepted, IsUsable}
use Rattle.faasm_top.specs.Sessions.{GetsModule, GetModules, GivesFile, GivesModule}

-- ---- One module.

pub usable_of : (bytes : List ℕ) (place : ℕ) (old new : Draft) → GivesModule bytes place old new → IsUsable bytes
usable_of bytes place old new g = record { code = g.code; accepted = g.accepted; runnable = g.runnable }

-- a draft that is given a module stays well formed
pub formed_still : (bytes : List ℕ) (place : ℕ) (old new : Draft) → GivesModule bytes place old new → WellFormedDraft old → WellFormedDraft new
formed_still bytes place old new g formed =
    let fits : ModuleFits g.code = record { valid = g.accepted.valid; runnable = g.runnable; decodes = g.accepted.decodes.2 } in
    subst WellFormedDraft (sym g.is_given) (module_keeps old place g.code formed fits)

-- ---- Lists.

change_there : {A : Type 0} (front rest : List A) (x : A) (f : A → A) → changed (front ++ x ∷ rest) (length front) f ≡ front ++ f x ∷ rest
change_there [] rest x f = refl
change_there (y ∷ front) rest x f = changed_next y (front ++ x ∷ rest) (length front) f ∙ ap (λ l. y ∷ l) (change_there front rest x f)

take_more : {A : Type 0} (xs : List A) (k : ℕ) (x : A) (rest : List A) → drop k xs ≡ x ∷ rest → take (suc k) xs ≡ take k xs ++ x ∷ []
take_more [] zero x rest e = absurd cc
take_more [] (suc k) x rest e = absurd cc
take_more (y ∷ xs) zero x rest e = let same : y ≡ x = cc in ap (λ z. z ∷ []) same
take_more (y ∷ xs) (suc k) x rest e = ap (λ l. y ∷ l) (take_more xs k x rest e)

take_whole : {A : Type 0} (xs : List A) (k : ℕ) → length xs ≤ k → take k xs ≡ xs
take_whole [] zero most = refl
take_whole [] (suc k) most = refl
take_whole (x ∷ xs) zero most = absurd (omega arith)
take_whole (x ∷ xs) (suc k) most = ap (λ l. x ∷ l) (take_whole xs k (omega (arith, most)))

drop_whole : {A : Type 0} (xs : List A) (k : ℕ) → length xs ≤ k → drop k xs ≡ []
drop_whole [] zero most = refl
drop_whole [] (suc k) most = refl
drop_whole (x ∷ xs) zero most = absurd (omega arith)
drop_whole (x ∷ xs) (suc k) most = drop_whole xs k (omega (arith, most))

take_length : {A : Type 0} (xs : List A) (k : ℕ) → k ≤ length xs → length (take k xs) ≡ k
take_length xs zero few = refl
take_length [] (suc k) few = absurd (omega arith)
take_length (x ∷ xs) (suc k) few = ap suc (take_length xs k (omega (arith, few)))

-- what stands at a place, and behind it
pub behind_it : {A : Type 0} (xs : List A) (k : ℕ) → k < length xs → (x : A) × (drop k xs ≡ x ∷ drop (suc k) xs)
behind_it [] k less = absurd (omega arith)
behind_it (x ∷ xs) zero less = (x, refl)
behind_it (x ∷ xs) (suc k) less = behind_it xs k (omega (arith, less))

-- ---- All of them.

gets_more : (told : Option Files) (ps : List (List ℕ)) (fs gs : List DraftFunction) (p : List ℕ) (f g : DraftFunction) → GetModules told ps fs gs → GetsModule told p f g → GetModules told (ps ++ p ∷ []) (fs ++ f ∷ []) (gs ++ g ∷ [])
gets_more told [] [] [] p f g all one = (one, tt)
gets_more told (q ∷ ps) (d ∷ fs) (e ∷ gs) p f g all one = (all.0, gets_more told ps fs gs p f g all.1 one)
gets_more told [] [] (e ∷ gs) p f g all one = absurd all
gets_more told [] (d ∷ fs) gs p f g all one = absurd all
gets_more told (q ∷ ps) [] gs p f g all one = absurd all
gets_more told (q ∷ ps) (d ∷ fs) [] p f g all one = absurd all

gets_length : (told : Option Files) (ps : List (List ℕ)) (fs gs : List DraftFunction) → GetModules told ps fs gs → length gs ≡ length fs
gets_length told [] [] [] all = refl
gets_length told (q ∷ ps) (d ∷ fs) (e ∷ gs) all = ap suc (gets_length told ps fs gs all.1)
gets_length told [] [] (e ∷ gs) all = absurd all
gets_length told [] (d ∷ fs) gs all = absurd all
gets_length told (q ∷ ps) [] gs all = absurd all
gets_length told (q ∷ ps) (d ∷ fs) [] all = absurd all

has_all : (told : Option Files) (ps : List (List ℕ)) (fs gs : List DraftFunction) → GetModules told ps fs gs → All (λ f. IsSome f.code) gs
has_all told [] [] [] all = All-nil (λ f. IsSome f.code)
has_all told (q ∷ ps) (d ∷ fs) (e ∷ gs) all = All-cons (λ f. IsSome f.code) e gs (subst (λ f. IsSome f.code) (sym all.0.is_given) refl) (has_all told ps fs gs all.1)
has_all told [] [] (e ∷ gs) all = absurd all
has_all told [] (d ∷ fs) gs all = absurd all
has_all told (q ∷ ps) [] gs all = absurd all
has_all told (q ∷ ps) (d ∷ fs) [] all = absurd all

pub has_modules : (told : Option Files) (ps : List (List ℕ)) (fs : List DraftFunction) (d : Draft) → GetModules told ps fs d.functions → HasModules d
has_modules told ps fs d all = has_all told ps fs d.functions all

-- The first functions of a draft have got theirs, and all else is as before.
pub record Filled (told : Option Files) (paths : List (List ℕ)) (k : ℕ) (d new : Draft) : Type 0 where
  pub front : List DraftFunction
  pub given : GetModules told (take k paths) (take k d.functions) front
  pub functions : new.functions ≡ front ++ drop k d.functions
  pub rest : new ≡ record d { functions = new.functions }

pub none_filled : (told : Option Files) (paths : List (List ℕ)) (d : Draft) → Filled told paths 0 d d
none_filled told paths d = record { front = []; given = tt; functions = refl; rest = refl }

-- the next function gets its own
pub one_filled : (told : Option Files) (paths : List (List ℕ)) (k : ℕ) (d new after : Draft) (path : List ℕ) → k < length d.functions → drop k paths ≡ path ∷ drop (suc k) paths → GivesFile told path k new after → Filled told paths k d new → Filled told paths (k + 1) d after
one_filled told paths k d new after path less here gives h =
    let f = behind_it d.functions k less in
    let g = record f.0 { code = Some gives.gives.code } in
    let long : length h.front ≡ k = gets_length told _ _ h.front h.given ∙ take_length d.functions k (omega (arith, less)) in
    let fill : DraftFunction → DraftFunction = λ x. record x { code = Some gives.gives.code } in
    let functions : after.functions ≡ (h.front ++ g ∷ []) ++ drop (suc k) d.functions =
    ap (λ x. x.functions) gives.gives.is_given
    ∙ ap (λ l. changed l k fill) (h.functions ∙ ap (λ l. h.front ++ l) f.1)
    ∙ ap (λ n. changed (h.front ++ f.0 ∷ drop (suc k) d.functions) n fill) (sym long)
    ∙ change_there h.front (drop (suc k) d.functions) f.0 fill
    ∙ sym (append_assoc h.front (g ∷ []) (drop (suc k) d.functions)) in
    let one : GetsModule told path f.0 g = record { code = gives.gives.code; bytes = gives.bytes; is_file = gives.is_file; accepted = gives.gives.accepted; is_given = refl } in
    let all = gets_more told _ _ h.front path f.0 g h.given one in
    let ps = take_more paths k path _ here in
    let fs = take_more d.functions k f.0 _ f.1 in
    record {
      front = h.front ++ g ∷ [];
      given = subst (λ n. GetModules told (take n paths) (take n d.functions) (h.front ++ g ∷ [])) (sym (add-one k))
          (subst (λ l. GetModules told l (take (suc k) d.functions) (h.front ++ g ∷ [])) (sym ps) (subst (λ l. GetModules told (take k paths ++ path ∷ []) l (h.front ++ g ∷ [])) (sym fs) all));
      functions = functions ∙ ap (λ n. (h.front ++ g ∷ []) ++ drop n d.functions) (sym (add-one k));
      rest = gives.gives.is_given ∙ ap (λ x. with_module x k gives.gives.code) h.rest
          ∙ ap (λ x. record d { functions = x }) (ap (λ x. (with_module x k gives.gives.code).functions) (sym h.rest) ∙ ap (λ x. x.functions) (sym gives.gives.is_given));
    }

pub all_filled : (told : Option Files) (paths : List (List ℕ)) (k : ℕ) (d new : Draft) → length paths ≤ k → length d.functions ≤ k → Filled told paths k d new → GetModules told paths d.functions new.functions
all_filled told paths k d new most many h =
    let all : new.functions ≡ h.front = h.functions ∙ ap (λ l. h.front ++ l) (drop_whole d.functions k many) ∙ append-nil h.front in
    subst (GetModules told paths d.functions) (sym all)
    (subst (λ l. GetModules told l d.functions h.front) (take_whole paths k most)
    (subst (λ l. GetModules told (take k paths) l h.front) (take_whole d.functions k many) h.given))
