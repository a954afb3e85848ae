-- Elements go from the end of one list to the end of another.
use Rattle.std.proofs.Common.{◌≡◌, List, [], ◌∷◌, ◌++◌, map, reverse, sym, ap, ◌∙◌, append_assoc}
use Rattle.std.proofs.lemmas.List.{append-nil, reverse-append}
use Rattle.session_objects.specs.declared.columns.BenchPasses.{BenchPasses}
use Rattle.region_tier.specs.declared.cells.Passes.{Passes}
use Rattle.session_objects.specs.Lists.{globals_of, locals_of, tables_of}
use Rattle.session_objects.specs.Rests.{TablePass}

pub record Moved {X : Type 0} (from from_now to to_now : List X) : Type 0 where
  pub moved : List X
  pub whole : from ≡ from_now ++ moved
  pub put : to_now ≡ to ++ reverse moved

pub moved_none : {X : Type 0} (from to : List X) → Moved from from to to
moved_none from to = record { moved = []; whole = sym (append-nil from); put = sym (append-nil to) }

pub last_first : {X : Type 0} (x : X) (xs : List X) → reverse (x ∷ xs) ≡ reverse xs ++ x ∷ []
last_first x xs = reverse-append (x ∷ []) xs

pub moves_one : {X : Type 0} (from now left to to_now to_more : List X) (x : X) → now ≡ left ++ x ∷ [] → to_more ≡ to_now ++ x ∷ [] → Moved from now to to_now → Moved from left to to_more
moves_one from now left to to_now to_more x popped pushed m = record {
  moved = x ∷ m.moved;
  whole = m.whole ∙ (ap (λ l. l ++ m.moved) popped ∙ append_assoc left (x ∷ []) m.moved);
  put = pushed ∙ (ap (λ l. l ++ x ∷ []) m.put ∙ (append_assoc to (reverse m.moved) (x ∷ []) ∙ ap (λ l. to ++ l) (sym (last_first x m.moved))));
}

-- one more is put together, seen through a function
pub zips_one : {A B : Type 0} (f : A → B) (xs now left : List B) (bs more : List A) (p : A) → now ≡ left ++ f p ∷ [] → more ≡ bs ++ p ∷ [] → xs ≡ now ++ map f (reverse bs) → xs ≡ left ++ map f (reverse more)
zips_one f xs now left bs more p popped pushed e =
    e ∙ (ap (λ l. l ++ map f (reverse bs)) popped ∙ (append_assoc left (f p ∷ []) (map f (reverse bs)) ∙ ap (λ l. left ++ map f l) (sym (ap reverse pushed ∙ reverse-append bs (p ∷ [])))))

-- the passes of the last benches were taken apart
pub record Unzipped (all now : List BenchPasses) (l ls g gs : List Passes) (t ts : List TablePass) : Type 0 where
  pub gone : List BenchPasses
  pub whole : all ≡ now ++ gone
  pub locals : ls ≡ l ++ reverse (locals_of gone)
  pub globals : gs ≡ g ++ reverse (globals_of gone)
  pub tables : ts ≡ t ++ reverse (tables_of gone)

pub puts_one : {A B : Type 0} (f : A → B) (to now more : List B) (gone : List A) (p : A) → more ≡ now ++ f p ∷ [] → now ≡ to ++ reverse (map f gone) → more ≡ to ++ reverse (map f (p ∷ gone))
puts_one f to now more gone p pushed e =
    pushed ∙ (ap (λ l. l ++ f p ∷ []) e ∙ (append_assoc to (reverse (map f gone)) (f p ∷ []) ∙ ap (λ l. to ++ l) (sym (last_first (f p) (map f gone)))))
