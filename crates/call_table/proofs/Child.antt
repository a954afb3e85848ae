-- A record put behind the others, and one child more of its parent.
use Rattle.std.proofs.Common.{◌≡◌, ℕ, ◌+◌, ◌<◌, ◌++◌, ◌∷◌, List, [], Some, length, get_or, slice_get, slice_set, sym, ap, ◌∙◌}
use Rattle.std.proofs.lemmas.List.{get_or_append_left, set-append_left}
use Rattle.std.proofs.lemmas.Option.{slice_get_within, get_or_from_slice_get}
use Rattle.faaslet_meaning.specs.declared.call.CallRecord.{CallRecord}
use Rattle.faaslet_meaning.specs.Lists.{changed}
use Rattle.faaslet_meaning.specs.Table.{one_more_child}
use Rattle.call_table.proofs.Held.{changed_set}

module _ (rs : List CallRecord) (n : ℕ) (parent child r : CallRecord) (e : slice_get rs n ≡ Some parent) (is : r ≡ get_or (rs ++ child ∷ []) n r) where
  inside : n < length rs
  inside = slice_get_within rs n parent e

  pub is_parent : r ≡ parent
  is_parent = is ∙ get_or_append_left rs (child ∷ []) r n inside ∙ get_or_from_slice_get rs n parent r e

  pub child_made : (k : ℕ) → k ≡ parent.children → slice_set (rs ++ child ∷ []) n (record r { children = k + 1 }) ≡ changed rs n one_more_child ++ child ∷ []
  child_made k same =
      ap (λ p. slice_set (rs ++ child ∷ []) n (record p { children = k + 1 })) is_parent
      ∙ ap (λ c. slice_set (rs ++ child ∷ []) n (record parent { children = c + 1 })) same
      ∙ set-append_left rs (child ∷ []) n (one_more_child parent) inside
      ∙ ap (λ xs. xs ++ child ∷ []) (sym (changed_set rs n parent one_more_child e))
