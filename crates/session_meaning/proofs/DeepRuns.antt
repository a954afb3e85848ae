-- A worked chain: a request, its child, the child of that, and so on to the eighth call, which may have none.
use Rattle.std.proofs.Common.{◌≡◌, ℕ, zero, suc, ◌+◌, List, [], ◌∷◌, map, refl}
use Rattle.std.specs.Prelude.{fold}
use Rattle.faaslet_meaning.specs.Channels.{Reply}
use Rattle.faaslet_meaning.specs.Table.{Table, TableOperation, empty_table, submit_request, submit, take_next, reply, after}

-- calls of one function, each taken and then the parent of the next
abbrev levels : ℕ → ℕ → List TableOperation
levels zero call = []
levels (suc n) call = take_next 0 call ∷ submit call 0 [] ∷ levels n (call + 1)

abbrev chain_of : ℕ → Table
chain_of n = fold (λ t op. after t 0 op) (empty_table 1 (record { fuel = 10; room = 0; channels = 1 } ∷ [])) (submit_request 0 0 [] ∷ levels n 0)

depths : map (λ r. r.depth) (chain_of 7).records ≡ 1 ∷ 2 ∷ 3 ∷ 4 ∷ 5 ∷ 6 ∷ 7 ∷ 8 ∷ []
depths = refl

-- the seventh may have a child, and the eighth, once it is taken, none
seventh : reply (chain_of 7) 0 (submit 6 0 []) ≡ Reply.child 1
seventh = refl

eighth : reply (after (chain_of 7) 0 (take_next 0 7)) 0 (submit 7 0 []) ≡ Reply.chain_full
eighth = refl
