-- What a call has seen of its children, by its questions and their replies. This project's own.
use Rattle.std.specs.Prelude.{ℕ, List, [], ◌∷◌, ◌++◌, Option, Some, None, length, slice_set}
use Rattle.faaslet_meaning.specs.declared.grant.Channel.TheVariants.{Table}
use Rattle.faaslet_meaning.specs.Channels.{Operation, Reply, Question, ask, Transcript}

-- its children in order, with the length of the output of each at which it has looked
abbrev pub Kids : Type 0
Kids = List (Option ℕ)

abbrev pub seen_after : Kids → Question → Reply → Kids
seen_after kids q (Reply.child n) = kids ++ None ∷ []
seen_after kids (ask Table (Operation.look c)) (Reply.finished outcome output) = slice_set kids c (Some (length output))
seen_after kids q r = kids

abbrev pub seen_by : Kids → Transcript → Kids
seen_by kids [] = kids
seen_by kids (x ∷ xs) = seen_by (seen_after kids x.0 x.1) xs
