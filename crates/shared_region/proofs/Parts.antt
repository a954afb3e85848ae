-- The operations of a move are the entries of its question.
use Rattle.std.proofs.Common.{◌≡◌, ℕ, true, List, [], ◌∷◌, eqb, refl}
use Rattle.std.proofs.lemmas.Bool.{eq-eqb}
use Rattle.faaslet_meaning.specs.declared.ask.Move.{Move}
use Rattle.faaslet_meaning.specs.declared.ask.Move.TheVariants as move
use Rattle.faaslet_meaning.specs.declared.grant.Channel.TheVariants.{Local, Global}
use Rattle.faaslet_meaning.specs.Channels.{on_region}
use Rattle.shared_region.specs.Moves.{local_part, global_part, operations_on, question_of_move}

same : (key : ℕ) → eqb key key ≡ true
same key = eq-eqb key key refl

pub on_the_replica : (key size : ℕ) (kind : Move) (bytes : List ℕ) → operations_on (Local key) (question_of_move key size kind) bytes ≡ on_region (local_part kind bytes) ∷ []
on_the_replica key size move.Fill bytes = rw (same key) refl
on_the_replica key size (move.Pull off len) bytes = rw (same key) refl
on_the_replica key size (move.Push off len) bytes = rw (same key) refl

pub on_the_global_value : (key size : ℕ) (kind : Move) (bytes : List ℕ) → operations_on (Global key) (question_of_move key size kind) bytes ≡ on_region (global_part kind size bytes) ∷ []
on_the_global_value key size move.Fill bytes = rw (same key) refl
on_the_global_value key size (move.Pull off len) bytes = rw (same key) refl
on_the_global_value key size (move.Push off len) bytes = rw (same key) refl
