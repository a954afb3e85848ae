-- What suits the objects is a question on them.
use Rattle.std.proofs.Common.{◌≡◌, ℕ, true, List, IsSome, refl}
use Rattle.faaslet_meaning.specs.declared.ask.Ask.{Ask}
use Rattle.faaslet_meaning.specs.declared.ask.Ask.TheVariants as an_ask
use Rattle.world_objects.specs.Kept.{Objects}
use Rattle.world_objects.specs.Served.{question_at}
use Rattle.world_objects_tests.specs.Ready.{suits}

pub is_asked : (o : Objects) (host : ℕ) (a : Ask) (n : ℕ) (scratch : List ℕ) → suits host a n ≡ true → IsSome (question_at o a scratch)
is_asked o host (an_ask.Region ch p) n scratch e = refl
is_asked o host (an_ask.Move key k) n scratch e = refl
is_asked o host (an_ask.Submit f len) n scratch e = let no : ⊥ = cc in absurd no
is_asked o host (an_ask.Look child) n scratch e = let no : ⊥ = cc in absurd no
