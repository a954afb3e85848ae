-- The limits of a run, and what meets them: a push of a value, a label or a frame past its limit is a trap. This
-- project's own; the standard leaves such limits to an implementation (appendix A.2.3, Execution).
use Rattle.std.specs.Prelude.{ℕ, ◌+◌, List, [], ◌∷◌, Option, nat_lt, nat_le, if◌then◌else◌, Bool, ◌&&◌}
use Rattle.faaslet_meaning.specs.declared.outcome.Trap.{Trap}
use Rattle.faaslet_meaning.specs.declared.outcome.Trap.TheVariants as trap
use Rattle.faaslet_meaning.specs.declared.outcome.Outcome.TheVariants as outcome
use Rattle.faaslet_meaning.specs.Tree.{Tree}
use Rattle.faaslet_meaning.specs.Configuration.{Configuration, Next, goes, ends, values_held, labels_held, frames_held}

-- the locals of all frames are values, and each frame has one label
abbrev pub value_limit : ℕ
value_limit = 65536

abbrev pub label_limit : ℕ
label_limit = 65536

abbrev pub frame_limit : ℕ
frame_limit = 1024

abbrev pub traps : Configuration → Trap → Next
traps c t = ends c (outcome.Trap t)

-- a configuration with these values in its frame
abbrev pub with_values : Configuration → List ℕ → Configuration
with_values c vs = record c { frame = record c.frame { values = vs } }

-- one more value
abbrev pub push : Configuration → ℕ → Next
push c v =
    if nat_lt (values_held c) value_limit then goes (with_values c (v ∷ c.frame.values)) else traps c trap.StackExhausted

-- enters a label over the values: the body is next, and what was next follows the block
abbrev pub enter : Configuration → ℕ → Option Tree → Tree → Next
enter c n again body =
    if nat_lt (labels_held c) label_limit
    then goes (record c { frame = record c.frame { labels = record { arity = n; again = again; under = c.frame.values; after = c.frame.rest } ∷ c.frame.labels; values = []; rest = body } })
    else traps c trap.StackExhausted

-- one more frame, with so many locals beside its arguments
abbrev pub has_room : Configuration → ℕ → Bool
has_room c locals = nat_lt (frames_held c) frame_limit && nat_lt (labels_held c) label_limit && nat_le (values_held c + locals) value_limit
