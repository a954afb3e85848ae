-- How many entries a call has made on each of its channels. This project's own.
use Rattle.std.specs.Prelude.{ℕ, ◌+◌, ◌*◌, ◌-◌, ◌^◌, Bool, false, true, List, [], ◌∷◌, Option, Some, None, length, map, min, option_map, slice_index, slice_set, ◌==◌, if◌then◌else◌}
use Rattle.std.specs.List.{position_from}
use Rattle.faaslet_meaning.specs.declared.ask.Ask.{Ask}
use Rattle.faaslet_meaning.specs.declared.ask.Ask.TheVariants as an_ask
use Rattle.faaslet_meaning.specs.declared.ask.Reply.{Reply}
use Rattle.faaslet_meaning.specs.declared.ask.Reply.TheVariants as replies
use Rattle.faaslet_meaning.specs.declared.grant.Channel.{Channel}
use Rattle.faaslet_meaning.specs.declared.grant.Channel.TheVariants as a_channel
use Rattle.faaslet_meaning.specs.declared.grant.Grant.{Grant}
use Rattle.faaslet_meaning.specs.Channels.{Question, ask, fills, pulls, pushes, Transcript, counts, told_by}

-- a number that rises stands still here
abbrev pub most : ℕ
most = 2 ^ 64 - 1

-- one number for each channel: the replica and the global value of each grant in order, and last the table
abbrev pub counted : List Grant → Transcript → List ℕ
counted grants transcript = map (λ n. min n most) (counts grants (told_by transcript))

-- the channels on which the reply to a question is an entry
abbrev pub channels_of : Ask → List Channel
channels_of (an_ask.Region channel o) = channel ∷ []
channels_of (an_ask.Move key kind) = a_channel.Local key ∷ a_channel.Global key ∷ []
channels_of (an_ask.Submit f len) = a_channel.Table ∷ []
channels_of (an_ask.Look child) = a_channel.Table ∷ []

abbrev pub channels_asked : Question → List Channel
channels_asked (ask channel o) = channel ∷ []
channels_asked (fills key size) = a_channel.Local key ∷ a_channel.Global key ∷ []
channels_asked (pulls key off len) = a_channel.Local key ∷ a_channel.Global key ∷ []
channels_asked (pushes key off len) = a_channel.Local key ∷ a_channel.Global key ∷ []

-- a call that was submitted and for which there was no memory is no entry
abbrev pub is_answer : Reply → Bool
is_answer replies.Want = false
is_answer _ = true

-- the place of a key in the grants
abbrev pub place_of : List Grant → ℕ → Option ℕ
place_of grants key = position_from (λ g. g.key == key) 0 grants

-- which of the numbers is that of a channel
abbrev pub place_on : List Grant → Channel → Option ℕ
place_on grants (a_channel.Local key) = option_map (λ i. 2 * i) (place_of grants key)
place_on grants (a_channel.Global key) = option_map (λ i. 2 * i + 1) (place_of grants key)
place_on grants a_channel.Table = Some (2 * length grants)

-- one more there
abbrev pub raised_at : Option ℕ → List ℕ → List ℕ
raised_at None numbers = numbers
raised_at (Some i) numbers = slice_set numbers i (min (slice_index numbers i + 1) most)

abbrev pub raised : List Grant → Channel → List ℕ → List ℕ
raised grants channel numbers = raised_at (place_on grants channel) numbers

abbrev pub raised_all : List Grant → List Channel → List ℕ → List ℕ
raised_all grants [] numbers = numbers
raised_all grants (c ∷ cs) numbers = raised_all grants cs (raised grants c numbers)

-- the numbers after the reply to a question
abbrev pub counted_on : List Grant → Ask → Reply → List ℕ → List ℕ
counted_on grants a r numbers = if is_answer r then raised_all grants (channels_of a) numbers else numbers
