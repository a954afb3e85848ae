-- The questions that a shared piece of a buffer is asked with. This project's own.
use Rattle.std.specs.Prelude.{ℕ}
use Rattle.faaslet_meaning.specs.declared.ask.Ask.{Ask}
use Rattle.faaslet_meaning.specs.declared.ask.Ask.TheVariants as an_ask
use Rattle.faaslet_meaning.specs.declared.ask.AskOp.TheVariants as op
use Rattle.faaslet_meaning.specs.declared.grant.Channel.TheVariants as a_channel
use Rattle.host_calls.specs.declared.span.Shared.{Shared}

abbrev pub reading_ask : ℕ → Shared → Ask
reading_ask key piece = an_ask.Region (a_channel.Local key) (op.Read piece.off piece.len)

abbrev pub writing_ask : ℕ → Shared → Ask
writing_ask key piece = an_ask.Region (a_channel.Local key) (op.Write piece.off piece.len)
