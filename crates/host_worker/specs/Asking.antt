-- A call that stands at a question, and what a turn of its bench comes to. This project's own.
use Rattle.std.specs.Prelude.{◌++◌, Option, Some, None}
use Rattle.faaslet_meaning.specs.declared.ask.Ask.{Ask}
use Rattle.faaslet_meaning.specs.declared.ask.Ask.TheVariants as an_ask
use Rattle.faaslet_meaning.specs.declared.grant.Channel.{Channel}
use Rattle.faaslet_meaning.specs.declared.grant.Channel.TheVariants as a_channel
use Rattle.faaslet_meaning.specs.Channels.{Transcript}
use Rattle.faaslet_run.specs.Turns.{AsksThis}
use Rattle.host_worker.specs.Busy.{Busy, Errand, Went, first_of, invocation_of}
use Rattle.host_worker.specs.Halts.{Halts}
use Rattle.host_worker.specs.declared.bench.Bench.{Bench}
use Rattle.host_worker.specs.declared.bench.Halt.{Halt}
use Rattle.host_worker.specs.declared.bench.Tiers.{Tiers}

-- the call on the bench has told this question, which isn't served yet
pub record Asking (tiers : Tiers) (b : Bench) (e : Errand) (t : Transcript) (a : Ask) : Type 0 where
  pub busy : Busy tiers b e t
  pub asks : AsksThis b.faaslet (invocation_of e) (first_of e) t a

-- it is one on shared state, or one on the call table
abbrev pub OnState : Ask → Type 0
OnState (an_ask.Region channel op) = Unit {0}
OnState (an_ask.Move key kind) = Unit {0}
OnState _ = ⊥

abbrev pub OnTable : Ask → Type 0
OnTable (an_ask.Submit function len) = Unit {0}
OnTable (an_ask.Look child) = Unit {0}
OnTable _ = ⊥

-- the channel of a question, of a transfer that of the replica
abbrev pub channel_asked : Ask → Channel
channel_asked (an_ask.Region channel op) = channel
channel_asked (an_ask.Move key kind) = a_channel.Local key
channel_asked (an_ask.Submit function len) = a_channel.Table
channel_asked (an_ask.Look child) = a_channel.Table

-- the call went on, by no question or by some, and halts there if a halt is told
abbrev pub Comes : Tiers → Bench → Errand → Transcript → Option Halt → Type 0
Comes tiers b e t None = Went tiers b e t
Comes tiers b e t (Some halt) = (w : Went tiers b e t) × Halts tiers b e (t ++ w.trail) halt
