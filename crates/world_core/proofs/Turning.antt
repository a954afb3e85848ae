-- Where a Faaslet is after it began, and after a reply, is where the open call of a world is.
use Rattle.std.proofs.Common.{◌≡◌, ℕ, List, [], ◌∷◌, ◌++◌, refl}
use Rattle.std.specs.Prelude.{IsTrue}
use Rattle.faaslet_meaning.specs.Call.{fits}
use Rattle.faaslet_meaning.specs.CallState.{State, asks, fresh_state, over, runs}
use Rattle.faaslet_meaning.specs.Channels.{Question, Reply, Transcript, entries}
use Rattle.faaslet_meaning.specs.Configuration.{Configuration}
use Rattle.faaslet_meaning.specs.Fresh.{Function, fresh, makes}
use Rattle.faaslet_meaning.specs.Goes.{Goes}
use Rattle.faaslet_meaning.specs.Runs.{invocation}
use Rattle.faaslet_run.specs.declared.faaslet.Faaslet.{Faaslet}
use Rattle.faaslet_run.specs.declared.faaslet.Turn.{Turn}
use Rattle.faaslet_run.specs.declared.faaslet.Turn.TheVariants as turns
use Rattle.faaslet_run.specs.Turns.{Tells}
use Rattle.session_meaning.specs.OpenCall.{Open, answered, opened}
use Rattle.world_core.specs.Opened.{AtTurn, Tallies}
use Rattle.world_core.proofs.Resting.{counts_on, machine_first, rest_on}

-- ---- From its first step on.

pub begun : (g : Function) (input : List ℕ) (host : ℕ) (c : Configuration) (f : Faaslet) (t : Turn) → fresh g ≡ makes c → c.fuel ≡ g.fuel → Tells t f (invocation g input) (fresh_state c) [] → AtTurn (opened g input host) f t
begun g input host c f (turns.Asks a) made fuel told =
    record {
      start = fresh_state c;
      transcript = [];
      asked = told;
      machine = machine_first g input c (asks told.state told.question) made tt told.at.way;
      tallies = record { fuel = fuel; counts_so = refl };
    }
begun g input host c f (turns.Ended o) made fuel told =
    record {
      start = fresh_state c;
      transcript = [];
      ended = told;
      machine = machine_first g input c (over told.state o) made tt told.at.way;
      tallies = record { fuel = fuel; counts_so = refl };
    }

-- ---- After a reply.

module _ (o : Open) (start : State) (t : Transcript) (s : State) (q : Question) (r : Reply) (way : Goes o.invocation (runs start) t (asks s q)) (fit : IsTrue (fits s q r)) (tallies : Tallies o start t) where
  tallies_on : Tallies (answered o s r (entries q r)) start (t ++ (q, r) ∷ [])
  tallies_on = record { fuel = tallies.fuel; counts_so = counts_on o start t s q r way fit tallies.counts_so }

  pub answered_on : (f : Faaslet) (turn : Turn) → Tells turn f o.invocation start (t ++ (q, r) ∷ []) → AtTurn (answered o s r (entries q r)) f turn
  answered_on f (turns.Asks a) told =
      record {
        start = start;
        transcript = t ++ (q, r) ∷ [];
        asked = told;
        machine = rest_on o start t s q r way fit (asks told.state told.question) tt told.at.way;
        tallies = tallies_on;
      }
  answered_on f (turns.Ended end) told =
      record {
        start = start;
        transcript = t ++ (q, r) ∷ [];
        ended = told;
        machine = rest_on o start t s q r way fit (over told.state end) tt told.at.way;
        tallies = tallies_on;
      }
