-- Behind the Takes come the Asks, and behind those the Ends.
use Rattle.std.proofs.Common.{◌≤◌, ◌<◌, ◌-◌, ◌*◌, sym, subst}
use Rattle.world_core.proofs.Counting.{ask_here, end_here, end_within, takes_count}
use Rattle.world_core.proofs.floor.Floor.behind_takes.Goals as goal

pub overflow_sub-i : goal.overflow_sub-i
overflow_sub-i c = subst (λ n. n ≤ c.args.i) (sym (takes_count c.args.self.now c.takes.result c.takes.ensures.count)) c.requires.behind

pub nth-requires-else-i-asks : goal.nth-requires-else-i-asks
nth-requires-else-i-asks c =
    end_within c.args.self.now c.args.i _ c.standing-asks.result (record {
      takes = takes_count c.args.self.now c.takes.result c.takes.ensures.count;
      asks = c.standing-asks.ensures.count;
      behind_takes = c.requires.behind;
      behind_asks = c.if-i-asks.false;
      within = c.requires.within;
    })

pub returns-then-i-asks : goal.returns-then-i-asks
returns-then-i-asks c =
    ask_here c.args.self.now c.args.i _ c.nth.result (takes_count c.args.self.now c.takes.result c.takes.ensures.count) c.requires.behind (subst (λ n. c.args.i - c.takes.result * c.args.self.now.hosts < n) c.standing-asks.ensures.count c.if-i-asks.true) c.nth.ensures

pub returns-else-i-asks : goal.returns-else-i-asks
returns-else-i-asks c =
    end_here c.args.self.now c.args.i _ c.standing-asks.result c.nth-else-i-asks.result (record {
      takes = takes_count c.args.self.now c.takes.result c.takes.ensures.count;
      asks = c.standing-asks.ensures.count;
      behind_takes = c.requires.behind;
      behind_asks = c.if-i-asks.false;
      within = c.requires.within;
    }) c.nth-else-i-asks.ensures
