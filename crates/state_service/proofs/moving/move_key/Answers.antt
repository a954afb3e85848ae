-- What is known between two turns, and what the last ones leave.
use Rattle.state_service.proofs.Moves.{moved_later}
use Rattle.state_service.proofs.Turned.{not_yet, may_again, waits_more}
use Rattle.state_service.proofs.moving.move_key.Goals as goal

pub loop-init : goal.loop-init
loop-init g c = record { local = not_yet _ _ _ _ c.requires; global = not_yet _ _ _ _ c.requires.so }

pub try_move-requires : goal.try_move-requires
try_move-requires g c = may_again _ _ _ _ _ _ _ _ c.requires c.loop.invariant.local c.loop.invariant.global

pub loop-preserved : goal.loop-preserved
loop-preserved g c = record {
  local = waits_more _ _ _ _ _ c.loop.invariant.local (c.try_move.ensures.blocked_local c.if-try_move.false);
  global = waits_more _ _ _ _ _ c.loop.invariant.global (c.try_move.ensures.blocked_global c.if-try_move.false);
}

pub returns-then-try_move : goal.returns-then-try_move
returns-then-try_move g c = moved_later _ _ _ _ _ _ _ _ _ _ c.loop.invariant.local c.loop.invariant.global (c.try_move.ensures.made c.if-try_move.true)
