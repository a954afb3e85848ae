-- No lock keeps the call from its operations, and a move is its two entries.
use Rattle.std.proofs.Common.{◌≡◌, IfSome, sym, ap, subst}
use Rattle.world_objects.specs.Served.{AreThere, question_at, size_at}
use Rattle.world_objects.proofs.Serving.{done_by, free_region, free_move, move_served}
use Rattle.world_objects.proofs.objects.Objects.serve.Goals as goal

pub apply-requires-clause-free : goal.apply-requires-clause-free
apply-requires-clause-free c x e =
    free_region c.args.self.now c.args.call c.args.host c.in-Region.channel c.in-Region.op c.args.scratch.now x (c.requires.free _ (ap (λ a. question_at c.args.self.now a c.args.scratch.now) c.in-Region.is)) e

pub move_between-requires-clause-free : goal.move_between-requires-clause-free
move_between-requires-clause-free c x e y f =
    free_move c.args.self.now c.args.call c.args.host c.in-Move.key (size_at c.args.self.now c.in-Move.key) c.in-Move.kind x y (c.requires.free _ (ap (λ a. question_at c.args.self.now a c.args.scratch.now) c.in-Move.is)) e f

pub returns-in_ok-move_between-in-Move-clause-after : goal.returns-in_ok-move_between-in-Move-clause-after
returns-in_ok-move_between-in-Move-clause-after c =
    let there = subst (λ a. AreThere c.args.self.now c.args.host a) c.in-Move.is c.requires.there in
    subst (λ a. IfSome (question_at c.args.self.now a c.args.scratch.now) (λ q. c.move_between.new.self ≡ done_by c.args.self.now c.args.call c.args.host q)) (sym c.in-Move.is)
    (move_served c.args.self.now c.move_between.new.self c.args.call c.args.host c.in-Move.key c.in-Move.kind there.0 there.1 c.in_ok-move_between-in-Move.ensures.after)
