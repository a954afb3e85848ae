-- A seat that stands so is the next.
use Rattle.std.proofs.Common.{◌≡◌, ℕ, ◌+◌, ◌≤◌, Some, length, get_or, slice_get, drop, sym, ap, ◌∙◌, subst, arith}
use Rattle.world_core.proofs.Counting.{no_seat, standing, seat_found, seat_later, seat_not, seat_there}
use Rattle.world_core.proofs.floor.Floor.nth.Goals as goal
use Rattle.world_core.proofs.floor.Floor.nth.Goals.{then-stands+else-left-eq0, else-stands}

pub loop-seat-preserved : goal.loop-seat-preserved
loop-seat-preserved c =
    let items = c.args.self.now.open.items in
    let got = c.deref-seat-items.result.now in
    let at = λ (n : ℕ). slice_get (standing c.args.stand (drop (c.loop-seat.seat-index + 1) items)) n in
    elim c.if-stands.branch [
      | then-stands+else-left-eq0 w ↦ c.loop-seat.invariant ∙ (seat_later c.args.stand got items c.loop-seat.seat-index c.loop-seat.left no_seat c.deref-seat-items.ensures.value c.loop-seat-test.true (sym c.stands.ensures ∙ w.if-stands.true) (omega (arith, w.if-left-eq0.false)) ∙ ap at (sym w.left-is))
      | else-stands w ↦ c.loop-seat.invariant ∙ (seat_not c.args.stand got items c.loop-seat.seat-index c.loop-seat.left no_seat c.deref-seat-items.ensures.value c.loop-seat-test.true (sym c.stands.ensures ∙ w.if-stands.false) ∙ ap at (sym w.left-is))
    ]

pub returns-then-left-eq0 : goal.returns-then-left-eq0
returns-then-left-eq0 c s e =
    let items = c.args.self.now.open.items in
    let got = c.deref-seat-items.result.now in
    let found = seat_found c.args.stand got items c.loop-seat.seat-index no_seat c.deref-seat-items.ensures.value c.loop-seat-test.true (sym c.stands.ensures ∙ c.if-stands.true) in
    let here : Some (get_or got c.loop-seat.seat-index no_seat) ≡ Some s = sym found ∙ (ap (λ n. slice_get (standing c.args.stand (drop c.loop-seat.seat-index items)) n) (sym c.if-left-eq0.true) ∙ (sym c.loop-seat.invariant ∙ e)) in
    cc

pub unreachable-requires : goal.unreachable-requires
unreachable-requires c =
    let end = subst (λ ys. length ys ≤ c.loop-seat.seat-index) c.deref-seat-items.ensures.value c.loop-seat-test.false in
    seat_there c.args.stand c.args.self.now.open.items c.args.n c.loop-seat.seat-index c.loop-seat.left c.requires end c.loop-seat.invariant
