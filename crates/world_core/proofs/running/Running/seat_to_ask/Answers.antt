-- The first reason why an Ask may not stand, by a search of the open calls, by where the call is, and by what keeps it back.
use Rattle.std.proofs.Common.{◌≡◌, ◌<◌, None, Some, length, slice_get, sym, ap, ◌∙◌, subst, arith}
use Rattle.std.specs.Prelude.{IfSome, option_map}
use Rattle.std.proofs.lemmas.Option.{same_Some}
use Rattle.session_meaning.specs.SessionReport as report
use Rattle.session_report.specs.Told as told
use Rattle.world_core.specs.Asking.{AsksAt}
use Rattle.world_core.specs.Living.{world_of}
use Rattle.world_core.specs.declared.player.Player.{Player}
use Rattle.world_core.proofs.KeptBack.{asks_at}
use Rattle.world_core.proofs.Seats.{has_ended, kept_back_by, not_open, player_at}
use Rattle.world_core.proofs.running.Running.seat_to_ask.Goals as goal

pub returns-in_default-clause-kept_back : goal.returns-in_default-clause-kept_back
returns-in_default-clause-kept_back c =
    let r = c.args.self.now in
    let there : c.args.call < length r.table.table.records = omega (arith, c.calls.ensures, c.if-call-calls.false) in
    not_open r c.requires.lives c.args.call there (sym c.seat_of.ensures ∙ c.in_default.is)

pub returns-in_default-question-clause-kept_back : goal.returns-in_default-question-clause-kept_back
returns-in_default-question-clause-kept_back c =
    let r = c.args.self.now in
    let there : c.args.call < length r.table.table.records = omega (arith, c.calls.ensures, c.if-call-calls.false) in
    let p = c.index.result.now in
    let at = sym c.seat_of.ensures ∙ c.in-Some.is in
    has_ended r c.requires.lives c.args.call c.in-Some.seat at p (player_at r c.requires.lives c.args.call c.in-Some.seat at p c.index.ensures) there (sym c.question.ensures ∙ c.in_default-question.is)

pub returns-in-None-clause-asks : goal.returns-in-None-clause-asks
returns-in-None-clause-asks c x e =
    let r = c.args.self.now in
    let p = c.index.result.now in
    let here = player_at r c.requires.lives c.args.call c.in-Some.seat (sym c.seat_of.ensures ∙ c.in-Some.is) p c.index.ensures in
    subst (λ (x : Player). AsksAt x c.in-Some-question.ask) (same_Some _ _ (sym here ∙ e)) (asks_at p.place c.in-Some-question.ask (sym c.question.ensures ∙ c.in-Some-question.is))

pub returns-in-None-clause-free : goal.returns-in-None-clause-free
returns-in-None-clause-free c =
    let r = c.args.self.now in
    let there : c.args.call < length r.table.table.records = omega (arith, c.calls.ensures, c.if-call-calls.false) in
    let p = c.index.result.now in
    let at = sym c.seat_of.ensures ∙ c.in-Some.is in
    let here = player_at r c.requires.lives c.args.call c.in-Some.seat at p c.index.ensures in
    kept_back_by r c.requires.lives c.args.call c.in-Some.seat at p c.in-Some-question.ask None here there (sym c.question.ensures ∙ c.in-Some-question.is)
    (subst (λ o. IfSome (slice_get r.players.items c.in-Some.seat) (λ p. option_map told.obstacle_of o ≡ report.obstacle_of (world_of r) p.call)) c.in-None.is c.obstacle.ensures)

pub returns-in-Some-obstacle-clause-kept_back : goal.returns-in-Some-obstacle-clause-kept_back
returns-in-Some-obstacle-clause-kept_back c =
    let r = c.args.self.now in
    let there : c.args.call < length r.table.table.records = omega (arith, c.calls.ensures, c.if-call-calls.false) in
    let p = c.index.result.now in
    let at = sym c.seat_of.ensures ∙ c.in-Some.is in
    let here = player_at r c.requires.lives c.args.call c.in-Some.seat at p c.index.ensures in
    kept_back_by r c.requires.lives c.args.call c.in-Some.seat at p c.in-Some-question.ask (Some (told.obstacle_of c.in-Some-obstacle.obstacle)) here there (sym c.question.ensures ∙ c.in-Some-question.is)
    (subst (λ o. IfSome (slice_get r.players.items c.in-Some.seat) (λ p. option_map told.obstacle_of o ≡ report.obstacle_of (world_of r) p.call)) c.in-Some-obstacle.is c.obstacle.ensures)
    ∙ ap (λ x. Some x) (sym c.reason_of.ensures)
