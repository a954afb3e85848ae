use Rattle.std.proofs.Common.{◌≡◌, ◌<◌, ap, arith, length, subst, sym, true, ◌∙◌}
use Rattle.std.specs.Prelude.{IfSome}
use Rattle.world_core.specs.Ending.{is_through}
use Rattle.world_core.specs.Living.{world_of}
use Rattle.world_core.proofs.Through.{may_end, may_not_end, player_there}
use Rattle.world_core.proofs.Whys.{says_not_open}
use Rattle.world_core.proofs.running.Running.seat_to_end.Goals as goal

pub returns-in_default-clause-kept_back : goal.returns-in_default-clause-kept_back
returns-in_default-clause-kept_back c =
    let r = c.args.self.now in
    let keeps = c.requires.lives.settling.keeps in
    let w = world_of r in
    let many = ap (λ t. length t.records) keeps.table in
    let l : c.args.call < length w.table.records = omega (arith, many) in
    (says_not_open w (λ p. p.call) r.players.items c.args.call (keeps.numbers ∙ keeps.floor.open_so) l (sym c.in_default.ensures)).1

pub returns-then-is_through-clause-through : goal.returns-then-is_through-clause-through
returns-then-is_through-clause-through c =
    let r = c.args.self.now in
    let there = player_there (world_of r) r.players.items c.requires.lives.settling.keeps.players c.args.call c.in-Some.seat (sym c.in-Some.ensures) c.index.result.now in
    subst (λ o. IfSome o (λ p. is_through p.place ≡ true)) (sym there.0) (ap (λ p. is_through p.place) (sym c.index.ensures) ∙ sym c.is_through.ensures ∙ c.if-is_through.true)

pub returns-then-is_through-clause-free : goal.returns-then-is_through-clause-free
returns-then-is_through-clause-free c =
    let r = c.args.self.now in
    let keeps = c.requires.lives.settling.keeps in
    let w = world_of r in
    let many = ap (λ t. length t.records) keeps.table in
    let l : c.args.call < length w.table.records = omega (arith, many) in
    may_end w r.players.items keeps.players c.args.call c.in-Some.seat (sym c.in-Some.ensures) c.index.result.now l (ap (λ p. is_through p.place) (sym c.index.ensures) ∙ sym c.is_through.ensures ∙ c.if-is_through.true)

pub returns-else-is_through-clause-kept_back : goal.returns-else-is_through-clause-kept_back
returns-else-is_through-clause-kept_back c =
    let r = c.args.self.now in
    let keeps = c.requires.lives.settling.keeps in
    let w = world_of r in
    let many = ap (λ t. length t.records) keeps.table in
    let l : c.args.call < length w.table.records = omega (arith, many) in
    may_not_end w r.players.items keeps.players c.args.call c.in-Some.seat (sym c.in-Some.ensures) c.index.result.now l (ap (λ p. is_through p.place) (sym c.index.ensures) ∙ sym c.is_through.ensures ∙ c.if-is_through.false)
