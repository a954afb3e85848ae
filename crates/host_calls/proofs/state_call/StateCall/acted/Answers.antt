use Rattle.std.proofs.Common.{◌≡◌, Some, None, ap, arith, sym, subst, ◌∙◌}
use Rattle.std.specs.Prelude.{Ok, Err}
use Rattle.faaslet_meaning.specs.declared.outcome.Trap.TheVariants.{AppendFull}
use Rattle.faaslet_meaning.specs.Asks.{RepliesAs}
use Rattle.host_calls.specs.Buffers.{IsWithin}
use Rattle.host_calls.specs.Known.{locked_at, unlocked_at}
use Rattle.host_calls.specs.States.{Here, here, IsOf, Shows, EndsIt, sends, acted, act_question}
use Rattle.host_calls.proofs.StateReplies.{read_acted, used_acted, append_acted, full_acted, given_acted, write, push, pull, lock_acted, unlock_acted, act_read, read_belongs, act_lock, act_unlock}
use Rattle.host_calls.proofs.StateSteps.{of_with}
use Rattle.host_calls.proofs.state_call.StateCall.acted.Goals as goal

pub put_aside-requires : goal.put_aside-requires
put_aside-requires g c =
    let w = c.in-Read-Bytes in
    let f = act_read c.args.act _ w.span c.args.place c.args.grants.now c.args.known.now _ c.requires.act w.is-0 in
    omega (arith, f.0.short, read_belongs c.args.act c.args.reply _ w.span w.len c.requires.reply w.is-0 w.is-1)

pub send_on-requires : goal.send_on-requires
send_on-requires g c =
    let shape = g.M.Linear.memory in
    let w = c.in-Read-Bytes in
    let f = act_read c.args.act _ w.span c.args.place c.args.grants.now c.args.known.now _ c.requires.act w.is-0 in
    record { within = subst (λ z. IsWithin (shape z.memory) w.span) (sym c.put_aside.ensures) f.1 }

pub returns-in-Read-Bytes-clause-shows : goal.returns-in-Read-Bytes-clause-shows
returns-in-Read-Bytes-clause-shows g c j s q answer same i e r =
    let shape = g.M.Linear.memory in
    let known = c.args.known.now in
    let h = here shape c.args.machine.now known in
    let d = c.put_aside.new.self in
    let w = c.in-Read-Bytes in
    let k = c.args.place in
    let qe = subst (λ a. act_question j s k a h.aside ≡ Some q) w.is-0 e in
    let said = subst (λ x. RepliesAs q x h.scratch answer) w.is-1 r in
    let f = act_read c.args.act _ w.span k c.args.grants.now known _ c.requires.act w.is-0 in
    let ne = read_belongs c.args.act c.args.reply _ w.span w.len c.requires.reply w.is-0 w.is-1 in
    let v = read_acted j s h k _ w.len w.span q answer i qe said ne f.0 c.requires.scratch c.requires.aside in
    let new = ap (λ z. here shape z known) c.put_aside.ensures in
    let own = subst (λ (y : Here). IsOf y s) (sym new) (of_with h s _ h.scratch i) in
    subst (λ y. Shows j s y c.send_on.result c.send_on.new.self.stage (here shape c.send_on.new.machine known))
    (sym (ap (λ a. acted j s h k a answer) w.is-0 ∙ v ∙ ap (λ y. sends j s y w.span) (sym new))) (c.send_on.ensures.shows j s known same own)

pub returns-in-Write-Done-clause-shows : goal.returns-in-Write-Done-clause-shows
returns-in-Write-Done-clause-shows g c j s q answer same i e r =
    let shape = g.M.Linear.memory in
    let h = here shape c.args.machine.now c.args.known.now in
    let w = c.in-Write-Done in
    let k = c.args.place in
    let qe = subst (λ a. act_question j s k a h.aside ≡ Some q) w.is-0 e in
    let said = subst (λ x. RepliesAs q x h.scratch answer) w.is-1 r in
    subst (λ a. EndsIt s (acted j s h k a answer) (Ok None) h) (sym w.is-0) (given_acted j s h k _ q answer (write _ _) i qe said)

pub returns-in-Push-Done-clause-shows : goal.returns-in-Push-Done-clause-shows
returns-in-Push-Done-clause-shows g c j s q answer same i e r =
    let shape = g.M.Linear.memory in
    let h = here shape c.args.machine.now c.args.known.now in
    let w = c.in-Push-Done in
    let k = c.args.place in
    let qe = subst (λ a. act_question j s k a h.aside ≡ Some q) w.is-0 e in
    let said = subst (λ x. RepliesAs q x h.scratch answer) w.is-1 r in
    subst (λ a. EndsIt s (acted j s h k a answer) (Ok None) h) (sym w.is-0) (given_acted j s h k _ q answer (push _ _) i qe said)

pub returns-in-Pull-Done-clause-shows : goal.returns-in-Pull-Done-clause-shows
returns-in-Pull-Done-clause-shows g c j s q answer same i e r =
    let shape = g.M.Linear.memory in
    let h = here shape c.args.machine.now c.args.known.now in
    let w = c.in-Pull-Done in
    let k = c.args.place in
    let qe = subst (λ a. act_question j s k a h.aside ≡ Some q) w.is-0 e in
    let said = subst (λ x. RepliesAs q x h.scratch answer) w.is-1 r in
    subst (λ a. EndsIt s (acted j s h k a answer) (Ok None) h) (sym w.is-0) (given_acted j s h k _ q answer (pull _ _) i qe said)

pub returns-in-Used-Number-clause-shows : goal.returns-in-Used-Number-clause-shows
returns-in-Used-Number-clause-shows g c j s q answer same i e r =
    let shape = g.M.Linear.memory in
    let h = here shape c.args.machine.now c.args.known.now in
    let w = c.in-Used-Number in
    let k = c.args.place in
    let qe = subst (λ a. act_question j s k a h.aside ≡ Some q) w.is-0 e in
    let said = subst (λ x. RepliesAs q x h.scratch answer) w.is-1 r in
    subst (λ n. EndsIt s (acted j s h k c.args.act answer) (Ok (Some n)) h) (sym c.from.ensures)
    (subst (λ a. EndsIt s (acted j s h k a answer) (Ok (Some w.used)) h) (sym w.is-0) (used_acted j s h k w.used q answer i qe said))

pub returns-in-Append-Number-clause-shows : goal.returns-in-Append-Number-clause-shows
returns-in-Append-Number-clause-shows g c j s q answer same i e r =
    let shape = g.M.Linear.memory in
    let h = here shape c.args.machine.now c.args.known.now in
    let w = c.in-Append-Number in
    let k = c.args.place in
    let qe = subst (λ a. act_question j s k a h.aside ≡ Some q) w.is-0 e in
    let said = subst (λ x. RepliesAs q x h.scratch answer) w.is-1 r in
    subst (λ n. EndsIt s (acted j s h k c.args.act answer) (Ok (Some n)) h) (sym c.from-in-Append-Number.ensures)
    (subst (λ a. EndsIt s (acted j s h k a answer) (Ok (Some w.used)) h) (sym w.is-0) (append_acted j s h k _ w.used q answer i qe said))

pub returns-in-Append-Full-clause-shows : goal.returns-in-Append-Full-clause-shows
returns-in-Append-Full-clause-shows g c j s q answer same i e r =
    let shape = g.M.Linear.memory in
    let h = here shape c.args.machine.now c.args.known.now in
    let w = c.in-Append-Full in
    let k = c.args.place in
    let qe = subst (λ a. act_question j s k a h.aside ≡ Some q) w.is-0 e in
    let said = subst (λ x. RepliesAs q x h.scratch answer) w.is-1 r in
    subst (λ a. EndsIt s (acted j s h k a answer) (Err AppendFull) h) (sym w.is-0) (full_acted j s h k _ q answer i qe said)

pub returns-in-Lock-Done-clause-shows : goal.returns-in-Lock-Done-clause-shows
returns-in-Lock-Done-clause-shows g c j s q answer same i e r =
    let shape = g.M.Linear.memory in
    let m = c.args.machine.now in
    let known = c.args.known.now in
    let h = here shape m known in
    let w = c.in-Lock-Done in
    let k = c.args.place in
    let few = c.requires.few in
    let qe = subst (λ a. act_question j s k a h.aside ≡ Some q) w.is-0 e in
    let said = subst (λ x. RepliesAs q x h.scratch answer) w.is-1 r in
    let f = act_lock c.args.act w.tier _ k c.args.grants.now known _ c.requires.act w.is-0 in
    let v = lock_acted j s h k w.tier _ q answer (omega (arith, few, c.requires.act.place)) f.0 i qe said in
    subst (λ y. EndsIt s (acted j s h k c.args.act answer) (Ok None) (here shape m y)) (sym c.lock.ensures)
    (subst (λ a. EndsIt s (acted j s h k a answer) (Ok None) (here shape m (locked_at known k w.tier))) (sym w.is-0) v)

pub returns-in-Unlock-Done-clause-shows : goal.returns-in-Unlock-Done-clause-shows
returns-in-Unlock-Done-clause-shows g c j s q answer same i e r =
    let shape = g.M.Linear.memory in
    let m = c.args.machine.now in
    let known = c.args.known.now in
    let h = here shape m known in
    let w = c.in-Unlock-Done in
    let k = c.args.place in
    let few = c.requires.few in
    let qe = subst (λ a. act_question j s k a h.aside ≡ Some q) w.is-0 e in
    let said = subst (λ x. RepliesAs q x h.scratch answer) w.is-1 r in
    let f = act_unlock c.args.act w.tier k c.args.grants.now known _ c.requires.act w.is-0 in
    let v = unlock_acted j s h k w.tier q answer (omega (arith, few, c.requires.act.place)) f i qe said in
    subst (λ y. EndsIt s (acted j s h k c.args.act answer) (Ok None) (here shape m y)) (sym c.unlock.ensures)
    (subst (λ a. EndsIt s (acted j s h k a answer) (Ok None) (here shape m (unlocked_at known k w.tier))) (sym w.is-0) v)
