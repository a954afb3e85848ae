use Rattle.std.proofs.Common.{List, length, sym, ap, ◌∙◌}
use Rattle.faaslet_meaning.specs.declared.grant.Grant.{Grant}
use Rattle.faaslet_run.specs.Hosts.{unlock_of}
use Rattle.host_calls.specs.Known.{first_lock}
use Rattle.faaslet_run.proofs.Ending.{ended_asks, ended_granted, ended_over}
use Rattle.faaslet_run.proofs.Releasing.{first_is, none_is}
use Rattle.faaslet_run.proofs.Replying.{own_grants, was_called}
use Rattle.faaslet_run.proofs.faaslet.Faaslet.end.Goals as goal

pub returns-in-None-clause-goes : goal.returns-in-None-clause-goes
returns-in-None-clause-goes c = λ j start t p h.
    let f = c.args.self.now in
    let told = c.next_lock.ensures.released h.state (length j.program.grants) h.keeps.keys_are h.amidst.called.allowed.few (ended_granted f j start t p c.args.outcome h) in
    ended_over f j start t p c.args.outcome h (none_is h.left (ap first_lock h.locks ∙ sym told ∙ c.in-None.is))

pub called-called-requires : goal.called-called-requires
called-called-requires c = (let (j, start, t, p, h) = c.requires in was_called c.args.self.now.called c.args.self.now.input j h.amidst.called)

pub returns-in-Some-clause-goes : goal.returns-in-Some-clause-goes
returns-in-Some-clause-goes c = λ j start t p h.
    let f = c.args.self.now in
    let w = c.in-Some in
    let told = c.next_lock.ensures.released h.state (length j.program.grants) h.keeps.keys_are h.amidst.called.allowed.few (ended_granted f j start t p c.args.outcome h) in
    let (rest, left) = first_is h.left w.place w.local (ap first_lock h.locks ∙ sym told ∙ w.is) in
    let grants = own_grants f.called f.input j c.called-called.result h.amidst.called c.called-called.ensures in
    ended_asks f j start t p c.args.outcome w.place w.local c.unlock_ask-ask.result rest h left (c.unlock_ask-ask.ensures ∙ ap (λ (gs : List Grant). unlock_of gs w.place w.local) (c.as_slice.ensures ∙ sym grants))
