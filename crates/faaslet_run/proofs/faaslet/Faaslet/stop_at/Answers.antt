use Rattle.std.proofs.Common.{List, sym, ap, ◌∙◌}
use Rattle.faaslet_meaning.specs.declared.grant.Grant.{Grant}
use Rattle.faaslet_run.specs.Hosts.{piece_of}
use Rattle.faaslet_run.proofs.Ending.{stopped_asks}
use Rattle.faaslet_run.proofs.Replying.{own_grants, was_called}
use Rattle.faaslet_run.proofs.faaslet.Faaslet.stop_at.Goals as goal

pub called-called-requires : goal.called-called-requires
called-called-requires c = (let (j, start, t, p, h) = c.requires in was_called c.args.self.now.called c.args.self.now.input j h.amidst.called)

pub piece_ask-ask-requires : goal.piece_ask-ask-requires
piece_ask-ask-requires c = (let (j, start, t, p, h) = c.requires in h.near)

pub returns-clause-goes : goal.returns-clause-goes
returns-clause-goes c = λ j start t p h.
    let f = c.args.self.now in
    let grants = own_grants f.called f.input j c.called-called.result h.amidst.called c.called-called.ensures in
    stopped_asks f j start t p c.args.piece c.piece_ask-ask.result h (c.piece_ask-ask.ensures ∙ ap (λ (gs : List Grant). piece_of gs c.args.piece) (c.as_slice.ensures ∙ sym grants))
