use Rattle.std.proofs.Common.{◌++◌, ◌∷◌, [], List, ap, sym, ◌∙◌, subst}
use Rattle.faaslet_meaning.specs.declared.grant.Grant.{Grant}
use Rattle.faaslet_meaning.specs.CallState.{asks}
use Rattle.faaslet_run.specs.Counted.{counted_on}
use Rattle.faaslet_run.specs.Hosts.{HasReply}
use Rattle.faaslet_run.specs.declared.faaslet.Faaslet.{Faaslet}
use Rattle.region_map.specs.Segments.{Segmented}
use Rattle.wasm_interp.specs.declared.machine.Machine.{Machine}
use Rattle.faaslet_run.proofs.Standing.{at_asks, scratch_stands}
use Rattle.faaslet_run.proofs.Replying.{counts_long, has_reply, own_allowed, was_called}
use Rattle.faaslet_run.proofs.faaslet.Faaslet.answer.Goals as goal

-- with the bytes of the reply in the machine's scratch
abbrev given : Faaslet → Faaslet
given f = record f { machine = record f.machine { scratch = f.scratch } }

pub count-requires-clause-called : goal.count-requires-clause-called
count-requires-clause-called c = (let (j, start, t, s, q, r, a, rep, fit) = c.requires.at in was_called c.args.self.now.called c.args.self.now.input j a.called)

pub count-requires-clause-few : goal.count-requires-clause-few
count-requires-clause-few c = λ x e. (let (j, start, t, s, q, r, a, rep, fit) = c.requires.at in (own_allowed c.args.self.now.called c.args.self.now.input j x a.called e).few)

pub count-requires-clause-long : goal.count-requires-clause-long
count-requires-clause-long c = λ x e. (let (j, start, t, s, q, r, a, rep, fit) = c.requires.at in counts_long c.args.self.now j start t (asks s q) x a e)

pub after-requires : goal.after-requires
after-requires c =
    let (j, start, t, s, q, r, a, rep, fit) = c.requires.at in
    let f = given c.args.self.now in
    let k = c.in-Asks in
    let b = scratch_stands c.args.self.now j start t (asks s q) c.args.self.now.scratch a in
    let w = at_asks f j start.config.fuel (asks s q) k.work k.ask k.is b.stage in
    let counts = c.count.new.self.counts in
    let own = c.count.ensures.counts a.called.called a.called.is_called ∙ ap (λ (gs : List Grant). counted_on gs k.ask c.args.reply f.counts) a.called.grants in
    (j, start, t ++ (q, r) ∷ [], s, q, r, subst (λ (x : Faaslet). HasReply x j start (t ++ (q, r) ∷ []) s q r k.work c.args.reply) (ap (λ (m : Machine Segmented). (let x : Faaslet = record f { machine = m; counts = counts } in x)) (sym c.give_scratch.ensures) ∙ sym c.count.ensures.only) (has_reply f j start t s q r k.work k.ask c.args.reply b w rep fit counts own))

pub returns-clause-answered : goal.returns-clause-answered
returns-clause-answered c = λ j start t s q r a rep fit.
    let f = given c.args.self.now in
    let k = c.in-Asks in
    let b = scratch_stands c.args.self.now j start t (asks s q) c.args.self.now.scratch a in
    let w = at_asks f j start.config.fuel (asks s q) k.work k.ask k.is b.stage in
    let counts = c.count.new.self.counts in
    let own = c.count.ensures.counts a.called.called a.called.is_called ∙ ap (λ (gs : List Grant). counted_on gs k.ask c.args.reply f.counts) a.called.grants in
    c.after.ensures.goes j start (t ++ (q, r) ∷ []) s q r (subst (λ (x : Faaslet). HasReply x j start (t ++ (q, r) ∷ []) s q r k.work c.args.reply) (ap (λ (m : Machine Segmented). (let x : Faaslet = record f { machine = m; counts = counts } in x)) (sym c.give_scratch.ensures) ∙ sym c.count.ensures.only) (has_reply f j start t s q r k.work k.ask c.args.reply b w rep fit counts own))
