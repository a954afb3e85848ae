use Rattle.std.proofs.Common.{◌≤◌, [], ap, arith, refl, replicate, sym, ◌∙◌}
use Rattle.faaslet_meaning.specs.declared.outcome.Outcome.TheVariants as outcome
use Rattle.faaslet_meaning.specs.Table.{callable}
use Rattle.world_core.specs.Living.{world_of}
use Rattle.world_core.proofs.Entering.{made_of}
use Rattle.world_core.proofs.Finishes.{broken_ended, call_there, few_channels, is_open_there, no_counts, table_finished, take_zeros}
use Rattle.world_core.proofs.running.Running.finish_broken.Goals as goal

pub shared_ref_as_front-counts : goal.shared_ref_as_front-counts
shared_ref_as_front-counts c =
    let r = c.args.self.now in
    let s = c.requires.lives.settling in
    let w = world_of r in
    let b = c.requires.broken in
    let made = made_of r s in
    let same = call_there r.protos.now r.events.items w s.formed made r s.keeps c.args.call b.o b.open_so c.record_of.result.now c.record_of.ensures.there in
    let is = ap (λ k. k.channels) c.callable-channels.ensures ∙ ap (λ x. (callable r.table.table x.function).channels) same in
    let few = few_channels r.protos.now r.events.items w s.formed made r s.keeps c.args.call b.o b.open_so in
    omega (arith, is, few)

pub finish-requires-clause-open : goal.finish-requires-clause-open
finish-requires-clause-open c =
    let r = c.args.self.now in
    let s = c.requires.lives.settling in
    let b = c.requires.broken in
    is_open_there r.protos.now r.events.items (world_of r) s.formed (made_of r s) r s.keeps c.args.call b.o b.open_so

pub returns : goal.returns
returns c =
    let r = c.args.self.now in
    let s = c.requires.lives.settling in
    let w = world_of r in
    let b = c.requires.broken in
    let made = made_of r s in
    let same = call_there r.protos.now r.events.items w s.formed made r s.keeps c.args.call b.o b.open_so c.record_of.result.now c.record_of.ensures.there in
    let is = ap (λ k. k.channels) c.callable-channels.ensures ∙ ap (λ x. (callable r.table.table x.function).channels) same in
    let few = few_channels r.protos.now r.events.items w s.formed made r s.keeps c.args.call b.o b.open_so in
    let short : c.callable-channels.result.channels ≤ 65 = omega (arith, is, few) in
    let none = no_counts r.protos.now r.events.items w s.formed made r s.keeps c.args.call b.o b.open_so c.args.kind b.machine in
    record {
      o = b.o;
      e = record { outcome = outcome.Broken c.args.kind; used = 0; output = [] };
      open_so = b.open_so;
      ended_so = broken_ended r.protos.now r.events.items w s.formed made r s.keeps c.args.call b.o b.open_so c.args.kind b.machine;
      table = table_finished r.protos.now r.events.items w s.formed made r s.keeps c.args.call b.o b.open_so (outcome.Broken c.args.kind) 0 [] _ _ (take_zeros c.callable-channels.result.channels 65 short ∙ ap (λ n. replicate n 0) is ∙ sym none) (c.finish.ensures.did.after_so c.args.call);
      rest = refl;
    }
