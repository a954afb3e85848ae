use Rattle.std.proofs.Common.{◌≡◌, length, refl, subst, sym, true}
use Rattle.std.specs.Prelude.{◌==◌}
use Rattle.faaslet_meaning.specs.Lists.{passes_at}
use Rattle.faaslet_meaning.specs.Table.{callable}
use Rattle.faaslet_run.specs.declared.faaslet.Turn.TheVariants as turns
use Rattle.world_core.specs.Living.{world_of}
use Rattle.world_core.specs.declared.player.Place.TheVariants as place
use Rattle.world_core.proofs.Entering.{made_of}
use Rattle.world_core.proofs.Finishes.{counts_are, counts_fit, ended_so, is_open_there, output_short, table_finished}
use Rattle.world_core.proofs.Starts.{if_there, is_there}
use Rattle.world_core.proofs.Through.{at_seat, told_end}
use Rattle.world_core.proofs.running.Running.finish_told.Goals as goal

pub finish-requires-clause-open : goal.finish-requires-clause-open
finish-requires-clause-open c =
    let r = c.args.self.now in
    let s = c.requires.lives.settling in
    let w = world_of r in
    let there = at_seat w r.players.items c.args.seat c.index-player.result.now s.keeps.players c.requires.within c.index-player.ensures in
    is_open_there r.protos.now r.events.items w s.formed (made_of r s) r s.keeps c.index-player.result.now.call there.1.o there.1.open_so

pub finish-requires-clause-output : goal.finish-requires-clause-output
finish-requires-clause-output c =
    let r = c.args.self.now in
    let s = c.requires.lives.settling in
    let w = world_of r in
    let p = c.index-player.result.now in
    let there = at_seat w r.players.items c.args.seat p s.keeps.players c.requires.within c.index-player.ensures in
    let through = told_end w p c.args.outcome there.1 (if_there (λ p. p.place ≡ place.Told (turns.Ended c.args.outcome)) _ p there.0 c.requires.ended) in
    output_short r.protos.now r.events.items w s.formed (made_of r s) r s.keeps p.call there.1.o there.1.open_so p.faaslet c.args.outcome through c.used.result c.output.result.now c.counts.result.now (c.used.ensures _ _ _ _ _ through.ended.at refl) (c.output.ensures _ _ _ _ _ through.ended.at refl) (c.counts.ensures _ _ _ _ through.ended.at)

pub finish-requires-clause-counts : goal.finish-requires-clause-counts
finish-requires-clause-counts c =
    let r = c.args.self.now in
    let s = c.requires.lives.settling in
    let w = world_of r in
    let p = c.index-player.result.now in
    let there = at_seat w r.players.items c.args.seat p s.keeps.players c.requires.within c.index-player.ensures in
    let through = told_end w p c.args.outcome there.1 (if_there (λ p. p.place ≡ place.Told (turns.Ended c.args.outcome)) _ p there.0 c.requires.ended) in
    let counts = counts_are r.protos.now r.events.items w s.formed (made_of r s) r s.keeps p.call there.1.o there.1.open_so p.faaslet c.args.outcome through c.used.result c.output.result.now c.counts.result.now (c.used.ensures _ _ _ _ _ through.ended.at refl) (c.output.ensures _ _ _ _ _ through.ended.at refl) (c.counts.ensures _ _ _ _ through.ended.at) in
    subst (λ ns. passes_at (λ x. length ns == (callable r.table.table x.function).channels) r.table.table.records p.call ≡ true) (sym counts)
    (counts_fit r.protos.now r.events.items w s.formed (made_of r s) r s.keeps p.call there.1.o there.1.open_so)

pub returns : goal.returns
returns c =
    let r = c.args.self.now in
    let s = c.requires.lives.settling in
    let w = world_of r in
    let p = c.index-player.result.now in
    let there = at_seat w r.players.items c.args.seat p s.keeps.players c.requires.within c.index-player.ensures in
    let through = told_end w p c.args.outcome there.1 (if_there (λ p. p.place ≡ place.Told (turns.Ended c.args.outcome)) _ p there.0 c.requires.ended) in
    let counts = counts_are r.protos.now r.events.items w s.formed (made_of r s) r s.keeps p.call there.1.o there.1.open_so p.faaslet c.args.outcome through c.used.result c.output.result.now c.counts.result.now (c.used.ensures _ _ _ _ _ through.ended.at refl) (c.output.ensures _ _ _ _ _ through.ended.at refl) (c.counts.ensures _ _ _ _ through.ended.at) in
    let over = ended_so r.protos.now r.events.items w s.formed (made_of r s) r s.keeps p.call there.1.o there.1.open_so p.faaslet c.args.outcome through c.used.result c.output.result.now c.counts.result.now (c.used.ensures _ _ _ _ _ through.ended.at refl) (c.output.ensures _ _ _ _ _ through.ended.at refl) (c.counts.ensures _ _ _ _ through.ended.at) in
    is_there _ _ p there.0 (record {
      o = there.1.o;
      e = record { outcome = c.args.outcome; used = c.used.result; output = c.output.result.now };
      open_so = there.1.open_so;
      ended_so = over;
      table = table_finished r.protos.now r.events.items w s.formed (made_of r s) r s.keeps p.call there.1.o there.1.open_so c.args.outcome c.used.result c.output.result.now c.counts.result.now _ counts (c.finish.ensures.did.after_so p.call);
      rest = refl;
    })
