-- The pass comes back to its slot, with the note's list in front of its own.
use Rattle.std.proofs.Common.{◌<◌, Some, None, length, slice_set, length-set, sym, ap, ◌∙◌, subst}
use Rattle.turn_cell.proofs.Frames.{there}
use Rattle.region_tier.specs.Tiers.{slots_of}
use Rattle.region_tier.proofs.At.{set_twice}
use Rattle.region_tier.proofs.cells.Tier.join.Goals as goal

pub cell-requires : goal.cell-requires
cell-requires c = there _ _ _ c.requires.at_cell

pub put_back-requires : goal.put_back-requires
put_back-requires c = let h = there _ _ _ c.requires.at_pass in
    subst (λ n. c.args.key < n) (sym (ap length c.take_out-pass.ensures.out ∙ length-set (slots_of c.args.passes.now) c.args.key None)) h

pub returns : goal.returns
returns c =
    record {
      cell = c.cell.result.now;
      before = c.take_out-pass.result;
      after = c.join.new.pass;
      at_cell = c.cell.ensures.at;
      at_before = c.take_out-pass.ensures.at;
      put = c.put_back.ensures ∙ (ap (λ l. slice_set l c.args.key (Some c.join.new.pass)) c.take_out-pass.ensures.out ∙ set_twice (slots_of c.args.passes.now) c.args.key None (Some c.join.new.pass));
      sits = c.join.ensures.cell.0;
      number = c.join.ensures.cell.1;
      makers = c.join.ensures.makers;
      so = (c.join.ensures.note, c.join.ensures.list);
    }
