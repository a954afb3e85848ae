-- The last cell that is left ends, with the passes that came back of it.
use Rattle.std.proofs.Common.{◌≡◌, ◌∷◌, [], length, refl, sym, ap, ◌∙◌, subst, arith, length-append}
use Rattle.std.proofs.lemmas.List.{append-nil, length-reverse}
use Rattle.std.specs.Vec.{vec_capacity}
use mathlib.Core.List.{IsPrefix}
use lib.ListN.{get_elem?}
use Rattle.turn_cell.specs.Cell.{numbers_of, pass_list, whole_list}
use Rattle.turn_cell.specs.History.{Each, Extends}
use Rattle.turn_cell.proofs.Frames.{there}
use Rattle.turn_cell.proofs.Places.{at_end, prefix_pop}
use Rattle.region_tier.specs.Opened.{IsOpened}
use Rattle.region_tier.specs.Tiers.{IsClosed, RegionPass, cells_of, slots_of}
use Rattle.region_tier.proofs.At.{same_in}
use Rattle.region_tier.proofs.Ending.{RowLeft, ClosedFrom, all_left, end_with_pass, came_back, are_passes, all_at, all_last, all_front, closes_one}
use Rattle.region_tier.proofs.cells.Tier.close.Goals as goal

pub loop-turns-init : goal.loop-turns-init
loop-turns-init c = let a = c.args.room.ending in let r = c.requires.room in record {
  cells = ([], append-nil c.args.self.cells.items);
  same = r.homes;
  homed = λ k h low. (c.args.room.homed k h low, r.makers k h low);
  ends = let n = ap length a in omega (arith, n);
  room = r.keys;
  long = refl;
  rows = all_left (cells_of c.args.self) c.args.self.numbers c.args.passes.items c.requires.passes;
  closed = λ k t e j is. absurd (let h = there (cells_of c.args.self) k t e in omega (arith, h, is));
}

pub gather-column-requires-clause-room : goal.gather-column-requires-clause-room
gather-column-requires-clause-room c = let i = c.loop-turns.invariant in
    let h = all_last (λ h. (h.items ≡ []) × (vec_capacity h ≡ c.args.self.numbers)) c.pop-in-Some.new.self.items c.in-Some-pop.home (rw c.in-Some-pop.ensures.items at i.homed) in
    h.1 ∙ (sym c.requires.passes.0 ∙ sym i.long)

pub gather-column-requires-clause-empty : goal.gather-column-requires-clause-empty
gather-column-requires-clause-empty c = let i = c.loop-turns.invariant in
    (all_last (λ h. (h.items ≡ []) × (vec_capacity h ≡ c.args.self.numbers)) c.pop-in-Some.new.self.items c.in-Some-pop.home (rw c.in-Some-pop.ensures.items at i.homed)).0

pub gather-column-requires-clause-there : goal.gather-column-requires-clause-there
gather-column-requires-clause-there c = let i = c.loop-turns.invariant in
    let items = c.in-Some.ensures.items in
    let n = length c.pop.new.self.items in
    let pre = subst (λ l. IsPrefix l c.args.self.cells.items) items i.cells in
    let left = subst (λ m. Each c.args.passes.items (RowLeft c.loop-turns.passes.items m)) (ap length items ∙ length-append c.pop.new.self.items (c.in-Some.turns ∷ [])) i.rows in
    end_with_pass (cells_of c.args.self) c.args.self.numbers c.args.passes.items c.loop-turns.passes.items n c.in-Some.turns c.requires.passes i.long left (at_end c.pop.new.self.items (cells_of c.args.self) c.in-Some.turns pre)

pub close-requires-clause-count : goal.close-requires-clause-count
close-requires-clause-count c = let i = c.loop-turns.invariant in
    let pre = subst (λ l. IsPrefix l c.args.self.cells.items) c.in-Some.ensures.items i.cells in
    let o = all_at (λ t. IsOpened t × (numbers_of t ≡ c.args.self.numbers)) (cells_of c.args.self) (length c.pop.new.self.items) c.in-Some.turns (at_end c.pop.new.self.items (cells_of c.args.self) c.in-Some.turns pre) c.args.self.opened in
    c.gather-column.ensures.count ∙ (i.long ∙ (c.requires.passes.0 ∙ sym o.1))

pub close-requires-clause-passes : goal.close-requires-clause-passes
close-requires-clause-passes c = let i = c.loop-turns.invariant in
    let items = c.in-Some.ensures.items in
    let n = length c.pop.new.self.items in
    let pre = subst (λ l. IsPrefix l c.args.self.cells.items) items i.cells in
    let left = subst (λ m. Each c.args.passes.items (RowLeft c.loop-turns.passes.items m)) (ap length items ∙ length-append c.pop.new.self.items (c.in-Some.turns ∷ [])) i.rows in
    let back = came_back c.args.passes.items c.loop-turns.passes.items c.gather-column.new.rows.items c.gather-column.result.items n i.long left c.gather-column.ensures.gathered in
    are_passes (cells_of c.args.self) c.args.self.numbers c.args.passes.items c.gather-column.new.rows.items c.gather-column.result.items n c.in-Some.turns c.requires.passes (at_end c.pop.new.self.items (cells_of c.args.self) c.in-Some.turns pre)
    (c.gather-column.ensures.count ∙ i.long) back

pub loop-turns-preserved : goal.loop-turns-preserved
loop-turns-preserved c = let i = c.loop-turns.invariant in
    let items = c.in-Some.ensures.items in
    let n = length c.pop.new.self.items in
    let rows = c.args.passes.items in
    let pre = subst (λ l. IsPrefix l c.args.self.cells.items) items i.cells in
    let at = at_end c.pop.new.self.items (cells_of c.args.self) c.in-Some.turns pre in
    let more = ap length items ∙ length-append c.pop.new.self.items (c.in-Some.turns ∷ []) in
    let left = subst (λ m. Each rows (RowLeft c.loop-turns.passes.items m)) more i.rows in
    let back = came_back rows c.loop-turns.passes.items c.gather-column.new.rows.items c.gather-column.result.items n i.long left c.gather-column.ensures.gathered in
    let homes = ap length c.in-Some-pop.ensures.items ∙ length-append c.pop-in-Some.new.self.items (c.in-Some-pop.home ∷ []) in
    let ends = ap length c.push_reserved.ensures.items ∙ length-append c.loop-turns.ends.items (c.close.result ∷ []) in
    let closed : IsClosed c.in-Some.turns rows n c.close.result = record {
      stands = c.close.ensures.stands;
      makers = c.close.ensures.makers;
      lists = λ k r e p there_it. let b = back k r e in
          subst (λ (x : RegionPass). Extends k (pass_list x) (whole_list c.close.result.1)) (same_in (slots_of r) n b.pass p b.at_key there_it) (c.close.ensures.lists k b.pass b.at_column);
    } in
    record {
      cells = prefix_pop c.pop.new.self.items c.args.self.cells.items c.in-Some.turns pre;
      same = let s = i.same in omega (arith, s, homes, more);
      homed = all_front (λ h. (h.items ≡ []) × (vec_capacity h ≡ c.args.self.numbers)) c.pop-in-Some.new.self.items (c.in-Some-pop.home ∷ []) (rw c.in-Some-pop.ensures.items at i.homed);
      ends = let s = i.ends in omega (arith, s, ends, more);
      room = c.push_reserved.ensures.capacity ∙ i.room;
      long = sym c.gather-column.ensures.gathered.0 ∙ i.long;
      rows = λ k r e. (back k r e).left;
      closed = subst (λ l. ClosedFrom (cells_of c.args.self) rows l n) (sym c.push_reserved.ensures.items)
          (closes_one (cells_of c.args.self) rows c.loop-turns.ends.items c.close.result n c.in-Some.turns at closed (subst (ClosedFrom (cells_of c.args.self) rows c.loop-turns.ends.items) more i.closed));
    }

pub returns : goal.returns
returns c = let i = c.loop-turns.invariant in
    let none : length c.loop-turns.cells.items ≡ 0 = omega (arith, c.in_default.ensures.cases.0) in
    let s = i.ends in
    let all : length c.loop-turns.ends.items ≡ length c.args.self.cells.items = omega (arith, s, none) in (
      ap length c.reverse.ensures.items ∙ (length-reverse c.loop-turns.ends.items ∙ all),
      λ k t e. let o = i.closed k t e k (omega (arith, none)) in (o.0, ap (λ l. get_elem? l k) c.reverse.ensures.items ∙ o.1, o.2),
    )
