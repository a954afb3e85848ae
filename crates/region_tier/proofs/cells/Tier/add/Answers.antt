-- Each maker has a pass of the new cell too.
use Rattle.std.proofs.Common.{◌≡◌, ◌∷◌, ◌++◌, [], length, refl, sym, ap, ◌∙◌, subst, arith, length-append}
use Rattle.std.proofs.lemmas.List.Elements.{All-push}
use Rattle.std.specs.List.{All}
use Rattle.std.specs.Vec.{vec_capacity}
use Rattle.shared_region.specs.Shared.{Shared}
use Rattle.turn_cell.specs.Cell.{numbers_of}
use Rattle.turn_cell.specs.History.{Each}
use Rattle.region_tier.specs.Opened.{IsFree, IsOpened}
use Rattle.region_tier.specs.Tiers.{IsFreshRow, cells_of, slots_of, room_of}
use Rattle.region_tier.proofs.Dealing.{dealt_each, fresh_more}
use Rattle.region_tier.proofs.cells.Tier.add.Goals as goal

pub returns-clause-same : goal.returns-clause-same
returns-clause-same c = (
  refl,
  c.push_reserved.ensures.capacity,
  dealt_each c.args.passes.now.items c.deal-home.new.rows.items c.in-Ok.column.items (λ i r. vec_capacity r.slots ≡ room_of c.args.self) (λ i r. vec_capacity r.slots ≡ room_of c.args.self) c.deal-home.ensures.dealt c.requires.room.1
      (λ i r d p e m h. m.room ∙ h),
)

pub returns-clause-passes : goal.returns-clause-passes
returns-clause-passes c =
    let cells = cells_of c.args.self in (
      c.deal-home.ensures.dealt.0 ∙ c.requires.passes.0,
      subst (λ l. Each c.deal-home.new.rows.items (λ i r. IsFreshRow l (slots_of r) i)) (sym c.push_reserved.ensures.items)
          (dealt_each c.args.passes.now.items c.deal-home.new.rows.items c.in-Ok.column.items (λ i r. IsFreshRow cells (slots_of r) i) (λ i r. IsFreshRow (cells ++ c.in-Ok.turns ∷ []) (slots_of r) i) c.deal-home.ensures.dealt c.requires.passes.1
          (λ i r d p e m h. fresh_more cells c.in-Ok.turns (slots_of r) (slots_of d) i p h m.slots (let f = c.in-Ok.ensures.passes.1 i p e in (f.0, f.1, f.2)))),
    )

pub invariant_of-room : goal.invariant_of-room
invariant_of-room c = record {
  homed = subst (All (λ h. h.items ≡ [])) (sym c.push_reserved-2.ensures.items) (All-push (λ h. h.items ≡ []) c.args.room.now.homes.items c.deal-home.result c.args.room.now.homed c.deal-home.ensures.home.0);
  room = c.push_reserved-2.ensures.capacity ∙ c.args.room.now.room;
  ending = c.args.room.now.ending;
}

pub invariant_of-result-2 : goal.invariant_of-result-2
invariant_of-result-2 c =
    let n = c.args.self.numbers in
    record {
      opened = subst (All (λ t. IsOpened t × (numbers_of t ≡ n))) (sym c.push_reserved.ensures.items) (All-push (λ t. IsOpened t × (numbers_of t ≡ n)) (cells_of c.args.self) c.in-Ok.turns c.args.self.opened
          (subst (λ (r : Shared). IsFree r (numbers_of c.in-Ok.turns)) (sym c.in-Ok.ensures.cell.0) (subst (IsFree c.args.region) (sym c.in-Ok.ensures.cell.1) c.requires.free), c.in-Ok.ensures.cell.1));
      room = let a = ap length c.push_reserved.ensures.items in let b = length-append (cells_of c.args.self) (c.in-Ok.turns ∷ []) in let r = c.requires.room.0 in let k = c.push_reserved.ensures.capacity in omega (arith, a, b, r, k);
    }

pub returns-clause-closing : goal.returns-clause-closing
returns-clause-closing c =
    let n = c.args.self.numbers in
    let r = c.requires.closing in
    record {
      homes = let a = ap length c.push_reserved.ensures.items in let b = length-append (cells_of c.args.self) (c.in-Ok.turns ∷ []) in let d = ap length c.push_reserved-2.ensures.items in
          let e = length-append c.args.room.now.homes.items (c.deal-home.result ∷ []) in let h = r.homes in omega (arith, a, b, d, e, h);
      makers = subst (All (λ h. vec_capacity h ≡ n)) (sym c.push_reserved-2.ensures.items) (All-push (λ h. vec_capacity h ≡ n) c.args.room.now.homes.items c.deal-home.result r.makers (c.deal-home.ensures.home.1 ∙ c.in-Ok.ensures.capacity));
      keys = r.keys ∙ sym c.push_reserved.ensures.capacity;
    }
