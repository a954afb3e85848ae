-- The last pass that is left is taken back, and those before stay.
use Rattle.std.proofs.Common.{rules, arith, ◌≡◌, length, ◌++◌, [], ◌∷◌, refl, sym, ap, subst}
use Rattle.std.proofs.lemmas.List.{append-nil}
use mathlib.Core.List.{IsPrefix}
use mathlib.Core.Option.{some}
use lib.ListN.{get_elem?}
use Rattle.atomic_table.proofs.Lists.{at_longer}
use Rattle.turn_cell.specs.History.{Lists}
use Rattle.turn_cell.proofs.Frames.{there}
use Rattle.turn_cell.proofs.Places.{each_last, prefix_pop, lists_more}
use Rattle.turn_cell.proofs.cell.Turns.retire_all.Goals as goal

pub loop-pass-init : goal.loop-pass-init
loop-pass-init g c = record {
  keeper = (refl, c.requires.keeper.1);
  left = ([], append-nil c.args.passes.items);
  old = λ k x e. e;
  lists = λ k x e le. absurd (let t = there c.args.passes.items k x e in omega (arith, t, le));
}

pub retire-requires-clause-pass : goal.retire-requires-clause-pass
retire-requires-clause-pass g c = let left = subst (λ l. IsPrefix l c.args.passes.items) c.in-Some.ensures.items c.loop-pass.invariant.left in
    (each_last _ _ _ _ left c.requires.passes).1

pub loop-pass-preserved : goal.loop-pass-preserved
loop-pass-preserved g c = let i = c.loop-pass.invariant in let items = c.in-Some.ensures.items in
    let left = subst (λ l. IsPrefix l c.args.passes.items) items i.left in
    let is = (each_last _ _ _ _ left c.requires.passes).0 in
    let ret : c.retire.new.keeper.me.0.retired ≡ c.loop-pass.keeper.me.0.retired ++ (c.in-Some.pass.number, c.in-Some.pass.seat.me.0.seen) ∷ [] = ap (λ m. m.0.retired) c.retire.ensures.1 in record {
      keeper = (search rules, search rules);
      left = prefix_pop _ _ _ left;
      old = λ k x e. subst (λ l. get_elem? l k ≡ some x) (sym ret) (at_longer _ _ k x (i.old k x e));
      lists = λ k x e le. subst (λ l. Lists l k x.seat.me.0.seen) (sym ret) (lists_more (λ p. p.number) (λ p. p.seat.me.0.seen) _ _ c.in-Some.pass _ left is (λ k x e le. i.lists k x e (let n = ap length items in omega (arith, n, le))) k x e le);
    }
