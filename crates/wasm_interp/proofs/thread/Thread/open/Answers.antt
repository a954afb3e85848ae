-- Entering a block puts its label where there is room.
use Rattle.std.proofs.Common.{◌∙◌, sym, ap, subst, None, Some, ℕ, refl}
use Rattle.faaslet_meaning.specs.declared.instr.Instr.{Instr}
use Rattle.faaslet_meaning.specs.Configuration.{Next}
use Rattle.faaslet_meaning.specs.Limits.{enter, with_values}
use Rattle.faaslet_meaning.specs.Step.{begin, with_rest, if_step}
use Rattle.faaslet_meaning.specs.Tree.{arity_of}
use Rattle.wasm_validate.specs.Jumps.{side_of}
use Rattle.wasm_interp.specs.Places.{InstrAt}
use Rattle.wasm_interp.specs.Stands.{Follows}
use Rattle.wasm_interp.proofs.Values.{taken}
use Rattle.wasm_interp.proofs.LocalSteps.{value_there}
use Rattle.wasm_interp.proofs.Opening.{block_opens, loop_opens, if_opens, moved}
use Rattle.wasm_interp.proofs.Choices.{if_needs, chosen_first, chosen_second}
use Rattle.wasm_interp.proofs.thread.Thread.open.Goals as goal

pub pop-requires : goal.pop-requires
pop-requires c =
    let t = c.args.self.now in
    let p = c.requires.ready.0 in
    let (memory, d, s, ok) = c.requires.ready.1 in
    let at = subst (λ (i : Instr). InstrAt t.here i) c.in-If.is c.requires.at in
    let o = if_opens p memory t d c.in-If.kind c.args.jump at c.requires.jump s in
    value_there memory (moved t c.args.jump.after) (with_rest d o.rest) o.stands (if_needs (with_rest d o.rest) (arity_of c.in-If.kind) o.body (side_of o.side) d.frame.values (λ h. ok (o.is ∙ h)))

pub returns-in-Block-clause-done : goal.returns-in-Block-clause-done
returns-in-Block-clause-done c p memory d s ok =
    let t = c.args.self.now in
    let at = subst (λ (i : Instr). InstrAt t.here i) c.in-Block.is c.requires.at in
    let o = block_opens memory t d c.in-Block.kind c.args.jump at c.requires.jump s in
    let done = c.enter.ensures.done memory (with_rest d o.rest) o.body None o.stands o.opens in
    let same = ap (λ (n : ℕ). enter (with_rest d o.rest) n None o.body) c.arity.ensures ∙ ap (begin p d) (sym o.is) in
    subst (λ (x : Next). Follows memory c.enter.new.self x c.enter.result) same done

pub returns-in-Loop-clause-done : goal.returns-in-Loop-clause-done
returns-in-Loop-clause-done c p memory d s ok =
    let t = c.args.self.now in
    let at = subst (λ (i : Instr). InstrAt t.here i) c.in-Loop.is c.requires.at in
    let o = loop_opens memory t d c.in-Loop.field-0 c.args.jump at c.requires.jump s in
    let done = c.enter-in-Loop.ensures.done memory (with_rest d o.rest) o.body (Some o.body) o.stands o.opens in
    subst (λ (x : Next). Follows memory c.enter-in-Loop.new.self x c.enter-in-Loop.result) (ap (begin p d) (sym o.is)) done

pub returns-then-pop-eq0-clause-done : goal.returns-then-pop-eq0-clause-done
returns-then-pop-eq0-clause-done c p memory d s ok =
    let t = c.args.self.now in
    let k = c.in-If.kind in
    let at = subst (λ (i : Instr). InstrAt t.here i) c.in-If.is c.requires.at in
    let o = if_opens p memory t d k c.args.jump at c.requires.jump s in
    let d' = with_rest d o.rest in
    let v = taken memory (moved t c.args.jump.after) d' c.pop.result c.pop.new.self d.frame.values c.pop.ensures o.stands refl (if_needs d' (arity_of k) o.body (side_of o.side) d.frame.values (λ h. ok (o.is ∙ h))) in
    let d'' = with_values d' v.rest in
    let done = c.enter-then-pop-eq0.ensures.done memory d'' (side_of o.side) None v.stands o.second in
    let chosen = o.is ∙ ap (if_step d' (arity_of k) o.body (side_of o.side)) v.values_are ∙ chosen_second c.pop.result (enter d'' (arity_of k) None o.body) (enter d'' (arity_of k) None (side_of o.side)) c.if-pop-eq0.true in
    let same = ap (λ (n : ℕ). enter d'' n None (side_of o.side)) c.arity-then-pop-eq0.ensures ∙ sym chosen in
    subst (λ (x : Next). Follows memory c.enter-then-pop-eq0.new.self x c.enter-then-pop-eq0.result) same done

pub returns-else-pop-eq0-clause-done : goal.returns-else-pop-eq0-clause-done
returns-else-pop-eq0-clause-done c p memory d s ok =
    let t = c.args.self.now in
    let k = c.in-If.kind in
    let at = subst (λ (i : Instr). InstrAt t.here i) c.in-If.is c.requires.at in
    let o = if_opens p memory t d k c.args.jump at c.requires.jump s in
    let d' = with_rest d o.rest in
    let v = taken memory (moved t c.args.jump.after) d' c.pop.result c.pop.new.self d.frame.values c.pop.ensures o.stands refl (if_needs d' (arity_of k) o.body (side_of o.side) d.frame.values (λ h. ok (o.is ∙ h))) in
    let d'' = with_values d' v.rest in
    let done = c.enter-else-pop-eq0.ensures.done memory d'' o.body None v.stands o.first in
    let chosen = o.is ∙ ap (if_step d' (arity_of k) o.body (side_of o.side)) v.values_are ∙ chosen_first c.pop.result (enter d'' (arity_of k) None o.body) (enter d'' (arity_of k) None (side_of o.side)) c.if-pop-eq0.false in
    let same = ap (λ (n : ℕ). enter d'' n None o.body) c.arity-else-pop-eq0.ensures ∙ sym chosen in
    subst (λ (x : Next). Follows memory c.enter-else-pop-eq0.new.self x c.enter-else-pop-eq0.result) same done
