-- What the table tells of the child that is found is told, with its bytes at the front of the call's scratch.
use Rattle.std.proofs.Common.{◌≡◌, length, sym, ap, ◌∙◌, subst}
use Rattle.std.proofs.lemmas.Option.{same_Some}
use Rattle.call_table.specs.Looked.{LookedAt}
use Rattle.world_core.proofs.Laid.{laid_all}
use Rattle.world_core.proofs.asking.look.Goals as goal

pub returns-clause-told : goal.returns-clause-told
returns-clause-told c k e =
    let before = c.scratch_mut.ensures.bytes in
    let long : length c.look.new.out ≡ length c.args.player.now.faaslet.scratch = c.look.auto.out ∙ ap length before in
    let same : c.in-Some.call ≡ k = same_Some _ _ (sym c.in-Some.is ∙ c.child_of.ensures ∙ e) in
    subst (LookedAt c.args.table.now k c.in-Ok.reply c.args.player.now.faaslet.scratch) (sym (laid_all c.args.player.now.faaslet.scratch c.look.new.out long))
    (subst (λ old. LookedAt c.args.table.now k c.in-Ok.reply old c.look.new.out) before
    (subst (λ n. LookedAt c.args.table.now n c.in-Ok.reply c.scratch_mut.result.now c.look.new.out) same c.in-Ok.ensures.finished))
