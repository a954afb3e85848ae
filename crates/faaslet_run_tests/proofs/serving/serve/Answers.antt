use Rattle.std.proofs.Common.{ℕ, List, Option, subst, sym}
use Rattle.faaslet_run_tests.specs.Children.{MayCome}
use Rattle.faaslet_run_tests.specs.Standing.{IsAt}
use Rattle.faaslet_run_tests.proofs.Answering.{asked_kept}
use Rattle.faaslet_run_tests.proofs.serving.serve.Goals as goal

pub asked-requires : goal.asked-requires
asked-requires c = (c.args.children.now.items, c.requires)

pub reply_to-requires : goal.reply_to-requires
reply_to-requires c = (c.args.children.now.items, asked_kept c.asked.new.faaslet c.carries-carried.new.faaslet c.in_ok-ask.ask c.args.children.now.items c.carries-carried.ensures (c.in_ok-ask.ensures c.args.children.now.items c.requires), subst (λ (ks : List (Option ℕ)). MayCome c.in_ok-ask.ask c.args.row.now.reply ks) c.deref.ensures.value (c.may_come-fits.ensures c.if-not-fits.false))

pub returns : goal.returns
returns c =
    let x = asked_kept c.asked.new.faaslet c.carries-carried.new.faaslet c.in_ok-ask.ask c.args.children.now.items c.carries-carried.ensures (c.in_ok-ask.ensures c.args.children.now.items c.requires) in
    subst (IsAt c.reply_to.new.faaslet) (sym c.in_ok-note.ensures) (c.reply_to.ensures c.args.children.now.items x (subst (λ (ks : List (Option ℕ)). MayCome c.in_ok-ask.ask c.args.row.now.reply ks) c.deref.ensures.value (c.may_come-fits.ensures c.if-not-fits.false)))
