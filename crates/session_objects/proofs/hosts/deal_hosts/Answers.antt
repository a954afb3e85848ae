-- One host more, from the last on.
use Rattle.std.proofs.Common.{◌≡◌, ◌+◌, ◌*◌, ◌-◌, ◌≤◌, length, reverse, refl, sym, ap, ◌∙◌, subst, arith, length-append}
use Rattle.std.proofs.lemmas.List.{length-reverse}
use mathlib.Core.Option.{some-ne-none, some-injective}
use lib.ListN.{get_elem?}
use Rattle.region_tier.proofs.At.{read_at}
use Rattle.region_tier.specs.Tiers.{numbers_in}
use Rattle.session_objects.specs.Rests.{AreDealt, IsDealt, Keeps}
use Rattle.session_objects.proofs.Dealt.{Own, dealt_more, deals_one, host_fits, whole_is_dealt}
use Rattle.session_objects.proofs.Rows.{one_host_more}
use Rattle.session_objects.proofs.hosts.deal_hosts.Goals as goal

pub loop-host-init : goal.loop-host-init
loop-host-init c = record {
  low = omega arith;
  rests = whole_is_dealt c.args.tiers.now c.args.many c.args.rests.now.items c.requires.whole;
  count = let n = ap length c.requires.room.0 in let m = c.requires.many in omega (arith, n, m);
  dealt = λ j row e. absurd (some-ne-none row (sym e ∙ ap (λ l. get_elem? (reverse l) j) c.requires.room.0));
  room = refl;
}

pub deal_host-requires-clause-order : goal.deal_host-requires-clause-order
deal_host-requires-clause-order c =
    let n = c.loop-host.host - 1 in
    let t = read_at c.args.tiers.now n c.index-tiers-host.result (let l = c.loop-host.invariant.low in let s = c.loop-host-test.true in omega (arith, l, s)) c.index-tiers-host.is in (
      let a : n * c.args.many ≤ n * c.args.many + c.args.many = omega arith in a,
      subst (λ m. n * c.args.many + c.args.many ≤ m) (sym (c.requires.numbered n c.index-tiers-host.result t))
          (host_fits (length c.args.tiers.now) c.args.many c.args.numbers c.loop-host.host (let s = c.loop-host-test.true in omega (arith, s)) c.loop-host.invariant.low c.requires.many),
    )

pub deal_host-requires-clause-whole : goal.deal_host-requires-clause-whole
deal_host-requires-clause-whole c =
    let n = c.loop-host.host - 1 in
    let i = c.loop-host.invariant in
    let tier = c.index-tiers-host.result in
    let s = c.loop-host-test.true in
    let low = i.low in
    let t = read_at c.args.tiers.now n tier (omega (arith, low, s)) c.index-tiers-host.is in
    let o = i.rests.below n tier t (omega (arith, s)) in
    let count = i.rests.count in
    let r = read_at c.loop-host.rests.items n c.index_mut.result.now (omega (arith, low, s, count)) c.index_mut.ensures.value in
    subst (Keeps tier (numbers_in tier) (numbers_in tier)) (some-injective o.0 c.index_mut.result.now (sym o.1 ∙ r)) o.2

pub loop-host-preserved : goal.loop-host-preserved
loop-host-preserved c =
    let n = c.loop-host.host - 1 in
    let i = c.loop-host.invariant in
    let tier = c.index-tiers-host.result in
    let s = c.loop-host-test.true in
    let low = i.low in
    let t = read_at c.args.tiers.now n tier (omega (arith, low, s)) c.index-tiers-host.is in
    let e = c.deal_host.ensures in
    let own : Own tier (n * c.args.many) (n * c.args.many + c.args.many) c.loop-host.locals.items c.deal_host.new.locals.items = record { own = e.locals.0; count = e.locals.1; put = e.locals.2; fresh = e.locals.3 } in
    record {
      low = omega (arith, low);
      rests = deals_one c.args.tiers.now c.args.many c.loop-host.host c.loop-host.rests.items tier c.deal_host.new.rest (omega (arith, s)) t e.rest i.rests;
      count = let a = ap length own.put ∙ length-append c.loop-host.locals.items (reverse own.own) in let b = length-reverse own.own in let d = own.count in let f = i.count in
          let g = one_host_more c.loop-host.host c.args.many (omega (arith, s)) in omega (arith, a, b, d, f, g);
      dealt = dealt_more c.args.tiers.now c.args.many c.loop-host.host tier c.loop-host.locals.items c.deal_host.new.locals.items (omega (arith, s)) t own i.dealt;
      room = e.same ∙ i.room;
    }

pub returns-clause-rests : goal.returns-clause-rests
returns-clause-rests c = let none : c.loop-host.host ≡ 0 = let s = c.loop-host-test.false in omega (arith, s) in
    subst (λ h. AreDealt c.args.tiers.now c.args.many h c.loop-host.rests.items) none c.loop-host.invariant.rests

pub returns-clause-dealt : goal.returns-clause-dealt
returns-clause-dealt c = let none : c.loop-host.host ≡ 0 = let s = c.loop-host-test.false in omega (arith, s) in
    λ k x e. subst (λ m. IsDealt c.args.tiers.now c.args.many m x) (let z = ap (λ h. h * c.args.many) none in omega (arith, z)) (c.loop-host.invariant.dealt k x (ap (λ l. get_elem? l k) (sym c.reverse.ensures.items) ∙ e))
