-- The last host that is left ends, with the passes of its benches.
use Rattle.std.proofs.Common.{◌≡◌, ◌+◌, ◌*◌, ◌≤◌, ◌++◌, ◌∷◌, [], length, map, reverse, refl, sym, ap, ◌∙◌, subst, arith, append_assoc, length-append}
use Rattle.std.proofs.lemmas.List.{append-nil, length-map, length-reverse, map-append}
use mathlib.Core.List.{IsPrefix}
use mathlib.Core.Option.{some-injective}
use lib.ListN.{get_elem?}
use Rattle.turn_cell.proofs.Frames.{there}
use Rattle.turn_cell.proofs.Places.{at_end, prefix_pop}
use Rattle.session_objects.specs.Rests.{Keeps}
use Rattle.session_objects.proofs.Ends.{EndedFrom, ends_one, has_ended, in_prefix, map_reverse}
use Rattle.session_objects.proofs.closing.close_hosts.Goals as goal

pub loop-tier-init : goal.loop-tier-init
loop-tier-init c = let e = ap length c.requires.room.0 in record {
  tiers = ([], append-nil c.args.tiers.items);
  rests = ([], append-nil c.args.rests.items);
  locals = ([], append-nil c.args.locals.items);
  same = c.requires.rests.count;
  count = c.requires.count;
  ends = omega (arith, e);
  room = refl;
  ended = λ h t at j is. absurd (let z = there c.args.tiers.items h t at in omega (arith, z, is));
}

pub close_host-requires-clause-rest : goal.close_host-requires-clause-rest
close_host-requires-clause-rest c =
    let i = c.loop-tier.invariant in
    let tiers = subst (λ l. IsPrefix l c.args.tiers.items) c.in-Some.ensures.items i.tiers in
    let rests = subst (λ l. IsPrefix l c.args.rests.items) c.in-Some-pop.ensures.items i.rests in
    let n = length c.pop.new.self.items in
    let len : c.len.result ≡ n = omega arith in
    let more = ap length c.in-Some.ensures.items ∙ length-append c.pop.new.self.items (c.in-Some.tier ∷ []) in
    let more_rests = ap length c.in-Some-pop.ensures.items ∙ length-append c.pop-in-Some.new.self.items (c.in-Some-pop.rest ∷ []) in
    let same = i.same in
    let long : length c.pop-in-Some.new.self.items ≡ n = omega (arith, same, more, more_rests) in
    let o = c.requires.rests.above n c.in-Some.tier (at_end c.pop.new.self.items c.args.tiers.items c.in-Some.tier tiers) (omega arith) in
    let at_rest = ap (get_elem? c.args.rests.items) (sym long) ∙ at_end c.pop-in-Some.new.self.items c.args.rests.items c.in-Some-pop.rest rests in
    let k = subst (Keeps c.in-Some.tier (n * c.args.many) (n * c.args.many + c.args.many)) (some-injective o.0 c.in-Some-pop.rest (sym o.1 ∙ at_rest)) o.2 in
    let all : n * c.args.many + c.args.many ≡ length c.loop-tier.locals.items = let q = i.count in let r = ap (λ m. m * c.args.many) more in let s : (n + 1) * c.args.many ≡ n * c.args.many + c.args.many = omega arith in omega (arith, q, r, s) in
    subst (λ m. Keeps c.in-Some.tier (m * c.args.many) (length c.loop-tier.locals.items) c.in-Some-pop.rest) (sym len) (subst (λ m. Keeps c.in-Some.tier (n * c.args.many) m c.in-Some-pop.rest) all k)

pub close_host-requires-clause-rows : goal.close_host-requires-clause-rows
close_host-requires-clause-rows c =
    let i = c.loop-tier.invariant in
    let tiers = subst (λ l. IsPrefix l c.args.tiers.items) c.in-Some.ensures.items i.tiers in
    let n = length c.pop.new.self.items in
    let len : c.len.result ≡ n = omega arith in
    let more = ap length c.in-Some.ensures.items ∙ length-append c.pop.new.self.items (c.in-Some.tier ∷ []) in
    let all : n * c.args.many + c.args.many ≡ length c.loop-tier.locals.items = let q = i.count in let r = ap (λ m. m * c.args.many) more in let s : (n + 1) * c.args.many ≡ n * c.args.many + c.args.many = omega arith in omega (arith, q, r, s) in
    λ b row e low. c.requires.rows n c.in-Some.tier (at_end c.pop.new.self.items c.args.tiers.items c.in-Some.tier tiers) b row (in_prefix c.loop-tier.locals.items c.args.locals.items b row i.locals e)
    (subst (λ m. m * c.args.many ≤ b) len low) (let z = there c.loop-tier.locals.items b row e in omega (arith, z, all))

pub loop-tier-preserved : goal.loop-tier-preserved
loop-tier-preserved c =
    let i = c.loop-tier.invariant in
    let many = c.args.many in
    let tiers = subst (λ l. IsPrefix l c.args.tiers.items) c.in-Some.ensures.items i.tiers in
    let rests = subst (λ l. IsPrefix l c.args.rests.items) c.in-Some-pop.ensures.items i.rests in
    let n = length c.pop.new.self.items in
    let len : c.len.result ≡ n = omega arith in
    let more = ap length c.in-Some.ensures.items ∙ length-append c.pop.new.self.items (c.in-Some.tier ∷ []) in
    let more_rests = ap length c.in-Some-pop.ensures.items ∙ length-append c.pop-in-Some.new.self.items (c.in-Some-pop.rest ∷ []) in
    let same = i.same in
    let all : length c.loop-tier.locals.items ≡ n * many + many = let q = i.count in let r = ap (λ m. m * many) more in let s : (n + 1) * many ≡ n * many + many = omega arith in omega (arith, q, r, s) in
    let o = c.close_host.ensures.locals in
    let from_is : c.len.result * many ≡ n * many = ap (λ m. m * many) len in
    let pushed = c.push_reserved.ensures.items in
    let ends_long = ap length pushed ∙ length-append c.loop-tier.ends.items (c.close_host.result ∷ []) in
    let has = has_ended many (c.len.result * many) c.args.locals.items c.loop-tier.locals.items c.close_host.new.locals.items n c.in-Some.tier c.close_host.result.items i.locals from_is all (o.0, o.1, o.2, o.3) in
    record {
      tiers = prefix_pop c.pop.new.self.items c.args.tiers.items c.in-Some.tier tiers;
      rests = prefix_pop c.pop-in-Some.new.self.items c.args.rests.items c.in-Some-pop.rest rests;
      locals = (o.0 ++ i.locals.0, sym (append_assoc c.close_host.new.locals.items o.0 i.locals.0) ∙ (ap (λ l. l ++ i.locals.0) (sym o.1) ∙ i.locals.1));
      same = omega (arith, same, more, more_rests);
      count = o.2 ∙ from_is;
      ends = let s = i.ends in omega (arith, s, ends_long, more);
      room = c.push_reserved.ensures.capacity ∙ i.room;
      ended = ends_one c.args.tiers.items many c.args.locals.items (map (λ v. v.items) c.loop-tier.ends.items) (map (λ v. v.items) c.push_reserved.new.self.items) c.close_host.result.items n c.in-Some.tier
          (at_end c.pop.new.self.items c.args.tiers.items c.in-Some.tier tiers) has (ap (map (λ v. v.items)) pushed ∙ map-append (λ v. v.items) c.loop-tier.ends.items (c.close_host.result ∷ []))
          (subst (EndedFrom c.args.tiers.items many c.args.locals.items (map (λ v. v.items) c.loop-tier.ends.items)) more i.ended);
    }

pub returns : goal.returns
returns c =
    let i = c.loop-tier.invariant in
    let none : length c.loop-tier.tiers.items ≡ 0 = omega (arith, c.in_default.ensures.cases.0) in
    let s = i.ends in
    let turned : map (λ v. v.items) c.reverse.new.self.items ≡ reverse (map (λ v. v.items) c.loop-tier.ends.items) = ap (map (λ v. v.items)) c.reverse.ensures.items ∙ map_reverse (λ v. v.items) c.loop-tier.ends.items in (
      length-map c.reverse.new.self.items (λ v. v.items) ∙ (ap length c.reverse.ensures.items ∙ (length-reverse c.loop-tier.ends.items ∙ omega (arith, s, none))),
      λ h t e. let o = i.ended h t e h (omega (arith, none)) in (o.0, ap (λ l. get_elem? l h) turned ∙ o.1, o.2),
    )
