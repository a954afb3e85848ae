-- The passes of hosts are dealt out.
use Rattle.std.proofs.Common.{◌≡◌, ◌≢◌, ℕ, ◌+◌, ◌*◌, ◌-◌, ◌<◌, ◌≤◌, List, [], ◌++◌, length, reverse, set, sym, ap, ◌∙◌, subst, arith, length-append, length-set}
use Rattle.std.proofs.Math.Nat.{mul-le-mul_right}
use Rattle.std.proofs.lemmas.List.{reverse-append, reverse-reverse}
use Rattle.std.specs.Vec.{vec_capacity}
use mathlib.Core.Logic.{dite}
use native.Mathlib.Decide.{ℕ_discrete}
use mathlib.Core.Option.{some, some-injective}
use lib.ListN.{get_elem?}
use Rattle.turn_cell.specs.History.{Each}
use Rattle.turn_cell.proofs.Frames.{there}
use Rattle.region_tier.proofs.Dealing.{at_put, at_other}
use Rattle.region_tier.specs.declared.cells.Passes.{Passes}
use Rattle.region_tier.specs.declared.cells.Tier.{Tier}
use Rattle.region_tier.specs.Tiers.{IsRoomOf, numbers_in}
use Rattle.session_objects.specs.declared.hosts.HostRest.{HostRest}
use Rattle.session_objects.specs.Lists.{Moves}
use Rattle.session_objects.specs.Rests.{AreDealt, AreWhole, FreshFor, IsDealt, Keeps}
use Rattle.session_objects.proofs.Rows.{each_behind, each_both, each_of_front, none_long, one_host_more}

pub record Own (tier : Tier) (before from : ℕ) (old new : List Passes) : Type 0 where
  pub own : List Passes
  pub count : before + length own ≡ from
  pub put : new ≡ old ++ reverse own
  pub fresh : Each own (λ j row. FreshFor tier (before + j) row)

pub keeps_less : (tier : Tier) (before from : ℕ) (old new : HostRest) (mid locals more : List Passes) → new.room ≡ old.room → Keeps tier (numbers_in tier) (numbers_in tier) old
    → Moves from old.front.items mid old.behind.items new.behind.items → Moves before mid new.front.items locals more → vec_capacity new.front ≡ vec_capacity old.front → vec_capacity new.behind ≡ vec_capacity old.behind
    → Keeps tier before from new
keeps_less tier before from old new mid locals more same k a b front behind =
    let none : k.rows_behind ≡ [] = none_long k.rows_behind (let n = k.behind_count in omega (arith, n)) in
    let clear : old.behind.items ≡ [] = k.behind_so ∙ ap reverse none in
    let rows = subst (λ l. Each l (FreshFor tier)) a.whole k.front in
    let mids = subst (λ l. Each l (FreshFor tier)) b.whole (each_of_front mid a.moved (FreshFor tier) rows) in
    record {
      room = subst (λ r. IsRoomOf r tier) (sym same) k.room;
      front_count = b.kept;
      front = each_of_front new.front.items b.moved (FreshFor tier) mids;
      front_room = subst (λ n. numbers_in tier ≤ n) (sym front) k.front_room;
      rows_behind = a.moved;
      behind_so = a.put ∙ ap (λ l. l ++ reverse a.moved) clear;
      behind_count = let n = k.front_count in let w = ap length a.whole ∙ length-append mid a.moved in let m = a.kept in omega (arith, n, w, m);
      behind = λ j row e. subst (λ n. FreshFor tier (n + j) row) a.kept (each_behind mid a.moved (FreshFor tier) rows j row e);
      behind_room = subst (λ n. numbers_in tier ≤ n) (sym behind) k.behind_room;
    }

pub own_rows : (tier : Tier) (before from : ℕ) (old : HostRest) (behind mid front locals more : List Passes) → Keeps tier (numbers_in tier) (numbers_in tier) old
    → Moves from old.front.items mid old.behind.items behind → Moves before mid front locals more → Own tier before from locals more
own_rows tier before from old behind mid front locals more k a b =
    let rows = subst (λ l. Each l (FreshFor tier)) a.whole k.front in
    let mids = subst (λ l. Each l (FreshFor tier)) b.whole (each_of_front mid a.moved (FreshFor tier) rows) in
    record {
      own = b.moved;
      count = let w = ap length b.whole ∙ length-append front b.moved in let m = a.kept in let n = b.kept in omega (arith, w, m, n);
      put = b.put;
      fresh = λ j row e. subst (λ n. FreshFor tier (n + j) row) b.kept (each_behind front b.moved (FreshFor tier) mids j row e);
    }

-- ---- All hosts.

pub whole_is_dealt : (tiers : List Tier) (many : ℕ) (rests : List HostRest) → AreWhole tiers rests → AreDealt tiers many (length tiers) rests
whole_is_dealt tiers many rests w = record {
  count = w.count;
  below = λ h t e low. w.each h t e;
  above = λ h t e high. absurd (let z = there tiers h t e in omega (arith, z, high));
}

pub host_fits : (tiers many numbers h : ℕ) → 0 < h → h ≤ tiers → tiers * many ≡ numbers → (h - 1) * many + many ≤ numbers
host_fits tiers many numbers h pos low is = let a = mul-le-mul_right many low in let b = one_host_more h many pos in omega (arith, a, b, is)

pub deals_one : (tiers : List Tier) (many h : ℕ) (rests : List HostRest) (tier : Tier) (rest : HostRest) → 0 < h → get_elem? tiers (h - 1) ≡ some tier → Keeps tier ((h - 1) * many) ((h - 1) * many + many) rest
    → AreDealt tiers many h rests → AreDealt tiers many (h - 1) (set rests (h - 1) rest)
deals_one tiers many h rests tier rest pos at keeps d =
    let inside : h - 1 < length rests = let t = there tiers (h - 1) tier at in let c = d.count in omega (arith, t, c) in
    record {
      count = length-set rests (h - 1) rest ∙ d.count;
      below = λ k t e low. let o = d.below k t e (omega (arith, low)) in (o.0, at_other rests (h - 1) k rest (λ same. omega (arith, same, low)) ∙ o.1, o.2);
      above = λ k t e high. dite (ℕ_discrete k (h - 1))
          (λ here. let same : tier ≡ t = some-injective tier t (sym at ∙ (ap (get_elem? tiers) (sym here) ∙ e)) in (
            rest,
            ap (get_elem? (set rests (h - 1) rest)) here ∙ at_put rests (h - 1) rest inside,
            subst (λ n. Keeps t (n * many) (n * many + many) rest) (sym here) (subst (λ (x : Tier). Keeps x ((h - 1) * many) ((h - 1) * many + many) rest) same keeps),
          ))
          (λ other. let o = d.above k t e (let n : k ≢ h - 1 = other in omega (arith, high, n)) in (o.0, at_other rests (h - 1) k rest other ∙ o.1, o.2));
    }

pub dealt_more : (tiers : List Tier) (many h : ℕ) (tier : Tier) (old new : List Passes) → 0 < h → get_elem? tiers (h - 1) ≡ some tier → Own tier ((h - 1) * many) ((h - 1) * many + many) old new
    → Each (reverse old) (λ j row. IsDealt tiers many (h * many + j) row) → Each (reverse new) (λ j row. IsDealt tiers many ((h - 1) * many + j) row)
dealt_more tiers many h tier old new pos at o rest =
    let lo = (h - 1) * many in
    let one = one_host_more h many pos in
    let long : length o.own ≡ many = let c = o.count in omega (arith, c) in
    let is : reverse new ≡ o.own ++ reverse old = ap reverse o.put ∙ (reverse-append old (reverse o.own) ∙ ap (λ l. l ++ reverse old) (reverse-reverse o.own)) in
    subst (λ l. Each l (λ j row. IsDealt tiers many (lo + j) row)) (sym is)
    (each_both o.own (reverse old) (λ j row. IsDealt tiers many (lo + j) row)
    (λ j row e. record {
      host = h - 1;
      tier = tier;
      at_host = at;
      low = let a : lo ≤ lo + j = omega arith in a;
      high = let z = there o.own j row e in let a : lo + j < lo + many = omega (arith, z, long) in a;
      fresh = o.fresh j row e;
    })
    (λ j row e. subst (λ n. IsDealt tiers many n row) (omega (arith, one, long)) (rest j row e)))
