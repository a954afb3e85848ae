-- Each call finds its pass, and what the first maker has seen at the end.
use Rattle.std.proofs.Common.{◌≡◌, ◌+◌, ◌<◌, ◌≤◌, ℕ, List, length, refl, sym, ap, ◌∙◌, subst, arith}
use Rattle.shared_region.specs.Shared.{Shared}
use Rattle.turn_cell.specs.declared.cell.Turns.{Turns}
use Rattle.turn_cell.specs.Cell.{IsNoteOf, start_of, numbers_of}
use Rattle.region_tier.specs.Tiers.{RegionPass, cells_of, slots_of}
use Rattle.region_tier.proofs.At.{same_at}
use Rattle.region_tier_tests.proofs.OneMaker.{row_put}
use Rattle.region_tier_tests.proofs.SeenBoth.{fresh_ready, fresh_row, ready_again, seen_both}
use Rattle.region_tier_tests.proofs.told.tell.Goals as goal

pub access-requires : goal.access-requires
access-requires g c =
    let o = c.requires.cell in
    let long : length (start_of o.0).region.bytes ≡ 1 = ap (λ (s : Shared). length s.region.bytes) o.2 in
    fresh_ready _ _ 0 0 o.0 _ c.requires.first o.1 (subst (λ k. 0 < k) (sym o.3) (omega arith)) (λ p. (omega (arith, long), tt))

pub access-requires-2 : goal.access-requires-2
access-requires-2 g c =
    let o = c.requires.cell in
    let long : length (start_of o.0).region.bytes ≡ 1 = ap (λ (s : Shared). length s.region.bytes) o.2 in
    fresh_ready _ _ 1 0 o.0 _ c.requires.second o.1 (subst (λ k. 1 < k) (sym o.3) (omega arith)) (λ p. ((omega (arith, long), omega (arith, c.access.auto.scratch)), tt))

pub split-note-requires : goal.split-note-requires
split-note-requires g c =
    let o = c.requires.cell in
    ready_again _ _ _ _ _ (λ t p. Unit {0}) (λ t p. Unit {0}) c.access-2.ensures (fresh_ready _ _ 1 0 o.0 _ c.requires.second o.1 (subst (λ k. 1 < k) (sym o.3) (omega arith)) (λ p. tt)) tt

pub join-requires : goal.join-requires
join-requires g c =
    let o = c.requires.cell in
    let a = c.access.ensures in
    let n = c.split-note.ensures in
    let note = subst (λ (t : Turns Shared). IsNoteOf c.split-note.result t) (same_at _ 0 n.cell a.cell n.at_cell a.at_cell) n.so.1 in
    ready_again _ _ _ _ _ (λ t p. Unit {0}) (λ t p. IsNoteOf c.split-note.result t) a (fresh_ready _ _ 0 0 o.0 _ c.requires.first o.1 (subst (λ k. 0 < k) (sym o.3) (omega arith)) (λ p. tt)) note

pub returns-clause-first : goal.returns-clause-first
returns-clause-first g c =
    let a = c.access.ensures in
    let j = c.join.ensures in
    row_put _ _ _ 0 0 j.cell j.before j.after (row_put _ _ _ 0 0 a.cell a.before a.after (fresh_row _ _ 0 c.requires.first) a.at_cell a.at_before a.put a.sits a.number) j.at_cell j.at_before j.put j.sits j.number

pub returns-clause-second : goal.returns-clause-second
returns-clause-second g c =
    let b = c.access-2.ensures in
    let n = c.split-note.ensures in
    row_put _ _ _ 1 0 n.cell n.before n.after (row_put _ _ _ 1 0 b.cell b.before b.after (fresh_row _ _ 1 c.requires.second) b.at_cell b.at_before b.put b.sits b.number) n.at_cell n.at_before n.put n.sits n.number

pub returns-clause-seen : goal.returns-clause-seen
returns-clause-seen g c seven = seen_both _ _ _ _ _ _ _ c.split-note.result c.access.result c.access-2.result _ _ _ c.requires.cell c.requires.first c.requires.second c.access.ensures c.access-2.ensures c.split-note.ensures c.join.ensures seven
