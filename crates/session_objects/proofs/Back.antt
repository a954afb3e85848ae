-- The passes of a host's benches come back between those of the others.
use Rattle.std.proofs.Common.{◌≡◌, ◌≢◌, ℕ, ◌+◌, ◌<◌, ◌≤◌, List, [], ◌++◌, length, reverse, get_or, ⊎_elim, refl, sym, ap, ◌∙◌, subst, arith, length-append}
use Rattle.std.proofs.lemmas.List.{reverse-append, reverse-reverse}
use Rattle.std.specs.List.{All}
use mathlib.Core.Option.{some}
use lib.ListN.{get_elem?}
use Rattle.shared_region.specs.Shared.{Shared}
use Rattle.turn_cell.specs.declared.cell.Seen.{Seen}
use Rattle.turn_cell.specs.declared.cell.Turns.{Turns}
use Rattle.turn_cell.specs.declared.view.Entry.{Entry}
use Rattle.turn_cell.specs.Cell.{numbers_of, whole_list}
use Rattle.region_tier.specs.Opened.{IsOpened}
use Rattle.region_tier.proofs.Ending.{all_at}
use Rattle.turn_cell.specs.History.{Each, Extends}
use Rattle.turn_cell.proofs.Places.{get_there}
use Rattle.region_tier.specs.declared.cells.Passes.{Passes}
use Rattle.region_tier.specs.declared.cells.Tier.{Tier}
use Rattle.region_tier.specs.Tiers.{AreClosed, AreRows, IsClosed, cells_of, numbers_in}
use Rattle.session_objects.specs.declared.hosts.HostRest.{HostRest}
use Rattle.session_objects.specs.Lists.{Moves}
use Rattle.session_objects.specs.Rests.{EndsOf, FreshFor, IsRowOf, Keeps}
use Rattle.session_objects.proofs.Rows.{at_behind, at_front, at_where, each_behind, each_both, none_long}

pub record Refilled (from : ℕ) (locals left front full rows_behind : List Passes) : Type 0 where
  pub own : List Passes
  pub whole : locals ≡ left ++ own
  pub kept : length left ≡ from
  pub full_so : full ≡ front ++ (own ++ rows_behind)

pub refilled : (from : ℕ) (locals left behind more none front full rows_behind : List Passes) → behind ≡ reverse rows_behind → Moves from locals left behind more → Moves 0 more none front full → Refilled from locals left front full rows_behind
refilled from locals left behind more none front full rows_behind is a b =
    let all : more ≡ b.moved = b.whole ∙ ap (λ l. l ++ b.moved) (none_long none b.kept) in
    let turned : reverse more ≡ a.moved ++ rows_behind = ap reverse (a.put ∙ ap (λ l. l ++ reverse a.moved) is) ∙ (reverse-append (reverse rows_behind) (reverse a.moved) ∙ (ap (λ l. l ++ reverse (reverse rows_behind)) (reverse-reverse a.moved) ∙ ap (λ l. a.moved ++ l) (reverse-reverse rows_behind))) in
    record { own = a.moved; whole = a.whole; kept = a.kept; full_so = b.put ∙ ap (λ l. front ++ l) (ap reverse (sym all) ∙ turned) }

row_of_fresh : (tier : Tier) (i : ℕ) (row : Passes) → FreshFor tier i row → IsRowOf tier i row
row_of_fresh tier i row f = (f.0, λ k t z. let o = f.1 k t z in (o.0, o.1, o.2, o.3))

pub rows_are_back : (tier : Tier) (from : ℕ) (rest : HostRest) (locals left full : List Passes) (k : Keeps tier from (length locals) rest) → Refilled from locals left rest.front.items full k.rows_behind
    → Each locals (λ b row. from ≤ b → IsRowOf tier b row) → AreRows (cells_of tier) (numbers_in tier) full
rows_are_back tier from rest locals left full k r rows =
    let long = ap length r.whole ∙ length-append left r.own in
    let kept = r.kept in (
      (let a = ap length r.full_so ∙ length-append rest.front.items (r.own ++ k.rows_behind) in let b = length-append r.own k.rows_behind in let c = k.front_count in let d = k.behind_count in omega (arith, a, b, c, d, long, kept)),
      subst (λ l. Each l (IsRowOf tier)) (sym r.full_so)
          (each_both rest.front.items (r.own ++ k.rows_behind) (IsRowOf tier) (λ i row e. row_of_fresh tier i row (k.front i row e))
          (subst (λ n. Each (r.own ++ k.rows_behind) (λ j row. IsRowOf tier (n + j) row)) (sym k.front_count)
          (each_both r.own k.rows_behind (λ j row. IsRowOf tier (from + j) row)
          (λ j row e. subst (λ n. IsRowOf tier (n + j) row) kept (each_behind left r.own (λ b row. from ≤ b → IsRowOf tier b row) (subst (λ l. Each l (λ b row. from ≤ b → IsRowOf tier b row)) r.whole rows) j row e (omega (arith, kept))))
          (λ j row e. subst (λ n. IsRowOf tier n row) (omega (arith, long, kept)) (row_of_fresh tier (length locals + j) row (k.behind j row e)))))),
    )

-- a maker whose pass has seen nothing has no entry
no_entry : (tier : Tier) (rows : List Passes) (key i : ℕ) (cell : Turns Shared) (end : Shared × Seen Shared) (row : Passes) → get_elem? (cells_of tier) key ≡ some cell → IsClosed cell rows key end → get_elem? rows i ≡ some row → FreshFor tier i row
    → Extends i [] (whole_list end.1)
no_entry tier rows key i cell end row at c here f =
    let o = f.1 key cell at in
    subst (λ l. Extends i l (whole_list end.1)) o.4 (c.lists i row here o.0 o.1)

numbered : (tier : Tier) (cell : Turns Shared) (key : ℕ) → get_elem? (cells_of tier) key ≡ some cell → {rows : List Passes} {end : Shared × Seen Shared} (n : ℕ) (d : Entry) → n < length (whole_list end.1) → IsClosed cell rows key end → (get_or (whole_list end.1) n d).maker < numbers_in tier
numbered tier cell key at {end = end} n d low c = subst (λ m. (get_or (whole_list end.1) n d).maker < m) (all_at (λ t. IsOpened t × (numbers_of t ≡ tier.numbers)) (cells_of tier) key cell at tier.opened).1 (c.makers n d low)

-- so no entry is of that maker
not_made : (i : ℕ) (list : List Entry) (k : ℕ) (d : Entry) → k < length list → Extends i [] list → (get_or list k d).maker ≡ i → ⊥
not_made i list k d low x is = subst (λ l. All (λ e. e.maker ≢ i) l) x.1 x.2 k d low is

pub ends_so : (tier : Tier) (from : ℕ) (rest : HostRest) (locals left full : List Passes) (ends : List (Shared × Seen Shared)) (k : Keeps tier from (length locals) rest) (r : Refilled from locals left rest.front.items full k.rows_behind)
    → AreClosed (cells_of tier) full ends → EndsOf tier from r.own ends
ends_so tier from rest locals left full ends k r closed = (
  closed.0,
  λ key cell at.
      let o = closed.1 key cell at in
      let cl = o.2 in
      let whole = whole_list o.0.1 in
      let long = ap length r.whole ∙ length-append left r.own in
      let kept = r.kept in
      let full_long = let a = ap length r.full_so ∙ length-append rest.front.items (r.own ++ k.rows_behind) in let b = length-append r.own k.rows_behind in a ∙ ap (λ n. length rest.front.items + n) b in
      let behind_count = k.behind_count in
      let front_count = k.front_count in (
        o.0,
        o.1,
        record {
          stands = cl.stands;
          makers = λ n d low.
              let e = get_or whole n d in
              let m : e.maker < numbers_in tier = numbered tier cell key at n d low cl in
              let row = get_there full e.maker (let z = m in omega (arith, z, full_long, behind_count, front_count, long, kept)) in
              let at_row : get_elem? (rest.front.items ++ (r.own ++ k.rows_behind)) e.maker ≡ some row.0 = ap (λ l. get_elem? l e.maker) (sym r.full_so) ∙ row.1 in
              ⊎_elim
              (λ (f : (e.maker < length rest.front.items) × (get_elem? rest.front.items e.maker ≡ some row.0)).
              absurd (not_made e.maker whole n d low (no_entry tier full key e.maker cell o.0 row.0 at cl row.1 (k.front e.maker row.0 f.1)) refl))
              (λ (g : (j : ℕ) × (e.maker ≡ length rest.front.items + j) × (get_elem? (r.own ++ k.rows_behind) j ≡ some row.0)).
              ⊎_elim
              (λ (i : (g.0 < length r.own) × (get_elem? r.own g.0 ≡ some row.0)). let a = i.0 in let b = g.1 in (omega (arith, b, front_count), omega (arith, a, b, front_count)))
              (λ (i : (j : ℕ) × (g.0 ≡ length r.own + j) × (get_elem? k.rows_behind j ≡ some row.0)). let a = i.1 in let b = g.1 in
              absurd (not_made e.maker whole n d low (no_entry tier full key e.maker cell o.0 row.0 at cl row.1 (subst (λ z. FreshFor tier z row.0) (omega (arith, a, b, long, kept, front_count)) (k.behind i.0 row.0 i.2))) refl))
              (at_where r.own k.rows_behind g.0 row.0 g.2))
              (at_where rest.front.items (r.own ++ k.rows_behind) e.maker row.0 at_row);
          lists = λ j row e q there_q. cl.lists (from + j) row
              (ap (λ l. get_elem? l (from + j)) r.full_so ∙ (ap (λ z. get_elem? (rest.front.items ++ (r.own ++ k.rows_behind)) (z + j)) (sym front_count) ∙ at_behind rest.front.items (r.own ++ k.rows_behind) j row (at_front r.own k.rows_behind j row e))) q there_q;
        },
      ),
)
