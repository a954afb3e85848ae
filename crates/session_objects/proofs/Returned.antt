-- All passes are back, and what the whole lists say of those of the benches.
use Rattle.std.proofs.Common.{◌≡◌, ℕ, zero, suc, ◌+◌, ◌*◌, ◌-◌, ◌<◌, ◌≤◌, List, [], ◌∷◌, ◌++◌, length, get_or, refl, sym, ap, ◌∙◌, subst, arith, append_assoc, length-append}
use Rattle.std.proofs.lemmas.List.{length-map}
use mathlib.Core.Option.{some, some-injective, some-ne-none}
use lib.ListN.{get_elem?}
use Rattle.call_table.specs.Makers.{MakesTable}
use Rattle.call_table.specs.Session.{SessionTable}
use Rattle.shared_region.specs.Shared.{Shared}
use Rattle.turn_cell.specs.declared.cell.Seen.{Seen}
use Rattle.turn_cell.specs.Cell.{ArePasses, IsPassOf, numbers_of, pass_list, pass_number, start_of, whole_list}
use Rattle.turn_cell.specs.History.{Each, Extends, MakersBelow, Stands}
use Rattle.turn_cell.proofs.Frames.{there}
use Rattle.turn_cell.proofs.Places.{get_there}
use Rattle.region_tier.proofs.Dealing.{at_last}
use Rattle.region_tier.specs.declared.cells.Passes.{Passes}
use Rattle.region_tier.specs.declared.cells.Tier.{Tier}
use Rattle.region_tier.specs.Tiers.{AreClosed, AreRows, cells_of, numbers_in, slots_of}
use Rattle.session_meaning.specs.Draft.{Draft}
use Rattle.session_objects.specs.declared.columns.BenchPasses.{BenchPasses}
use Rattle.session_objects.specs.declared.objects.Objects.{Objects}
use Rattle.session_objects.specs.declared.objects.SessionPasses.{SessionPasses}
use Rattle.session_objects.specs.Ended.{EndAll, IsGlobalEnd, IsReplicaEnd, IsTableEnd}
use Rattle.session_objects.specs.Lists.{globals_of, locals_of, tables_of}
use Rattle.session_objects.specs.Parts.{AreBack, AreFor}
use Rattle.session_objects.specs.Rests.{HasEnded, IsRowOf, TablePass}
use Rattle.session_objects.specs.Shape.{benches, each}
use Rattle.session_objects.proofs.Limits.{host_back, host_is, host_low}
use Rattle.session_objects.proofs.Rows.{at_behind, at_front, at_map, each_both, map_each, of_map}

-- ---- As they come back.

pub rows_of_benches : (d : Draft) (o : Objects) (p : SessionPasses) (locals : List Passes) (many : ℕ) → AreBack d o p → locals ≡ locals_of p.benches.items → many ≡ each d
    → Each o.locals.items (λ h tier. Each locals (λ b row. h * many ≤ b → b + 1 ≤ h * many + many → IsRowOf tier b row))
rows_of_benches d o p locals many back is same h tier at b row e low high =
    let x = of_map (λ (q : BenchPasses). q.local) p.benches.items b row (ap (λ l. get_elem? l b) (sym is) ∙ e) in
    let y = back.benches_so b x.0 x.1 in
    let host = host_is d b h (subst (λ m. h * m ≤ b) same low) (let z = subst (λ m. b + 1 ≤ h * m + m) same high in omega (arith, z)) in
    let one = some-injective y.tier tier (sym y.at_host ∙ (ap (get_elem? o.locals.items) host ∙ at)) in
    subst (λ (r : Passes). IsRowOf tier b r) x.2 (subst (λ (t : Tier). IsRowOf t b x.0.local) one y.local)

pub globals_back : (d : Draft) (o : Objects) (p : SessionPasses) (globals : List Passes) → AreFor d o → AreBack d o p → globals ≡ globals_of p.benches.items → AreRows (cells_of o.globals) (numbers_in o.globals) globals
globals_back d o p globals f back is = (
  ap length is ∙ (length-map p.benches.items (λ q. q.global) ∙ (back.bench_count ∙ sym f.globals.numbered)),
  subst (λ l. Each l (IsRowOf o.globals)) (sym is) (map_each (λ q. q.global) p.benches.items (IsRowOf o.globals) (λ b q e. (back.benches_so b q e).global)),
)

tables_long : (d : Draft) (o : Objects) (p : SessionPasses) → AreBack d o p → length (tables_of p.benches.items) ≡ benches d
tables_long d o p back = length-map p.benches.items (λ q. q.table) ∙ back.bench_count

last_one : (Q : ℕ → TablePass → Type 0) (x : TablePass) → Q 0 x → Each (x ∷ []) Q
last_one Q x q zero y e = subst (Q 0) (some-injective x y e) q
last_one Q x q (suc j) y e = absurd (some-ne-none y (sym e))

pub table_back : (d : Draft) (o : Objects) (p : SessionPasses) (column : List TablePass) → AreBack d o p → column ≡ (tables_of p.benches.items ++ p.workers.items) ++ p.session ∷ [] → ArePasses column o.table
table_back d o p column back is =
    let P : ℕ → TablePass → Type 0 = λ k x. (pass_number x ≡ k) × IsPassOf x o.table in
    let long = tables_long d o p back in
    subst (λ l. Each l P) (sym (is ∙ append_assoc (tables_of p.benches.items) p.workers.items (p.session ∷ [])))
    (each_both (tables_of p.benches.items) (p.workers.items ++ p.session ∷ []) P
    (map_each (λ q. q.table) p.benches.items P (λ b q e. (back.benches_so b q e).table))
    (subst (λ n. Each (p.workers.items ++ p.session ∷ []) (λ j x. P (n + j) x)) (sym long)
    (each_both p.workers.items (p.session ∷ []) (λ j x. P (benches d + j) x) back.workers_so
    (λ j x e. last_one (λ j x. P (benches d + (length p.workers.items + j)) x) p.session (subst (λ n. P n p.session) (let w = back.worker_count in omega (arith, w)) back.session) j x e))))

-- ---- What the lists say.

pub replica_ends : (d : Draft) (o : Objects) (p : SessionPasses) (locals : List Passes) (many h : ℕ) (tier : Tier) (ends : List (Shared × Seen Shared)) → 0 < each d → AreFor d o → AreBack d o p → locals ≡ locals_of p.benches.items → many ≡ each d
    → get_elem? o.locals.items h ≡ some tier → HasEnded many locals h tier ends → EndAll (cells_of tier) ends (IsReplicaEnd d p.benches.items h)
replica_ends d o p locals many h tier ends pos f back is same at has = (
  has.ended.0,
  λ key cell at_cell.
      let x = has.ended.1 key cell at_cell in
      let c = x.2 in
      let list = whole_list x.0.1 in
      let low = host_low d (length o.locals.items) h (there o.locals.items h tier at) f.hosts in
      let long : length has.own ≡ each d = has.count ∙ same in
      let first : h * many ≡ h * each d = ap (λ m. h * m) same in (
        x.0,
        x.1,
        record {
          stands = c.stands;
          makers_so = λ n e inside.
              let m = c.makers n e inside in
              let a = m.0 in
              let b = m.1 in
              (let z : (get_or list n e).maker < benches d = omega (arith, b, low, long, first) in z, host_is d (get_or list n e).maker h (omega (arith, a, first)) (omega (arith, b, long, first)));
          lists = λ b q e host pass at_pass.
              let r = host_back d b h pos host in
              let r0 = r.0 in
              let r1 = r.1 in
              let j = b - h * each d in
              let row = get_there has.own j (omega (arith, r0, r1, long)) in
              let place : h * many + j ≡ b = omega (arith, r0, first) in
              let here = ap (get_elem? locals) (sym place) ∙ has.stand j row.0 row.1 in
              let there_it = ap (λ l. get_elem? l b) is ∙ at_map (λ (y : BenchPasses). y.local) p.benches.items b q e in
              let one = some-injective row.0 q.local (sym here ∙ there_it) in
              subst (λ n. Extends n (pass_list pass) list) place (c.lists j row.0 row.1 pass (ap (λ (z : Passes). get_elem? (slots_of z) key) one ∙ at_pass));
        },
      ),
)

pub global_ends : (d : Draft) (o : Objects) (p : SessionPasses) (globals : List Passes) (ends : List (Shared × Seen Shared)) → AreFor d o → globals ≡ globals_of p.benches.items → AreClosed (cells_of o.globals) globals ends
    → EndAll (cells_of o.globals) ends (IsGlobalEnd d p.benches.items)
global_ends d o p globals ends f is closed = (
  closed.0,
  λ key cell at.
      let x = closed.1 key cell at in
      let c = x.2 in (
        x.0,
        x.1,
        record {
          stands = c.stands;
          makers_so = subst (λ n. MakersBelow n (whole_list x.0.1)) (f.globals.globals key cell at).3 c.makers;
          lists = λ b q e pass at_pass. c.lists b q.global (ap (λ l. get_elem? l b) is ∙ at_map (λ (y : BenchPasses). y.global) p.benches.items b q e) pass at_pass;
        },
      ),
)

pub table_ends : (d : Draft) (o : Objects) (p : SessionPasses) (column : List TablePass) (end : SessionTable × Seen SessionTable) → AreFor d o → AreBack d o p → column ≡ (tables_of p.benches.items ++ p.workers.items) ++ p.session ∷ []
    → Stands MakesTable (start_of o.table) (whole_list end.1) end.0 → Each column (λ k x. Extends k (pass_list x) (whole_list end.1)) → MakersBelow (numbers_of o.table) (whole_list end.1) → IsTableEnd d o p end
table_ends d o p column end f back is stands lists below =
    let ts = tables_of p.benches.items in
    let ws = p.workers.items in
    let list = whole_list end.1 in
    let long = tables_long d o p back in
    record {
      stands = stands;
      makers_so = subst (λ n. MakersBelow n list) f.numbered below;
      bench_lists = λ b q e. lists b q.table (ap (λ l. get_elem? l b) is ∙ at_front (ts ++ ws) (p.session ∷ []) b q.table (at_front ts ws b q.table (at_map (λ (y : BenchPasses). y.table) p.benches.items b q e)));
      worker_lists = λ w x e. subst (λ n. Extends n (pass_list x) list) (ap (λ n. n + w) long)
          (lists (length ts + w) x (ap (λ l. get_elem? l (length ts + w)) is ∙ at_front (ts ++ ws) (p.session ∷ []) (length ts + w) x (at_behind ts ws w x e)));
      session_list = subst (λ n. Extends n (pass_list p.session) list) (let a = length-append ts ws in let w = back.worker_count in omega (arith, a, w, long))
          (lists (length (ts ++ ws)) p.session (ap (λ l. get_elem? l (length (ts ++ ws))) is ∙ at_last (ts ++ ws) p.session (length (ts ++ ws)) refl));
    }
