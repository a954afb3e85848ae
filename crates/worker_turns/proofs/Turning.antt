-- What is known at a turn, and what an entry makes there.
use Rattle.std.proofs.Common.{◌≡◌, ℕ, ◌+◌, ◌*◌, ◌/◌, ◌<◌, ◌≤◌, List, [], ◌∷◌, ◌++◌, refl, sym, ap, ◌∙◌, subst, arith}
use Rattle.std.proofs.Math.Nat.{mul-le-mul_right, div-lt_iff_lt-mul, lt_of_not-le}
use Rattle.faaslet_meaning.specs.Channels.{Reply}
use Rattle.faaslet_meaning.specs.Spelling.{spelled_on_table, OperationFits}
use Rattle.faaslet_meaning.specs.Table.{TableOperation}
use Rattle.turn_cell.specs.declared.view.Entry.{Entry}
use Rattle.turn_cell.specs.History.{Stands, Extends, entry}
use Rattle.call_table.specs.Made.{Made}
use Rattle.call_table.specs.Makers.{MakesTable, MayMake, Keeps, benches, keeper, session}
use Rattle.call_table.specs.Session.{SessionTable}
use Rattle.call_service.proofs.Further.{goes_on, join}
use Rattle.worker_turns.specs.Turned.{AtItsTurn, Entered}

pub at_turn : (start s value : SessionTable) (maker : ℕ) (old list : List Entry) → Stands MakesTable start list value → Extends maker old list → s ≡ value → AtItsTurn start maker old list s
at_turn start s value maker old list st ext same = record { leads = subst (λ (x : SessionTable). Stands MakesTable start list x) (sym same) st; others = ext }

-- ---- What is known of the session stays.

pub keeper_so : (start s : SessionTable) (list : List Entry) (bench : ℕ) → Stands MakesTable start list s → keeper s bench ≡ keeper start bench
keeper_so start s list bench st =
    let w = goes_on start s list st in
    let hosts : s.table.hosts ≡ start.table.hosts = w.hosts in
    let workers : s.workers ≡ start.workers = w.workers in
    λ i. 8 * (hosts i * workers i) + bench / 8

pub session_so : (start s : SessionTable) (list : List Entry) → Stands MakesTable start list s → session s ≡ session start
session_so start s list st =
    let w = goes_on start s list st in
    let hosts : s.table.hosts ≡ start.table.hosts = w.hosts in
    let workers : s.workers ≡ start.workers = w.workers in
    λ i. 8 * (hosts i * workers i) + hosts i * workers i

pub functions_so : (start s : SessionTable) (list : List Entry) → Stands MakesTable start list s → s.table.functions ≡ start.table.functions
functions_so start s list st = (goes_on start s list st).functions

pub hosts_so : (start s : SessionTable) (list : List Entry) → Stands MakesTable start list s → s.table.hosts ≡ start.table.hosts
hosts_so start s list st = (goes_on start s list st).hosts

pub keeps_so : (start s : SessionTable) (list : List Entry) (maker host bench : ℕ) → Stands MakesTable start list s → Keeps start maker host bench → Keeps s maker host bench
keeps_so start s list maker host bench st k =
    let w = goes_on start s list st in
    let hosts : s.table.hosts ≡ start.table.hosts = w.hosts in
    let workers : s.workers ≡ start.workers = w.workers in
    let many : benches s ≡ benches start = λ i. 8 * (hosts i * workers i) in
    record {
      bench_so = subst (λ n. bench < n) (sym many) k.bench_so;
      maker_so = k.maker_so ∙ sym (keeper_so start s list bench st);
      worker = k.worker;
      worker_fits = subst (λ n. k.worker < n) (sym workers) k.worker_fits;
      host_so = k.host_so ∙ ap (λ n. host * n + k.worker) (sym workers);
    }

-- the worker of a bench is one of a host that there is
pub host_low : (s : SessionTable) (maker host bench : ℕ) → Keeps s maker host bench → host < s.table.hosts
host_low s maker host bench k = lt_of_not-le (λ high.
    let eight : 0 < 8 = omega arith in
    let many : bench < (s.table.hosts * s.workers) * 8 = let b = k.bench_so in omega (arith, b) in
    let low : bench / 8 < s.table.hosts * s.workers = (div-lt_iff_lt-mul eight).1 many in
    let more : s.table.hosts * s.workers ≤ host * s.workers = mul-le-mul_right s.workers high in
    let is = k.host_so in
    let no : ⊥ = omega (arith, low, more, is) in
    no)

-- ---- An entry.

abbrev pub entered_so : (start before after : SessionTable) (maker : ℕ) (old list new : List Entry) (o : TableOperation) (r : Reply) → AtItsTurn start maker old list before → Made before o after r → MayMake before maker o → OperationFits o → new ≡ list ++ entry maker (spelled_on_table o) ∷ [] → Entered start maker old new (o, r)
entered_so start before after maker old list new o r turn made may fits is = record {
  list = list;
  before = before;
  after = after;
  turn = turn;
  entered = is;
  leads = subst (λ (l : List Entry). Stands MakesTable start l after) (sym is) (join start before after list (entry maker (spelled_on_table o) ∷ []) turn.leads (after, made.entry maker may, refl));
  did = made;
  may = may;
  fits = fits;
}
