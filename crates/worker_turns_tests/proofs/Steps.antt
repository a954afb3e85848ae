-- What is known between the turns of a session that began with two requests to come.
use Rattle.std.proofs.Common.{◌≡◌, ℕ, ◌<◌, ◌≤◌, List, sym, ap, subst, arith}
use Rattle.std.proofs.lemmas.List.Elements.{All-nil}
use Rattle.faaslet_meaning.specs.declared.call.CallRecord.{CallRecord}
use Rattle.faaslet_meaning.specs.declared.outcome.Outcome.{Outcome}
use Rattle.faaslet_meaning.specs.Channels.{Reply}
use Rattle.faaslet_meaning.specs.Table.{TableOperation, submit_request, callable}
use Rattle.turn_cell.specs.declared.view.Entry.{Entry}
use Rattle.call_table.specs.Session.{SessionTable}
use Rattle.call_table.specs.declared.jobs.Job.{Job}
use Rattle.worker_turns.specs.Coming.{CameBy, SomeToCome}
use Rattle.worker_turns.specs.Ending.{MayEndBy, MayFinish, RunsBy, Finishes}
use Rattle.worker_turns.specs.Taking.{TookJob}
use Rattle.worker_turns.specs.Turned.{Entered}
use Rattle.worker_turns.proofs.Coming.{one_comes}
use Rattle.worker_turns.proofs.Ends.{by_own, taken_may_end}
use Rattle.worker_turns_tests.specs.Begun.{begun, BothMayEnd}

pub one_came : (start : SessionTable) (maker function host : ℕ) (input : List ℕ) (reply : Reply) (old new : List Entry) → start ≡ begun → maker ≡ 9 → CameBy begun old 0 → Entered start maker old new (submit_request function host input, reply) → SomeToCome start new
one_came start maker function host input reply old new is session none e =
    subst (λ (s : SessionTable). Entered s maker old new (submit_request function host input, reply) → SomeToCome s new) (sym is)
    (λ f t st. let one = one_comes begun old new 0 function host input reply (All-nil (λ (r : CallRecord). 0 < r.depth)) (subst (λ m. Entered begun m old new (submit_request function host input, reply)) session f) none t st in omega (arith, one)) e

pub took : (start : SessionTable) (maker bench : ℕ) (operation : TableOperation) (old new : List Entry) (job : Job) (before after : List ℕ) → start ≡ begun → 2 ≤ job.room → TookJob start maker 0 bench operation old new job before after → MayEndBy begun new job.call bench 2 1
took start maker bench operation old new job before after is room t =
    let u : TookJob begun maker 0 bench operation old new job before after = subst (λ (s : SessionTable). TookJob s maker 0 bench operation old new job before after) is t in
    let low = u.function in
    let none : 0 ≡ job.function = omega (arith, low) in
    taken_may_end begun maker 0 bench operation old new job before after 2 1 u room (ap (λ n. (callable begun.table n).channels) none)

-- what ends on bench 0 is not touched by what its worker does on bench 1
pub kept : (start : SessionTable) (maker call : ℕ) (operation : TableOperation) (old new : List Entry) (job : Job) (before after : List ℕ) → start ≡ begun → maker ≡ 8 → TookJob start maker 0 1 operation old new job before after → MayEndBy begun old call 0 2 1 → MayEndBy begun new call 0 2 1
kept start maker call operation old new job before after is worker t m =
    let u : TookJob begun 8 0 1 operation old new job before after = subst (λ n. TookJob begun n 0 1 operation old new job before after) worker (subst (λ (s : SessionTable). TookJob s maker 0 1 operation old new job before after) is t) in
    by_own begun call 0 2 1 old new (operation, Reply.number job.call) u.entered (u.others 0 (λ e. cc)) m

pub both : (start : SessionTable) (maker other : ℕ) (first_operation second_operation : TableOperation) (old mid new : List Entry) (first second : Job) (a b c d : List ℕ) → start ≡ begun → other ≡ 8 → 2 ≤ first.room → 2 ≤ second.room
    → TookJob start maker 0 0 first_operation old mid first a b → TookJob start other 0 1 second_operation mid new second c d → BothMayEnd begun new first.call second.call
both start maker other fo so old mid new first second a b c d is worker fr sr x y = (
  kept start other first.call so mid new second c d is worker y (took start maker 0 fo old mid first a b is fr x),
  took start other 1 so mid new second c d is sr y,
)

pub second_runs : (start : SessionTable) (list : List Entry) (first second : ℕ) → start ≡ begun → BothMayEnd begun list first second → RunsBy start list second 1
second_runs start list first second is both = subst (λ (s : SessionTable). RunsBy s list second 1) (sym is) (λ t st. (both.1 t st).runs)

pub first_may : (start : SessionTable) (maker first second : ℕ) (outcome : Outcome) (used : ℕ) (output counts : List ℕ) (old new : List Entry) → start ≡ begun → maker ≡ 8 → BothMayEnd begun old first second → Finishes start maker 1 second outcome used output counts old new → MayFinish start maker new first 2 1
first_may start maker first second outcome used output counts old new is worker both f =
    subst (λ (s : SessionTable). Finishes s maker 1 second outcome used output counts old new → MayFinish s maker new first 2 1) (sym is)
    (λ g.
    let u : Finishes begun 8 1 second outcome used output counts old new = subst (λ n. Finishes begun n 1 second outcome used output counts old new) worker g in
    record {
      bench = 0;
      maker_so = worker;
      may_end = by_own begun first 0 2 1 old new _ u.entered (u.others 0 (λ e. cc)) both.0;
    }) f
