-- The call that was found is the next, and its take an entry of the table.
use Rattle.std.proofs.Common.{◌≡◌, Some, true, refl, ap, sym, subst, ◌∙◌}
use Rattle.faaslet_meaning.specs.Channels.{Reply}
use Rattle.faaslet_meaning.specs.Lists.{passes_at}
use Rattle.faaslet_meaning.specs.Records.{is_queued, queue, queued_calls}
use Rattle.faaslet_meaning.specs.Table.{TableOperation, next, take_next, taken}
use Rattle.call_table.specs.Handed.{Handed}
use Rattle.call_table.specs.Made.{Made}
use Rattle.call_table.specs.Session.{SessionTable, unfinished}
use Rattle.call_table.proofs.Entries.{made}
use Rattle.call_table.proofs.Fronts.{none_in_two}
use Rattle.call_table.proofs.Mine.{next_is_queued}
use Rattle.call_table.proofs.Take.{next_did}
use Rattle.call_table.proofs.table.CallTable.take_next.Goals as goal

pub take-requires-clause-call : goal.take-requires-clause-call
take-requires-clause-call c =
    let t = c.args.self.now.table in
    let found : next t c.args.host ≡ Some c.in-Some.call = sym c.next.ensures.first ∙ c.in-Some.is in
    subst (λ (s : SessionTable). passes_at (λ r. is_queued r.state) s.table.records c.in-Some.call ≡ true) (sym c.next.ensures.same) (next_is_queued t c.args.host c.in-Some.call found)

pub returns-in-Some : goal.returns-in-Some
returns-in-Some c =
    let call = c.in-Some.call in
    let now = c.args.self.now in
    let t = now.table in
    let new = c.take.new.self in
    let o : TableOperation = take_next c.args.host c.args.bench in
    let found : next t c.args.host ≡ Some call = sym c.next.ensures.first ∙ c.in-Some.is in
    let same = c.next.ensures.same in
    let is : new ≡ record now { table = taken t call c.args.host c.args.bench } = c.take.ensures.taken ∙ ap (λ (s : SessionTable). record s { table = taken s.table call c.args.host c.args.bench }) same in
    let handed = subst (λ (s : SessionTable). Handed s.table.records call c.take.result c.args.input.now c.take.new.input) same c.take.ensures.handed in
    let did = next_did t c.args.host c.args.bench call new.table found (next_is_queued t c.args.host call found) (ap (λ (s : SessionTable). s.table) is) in
    let number = sym handed.call_so in (
      subst (λ n. Made now o new (Reply.number n)) number (made now new o (Reply.number call) did (ap (λ (s : SessionTable). s.workers) is) (ap (λ (s : SessionTable). s.requests) is) tt),
      subst (λ n. Handed t.records n c.take.result c.args.input.now c.take.new.input) number handed,
    )

pub returns-in-None : goal.returns-in-None
returns-in-None c =
    let t = c.args.self.now.table in
    let same = c.next.ensures.same in
    (none_in_two (queue t.records c.args.host) (queued_calls t.records) (sym c.next.ensures.first ∙ c.in-None.is), same, refl, c.unfinished.ensures ∙ ap unfinished same)
