-- The record behind the others is a request's, and an entry of the table.
use Rattle.std.proofs.Common.{◌-◌, ◌≡◌, suc, ◌+◌, cond, true, length, sym, arith, ◌++◌, ◌∷◌, [], refl, subst, ap, ◌∙◌}
use Rattle.faaslet_meaning.specs.declared.call.CallRecord.{CallRecord}
use Rattle.faaslet_meaning.specs.Channels.{Reply}
use Rattle.std.specs.Prelude.{◌==◌}
use Rattle.faaslet_meaning.specs.Records.{is_queued, takes}
use Rattle.faaslet_meaning.specs.Table.{Table, queued_record, place_of, callable, TableOperation, submit_request}
use Rattle.call_table.specs.Made.{Made}
use Rattle.call_table.specs.Session.{SessionTable}
use Rattle.call_table.specs.SessionInside.{session_in, Indexed}
use Rattle.call_table.specs.declared.progress.Progress.{Progress}
use Rattle.call_table.proofs.Entries.{made}
use Rattle.call_table.specs.Chains.{ChainsFit}
use Rattle.call_table.specs.Children.{ChildrenFit}
use Rattle.call_table.specs.Loads.{LoadsFit}
use Rattle.call_table.proofs.Chained.{chains_started}
use Rattle.call_table.proofs.Family.{told, family_started}
use Rattle.call_table.proofs.Loaded.{loads_added, takes_within}
use Rattle.call_table.proofs.Index.{small, pushed}
use Rattle.call_table.proofs.Reserved.{kept, kept_chains, kept_all, kept_all_as, keeps, few_queued, taken_few}
use Rattle.call_table.proofs.table.CallTable.submit_request.Goals as goal

pub returns-clause-ok : goal.returns-clause-ok
returns-clause-ok c =
    let old = session_in c.self.inside in
    let new : SessionTable = record old { table = c.push.new.self } in
    let o : TableOperation = submit_request c.args.function c.args.host c.args.input.now in
    let reply : Reply = Reply.number c.calls-call.result in
    let after = c.in_ok-push.ensures.ok ∙ ap (λ (r : CallRecord). record c.self.inside.store { records = c.self.inside.store.records ++ r ∷ [] }) (c.in_ok-queued.ensures.queued ∙ ap (λ n. record (queued_record c.self.inside.store c.args.function c.args.host c.args.input.now) { request = n }) c.self.invariant.indexed.progress_fits.came_so) in
    subst (λ (s : SessionTable). Made s o new reply) c.self.view_is
    (made old new o reply (record { may_stand = λ m. refl; after_so = λ m. after; reply_so = λ m. ap (λ n. Reply.number n) c.calls-call.ensures }) refl refl tt)

pub add_request-requires : goal.add_request-requires
add_request-requires c =
    let s = small c.self.inside.store.records c.self.inside.progress c.self.inside.heads c.self.invariant.indexed in
    record { few = (s.came, s.unfinished) }

pub invariant_of-self-2 : goal.invariant_of-self-2
invariant_of-self-2 c =
    let t = c.self.inside.store in
    let p = c.self.inside.progress in
    let q = c.add_request.new.self in
    let r = c.in_ok-queued.queued in
    let is = c.in_ok-queued.ensures.queued in
    let state = ap (λ (x : CallRecord). is_queued x.state) is in
    let placed : c.place-placed.result ≡ r.placed = c.place-placed.ensures ∙ ap (λ (s : SessionTable). place_of s.table c.args.function c.args.host) (sym c.self.view_is) ∙ sym (ap (λ (x : CallRecord). x.placed) is) in
    let few_taken = takes_within t.records in
    let counted = c.self.invariant.indexed.progress_fits.taken_so in
    let all = c.calls-call.ensures in
    let spare : c.calls-call.result + 1 - c.self.inside.progress.taken + takes t.records ≡ length t.records + 1 = omega arith in
    let one : (r.depth == 1) ≡ true = ap (λ (x : CallRecord). x.depth == 1) is in
    let came : q.came ≡ cond (r.depth == 1) (suc p.came) p.came = rw one (ap (λ (x : Progress). x.came) c.add_request.ensures ∙ (let e : p.came + 1 ≡ suc p.came = omega arith in e)) in
    let bytes : c.bytes-bytes.result ≡ length r.input + r.room =
    c.bytes-bytes.ensures.sum ∙ ap (λ (s : SessionTable). length c.args.input.now + (callable s.table c.args.function).room) (sym c.self.view_is) ∙ sym (ap (λ (x : CallRecord). length x.input + x.room) is) in
    let fits = pushed t.records p q c.self.inside.heads r c.self.invariant.indexed state c.in_ok-push.ensures.few came
    (ap (λ (x : Progress). x.taken) c.add_request.ensures) (ap (λ (x : Progress). x.unfinished) c.add_request.ensures) in
    let after = sym c.in_ok-push.ensures.ok in
    record {
      requests = c.self.invariant.requests;
      indexed = subst (λ (u : Table). Indexed u.records q c.self.inside.heads) after fits;
      loads = subst (λ (u : Table). LoadsFit u.hosts u.records c.add.new.self) after
          (loads_added t.hosts t.records c.self.inside.loads c.reserve.new.self c.add.new.self r c.place-placed.result (c.calls-call.result + 1 - c.self.inside.progress.taken) c.self.invariant.loads (ap (λ (x : CallRecord). x.state) is) placed
          c.reserve.ensures.queued c.reserve.ensures.warm c.reserve.ensures.more c.in_ok-reserve.ensures.ok spare c.add.ensures.queued c.add.ensures.warm);
      chains = subst (λ (u : Table). ChainsFit u.records c.start.new.self) after
          (chains_started t.records c.self.inside.chains c.start.new.self r c.bytes-bytes.result c.self.invariant.chains (ap (λ (x : CallRecord). x.request) is ∙ c.self.invariant.indexed.progress_fits.came_so) one bytes
          (let few = c.bytes-bytes.ensures.few in omega arith) (c.start.ensures ∙ ap (λ ks. ks ++ record { calls = 1; bytes = c.bytes-bytes.result } ∷ []) c.reserve-2.ensures.same));
      children = subst (λ (u : Table). ChildrenFit u.records c.add_call.new.self) after
          (family_started t.records c.self.inside.children c.add_call.new.self r c.self.invariant.children (ap (λ (x : CallRecord). x.parent) is) (ap (λ (x : CallRecord). x.children) is)
          (c.add_call.ensures.many ∙ ap (λ ls. length ls + 1) c.reserve-3.ensures.same) (λ call. c.add_call.ensures.same call ∙ ap (λ ls. told (λ v. v.items) [] ls call) c.reserve-3.ensures.same));
      hosts = subst (λ (u : Table). length c.self.inside.heads.at.items ≡ u.hosts) after c.self.invariant.hosts;
    }

pub overflow_sub-call : goal.overflow_sub-call
overflow_sub-call c = let few = taken_few c.self.inside c.self.invariant in let all = c.calls-call.ensures in omega arith

pub add-requires : goal.add-requires
add-requires c = record { few = few_queued c.self.inside c.reserve.new.self c.place-placed.result c.self.invariant (record { queued = c.reserve.ensures.queued; warm = c.reserve.ensures.warm; more = c.reserve.ensures.more }) }

pub invariant_of-self : goal.invariant_of-self
invariant_of-self c = kept c.self.inside c.self.invariant c.reserve.new.self (record { queued = c.reserve.ensures.queued; warm = c.reserve.ensures.warm; more = c.reserve.ensures.more })

pub invariant_of-self-in_err-reserve-2 : goal.invariant_of-self-in_err-reserve-2
invariant_of-self-in_err-reserve-2 c = kept_chains c.self.inside c.self.invariant c.reserve.new.self (record { queued = c.reserve.ensures.queued; warm = c.reserve.ensures.warm; more = c.reserve.ensures.more }) c.reserve-2.new.self c.reserve-2.ensures.same

pub invariant_of-self-in_err-reserve-3 : goal.invariant_of-self-in_err-reserve-3
invariant_of-self-in_err-reserve-3 c =
    kept_all c.self.inside c.self.invariant c.reserve.new.self (record { queued = c.reserve.ensures.queued; warm = c.reserve.ensures.warm; more = c.reserve.ensures.more })
    c.reserve-2.new.self c.reserve-3.new.self c.reserve-2.ensures.same (keeps c.self.inside.children c.reserve-3.new.self c.reserve-3.new.self c.reserve-3.ensures.same refl (λ k. refl))

pub invariant_of-self-in_err-push : goal.invariant_of-self-in_err-push
invariant_of-self-in_err-push c =
    kept_all_as c.self.inside c.self.invariant c.reserve.new.self (record { queued = c.reserve.ensures.queued; warm = c.reserve.ensures.warm; more = c.reserve.ensures.more })
    c.reserve-2.new.self c.reserve-3.new.self _ c.reserve-2.ensures.same (keeps c.self.inside.children c.reserve-3.new.self c.reserve-3.new.self c.reserve-3.ensures.same refl (λ k. refl)) c.in_err-push.ensures.want
