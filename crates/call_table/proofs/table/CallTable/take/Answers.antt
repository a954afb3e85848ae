-- What is kept beside the records stays theirs.
use Rattle.std.proofs.Common.{◌≡◌, ◌<◌, true, length, refl, sym, ap, subst, ◌∙◌}
use Rattle.std.proofs.lemmas.Option.{same_Some}
use Rattle.faaslet_meaning.specs.declared.call.CallRecord.{CallRecord}
use Rattle.faaslet_meaning.specs.Lists.{passes_at}
use Rattle.faaslet_meaning.specs.Records.{is_queued}
use Rattle.faaslet_meaning.specs.Table.{Table}
use Rattle.call_table.specs.Session.{SessionTable}
use Rattle.call_table.specs.SessionInside.{Indexed}
use Rattle.call_table.specs.declared.progress.Progress.{Progress}
use Rattle.call_table.specs.Chains.{ChainsFit}
use Rattle.call_table.specs.Children.{ChildrenFit}
use Rattle.call_table.specs.Loads.{LoadsFit}
use Rattle.call_table.proofs.Chained.{chains_take}
use Rattle.call_table.proofs.Family.{family_take}
use Rattle.call_table.proofs.Loaded.{loads_take, one_room}
use Rattle.call_table.proofs.Places.{passes_there}
use Rattle.call_table.proofs.Index.{small, taken_so}
use Rattle.call_table.proofs.table.CallTable.take.Goals as goal

pub take-requires : goal.take-requires
take-requires c = record { few = (small c.self.inside.store.records c.self.inside.progress c.self.inside.heads c.self.invariant.indexed).taken }

pub invariant_of-self : goal.invariant_of-self
invariant_of-self c =
    let t = c.self.inside.store in
    let q = c.take.new.self in
    let queued : passes_at (λ r. is_queued r.state) t.records c.args.call ≡ true = subst (λ (s : SessionTable). passes_at (λ r. is_queued r.state) s.table.records c.args.call ≡ true) (sym c.self.view_is) c.requires.call in
    let fits = taken_so t c.self.inside.progress q c.self.inside.heads c.args.call c.args.host c.args.bench c.self.invariant.indexed queued
    (ap (λ (p : Progress). p.came) c.take.ensures) (ap (λ (p : Progress). p.taken) c.take.ensures) (ap (λ (p : Progress). p.unfinished) c.take.ensures) in
    let low : c.args.host < t.hosts = subst (λ (s : SessionTable). c.args.host < s.table.hosts) (sym c.self.view_is) c.requires.host in
    let handed = c.take-job.ensures.handed in
    let function : c.take-job.result.function ≡ c.record_of-known.result.now.function = handed.function_so ∙ ap (λ (r : CallRecord). r.function) (same_Some handed.of c.record_of-known.result.now (sym handed.there ∙ c.record_of-known.ensures.there)) in
    record {
      requests = c.self.invariant.requests;
      indexed = subst (λ (u : Table). Indexed u.records q c.self.inside.heads) (sym c.take-job.ensures.taken) fits;
      loads = subst (λ (u : Table). LoadsFit u.hosts u.records c.start.new.self) (sym c.take-job.ensures.taken)
          (loads_take t c.self.inside.loads c.start.new.self c.args.call c.args.host c.args.bench c.record_of-known.result.now.placed c.take-job.result.function c.record_of-known.result.now c.self.invariant.loads c.record_of-known.ensures.there queued low refl function
          c.start.ensures.queued c.start.ensures.warm c.start.ensures.room);
      chains = subst (λ (u : Table). ChainsFit u.records c.self.inside.chains) (sym c.take-job.ensures.taken) (chains_take t c.self.inside.chains c.args.call c.args.host c.args.bench c.self.invariant.chains queued);
      children = subst (λ (u : Table). ChildrenFit u.records c.self.inside.children) (sym c.take-job.ensures.taken) (family_take t c.self.inside.children c.args.call c.args.host c.args.bench c.self.invariant.children queued);
      hosts = subst (λ (u : Table). length c.self.inside.heads.at.items ≡ u.hosts) (sym c.take-job.ensures.taken) c.self.invariant.hosts;
    }

pub record_of-known-requires : goal.record_of-known-requires
record_of-known-requires c =
    let t = c.self.inside.store in
    let queued : passes_at (λ r. is_queued r.state) t.records c.args.call ≡ true = subst (λ (s : SessionTable). passes_at (λ r. is_queued r.state) s.table.records c.args.call ≡ true) (sym c.self.view_is) c.requires.call in
    (passes_there (λ r. is_queued r.state) t.records c.args.call queued).inside

pub start-requires : goal.start-requires
start-requires c =
    let t = c.self.inside.store in
    let queued : passes_at (λ r. is_queued r.state) t.records c.args.call ≡ true = subst (λ (s : SessionTable). passes_at (λ r. is_queued r.state) s.table.records c.args.call ≡ true) (sym c.self.view_is) c.requires.call in
    record { room = one_room t.hosts t.records c.self.inside.loads c.args.call c.self.invariant.loads queued }
