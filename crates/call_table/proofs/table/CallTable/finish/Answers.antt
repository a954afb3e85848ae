-- The operation of the records is an entry of the table.
use Rattle.std.proofs.Common.{◌≡◌, true, length, sym, ap, refl, subst}
use Rattle.faaslet_meaning.specs.Channels.{Reply}
use Rattle.faaslet_meaning.specs.Lists.{passes_at}
use Rattle.faaslet_meaning.specs.Records.{is_open}
use Rattle.faaslet_meaning.specs.Table.{Table, TableOperation, finish}
use Rattle.call_table.specs.Made.{Made}
use Rattle.call_table.specs.Session.{SessionTable}
use Rattle.call_table.specs.SessionInside.{session_in, Indexed}
use Rattle.call_table.specs.declared.progress.Progress.{Progress}
use Rattle.call_table.proofs.Entries.{made}
use Rattle.call_table.specs.Chains.{ChainsFit}
use Rattle.call_table.specs.Children.{ChildrenFit}
use Rattle.call_table.specs.Loads.{LoadsFit}
use Rattle.call_table.proofs.Chained.{chains_finish}
use Rattle.call_table.proofs.Family.{family_finish}
use Rattle.call_table.proofs.Loaded.{loads_finish}
use Rattle.call_table.proofs.Index.{one_open, finished_so}
use Rattle.call_table.proofs.table.CallTable.finish.Goals as goal

pub returns : goal.returns
returns c =
    let old = session_in c.self.inside in
    let new : SessionTable = record old { table = c.finish.new.self } in
    let o : TableOperation = finish c.args.call c.args.outcome c.args.used c.args.output.now c.args.counts.now in
    subst (λ (s : SessionTable). Made s o new Reply.done) c.self.view_is (made old new o Reply.done c.finish.ensures refl refl c.code_fits.ensures)

pub finish-requires-2 : goal.finish-requires-2
finish-requires-2 c =
    let t = c.self.inside.store in
    let opened : passes_at (λ r. is_open r.state) t.records c.args.call ≡ true = subst (λ (s : SessionTable). passes_at (λ r. is_open r.state) s.table.records c.args.call ≡ true) (sym c.self.view_is) c.requires.open in
    record { some = one_open t c.self.inside.progress c.self.inside.heads c.args.call c.self.invariant.indexed opened }

pub invariant_of-self : goal.invariant_of-self
invariant_of-self c =
    let t = c.self.inside.store in
    let q = c.finish-2.new.self in
    let opened : passes_at (λ r. is_open r.state) t.records c.args.call ≡ true = subst (λ (s : SessionTable). passes_at (λ r. is_open r.state) s.table.records c.args.call ≡ true) (sym c.self.view_is) c.requires.open in
    let rest = c.finish-2.ensures.rest in
    let fits = finished_so t c.self.inside.progress q c.self.inside.heads c.args.call c.args.outcome c.args.used c.args.output.now c.args.counts.now c.self.invariant.indexed opened
    (ap (λ (p : Progress). p.came) rest) (ap (λ (p : Progress). p.taken) rest) c.finish-2.ensures.fewer in
    let after = sym (c.finish.ensures.after_so 0) in
    record {
      requests = c.self.invariant.requests;
      indexed = subst (λ (u : Table). Indexed u.records q c.self.inside.heads) after fits;
      loads = subst (λ (u : Table). LoadsFit u.hosts u.records c.self.inside.loads) after
          (loads_finish t c.self.inside.loads c.args.call c.args.outcome c.args.used c.args.output.now c.args.counts.now c.self.invariant.loads opened);
      chains = subst (λ (u : Table). ChainsFit u.records c.self.inside.chains) after
          (chains_finish t c.self.inside.chains c.args.call c.args.outcome c.args.used c.args.output.now c.args.counts.now c.self.invariant.chains opened);
      children = subst (λ (u : Table). ChildrenFit u.records c.self.inside.children) after
          (family_finish t c.self.inside.children c.args.call c.args.outcome c.args.used c.args.output.now c.args.counts.now c.self.invariant.children opened);
      hosts = subst (λ (u : Table). length c.self.inside.heads.at.items ≡ u.hosts) after c.self.invariant.hosts;
    }
