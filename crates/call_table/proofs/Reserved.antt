-- What a table keeps of itself once it has made room for one call more.
use Rattle.std.proofs.Common.{◌≡◌, ◌<◌, ◌≤◌, ◌^◌, ℕ, get_or, [], length, sym, ap, ◌∙◌, subst, vec_capacity, arith}
use Rattle.faaslet_meaning.specs.Table.{Table}
use Rattle.call_table.specs.SessionInside.{IsSession}
use Rattle.call_table.specs.Children.{children_at}
use Rattle.call_table.specs.declared.chains.Chains.{Chains}
use Rattle.call_table.specs.declared.children.Children.{Children}
use Rattle.call_table.specs.declared.loads.Loads.{Loads}
use Rattle.call_table.specs.declared.table.CallTable.TheInside.{Inside}
use Rattle.call_table.proofs.Chained.{chains_kept}
use Rattle.call_table.proofs.Family.{told, family_kept}
use Rattle.call_table.proofs.Loaded.{loads_more, queue_few, takes_within}

-- the loads have as much in more room
pub record Reserves (old new : Loads) : Type 0 where
  pub queued : new.queued.items ≡ old.queued.items
  pub warm : new.warm.items ≡ old.warm.items
  pub more : vec_capacity old.warm ≤ vec_capacity new.warm

-- the lists of children have as much
pub record Keeps (old new : Children) : Type 0 where
  pub many : length new.lists.items ≡ length old.lists.items
  pub same : (call : ℕ) → children_at new call ≡ children_at old call

pub keeps : (a b c : Children) → b.lists.items ≡ a.lists.items → length c.lists.items ≡ length b.lists.items → ((call : ℕ) → children_at c call ≡ children_at b call) → Keeps a c
keeps a b c e many same = record { many = many ∙ ap length e; same = λ call. same call ∙ ap (λ ls. told (λ v. v.items) [] ls call) e }

module _ (s : Inside) (i : IsSession s) (k : Loads) (r : Reserves s.loads k) where
  pub kept : IsSession (record s { loads = k })
  kept = record { requests = i.requests; indexed = i.indexed; loads = loads_more s.store.hosts s.store.records s.loads k i.loads r.queued r.warm r.more; chains = i.chains; children = i.children; hosts = i.hosts }

  pub kept_chains : (d : Chains) → d.kept.items ≡ s.chains.kept.items → IsSession (record s { loads = k; chains = d })
  kept_chains d e = record { requests = i.requests; indexed = i.indexed; loads = kept.loads; chains = chains_kept s.store.records s.chains d e i.chains; children = i.children; hosts = i.hosts }

  pub kept_children : (f : Children) → Keeps s.children f → IsSession (record s { loads = k; children = f })
  kept_children f e = record { requests = i.requests; indexed = i.indexed; loads = kept.loads; chains = i.chains; children = family_kept s.store.records s.children f e.many e.same i.children; hosts = i.hosts }

  pub kept_all : (d : Chains) (f : Children) → d.kept.items ≡ s.chains.kept.items → Keeps s.children f → IsSession (record s { loads = k; chains = d; children = f })
  kept_all d f e g = record { requests = i.requests; indexed = i.indexed; loads = kept.loads; chains = chains_kept s.store.records s.chains d e i.chains; children = family_kept s.store.records s.children f g.many g.same i.children; hosts = i.hosts }

  -- the same, where the records stayed as they were
  pub kept_children_as : (f : Children) (t : Table) → Keeps s.children f → t ≡ s.store → IsSession (record s { loads = k; children = f; store = t })
  kept_children_as f t e same = subst (λ (u : Table). IsSession (record s { loads = k; children = f; store = u })) (sym same) (kept_children f e)

  pub kept_all_as : (d : Chains) (f : Children) (t : Table) → d.kept.items ≡ s.chains.kept.items → Keeps s.children f → t ≡ s.store → IsSession (record s { loads = k; chains = d; children = f; store = t })
  kept_all_as d f t e g same = subst (λ (u : Table). IsSession (record s { loads = k; chains = d; children = f; store = u })) (sym same) (kept_all d f e g)

-- no queue has as many calls as would not fit
pub few_queued : (s : Inside) (k : Loads) (host : ℕ) → IsSession s → Reserves s.loads k → get_or k.queued.items host 0 < 2 ^ 31
few_queued s k host i r =
    let a = queue_few s.store.hosts host s.store.records k (loads_more s.store.hosts s.store.records s.loads k i.loads r.queued r.warm r.more) in
    let n = i.indexed.few in
    omega arith

pub taken_few : (s : Inside) → IsSession s → s.progress.taken ≤ length s.store.records
taken_few s i =
    let a = takes_within s.store.records in
    let b = i.indexed.progress_fits.taken_so in
    omega arith
