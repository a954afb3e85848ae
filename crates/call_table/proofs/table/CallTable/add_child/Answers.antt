-- What is kept beside the records stays theirs.
use Rattle.std.proofs.Common.{◌-◌, arith, ◌≡◌, ◌+◌, ◌<◌, ◌≤◌, Some, length, refl, sym, ap, subst, ◌∙◌}
use Rattle.faaslet_meaning.specs.declared.call.CallRecord.{CallRecord}
use Rattle.faaslet_meaning.specs.Table.{Table, queued_record, place_of, callable, call_limit, byte_limit}
use Rattle.call_table.specs.Session.{SessionTable}
use Rattle.call_table.specs.SessionInside.{Indexed}
use Rattle.call_table.specs.Parent.{IsParent}
use Rattle.faaslet_meaning.specs.Records.{takes, calls_of, bytes_of}
use Rattle.call_table.specs.Chains.{ChainsFit}
use Rattle.call_table.specs.Children.{ChildrenFit}
use Rattle.call_table.specs.Loads.{LoadsFit}
use Rattle.call_table.proofs.Family.{family_child, grown_by}
use Rattle.call_table.proofs.Chained.{parent_request, chain_few, chain_room, chains_child}
use Rattle.call_table.proofs.Loaded.{loads_child, takes_within}
use Rattle.call_table.proofs.Index.{small, child_so}
use Rattle.call_table.proofs.Reserved.{kept, kept_children, kept_children_as, keeps, few_queued, taken_few}
use Rattle.call_table.proofs.table.CallTable.add_child.Goals as goal

pub add_child-requires : goal.add_child-requires
add_child-requires c = record { few = (small c.self.inside.store.records c.self.inside.progress c.self.inside.heads c.self.invariant.indexed).unfinished }

pub invariant_of-self-2 : goal.invariant_of-self-2
invariant_of-self-2 c =
    let t = c.self.inside.store in
    let q = c.add_child.new.self in
    let h = c.self.inside.heads in
    let of : IsParent t c.args.p = subst (λ (s : SessionTable). IsParent s.table c.args.p) (sym c.self.view_is) c.requires.parent in
    let fits = child_so t c.args.p of c.args.function c.args.input.now c.self.inside.progress q h c.self.invariant.indexed c.in_ok-push_child.ensures.few c.add_child.ensures in
    let made : CallRecord = record (queued_record t c.args.function c.args.p.host c.args.input.now) { request = c.args.p.request; parent = Some c.args.p.call; child = c.args.p.child; depth = c.args.p.depth + 1 } in
    let placed : c.place-placed.result ≡ place_of t c.args.function c.args.p.host = c.place-placed.ensures ∙ ap (λ (s : SessionTable). place_of s.table c.args.function c.args.p.host) (sym c.self.view_is) in
    let few_taken = takes_within t.records in
    let counted = c.self.invariant.indexed.progress_fits.taken_so in
    let all = c.calls-call.ensures in
    let spare : c.calls-call.result + 1 - c.self.inside.progress.taken + takes t.records ≡ length t.records + 1 = omega arith in
    let after = sym c.in_ok-push_child.ensures.ok in
    record {
      requests = c.self.invariant.requests;
      indexed = subst (λ (u : Table). Indexed u.records q h) after fits;
      loads = subst (λ (u : Table). LoadsFit u.hosts u.records c.add.new.self) after
          (loads_child t of.of c.args.p.call c.self.inside.loads c.reserve.new.self c.add.new.self made c.place-placed.result (c.calls-call.result + 1 - c.self.inside.progress.taken) c.self.invariant.loads of.there refl placed
          c.reserve.ensures.queued c.reserve.ensures.warm c.reserve.ensures.more c.in_ok-reserve.ensures.ok spare c.add.ensures.queued c.add.ensures.warm);
      chains = subst (λ (u : Table). ChainsFit u.records c.add-2.new.self) after
          (chains_child t c.args.p of c.self.inside.chains c.self.invariant.chains c.add-2.new.self c.args.function c.args.bytes c.args.input.now
          (subst (λ (s : SessionTable). c.args.bytes ≡ length c.args.input.now + (callable s.table c.args.function).room) (sym c.self.view_is) c.requires.bytes)
          (subst (λ (s : SessionTable). bytes_of s.table.records c.args.p.request + c.args.bytes ≤ byte_limit) (sym c.self.view_is) c.requires.room) c.add-2.ensures);
      children = subst (λ (u : Table). ChildrenFit u.records c.add_call.new.self) after
          (family_child t c.args.p of c.self.inside.children c.add_call.new.self c.args.function c.calls-call.result c.args.input.now c.self.invariant.children all
          (grown_by c.self.inside.children c.reserve-2.new.self c.reserve_child.new.self c.add_child-2.new.self c.add_call.new.self c.args.p.call c.calls-call.result c.reserve-2.ensures.same c.reserve_child.ensures.same c.reserve_child.ensures.many
          c.add_child-2.ensures.here c.add_child-2.ensures.others c.add_child-2.ensures.many c.add_call.ensures.same c.add_call.ensures.many));
      hosts = subst (λ (u : Table). length h.at.items ≡ u.hosts) after c.self.invariant.hosts;
    }

pub overflow_sub-call : goal.overflow_sub-call
overflow_sub-call c = let few = taken_few c.self.inside c.self.invariant in let all = c.calls-call.ensures in omega arith

pub add-requires-2 : goal.add-requires-2
add-requires-2 c =
    let t = c.self.inside.store in
    let h = c.self.invariant.chains in
    let of : IsParent t c.args.p = subst (λ (s : SessionTable). IsParent s.table c.args.p) (sym c.self.view_is) c.requires.parent in
    record {
      there = parent_request t c.args.p of c.self.inside.chains h;
      calls = chain_few t c.args.p of c.self.inside.chains h (subst (λ (s : SessionTable). length (calls_of s.table.records c.args.p.request) < call_limit) (sym c.self.view_is) c.requires.calls);
      bytes = chain_room t c.args.p of c.self.inside.chains h c.args.bytes (subst (λ (s : SessionTable). bytes_of s.table.records c.args.p.request + c.args.bytes ≤ byte_limit) (sym c.self.view_is) c.requires.room);
    }

pub add-requires : goal.add-requires
add-requires c = record { few = few_queued c.self.inside c.reserve.new.self c.place-placed.result c.self.invariant (record { queued = c.reserve.ensures.queued; warm = c.reserve.ensures.warm; more = c.reserve.ensures.more }) }

pub invariant_of-self : goal.invariant_of-self
invariant_of-self c = kept c.self.inside c.self.invariant c.reserve.new.self (record { queued = c.reserve.ensures.queued; warm = c.reserve.ensures.warm; more = c.reserve.ensures.more })

pub invariant_of-self-in_err-reserve-2 : goal.invariant_of-self-in_err-reserve-2
invariant_of-self-in_err-reserve-2 c =
    kept_children c.self.inside c.self.invariant c.reserve.new.self (record { queued = c.reserve.ensures.queued; warm = c.reserve.ensures.warm; more = c.reserve.ensures.more })
    c.reserve-2.new.self (keeps c.self.inside.children c.reserve-2.new.self c.reserve-2.new.self c.reserve-2.ensures.same refl (λ k. refl))

pub invariant_of-self-in_err-reserve_child : goal.invariant_of-self-in_err-reserve_child
invariant_of-self-in_err-reserve_child c =
    kept_children c.self.inside c.self.invariant c.reserve.new.self (record { queued = c.reserve.ensures.queued; warm = c.reserve.ensures.warm; more = c.reserve.ensures.more })
    c.reserve_child.new.self (keeps c.self.inside.children c.reserve-2.new.self c.reserve_child.new.self c.reserve-2.ensures.same c.reserve_child.ensures.many c.reserve_child.ensures.same)

pub invariant_of-self-in_err-push_child : goal.invariant_of-self-in_err-push_child
invariant_of-self-in_err-push_child c =
    kept_children_as c.self.inside c.self.invariant c.reserve.new.self (record { queued = c.reserve.ensures.queued; warm = c.reserve.ensures.warm; more = c.reserve.ensures.more })
    c.reserve_child.new.self _ (keeps c.self.inside.children c.reserve-2.new.self c.reserve_child.new.self c.reserve-2.ensures.same c.reserve_child.ensures.many c.reserve_child.ensures.same) c.in_err-push_child.ensures.want
