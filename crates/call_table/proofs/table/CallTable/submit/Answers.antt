-- A child that was added, and one that was refused, are entries of the table.
use Rattle.std.proofs.Common.{◌≡◌, ◌+◌, ◌<◌, ◌≤◌, arith, true, false, length, refl, ap, sym, subst, ◌∙◌}
use Rattle.faaslet_meaning.specs.Channels.{Reply}
use Rattle.faaslet_meaning.specs.Lists.{passes_at}
use Rattle.faaslet_meaning.specs.Records.{is_open, calls_of, bytes_of}
use Rattle.faaslet_meaning.specs.Table.{TableOperation, submit, has_room, callable, call_limit, byte_limit}
use Rattle.call_table.specs.Chains.{ChainIs}
use Rattle.call_table.specs.Did.{Did}
use Rattle.call_table.specs.Parent.{IsParent, IsChildOf}
use Rattle.call_table.specs.Refused.{IsFull}
use Rattle.call_table.specs.Session.{SessionTable}
use Rattle.call_table.specs.SessionInside.{session_in}
use Rattle.call_table.specs.declared.chains.Chain.{Chain}
use Rattle.call_table.proofs.Chained.{parent_request}
use Rattle.call_table.proofs.Entries.{made}
use Rattle.call_table.proofs.Submit.{child_did, full_did, room_so, parent_there, allows}
use Rattle.call_table.proofs.table.CallTable.submit.Goals as goal

pub of-chain-requires : goal.of-chain-requires
of-chain-requires c = parent_request c.self.inside.store c.parent_of-p.result c.parent_of-p.ensures.parent c.self.inside.chains c.self.invariant.chains

pub overflow_add-chain : goal.overflow_add-chain
overflow_add-chain c =
    let kept = subst (λ (k : Chain). k.bytes ≤ byte_limit) (sym c.of-chain.ensures) ((c.self.invariant.chains.each c.parent_of-p.result.request).within) in
    let few = c.bytes-bytes.ensures.few in
    omega arith

pub returns-then-not-has_room-clause-refused : goal.returns-then-not-has_room-clause-refused
returns-then-not-has_room-clause-refused c =
    let old = session_in c.self.inside in
    let t = c.self.inside.store in
    let p = c.parent_of-p.result in
    let of = c.parent_of-p.ensures.parent in
    let same = c.parent_of-p.ensures.call in
    let chain = c.of-chain.result in
    let o : TableOperation = submit c.args.parent c.args.function c.args.input.now in
    let opened : passes_at (λ r. is_open r.state) t.records c.args.parent ≡ true = subst (λ (s : SessionTable). passes_at (λ r. is_open r.state) s.table.records c.args.parent ≡ true) (sym c.self.view_is) c.requires.parent in
    let kept = subst (ChainIs t.records p.request) (sym c.of-chain.ensures) (c.self.invariant.chains.each p.request) in
    let more : c.bytes-bytes.result ≡ length c.args.input.now + (callable t c.args.function).room =
    c.bytes-bytes.ensures.sum ∙ ap (λ (s : SessionTable). length c.args.input.now + (callable s.table c.args.function).room) (sym c.self.view_is) in
    let none : has_room t of.of c.args.function c.args.input.now ≡ false =
    sym (room_so t p c.args.parent c.args.function c.args.input.now of same opened chain.calls chain.bytes c.bytes-bytes.result kept.calls_so kept.bytes_so more) ∙ sym c.has_room.ensures ∙ c.if-not-has_room.true in
    let there = parent_there t p c.args.parent c.args.function c.args.input.now of same opened in
    let full : IsFull old c.args.parent c.args.function c.args.input.now old chain.calls chain.bytes p.depth = record {
      did = made old old o Reply.chain_full (full_did t p c.args.parent c.args.function c.args.input.now of same opened none) refl refl tt;
      same = refl;
      of = of.of;
      there = there;
      calls_so = kept.calls_so ∙ ap (λ q. length (calls_of t.records q)) of.request_so;
      bytes_so = kept.bytes_so ∙ ap (bytes_of t.records) of.request_so;
      depth_so = of.depth_so;
    } in
    subst (λ (s : SessionTable). IsFull s c.args.parent c.args.function c.args.input.now s chain.calls chain.bytes p.depth) c.self.view_is full

pub add_child-requires : goal.add_child-requires
add_child-requires c =
    let p = c.parent_of-p.result in
    let t = c.self.inside.store in
    let chain = c.of-chain.result in
    let kept = subst (ChainIs t.records p.request) (sym c.of-chain.ensures) (c.self.invariant.chains.each p.request) in
    let room = allows chain.calls (chain.bytes + c.bytes-bytes.result) p.depth (sym c.has_room.ensures ∙ c.if-not-has_room.false) in
    record {
      parent = subst (λ (s : SessionTable). IsParent s.table p) c.self.view_is c.parent_of-p.ensures.parent;
      depth = room.not_deep;
      bytes = c.bytes-bytes.ensures.sum;
      calls = subst (λ (s : SessionTable). length (calls_of s.table.records p.request) < call_limit) c.self.view_is (subst (λ n. n < call_limit) kept.calls_so room.calls_few);
      room = subst (λ (s : SessionTable). bytes_of s.table.records p.request + c.bytes-bytes.result ≤ byte_limit) c.self.view_is (subst (λ n. n + c.bytes-bytes.result ≤ byte_limit) kept.bytes_so room.bytes_few);
      function = c.requires.function;
      input = c.requires.input;
    }

pub returns-in-Ok-clause-ok : goal.returns-in-Ok-clause-ok
returns-in-Ok-clause-ok c =
    let now = c.args.self.now in
    let t = c.self.inside.store in
    let p = c.parent_of-p.result in
    let of = c.parent_of-p.ensures.parent in
    let same = c.parent_of-p.ensures.call in
    let chain = c.of-chain.result in
    let o : TableOperation = submit c.args.parent c.args.function c.args.input.now in
    let opened : passes_at (λ r. is_open r.state) t.records c.args.parent ≡ true = subst (λ (s : SessionTable). passes_at (λ r. is_open r.state) s.table.records c.args.parent ≡ true) (sym c.self.view_is) c.requires.parent in
    let kept = subst (ChainIs t.records p.request) (sym c.of-chain.ensures) (c.self.invariant.chains.each p.request) in
    let more : c.bytes-bytes.result ≡ length c.args.input.now + (callable t c.args.function).room =
    c.bytes-bytes.ensures.sum ∙ ap (λ (s : SessionTable). length c.args.input.now + (callable s.table c.args.function).room) (sym c.self.view_is) in
    let some : has_room t of.of c.args.function c.args.input.now ≡ true =
    sym (room_so t p c.args.parent c.args.function c.args.input.now of same opened chain.calls chain.bytes c.bytes-bytes.result kept.calls_so kept.bytes_so more) ∙ sym c.has_room.ensures ∙ c.if-not-has_room.false in
    let new = c.add_child.new.self in
    let is : IsChildOf t p c.args.function c.args.input.now new.table = subst (λ (s : SessionTable). IsChildOf s.table p c.args.function c.args.input.now new.table) (sym c.self.view_is) c.in-Ok.ensures.ok in
    let did = child_did t p c.args.parent c.args.function c.args.input.now of same opened new.table some is in
    made now new o (Reply.child p.child) (subst (λ (s : SessionTable). Did s.table o new.table (Reply.child p.child)) c.self.view_is did) c.add_child.ensures.rest.0 c.add_child.ensures.rest.1 tt
