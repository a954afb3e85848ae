-- A Submit that adds a child, and one that is refused, are those of the table.
use Rattle.std.proofs.Common.{◌≡◌, ℕ, ◌+◌, ◌<◌, ◌≤◌, ◌++◌, ◌∷◌, List, [], true, false, cond, Some, None, length, slice_get, sym, ap, ◌∙◌}
use Rattle.std.specs.Prelude.{nat_lt, nat_le, ◌&&◌, if◌then◌else◌}
use Rattle.std.proofs.lemmas.Bool.{and_parts, ltb-true, leb-true}
use Rattle.faaslet_meaning.specs.declared.call.CallRecord.{CallRecord}
use Rattle.faaslet_meaning.specs.Channels.{Reply}
use Rattle.faaslet_meaning.specs.Lists.{passes_at, changed}
use Rattle.faaslet_meaning.specs.Records.{is_open, calls_of, bytes_of}
use Rattle.faaslet_meaning.specs.Table.{Table, submit, has_room, child_record, queued_record, one_more_child, callable, call_limit, byte_limit, depth_limit}
use Rattle.call_table.specs.Did.{Did}
use Rattle.call_table.specs.Parent.{IsParent, IsChildOf}
use Rattle.call_table.specs.declared.store.Parent.{Parent}
use Rattle.call_table.proofs.Mine.{submit_leaves}

module _ (t : Table) (p : Parent) (parent function : ℕ) (input : List ℕ) (of : IsParent t p) (same : p.call ≡ parent) (opened : passes_at (λ r. is_open r.state) t.records parent ≡ true) where
  pub parent_there : slice_get t.records parent ≡ Some of.of
  parent_there = ap (slice_get t.records) (sym same) ∙ of.there

  child_is : record (queued_record t function p.host input) { request = p.request; parent = Some p.call; child = p.child; depth = p.depth + 1 } ≡ child_record t parent of.of function input
  child_is =
      ap (λ n. record (queued_record t function p.host input) { request = n; parent = Some p.call; child = p.child; depth = p.depth + 1 }) of.request_so
      ∙ ap (λ n. record (queued_record t function p.host input) { request = of.of.request; parent = Some n; child = p.child; depth = p.depth + 1 }) same
      ∙ ap (λ n. record (queued_record t function p.host input) { request = of.of.request; parent = Some parent; child = n; depth = p.depth + 1 }) of.child_so
      ∙ ap (λ n. record (queued_record t function p.host input) { request = of.of.request; parent = Some parent; child = of.of.children; depth = n + 1 }) of.depth_so
      ∙ ap (λ n. record (queued_record t function n input) { request = of.of.request; parent = Some parent; child = of.of.children; depth = of.of.depth + 1 }) of.host_so

  pub child_did : (new : Table) → has_room t of.of function input ≡ true → IsChildOf t p function input new → Did t (submit parent function input) new (Reply.child p.child)
  child_did new room is =
      record {
        may_stand = λ m. opened;
        after_so = λ m.
            is
            ∙ ap (λ n. record t { records = changed t.records n one_more_child ++ record (queued_record t function p.host input) { request = p.request; parent = Some p.call; child = p.child; depth = p.depth + 1 } ∷ [] }) same
            ∙ ap (λ (c : CallRecord). record t { records = changed t.records parent one_more_child ++ c ∷ [] }) child_is
            ∙ sym (ap (submit_leaves t parent function input) parent_there
            ∙ ap (λ b. cond b (record t { records = changed t.records parent one_more_child ++ child_record t parent of.of function input ∷ [] }) t) room);
        reply_so = λ m.
            ap (λ n. Reply.child n) of.child_so
            ∙ sym (ap (λ o. elim o [ None ↦ Reply.done | Some r ↦ if has_room t r function input then Reply.child r.children else Reply.chain_full ]) parent_there ∙ ap (λ b. cond b (Reply.child of.of.children) Reply.chain_full) room);
      }

  pub full_did : has_room t of.of function input ≡ false → Did t (submit parent function input) t Reply.chain_full
  full_did room =
      record {
        may_stand = λ m. opened;
        after_so = λ m. sym (ap (submit_leaves t parent function input) parent_there
            ∙ ap (λ b. cond b (record t { records = changed t.records parent one_more_child ++ child_record t parent of.of function input ∷ [] }) t) room);
        reply_so = λ m. sym (ap (λ o. elim o [ None ↦ Reply.done | Some r ↦ if has_room t r function input then Reply.child r.children else Reply.chain_full ]) parent_there ∙ ap (λ b. cond b (Reply.child of.of.children) Reply.chain_full) room);
      }

  -- the limits of the definition, by what is kept of the request and the bytes of the child
  pub room_so : (calls bytes more : ℕ) → calls ≡ length (calls_of t.records p.request) → bytes ≡ bytes_of t.records p.request → more ≡ length input + (callable t function).room
      → (nat_lt calls call_limit && nat_le (bytes + more) byte_limit && nat_lt p.depth depth_limit) ≡ has_room t of.of function input
  room_so calls bytes more a b c =
      ap (λ n. nat_lt n call_limit && nat_le (bytes + more) byte_limit && nat_lt p.depth depth_limit) (a ∙ ap (λ q. length (calls_of t.records q)) of.request_so)
      ∙ ap (λ n. nat_lt (length (calls_of t.records of.of.request)) call_limit && nat_le (n + more) byte_limit && nat_lt p.depth depth_limit) (b ∙ ap (bytes_of t.records) of.request_so)
      ∙ ap (λ n. nat_lt (length (calls_of t.records of.of.request)) call_limit && nat_le (bytes_of t.records of.of.request + n) byte_limit && nat_lt p.depth depth_limit) c
      ∙ ap (λ n. nat_lt (length (calls_of t.records of.of.request)) call_limit && nat_le (bytes_of t.records of.of.request + (length input + (callable t function).room)) byte_limit && nat_lt n depth_limit) of.depth_so

-- what the limits allow, where they have room
pub record Allows (calls bytes depth : ℕ) : Type 0 where
  pub calls_few : calls < call_limit
  pub bytes_few : bytes ≤ byte_limit
  pub not_deep : depth < depth_limit

pub allows : (calls bytes depth : ℕ) → (nat_lt calls call_limit && nat_le bytes byte_limit && nat_lt depth depth_limit) ≡ true → Allows calls bytes depth
allows calls bytes depth e =
    let both = and_parts (nat_lt calls call_limit && nat_le bytes byte_limit) (nat_lt depth depth_limit) e in
    let front = and_parts (nat_lt calls call_limit) (nat_le bytes byte_limit) both.0 in
    record { calls_few = ltb-true calls call_limit front.0; bytes_few = leb-true bytes byte_limit front.1; not_deep = ltb-true depth depth_limit both.1 }
