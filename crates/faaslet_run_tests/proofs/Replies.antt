-- A reply that may come to a question of the code stands for one of the definitions that fits.
use Rattle.std.proofs.Common.{◌≡◌, ℕ, ◌≤◌, ◌<◌, Bool, true, cond, List, Option, Some, None, length, take, replicate, slice_get, slice_set, refl, ap, ◌∙◌, subst, arith, option_map}
use Rattle.std.specs.Prelude.{IsTrue, ◌==◌, ◌&&◌, nat_lt, nat_le}
use Rattle.std.proofs.lemmas.Bool.{eq-eqb, lt-ltb, le-leb}
use Rattle.std.proofs.lemmas.List.{length-replicate, length-take-le}
use Rattle.std.proofs.lemmas.Option.{same_Some}
use Rattle.faaslet_meaning.specs.declared.ask.Ask.{Ask}
use Rattle.faaslet_meaning.specs.declared.ask.Ask.TheVariants as an_ask
use Rattle.faaslet_meaning.specs.declared.ask.AskOp.{AskOp}
use Rattle.faaslet_meaning.specs.declared.ask.AskOp.TheVariants as op
use Rattle.faaslet_meaning.specs.declared.ask.Move.{Move}
use Rattle.faaslet_meaning.specs.declared.ask.Move.TheVariants as move
use Rattle.faaslet_meaning.specs.declared.ask.Reply as coded
use Rattle.faaslet_meaning.specs.declared.ask.Reply.TheVariants as a_reply
use Rattle.faaslet_meaning.specs.declared.grant.Channel.{Channel}
use Rattle.faaslet_meaning.specs.declared.grant.Channel.TheVariants.{Table}
use Rattle.faaslet_meaning.specs.declared.outcome.Outcome.{Outcome}
use Rattle.faaslet_meaning.specs.Asks.{RepliesAs, IsMoved, front, operation_of, question_of_ask, size_of_key, submit_of}
use Rattle.faaslet_meaning.specs.Call.{child_limit, fits, output_limit, same_length}
use Rattle.faaslet_meaning.specs.CallState.{Invocation, State}
use Rattle.faaslet_meaning.specs.Channels.{RegionOperation, Operation, on_region, Question, ask, fills, Reply}
use Rattle.faaslet_meaning.specs.Checks.{noted}
use Rattle.faaslet_run_tests.specs.Children.{MayCome, MayReply, MayFinish, known_after, known_then, seen_of}

-- it stands for this reply, which fits, and by which the call knows what the code notes
pub record Comes (a : Ask) (r : coded.Reply) (kids : List (Option ℕ)) (scratch : List ℕ) (s : State) (q : Question) : Type 0 where
  pub reply : Reply
  pub replies : RepliesAs q r scratch reply
  pub fit : IsTrue (fits s q reply)
  pub known : known_after kids q reply ≡ known_then a r kids

front_is : (n : ℕ) (bytes : List ℕ) → n ≤ length bytes → front n bytes ≡ Some (take n bytes)
front_is n bytes l = ap (λ (b : Bool). cond b (Some (take n bytes)) None) (le-leb n (length bytes) l)

as_long : (n len : ℕ) → n ≡ len → (n == len && true) ≡ true
as_long n len e = ap (λ (b : Bool). b && true) (eq-eqb n len e)

module _ (kids : List (Option ℕ)) (asked scratch : List ℕ) (long : length scratch ≡ 65536) (s : State) (own : s.children ≡ kids) where
  -- ---- To a question on a region.

  module _ (channel : Channel) where
    abbrev On : AskOp → coded.Reply → Operation → Type 0
    On o r x = Comes (an_ask.Region channel o) r kids scratch s (ask channel x)

    on_read : (off len n : ℕ) → n ≡ len → n ≤ 65536 → On (op.Read off len) (a_reply.Bytes n) (on_region (RegionOperation.read off len))
    on_read off len n e l =
        let few : n ≤ length scratch = omega (arith, l, long) in
        record {
          reply = Reply.bytes (take n scratch);
          replies = ap (λ (x : Option (List ℕ)). option_map (λ content. Reply.bytes content) x) (front_is n scratch few);
          fit = as_long (length (take n scratch)) len (length-take-le n scratch few ∙ e);
          known = refl;
        }

    on_write : (off len : ℕ) (x : Operation) → operation_of (op.Write off len) asked ≡ Some x → On (op.Write off len) a_reply.Done x
    on_write off len x e = by (front len asked) e
      where
        by : (b : Option (List ℕ)) → option_map (λ bytes. on_region (RegionOperation.write off bytes)) b ≡ Some x → On (op.Write off len) a_reply.Done x
        by (Some bytes) e = subst (On (op.Write off len) a_reply.Done) (same_Some _ _ e) (record { reply = Reply.done; replies = refl; fit = refl; known = refl })
        by None e = absurd (cc)

    on_append : (len : ℕ) (r : coded.Reply) (x : Operation) → ((bytes : List ℕ) → On (op.Append len) r (on_region (RegionOperation.append bytes))) → operation_of (op.Append len) asked ≡ Some x → On (op.Append len) r x
    on_append len r x so e = by (front len asked) e
      where
        by : (b : Option (List ℕ)) → option_map (λ bytes. on_region (RegionOperation.append bytes)) b ≡ Some x → On (op.Append len) r x
        by (Some bytes) e = subst (On (op.Append len) r) (same_Some _ _ e) (so bytes)
        by None e = absurd (cc)

    on_op : (o : AskOp) (r : coded.Reply) (x : Operation) → MayReply o r → operation_of o asked ≡ Some x → On o r x
    on_op op.Probe (a_reply.Present b) x m e = subst (On op.Probe (a_reply.Present b)) (same_Some _ _ e) (record { reply = Reply.present b; replies = refl; fit = refl; known = refl })
    on_op (op.Read off len) (a_reply.Bytes n) x m e = subst (On (op.Read off len) (a_reply.Bytes n)) (same_Some _ _ e) (on_read off len n m.0 m.1)
    on_op op.Size (a_reply.Number n) x m e = subst (On op.Size (a_reply.Number n)) (same_Some _ _ e) (record { reply = Reply.number n; replies = refl; fit = refl; known = refl })
    on_op (op.Append len) (a_reply.Number n) x m e = on_append len (a_reply.Number n) x (λ bytes. record { reply = Reply.number n; replies = refl; fit = refl; known = refl }) e
    on_op (op.Append len) a_reply.Full x m e = on_append len a_reply.Full x (λ bytes. record { reply = Reply.full; replies = refl; fit = refl; known = refl }) e
    on_op (op.Write off len) a_reply.Done x m e = on_write off len x e
    on_op op.LockRead a_reply.Done x m e = subst (On op.LockRead a_reply.Done) (same_Some _ _ e) (record { reply = Reply.done; replies = refl; fit = refl; known = refl })
    on_op op.LockWrite a_reply.Done x m e = subst (On op.LockWrite a_reply.Done) (same_Some _ _ e) (record { reply = Reply.done; replies = refl; fit = refl; known = refl })
    on_op op.Unlock a_reply.Done x m e = subst (On op.Unlock a_reply.Done) (same_Some _ _ e) (record { reply = Reply.done; replies = refl; fit = refl; known = refl })
    on_op o r x m e = absurd m

    on_region_so : (o : AskOp) (r : coded.Reply) (q : Question) → MayReply o r → option_map (λ (x : Operation). ask channel x) (operation_of o asked) ≡ Some q → Comes (an_ask.Region channel o) r kids scratch s q
    on_region_so o r q m e = by (operation_of o asked) refl e
      where
        by : (x : Option Operation) → operation_of o asked ≡ x → option_map (λ (y : Operation). ask channel y) x ≡ Some q → Comes (an_ask.Region channel o) r kids scratch s q
        by (Some x) h e = subst (Comes (an_ask.Region channel o) r kids scratch s) (same_Some _ _ e) (on_op o r x m h)
        by None h e = absurd (cc)

  -- ---- To a move.

  zeros : (n : ℕ) → IsMoved a_reply.Done n (Reply.bytes (replicate n 0))
  zeros n = record { is_done = refl; moved = replicate n 0; is_long = length-replicate n 0; is_answer = refl }

  on_fill : (j : Invocation) (key : ℕ) (q : Question) → question_of_ask j (an_ask.Move key move.Fill) asked ≡ Some q → Comes (an_ask.Move key move.Fill) a_reply.Done kids scratch s q
  on_fill j key q e = by (size_of_key j.program.grants key) e
    where
      by : (x : Option ℕ) → option_map (λ size. fills key size) x ≡ Some q → Comes (an_ask.Move key move.Fill) a_reply.Done kids scratch s q
      by (Some n) e = subst (Comes (an_ask.Move key move.Fill) a_reply.Done kids scratch s) (same_Some _ _ e) (record { reply = Reply.bytes (replicate n 0); replies = zeros n; fit = as_long (length (replicate n 0)) n (length-replicate n 0); known = refl })
      by None e = absurd (cc)

  on_move : (j : Invocation) (key : ℕ) (kind : Move) (q : Question) → question_of_ask j (an_ask.Move key kind) asked ≡ Some q → Comes (an_ask.Move key kind) a_reply.Done kids scratch s q
  on_move j key move.Fill q e = on_fill j key q e
  on_move j key (move.Pull off len) q e = subst (Comes (an_ask.Move key (move.Pull off len)) a_reply.Done kids scratch s) (same_Some _ _ e) (record { reply = Reply.bytes (replicate len 0); replies = zeros len; fit = as_long (length (replicate len 0)) len (length-replicate len 0); known = refl })
  on_move j key (move.Push off len) q e = subst (Comes (an_ask.Move key (move.Push off len)) a_reply.Done kids scratch s) (same_Some _ _ e) (record { reply = Reply.bytes (replicate len 0); replies = zeros len; fit = as_long (length (replicate len 0)) len (length-replicate len 0); known = refl })

  -- ---- To a question on the table.

  on_submit : (j : Invocation) (f len : ℕ) (r : coded.Reply) (q : Question) → ((function : ℕ) (input : List ℕ) → Comes (an_ask.Submit f len) r kids scratch s (ask Table (Operation.submit function input))) → question_of_ask j (an_ask.Submit f len) asked ≡ Some q → Comes (an_ask.Submit f len) r kids scratch s q
  on_submit j f len r q so e = by (slice_get j.callees f) (front len asked) e
    where
      by : (x : Option ℕ) (y : Option (List ℕ)) → submit_of x y ≡ Some q → Comes (an_ask.Submit f len) r kids scratch s q
      by (Some function) (Some input) e = subst (Comes (an_ask.Submit f len) r kids scratch s) (same_Some _ _ e) (so function input)
      by (Some function) None e = absurd (cc)
      by None y e = absurd (cc)

  few_children : length kids < child_limit → nat_lt (length s.children) child_limit ≡ true
  few_children l = lt-ltb (length s.children) child_limit (let same = ap length own in omega (arith, l, same))

  on_look : (child len : ℕ) (o : Outcome) → MayFinish kids child len → Comes (an_ask.Look child) (a_reply.Finished o len) kids scratch s (ask Table (Operation.look child))
  on_look child len o m =
      let few : len ≤ length scratch = (let l = m.0 in omega (arith, l, long)) in
      let same : length (take len scratch) ≡ len = length-take-le len scratch few in
      let seen : noted s child ≡ seen_of kids child = ap (λ (ks : List (Option ℕ)). seen_of ks child) own in
      let fine : (nat_le len output_limit && same_length (seen_of kids child) len) ≡ true = ap (λ (b : Bool). b && same_length (seen_of kids child) len) (le-leb len output_limit m.0) ∙ m.1 in
      record {
        reply = Reply.finished o (take len scratch);
        replies = ap (λ (x : Option (List ℕ)). option_map (λ output. Reply.finished o output) x) (front_is len scratch few);
        fit = ap (λ (x : Option ℕ). nat_le (length (take len scratch)) output_limit && same_length x (length (take len scratch))) seen ∙ ap (λ (n : ℕ). nat_le n output_limit && same_length (seen_of kids child) n) same ∙ fine;
        known = ap (λ (n : ℕ). slice_set kids child (Some n)) same;
      }

  pub comes_so : (j : Invocation) (a : Ask) (r : coded.Reply) (q : Question) → MayCome a r kids → question_of_ask j a asked ≡ Some q → Comes a r kids scratch s q
  comes_so j (an_ask.Region channel o) r q m e = on_region_so channel o r q m e
  comes_so j (an_ask.Move key kind) a_reply.Done q m e = on_move j key kind q e
  comes_so j (an_ask.Submit f len) (a_reply.Child n) q m e = on_submit j f len (a_reply.Child n) q (λ function input. record { reply = Reply.child n; replies = refl; fit = few_children m; known = refl }) e
  comes_so j (an_ask.Submit f len) a_reply.ChainFull q m e = on_submit j f len a_reply.ChainFull q (λ function input. record { reply = Reply.chain_full; replies = refl; fit = refl; known = refl }) e
  comes_so j (an_ask.Submit f len) a_reply.Want q m e = on_submit j f len a_reply.Want q (λ function input. record { reply = Reply.want; replies = refl; fit = refl; known = refl }) e
  comes_so j (an_ask.Look child) (a_reply.Finished o len) q m e = subst (Comes (an_ask.Look child) (a_reply.Finished o len) kids scratch s) (same_Some _ _ e) (on_look child len o m)
  comes_so j a r q m e = absurd m
