-- What the replies to questions on state are like, and those to questions on the table.
use Rattle.std.proofs.Common.{◌≡◌, ℕ, Bool, true, false, cond, [], ◌∷◌, refl, ap, ◌∙◌}
use Rattle.faaslet_meaning.specs.declared.grant.Channel.{Channel}
use Rattle.faaslet_meaning.specs.declared.grant.Channel.TheVariants.{Local, Global, Table}
use Rattle.faaslet_meaning.specs.Call.{comes}
use Rattle.faaslet_meaning.specs.CallState.{State}
use Rattle.faaslet_meaning.specs.Channels.{RegionOperation, Operation, on_region, submit, look, Reply, Question, ask, fills, pulls, pushes, entries, on_channel, same_channel, has_form}
use Rattle.call_service.specs.Asked.{told_as}
use Rattle.told_asks.specs.Seen.{Kids, seen_after}

-- neither a child nor want of memory
abbrev pub Plain : Reply → Type 0
Plain (Reply.child n) = ⊥
Plain Reply.want = ⊥
Plain r = Unit {0}

abbrev pub AsksState : Question → Type 0
AsksState (ask ch (on_region op)) = Unit {0}
AsksState (ask ch (submit f bs)) = ⊥
AsksState (ask ch (look c)) = ⊥
AsksState q = Unit {0}

no_child : (op : RegionOperation) (ch : Channel) (n : ℕ) → has_form (ask ch (on_region op)) (Reply.child n) ≡ true → ⊥
no_child RegionOperation.probe ch n h = cc
no_child RegionOperation.size ch n h = cc
no_child RegionOperation.lock_read ch n h = cc
no_child RegionOperation.lock_write ch n h = cc
no_child RegionOperation.unlock ch n h = cc
no_child (RegionOperation.read off len) ch n h = cc
no_child (RegionOperation.send off len) ch n h = cc
no_child (RegionOperation.fill bs) ch n h = cc
no_child (RegionOperation.append bs) ch n h = cc
no_child (RegionOperation.write off bs) ch n h = cc
no_child (RegionOperation.take off bs) ch n h = cc
no_child (RegionOperation.put off bs) ch n h = cc

no_want : (op : RegionOperation) (ch : Channel) → has_form (ask ch (on_region op)) Reply.want ≡ true → ⊥
no_want RegionOperation.probe ch h = cc
no_want RegionOperation.size ch h = cc
no_want RegionOperation.lock_read ch h = cc
no_want RegionOperation.lock_write ch h = cc
no_want RegionOperation.unlock ch h = cc
no_want (RegionOperation.read off len) ch h = cc
no_want (RegionOperation.send off len) ch h = cc
no_want (RegionOperation.fill bs) ch h = cc
no_want (RegionOperation.append bs) ch h = cc
no_want (RegionOperation.write off bs) ch h = cc
no_want (RegionOperation.take off bs) ch h = cc
no_want (RegionOperation.put off bs) ch h = cc

pub plain : (q : Question) (r : Reply) → AsksState q → has_form q r ≡ true → Plain r
plain (ask ch (on_region op)) (Reply.child n) a h = no_child op ch n h
plain (ask ch (on_region op)) Reply.want a h = no_want op ch h
plain (ask ch (submit f bs)) r a h = absurd a
plain (ask ch (look c)) r a h = absurd a
plain (fills key n) (Reply.child m) a h = cc
plain (fills key n) Reply.want a h = cc
plain (pulls key off len) (Reply.child m) a h = cc
plain (pulls key off len) Reply.want a h = cc
plain (pushes key off len) (Reply.child m) a h = cc
plain (pushes key off len) Reply.want a h = cc
plain q Reply.done a h = tt
plain q Reply.full a h = tt
plain q Reply.chain_full a h = tt
plain q (Reply.present b) a h = tt
plain q (Reply.bytes bs) a h = tt
plain q (Reply.number n) a h = tt
plain q (Reply.finished o bs) a h = tt

-- it may come
pub plain_comes : (s : State) (q : Question) (r : Reply) → AsksState q → Plain r → comes s q r ≡ true
plain_comes s q (Reply.child n) a p = absurd p
plain_comes s q Reply.want a p = absurd p
plain_comes s (ask ch (on_region op)) (Reply.finished o bs) a p = refl
plain_comes s (ask ch (submit f cs)) (Reply.finished o bs) a p = absurd a
plain_comes s (ask ch (look c)) (Reply.finished o bs) a p = absurd a
plain_comes s (fills key n) (Reply.finished o bs) a p = refl
plain_comes s (pulls key off len) (Reply.finished o bs) a p = refl
plain_comes s (pushes key off len) (Reply.finished o bs) a p = refl
plain_comes s q Reply.done a p = refl
plain_comes s q Reply.full a p = refl
plain_comes s q Reply.chain_full a p = refl
plain_comes s q (Reply.present b) a p = refl
plain_comes s q (Reply.bytes bs) a p = refl
plain_comes s q (Reply.number n) a p = refl

-- it tells of no child
pub plain_seen : (kids : Kids) (q : Question) (r : Reply) → AsksState q → Plain r → seen_after kids q r ≡ kids
plain_seen kids q (Reply.child n) a p = absurd p
plain_seen kids q Reply.want a p = absurd p
plain_seen kids (ask ch (on_region op)) (Reply.finished o bs) a p = by ch
  where
    by : (ch : Channel) → seen_after kids (ask ch (on_region op)) (Reply.finished o bs) ≡ kids
    by (Local key) = refl
    by (Global key) = refl
    by Table = refl
plain_seen kids (ask ch (submit f cs)) (Reply.finished o bs) a p = absurd a
plain_seen kids (ask ch (look c)) (Reply.finished o bs) a p = absurd a
plain_seen kids (fills key n) (Reply.finished o bs) a p = refl
plain_seen kids (pulls key off len) (Reply.finished o bs) a p = refl
plain_seen kids (pushes key off len) (Reply.finished o bs) a p = refl
plain_seen kids q Reply.done a p = refl
plain_seen kids q Reply.full a p = refl
plain_seen kids q Reply.chain_full a p = refl
plain_seen kids q (Reply.present b) a p = refl
plain_seen kids q (Reply.bytes bs) a p = refl
plain_seen kids q (Reply.number n) a p = refl

-- ---- Where the entries are.

pub one_entry : (ch : Channel) (o : Operation) (r : Reply) → Plain r → entries (ask ch o) r ≡ record { channel = ch; operation = o; reply = r } ∷ []
one_entry ch o (Reply.child n) p = absurd p
one_entry ch o Reply.want p = absurd p
one_entry ch o (Reply.finished x bs) p = refl
one_entry ch o Reply.done p = refl
one_entry ch o Reply.full p = refl
one_entry ch o Reply.chain_full p = refl
one_entry ch o (Reply.present b) p = refl
one_entry ch o (Reply.bytes bs) p = refl
one_entry ch o (Reply.number n) p = refl

region_quiet : (call : ℕ) (op : RegionOperation) (r : Reply) (b : Bool) → told_as call (cond b ((on_region op, r) ∷ []) []) ≡ []
region_quiet call op r true = refl
region_quiet call op r false = refl

-- on the table a question on state is nothing
pub state_quiet : (call : ℕ) (q : Question) (r : Reply) → AsksState q → Plain r → told_as call (on_channel Table (entries q r)) ≡ []
state_quiet call q (Reply.child n) a p = absurd p
state_quiet call q Reply.want a p = absurd p
state_quiet call (ask ch (on_region op)) r a p = ap (λ es. told_as call (on_channel Table es)) (one_entry ch (on_region op) r p) ∙ region_quiet call op r (same_channel Table ch)
state_quiet call (ask ch (submit f cs)) r a p = absurd a
state_quiet call (ask ch (look c)) r a p = absurd a
state_quiet call (fills key n) (Reply.bytes bs) a p = refl
state_quiet call (pulls key off len) (Reply.bytes bs) a p = refl
state_quiet call (pushes key off len) (Reply.bytes bs) a p = refl
state_quiet call (fills key n) Reply.done a p = refl
state_quiet call (fills key n) Reply.full a p = refl
state_quiet call (fills key n) Reply.chain_full a p = refl
state_quiet call (fills key n) (Reply.present b) a p = refl
state_quiet call (fills key n) (Reply.number m) a p = refl
state_quiet call (fills key n) (Reply.finished o bs) a p = refl
state_quiet call (pulls key off len) Reply.done a p = refl
state_quiet call (pulls key off len) Reply.full a p = refl
state_quiet call (pulls key off len) Reply.chain_full a p = refl
state_quiet call (pulls key off len) (Reply.present b) a p = refl
state_quiet call (pulls key off len) (Reply.number m) a p = refl
state_quiet call (pulls key off len) (Reply.finished o bs) a p = refl
state_quiet call (pushes key off len) Reply.done a p = refl
state_quiet call (pushes key off len) Reply.full a p = refl
state_quiet call (pushes key off len) Reply.chain_full a p = refl
state_quiet call (pushes key off len) (Reply.present b) a p = refl
state_quiet call (pushes key off len) (Reply.number m) a p = refl
state_quiet call (pushes key off len) (Reply.finished o bs) a p = refl

-- on a key a question on the table is nothing
pub table_quiet : (key : ℕ) (o : Operation) (r : Reply) → (on_channel (Local key) (entries (ask Table o) r) ≡ []) × (on_channel (Global key) (entries (ask Table o) r) ≡ [])
table_quiet key o (Reply.child n) = (refl, refl)
table_quiet key o Reply.want = (refl, refl)
table_quiet key o (Reply.finished x bs) = (refl, refl)
table_quiet key o Reply.done = (refl, refl)
table_quiet key o Reply.full = (refl, refl)
table_quiet key o Reply.chain_full = (refl, refl)
table_quiet key o (Reply.present b) = (refl, refl)
table_quiet key o (Reply.bytes bs) = (refl, refl)
table_quiet key o (Reply.number n) = (refl, refl)
