-- A lock keeps a question back exactly where one of its entries may not stand.
use Rattle.std.proofs.Common.{◌≡◌, ℕ, Bool, true, false, cond, List, [], ◌∷◌, Option, Some, None, refl, sym, ap, ◌∙◌, min, option_map, slice_get, subst}
use Rattle.std.specs.Prelude.{IsTrue}
use Rattle.std.specs.List.{AllByRecursion, cons_option}
use Rattle.faaslet_meaning.specs.declared.grant.Channel.{Channel}
use Rattle.faaslet_meaning.specs.declared.grant.Channel.TheVariants.{Local, Global, Table as OnTable}
use Rattle.faaslet_meaning.specs.Lists.{is_empty, first, least, passes_at}
use Rattle.faaslet_meaning.specs.Channels.{RegionOperation, Operation, on_region, Reply, Question, ask, fills, pulls, pushes, entry, entries}
use Rattle.faaslet_meaning.specs.Records.{is_finished}
use Rattle.faaslet_meaning.specs.Region as region
use Rattle.faaslet_meaning.specs.Region.{Region, Kind, reads, writes, kind, others, may, blocker, blocked_by, has_room}
use Rattle.session_meaning.specs.World.{World}
use Rattle.session_meaning.specs.Events.{Obstacle, held, unfinished, obstacle, child_at, local_at, global_at, answer, entries_now}
use Rattle.session_meaning.specs.KeptBack.{region_at, MayStand, IsBlocked, LocksKeepBack}

some_same : {A : Type 0} {x y : A} → Some x ≡ Some y → x ≡ y
some_same e = cc

-- ---- Who blocks.

none_least : (xs : List ℕ) → least xs ≡ None → is_empty xs ≡ true
none_least [] e = refl
none_least (x ∷ xs) e = by (least xs) e
  where
    by : (o : Option ℕ) → elim o as (λ o. Option ℕ) [ None ↦ Some x | Some y ↦ Some (min x y) ] ≡ None → is_empty (x ∷ xs) ≡ true
    by None e = let no : ⊥ = cc in absurd no
    by (Some y) e = let no : ⊥ = cc in absurd no

some_least : (xs : List ℕ) (n : ℕ) → least xs ≡ Some n → is_empty xs ≡ false
some_least [] n e = let no : ⊥ = cc in absurd no
some_least (x ∷ xs) n e = refl

-- ---- An entry on a region.

stands : (w : World) (call host : ℕ) (ch : Channel) (s : Region) (op : RegionOperation) (r : Reply) → region_at w host ch ≡ Some s → blocker s call (kind op) ≡ None → MayStand w call host (entry ch (on_region op) r)
stands w call host ch s op r at free t o there is =
    let same : s ≡ t = some_same (sym at ∙ there) in
    let one : op ≡ o = some_same is in
    subst (λ p. IsTrue (may t call p)) one (subst (λ x. IsTrue (may x call op)) same (none_least (others s call (kind op)) free))

blocks : (w : World) (call host : ℕ) (q : Question) (ch : Channel) (s : Region) (op : RegionOperation) (r : Reply) (place holder : ℕ) → slice_get (entries_now w call host q) place ≡ Some (entry ch (on_region op) r) → region_at w host ch ≡ Some s → blocker s call (kind op) ≡ Some holder → IsBlocked w call host q ch holder
blocks w call host q ch s op r place holder asked at by =
    record { place = place; operation = op; reply = r; asked = asked; region = s; there = at; may_not = some_least (others s call (kind op)) holder by; least = by }

-- what is blocked on one channel
abbrev on_one : Channel → Option ℕ → Option Obstacle
on_one ch o = option_map (λ holder. held ch holder) o

held_same : {a b : Channel} {m n : ℕ} → held a m ≡ held b n → (a ≡ b) × (m ≡ n)
held_same e = (cc, cc)

-- ---- A question with one operation.

single : (ch : Channel) (s : Region) (call : ℕ) (op : RegionOperation) → entries (ask ch (on_region op)) (region.reply s call op) ≡ entry ch (on_region op) (region.reply s call op) ∷ []
single ch s call RegionOperation.probe = refl
single ch s call (RegionOperation.read off len) = refl
single ch s call (RegionOperation.send off len) = refl
single ch s call RegionOperation.size = refl
single ch s call (RegionOperation.fill bs) = refl
single ch s call (RegionOperation.write off bs) = refl
single ch s call (RegionOperation.take off bs) = refl
single ch s call (RegionOperation.put off bs) = refl
single ch s call (RegionOperation.append bs) = by (has_room s bs)
  where
    by : (b : Bool) → entries (ask ch (on_region (RegionOperation.append bs))) (cond b (Reply.number s.used) Reply.full) ≡ entry ch (on_region (RegionOperation.append bs)) (cond b (Reply.number s.used) Reply.full) ∷ []
    by true = refl
    by false = refl
single ch s call RegionOperation.lock_read = refl
single ch s call RegionOperation.lock_write = refl
single ch s call RegionOperation.unlock = refl

abbrev first_of_one : Channel → Option ℕ → Option Obstacle
first_of_one ch o = first (cons_option (on_one ch o) [])

one_free : (ch : Channel) (o : Option ℕ) → first_of_one ch o ≡ None → o ≡ None
one_free ch None e = refl
one_free ch (Some n) e = let no : ⊥ = cc in absurd no

one_held : (ch : Channel) (o : Option ℕ) (channel : Channel) (holder : ℕ) → first_of_one ch o ≡ Some (held channel holder) → (ch ≡ channel) × (o ≡ Some holder)
one_held ch None channel holder e = let no : ⊥ = cc in absurd no
one_held ch (Some n) channel holder e = let s = held_same (some_same e) in (s.0, ap (λ m. Some m) s.1)

by_one : (w : World) (call host : ℕ) (ch : Channel) (s : Region) (op : RegionOperation) (r : Reply) → region_at w host ch ≡ Some s → obstacle w call host (ask ch (on_region op)) ≡ first_of_one ch (blocker s call (kind op)) → entries_now w call host (ask ch (on_region op)) ≡ entry ch (on_region op) r ∷ [] → LocksKeepBack w call host (ask ch (on_region op))
by_one w call host ch s op r at what asked =
    record {
      free = λ e. subst (AllByRecursion (MayStand w call host)) (sym asked) (stands w call host ch s op r at (one_free ch (blocker s call (kind op)) (sym what ∙ e)), tt);
      blocked = λ channel holder e.
          let h = one_held ch (blocker s call (kind op)) channel holder (sym what ∙ e) in
          subst (λ c. IsBlocked w call host (ask ch (on_region op)) c holder) h.0 (blocks w call host (ask ch (on_region op)) ch s op r 0 holder (ap (λ es. slice_get es 0) asked) at h.1);
    }

-- ---- A move: its local half first.

abbrev first_of_two : ℕ → Option ℕ → Option ℕ → Option Obstacle
first_of_two key a b = first (cons_option (on_one (Local key) a) (cons_option (on_one (Global key) b) []))

two_free : (key : ℕ) (a b : Option ℕ) → first_of_two key a b ≡ None → (a ≡ None) × (b ≡ None)
two_free key None None e = (refl, refl)
two_free key None (Some n) e = let no : ⊥ = cc in absurd no
two_free key (Some m) b e = let no : ⊥ = cc in absurd no

-- it makes these two entries, where the local one has this place and the global one that
by_two : (w : World) (call host : ℕ) (q : Question) (key : ℕ) (l g : RegionOperation) (r r' : Reply) (m n : ℕ) → obstacle w call host q ≡ first_of_two key (blocker (local_at w host key) call (kind l)) (blocker (global_at w key) call (kind g))
    → slice_get (entries_now w call host q) m ≡ Some (entry (Local key) (on_region l) r) → slice_get (entries_now w call host q) n ≡ Some (entry (Global key) (on_region g) r')
    → (MayStand w call host (entry (Local key) (on_region l) r) → MayStand w call host (entry (Global key) (on_region g) r') → AllByRecursion (MayStand w call host) (entries_now w call host q))
    → LocksKeepBack w call host q
by_two w call host q key l g r r' m n what at_m at_n both =
    record {
      free = λ e. let f = two_free key _ _ (sym what ∙ e) in both (stands w call host (Local key) (local_at w host key) l r refl f.0) (stands w call host (Global key) (global_at w key) g r' refl f.1);
      blocked = λ channel holder e. by (blocker (local_at w host key) call (kind l)) (blocker (global_at w key) call (kind g)) refl refl channel holder (sym what ∙ e);
    }
  where
    by : (a b : Option ℕ) → blocker (local_at w host key) call (kind l) ≡ a → blocker (global_at w key) call (kind g) ≡ b → (channel : Channel) (holder : ℕ) → first_of_two key a b ≡ Some (held channel holder) → IsBlocked w call host q channel holder
    by (Some x) b i j channel holder e =
        let s = held_same (some_same e) in
        subst (λ c. IsBlocked w call host q c holder) s.0 (blocks w call host q (Local key) (local_at w host key) l r m holder at_m refl (i ∙ ap (λ k. Some k) s.1))
    by None (Some y) i j channel holder e =
        let s = held_same (some_same e) in
        subst (λ c. IsBlocked w call host q c holder) s.0 (blocks w call host q (Global key) (global_at w key) g r' n holder at_n refl (j ∙ ap (λ k. Some k) s.1))
    by None None i j channel holder e = let no : ⊥ = cc in absurd no

-- ---- On the table, and where there is no operation on a region, no lock is asked for.

no_lock : (w : World) (call host : ℕ) (q : Question) → ((channel : Channel) (holder : ℕ) → obstacle w call host q ≡ Some (held channel holder) → ⊥) → AllByRecursion (MayStand w call host) (entries_now w call host q) → LocksKeepBack w call host q
no_lock w call host q never all = record { free = λ e. all; blocked = λ channel holder e. absurd (never channel holder e) }

-- an entry on the table, or one that is no operation on a region
table_stands : (w : World) (call host : ℕ) (op : Operation) (r : Reply) → AllByRecursion (MayStand w call host) (entries (ask OnTable op) r)
table_stands w call host op Reply.want = tt
table_stands w call host op Reply.done = ((λ s o there is. let no : ⊥ = cc in absurd no), tt)
table_stands w call host op Reply.full = ((λ s o there is. let no : ⊥ = cc in absurd no), tt)
table_stands w call host op Reply.chain_full = ((λ s o there is. let no : ⊥ = cc in absurd no), tt)
table_stands w call host op (Reply.present b) = ((λ s o there is. let no : ⊥ = cc in absurd no), tt)
table_stands w call host op (Reply.bytes bs) = ((λ s o there is. let no : ⊥ = cc in absurd no), tt)
table_stands w call host op (Reply.number n) = ((λ s o there is. let no : ⊥ = cc in absurd no), tt)
table_stands w call host op (Reply.child n) = ((λ s o there is. let no : ⊥ = cc in absurd no), tt)
table_stands w call host op (Reply.finished o bs) = ((λ s p there is. let no : ⊥ = cc in absurd no), tt)

no_held : (b : Bool) (child holder : ℕ) (channel : Channel) → ◌≡◌ {A = Option Obstacle} (cond b None (Some (unfinished child))) (Some (held channel holder)) → ⊥
no_held true child holder channel e = cc
no_held false child holder channel e = cc

pub locks_keep_back : (w : World) (call host : ℕ) (q : Question) → LocksKeepBack w call host q
locks_keep_back w call host (ask (Local key) (on_region op)) = by_one w call host (Local key) (local_at w host key) op (region.reply (local_at w host key) call op) refl refl (single (Local key) (local_at w host key) call op)
locks_keep_back w call host (ask (Global key) (on_region op)) = by_one w call host (Global key) (global_at w key) op (region.reply (global_at w key) call op) refl refl (single (Global key) (global_at w key) call op)
locks_keep_back w call host (ask (Local key) (Operation.submit f input)) = no_lock w call host _ (λ channel holder e. cc) ((λ s o there is. let no : ⊥ = cc in absurd no), tt)
locks_keep_back w call host (ask (Local key) (Operation.look c)) = no_lock w call host _ (λ channel holder e. cc) ((λ s o there is. let no : ⊥ = cc in absurd no), tt)
locks_keep_back w call host (ask (Global key) (Operation.submit f input)) = no_lock w call host _ (λ channel holder e. cc) ((λ s o there is. let no : ⊥ = cc in absurd no), tt)
locks_keep_back w call host (ask (Global key) (Operation.look c)) = no_lock w call host _ (λ channel holder e. cc) ((λ s o there is. let no : ⊥ = cc in absurd no), tt)
locks_keep_back w call host (ask OnTable (on_region op)) = no_lock w call host _ (λ channel holder e. cc) (table_stands w call host (on_region op) (answer w call host (ask OnTable (on_region op))))
locks_keep_back w call host (ask OnTable (Operation.submit f input)) = no_lock w call host _ (λ channel holder e. cc) (table_stands w call host (Operation.submit f input) (answer w call host (ask OnTable (Operation.submit f input))))
locks_keep_back w call host (ask OnTable (Operation.look c)) = no_lock w call host _ (λ channel holder e. no_held (passes_at (λ r. is_finished r.state) w.table.records (child_at w.table.records call c)) (child_at w.table.records call c) holder channel e) (table_stands w call host (Operation.look c) (answer w call host (ask OnTable (Operation.look c))))
locks_keep_back w call host (fills key n) = by_two w call host (fills key n) key (RegionOperation.fill _) (RegionOperation.send 0 n) Reply.done _ 1 0 refl refl refl (λ l g. (g, (l, tt)))
locks_keep_back w call host (pulls key off len) = by_two w call host (pulls key off len) key (RegionOperation.take off _) (RegionOperation.send off len) Reply.done _ 1 0 refl refl refl (λ l g. (g, (l, tt)))
locks_keep_back w call host (pushes key off len) = by_two w call host (pushes key off len) key (RegionOperation.send off len) (RegionOperation.put off _) _ Reply.done 0 1 refl refl refl (λ l g. (l, (g, tt)))
