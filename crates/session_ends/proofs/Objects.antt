-- An object that has ended ran, where its benches are left without locks.
use Rattle.std.proofs.Common.{◌≡◌, ℕ, ◌+◌, ◌<◌, ◌≤◌, Bool, true, false, List, [], ◌∷◌, ◌++◌, Option, Some, None, refl, sym, ap, ap₂, ◌∙◌, map, length, arith, eqb-true}
use Rattle.std.specs.Prelude.{nat_lt, ◌==◌, ◌&&◌, filter, not, option_to_list, slice_range, slice_index_or}
use Rattle.std.specs.List.{All, list_all}
use Rattle.std.proofs.lemmas.Bool.{lt-ltb, eqb-false, eq-eqb}
use Rattle.std.proofs.lemmas.List.Elements.{All-head, All-tail}
use Rattle.faaslet_meaning.specs.Channels.{RegionOperation, Operation, Reply}
use Rattle.faaslet_meaning.specs.History.{History, left, region_rules}
use Rattle.faaslet_meaning.specs.Lists.{is_empty}
use Rattle.faaslet_meaning.specs.Region.{Region, holders, writes, global_value}
use Rattle.faaslet_meaning.specs.Spelling.{spelled, Spells}
use Rattle.faaslet_meaning.proofs.Histories.{legal_both, left_both}
use Rattle.session_meaning.specs.Answered.{Answered, told_of}
use Rattle.session_meaning.specs.Own.{benches, host_of_bench}
use Rattle.session_meaning.specs.Plan.{Key, Plan}
use Rattle.session_meaning.specs.Ran.{ReplicaRan, GlobalRan}
use Rattle.turn_cell.specs.declared.view.Entry.{Entry}
use Rattle.turn_cell.specs.History.{MakersBelow}
use Rattle.region_tier.specs.Holding.{has_lock}
use Rattle.region_tier.proofs.Sound.{still_locked}
use Rattle.told_asks.specs.Leaves.{leaves_lock}
use Rattle.told_asks.proofs.LockTurns.{list_leaves}
use Rattle.bench_parts.specs.AnsweredBy.{answered}
use Rattle.session_ends.specs.Bench.{HeardOn}
use Rattle.session_ends.specs.Ended.{EndedReplica, EndedValue}
use Rattle.session_ends.specs.Opened.{first_replica, first_value}
use Rattle.session_ends.specs.Session.{pairs}
use Rattle.session_ends.proofs.Regions.{led, none_held, strangers_hold_none, replica_free, value_free}

-- ---- Locks, by what was heard.

told_back : (xs : List (Operation × Reply)) → told_of (map (answered None) xs) ≡ xs
told_back [] = refl
told_back (x ∷ xs) = ap (λ ys. x ∷ ys) (told_back xs)

pub heard_unlocked : (start : Region) (bench : ℕ) (whole : List Entry) (heard : List Answered) → HeardOn start bench whole heard → leaves_lock false (told_of heard) ≡ false → has_lock bench whole ≡ false
heard_unlocked start bench whole heard x free =
    let t = x.told_so in
    still_locked bench x.own whole x.others
    ∙ list_leaves start bench x.own t.history t.spells
    ∙ ap (leaves_lock false) (sym t.told_so ∙ sym (told_back x.told) ∙ ap told_of (sym x.heard_so))
    ∙ free

-- ---- Makers, by what the list spells.

all_makers : (test : ℕ → Bool) (list : List Entry) (h : History RegionOperation) → Spells spelled (pairs list) h → All (λ e. test e.maker ≡ true) list → list_all (λ e. test e.0) h ≡ true
all_makers test list [] e all = refl
all_makers test [] (x ∷ h) e all = let no : ⊥ = cc in absurd no
all_makers test (r ∷ list) (x ∷ h) e all =
    let head : ◌≡◌ {A = ℕ × List ℕ} (r.maker, r.numbers) (x.0, spelled x.1) = cc in
    let tail : Spells spelled (pairs list) h = cc in
    ap₂ (λ a b. a && b) (ap test (sym (ap (λ (z : ℕ × List ℕ). z.0) head)) ∙ All-head (λ (d : Entry). test d.maker ≡ true) r list all) (all_makers test list h tail (All-tail (λ (d : Entry). test d.maker ≡ true) r list all))

-- ---- A replica.

replica_makers : (plan : Plan) (host : ℕ) (list : List Entry) → MakersBelow (benches plan) list → All (λ e. host_of_bench plan e.maker ≡ host) list → All (λ e. (nat_lt e.maker (benches plan) && (host_of_bench plan e.maker == host)) ≡ true) list
replica_makers plan host list low here n e l =
    let x = slice_index_or list n e in
    ap₂ (λ a b. a && b) (lt-ltb x.maker (benches plan) (low n e l)) (eq-eqb (host_of_bench plan x.maker) host (here n e l))

-- where no maker below the number of benches is left a lock
replica_ran : (plan : Plan) (host : ℕ) (k : Key) (list : List Entry) → EndedReplica plan host k list → ((m : ℕ) → m < benches plan → has_lock m list ≡ false) → (h : History RegionOperation) × Spells spelled (pairs list) h × ReplicaRan plan host k h
replica_ran plan host k list x unlocked =
    let l = led (first_replica plan k) x.end list x.ended.stands in
    let none = none_held (first_replica plan k) x.end (benches plan) list (replica_free plan k) x.ended.makers x.ended.stands unlocked in (
      l.history,
      l.spells,
      record {
        ran = record {
          legal = l.leads.legal;
          free = ap (λ (r : Region). is_empty (holders r writes)) (sym l.leads.end_so) ∙ ap is_empty none;
        };
        by_its_host = all_makers (λ m. nat_lt m (benches plan) && (host_of_bench plan m == host)) list l.history l.spells (replica_makers plan host list x.ended.makers x.by_its_host);
      },
    )

-- its benches are left without, and the others made no entries
pub replica_ended : (plan : Plan) (host : ℕ) (k : Key) (list : List Entry) → EndedReplica plan host k list → ((m : ℕ) → m < benches plan → host_of_bench plan m ≡ host → has_lock m list ≡ false) → (h : History RegionOperation) × Spells spelled (pairs list) h × ReplicaRan plan host k h
replica_ended plan host k list x unlocked = replica_ran plan host k list x each
  where
    each : (m : ℕ) → m < benches plan → has_lock m list ≡ false
    each m low = by (host_of_bench plan m == host) refl
      where
        by : (b : Bool) → (host_of_bench plan m == host) ≡ b → has_lock m list ≡ false
        by true e = unlocked m low (eqb-true (host_of_bench plan m) host e)
        by false e = strangers_hold_none m list (λ n d l same. eqb-false (host_of_bench plan m) host e (ap (host_of_bench plan) (sym same) ∙ x.by_its_host n d l))

-- ---- A global value.

value_makers : (plan : Plan) (list : List Entry) → MakersBelow (benches plan) list → All (λ e. nat_lt e.maker (benches plan) ≡ true) list
value_makers plan list low n e l = lt-ltb (slice_index_or list n e).maker (benches plan) (low n e l)

-- a read may stand where nobody holds a lock
free_to_read : (s : Region) (maker : ℕ) → holders s writes ≡ [] → is_empty (filter (λ holder. not (holder == maker)) (option_to_list s.writer)) ≡ true
free_to_read s maker e = by s.writer e
  where
    by : (w : Option ℕ) → option_to_list w ++ s.readers ≡ [] → is_empty (filter (λ holder. not (holder == maker)) (option_to_list w)) ≡ true
    by None e = refl
    by (Some w) e = let no : ⊥ = cc in absurd no

pub value_ended : (plan : Plan) (k : Key) (list : List Entry) (final : List ℕ) → length k.init ≤ k.size → EndedValue plan k list final → ((m : ℕ) → m < benches plan → has_lock m list ≡ false) → (h : History RegionOperation) × Spells spelled (pairs list) h × GlobalRan plan k h final
value_ended plan k list final fits x unlocked =
    let start = global_value k.size k.init in
    let l = led (first_value plan k) x.end list x.ended.stands in
    let last : History RegionOperation = (benches plan, RegionOperation.read 0 k.size) ∷ [] in
    let none : holders (left region_rules start l.history) writes ≡ [] = ap (λ (r : Region). holders r writes) (sym l.leads.end_so) ∙ none_held (first_value plan k) x.end (benches plan) list (value_free plan k fits) x.ended.makers x.ended.stands unlocked in (
      l.history,
      l.spells,
      record {
        ran = record {
          legal = legal_both region_rules start l.history last l.leads.legal (free_to_read (left region_rules start l.history) (benches plan) none, tt);
          free = ap (λ (r : Region). is_empty (holders r writes)) (left_both region_rules start l.history last) ∙ ap is_empty none;
        };
        by_benches = all_makers (λ m. nat_lt m (benches plan)) list l.history l.spells (value_makers plan list x.ended.makers);
        final_so = ap Reply.bytes (x.final_so ∙ ap₂ (λ (r : Region) n. slice_range r.bytes 0 n) l.leads.end_so (the_size k.size));
      },
    )
  where
    the_size : (n : ℕ) → n ≡ 0 + n
    the_size n = omega arith
