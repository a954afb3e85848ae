-- A region whose makers and holders are numbered anew goes on as before.
use Rattle.std.proofs.Common.{◌≡◌, ℕ, ◌+◌, Bool, true, false, cond, not, List, [], ◌∷◌, ◌++◌, Option, Some, None, refl, sym, ap, ◌∙◌, map, length, option_map, option_to_list, filter, min}
use Rattle.std.specs.Prelude.{◌==◌, ◌&&◌}
use Rattle.std.specs.List.{list_all}
use Rattle.std.proofs.lemmas.Bool.{and_parts}
use Rattle.std.proofs.lemmas.List.{map-append}
use Rattle.faaslet_meaning.specs.Lists.{least}
use Rattle.faaslet_meaning.specs.Channels.{RegionOperation}
use Rattle.faaslet_meaning.specs.Region.{Region, Kind, reads, writes, always, holders, others, blocker, has_room, after, reply, unless_held_by, with_bytes}
use Rattle.session_meaning.specs.Cut.{rank, cut_region}
use Rattle.session_meaning.proofs.Kept.{rank_eq, rank_min}

-- all who hold a lock are kept
abbrev pub held_by : (ℕ → Bool) → Region → Bool
held_by calls s = list_all calls (holders s writes)

others_in : (calls : ℕ → Bool) (m : ℕ) (hs : List ℕ) → calls m ≡ true → list_all calls hs ≡ true → filter (λ h. not (h == rank calls m)) (map (rank calls) hs) ≡ map (rank calls) (filter (λ h. not (h == m)) hs)
others_in calls m [] i a = refl
others_in calls m (h ∷ hs) i a =
    let p = and_parts (calls h) (list_all calls hs) a in
    ap (λ b. cond (not b) (rank calls h ∷ filter (λ h. not (h == rank calls m)) (map (rank calls) hs)) (filter (λ h. not (h == rank calls m)) (map (rank calls) hs))) (rank_eq calls h m p.0 i)
    ∙ by (h == m) (others_in calls m hs i p.1)
  where
    by : (b : Bool) → filter (λ h. not (h == rank calls m)) (map (rank calls) hs) ≡ map (rank calls) (filter (λ h. not (h == m)) hs) → cond (not b) (rank calls h ∷ filter (λ h. not (h == rank calls m)) (map (rank calls) hs)) (filter (λ h. not (h == rank calls m)) (map (rank calls) hs)) ≡ map (rank calls) (cond (not b) (h ∷ filter (λ h. not (h == m)) hs) (filter (λ h. not (h == m)) hs))
    by true e = e
    by false e = ap (λ ys. rank calls h ∷ ys) e

holders_cut : (calls : ℕ → Bool) (s : Region) (k : Kind) → holders (cut_region calls s) k ≡ map (rank calls) (holders s k)
holders_cut calls s reads = by s.writer
  where
    by : (o : Option ℕ) → option_to_list (option_map (rank calls) o) ≡ map (rank calls) (option_to_list o)
    by None = refl
    by (Some h) = refl
holders_cut calls s writes = by s.writer
  where
    by : (o : Option ℕ) → option_to_list (option_map (rank calls) o) ++ map (rank calls) s.readers ≡ map (rank calls) (option_to_list o ++ s.readers)
    by None = refl
    by (Some h) = refl
holders_cut calls s always = refl

all_left : (calls : ℕ → Bool) (xs ys : List ℕ) → list_all calls (xs ++ ys) ≡ true → list_all calls xs ≡ true
all_left calls [] ys h = refl
all_left calls (x ∷ xs) ys h = let p = and_parts (calls x) (list_all calls (xs ++ ys)) h in ap (λ b. b && list_all calls xs) p.0 ∙ all_left calls xs ys p.1

all_right : (calls : ℕ → Bool) (xs ys : List ℕ) → list_all calls (xs ++ ys) ≡ true → list_all calls ys ≡ true
all_right calls [] ys h = h
all_right calls (x ∷ xs) ys h = let p = and_parts (calls x) (list_all calls (xs ++ ys)) h in all_right calls xs ys p.1

holders_held : (calls : ℕ → Bool) (s : Region) (k : Kind) → held_by calls s ≡ true → list_all calls (holders s k) ≡ true
holders_held calls s reads h = all_left calls (option_to_list s.writer) s.readers h
holders_held calls s writes h = h
holders_held calls s always h = refl

pub others_cut : (calls : ℕ → Bool) (s : Region) (m : ℕ) (k : Kind) → calls m ≡ true → held_by calls s ≡ true → others (cut_region calls s) (rank calls m) k ≡ map (rank calls) (others s m k)
others_cut calls s m k i a = ap (filter (λ h. not (h == rank calls m))) (holders_cut calls s k) ∙ others_in calls m (holders s k) i (holders_held calls s k a)

least_cut : (calls : ℕ → Bool) (xs : List ℕ) → least (map (rank calls) xs) ≡ option_map (rank calls) (least xs)
least_cut calls [] = refl
least_cut calls (x ∷ xs) = ap (λ o. elim o [ None ↦ Some (rank calls x) | Some y ↦ Some (min (rank calls x) y) ]) (least_cut calls xs) ∙ by (least xs)
  where
    by : (o : Option ℕ) → elim (option_map (rank calls) o) [ None ↦ Some (rank calls x) | Some y ↦ Some (min (rank calls x) y) ] ≡ option_map (rank calls) (elim o [ None ↦ Some x | Some y ↦ Some (min x y) ])
    by None = refl
    by (Some y) = ap (λ n. Some n) (rank_min calls x y)

-- the least blocking holder is the same call
pub blocked_cut : (calls : ℕ → Bool) (s : Region) (m : ℕ) (k : Kind) → calls m ≡ true → held_by calls s ≡ true → blocker (cut_region calls s) (rank calls m) k ≡ option_map (rank calls) (blocker s m k)
blocked_cut calls s m k i a = ap least (others_cut calls s m k i a) ∙ least_cut calls (others s m k)

pub reply_cut : (calls : ℕ → Bool) (s : Region) (m : ℕ) (op : RegionOperation) → reply (cut_region calls s) (rank calls m) op ≡ reply s m op
reply_cut calls s m RegionOperation.probe = refl
reply_cut calls s m (RegionOperation.read off len) = refl
reply_cut calls s m (RegionOperation.send off len) = refl
reply_cut calls s m RegionOperation.size = refl
reply_cut calls s m (RegionOperation.append bytes) = refl
reply_cut calls s m _ = refl

writer_cut : (calls : ℕ → Bool) (s : Region) (m : ℕ) (o : Option ℕ) → calls m ≡ true → list_all calls (option_to_list o) ≡ true → unless_held_by (rank calls m) (option_map (rank calls) o) ≡ option_map (rank calls) (unless_held_by m o)
writer_cut calls s m None i a = refl
writer_cut calls s m (Some h) i a = ap (λ b. cond b None (Some (rank calls h))) (rank_eq calls h m (and_parts (calls h) true a).0 i) ∙ by (h == m)
  where
    by : (b : Bool) → cond b None (Some (rank calls h)) ≡ option_map (rank calls) (cond b None (Some h))
    by true = refl
    by false = refl

pub after_cut : (calls : ℕ → Bool) (s : Region) (m : ℕ) (op : RegionOperation) → calls m ≡ true → held_by calls s ≡ true → after (cut_region calls s) (rank calls m) op ≡ cut_region calls (after s m op)
after_cut calls s m (RegionOperation.fill bytes) i a = by s.present
  where
    by : (b : Bool) → cond b (cut_region calls s) (cut_region calls (record (with_bytes s 0 bytes) { present = true })) ≡ cut_region calls (cond b s (record (with_bytes s 0 bytes) { present = true }))
    by true = refl
    by false = refl
after_cut calls s m (RegionOperation.append bytes) i a = by (has_room s bytes) _
  where
    by : (b : Bool) (t : Region) → cond b (cut_region calls t) (cut_region calls s) ≡ cut_region calls (cond b t s)
    by true t = refl
    by false t = refl
after_cut calls s m RegionOperation.lock_read i a = ap (λ rs. record (cut_region calls s) { readers = rs }) (sym (map-append (rank calls) s.readers (m ∷ [])))
after_cut calls s m RegionOperation.unlock i a =
    ap (λ w. record (cut_region calls s) { writer = w; readers = filter (λ h. not (h == rank calls m)) (map (rank calls) s.readers) }) (writer_cut calls s m s.writer i (all_left calls (option_to_list s.writer) s.readers a))
    ∙ ap (λ rs. record (cut_region calls s) { writer = option_map (rank calls) (unless_held_by m s.writer); readers = rs }) (others_in calls m s.readers i (all_right calls (option_to_list s.writer) s.readers a))
after_cut calls s m _ i a = refl

-- ---- Those who hold a lock afterwards held one before, or made the operation.

all_less : (calls : ℕ → Bool) (test : ℕ → Bool) (xs : List ℕ) → list_all calls xs ≡ true → list_all calls (filter test xs) ≡ true
all_less calls test [] h = refl
all_less calls test (x ∷ xs) h =
    let p = and_parts (calls x) (list_all calls xs) h in by (test x) p.0 (all_less calls test xs p.1)
  where
    by : (b : Bool) → calls x ≡ true → list_all calls (filter test xs) ≡ true → list_all calls (cond b (x ∷ filter test xs) (filter test xs)) ≡ true
    by true c e = ap (λ d. d && list_all calls (filter test xs)) c ∙ e
    by false c e = e

all_both : (calls : ℕ → Bool) (xs ys : List ℕ) → list_all calls xs ≡ true → list_all calls ys ≡ true → list_all calls (xs ++ ys) ≡ true
all_both calls [] ys h k = k
all_both calls (x ∷ xs) ys h k = let p = and_parts (calls x) (list_all calls xs) h in ap (λ b. b && list_all calls (xs ++ ys)) p.0 ∙ all_both calls xs ys p.1 k

all_one : (calls : ℕ → Bool) (m : ℕ) → calls m ≡ true → list_all calls (m ∷ []) ≡ true
all_one calls m i = ap (λ b. b && true) i

pub after_held : (calls : ℕ → Bool) (s : Region) (m : ℕ) (op : RegionOperation) → calls m ≡ true → held_by calls s ≡ true → held_by calls (after s m op) ≡ true
after_held calls s m (RegionOperation.fill bytes) i a = by s.present
  where
    by : (b : Bool) → held_by calls (cond b s (record (with_bytes s 0 bytes) { present = true })) ≡ true
    by true = a
    by false = a
after_held calls s m (RegionOperation.append bytes) i a = by (has_room s bytes)
  where
    by : (b : Bool) → held_by calls (cond b (record (with_bytes s s.used bytes) { used = s.used + length bytes }) s) ≡ true
    by true = a
    by false = a
after_held calls s m RegionOperation.lock_read i a = all_both calls (option_to_list s.writer) (s.readers ++ m ∷ []) (all_left calls (option_to_list s.writer) s.readers a) (all_both calls s.readers (m ∷ []) (all_right calls (option_to_list s.writer) s.readers a) (all_one calls m i))
after_held calls s m RegionOperation.lock_write i a = ap (λ b. b && list_all calls s.readers) i ∙ all_right calls (option_to_list s.writer) s.readers a
after_held calls s m RegionOperation.unlock i a = all_both calls (option_to_list (unless_held_by m s.writer)) _ (by s.writer (all_left calls (option_to_list s.writer) s.readers a)) (all_less calls _ s.readers (all_right calls (option_to_list s.writer) s.readers a))
  where
    pick : (h : ℕ) (b : Bool) → list_all calls (h ∷ []) ≡ true → list_all calls (option_to_list (cond b None (Some h))) ≡ true
    pick h true e = refl
    pick h false e = e

    by : (o : Option ℕ) → list_all calls (option_to_list o) ≡ true → list_all calls (option_to_list (unless_held_by m o)) ≡ true
    by None e = refl
    by (Some h) e = pick h (h == m) e
after_held calls s m _ i a = a
