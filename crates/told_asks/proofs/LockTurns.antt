-- Locks that entries leave.
use Rattle.std.proofs.Common.{◌≡◌, ℕ, Bool, true, false, cond, List, [], ◌∷◌, ◌++◌, refl, sym, ap, ◌∙◌}
use Rattle.std.specs.Prelude.{map, ◌==◌}
use Rattle.faaslet_meaning.specs.declared.grant.Channel.{Channel}
use Rattle.faaslet_meaning.specs.CallState.{State, runs, asks, fresh_state}
use Rattle.faaslet_meaning.specs.Channels.{RegionOperation, Operation, on_region, Reply, ask, Transcript, told_by}
use Rattle.faaslet_meaning.specs.Configuration.{Configuration}
use Rattle.faaslet_meaning.specs.Formed.{KeysDiffer}
use Rattle.faaslet_meaning.specs.Fresh.{Function, fresh, makes}
use Rattle.faaslet_meaning.specs.Goes.{Goes}
use Rattle.faaslet_meaning.specs.History.{History, told_to, region_rules}
use Rattle.faaslet_meaning.specs.Region as region
use Rattle.faaslet_meaning.specs.Region.{Region}
use Rattle.faaslet_meaning.specs.Runs.{invocation}
use Rattle.faaslet_meaning.specs.Spelling.{spelled, Spells}
use Rattle.faaslet_meaning.specs.Valid.{Valid}
use Rattle.faaslet_meaning.proofs.CallFresh.{fresh_formed}
use Rattle.faaslet_meaning.proofs.CallParts.{formed_parts}
use Rattle.session_meaning.proofs.CallLocks.{sets, keeps, none_told, unlocks_own}
use Rattle.turn_cell.specs.declared.view.Entry.{Entry}
use Rattle.region_tier.specs.Holding.{locked_after, locked_by, has_lock}
use Rattle.told_asks.specs.Leaves.{leaves_one, leaves_lock}

pub leaves_both : (b : Bool) (xs ys : List (Operation × Reply)) → leaves_lock b (xs ++ ys) ≡ leaves_lock (leaves_lock b xs) ys
leaves_both b [] ys = refl
leaves_both b (x ∷ xs) ys = leaves_both (leaves_one x.0 b) xs ys

-- ---- A list of entries.

abbrev pair : Entry → ℕ × List ℕ
pair e = (e.maker, e.numbers)

abbrev spelling : ℕ × RegionOperation → ℕ × List ℕ
spelling x = (x.0, spelled x.1)

abbrev asked : RegionOperation × Reply → Operation × Reply
asked x = (on_region x.0, x.1)

head_so : {A : Type 0} (x y : A) (xs ys : List A) → (x ∷ xs) ≡ (y ∷ ys) → x ≡ y
head_so x y xs ys e = cc

tail_so : {A : Type 0} (x y : A) (xs ys : List A) → (x ∷ xs) ≡ (y ∷ ys) → xs ≡ ys
tail_so x y xs ys e = cc

locked_so : (o : RegionOperation) (b : Bool) → locked_after (spelled o) b ≡ leaves_one (on_region o) b
locked_so RegionOperation.probe b = refl
locked_so RegionOperation.size b = refl
locked_so RegionOperation.lock_read b = refl
locked_so RegionOperation.lock_write b = refl
locked_so RegionOperation.unlock b = refl
locked_so (RegionOperation.read off len) b = refl
locked_so (RegionOperation.send off len) b = refl
locked_so (RegionOperation.fill bytes) b = refl
locked_so (RegionOperation.append bytes) b = refl
locked_so (RegionOperation.write off bytes) b = refl
locked_so (RegionOperation.take off bytes) b = refl
locked_so (RegionOperation.put off bytes) b = refl

locked_all : (s : Region) (n : ℕ) (b : Bool) (list : List Entry) (history : History RegionOperation) → map pair list ≡ map spelling history → locked_by n b list ≡ leaves_lock b (map asked (told_to region_rules n s history))
locked_all s n b [] [] e = refl
locked_all s n b [] (x ∷ xs) e = cc
locked_all s n b (r ∷ rs) [] e = cc
locked_all s n b (r ∷ rs) (x ∷ xs) e =
    let head = head_so (pair r) (spelling x) (map pair rs) (map spelling xs) e in
    let maker : r.maker ≡ x.0 = ap (λ (z : ℕ × List ℕ). z.0) head in
    let numbers : r.numbers ≡ spelled x.1 = ap (λ (z : ℕ × List ℕ). z.1) head in
    let rest = λ (c : Bool). locked_all (region.after s x.0 x.1) n c rs xs (tail_so (pair r) (spelling x) (map pair rs) (map spelling xs) e) in
    ap (λ m. locked_by n (cond (m == n) (locked_after r.numbers b) b) rs) maker
    ∙ (ap (λ l. locked_by n (cond (x.0 == n) (locked_after l b) b) rs) numbers
    ∙ (ap (λ c. locked_by n (cond (x.0 == n) c b) rs) (locked_so x.1 b) ∙ by (x.0 == n) rest))
  where
    by : (t : Bool) → ((c : Bool) → locked_by n c rs ≡ leaves_lock c (map asked (told_to region_rules n (region.after s x.0 x.1) xs)))
        → locked_by n (cond t (leaves_one (on_region x.1) b) b) rs ≡ leaves_lock b (map asked (cond t ((x.1, region.reply s x.0 x.1) ∷ told_to region_rules n (region.after s x.0 x.1) xs) (told_to region_rules n (region.after s x.0 x.1) xs)))
    by true rest = rest (leaves_one (on_region x.1) b)
    by false rest = rest b

pub list_leaves : (start : Region) (maker : ℕ) (list : List Entry) (history : History RegionOperation) → Spells spelled (map (λ e. (e.maker, e.numbers)) list) history
    → has_lock maker list ≡ leaves_lock false (map (λ x. (on_region x.0, x.1)) (told_to region_rules maker start history))
list_leaves start maker list history e = locked_all start maker false list history e

-- ---- A call.

sets_so : (o : Operation) (b : Bool) → sets o b ≡ leaves_one o b
sets_so (on_region RegionOperation.lock_read) b = refl
sets_so (on_region RegionOperation.lock_write) b = refl
sets_so (on_region RegionOperation.unlock) b = refl
sets_so o b = refl

keeps_so : (b : Bool) (xs : List (Operation × Reply)) → keeps b xs ≡ leaves_lock b xs
keeps_so b [] = refl
keeps_so b (x ∷ xs) = ap (λ c. keeps c xs) (sets_so x.0 b) ∙ keeps_so (leaves_one x.0 b) xs

pub unlocks_in_turn : (f : Function) (input : List ℕ) (c : Configuration) (transcript : Transcript) (s : State) (channel : Channel) → Valid f.code → KeysDiffer (invocation f input) → fresh f ≡ makes c
    → Goes (invocation f input) (runs (fresh_state c)) transcript (asks s (ask channel (on_region RegionOperation.unlock))) → leaves_lock false (told_by transcript channel) ≡ true
unlocks_in_turn f input c transcript s channel valid differ made g =
    let j = invocation f input in
    let fit = formed_parts j (fresh_state c) (fresh_formed f input c valid made) in
    sym (keeps_so false (told_by transcript channel)) ∙ unlocks_own j (runs (fresh_state c)) s channel transcript differ fit (none_told j) g
