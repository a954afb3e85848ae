-- The lines of kept requests, open calls and keys are the report of the cut world.
use Rattle.std.proofs.Common.{◌≡◌, ◌⊎◌, inl, inr, ℕ, zero, suc, ◌+◌, Bool, true, false, cond, List, [], ◌∷◌, ◌++◌, Option, Some, None, refl, sym, ap, ap₂, ◌∙◌, map, length, option_map, slice_get, filter, is_some, option_and_then, codes, subst, arith}
use Rattle.std.specs.Prelude.{fold}
use Rattle.std.specs.List.{concat, flat_map}
use Rattle.faaslet_meaning.specs.declared.call.CallRecord.{CallRecord}
use Rattle.faaslet_meaning.specs.declared.call.CallState.{CallState}
use Rattle.faaslet_meaning.specs.declared.call.CallState.TheVariants.{Queued, Taken, Finished}
use Rattle.session_meaning.specs.declared.event.Event.{Event}
use Rattle.faaslet_meaning.specs.declared.grant.Channel.TheVariants.{Local, Global, Table as OnTable}
use Rattle.faaslet_meaning.specs.Report.{line}
use Rattle.faaslet_meaning.specs.Lists.{places, places_from}
use Rattle.faaslet_meaning.specs.CallState.{State}
use Rattle.faaslet_meaning.specs.Channels.{Question}
use Rattle.session_meaning.specs.Plan.{Key, Request, Plan, Names, Closed, is_function_of}
use Rattle.session_meaning.specs.OpenCall.{Open, asking}
use Rattle.session_meaning.specs.World.{World, first_world}
use Rattle.session_meaning.specs.Events.{Obstacle, held, unfinished, obstacle, open_at, step, Worlds}
use Rattle.session_meaning.specs.Schedule.{open_calls}
use Rattle.session_meaning.specs.SessionReport.{path_by, path, state_text, request_line, request_lines, state_line, state_lines, obstacle_text, obstacle_of, blocked_line, values, world_report}
use Rattle.session_meaning.specs.Cut.{Part, kept, rank, cut_object, cut_open, cut_question, cut_record, cut_request, blank_state, cut, blank, cut_plan, part_of, plan_cut, events_cut}
use Rattle.session_meaning.specs.CutReport.{numbered, each_state, Lines, joined, all_lines, is_request_of, lines_of}
use Rattle.session_meaning.proofs.Tables.{get_cut}
use Rattle.session_meaning.proofs.WorldParts.{length_cut, open_cut}
use Rattle.session_meaning.proofs.OneStep.{asking_cut}
use Rattle.session_meaning.proofs.KeptAsks.{Own}
use Rattle.session_meaning.proofs.Whole.{all, everything, kept_all, whole, plan_all}
use Rattle.session_meaning.proofs.FoldedCut.{Ready, Along, Both, kept_map}
use Rattle.session_meaning.proofs.Enabled.{cut_obstacle, obstacle_cut, get_past}
use Rattle.session_meaning.proofs.TwoWorlds.{everything_ready}
use Rattle.session_meaning.proofs.Paths.{RequestsKept, filter_kept, path_cut, key_cut}
use Rattle.session_meaning.proofs.NamedPlans.{map_map}
use Rattle.session_meaning.proofs.WorldEnds.{end_ready, requests_kept}
use Rattle.session_meaning.proofs.Obstacles.{ObstacleKept, MaybeKept, obstacle_kept}
use Rattle.session_meaning.proofs.AsksGranted.{asks_granted, cut_is_world}

-- ---- A report is its lines.

requests_joined : (records : List CallRecord) (rs : List Request) (n : ℕ) (f : ℕ → Request → List ℕ) → ((k : ℕ) (r : Request) → f k r ≡ request_line records (n + k) r) → request_lines records n rs ≡ concat (numbered f rs)
requests_joined records [] n f same = refl
requests_joined records (r ∷ rs) n f same =
    let here : n ≡ n + 0 = omega arith in
    ap₂ (λ x y. x ++ y) (ap (λ m. request_line records m r) here ∙ sym (same 0 r))
    (requests_joined records rs (suc n) (λ k. f (suc k)) (λ k q. let there : n + suc k ≡ suc n + k = omega arith in same (suc k) q ∙ ap (λ m. request_line records m q) there))

states_joined : (ks : List Key) (vs : List (List ℕ)) → state_lines ks vs ≡ concat (each_state ks vs)
states_joined [] vs = refl
states_joined (k ∷ ks) [] = refl
states_joined (k ∷ ks) (v ∷ vs) = ap (λ x. state_line k v ++ x) (states_joined ks vs)

blocked_joined : (f : ℕ → List ℕ) (cs : List ℕ) → flat_map f cs ≡ concat (map f cs)
blocked_joined f [] = refl
blocked_joined f (c ∷ cs) = ap (λ x. f c ++ x) (blocked_joined f cs)

pub report_is_lines : (plan : Plan) (w : World) → world_report plan w ≡ joined (all_lines plan w)
report_is_lines plan w =
    ap₂ (λ a b. a ++ b ++ state_lines plan.keys (values w)) (requests_joined w.table.records plan.requests 0 (request_line w.table.records) (λ k r. let same : k ≡ 0 + k = omega arith in ap (λ m. request_line w.table.records m r) same)) (blocked_joined (blocked_line plan w) (open_calls w))
    ∙ ap (λ c. concat (all_lines plan w).requests ++ concat (all_lines plan w).blocked ++ c) (states_joined plan.keys (values w))

-- ---- The lines of requests.

abbrev outcome_at : Option CallRecord → List ℕ
outcome_at o = elim o [ None ↦ codes "stuck" | Some c ↦ state_text c.state ]

text_blank : (s : CallState) → state_text (blank_state s) ≡ state_text s
text_blank Queued = refl
text_blank (Taken host bench order) = refl
text_blank (Finished host bench order o used output counts) = refl

line_cut : (part : Part) (rs : List CallRecord) (n : ℕ) (r : Request) → part.calls n ≡ true → request_line rs n r ≡ request_line (map (cut_record part) (kept part.calls rs)) (rank part.calls n) (cut_request part r)
line_cut part rs n r i = sym (ap (λ o. line (r.label ++ codes " " ++ outcome_at o)) (get_cut part rs n i) ∙ ap (λ x. line (r.label ++ codes " " ++ x)) (by (slice_get rs n)))
  where
    by : (o : Option CallRecord) → outcome_at (option_map (cut_record part) o) ≡ outcome_at o
    by None = refl
    by (Some c) = text_blank c.state

kept_numbered : {A B C : Type 0} (is : ℕ → Bool) (f : ℕ → A → C) (g : ℕ → B → C) (h : A → B) (xs : List A) → ((n : ℕ) (x : A) → is n ≡ true → f n x ≡ g (rank is n) (h x)) → kept is (numbered f xs) ≡ numbered g (map h (kept is xs))
kept_numbered is f g h [] same = refl
kept_numbered {A} {B} {C} is f g h (x ∷ xs) same = by (is 0) refl (λ g' s. kept_numbered (λ n. is (suc n)) (λ n. f (suc n)) g' h xs s)
  where
    by : (b : Bool) → is 0 ≡ b → ((g' : ℕ → B → C) → ((n : ℕ) (y : A) → is (suc n) ≡ true → f (suc n) y ≡ g' (rank (λ m. is (suc m)) n) (h y)) → kept (λ n. is (suc n)) (numbered (λ n. f (suc n)) xs) ≡ numbered g' (map h (kept (λ n. is (suc n)) xs))) → cond b (f 0 x ∷ kept (λ n. is (suc n)) (numbered (λ n. f (suc n)) xs)) (kept (λ n. is (suc n)) (numbered (λ n. f (suc n)) xs)) ≡ numbered g (map h (cond b (x ∷ kept (λ n. is (suc n)) xs) (kept (λ n. is (suc n)) xs)))
    by true i go = ap₂ (λ y ys. y ∷ ys) (same 0 x i) (go (λ n. g (suc n)) (λ n y k. same (suc n) y k ∙ ap (λ b. g (cond b (suc (rank (λ m. is (suc m)) n)) (rank (λ m. is (suc m)) n)) (h y)) i))
    by false i go = go g (λ n y k. same (suc n) y k ∙ ap (λ b. g (cond b (suc (rank (λ m. is (suc m)) n)) (rank (λ m. is (suc m)) n)) (h y)) i)

-- one mask does as another where they agree on what is there
kept_alike : {A B : Type 0} (is is' : ℕ → Bool) (f : ℕ → A → B) (xs : List A) → ((n : ℕ) (x : A) → slice_get xs n ≡ Some x → is n ≡ is' n) → kept is (numbered f xs) ≡ kept is' (numbered f xs)
kept_alike is is' f [] same = refl
kept_alike is is' f (x ∷ xs) same =
    let rest = kept_alike (λ n. is (suc n)) (λ n. is' (suc n)) (λ n. f (suc n)) xs (λ n y e. same (suc n) y e) in
    ap₂ (λ b ys. cond b (f 0 x ∷ ys) ys) (same 0 x refl) rest

requests_so : (part : Part) (plan : Plan) (w : World) → RequestsKept part part.calls plan.requests → (all_lines (cut_plan part plan) (cut part w)).requests ≡ kept part.calls (numbered (request_line w.table.records) plan.requests)
requests_so part plan w same =
    ap (λ rs. numbered (request_line (cut part w).table.records) (map (cut_request part) rs)) (filter_kept part part.calls plan.requests same)
    ∙ sym (kept_numbered part.calls (request_line w.table.records) (request_line (cut part w).table.records) (cut_request part) plan.requests (λ n r i. line_cut part w.table.records n r i))

-- ---- The lines of keys.

no_values : (ks : List Key) → each_state ks [] ≡ []
no_values [] = refl
no_values (k ∷ ks) = refl

states_kept : (is : ℕ → Bool) (ks : List Key) (vs : List (List ℕ)) → each_state (kept is ks) (kept is vs) ≡ kept is (each_state ks vs)
states_kept is [] vs = refl
states_kept is (k ∷ ks) [] = no_values (kept is (k ∷ ks))
states_kept is (k ∷ ks) (v ∷ vs) = by (is 0) (states_kept (λ n. is (suc n)) ks vs)
  where
    by : (b : Bool) → each_state (kept (λ n. is (suc n)) ks) (kept (λ n. is (suc n)) vs) ≡ kept (λ n. is (suc n)) (each_state ks vs) → each_state (cond b (k ∷ kept (λ n. is (suc n)) ks) (kept (λ n. is (suc n)) ks)) (cond b (v ∷ kept (λ n. is (suc n)) vs) (kept (λ n. is (suc n)) vs)) ≡ cond b (state_line k v ∷ kept (λ n. is (suc n)) (each_state ks vs)) (kept (λ n. is (suc n)) (each_state ks vs))
    by true e = ap (λ x. state_line k v ∷ x) e
    by false e = e

states_so : (part : Part) (plan : Plan) (w : World) → (all_lines (cut_plan part plan) (cut part w)).states ≡ kept part.keys (each_state plan.keys (values w))
states_so part plan w =
    ap (each_state (kept part.keys plan.keys)) (map_map (cut_object part.calls) (λ o. o.region.bytes) (kept part.keys w.globals) ∙ sym (kept_map part.keys (λ o. o.region.bytes) w.globals))
    ∙ states_kept part.keys plan.keys (values w)

-- ---- The lines of blocked calls.

rank_next : (is : ℕ → Bool) (n : ℕ) → rank is (suc n) ≡ cond (is n) (suc (rank is n)) (rank is n)
rank_next is zero = refl
rank_next is (suc n) = ap (λ m. cond (is 0) (suc m) m) (rank_next (λ m. is (suc m)) n) ∙ by (is 0) (is (suc n)) (rank (λ m. is (suc m)) n)
  where
    by : (b c : Bool) (r : ℕ) → cond b (suc (cond c (suc r) r)) (cond c (suc r) r) ≡ cond c (suc (cond b (suc r) r)) (cond b (suc r) r)
    by true true r = refl
    by true false r = refl
    by false true r = refl
    by false false r = refl

-- one place, which is kept
place_kept : {A B : Type 0} (is : ℕ → Bool) (g : A → B) (test : A → Bool) (test' : B → Bool) (x : A) (rest : List A) (n : ℕ) (places : List ℕ) → is n ≡ true → test' (g x) ≡ test x → rank is (n + 1) ≡ suc (rank is n) → places_from (rank is (n + 1)) test' (map g rest) ≡ map (rank is) (filter is places) → places_from (rank is n) test' (map g (x ∷ rest)) ≡ map (rank is) (filter is (cond (test x) (n ∷ places) places))
place_kept is g test test' x rest n places i same r e =
    let next : rank is n + 1 ≡ rank is (n + 1) = omega (arith, r) in
    let more : places_from (rank is n + 1) test' (map g rest) ≡ map (rank is) (filter is places) = ap (λ k. places_from k test' (map g rest)) next ∙ e in
    ap (λ c. cond c (rank is n ∷ places_from (rank is n + 1) test' (map g rest)) (places_from (rank is n + 1) test' (map g rest))) same ∙ by (test x) more
  where
    by : (c : Bool) → places_from (rank is n + 1) test' (map g rest) ≡ map (rank is) (filter is places) → cond c (rank is n ∷ places_from (rank is n + 1) test' (map g rest)) (places_from (rank is n + 1) test' (map g rest)) ≡ map (rank is) (filter is (cond c (n ∷ places) places))
    by true h = ap (λ ys. rank is n ∷ ys) h ∙ sym (ap (λ b. map (rank is) (cond b (n ∷ filter is places) (filter is places))) i)
    by false h = h

-- and one that is not
place_left : (is : ℕ → Bool) (n : ℕ) (places : List ℕ) (c : Bool) → is n ≡ false → map (rank is) (filter is places) ≡ map (rank is) (filter is (cond c (n ∷ places) places))
place_left is n places true i = sym (ap (λ b. map (rank is) (cond b (n ∷ filter is places) (filter is places))) i)
place_left is n places false i = refl

-- the places of what passes a test among what is kept
places_cut : {A B : Type 0} (is : ℕ → Bool) (g : A → B) (test : A → Bool) (test' : B → Bool) (xs : List A) (n : ℕ) (mask : ℕ → Bool) → ((k : ℕ) → mask k ≡ is (n + k)) → ((x : A) → test' (g x) ≡ test x) → places_from (rank is n) test' (map g (kept mask xs)) ≡ map (rank is) (filter is (places_from n test xs))
places_cut is g test test' [] n mask so same = refl
places_cut is g test test' (x ∷ xs) n mask so same =
    let here : n + 0 ≡ n = omega arith in
    let next : n + 1 ≡ suc n = omega arith in
    by (is n) refl (so 0 ∙ ap is here) (ap (rank is) next ∙ rank_next is n)
    (places_cut is g test test' xs (n + 1) (λ k. mask (suc k)) (λ k. let there : n + suc k ≡ n + 1 + k = omega arith in so (suc k) ∙ ap is there) same)
  where
    by : (b : Bool) → is n ≡ b → mask 0 ≡ is n → rank is (n + 1) ≡ cond (is n) (suc (rank is n)) (rank is n) → places_from (rank is (n + 1)) test' (map g (kept (λ k. mask (suc k)) xs)) ≡ map (rank is) (filter is (places_from (n + 1) test xs)) → places_from (rank is n) test' (map g (cond (mask 0) (x ∷ kept (λ k. mask (suc k)) xs) (kept (λ k. mask (suc k)) xs))) ≡ map (rank is) (filter is (cond (test x) (n ∷ places_from (n + 1) test xs) (places_from (n + 1) test xs)))
    by true i m r e =
        ap (λ b. places_from (rank is n) test' (map g (cond b (x ∷ kept (λ k. mask (suc k)) xs) (kept (λ k. mask (suc k)) xs)))) (m ∙ i)
        ∙ place_kept is g test test' x (kept (λ k. mask (suc k)) xs) n (places_from (n + 1) test xs) i (same x) (r ∙ ap (λ b. cond b (suc (rank is n)) (rank is n)) i) e
    by false i m r e =
        ap (λ b. places_from (rank is n) test' (map g (cond b (x ∷ kept (λ k. mask (suc k)) xs) (kept (λ k. mask (suc k)) xs)))) (m ∙ i)
        ∙ ap (λ k. places_from k test' (map g (kept (λ k. mask (suc k)) xs))) (sym (r ∙ ap (λ b. cond b (suc (rank is n)) (rank is n)) i))
        ∙ e
        ∙ place_left is n (places_from (n + 1) test xs) (test x) i

open_so : (part : Part) (w : World) → open_calls (cut part w) ≡ map (rank part.calls) (filter part.calls (open_calls w))
open_so part w = places_cut part.calls (option_map (cut_open part)) is_some is_some w.calls 0 part.calls (λ k. let same : k ≡ 0 + k = omega arith in ap part.calls same) by
  where
    by : (o : Option Open) → is_some (option_map (cut_open part) o) ≡ is_some o
    by None = refl
    by (Some o) = refl

-- ---- What keeps an open call from its next question.

abbrev past_path : Plan → List CallRecord → Option CallRecord → (ℕ → List ℕ) → List ℕ
past_path plan rs o go = elim o [ None ↦ [] | Some r ↦ go r.depth ]

no_path : (plan : Plan) (rs : List CallRecord) → path plan rs (length rs) ≡ []
no_path plan rs = ap (λ o. past_path plan rs o (λ d. path_by plan rs d (length rs))) (get_past rs)

child_path : (part : Part) (plan : Plan) (w : World) (c : ℕ) → Ready part w → RequestsKept part part.calls plan.requests → (part.calls c ≡ true) ⊎ (c ≡ length w.table.records) → path (cut_plan part plan) (cut part w).table.records (rank part.calls c) ≡ path plan w.table.records c
child_path part plan w c rd same (inl i) = path_cut part plan w.table.records c rd.apart.fit same i
child_path part plan w c rd same (inr e) =
    ap (λ n. path (cut_plan part plan) (cut part w).table.records (rank part.calls n)) e
    ∙ ap (path (cut_plan part plan) (cut part w).table.records) (sym (length_cut part w.table))
    ∙ no_path (cut_plan part plan) (cut part w).table.records
    ∙ sym (no_path plan w.table.records)
    ∙ ap (path plan w.table.records) (sym e)

obstacle_line : (part : Part) (plan : Plan) (w : World) (x : Obstacle) → Ready part w → RequestsKept part part.calls plan.requests → ObstacleKept part w x → obstacle_text (cut_plan part plan) (cut part w).table.records (cut_obstacle part x) ≡ obstacle_text plan w.table.records x
obstacle_line part plan w (held (Local key) holder) rd same k = ap₂ (λ a b. codes "local " ++ a ++ codes " holder " ++ b) (key_cut part plan key k.0) (path_cut part plan w.table.records holder rd.apart.fit same k.1)
obstacle_line part plan w (held (Global key) holder) rd same k = ap₂ (λ a b. codes "global " ++ a ++ codes " holder " ++ b) (key_cut part plan key k.0) (path_cut part plan w.table.records holder rd.apart.fit same k.1)
obstacle_line part plan w (held OnTable holder) rd same k = ap (λ b. [] ++ codes " holder " ++ b) (path_cut part plan w.table.records holder rd.apart.fit same k.1)
obstacle_line part plan w (unfinished child) rd same k = ap (λ b. codes "child " ++ b) (child_path part plan w child rd same k)

abbrev asked_of : World → ℕ → Open → Option (State × Question) → Option Obstacle
asked_of w call o a = option_and_then (λ a. obstacle w call o.host a.1) a

abbrev opened_of : World → ℕ → Option Open → Option Obstacle
opened_of w call o = option_and_then (λ o. asked_of w call o (asking o.machine)) o

record Blocks (part : Part) (w : World) (call : ℕ) (cut_one one : Option Obstacle) : Type 0 where
  pub same : cut_one ≡ option_map (cut_obstacle part) one
  pub kept : MaybeKept part w one

asked_so : (part : Part) (w : World) (call : ℕ) (o : Open) → Ready part w → part.calls call ≡ true → Own part true o → Blocks part w call (asked_of (cut part w) (rank part.calls call) (cut_open part o) (asking (cut_open part o).machine)) (asked_of w call o (asking o.machine))
asked_so part w call o rd i own = subst (λ a. Blocks part w call (asked_of (cut part w) (rank part.calls call) (cut_open part o) a) (asked_of w call o (asking o.machine))) (sym (asking_cut part o.machine)) (by (asking o.machine) refl)
  where
    by : (a : Option (State × Question)) → asking o.machine ≡ a → Blocks part w call (asked_of (cut part w) (rank part.calls call) (cut_open part o) (option_map (λ a. (a.0, cut_question part a.1)) a)) (asked_of w call o a)
    by None e = record { same = refl; kept = tt }
    by (Some a) e = record { same = obstacle_cut part w call o.host a.1 rd.apart.fit rd.apart.held i (own.asks a.0 a.1 e); kept = obstacle_kept part w call o.host a.1 rd.apart.fit rd.apart.held i (own.asks a.0 a.1 e) }

blocks : (part : Part) (w : World) (call : ℕ) → Ready part w → part.calls call ≡ true → Blocks part w call (obstacle_of (cut part w) (rank part.calls call)) (obstacle_of w call)
blocks part w call rd i = subst (λ o. Blocks part w call (opened_of (cut part w) (rank part.calls call) o) (obstacle_of w call)) (sym (open_cut part w call i)) (by (open_at w call) refl)
  where
    by : (o : Option Open) → open_at w call ≡ o → Blocks part w call (opened_of (cut part w) (rank part.calls call) (option_map (cut_open part) o)) (opened_of w call o)
    by None e = record { same = refl; kept = tt }
    by (Some o) e = asked_so part w call o rd i (subst (λ b. Own part b o) i (rd.apart.own call o e))

abbrev line_for : Plan → List CallRecord → ℕ → Option Obstacle → List ℕ
line_for plan rs call o = elim o [ None ↦ [] | Some x ↦ line (codes "blocked " ++ path plan rs call ++ codes " " ++ obstacle_text plan rs x) ]

blocked_so : (part : Part) (plan : Plan) (w : World) (call : ℕ) → Ready part w → RequestsKept part part.calls plan.requests → part.calls call ≡ true → blocked_line (cut_plan part plan) (cut part w) (rank part.calls call) ≡ blocked_line plan w call
blocked_so part plan w call rd same i =
    let b = blocks part w call rd i in
    ap (line_for (cut_plan part plan) (cut part w).table.records (rank part.calls call)) b.same ∙ by (obstacle_of w call) b.kept
  where
    by : (o : Option Obstacle) → MaybeKept part w o → line_for (cut_plan part plan) (cut part w).table.records (rank part.calls call) (option_map (cut_obstacle part) o) ≡ line_for plan w.table.records call o
    by None k = refl
    by (Some x) k = ap₂ (λ a b. line (codes "blocked " ++ a ++ codes " " ++ b)) (path_cut part plan w.table.records call rd.apart.fit same i) (obstacle_line part plan w x rd same k)

lines_so : (is : ℕ → Bool) (f g : ℕ → List ℕ) (cs : List ℕ) → ((c : ℕ) → is c ≡ true → f (rank is c) ≡ g c) → map f (map (rank is) (filter is cs)) ≡ map g (filter is cs)
lines_so is f g [] same = refl
lines_so is f g (c ∷ cs) same = by (is c) refl (lines_so is f g cs same)
  where
    by : (b : Bool) → is c ≡ b → map f (map (rank is) (filter is cs)) ≡ map g (filter is cs) → map f (map (rank is) (cond b (c ∷ filter is cs) (filter is cs))) ≡ map g (cond b (c ∷ filter is cs) (filter is cs))
    by true i e = ap₂ (λ y ys. y ∷ ys) (same c i) e
    by false i e = e

-- ---- All lines.

abbrev lines_in : Part → Plan → World → Lines
lines_in part plan w =
    record {
      requests = kept part.calls (numbered (request_line w.table.records) plan.requests);
      blocked = map (blocked_line plan w) (filter part.calls (open_calls w));
      states = kept part.keys (each_state plan.keys (values w));
    }

abbrev lines_by : List (List ℕ) → List (List ℕ) → List (List ℕ) → Lines
lines_by requests blocked states = record { requests = requests; blocked = blocked; states = states }

lines_cut : (part : Part) (plan : Plan) (w : World) → Ready part w → RequestsKept part part.calls plan.requests → all_lines (cut_plan part plan) (cut part w) ≡ lines_in part plan w
lines_cut part plan w rd same =
    ap₂ (λ a b. lines_by a b (all_lines (cut_plan part plan) (cut part w)).states) (requests_so part plan w same)
    (ap (map (blocked_line (cut_plan part plan) (cut part w))) (open_so part w) ∙ lines_so part.calls (blocked_line (cut_plan part plan) (cut part w)) (blocked_line plan w) (open_calls w) (λ c i. blocked_so part plan w c rd same i))
    ∙ ap (lines_by (lines_in part plan w).requests (lines_in part plan w).blocked) (states_so part plan w)

filter_everything : (cs : List ℕ) → filter all cs ≡ cs
filter_everything [] = refl
filter_everything (c ∷ cs) = ap (λ xs. c ∷ xs) (filter_everything cs)

-- blanks are in no line
lines_blank : (plan : Plan) (w : World) → Both w → all_lines plan (blank w) ≡ all_lines plan w
lines_blank plan w both =
    sym (ap₂ all_lines (plan_all plan) (whole w both.1))
    ∙ lines_cut everything plan w both.0 (λ n r e. refl)
    ∙ ap₂ (λ a b. lines_by a (map (blocked_line plan w) b) (kept all (each_state plan.keys (values w)))) (kept_all (numbered (request_line w.table.records) plan.requests)) (filter_everything (open_calls w))
    ∙ ap (lines_by (all_lines plan w).requests (all_lines plan w).blocked) (kept_all (each_state plan.keys (values w)))

along_end : (P : World → Type 0) (plan : Plan) (w : World) (es : List Event) → Along P plan w es → P (fold (step plan) w es)
along_end P plan w [] h = h
along_end P plan w (e ∷ es) h = along_end P plan (step plan w e) es h.1

both_end : (plan : Plan) (es : List Event) (w : World) → Worlds plan es w → Both w
both_end plan es w made = subst Both (sym made.world_so) (along_end Both plan (first_world plan) es (everything_ready plan es asks_granted))

-- The lines that some functions and keys have in a report are the report of the cut.
pub cut_report : (plan : Plan) (functions keys : Names) (events : List Event) (w small : World) → Closed plan functions keys → Worlds plan events w → Worlds (plan_cut plan functions keys) (events_cut plan functions w events) small → all_lines (plan_cut plan functions keys) small ≡ lines_of plan functions keys w
cut_report plan functions keys events w small closed made made_small =
    let part = part_of plan functions keys w in
    let c = cut_is_world plan functions keys events w closed made in
    let same : small ≡ c.small = made_small.world_so ∙ sym c.made.world_so in
    let kept_so = requests_kept plan functions keys events w made in
    ap (all_lines (cut_plan part plan)) same
    ∙ sym (lines_blank (cut_plan part plan) c.small (both_end (cut_plan part plan) (events_cut plan functions w events) c.small c.made))
    ∙ ap (all_lines (cut_plan part plan)) (sym c.is_cut)
    ∙ lines_cut part plan w (end_ready plan functions keys events w closed made) kept_so
    ∙ ap (λ a. lines_by a (lines_of plan functions keys w).blocked (lines_of plan functions keys w).states)
    (kept_alike part.calls (is_request_of plan functions) (request_line w.table.records) plan.requests (λ n r e. sym (kept_so n r e) ∙ sym (ap (λ o. elim o as (λ o. Bool) [ None ↦ false | Some q ↦ is_function_of plan functions q.function ]) e)))
