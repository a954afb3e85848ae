-- An event on a kept call may stand exactly where it may in the cut world, and else the first reason is the same, with the same
-- call named.
use Rattle.std.proofs.Common.{◌≡◌, ℕ, Bool, true, false, cond, List, [], ◌∷◌, Option, Some, None, refl, sym, ap, ◌∙◌, map, length, slice_get, option_map, unwrap_or, filter_map, nat_lt, subst}
use Rattle.std.specs.List.{list_all, cons_option}
use Rattle.std.proofs.lemmas.Bool.{and_parts}
use Rattle.faaslet_meaning.specs.declared.call.CallRecord.{CallRecord}
use Rattle.faaslet_meaning.specs.declared.call.CallState.{CallState}
use Rattle.faaslet_meaning.specs.declared.call.CallState.TheVariants.{Queued, Taken, Finished}
use Rattle.session_meaning.specs.declared.event.Event.{Event}
use Rattle.session_meaning.specs.declared.event.Event.TheVariants.{Take, Ask, End}
use Rattle.session_meaning.specs.declared.event.Why.{Why}
use Rattle.session_meaning.specs.declared.event.Why.TheVariants.{NoCall, NoHost, NotQueued, NotOpen, NotEnded, HasEnded}
use Rattle.faaslet_meaning.specs.declared.grant.Channel.{Channel}
use Rattle.faaslet_meaning.specs.declared.grant.Channel.TheVariants.{Local, Global, Table as OnTable}
use Rattle.faaslet_meaning.specs.Lists.{first, passes_at}
use Rattle.faaslet_meaning.specs.Channels.{Operation, on_region, Question, ask, fills, pulls, pushes}
use Rattle.faaslet_meaning.specs.CallState.{State}
use Rattle.faaslet_meaning.specs.Region.{Kind, blocker, halves}
use Rattle.faaslet_meaning.specs.Records.{is_queued, is_finished, child_of}
use Rattle.session_meaning.specs.OpenCall.{Open, asking, Ended, ended}
use Rattle.session_meaning.specs.World.{World}
use Rattle.session_meaning.specs.Events.{local_at, global_at, Obstacle, held, unfinished, unfinished_child, child_at, lock_on, obstacle, open_at, why_of, why_take, why_ask, why_end, why_open, why}
use Rattle.session_meaning.specs.Cut.{Part, kept, rank, cut_channel, cut_question, cut_open, cut_record, blank_state, cut, call_of, cut_event, cut_why}
use Rattle.session_meaning.proofs.Regions.{blocked_cut}
use Rattle.session_meaning.proofs.Tables.{AllFit, get_cut, passes_cut, child_of_cut, child_of_kept}
use Rattle.session_meaning.proofs.WorldParts.{Held, length_cut, local_at_cut, global_at_cut, local_at_held, global_at_held, open_cut}
use Rattle.session_meaning.proofs.OneStep.{keeps_channel, ask_channel, one_true, two_true, asking_cut, ended_cut}
use Rattle.session_meaning.proofs.KeptAsks.{keeps_question, Apart, Own}

abbrev pub cut_obstacle : Part → Obstacle → Obstacle
cut_obstacle part (held ch holder) = held (cut_channel part.keys ch) (rank part.calls holder)
cut_obstacle part (unfinished child) = unfinished (rank part.calls child)

-- ---- What stands in a question's way.

blocked_by_cut : (part : Part) (ch : Channel) (o : Option ℕ) → option_map (λ h. held (cut_channel part.keys ch) h) (option_map (rank part.calls) o) ≡ option_map (cut_obstacle part) (option_map (λ h. held ch h) o)
blocked_by_cut part ch None = refl
blocked_by_cut part ch (Some h) = refl

finished_blank : (s : CallState) → is_finished (blank_state s) ≡ is_finished s
finished_blank Queued = refl
finished_blank (Taken host bench order) = refl
finished_blank (Finished host bench order o used output counts) = refl

child_cut : (part : Part) (rs : List CallRecord) (c : ℕ) → part.calls c ≡ true → unfinished_child (map (cut_record part) (kept part.calls rs)) (rank part.calls c) ≡ option_map (cut_obstacle part) (unfinished_child rs c)
child_cut part rs c i = ap (λ b. cond b None (Some (unfinished (rank part.calls c)))) (passes_cut part (λ r. is_finished r.state) rs c (λ r. finished_blank r.state) i) ∙ by (passes_at (λ r. is_finished r.state) rs c)
  where
    by : (b : Bool) → cond b None (Some (unfinished (rank part.calls c))) ≡ option_map (cut_obstacle part) (cond b None (Some (unfinished c)))
    by true = refl
    by false = refl

pub get_past : (rs : List CallRecord) → slice_get rs (length rs) ≡ None
get_past [] = refl
get_past (r ∷ rs) = get_past rs

past_unfinished : (rs : List CallRecord) → unfinished_child rs (length rs) ≡ Some (unfinished (length rs))
past_unfinished rs = ap (λ o. cond (elim o as (λ o. Bool) [ None ↦ false | Some r ↦ is_finished r.state ]) None (Some (unfinished (length rs)))) (get_past rs)

look_cut : (part : Part) (w : World) (call child : ℕ) → AllFit part w.table.records → part.calls call ≡ true → unfinished_child (cut part w).table.records (child_at (cut part w).table.records (rank part.calls call) child) ≡ option_map (cut_obstacle part) (unfinished_child w.table.records (child_at w.table.records call child))
look_cut part w call child fit i = ap (λ o. unfinished_child (cut part w).table.records (unwrap_or o (length (cut part w).table.records))) (child_of_cut part w.table.records call child fit i) ∙ by (child_of w.table.records call child) refl
  where
    by : (o : Option ℕ) → child_of w.table.records call child ≡ o → unfinished_child (cut part w).table.records (unwrap_or (option_map (rank part.calls) o) (length (cut part w).table.records)) ≡ option_map (cut_obstacle part) (unfinished_child w.table.records (unwrap_or o (length w.table.records)))
    by None e = past_unfinished (cut part w).table.records ∙ ap (λ n. Some (unfinished n)) (length_cut part w.table) ∙ sym (ap (option_map (cut_obstacle part)) (past_unfinished w.table.records))
    by (Some c) e = child_cut part w.table.records c (child_of_kept part w.table.records call child c fit i e)

lock_cut : (part : Part) (w : World) (call host : ℕ) (ch : Channel) (k : Kind) → Held part w → part.calls call ≡ true → keeps_channel part ch ≡ true → lock_on (cut part w) (rank part.calls call) host (cut_channel part.keys ch) k ≡ option_map (cut_obstacle part) (lock_on w call host ch k)
lock_cut part w call host (Local key) k h i g =
    ap (option_map (λ h. held (Local (rank part.keys key)) h)) (ap (λ s. blocker s (rank part.calls call) k) (local_at_cut part w host key g) ∙ blocked_cut part.calls (local_at w host key) call k i (local_at_held part w host key g h))
    ∙ blocked_by_cut part (Local key) (blocker (local_at w host key) call k)
lock_cut part w call host (Global key) k h i g =
    ap (option_map (λ h. held (Global (rank part.keys key)) h)) (ap (λ s. blocker s (rank part.calls call) k) (global_at_cut part w key g) ∙ blocked_cut part.calls (global_at w key) call k i (global_at_held part w key g h))
    ∙ blocked_by_cut part (Global key) (blocker (global_at w key) call k)
lock_cut part w call host OnTable k h i g = refl

-- ---- The first obstacle of a question.

abbrev pub keeps_half : Part → Channel × Kind → Bool
keeps_half part half = keeps_channel part half.0

abbrev cut_half : Part → Channel × Kind → Channel × Kind
cut_half part half = (cut_channel part.keys half.0, half.1)

halves_cut : (part : Part) (q : Question) → halves (cut_question part q) ≡ map (cut_half part) (halves q)
halves_cut part (ask ch (on_region op)) = refl
halves_cut part (ask ch (Operation.submit f input)) = refl
halves_cut part (ask ch (Operation.look c)) = refl
halves_cut part (fills key n) = refl
halves_cut part (pulls key off len) = refl
halves_cut part (pushes key off len) = refl

pub halves_kept : (part : Part) (q : Question) → keeps_question part q ≡ true → list_all (keeps_half part) (halves q) ≡ true
halves_kept part (ask ch (on_region op)) k = one_true (keeps_channel part ch) (ask_channel part ch (on_region op) k)
halves_kept part (ask ch (Operation.submit f input)) k = refl
halves_kept part (ask ch (Operation.look c)) k = refl
halves_kept part (fills key n) k = two_true (part.keys key) k
halves_kept part (pulls key off len) k = two_true (part.keys key) k
halves_kept part (pushes key off len) k = two_true (part.keys key) k

first_cut : (part : Part) (w : World) (call host : ℕ) (hs : List (Channel × Kind)) → Held part w → part.calls call ≡ true → list_all (keeps_half part) hs ≡ true → first (filter_map (λ x. lock_on (cut part w) (rank part.calls call) host x.0 x.1) (map (cut_half part) hs)) ≡ option_map (cut_obstacle part) (first (filter_map (λ x. lock_on w call host x.0 x.1) hs))
first_cut part w call host [] h i k = refl
first_cut part w call host (x ∷ xs) h i k =
    let g = and_parts (keeps_half part x) (list_all (keeps_half part) xs) k in
    ap (λ o. first (cons_option o (filter_map (λ x. lock_on (cut part w) (rank part.calls call) host x.0 x.1) (map (cut_half part) xs)))) (lock_cut part w call host x.0 x.1 h i g.0)
    ∙ by (lock_on w call host x.0 x.1) (first_cut part w call host xs h i g.1)
  where
    by : (o : Option Obstacle) → first (filter_map (λ x. lock_on (cut part w) (rank part.calls call) host x.0 x.1) (map (cut_half part) xs)) ≡ option_map (cut_obstacle part) (first (filter_map (λ x. lock_on w call host x.0 x.1) xs)) → first (cons_option (option_map (cut_obstacle part) o) (filter_map (λ x. lock_on (cut part w) (rank part.calls call) host x.0 x.1) (map (cut_half part) xs))) ≡ option_map (cut_obstacle part) (first (cons_option o (filter_map (λ x. lock_on w call host x.0 x.1) xs)))
    by None h = h
    by (Some y) h = refl

abbrev pub locked : World → ℕ → ℕ → Question → Option Obstacle
locked w call host q = first (filter_map (λ x. lock_on w call host x.0 x.1) (halves q))

locked_cut : (part : Part) (w : World) (call host : ℕ) (q : Question) → Held part w → part.calls call ≡ true → keeps_question part q ≡ true → locked (cut part w) (rank part.calls call) host (cut_question part q) ≡ option_map (cut_obstacle part) (locked w call host q)
locked_cut part w call host q h i k =
    ap (λ hs. first (filter_map (λ x. lock_on (cut part w) (rank part.calls call) host x.0 x.1) hs)) (halves_cut part q)
    ∙ first_cut part w call host (halves q) h i (halves_kept part q k)

-- what stands in the way of a kept call's question is the same, and so are the lines of blocked calls
pub obstacle_cut : (part : Part) (w : World) (call host : ℕ) (q : Question) → AllFit part w.table.records → Held part w → part.calls call ≡ true → keeps_question part q ≡ true → obstacle (cut part w) (rank part.calls call) host (cut_question part q) ≡ option_map (cut_obstacle part) (obstacle w call host q)
obstacle_cut part w call host (ask OnTable (Operation.look c)) fit h i k = look_cut part w call c fit i
obstacle_cut part w call host (ask OnTable (Operation.submit f input)) fit h i k = refl
obstacle_cut part w call host (ask OnTable (on_region op)) fit h i k = refl
obstacle_cut part w call host (ask (Local key) (on_region op)) fit h i k = locked_cut part w call host (ask (Local key) (on_region op)) h i k
obstacle_cut part w call host (ask (Global key) (on_region op)) fit h i k = locked_cut part w call host (ask (Global key) (on_region op)) h i k
obstacle_cut part w call host (ask (Local key) (Operation.submit f input)) fit h i k = refl
obstacle_cut part w call host (ask (Local key) (Operation.look c)) fit h i k = refl
obstacle_cut part w call host (ask (Global key) (Operation.submit f input)) fit h i k = refl
obstacle_cut part w call host (ask (Global key) (Operation.look c)) fit h i k = refl
obstacle_cut part w call host (fills key n) fit h i k = locked_cut part w call host (fills key n) h i k
obstacle_cut part w call host (pulls key off len) fit h i k = locked_cut part w call host (pulls key off len) h i k
obstacle_cut part w call host (pushes key off len) fit h i k = locked_cut part w call host (pushes key off len) h i k

-- ---- The first reason.

why_of_cut : (part : Part) (o : Option Obstacle) → option_map why_of (option_map (cut_obstacle part) o) ≡ option_map (cut_why part.calls) (option_map why_of o)
why_of_cut part None = refl
why_of_cut part (Some (held ch h)) = refl
why_of_cut part (Some (unfinished c)) = refl

queued_blank : (s : CallState) → is_queued (blank_state s) ≡ is_queued s
queued_blank Queued = refl
queued_blank (Taken host bench order) = refl
queued_blank (Finished host bench order o used output counts) = refl

take_why : (part : Part) (b c : Bool) → cond b (cond c None (Some NotQueued)) (Some NoHost) ≡ option_map (cut_why part.calls) (cond b (cond c None (Some NotQueued)) (Some NoHost))
take_why part true true = refl
take_why part true false = refl
take_why part false c = refl

abbrev recorded : (CallRecord → Option Why) → Option CallRecord → Option Why
recorded reason o = elim o [ None ↦ Some NoCall | Some r ↦ reason r ]

recorded_cut : (part : Part) (w : World) (call : ℕ) (reason reason' : CallRecord → Option Why) → part.calls call ≡ true → ((r : CallRecord) → reason' (cut_record part r) ≡ option_map (cut_why part.calls) (reason r)) → recorded reason' (slice_get (cut part w).table.records (rank part.calls call)) ≡ option_map (cut_why part.calls) (recorded reason (slice_get w.table.records call))
recorded_cut part w call reason reason' i same = ap (recorded reason') (get_cut part w.table.records call i) ∙ by (slice_get w.table.records call)
  where
    by : (o : Option CallRecord) → recorded reason' (option_map (cut_record part) o) ≡ option_map (cut_why part.calls) (recorded reason o)
    by None = refl
    by (Some r) = same r

abbrev opened : (Open → Option Why) → Option Open → Option Why
opened reason o = elim o [ None ↦ Some NotOpen | Some x ↦ reason x ]

opened_cut : (part : Part) (w : World) (call : ℕ) (reason reason' : Open → Option Why) → part.calls call ≡ true → ((o : Open) → open_at w call ≡ Some o → reason' (cut_open part o) ≡ option_map (cut_why part.calls) (reason o)) → why_open (cut part w) (rank part.calls call) reason' ≡ option_map (cut_why part.calls) (why_open w call reason)
opened_cut part w call reason reason' i same = ap (opened reason') (open_cut part w call i) ∙ by (open_at w call) refl
  where
    by : (o : Option Open) → open_at w call ≡ o → opened reason' (option_map (cut_open part) o) ≡ option_map (cut_why part.calls) (opened reason o)
    by None e = refl
    by (Some o) e = same o e

end_why : (part : Part) (o : Open) → why_end (cut_open part o) ≡ option_map (cut_why part.calls) (why_end o)
end_why part o = ap end_by (ended_cut part o) ∙ by (ended o)
  where
    end_by : Option Ended → Option Why
    end_by e = elim e [ None ↦ Some NotEnded | Some x ↦ None ]

    by : (e : Option Ended) → end_by e ≡ option_map (cut_why part.calls) (end_by e)
    by None = refl
    by (Some e) = refl

abbrev ask_by : World → ℕ → Open → Option (State × Question) → Option Why
ask_by w call o a = elim a [ None ↦ Some HasEnded | Some x ↦ option_map why_of (obstacle w call o.host x.1) ]

ask_why : (part : Part) (w : World) (call : ℕ) (o : Open) → Apart part w → part.calls call ≡ true → Own part true o → why_ask (cut part w) (rank part.calls call) (cut_open part o) ≡ option_map (cut_why part.calls) (why_ask w call o)
ask_why part w call o apart i own = ap (ask_by (cut part w) (rank part.calls call) (cut_open part o)) (asking_cut part o.machine) ∙ by (asking o.machine) refl
  where
    by : (a : Option (State × Question)) → asking o.machine ≡ a → ask_by (cut part w) (rank part.calls call) (cut_open part o) (option_map (λ a. (a.0, cut_question part a.1)) a) ≡ option_map (cut_why part.calls) (ask_by w call o a)
    by None e = refl
    by (Some a) e = ap (option_map why_of) (obstacle_cut part w call o.host a.1 apart.fit apart.held i (own.asks a.0 a.1 e)) ∙ why_of_cut part (obstacle w call o.host a.1)

pub why_cut : (part : Part) (w : World) (e : Event) → part.calls (call_of e) ≡ true → Apart part w → why (cut part w) (cut_event part.calls e) ≡ option_map (cut_why part.calls) (why w e)
why_cut part w (Take call host) i apart = recorded_cut part w call (λ r. why_take w r host) (λ r. why_take (cut part w) r host) i (λ r. ap (λ b. cond (nat_lt host w.table.hosts) (cond b None (Some NotQueued)) (Some NoHost)) (queued_blank r.state) ∙ take_why part (nat_lt host w.table.hosts) (is_queued r.state))
why_cut part w (Ask call) i apart = recorded_cut part w call (λ r. why_open w call (why_ask w call)) (λ r. why_open (cut part w) (rank part.calls call) (why_ask (cut part w) (rank part.calls call))) i (λ r. opened_cut part w call (why_ask w call) (why_ask (cut part w) (rank part.calls call)) i (λ o e. ask_why part w call o apart i (subst (λ b. Own part b o) i (apart.own call o e))))
why_cut part w (End call) i apart = recorded_cut part w call (λ r. why_open w call why_end) (λ r. why_open (cut part w) (rank part.calls call) why_end) i (λ r. opened_cut part w call why_end why_end i (λ o e. end_why part o))
