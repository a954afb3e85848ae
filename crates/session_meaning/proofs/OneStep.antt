-- An event on a kept call is an event of the cut world.
use Rattle.std.proofs.Common.{◌≡◌, ℕ, suc, ◌+◌, Bool, true, false, cond, List, [], ◌∷◌, Option, Some, None, refl, sym, ap, ap₂, ◌∙◌, map, length, slice_get, option_map, subst}
use Rattle.std.specs.Prelude.{◌&&◌, fold}
use Rattle.std.specs.List.{list_all}
use Rattle.std.proofs.lemmas.Bool.{and_parts}
use Rattle.faaslet_meaning.specs.declared.call.CallRecord.{CallRecord}
use Rattle.session_meaning.specs.declared.event.Event.{Event}
use Rattle.session_meaning.specs.declared.event.Event.TheVariants.{Take, Ask, End}
use Rattle.faaslet_meaning.specs.declared.grant.Channel.{Channel}
use Rattle.faaslet_meaning.specs.declared.grant.Channel.TheVariants.{Local, Global, Table as OnTable}
use Rattle.faaslet_meaning.specs.declared.grant.Grant.{Grant}
use Rattle.faaslet_meaning.specs.Channels.{RegionOperation, Operation, on_region, is_on_region, Reply, Question, ask, fills, pulls, pushes, Entry, entry, entries, channels, same_channel, on_channel}
use Rattle.faaslet_meaning.specs.CallState.{State, runs, asks, over, lost}
use Rattle.faaslet_meaning.specs.Call.{replied}
use Rattle.faaslet_meaning.specs.Table as table
use Rattle.session_meaning.specs.Plan.{Plan, NamedFunction}
use Rattle.session_meaning.specs.OpenCall.{Open, Machine, stands, is_broken, asking, Ended, ended, ended_by, answered, counted, counted_on, quiet, opened}
use Rattle.session_meaning.specs.World.{World, on_table, entered}
use Rattle.session_meaning.specs.Events.{answer, entries_now, put_call, open_at, open_of, took, asked, asked_by, finished, finished_by, step}
use Rattle.session_meaning.specs.Cut.{Part, kept, rank, cut_grant, cut_channel, cut_operation, cut_question, cut_asked, cut_machine, cut_open, cut_record, cut_named, cut_plan, cut, blank, call_of, cut_event}
use Rattle.session_meaning.proofs.Kept.{get_kept, get_map, rank_eq}
use Rattle.session_meaning.proofs.Renumbered.{replied_cut, quiet_cut, opened_cut, channels_cut}
use Rattle.session_meaning.proofs.Tables.{AllFit, get_cut, take_cut, finish_cut}
use Rattle.session_meaning.proofs.WorldParts.{Held, put_cut, open_cut, blank_cut_world, table_cut}
use Rattle.session_meaning.proofs.KeptAsks.{Apart, Own, answer_cut, entries_now_cut, keeps_ask, keeps_operation, keeps_question, keeps_region, regions_entered, table_entered}

-- ---- Counts and machines after a reply.

abbrev pub keeps_channel : Part → Channel → Bool
keeps_channel part (Local key) = part.keys key
keeps_channel part (Global key) = part.keys key
keeps_channel part OnTable = true

same_channel_cut : (part : Part) (ch ch' : Channel) → keeps_channel part ch ≡ true → keeps_channel part ch' ≡ true → same_channel (cut_channel part.keys ch) (cut_channel part.keys ch') ≡ same_channel ch ch'
same_channel_cut part (Local a) (Local b) h k = rank_eq part.keys a b h k
same_channel_cut part (Global a) (Global b) h k = rank_eq part.keys a b h k
same_channel_cut part OnTable OnTable h k = refl
same_channel_cut part ch ch' h k = refl

on_channel_cut : (part : Part) (ch : Channel) (es : List Entry) → keeps_channel part ch ≡ true → list_all (λ e. keeps_channel part e.channel) es ≡ true → length (on_channel (cut_channel part.keys ch) (map (cut_asked part) es)) ≡ length (on_channel ch es)
on_channel_cut part ch [] h k = refl
on_channel_cut part ch (e ∷ es) h k =
    let g = and_parts (keeps_channel part e.channel) (list_all (λ e. keeps_channel part e.channel) es) k in
    ap (λ b. length (cond b ((cut_operation part.functions e.operation, e.reply) ∷ on_channel (cut_channel part.keys ch) (map (cut_asked part) es)) (on_channel (cut_channel part.keys ch) (map (cut_asked part) es)))) (same_channel_cut part ch e.channel h g.0)
    ∙ by (same_channel ch e.channel) (on_channel_cut part ch es h g.1)
  where
    by : (b : Bool) → length (on_channel (cut_channel part.keys ch) (map (cut_asked part) es)) ≡ length (on_channel ch es) → length (cond b ((cut_operation part.functions e.operation, e.reply) ∷ on_channel (cut_channel part.keys ch) (map (cut_asked part) es)) (on_channel (cut_channel part.keys ch) (map (cut_asked part) es))) ≡ length (cond b ((e.operation, e.reply) ∷ on_channel ch es) (on_channel ch es))
    by true e = ap suc e
    by false e = e

counted_on_cut : (part : Part) (chs : List Channel) (ns : List ℕ) (es : List Entry) → list_all (keeps_channel part) chs ≡ true → list_all (λ e. keeps_channel part e.channel) es ≡ true → counted_on (map (cut_channel part.keys) chs) ns (map (cut_asked part) es) ≡ counted_on chs ns es
counted_on_cut part [] ns es h k = refl
counted_on_cut part (ch ∷ chs) [] es h k = refl
counted_on_cut part (ch ∷ chs) (n ∷ ns) es h k =
    let g = and_parts (keeps_channel part ch) (list_all (keeps_channel part) chs) h in
    ap₂ (λ m ms. (n + m) ∷ ms) (on_channel_cut part ch es g.0 k) (counted_on_cut part chs ns es g.1 k)

channels_kept : (part : Part) (gs : List Grant) → list_all (λ g. part.keys g.key) gs ≡ true → list_all (keeps_channel part) (channels gs) ≡ true
channels_kept part [] h = refl
channels_kept part (g ∷ gs) h =
    let p = and_parts (part.keys g.key) (list_all (λ g. part.keys g.key) gs) h in
    ap₂ (λ b c. b && (b && c)) p.0 (channels_kept part gs p.1)

counted_cut : (part : Part) (gs : List Grant) (ns : List ℕ) (es : List Entry) → list_all (λ g. part.keys g.key) gs ≡ true → list_all (λ e. keeps_channel part e.channel) es ≡ true → counted (map (cut_grant part.keys) gs) ns (map (cut_asked part) es) ≡ counted gs ns es
counted_cut part gs ns es h k = ap (λ chs. counted_on chs ns (map (cut_asked part) es)) (channels_cut part.keys gs) ∙ counted_on_cut part (channels gs) ns es (channels_kept part gs h) k

answered_cut : (part : Part) (o : Open) (s : State) (r : Reply) (es : List Entry) → list_all (λ g. part.keys g.key) o.invocation.program.grants ≡ true → list_all (λ e. keeps_channel part e.channel) es ≡ true → cut_open part (answered o s r es) ≡ answered (cut_open part o) s r (map (cut_asked part) es)
answered_cut part o s r es h k =
    ap₂ (λ p ns. record (cut_open part o) { machine = stands p; counts = ns }) (sym (ap (quiet (cut_open part o).invocation) (replied_cut part o.invocation s r) ∙ quiet_cut part o.invocation (replied o.invocation s r))) (sym (counted_cut part o.invocation.program.grants o.counts es h k))

-- ---- The entries of a question.

pub one_true : (b : Bool) → b ≡ true → (b && true) ≡ true
one_true b h = ap (λ c. c && true) h

pub two_true : (b : Bool) → b ≡ true → (b && (b && true)) ≡ true
two_true b h = ap (λ c. c && (c && true)) h

pub single : (test : Entry → Bool) (ch : Channel) (op : Operation) (r : Reply) → ((r : Reply) → test (entry ch op r) ≡ true) → list_all test (entries (ask ch op) r) ≡ true
single test ch op Reply.want h = refl
single test ch op Reply.done h = one_true _ (h Reply.done)
single test ch op Reply.full h = one_true _ (h Reply.full)
single test ch op Reply.chain_full h = one_true _ (h Reply.chain_full)
single test ch op (Reply.present b) h = one_true _ (h (Reply.present b))
single test ch op (Reply.bytes bs) h = one_true _ (h (Reply.bytes bs))
single test ch op (Reply.number n) h = one_true _ (h (Reply.number n))
single test ch op (Reply.child n) h = one_true _ (h (Reply.child n))
single test ch op (Reply.finished o bs) h = one_true _ (h (Reply.finished o bs))

pub ask_channel : (part : Part) (ch : Channel) (op : Operation) → keeps_ask part ch op ≡ true → keeps_channel part ch ≡ true
ask_channel part (Local key) op k = (and_parts (part.keys key) (is_on_region op) k).0
ask_channel part (Global key) op k = (and_parts (part.keys key) (is_on_region op) k).0
ask_channel part OnTable op k = refl

entries_channels : (part : Part) (q : Question) (r : Reply) → keeps_question part q ≡ true → list_all (λ e. keeps_channel part e.channel) (entries q r) ≡ true
entries_channels part (ask ch op) r k = single (λ e. keeps_channel part e.channel) ch op r (λ r. ask_channel part ch op k)
entries_channels part (fills key n) (Reply.bytes bs) k = two_true (part.keys key) k
entries_channels part (pulls key off len) (Reply.bytes bs) k = two_true (part.keys key) k
entries_channels part (pushes key off len) (Reply.bytes bs) k = two_true (part.keys key) k
entries_channels part q Reply.want k = refl
entries_channels part q r k = refl

-- what a question makes: an entry on the table, or none, or entries on regions
region_two : (part : Part) (ch ch' : Channel) (op op' : Operation) (r r' : Reply) → keeps_region part (entry ch op r) ≡ true → keeps_region part (entry ch' op' r') ≡ true → list_all (keeps_region part) (entry ch op r ∷ entry ch' op' r' ∷ []) ≡ true
region_two part ch ch' op op' r r' h k = ap₂ (λ b c. b && (c && true)) h k

fill_regions : (part : Part) (key n : ℕ) (r : Reply) → part.keys key ≡ true → list_all (keeps_region part) (entries (fills key n) r) ≡ true
fill_regions part key n (Reply.bytes bs) k = region_two part (Global key) (Local key) (on_region (RegionOperation.send 0 n)) (on_region (RegionOperation.fill bs)) (Reply.bytes bs) Reply.done (one_true _ k) (one_true _ k)
fill_regions part key n Reply.want k = refl
fill_regions part key n r k = refl

pull_regions : (part : Part) (key off len : ℕ) (r : Reply) → part.keys key ≡ true → list_all (keeps_region part) (entries (pulls key off len) r) ≡ true
pull_regions part key off len (Reply.bytes bs) k = region_two part (Global key) (Local key) (on_region (RegionOperation.send off len)) (on_region (RegionOperation.take off bs)) (Reply.bytes bs) Reply.done (one_true _ k) (one_true _ k)
pull_regions part key off len Reply.want k = refl
pull_regions part key off len r k = refl

push_regions : (part : Part) (key off len : ℕ) (r : Reply) → part.keys key ≡ true → list_all (keeps_region part) (entries (pushes key off len) r) ≡ true
push_regions part key off len (Reply.bytes bs) k = region_two part (Local key) (Global key) (on_region (RegionOperation.send off len)) (on_region (RegionOperation.put off bs)) (Reply.bytes bs) Reply.done (one_true _ k) (one_true _ k)
push_regions part key off len Reply.want k = refl
push_regions part key off len r k = refl

-- ---- A kept call's entries.

abbrev Folded : Part → World → ℕ → ℕ → List Entry → Type 0
Folded part w call host es = cut part (fold (entered call host) w es) ≡ blank (fold (entered (rank part.calls call) host) (cut part w) (map (cut_asked part) es))

from_regions : (part : Part) (w : World) (call host : ℕ) (es : List Entry) → part.calls call ≡ true → Held part w → list_all (keeps_region part) es ≡ true → Folded part w call host es
from_regions part w call host es i h k =
    let e = regions_entered part w call host es i h k in
    sym (ap blank (sym e) ∙ blank_cut_world part (fold (entered call host) w es))

table_folded : (part : Part) (w : World) (call host : ℕ) (op : Operation) (r : Reply) → AllFit part w.table.records → AllFit part (fold (entered call host) w (entries (ask OnTable op) r)).table.records → (p : CallRecord) → slice_get w.table.records call ≡ Some p → part.calls call ≡ true → keeps_operation part op ≡ true → Folded part w call host (entries (ask OnTable op) r)
table_folded part w call host op Reply.want fit fit' p e i k = sym (blank_cut_world part w)
table_folded part w call host op Reply.done fit fit' p e i k = table_entered part w call host op Reply.done fit fit' p e i k
table_folded part w call host op Reply.full fit fit' p e i k = table_entered part w call host op Reply.full fit fit' p e i k
table_folded part w call host op Reply.chain_full fit fit' p e i k = table_entered part w call host op Reply.chain_full fit fit' p e i k
table_folded part w call host op (Reply.present b) fit fit' p e i k = table_entered part w call host op (Reply.present b) fit fit' p e i k
table_folded part w call host op (Reply.bytes bs) fit fit' p e i k = table_entered part w call host op (Reply.bytes bs) fit fit' p e i k
table_folded part w call host op (Reply.number n) fit fit' p e i k = table_entered part w call host op (Reply.number n) fit fit' p e i k
table_folded part w call host op (Reply.child n) fit fit' p e i k = table_entered part w call host op (Reply.child n) fit fit' p e i k
table_folded part w call host op (Reply.finished o bs) fit fit' p e i k = table_entered part w call host op (Reply.finished o bs) fit fit' p e i k

folded_cut : (part : Part) (w : World) (call host : ℕ) (q : Question) (r : Reply) → AllFit part w.table.records → Held part w → AllFit part (fold (entered call host) w (entries q r)).table.records → (p : CallRecord) → slice_get w.table.records call ≡ Some p → part.calls call ≡ true → keeps_question part q ≡ true → Folded part w call host (entries q r)
folded_cut part w call host (ask (Local key) op) r fit h fit' p e i k = from_regions part w call host (entries (ask (Local key) op) r) i h (single (keeps_region part) (Local key) op r (λ r. k))
folded_cut part w call host (ask (Global key) op) r fit h fit' p e i k = from_regions part w call host (entries (ask (Global key) op) r) i h (single (keeps_region part) (Global key) op r (λ r. k))
folded_cut part w call host (ask OnTable op) r fit h fit' p e i k = table_folded part w call host op r fit fit' p e i k
folded_cut part w call host (fills key n) r fit h fit' p e i k = from_regions part w call host (entries (fills key n) r) i h (fill_regions part key n r k)
folded_cut part w call host (pulls key off len) r fit h fit' p e i k = from_regions part w call host (entries (pulls key off len) r) i h (pull_regions part key off len r k)
folded_cut part w call host (pushes key off len) r fit h fit' p e i k = from_regions part w call host (entries (pushes key off len) r) i h (push_regions part key off len r k)

-- ---- The three events of a kept call.

asked_cut : (part : Part) (w : World) (call : ℕ) (o : Open) (s : State) (q : Question) → Apart part w → AllFit part (asked w call o s q).table.records → (p : CallRecord) → slice_get w.table.records call ≡ Some p → part.calls call ≡ true → list_all (λ g. part.keys g.key) o.invocation.program.grants ≡ true → keeps_question part q ≡ true → cut part (asked w call o s q) ≡ blank (asked (cut part w) (rank part.calls call) (cut_open part o) s (cut_question part q))
asked_cut part w call o s q apart fit' p e i g k =
    let r = answer w call o.host q in
    let es = entries_now w call o.host q in
    put_cut part (fold (entered call o.host) w es) call (Some (answered o s r es)) i
    ∙ ap₂ (λ v x. put_call v (rank part.calls call) (Some x)) (folded_cut part w call o.host q r apart.fit apart.held fit' p e i k) (answered_cut part o s r es g (entries_channels part q r k))
    ∙ sym (ap₂ (λ r fs. blank (put_call (fold (entered (rank part.calls call) o.host) (cut part w) fs) (rank part.calls call) (Some (answered (cut_open part o) s r fs)))) (answer_cut part w call o.host q apart.fit i k) (entries_now_cut part w call o.host q apart.fit i k))

pub asking_cut : (part : Part) (m : Machine) → asking (cut_machine part m) ≡ option_map (λ a. (a.0, cut_question part a.1)) (asking m)
asking_cut part (stands (runs s)) = refl
asking_cut part (stands (asks s q)) = refl
asking_cut part (stands (over s o)) = refl
asking_cut part (stands lost) = refl
asking_cut part (is_broken k) = refl

pub ended_cut : (part : Part) (o : Open) → ended (cut_open part o) ≡ ended o
ended_cut part o = by o.machine
  where
    by : (m : Machine) → ended_by o.fuel (cut_machine part m) ≡ ended_by o.fuel m
    by (stands (runs s)) = refl
    by (stands (asks s q)) = refl
    by (stands (over s p)) = refl
    by (stands lost) = refl
    by (is_broken k) = refl

finished_cut : (part : Part) (w : World) (call : ℕ) (o : Open) (e : Ended) → part.calls call ≡ true → cut part (finished w call o e) ≡ blank (finished (cut part w) (rank part.calls call) (cut_open part o) e)
finished_cut part w call o e i =
    let op = table.finish call e.outcome e.used e.output o.counts in
    let op' = table.finish (rank part.calls call) e.outcome e.used e.output o.counts in
    put_cut part (on_table w call op) call None i
    ∙ ap (λ v. put_call v (rank part.calls call) None) (table_cut part w call op op' (finish_cut part w.table call (rank part.calls call) call e.outcome e.used e.output o.counts i) (ap (λ b. option_map (λ o. (rank part.calls call, o)) (cond b (Some op') None)) i))

open_of_cut : (part : Part) (plan : Plan) (r : CallRecord) (host : ℕ) → part.functions r.function ≡ true → option_map (cut_open part) (open_of plan r host) ≡ open_of (cut_plan part plan) (cut_record part r) host
open_of_cut part plan r host i = by (slice_get plan.functions r.function) ∙ sym (ap (option_map (λ f. opened f.function r.input host)) (get_map (cut_named part) (kept part.functions plan.functions) (rank part.functions r.function) ∙ ap (option_map (cut_named part)) (get_kept part.functions plan.functions r.function i)))
  where
    by : (o : Option NamedFunction) → option_map (cut_open part) (option_map (λ f. opened f.function r.input host) o) ≡ option_map (λ f. opened f.function r.input host) (option_map (cut_named part) o)
    by None = refl
    by (Some f) = ap (λ x. Some x) (sym (opened_cut part f.function r.input host))

took_cut : (part : Part) (plan : Plan) (w : World) (call host : ℕ) (r : CallRecord) → part.calls call ≡ true → part.functions r.function ≡ true → cut part (took plan w call host r) ≡ blank (took (cut_plan part plan) (cut part w) (rank part.calls call) host (cut_record part r))
took_cut part plan w call host r i j =
    let c = rank part.calls call in
    put_cut part (on_table w call (table.take_this call host call)) call (open_of plan r host) i
    ∙ ap₂ (λ v o. put_call v c o) (table_cut part w call (table.take_this call host call) (table.take_this c host c) (take_cut part w.table call c call host call c i) (ap (λ b. option_map (λ o. (c, o)) (cond b (Some (table.take_this c host 0)) None)) i)) (open_of_cut part plan r host j)

-- ---- An event on a kept call is an event of the cut world.

abbrev pub taken_by : Plan → World → ℕ → ℕ → Option CallRecord → World
taken_by plan w call host o = elim o [ None ↦ w | Some r ↦ took plan w call host r ]

take_step : (part : Part) (plan : Plan) (w : World) (call host : ℕ) → part.calls call ≡ true → AllFit part w.table.records → cut part (step plan w (Take call host)) ≡ blank (step (cut_plan part plan) (cut part w) (Take (rank part.calls call) host))
take_step part plan w call host i fit = by (slice_get w.table.records call) refl ∙ sym (ap (λ o. blank (taken_by (cut_plan part plan) (cut part w) (rank part.calls call) host o)) (get_cut part w.table.records call i))
  where
    by : (o : Option CallRecord) → slice_get w.table.records call ≡ o → cut part (taken_by plan w call host o) ≡ blank (taken_by (cut_plan part plan) (cut part w) (rank part.calls call) host (option_map (cut_record part) o))
    by None e = sym (blank_cut_world part w)
    by (Some r) e = took_cut part plan w call host r i ((fit call r e).function ∙ i)

abbrev pub finished_at : World → ℕ → Option Open → World
finished_at w call o = elim o [ None ↦ w | Some o ↦ finished_by w call o ]

abbrev pub finished_of : World → ℕ → Open → Option Ended → World
finished_of w call o e = elim e [ None ↦ w | Some e ↦ finished w call o e ]

end_step : (part : Part) (plan : Plan) (w : World) (call : ℕ) → part.calls call ≡ true → cut part (step plan w (End call)) ≡ blank (step (cut_plan part plan) (cut part w) (End (rank part.calls call)))
end_step part plan w call i = by (open_at w call) ∙ sym (ap (λ o. blank (finished_at (cut part w) (rank part.calls call) o)) (open_cut part w call i))
  where
    at : (o : Open) (e : Option Ended) → cut part (finished_of w call o e) ≡ blank (finished_of (cut part w) (rank part.calls call) (cut_open part o) e)
    at o None = sym (blank_cut_world part w)
    at o (Some e) = finished_cut part w call o e i

    by : (o : Option Open) → cut part (finished_at w call o) ≡ blank (finished_at (cut part w) (rank part.calls call) (option_map (cut_open part) o))
    by None = sym (blank_cut_world part w)
    by (Some o) = at o (ended o) ∙ sym (ap (λ e. blank (finished_of (cut part w) (rank part.calls call) (cut_open part o) e)) (ended_cut part o))

abbrev pub asked_at : World → ℕ → Option Open → World
asked_at w call o = elim o [ None ↦ w | Some o ↦ asked_by w call o ]

abbrev pub asked_of : World → ℕ → Open → Option (State × Question) → World
asked_of w call o a = elim a [ None ↦ w | Some a ↦ asked w call o a.0 a.1 ]

-- an open call has a record
abbrev pub HasRecord : World → ℕ → Type 0
HasRecord w call = (o : Open) → open_at w call ≡ Some o → (p : CallRecord) × (slice_get w.table.records call ≡ Some p)

ask_step : (part : Part) (plan : Plan) (w : World) (call : ℕ) → part.calls call ≡ true → Apart part w → HasRecord w call → AllFit part (step plan w (Ask call)).table.records → cut part (step plan w (Ask call)) ≡ blank (step (cut_plan part plan) (cut part w) (Ask (rank part.calls call)))
ask_step part plan w call i apart recorded fit' = by (open_at w call) refl fit' ∙ sym (ap (λ o. blank (asked_at (cut part w) (rank part.calls call) o)) (open_cut part w call i))
  where
    at : (o : Open) → Own part true o → (p : CallRecord) → slice_get w.table.records call ≡ Some p → (a : Option (State × Question)) → asking o.machine ≡ a → AllFit part (asked_of w call o a).table.records → cut part (asked_of w call o a) ≡ blank (asked_of (cut part w) (rank part.calls call) (cut_open part o) (option_map (λ a. (a.0, cut_question part a.1)) a))
    at o own p h None e fit = sym (blank_cut_world part w)
    at o own p h (Some a) e fit = asked_cut part w call o a.0 a.1 apart fit p h i own.grants (own.asks a.0 a.1 e)

    by : (o : Option Open) → open_at w call ≡ o → AllFit part (asked_at w call o).table.records → cut part (asked_at w call o) ≡ blank (asked_at (cut part w) (rank part.calls call) (option_map (cut_open part) o))
    by None e fit = sym (blank_cut_world part w)
    by (Some o) e fit =
        let r = recorded o e in
        at o (subst (λ b. Own part b o) i (apart.own call o e)) r.0 r.1 (asking o.machine) refl fit ∙ sym (ap (λ a. blank (asked_of (cut part w) (rank part.calls call) (cut_open part o) a)) (asking_cut part o.machine))

pub step_kept : (part : Part) (plan : Plan) (w : World) (e : Event) → part.calls (call_of e) ≡ true → Apart part w → HasRecord w (call_of e) → AllFit part (step plan w e).table.records → cut part (step plan w e) ≡ blank (step (cut_plan part plan) (cut part w) (cut_event part.calls e))
step_kept part plan w (Take call host) i apart recorded fit' = take_step part plan w call host i apart.fit
step_kept part plan w (Ask call) i apart recorded fit' = ask_step part plan w call i apart recorded fit'
step_kept part plan w (End call) i apart recorded fit' = end_step part plan w call i
