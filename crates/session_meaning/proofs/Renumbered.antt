-- A call whose plan numbers keys and functions anew goes through the same states, and asks the same under the new numbers.
use Rattle.std.proofs.Common.{ap₂, is_some, ◌*◌, ◌||◌, nat_lt, slice_range, take, ◌≡◌, ℕ, zero, suc, ◌+◌, Bool, true, false, cond, List, [], ◌∷◌, ◌++◌, Option, Some, None, Err, refl, ap, ◌∙◌, map, length, slice_get, option_map, unwrap_or}
use Rattle.std.specs.Prelude.{codes}
use Rattle.std.proofs.lemmas.List.{length-map}
use Rattle.faaslet_meaning.specs.declared.grant.Channel.{Channel}
use Rattle.faaslet_meaning.specs.declared.grant.Channel.TheVariants.{Local, Global, Table}
use Rattle.faaslet_meaning.specs.declared.grant.Grant.{Grant}
use Rattle.faaslet_meaning.specs.declared.grant.Mode.{Mode}
use Rattle.faaslet_meaning.specs.declared.instr.Instr.{Instr}
use Rattle.faaslet_meaning.specs.declared.instr.Instr.TheVariants as instr
use Rattle.faaslet_meaning.specs.declared.outcome.Outcome.{Outcome}
use Rattle.faaslet_meaning.specs.declared.outcome.Outcome.TheVariants as outcome
use Rattle.faaslet_meaning.specs.declared.outcome.Trap.{Trap}
use Rattle.faaslet_meaning.specs.declared.outcome.Trap.TheVariants as trap
use Rattle.faaslet_meaning.specs.Tree.{Tree, stop, plain}
use Rattle.faaslet_meaning.specs.Memory.{Home, private, mapped, Piece, Touch, reads_piece, writes_piece, touch_of, Written, shared_pieces, lies_in, writing, reading, may_map, key_pages, page_size, pages_of}
use Rattle.faaslet_meaning.specs.LoadStore.{store_of, bytes_of}
use Rattle.faaslet_meaning.specs.HostCalls.{HostCall, state_size, push_state, pull_state}
use Rattle.faaslet_meaning.specs.Configuration.{Program, Configuration, Begun, Next, goes, ends, touches, calls, stuck}
use Rattle.faaslet_meaning.specs.Limits.{traps}
use Rattle.faaslet_meaning.specs.MemoryRules.{granted, may_touch, all_granted, stored, store_at, resumed}
use Rattle.faaslet_meaning.specs.Integers.{low}
use Rattle.std.specs.Int.{w32}
use Rattle.faaslet_meaning.specs.declared.grant.Mode.TheVariants.{Write}
use Rattle.faaslet_meaning.specs.Step.{with_rest, plain_step, begin, paid, step_at, step, finished}
use Rattle.faaslet_meaning.specs.Channels.{RegionOperation, Operation, on_region, Reply, Question, ask, fills, pulls, pushes, channels}
use Rattle.faaslet_meaning.specs.CallState.{Invocation, Tier, local, global, Lock, Act, presence, fill, local_read, local_write, push, pull, used, append, lock_read, lock_write, unlock, submit, await, look, gives, take_input, give_output, passing, buffer_in, buffer_out, Stage, running, touching, calling, releasing, State, Progress, runs, asks, over, lost, without_lock, grant_at, fresh_state}
use Rattle.faaslet_meaning.specs.CallState.{map as mapping}
use Rattle.faaslet_meaning.specs.Checks.{Check, is_key, has_mode, in_key, few_pages, is_callee, is_allowed, passes, trap_of, first_trap, checks, key_size, size_at, fits_in, is_mapped}
use Rattle.faaslet_meaning.specs.Operations.{operations}
use Rattle.faaslet_meaning.specs.Serve.{Served, waits, through, no_memory, misfit, key_at, channel, touch_question, Carried, question_of, stands, passed, does, go_on, After, next, instead, piece, fails, wants, unfit, after, came_after, with_memory, kept, is_present, mapped_at}
use Rattle.faaslet_meaning.specs.Call.{locks_from, release, ended, begun_touch, settled, served, serve, progress, call_step, reply_work, reply_release, reply_at, replied}
use Rattle.faaslet_meaning.specs.Bounds.{steps_left}
use Rattle.faaslet_meaning.specs.Fresh.{Function, Store, Made, makes, breaks, nothing, then_make, then_go, through as started, steps as machine_steps, program, entry, instantiated, after as made_after, fresh}
use Rattle.faaslet_meaning.specs.Program.{export_of}
use Rattle.faaslet_meaning.specs.Runs.{invocation}
use Rattle.session_meaning.specs.OpenCall.{steps, quiet, machine_by, opened, Machine}
use Rattle.session_meaning.specs.OpenCall as machine
use Rattle.session_meaning.specs.Cut.{rank, Part, cut_grant, cut_function, cut_invocation, cut_channel, cut_question, cut_progress, cut_machine, cut_open}
use Rattle.session_meaning.proofs.Kept.{get_map}

abbrev cut_program : Part → Program → Program
cut_program part p = record p { grants = map (cut_grant part.keys) p.grants }

abbrev cut_served : Part → Served → Served
cut_served part (waits s q) = waits s (cut_question part q)
cut_served part s = s

-- ---- Grants under new numbers have the same modes and sizes.

granted_cut : (keys : ℕ → Bool) (m : Mode) (o : Option Grant) → granted m (option_map (cut_grant keys) o) ≡ granted m o
granted_cut keys m None = refl
granted_cut keys m (Some g) = refl

touch_cut : (keys : ℕ → Bool) (gs : List Grant) (m : Mode) (h : Home) → may_touch (map (cut_grant keys) gs) m h ≡ may_touch gs m h
touch_cut keys gs m private = refl
touch_cut keys gs m (mapped k) = ap (granted m) (get_map (cut_grant keys) gs k) ∙ granted_cut keys m (slice_get gs k)

all_granted_cut : (keys : ℕ → Bool) (gs : List Grant) (m : Mode) (ps : List Piece) → all_granted (map (cut_grant keys) gs) m ps ≡ all_granted gs m ps
all_granted_cut keys gs m [] = refl
all_granted_cut keys gs m (p ∷ ps) = ap (λ b. cond b (all_granted (map (cut_grant keys) gs) m ps) false) (touch_cut keys gs m p.home) ∙ ap (λ b. cond (may_touch gs m p.home) b false) (all_granted_cut keys gs m ps)

grant_cut : (part : Part) (j : Invocation) (k : ℕ) → grant_at (cut_invocation part j) k ≡ option_map (cut_grant part.keys) (grant_at j k)
grant_cut part j k = get_map (cut_grant part.keys) j.program.grants k

-- a place past the last grant has the key 0, whose new number is 0
pub key_cut : (part : Part) (j : Invocation) (k : ℕ) → key_at (cut_invocation part j) k ≡ rank part.keys (key_at j k)
key_cut part j k = ap (λ o. unwrap_or (option_map (λ g. g.key) o) 0) (grant_cut part j k) ∙ by (grant_at j k)
  where
    by : (o : Option Grant) → unwrap_or (option_map (λ g. g.key) (option_map (cut_grant part.keys) o)) 0 ≡ rank part.keys (unwrap_or (option_map (λ g. g.key) o) 0)
    by None = refl
    by (Some g) = refl

abbrev sized : Option Grant → Option ℕ
sized o = elim o [ None ↦ None | Some g ↦ Some g.size ]

sized_cut : (keys : ℕ → Bool) (o : Option Grant) → sized (option_map (cut_grant keys) o) ≡ sized o
sized_cut keys None = refl
sized_cut keys (Some g) = refl

size_cut : (part : Part) (j : Invocation) (k : ℕ) → size_at (cut_invocation part j) k ≡ size_at j k
size_cut part j k = ap sized (grant_cut part j k) ∙ sized_cut part.keys (grant_at j k)

key_size_cut : (part : Part) (j : Invocation) (k : ℕ) → key_size (cut_invocation part j) k ≡ key_size j k
key_size_cut part j k = ap (λ o. unwrap_or o 0) (size_cut part j k)

callee_cut : (part : Part) (j : Invocation) (f : ℕ) → unwrap_or (slice_get (cut_invocation part j).callees f) 0 ≡ rank part.functions (unwrap_or (slice_get j.callees f) 0)
callee_cut part j f = ap (λ o. unwrap_or o 0) (get_map (rank part.functions) j.callees f) ∙ by (slice_get j.callees f)
  where
    by : (o : Option ℕ) → unwrap_or (option_map (rank part.functions) o) 0 ≡ rank part.functions (unwrap_or o 0)
    by None = refl
    by (Some g) = refl

channel_cut : (part : Part) (j : Invocation) (t : Tier) (k : ℕ) → channel (cut_invocation part j) t k ≡ cut_channel part.keys (channel j t k)
channel_cut part j local k = ap (λ n. Local n) (key_cut part j k)
channel_cut part j global k = ap (λ n. Global n) (key_cut part j k)

-- ---- Steps of the machine.

store_at_cut : (part : Part) (p : Program) (c : Configuration) (at : ℕ) (bs : List ℕ) → store_at (cut_program part p) c at bs ≡ store_at p c at bs
store_at_cut part p c at bs = ap (λ b. cond (lies_in c.memory at (length bs)) (cond b (stored c (writing c.memory at bs)) (traps c trap.Denied)) (traps c trap.OutOfBounds)) (all_granted_cut part.keys p.grants Write (shared_pieces c.memory at (length bs)))

abbrev store_by : Program → Configuration → ℕ → ℕ → Option ℕ → Next
store_by p c at v o = elim o [ None ↦ stuck | Some n ↦ store_at p c at (bytes_of n v) ]

store_by_cut : (part : Part) (p : Program) (c : Configuration) (at v : ℕ) (o : Option ℕ) → store_by (cut_program part p) c at v o ≡ store_by p c at v o
store_by_cut part p c at v None = refl
store_by_cut part p c at v (Some n) = store_at_cut part p c at (bytes_of n v)

plain_step_cut : (part : Part) (p : Program) (c : Configuration) (i : Instr) (vs : List ℕ) → plain_step (cut_program part p) c i vs ≡ plain_step p c i vs
plain_step_cut part p c (instr.Store op align offset) (v ∷ x ∷ vs) = store_by_cut part p c (low w32 x + offset) v (store_of op)
plain_step_cut part p c i vs = refl

begin_cut : (part : Part) (p : Program) (c : Configuration) (t : Tree) → begin (cut_program part p) c t ≡ begin p c t
begin_cut part p c (plain i e) = plain_step_cut part p (with_rest c e) i c.frame.values
begin_cut part p c t = refl

paid_cut : (part : Part) (p : Program) (c : Configuration) (n : ℕ) (t : Tree) → paid c n (λ d. begin (cut_program part p) d t) ≡ paid c n (λ d. begin p d t)
paid_cut part p c zero t = refl
paid_cut part p c (suc n) t = begin_cut part p (record c { fuel = n }) t

step_at_cut : (part : Part) (p : Program) (c : Configuration) (t : Tree) → step_at (cut_program part p) c t ≡ step_at p c t
step_at_cut part p c stop = refl
step_at_cut part p c t = paid_cut part p c c.fuel t

pub step_cut : (part : Part) (p : Program) (c : Configuration) → step (cut_program part p) c ≡ step p c
step_cut part p c = step_at_cut part p c c.frame.rest

-- ---- Host calls.

is_some_cut : (keys : ℕ → Bool) (o : Option Grant) → is_some (option_map (cut_grant keys) o) ≡ is_some o
is_some_cut keys None = refl
is_some_cut keys (Some g) = refl

passes_cut : (part : Part) (j : Invocation) (s : State) (c : Check) → passes (cut_invocation part j) s c ≡ passes j s c
passes_cut part j s (is_key k) = ap is_some (grant_cut part j k) ∙ is_some_cut part.keys (grant_at j k)
passes_cut part j s (is_callee f) = ap (λ n. nat_lt f n) (length-map j.callees (rank part.functions))
passes_cut part j s (has_mode k m) = ap (granted m) (grant_cut part j k) ∙ granted_cut part.keys m (grant_at j k)
passes_cut part j s (in_key k off len) = ap (fits_in off len) (size_cut part j k)
passes_cut part j s (few_pages k) = ap (λ n. is_mapped s k || may_map s.config.memory (key_pages n)) (key_size_cut part j k)
passes_cut part j s (is_allowed b) = all_granted_cut part.keys j.program.grants b.needs (shared_pieces s.config.memory b.ptr b.len)
passes_cut part j s c = refl

first_trap_cut : (part : Part) (j : Invocation) (s : State) (cs : List Check) → first_trap (cut_invocation part j) s cs ≡ first_trap j s cs
first_trap_cut part j s [] = refl
first_trap_cut part j s (c ∷ cs) = ap (λ b. cond b (first_trap (cut_invocation part j) s cs) (Some (trap_of c))) (passes_cut part j s c) ∙ ap (λ o. cond (passes j s c) o (Some (trap_of c))) (first_trap_cut part j s cs)

operations_cut : (part : Part) (j : Invocation) (s : State) (h : HostCall) → operations (cut_invocation part j) s h ≡ operations j s h
operations_cut part j s (state_size k) = ap (λ n. gives n ∷ []) (key_size_cut part j k)
operations_cut part j s (push_state k) = ap (λ n. presence k ∷ push k 0 n ∷ []) (key_size_cut part j k)
operations_cut part j s (pull_state k) = ap (λ n. presence k ∷ pull k 0 n ∷ []) (key_size_cut part j k)
operations_cut part j s h = refl

touch_question_cut : (part : Part) (j : Invocation) (t : Touch) → touch_question (cut_invocation part j) t ≡ cut_question part (touch_question j t)
touch_question_cut part j (reads_piece k off n) = ap (λ ch. ask ch (on_region (RegionOperation.read off n))) (channel_cut part j local k)
touch_question_cut part j (writes_piece k off bs) = ap (λ ch. ask ch (on_region (RegionOperation.write off bs))) (channel_cut part j local k)

presence_cut : (part : Part) (ch : Channel) (b : Bool) → cond b None (Some (ask (cut_channel part.keys ch) (on_region RegionOperation.probe))) ≡ option_map (cut_question part) (cond b None (Some (ask ch (on_region RegionOperation.probe))))
presence_cut part ch true = refl
presence_cut part ch false = refl

questions_cut : (part : Part) (j : Invocation) (x : Carried) (a : Act) → question_of (cut_invocation part j) x a ≡ option_map (cut_question part) (question_of j x a)
questions_cut part j x (presence k) = ap (λ ch. cond (is_present x.state k) None (Some (ask ch (on_region RegionOperation.probe)))) (channel_cut part j local k) ∙ presence_cut part (channel j local k) (is_present x.state k)
questions_cut part j x (fill k) = ap₂ (λ k n. Some (fills k n)) (key_cut part j k) (key_size_cut part j k)
questions_cut part j x (local_read k off len) = ap (λ ch. Some (ask ch (on_region (RegionOperation.read off len)))) (channel_cut part j local k)
questions_cut part j x (local_write k off) = ap (λ ch. Some (ask ch (on_region (RegionOperation.write off x.held)))) (channel_cut part j local k)
questions_cut part j x (push k off len) = ap (λ k. Some (pushes k off len)) (key_cut part j k)
questions_cut part j x (pull k off len) = ap (λ k. Some (pulls k off len)) (key_cut part j k)
questions_cut part j x (used k) = ap (λ ch. Some (ask ch (on_region RegionOperation.size))) (channel_cut part j global k)
questions_cut part j x (append k) = ap (λ ch. Some (ask ch (on_region (RegionOperation.append x.held)))) (channel_cut part j global k)
questions_cut part j x (lock_read t k) = ap (λ ch. Some (ask ch (on_region RegionOperation.lock_read))) (channel_cut part j t k)
questions_cut part j x (lock_write t k) = ap (λ ch. Some (ask ch (on_region RegionOperation.lock_write))) (channel_cut part j t k)
questions_cut part j x (unlock t k) = ap (λ ch. Some (ask ch (on_region RegionOperation.unlock))) (channel_cut part j t k)
questions_cut part j x (submit f) = ap (λ g. Some (ask Table (Operation.submit g x.held))) (callee_cut part j f)
questions_cut part j x (await c) = refl
questions_cut part j x (look c off len) = refl
questions_cut part j x a = refl

abbrev touched : Invocation → List Act → (Carried → Served) → Carried → Written → Option Touch → Served
touched j acts go y w o = elim o [ None ↦ go (record y { held = kept y.held w.access }) | Some t ↦ stands (passing w.access ∷ acts) y (touch_question j t) ]

touched_cut : (part : Part) (j : Invocation) (acts : List Act) (go go' : Carried → Served) (y : Carried) (w : Written) (o : Option Touch) → ((x : Carried) → go' x ≡ cut_served part (go x)) → touched (cut_invocation part j) acts go' y w o ≡ cut_served part (touched j acts go y w o)
touched_cut part j acts go go' y w None e = e (record y { held = kept y.held w.access })
touched_cut part j acts go go' y w (Some t) e = ap (stands (passing w.access ∷ acts) y) (touch_question_cut part j t)

passed_cut : (part : Part) (j : Invocation) (acts : List Act) (go go' : Carried → Served) (x : Carried) (w : Written) → ((x : Carried) → go' x ≡ cut_served part (go x)) → passed (cut_invocation part j) acts go' x w ≡ cut_served part (passed j acts go x w)
passed_cut part j acts go go' x w e = touched_cut part j acts go go' (with_memory x w.memory) w (touch_of w.access) e

does_cut : (part : Part) (j : Invocation) (a : Act) (acts : List Act) (go go' : Carried → Served) (x : Carried) → ((x : Carried) → go' x ≡ cut_served part (go x)) → does (cut_invocation part j) a acts go' x ≡ cut_served part (does j a acts go x)
does_cut part j (buffer_in ptr len) acts go go' x e = passed_cut part j acts go go' x (record { memory = x.state.config.memory; access = reading x.state.config.memory ptr len }) e
does_cut part j (buffer_out ptr len) acts go go' x e = passed_cut part j acts go go' x (writing x.state.config.memory ptr (take len x.held)) e
does_cut part j (passing b) acts go go' x e = passed_cut part j acts go go' x (record { memory = x.state.config.memory; access = b }) e
does_cut part j (mapping k) acts go go' x e = ap (λ n. go' (mapped_at x k (key_pages n) (pages_of x.state.config.memory.segments * page_size))) (key_size_cut part j k) ∙ e (mapped_at x k (key_pages (key_size j k)) (pages_of x.state.config.memory.segments * page_size))
does_cut part j (take_input off len) acts go go' x e = e (record x { held = slice_range j.input off (off + len) })
does_cut part j give_output acts go go' x e = e (record x { state = record x.state { output = x.state.output ++ x.held } })
does_cut part j (gives n) acts go go' x e = e (record x { result = Some n })
does_cut part j a acts go go' x e = e x

abbrev goes_by : Invocation → Act → List Act → (Carried → Served) → Carried → Option Question → Served
goes_by j a acts go x o = elim o [ Some q ↦ stands (a ∷ acts) x q | None ↦ does j a acts go x ]

goes_by_cut : (part : Part) (j : Invocation) (a : Act) (acts : List Act) (go go' : Carried → Served) (x : Carried) (o : Option Question) → ((x : Carried) → go' x ≡ cut_served part (go x)) → goes_by (cut_invocation part j) a acts go' x (option_map (cut_question part) o) ≡ cut_served part (goes_by j a acts go x o)
goes_by_cut part j a acts go go' x None e = does_cut part j a acts go go' x e
goes_by_cut part j a acts go go' x (Some q) e = refl

go_on_cut : (part : Part) (j : Invocation) (acts : List Act) (x : Carried) → go_on (cut_invocation part j) acts x ≡ cut_served part (go_on j acts x)
go_on_cut part j [] x = refl
go_on_cut part j (a ∷ acts) x =
    ap (goes_by (cut_invocation part j) a acts (go_on (cut_invocation part j) acts) x) (questions_cut part j x a)
    ∙ goes_by_cut part j a acts (go_on j acts) (go_on (cut_invocation part j) acts) x (question_of j x a) (λ y. go_on_cut part j acts y)

came_after_cut : (part : Part) (j : Invocation) (acts : List Act) (x : Carried) (a : After) → came_after (cut_invocation part j) acts x a ≡ cut_served part (came_after j acts x a)
came_after_cut part j acts x (next y) = go_on_cut part j acts y
came_after_cut part j acts x (instead b) = go_on_cut part j (b ∷ acts) x
came_after_cut part j acts x (piece w) = passed_cut part j acts (go_on j acts) (go_on (cut_invocation part j) acts) x w (λ y. go_on_cut part j acts y)
came_after_cut part j acts x (fails t) = refl
came_after_cut part j acts x wants = refl
came_after_cut part j acts x unfit = refl

-- ---- Steps and replies of a call.

release_cut : (part : Part) (j : Invocation) (s : State) (o : Outcome) (ls : List Lock) → release (cut_invocation part j) s o ls ≡ cut_progress part (release j s o ls)
release_cut part j s o [] = refl
release_cut part j s o (l ∷ ls) = ap (λ ch. asks (record s { stage = releasing (l ∷ ls) o }) (ask ch (on_region RegionOperation.unlock))) (channel_cut part j l.tier l.place)

ended_cut : (part : Part) (j : Invocation) (s : State) (o : Outcome) → ended (cut_invocation part j) s o ≡ cut_progress part (ended j s o)
ended_cut part j s o = ap (λ n. release (cut_invocation part j) s o (locks_from s n 0)) (length-map j.program.grants (cut_grant part.keys)) ∙ release_cut part j s o (locks_from s (length j.program.grants) 0)

abbrev touches_by : Invocation → State → Configuration → Begun → Option Touch → Progress
touches_by j s c b o = elim o [ None ↦ lost | Some t ↦ asks (record s { config = c; stage = touching b }) (touch_question j t) ]

touches_by_cut : (part : Part) (j : Invocation) (s : State) (c : Configuration) (b : Begun) (o : Option Touch) → touches_by (cut_invocation part j) s c b o ≡ cut_progress part (touches_by j s c b o)
touches_by_cut part j s c b None = refl
touches_by_cut part j s c b (Some t) = ap (asks (record s { config = c; stage = touching b })) (touch_question_cut part j t)

settled_cut : (part : Part) (j : Invocation) (s : State) (n : Next) → settled (cut_invocation part j) s n ≡ cut_progress part (settled j s n)
settled_cut part j s (goes c) = refl
settled_cut part j s (ends c o) = ended_cut part j (record s { config = c; stage = running }) o
settled_cut part j s (touches c b) = touches_by_cut part j s c b (begun_touch b)
settled_cut part j s (calls c h) = refl
settled_cut part j s stuck = refl

served_cut : (part : Part) (j : Invocation) (v : Served) → served (cut_invocation part j) (cut_served part v) ≡ cut_progress part (served j v)
served_cut part j (waits s q) = refl
served_cut part j (through s r) = settled_cut part j s (finished s.config r)
served_cut part j (no_memory s) = ended_cut part j s outcome.Want
served_cut part j misfit = refl

abbrev serve_by : Invocation → State → HostCall → List Act → Option Trap → Progress
serve_by j s h acts o = elim o [ Some t ↦ served j (through s (Err t)) | None ↦ served j (go_on j acts (record { held = []; result = None; state = s })) ]

serve_by_cut : (part : Part) (j : Invocation) (s : State) (h : HostCall) (acts : List Act) (o : Option Trap) → serve_by (cut_invocation part j) s h acts o ≡ cut_progress part (serve_by j s h acts o)
serve_by_cut part j s h acts (Some t) = served_cut part j (through s (Err t))
serve_by_cut part j s h acts None =
    let x : Carried = record { held = []; result = None; state = s } in
    ap (served (cut_invocation part j)) (go_on_cut part j acts x) ∙ served_cut part j (go_on j acts x)

serve_cut : (part : Part) (j : Invocation) (s : State) (h : HostCall) → serve (cut_invocation part j) s h ≡ cut_progress part (serve j s h)
serve_cut part j s h =
    ap₂ (serve_by (cut_invocation part j) s h) (operations_cut part j s h) (first_trap_cut part j s (checks h))
    ∙ serve_by_cut part j s h (operations j s h) (first_trap j s (checks h))

progress_cut : (part : Part) (j : Invocation) (s : State) (n : Next) → progress (cut_invocation part j) s n ≡ cut_progress part (progress j s n)
progress_cut part j s (calls c h) = serve_cut part j (record s { config = c }) h
progress_cut part j s (goes c) = refl
progress_cut part j s (ends c o) = settled_cut part j s (ends c o)
progress_cut part j s (touches c b) = settled_cut part j s (touches c b)
progress_cut part j s stuck = refl

pub call_step_cut : (part : Part) (j : Invocation) (s : State) → call_step (cut_invocation part j) s ≡ cut_progress part (call_step j s)
call_step_cut part j s = ap (progress (cut_invocation part j) s) (step_cut part j.program s.config) ∙ progress_cut part j s (step j.program s.config)

reply_work_cut : (part : Part) (j : Invocation) (s : State) (acts : List Act) (held : List ℕ) (result : Option ℕ) (r : Reply) → reply_work (cut_invocation part j) s (record { acts = acts; held = held; result = result }) r ≡ cut_progress part (reply_work j s (record { acts = acts; held = held; result = result }) r)
reply_work_cut part j s [] held result r = refl
reply_work_cut part j s (a ∷ acts) held result r =
    let x : Carried = record { held = held; result = result; state = s } in
    ap (served (cut_invocation part j)) (came_after_cut part j acts x (after a x r)) ∙ served_cut part j (came_after j acts x (after a x r))

reply_release_cut : (part : Part) (j : Invocation) (s : State) (ls : List Lock) (o : Outcome) → reply_release (cut_invocation part j) s ls o ≡ cut_progress part (reply_release j s ls o)
reply_release_cut part j s [] o = refl
reply_release_cut part j s (l ∷ ls) o = release_cut part j (without_lock s l) o ls

reply_at_cut : (part : Part) (j : Invocation) (s : State) (st : Stage) (r : Reply) → reply_at (cut_invocation part j) s st r ≡ cut_progress part (reply_at j s st r)
reply_at_cut part j s (touching b) (Reply.bytes bs) = settled_cut part j s (resumed s.config b bs)
reply_at_cut part j s (touching b) Reply.done = settled_cut part j s (resumed s.config b [])
reply_at_cut part j s (calling w) r = reply_work_cut part j s w.acts w.held w.result r
reply_at_cut part j s (releasing ls o) Reply.done = reply_release_cut part j s ls o
reply_at_cut part j s st r = refl

pub replied_cut : (part : Part) (j : Invocation) (s : State) (r : Reply) → replied (cut_invocation part j) s r ≡ cut_progress part (replied j s r)
replied_cut part j s r = reply_at_cut part j s s.stage r

steps_cut : (part : Part) (j : Invocation) (n : ℕ) (p : Progress) → steps (cut_invocation part j) n (cut_progress part p) ≡ cut_progress part (steps j n p)
steps_cut part j zero p = refl
steps_cut part j (suc n) (runs s) = ap (steps (cut_invocation part j) n) (call_step_cut part j s) ∙ steps_cut part j n (call_step j s)
steps_cut part j (suc n) (asks s q) = refl
steps_cut part j (suc n) (over s o) = refl
steps_cut part j (suc n) lost = refl

steps_left_cut : (part : Part) (p : Progress) → steps_left (cut_progress part p) ≡ steps_left p
steps_left_cut part (runs s) = refl
steps_left_cut part (asks s q) = refl
steps_left_cut part (over s o) = refl
steps_left_cut part lost = refl

pub quiet_cut : (part : Part) (j : Invocation) (p : Progress) → quiet (cut_invocation part j) (cut_progress part p) ≡ cut_progress part (quiet j p)
quiet_cut part j p = ap (λ n. steps (cut_invocation part j) n (cut_progress part p)) (steps_left_cut part p) ∙ steps_cut part j (steps_left p) p

-- ---- Instantiation knows no keys and no functions of the plan.

machine_steps_cut : (part : Part) (p : Program) (n : ℕ) (c : Configuration) → machine_steps (cut_program part p) n c ≡ machine_steps p n c
machine_steps_cut part p zero c = refl
machine_steps_cut part p (suc n) c = ap (λ x. then_go x (machine_steps (cut_program part p) n)) (step_cut part p c) ∙ by (step p c) (λ d. machine_steps_cut part p n d)
  where
    by : (x : Next) → ((d : Configuration) → machine_steps (cut_program part p) n d ≡ machine_steps p n d) → then_go x (machine_steps (cut_program part p) n) ≡ then_go x (machine_steps p n)
    by (goes d) e = e d
    by x e = refl

then_same : {A B : Type 0} (m : Made A) (go go' : A → Made B) → ((a : A) → go' a ≡ go a) → then_make m go' ≡ then_make m go
then_same (makes a) go go' e = e a
then_same (breaks k) go go' e = refl
then_same nothing go go' e = refl

started_cut : (part : Part) (f : Function) (i : Option ℕ) (s : Store) → started (cut_function part f) i s ≡ started f i s
started_cut part f None s = refl
started_cut part f (Some i) s = then_same (entry f s (Some i)) _ _ (λ c. ap made_after (machine_steps_cut part (program f) (2 * f.fuel + 1) c))

pub fresh_cut : (part : Part) (f : Function) → fresh (cut_function part f) ≡ fresh f
fresh_cut part f =
    then_same (instantiated f) _ _ (λ s. ap (λ m. then_make m (λ t. then_make (started (cut_function part f) (export_of f.code (codes "init")) t) (λ u. entry f u (export_of f.code (codes "main"))))) (started_cut part f f.code.start s)
    ∙ then_same (started f f.code.start s) _ _ (λ t. ap (λ m. then_make m (λ u. entry f u (export_of f.code (codes "main")))) (started_cut part f (export_of f.code (codes "init")) t)))

machine_by_cut : (part : Part) (j : Invocation) (m : Made Configuration) → machine_by (cut_invocation part j) m ≡ cut_machine part (machine_by j m)
machine_by_cut part j (makes c) = ap (λ p. machine.stands p) (quiet_cut part j (runs (fresh_state c)))
machine_by_cut part j (breaks k) = refl
machine_by_cut part j nothing = refl

pub channels_cut : (keys : ℕ → Bool) (gs : List Grant) → channels (map (cut_grant keys) gs) ≡ map (cut_channel keys) (channels gs)
channels_cut keys [] = refl
channels_cut keys (g ∷ gs) = ap (λ chs. Local (rank keys g.key) ∷ Global (rank keys g.key) ∷ chs) (channels_cut keys gs)

abbrev none : Channel → ℕ
none ch = 0

zeros : (f : Channel → Channel) (chs : List Channel) → map none (map f chs) ≡ map none chs
zeros f [] = refl
zeros f (ch ∷ chs) = ap (λ ns. 0 ∷ ns) (zeros f chs)

-- a call that is taken
pub opened_cut : (part : Part) (f : Function) (input : List ℕ) (host : ℕ) → opened (cut_function part f) input host ≡ cut_open part (opened f input host)
opened_cut part f input host =
    ap₂ (λ m ns. record { host = host; invocation = cut_invocation part (invocation f input); fuel = f.fuel; machine = m; counts = ns }) (ap (machine_by (cut_invocation part (invocation f input))) (fresh_cut part f) ∙ machine_by_cut part (invocation f input) (fresh f)) (ap (map none) (channels_cut part.keys f.grants) ∙ zeros (cut_channel part.keys) (channels f.grants))
