-- What holds of each world of closed functions and keys: kin, open calls, makers on kept keys; what entries leave of it, and which calls are kept.
use Rattle.std.proofs.Common.{◌≡◌, ◌⊎◌, inl, inr, ℕ, zero, suc, ◌-◌, true, false, List, [], ◌∷◌, ◌++◌, Option, Some, None, refl, sym, ap, ◌∙◌, length, slice_get, unwrap_or, replicate, subst, arith}
use Rattle.std.specs.Prelude.{fold}
use Rattle.faaslet_meaning.specs.declared.call.CallRecord.{CallRecord}
use Rattle.session_meaning.specs.declared.event.Event.{Event}
use Rattle.session_meaning.specs.declared.event.Event.TheVariants.{Take, Ask, End}
use Rattle.faaslet_meaning.specs.declared.grant.Channel.{Channel}
use Rattle.faaslet_meaning.specs.declared.grant.Channel.TheVariants.{Local, Global, Table as OnTable}
use Rattle.faaslet_meaning.specs.Channels.{RegionOperation, Operation, on_region, Reply, Question, ask, fills, pulls, pushes, Entry, entry, entries}
use Rattle.faaslet_meaning.specs.CallState.{State, runs, asks, over, lost}
use Rattle.faaslet_meaning.specs.Configuration.{Configuration}
use Rattle.faaslet_meaning.specs.Fresh.{Function, makes, fresh}
use Rattle.faaslet_meaning.specs.Runs.{invocation}
use Rattle.faaslet_meaning.specs.Table as table
use Rattle.faaslet_meaning.specs.Table.{Table, TableOperation}
use Rattle.session_meaning.specs.Plan.{Plan, NamedFunction}
use Rattle.session_meaning.specs.OpenCall.{Open, Machine, stands, is_broken, asking, Ended, ended}
use Rattle.session_meaning.specs.World.{World, on_local, on_global, on_table, entered}
use Rattle.session_meaning.specs.Events.{entries_now, put_call, open_at, step}
use Rattle.session_meaning.specs.Cut.{Part}
use Rattle.session_meaning.proofs.Kept.{length_changed, all_push}
use Rattle.session_meaning.proofs.Tables.{AllFit}
use Rattle.session_meaning.proofs.WorldParts.{Held, local_held, global_held, local_held_left, global_held_left, length_filled}
use Rattle.session_meaning.proofs.OneStep.{taken_by, finished_at, finished_of, asked_at, asked_of}
use Rattle.session_meaning.proofs.KeptAsks.{GrantsOwn, Own}
use Rattle.session_meaning.proofs.Whole.{all, no_next}
use Rattle.session_meaning.proofs.FoldedCut.{Ready, Plain}
use Rattle.session_meaning.proofs.Invariants.{Comes, AsksGranted, ClosedIn, own_question, own_grants, Grows, grows_on, Kin, Goes, changed_back, take_goes, submit_goes, submit_grows, finish_goes}

-- ---- What holds of each world.

abbrev pub MachineOk : Function → List ℕ → Machine → Type 0
MachineOk f input (stands p) = ((c : Configuration) × (fresh f ≡ makes c) × Comes (invocation f input) c p) ⊎ (p ≡ lost)
MachineOk f input (is_broken k) = Unit {0}

-- an open call is one of the function of its record
pub record OpenOk (plan : Plan) (rs : List CallRecord) (call : ℕ) (o : Open) : Type 0 where
  pub record_of : CallRecord
  pub record_is : slice_get rs call ≡ Some record_of
  pub function : NamedFunction
  pub function_is : slice_get plan.functions record_of.function ≡ Some function
  pub input : List ℕ
  pub runs_so : o.invocation ≡ invocation function.function input
  pub machine : MachineOk function.function input o.machine

pub record Inv (part : Part) (plan : Plan) (w : World) : Type 0 where
  pub kin : Kin part.functions w.table.records
  pub sizes : length w.calls ≡ length w.table.records
  pub plain : Plain w
  pub opens : (call : ℕ) (o : Open) → open_at w call ≡ Some o → OpenOk plan w.table.records call o
  pub held : Held part w

pub open_grows : (plan : Plan) (rs rs' : List CallRecord) (call : ℕ) (o : Open) → Grows rs rs' → OpenOk plan rs call o → OpenOk plan rs' call o
open_grows plan rs rs' call o g k =
    let h = g call k.record_of k.record_is in
    record { record_of = h.0; record_is = h.1; function = k.function; function_is = ap (slice_get plan.functions) h.2 ∙ k.function_is; input = k.input; runs_so = k.runs_so; machine = k.machine }

-- ---- Open calls after a change.

abbrev or_none : Option (Option Open) → Option Open
or_none o = unwrap_or o None

pub get_open : (cs : List (Option Open)) (m : ℕ) (o : Open) → unwrap_or (slice_get cs m) None ≡ Some o → slice_get cs m ≡ Some (Some o)
get_open cs m o e = by (slice_get cs m) e
  where
    by : (x : Option (Option Open)) → or_none x ≡ Some o → x ≡ Some (Some o)
    by None h = let no : ⊥ = cc in absurd no
    by (Some x) h = ap (λ y. Some y) h

front_open : (cs : List (Option Open)) (n m : ℕ) (o : Open) → slice_get (cs ++ replicate n None) m ≡ Some (Some o) → slice_get cs m ≡ Some (Some o)
front_open [] zero m o e = e
front_open [] (suc n) zero o e = let no : ⊥ = cc in absurd no
front_open [] (suc n) (suc m) o e = front_open [] n m o e
front_open (c ∷ cs) n zero o e = e
front_open (c ∷ cs) n (suc m) o e = front_open cs n m o e

pub some_open : {A : Type 0} {x y : A} → Some x ≡ Some y → x ≡ y
some_open e = cc

put_back : (w : World) (call : ℕ) (x : Option Open) (m : ℕ) (o : Open) → open_at (put_call w call x) m ≡ Some o → (open_at w m ≡ Some o) ⊎ ((m ≡ call) × (x ≡ Some o))
put_back w call x m o e = by (changed_back w.calls call (λ old. x) m (Some o) (get_open (put_call w call x).calls m o e))
  where
    by : (slice_get w.calls m ≡ Some (Some o)) ⊎ ((m ≡ call) × ((y : Option Open) × (slice_get w.calls m ≡ Some y) × (Some o ≡ x))) → (open_at w m ≡ Some o) ⊎ ((m ≡ call) × (x ≡ Some o))
    by (inl h) = inl (ap or_none h)
    by (inr h) = inr (h.0, sym h.1.2)

pub put_inv : (part : Part) (plan : Plan) (w : World) (call : ℕ) (x : Option Open) → ((o : Open) → x ≡ Some o → OpenOk plan w.table.records call o) → Inv part plan w → Inv part plan (put_call w call x)
put_inv part plan w call x ok inv =
    record {
      kin = inv.kin;
      sizes = length_changed w.calls call (λ old. x) ∙ inv.sizes;
      plain = inv.plain;
      opens = λ m o e. by m o (put_back w call x m o e);
      held = record { locals = inv.held.locals; globals = inv.held.globals };
    }
  where
    by : (m : ℕ) (o : Open) → (open_at w m ≡ Some o) ⊎ ((m ≡ call) × (x ≡ Some o)) → OpenOk plan w.table.records m o
    by m o (inl h) = inv.opens m o h
    by m o (inr h) = subst (λ n. OpenOk plan w.table.records n o) (sym h.0) (ok o h.1)

pub table_inv : (part : Part) (plan : Plan) (w : World) (call : ℕ) (op : TableOperation) → Goes part.functions w.table (table.after w.table call op) → no_next (call, op) ≡ true → Inv part plan w → Inv part plan (on_table w call op)
table_inv part plan w call op goes h inv =
    let after : Table = table.after w.table call op in
    let longer = goes.longer in
    let sizes = inv.sizes in
    record {
      kin = goes.kin inv.kin;
      sizes = length_filled (length after.records) w.calls (omega (arith, longer, sizes));
      plain = all_push no_next w.table_history (call, op) inv.plain h;
      opens = λ m o e. open_grows plan w.table.records after.records m o goes.grows (inv.opens m o (ap or_none (front_open w.calls (length after.records - length w.calls) m o (get_open (on_table w call op).calls m o e))));
      held = record { locals = inv.held.locals; globals = inv.held.globals };
    }

-- ---- Entries on regions, and on the table.

abbrev pub KeyOk : Part → ℕ → ℕ → Type 0
KeyOk part call key = (part.calls call ≡ true) ⊎ (part.keys key ≡ false)

local_inv : (part : Part) (plan : Plan) (w : World) (host key call : ℕ) (op : RegionOperation) → KeyOk part call key → Inv part plan w → Inv part plan (on_local w host key call op)
local_inv part plan w host key call op (inl i) inv = record { kin = inv.kin; sizes = inv.sizes; plain = inv.plain; opens = inv.opens; held = local_held part w host key call op i inv.held }
local_inv part plan w host key call op (inr k) inv = record { kin = inv.kin; sizes = inv.sizes; plain = inv.plain; opens = inv.opens; held = local_held_left part w host key call op k inv.held }

global_inv : (part : Part) (plan : Plan) (w : World) (key call : ℕ) (op : RegionOperation) → KeyOk part call key → Inv part plan w → Inv part plan (on_global w key call op)
global_inv part plan w key call op (inl i) inv = record { kin = inv.kin; sizes = inv.sizes; plain = inv.plain; opens = inv.opens; held = global_held part w key call op i inv.held }
global_inv part plan w key call op (inr k) inv = record { kin = inv.kin; sizes = inv.sizes; plain = inv.plain; opens = inv.opens; held = global_held_left part w key call op k inv.held }

-- a call submits calls of functions that are kept where its own is
abbrev SubmitOk : Part → World → ℕ → Operation → Type 0
SubmitOk part w call (Operation.submit f input) = (p : CallRecord) → slice_get w.table.records call ≡ Some p → part.functions p.function ≡ part.functions f
SubmitOk part w call op = Unit {0}

entered_table_inv : (part : Part) (plan : Plan) (w : World) (call host : ℕ) (op : Operation) (r : Reply) → SubmitOk part w call op → Inv part plan w → Inv part plan (entered call host w (entry OnTable op r))
entered_table_inv part plan w call host (Operation.submit f input) r ok inv = table_inv part plan w call (table.submit call f input) (submit_goes part.functions w.table call call f input ok) refl inv
entered_table_inv part plan w call host (Operation.look c) r ok inv = table_inv part plan w call (table.look call c) (record { grows = λ n r e. (r, e, refl); longer = omega arith; kin = λ k. k }) refl inv
entered_table_inv part plan w call host op r ok inv = inv

abbrev pub QuestionOk : Part → World → ℕ → Question → Type 0
QuestionOk part w call (ask (Local key) op) = KeyOk part call key
QuestionOk part w call (ask (Global key) op) = KeyOk part call key
QuestionOk part w call (ask OnTable op) = SubmitOk part w call op
QuestionOk part w call (fills key n) = KeyOk part call key
QuestionOk part w call (pulls key off len) = KeyOk part call key
QuestionOk part w call (pushes key off len) = KeyOk part call key

single_inv : (part : Part) (plan : Plan) (w : World) (call host : ℕ) (ch : Channel) (op : Operation) (r : Reply) → Inv part plan w → ((r : Reply) → Inv part plan (entered call host w (entry ch op r))) → Inv part plan (fold (entered call host) w (entries (ask ch op) r))
single_inv part plan w call host ch op Reply.want inv h = inv
single_inv part plan w call host ch op Reply.done inv h = h Reply.done
single_inv part plan w call host ch op Reply.full inv h = h Reply.full
single_inv part plan w call host ch op Reply.chain_full inv h = h Reply.chain_full
single_inv part plan w call host ch op (Reply.present b) inv h = h (Reply.present b)
single_inv part plan w call host ch op (Reply.bytes bs) inv h = h (Reply.bytes bs)
single_inv part plan w call host ch op (Reply.number n) inv h = h (Reply.number n)
single_inv part plan w call host ch op (Reply.child n) inv h = h (Reply.child n)
single_inv part plan w call host ch op (Reply.finished o bs) inv h = h (Reply.finished o bs)

pub question_inv : (part : Part) (plan : Plan) (w : World) (call host : ℕ) (q : Question) (r : Reply) → QuestionOk part w call q → Inv part plan w → Inv part plan (fold (entered call host) w (entries q r))
question_inv part plan w call host (ask (Local key) (on_region op)) r ok inv = single_inv part plan w call host (Local key) (on_region op) r inv (λ r. local_inv part plan w host key call op ok inv)
question_inv part plan w call host (ask (Global key) (on_region op)) r ok inv = single_inv part plan w call host (Global key) (on_region op) r inv (λ r. global_inv part plan w key call op ok inv)
question_inv part plan w call host (ask (Local key) (Operation.submit f input)) r ok inv = single_inv part plan w call host (Local key) (Operation.submit f input) r inv (λ r. inv)
question_inv part plan w call host (ask (Local key) (Operation.look c)) r ok inv = single_inv part plan w call host (Local key) (Operation.look c) r inv (λ r. inv)
question_inv part plan w call host (ask (Global key) (Operation.submit f input)) r ok inv = single_inv part plan w call host (Global key) (Operation.submit f input) r inv (λ r. inv)
question_inv part plan w call host (ask (Global key) (Operation.look c)) r ok inv = single_inv part plan w call host (Global key) (Operation.look c) r inv (λ r. inv)
question_inv part plan w call host (ask OnTable op) r ok inv = single_inv part plan w call host OnTable op r inv (λ r. entered_table_inv part plan w call host op r ok inv)
question_inv part plan w call host (fills key n) (Reply.bytes bs) ok inv = local_inv part plan (on_global w key call (RegionOperation.send 0 n)) host key call (RegionOperation.fill bs) ok (global_inv part plan w key call (RegionOperation.send 0 n) ok inv)
question_inv part plan w call host (pulls key off len) (Reply.bytes bs) ok inv = local_inv part plan (on_global w key call (RegionOperation.send off len)) host key call (RegionOperation.take off bs) ok (global_inv part plan w key call (RegionOperation.send off len) ok inv)
question_inv part plan w call host (pushes key off len) (Reply.bytes bs) ok inv = global_inv part plan (on_local w host key call (RegionOperation.send off len)) key call (RegionOperation.put off bs) ok (local_inv part plan w host key call (RegionOperation.send off len) ok inv)
question_inv part plan w call host q Reply.want ok inv = inv
question_inv part plan w call host q r ok inv = inv

-- ---- Records grow, whatever is asked.

entered_grows : (w : World) (call host : ℕ) (ch : Channel) (op : Operation) (r : Reply) → Grows w.table.records (entered call host w (entry ch op r)).table.records
entered_grows w call host (Local key) (on_region op) r = λ n r e. (r, e, refl)
entered_grows w call host (Local key) (Operation.submit f input) r = λ n r e. (r, e, refl)
entered_grows w call host (Local key) (Operation.look c) r = λ n r e. (r, e, refl)
entered_grows w call host (Global key) (on_region op) r = λ n r e. (r, e, refl)
entered_grows w call host (Global key) (Operation.submit f input) r = λ n r e. (r, e, refl)
entered_grows w call host (Global key) (Operation.look c) r = λ n r e. (r, e, refl)
entered_grows w call host OnTable (Operation.submit f input) r = submit_grows w.table call call f input
entered_grows w call host OnTable op r = λ n r e. (r, e, refl)

pub entries_grow : (w : World) (call host : ℕ) (es : List Entry) → Grows w.table.records (fold (entered call host) w es).table.records
entries_grow w call host [] = λ n r e. (r, e, refl)
entries_grow w call host (e ∷ es) = grows_on w.table.records _ _ (entered_grows w call host e.channel e.operation e.reply) (entries_grow (entered call host w e) call host es)

pub step_grows : (plan : Plan) (w : World) (e : Event) → Grows w.table.records (step plan w e).table.records
step_grows plan w (Take call host) = by (slice_get w.table.records call)
  where
    by : (o : Option CallRecord) → Grows w.table.records (taken_by plan w call host o).table.records
    by None = λ n r e. (r, e, refl)
    by (Some r) = (take_goes all w.table call call host call).grows
step_grows plan w (End call) = by (open_at w call)
  where
    at : (o : Open) (e : Option Ended) → Grows w.table.records (finished_of w call o e).table.records
    at o None = λ n r e. (r, e, refl)
    at o (Some e) = (finish_goes all w.table call call e.outcome e.used e.output o.counts).grows

    by : (o : Option Open) → Grows w.table.records (finished_at w call o).table.records
    by None = λ n r e. (r, e, refl)
    by (Some o) = at o (ended o)
step_grows plan w (Ask call) = by (open_at w call)
  where
    at : (o : Open) (a : Option (State × Question)) → Grows w.table.records (asked_of w call o a).table.records
    at o None = λ n r e. (r, e, refl)
    at o (Some a) = entries_grow w call o.host (entries_now w call o.host a.1)

    by : (o : Option Open) → Grows w.table.records (asked_at w call o).table.records
    by None = λ n r e. (r, e, refl)
    by (Some o) = at o (asking o.machine)

-- ---- Which calls are kept.

-- a call is kept where its function is
abbrev pub Agrees : Part → List CallRecord → Type 0
Agrees part rs = (n : ℕ) (r : CallRecord) → slice_get rs n ≡ Some r → part.functions r.function ≡ part.calls n

pub agrees_before : (part : Part) (rs rs' : List CallRecord) → Grows rs rs' → Agrees part rs' → Agrees part rs
agrees_before part rs rs' g a n r e = let h = g n r e in ap part.functions (sym h.2) ∙ a n h.0 h.1

pub agrees_first : (part : Part) (plan : Plan) (w : World) (es : List Event) → Agrees part (fold (step plan) w es).table.records → Agrees part w.table.records
agrees_first part plan w [] a = a
agrees_first part plan w (e ∷ es) a = agrees_before part w.table.records (step plan w e).table.records (step_grows plan w e) (agrees_first part plan (step plan w e) es a)

pub all_fit : (part : Part) (rs : List CallRecord) → Agrees part rs → Kin part.functions rs → AllFit part rs
all_fit part rs a kin n r e =
    let k = kin n r e in
    record {
      function = a n r e;
      request = sym (a r.request k.request.0 k.request.1) ∙ k.request.2 ∙ a n r e;
      parent = λ p h. let l = k.parent p h in sym (a p l.0 l.1) ∙ l.2 ∙ a n r e;
    }

pair_same : {s t : State} {p q : Question} → ◌≡◌ {A = Option (State × Question)} (Some (t, p)) (Some (s, q)) → (t ≡ s) × (p ≡ q)
pair_same e = let h = some_open e in (ap (λ x. x.0) h, ap (λ x. x.1) h)

pub asked_so : (f : Function) (input : List ℕ) (m : Machine) (s : State) (q : Question) → MachineOk f input m → asking m ≡ Some (s, q) → (c : Configuration) × (fresh f ≡ makes c) × Comes (invocation f input) c (asks s q)
asked_so f input (stands (asks t p)) s q (inl k) e =
    let same = pair_same e in
    (k.0, k.1, subst (λ x. Comes (invocation f input) k.0 (asks s x)) same.1 (subst (λ x. Comes (invocation f input) k.0 (asks x p)) same.0 k.2))
asked_so f input (stands (asks t p)) s q (inr k) e = let no : ⊥ = cc in absurd no
asked_so f input (stands (runs t)) s q k e = let no : ⊥ = cc in absurd no
asked_so f input (stands (over t o)) s q k e = let no : ⊥ = cc in absurd no
asked_so f input (stands lost) s q k e = let no : ⊥ = cc in absurd no
asked_so f input (is_broken x) s q k e = let no : ⊥ = cc in absurd no

pub own : (part : Part) (plan : Plan) (w : World) (call : ℕ) (o : Open) → AsksGranted → ClosedIn plan part.functions part.keys → Agrees part w.table.records → OpenOk plan w.table.records call o → Own part (part.calls call) o
own part plan w call o law closed agrees k =
    let i = agrees call k.record_of k.record_is in
    let c = closed k.record_of.function k.function k.function_is in
    record {
      grants = subst (λ j. GrantsOwn part (part.calls call) j.program.grants) (sym k.runs_so) (own_grants part k.record_of.function k.function.function (part.calls call) c i);
      asks = λ s q e. let h = asked_so k.function.function k.input o.machine s q k.machine e in own_question part k.record_of.function k.function.function k.input q (part.calls call) c i (law k.function.function k.input h.0 s q h.1 h.2);
    }

pub ready : (part : Part) (plan : Plan) (w : World) → AsksGranted → ClosedIn plan part.functions part.keys → Agrees part w.table.records → Inv part plan w → Ready part w
ready part plan w law closed agrees inv =
    record {
      apart = record { fit = all_fit part w.table.records agrees inv.kin; sizes = inv.sizes; held = inv.held; own = λ call o e. own part plan w call o law closed agrees (inv.opens call o e) };
      recorded = λ call o e. let k = inv.opens call o e in (k.record_of, k.record_is);
    }
