-- What is blank is what is cut to everything. So what holds of cuts holds of blanks.
use Rattle.std.proofs.Common.{◌≡◌, ℕ, zero, suc, Bool, true, false, List, [], ◌∷◌, Option, Some, None, refl, sym, ap, ap₂, ◌∙◌, map, option_map, filter_map}
use Rattle.std.specs.List.{list_all, cons_option}
use Rattle.std.specs.Prelude.{filter}
use Rattle.std.proofs.lemmas.Bool.{and_parts}
use Rattle.faaslet_meaning.specs.declared.call.CallRecord.{CallRecord}
use Rattle.session_meaning.specs.declared.event.Event.{Event}
use Rattle.session_meaning.specs.declared.event.Event.TheVariants.{Take, Ask, End}
use Rattle.faaslet_meaning.specs.declared.grant.Channel.{Channel}
use Rattle.faaslet_meaning.specs.declared.grant.Channel.TheVariants.{Local, Global, Table as OnTable}
use Rattle.faaslet_meaning.specs.declared.grant.Grant.{Grant}
use Rattle.faaslet_meaning.specs.Channels.{Operation, Question, ask, fills, pulls, pushes}
use Rattle.faaslet_meaning.specs.CallState.{Invocation, runs, asks, over, lost}
use Rattle.faaslet_meaning.specs.Table as table
use Rattle.faaslet_meaning.specs.Table.{Table, TableOperation}
use Rattle.session_meaning.specs.Plan.{NamedFunction, Request, Plan}
use Rattle.session_meaning.specs.OpenCall.{Open, Machine, stands, is_broken}
use Rattle.session_meaning.specs.World.{Object, World}
use Rattle.session_meaning.specs.Events.{step}
use Rattle.session_meaning.specs.Cut.{Part, kept, rank, cut_entry, cut_object, cut_objects, cut_grant, cut_invocation, cut_channel, cut_operation, cut_question, cut_machine, cut_open, cut_record, blank_record, cut_table_entry, blank_entry, cut, blank, cut_named, cut_request, cut_plan, call_of, cut_event}
use Rattle.session_meaning.proofs.Tables.{AllFit}
use Rattle.session_meaning.proofs.OneStep.{HasRecord, step_kept}
use Rattle.session_meaning.proofs.KeptAsks.{Apart}

abbrev pub all : ℕ → Bool
all n = true

abbrev pub everything : Part
everything = record { functions = all; keys = all; calls = all }

pub kept_all : {A : Type 0} (xs : List A) → kept all xs ≡ xs
kept_all [] = refl
kept_all (x ∷ xs) = ap (λ ys. x ∷ ys) (kept_all xs)

pub rank_all : (n : ℕ) → rank all n ≡ n
rank_all zero = refl
rank_all (suc n) = ap suc (rank_all n)

map_same : {A : Type 0} (f : A → A) (xs : List A) → ((x : A) → f x ≡ x) → map f xs ≡ xs
map_same f [] e = refl
map_same f (x ∷ xs) e = ap₂ (λ y ys. y ∷ ys) (e x) (map_same f xs e)

option_same : {A : Type 0} (f : A → A) (o : Option A) → ((x : A) → f x ≡ x) → option_map f o ≡ o
option_same f None e = refl
option_same f (Some x) e = ap (λ y. Some y) (e x)

object_all : (o : Object) → cut_object all o ≡ o
object_all o = ap₂ (λ s h. record { region = s; history = h }) (ap₂ (λ w rs. record o.region { writer = w; readers = rs }) (option_same (rank all) o.region.writer rank_all) (map_same (rank all) o.region.readers rank_all)) (map_same (cut_entry all) o.history (λ e. ap (λ m. (m, e.1)) (rank_all e.0)))

objects_all : (os : List Object) → cut_objects everything os ≡ os
objects_all os = ap (map (cut_object all)) (kept_all os) ∙ map_same (cut_object all) os object_all

grant_all : (g : Grant) → cut_grant all g ≡ g
grant_all g = ap (λ k. record g { key = k }) (rank_all g.key)

invocation_all : (j : Invocation) → cut_invocation everything j ≡ j
invocation_all j = ap₂ (λ gs fs. record j { program = record j.program { grants = gs }; callees = fs }) (map_same (cut_grant all) j.program.grants grant_all) (map_same (rank all) j.callees rank_all)

channel_all : (ch : Channel) → cut_channel all ch ≡ ch
channel_all (Local key) = ap (λ k. Local k) (rank_all key)
channel_all (Global key) = ap (λ k. Global k) (rank_all key)
channel_all OnTable = refl

pub operation_all : (op : Operation) → cut_operation all op ≡ op
operation_all (Operation.submit f input) = ap (λ g. Operation.submit g input) (rank_all f)
operation_all op = refl

question_all : (q : Question) → cut_question everything q ≡ q
question_all (ask ch op) = ap₂ ask (channel_all ch) (operation_all op)
question_all (fills key n) = ap (λ k. fills k n) (rank_all key)
question_all (pulls key off len) = ap (λ k. pulls k off len) (rank_all key)
question_all (pushes key off len) = ap (λ k. pushes k off len) (rank_all key)

machine_all : (m : Machine) → cut_machine everything m ≡ m
machine_all (stands (runs s)) = refl
machine_all (stands (asks s q)) = ap (λ r. stands (asks s r)) (question_all q)
machine_all (stands (over s o)) = refl
machine_all (stands lost) = refl
machine_all (is_broken k) = refl

open_all : (o : Open) → cut_open everything o ≡ o
open_all o = ap₂ (λ j m. record o { invocation = j; machine = m }) (invocation_all o.invocation) (machine_all o.machine)

record_all : (r : CallRecord) → cut_record everything r ≡ blank_record r
record_all r = ap₂ (λ q p. record (blank_record r) { request = q; parent = p; function = rank all r.function }) (rank_all r.request) (option_same (rank all) r.parent rank_all) ∙ ap (λ f. record (blank_record r) { function = f }) (rank_all r.function)

pub records_all : (rs : List CallRecord) → map (cut_record everything) (kept all rs) ≡ map blank_record rs
records_all rs = ap (map (cut_record everything)) (kept_all rs) ∙ each rs
  where
    each : (rs : List CallRecord) → map (cut_record everything) rs ≡ map blank_record rs
    each [] = refl
    each (r ∷ rs) = ap₂ (λ x xs. x ∷ xs) (record_all r) (each rs)

-- a TakeNext is no entry of a world
abbrev pub no_next : ℕ × TableOperation → Bool
no_next e = elim e.1 [ table.take_next host bench ↦ false | _ ↦ true ]

entry_all : (e : ℕ × TableOperation) → no_next e ≡ true → cut_table_entry everything e ≡ Some (blank_entry e)
entry_all e h = by e.1 h
  where
    by : (op : TableOperation) → no_next (e.0, op) ≡ true → cut_table_entry everything (e.0, op) ≡ Some (blank_entry (e.0, op))
    by (table.submit_request f host input) h = ap₂ (λ m g. Some (m, table.submit_request g host input)) (rank_all e.0) (rank_all f)
    by (table.submit parent f input) h = ap₂ (λ m p. Some (m, table.submit p (rank all f) input)) (rank_all e.0) (rank_all parent) ∙ ap (λ g. Some (e.0, table.submit parent g input)) (rank_all f)
    by (table.take_next host bench) h = let no : ⊥ = cc in absurd no
    by (table.take_this call host bench) h = ap₂ (λ m c. Some (m, table.take_this c host 0)) (rank_all e.0) (rank_all call)
    by (table.finish call o used output counts) h = ap₂ (λ m c. Some (m, table.finish c o used output counts)) (rank_all e.0) (rank_all call)
    by (table.look parent child) h = ap₂ (λ m c. Some (m, table.look c child)) (rank_all e.0) (rank_all parent)

history_all : (es : List (ℕ × TableOperation)) → list_all no_next es ≡ true → filter_map (cut_table_entry everything) es ≡ map blank_entry es
history_all [] h = refl
history_all (e ∷ es) h = let p = and_parts (no_next e) (list_all no_next es) h in ap₂ (λ o xs. cons_option o xs) (entry_all e p.0) (history_all es p.1)

pub whole : (w : World) → list_all no_next w.table_history ≡ true → cut everything w ≡ blank w
whole w h =
    ap₂ (λ rs fs. record (cut everything w) { table = record w.table { records = rs; functions = fs } }) (records_all w.table.records) (kept_all w.table.functions)
    ∙ ap₂ (λ hs cs. record (blank w) { table_history = hs; calls = cs; locals = map (cut_objects everything) w.locals; globals = cut_objects everything w.globals }) (history_all w.table_history h) (ap (map (option_map (cut_open everything))) (kept_all w.calls) ∙ map_same (option_map (cut_open everything)) w.calls (λ o. option_same (cut_open everything) o open_all))
    ∙ ap₂ (λ ls gs. record (blank w) { locals = ls; globals = gs }) (map_same (cut_objects everything) w.locals objects_all) (objects_all w.globals)

pub event_all : (e : Event) → cut_event all e ≡ e
event_all (Take call host) = ap (λ c. Take c host) (rank_all call)
event_all (Ask call) = ap (λ c. Ask c) (rank_all call)
event_all (End call) = ap (λ c. End c) (rank_all call)

named_all : (f : NamedFunction) → cut_named everything f ≡ f
named_all f = ap₂ (λ gs fs. record f { function = record f.function { grants = gs; callees = fs } }) (map_same (cut_grant all) f.function.grants grant_all) (map_same (rank all) f.function.callees rank_all)

filter_all : (rs : List Request) → filter (λ r. true) rs ≡ rs
filter_all [] = refl
filter_all (r ∷ rs) = ap (λ xs. r ∷ xs) (filter_all rs)

pub plan_all : (plan : Plan) → cut_plan everything plan ≡ plan
plan_all plan =
    ap₂ (λ ks fs. record (cut_plan everything plan) { keys = ks; functions = fs }) (kept_all plan.keys) (ap (map (cut_named everything)) (kept_all plan.functions) ∙ map_same (cut_named everything) plan.functions named_all)
    ∙ ap (λ rs. record plan { requests = rs }) (ap (map (cut_request everything)) (filter_all plan.requests) ∙ map_same (cut_request everything) plan.requests (λ r. ap (λ f. record r { function = f }) (rank_all r.function)))

pub fit_all : (rs : List CallRecord) → AllFit everything rs
fit_all rs n r e = record { function = refl; request = refl; parent = λ p e. refl }

-- blanks do not matter to a step
pub blank_step : (plan : Plan) (w : World) (e : Event) → Apart everything w → HasRecord w (call_of e) → list_all no_next w.table_history ≡ true → list_all no_next (step plan w e).table_history ≡ true → blank (step plan w e) ≡ blank (step plan (blank w) e)
blank_step plan w e apart recorded h h' =
    sym (whole (step plan w e) h')
    ∙ step_kept everything plan w e refl apart recorded (fit_all (step plan w e).table.records)
    ∙ ap₂ (λ p f. blank (step p (cut everything w) f)) (plan_all plan) (event_all e)
    ∙ ap (λ v. blank (step plan v e)) (whole w h)
