-- A world under a cut, part by part: its objects, the calls of its table, and its table.
use Rattle.std.proofs.Common.{◌≡◌, ℕ, zero, suc, ◌+◌, ◌-◌, ◌≤◌, Bool, true, false, cond, List, [], ◌∷◌, ◌++◌, Option, Some, None, refl, sym, ap, ap₂, ◌∙◌, map, length, slice_get, option_map, unwrap_or, filter_map, option_and_then, replicate, arith}
use Rattle.std.specs.Prelude.{◌&&◌}
use Rattle.std.specs.List.{list_all, cons_option}
use Rattle.std.proofs.lemmas.Bool.{and_parts}
use Rattle.std.proofs.lemmas.List.{length-map, map-append, append-nil, length-append, length-replicate}
use Rattle.std.proofs.lemmas.List.Elements.{filter_map-append}
use Rattle.faaslet_meaning.specs.Lists.{changed}
use Rattle.faaslet_meaning.specs.Channels.{RegionOperation}
use Rattle.faaslet_meaning.specs.Region.{Region, replica, global_value}
use Rattle.faaslet_meaning.specs.Table as table
use Rattle.faaslet_meaning.specs.Table.{Table, TableOperation}
use Rattle.session_meaning.specs.OpenCall.{Open}
use Rattle.session_meaning.specs.World.{Object, World, applied, on_local, on_global, filled, on_table}
use Rattle.session_meaning.specs.Events.{local_at, global_at, put_call, open_at}
use Rattle.session_meaning.specs.Cut.{Part, kept, rank, cut_region, cut_entry, cut_object, cut_objects, cut_open, cut_record, cut_table, blank_table, blank_record, only, cut_table_operation, cut_table_entry, blank_entry, cut, blank}
use Rattle.session_meaning.proofs.Kept.{get_kept, get_map, changed_kept, changed_left, changed_map, changed_id, length_kept, all_changed, all_at, all_push}
use Rattle.session_meaning.proofs.Regions.{held_by, after_cut, after_held}
use Rattle.session_meaning.proofs.Tables.{blank_cut}

-- ---- Objects.

-- all who made an entry on a kept key, or hold a lock there, are kept calls
abbrev makers_kept : Part → Object → Bool
makers_kept part o = list_all (λ e. part.calls e.0) o.history

abbrev pub held_on : Part → Object → Bool
held_on part o = held_by part.calls o.region && makers_kept part o

abbrev pub held_among : Part → List Object → Bool
held_among part os = list_all (held_on part) (kept part.keys os)

pub record Held (part : Part) (w : World) : Type 0 where
  pub locals : list_all (held_among part) w.locals ≡ true
  pub globals : held_among part w.globals ≡ true

applied_cut : (part : Part) (call : ℕ) (op : RegionOperation) (o : Object) → part.calls call ≡ true → held_on part o ≡ true → cut_object part.calls (applied call op o) ≡ applied (rank part.calls call) op (cut_object part.calls o)
applied_cut part call op o i h = ap₂ (λ s es. record { region = s; history = es }) (sym (after_cut part.calls o.region call op i (and_parts (held_by part.calls o.region) (makers_kept part o) h).0)) (map-append (cut_entry part.calls) o.history ((call, op) ∷ []))

objects_cut : (part : Part) (call key : ℕ) (op : RegionOperation) (os : List Object) → part.calls call ≡ true → part.keys key ≡ true → held_among part os ≡ true → cut_objects part (changed os key (applied call op)) ≡ changed (cut_objects part os) (rank part.keys key) (applied (rank part.calls call) op)
objects_cut part call key op os i k h =
    ap (map (cut_object part.calls)) (changed_kept part.keys os key (applied call op) k)
    ∙ changed_map (cut_object part.calls) (kept part.keys os) (rank part.keys key) (applied call op) (applied (rank part.calls call) op) (λ o e. applied_cut part call op o i (all_at (held_on part) (kept part.keys os) (rank part.keys key) o h e))

objects_left : (part : Part) (call key : ℕ) (op : RegionOperation) (os : List Object) → part.keys key ≡ false → cut_objects part (changed os key (applied call op)) ≡ cut_objects part os
objects_left part call key op os k = ap (map (cut_object part.calls)) (changed_left part.keys os key (applied call op) k)

pub local_cut : (part : Part) (w : World) (host key call : ℕ) (op : RegionOperation) → part.calls call ≡ true → part.keys key ≡ true → Held part w → cut part (on_local w host key call op) ≡ on_local (cut part w) host (rank part.keys key) (rank part.calls call) op
local_cut part w host key call op i k h = ap (λ ls. record (cut part w) { locals = ls }) (changed_map (cut_objects part) w.locals host _ _ (λ os e. objects_cut part call key op os i k (all_at (held_among part) w.locals host os h.locals e)))

pub global_cut : (part : Part) (w : World) (key call : ℕ) (op : RegionOperation) → part.calls call ≡ true → part.keys key ≡ true → Held part w → cut part (on_global w key call op) ≡ on_global (cut part w) (rank part.keys key) (rank part.calls call) op
global_cut part w key call op i k h = ap (λ gs. record (cut part w) { globals = gs }) (objects_cut part call key op w.globals i k h.globals)

pub local_left : (part : Part) (w : World) (host key call : ℕ) (op : RegionOperation) → part.keys key ≡ false → cut part (on_local w host key call op) ≡ cut part w
local_left part w host key call op k = ap (λ ls. record (cut part w) { locals = ls }) (changed_map (cut_objects part) w.locals host (λ os. changed os key (applied call op)) (λ os. os) (λ os e. objects_left part call key op os k) ∙ changed_id (map (cut_objects part) w.locals) host)

pub global_left : (part : Part) (w : World) (key call : ℕ) (op : RegionOperation) → part.keys key ≡ false → cut part (on_global w key call op) ≡ cut part w
global_left part w key call op k = ap (λ gs. record (cut part w) { globals = gs }) (objects_left part call key op w.globals k)

-- makers and holders stay kept calls
applied_held : (part : Part) (call : ℕ) (op : RegionOperation) (o : Object) → part.calls call ≡ true → held_on part o ≡ true → held_on part (applied call op o) ≡ true
applied_held part call op o i h =
    let p = and_parts (held_by part.calls o.region) (makers_kept part o) h in
    ap₂ (λ a b. a && b) (after_held part.calls o.region call op i p.0) (all_push (λ e. part.calls e.0) o.history (call, op) p.1 i)

held_changed : (part : Part) (call key : ℕ) (op : RegionOperation) (os : List Object) → part.calls call ≡ true → held_among part os ≡ true → held_among part (changed os key (applied call op)) ≡ true
held_changed part call key op os i h = by (part.keys key) refl
  where
    by : (b : Bool) → part.keys key ≡ b → held_among part (changed os key (applied call op)) ≡ true
    by true k = ap (list_all (held_on part)) (changed_kept part.keys os key (applied call op) k) ∙ all_changed (held_on part) (kept part.keys os) (rank part.keys key) (applied call op) (λ o e g. applied_held part call op o i g) h
    by false k = ap (list_all (held_on part)) (changed_left part.keys os key (applied call op) k) ∙ h

pub local_held : (part : Part) (w : World) (host key call : ℕ) (op : RegionOperation) → part.calls call ≡ true → Held part w → Held part (on_local w host key call op)
local_held part w host key call op i h = record { locals = all_changed (held_among part) w.locals host _ (λ os e g. held_changed part call key op os i g) h.locals; globals = h.globals }

pub global_held : (part : Part) (w : World) (key call : ℕ) (op : RegionOperation) → part.calls call ≡ true → Held part w → Held part (on_global w key call op)
global_held part w key call op i h = record { locals = h.locals; globals = held_changed part call key op w.globals i h.globals }

-- of other calls too, on keys that are left
held_left : (part : Part) (call key : ℕ) (op : RegionOperation) (os : List Object) → part.keys key ≡ false → held_among part os ≡ true → held_among part (changed os key (applied call op)) ≡ true
held_left part call key op os k h = ap (list_all (held_on part)) (changed_left part.keys os key (applied call op) k) ∙ h

pub local_held_left : (part : Part) (w : World) (host key call : ℕ) (op : RegionOperation) → part.keys key ≡ false → Held part w → Held part (on_local w host key call op)
local_held_left part w host key call op k h = record { locals = all_changed (held_among part) w.locals host _ (λ os e g. held_left part call key op os k g) h.locals; globals = h.globals }

pub global_held_left : (part : Part) (w : World) (key call : ℕ) (op : RegionOperation) → part.keys key ≡ false → Held part w → Held part (on_global w key call op)
global_held_left part w key call op k h = record { locals = h.locals; globals = held_left part call key op w.globals k h.globals }

-- the objects that a kept call finds
abbrev region_or : Region → Option Object → Region
region_or s o = elim o [ None ↦ s | Some x ↦ x.region ]

region_or_cut : (calls : ℕ → Bool) (s : Region) (o : Option Object) → cut_region calls s ≡ s → region_or s (option_map (cut_object calls) o) ≡ cut_region calls (region_or s o)
region_or_cut calls s None e = sym e
region_or_cut calls s (Some x) e = refl

found_cut : (part : Part) (os : List Object) (key : ℕ) → part.keys key ≡ true → slice_get (cut_objects part os) (rank part.keys key) ≡ option_map (cut_object part.calls) (slice_get os key)
found_cut part os key k = get_map (cut_object part.calls) (kept part.keys os) (rank part.keys key) ∙ ap (option_map (cut_object part.calls)) (get_kept part.keys os key k)

pub local_at_cut : (part : Part) (w : World) (host key : ℕ) → part.keys key ≡ true → local_at (cut part w) host (rank part.keys key) ≡ cut_region part.calls (local_at w host key)
local_at_cut part w host key k = ap (λ o. region_or (replica 0) (option_and_then (λ os. slice_get os (rank part.keys key)) o)) (get_map (cut_objects part) w.locals host) ∙ by (slice_get w.locals host)
  where
    by : (o : Option (List Object)) → region_or (replica 0) (option_and_then (λ os. slice_get os (rank part.keys key)) (option_map (cut_objects part) o)) ≡ cut_region part.calls (region_or (replica 0) (option_and_then (λ os. slice_get os key) o))
    by None = refl
    by (Some os) = ap (region_or (replica 0)) (found_cut part os key k) ∙ region_or_cut part.calls (replica 0) (slice_get os key) refl

pub global_at_cut : (part : Part) (w : World) (key : ℕ) → part.keys key ≡ true → global_at (cut part w) (rank part.keys key) ≡ cut_region part.calls (global_at w key)
global_at_cut part w key k = ap (region_or (global_value 0 [])) (found_cut part w.globals key k) ∙ region_or_cut part.calls (global_value 0 []) (slice_get w.globals key) refl

pub local_at_held : (part : Part) (w : World) (host key : ℕ) → part.keys key ≡ true → Held part w → held_by part.calls (local_at w host key) ≡ true
local_at_held part w host key k h = by (slice_get w.locals host) refl
  where
    at : (os : List Object) → held_among part os ≡ true → (o : Option Object) → slice_get os key ≡ o → held_by part.calls (region_or (replica 0) o) ≡ true
    at os g None e = refl
    at os g (Some x) e = (and_parts (held_by part.calls x.region) (makers_kept part x) (all_at (held_on part) (kept part.keys os) (rank part.keys key) x g (get_kept part.keys os key k ∙ e))).0

    by : (o : Option (List Object)) → slice_get w.locals host ≡ o → held_by part.calls (region_or (replica 0) (option_and_then (λ os. slice_get os key) o)) ≡ true
    by None e = refl
    by (Some os) e = at os (all_at (held_among part) w.locals host os h.locals e) (slice_get os key) refl

pub global_at_held : (part : Part) (w : World) (key : ℕ) → part.keys key ≡ true → Held part w → held_by part.calls (global_at w key) ≡ true
global_at_held part w key k h = by (slice_get w.globals key) refl
  where
    by : (o : Option Object) → slice_get w.globals key ≡ o → held_by part.calls (region_or (global_value 0 []) o) ≡ true
    by None e = refl
    by (Some x) e = (and_parts (held_by part.calls x.region) (makers_kept part x) (all_at (held_on part) (kept part.keys w.globals) (rank part.keys key) x h.globals (get_kept part.keys w.globals key k ∙ e))).0

-- ---- Open calls.

pub put_cut : (part : Part) (w : World) (call : ℕ) (o : Option Open) → part.calls call ≡ true → cut part (put_call w call o) ≡ put_call (cut part w) (rank part.calls call) (option_map (cut_open part) o)
put_cut part w call o i =
    ap (λ cs. record (cut part w) { calls = cs }) (ap (map (option_map (cut_open part))) (changed_kept part.calls w.calls call (λ old. o) i)
    ∙ changed_map (option_map (cut_open part)) (kept part.calls w.calls) (rank part.calls call) (λ old. o) (λ old. option_map (cut_open part) o) (λ x e. refl))

pub put_left : (part : Part) (w : World) (call : ℕ) (o : Option Open) → part.calls call ≡ false → cut part (put_call w call o) ≡ cut part w
put_left part w call o i = ap (λ cs. record (cut part w) { calls = map (option_map (cut_open part)) cs }) (changed_left part.calls w.calls call (λ old. o) i)

pub open_cut : (part : Part) (w : World) (call : ℕ) → part.calls call ≡ true → open_at (cut part w) (rank part.calls call) ≡ option_map (cut_open part) (open_at w call)
open_cut part w call i =
    ap (λ o. unwrap_or o None) (get_map (option_map (cut_open part)) (kept part.calls w.calls) (rank part.calls call) ∙ ap (option_map (option_map (cut_open part))) (get_kept part.calls w.calls call i))
    ∙ by (slice_get w.calls call)
  where
    by : (o : Option (Option Open)) → unwrap_or (option_map (option_map (cut_open part)) o) None ≡ option_map (cut_open part) (unwrap_or o None)
    by None = refl
    by (Some o) = refl

-- ---- A place for each record.

abbrev nones : ℕ → List (Option Open)
nones n = replicate n None

filled_none : (is : ℕ → Bool) (n : ℕ) → kept is (nones n) ≡ nones (rank is n)
filled_none is zero = refl
filled_none is (suc n) = by (is 0) (filled_none (λ m. is (suc m)) n)
  where
    by : (b : Bool) → kept (λ m. is (suc m)) (nones n) ≡ nones (rank (λ m. is (suc m)) n) → cond b (None ∷ kept (λ m. is (suc m)) (nones n)) (kept (λ m. is (suc m)) (nones n)) ≡ nones (cond b (suc (rank (λ m. is (suc m)) n)) (rank (λ m. is (suc m)) n))
    by true e = ap (λ xs. None ∷ xs) e
    by false e = e

filled_0 : (cs : List (Option Open)) → filled 0 cs ≡ cs
filled_0 cs = let none : 0 - length cs ≡ 0 = omega arith in ap (λ n. cs ++ replicate n None) none ∙ append-nil cs

filled_cons : (n : ℕ) (c : Option Open) (cs : List (Option Open)) → filled (suc n) (c ∷ cs) ≡ c ∷ filled n cs
filled_cons n c cs = let same : suc n - suc (length cs) ≡ n - length cs = omega arith in ap (λ m. c ∷ cs ++ replicate m None) same

pub filled_kept : (is : ℕ → Bool) (n : ℕ) (cs : List (Option Open)) → kept is (filled n cs) ≡ filled (rank is n) (kept is cs)
filled_kept is n [] =
    let all : n - 0 ≡ n = omega arith in
    let each : rank is n ≡ rank is n - 0 = omega arith in
    ap (λ m. kept is (replicate m None)) all ∙ filled_none is n ∙ ap (λ m. replicate m None) each
filled_kept is zero (c ∷ cs) = ap (kept is) (filled_0 (c ∷ cs)) ∙ sym (filled_0 (kept is (c ∷ cs)))
filled_kept is (suc n) (c ∷ cs) = ap (kept is) (filled_cons n c cs) ∙ by (is 0) (filled_kept (λ m. is (suc m)) n cs)
  where
    by : (b : Bool) → kept (λ m. is (suc m)) (filled n cs) ≡ filled (rank (λ m. is (suc m)) n) (kept (λ m. is (suc m)) cs) → cond b (c ∷ kept (λ m. is (suc m)) (filled n cs)) (kept (λ m. is (suc m)) (filled n cs)) ≡ filled (cond b (suc (rank (λ m. is (suc m)) n)) (rank (λ m. is (suc m)) n)) (cond b (c ∷ kept (λ m. is (suc m)) cs) (kept (λ m. is (suc m)) cs))
    by true e = ap (λ xs. c ∷ xs) e ∙ sym (filled_cons (rank (λ m. is (suc m)) n) c (kept (λ m. is (suc m)) cs))
    by false e = e

map_none : (f : Open → Open) (n : ℕ) → map (option_map f) (replicate n None) ≡ replicate n None
map_none f zero = refl
map_none f (suc n) = ap (λ xs. None ∷ xs) (map_none f n)

filled_map : (f : Open → Open) (n : ℕ) (cs : List (Option Open)) → map (option_map f) (filled n cs) ≡ filled n (map (option_map f) cs)
filled_map f n cs = map-append (option_map f) cs (replicate (n - length cs) None) ∙ ap (λ xs. map (option_map f) cs ++ xs) (map_none f (n - length cs)) ∙ ap (λ m. map (option_map f) cs ++ replicate (n - m) None) (sym (length-map cs (option_map f)))

pub length_cut : (part : Part) (t : Table) → length (cut_table part t).records ≡ rank part.calls (length t.records)
length_cut part t = length-map (kept part.calls t.records) (cut_record part) ∙ length_kept part.calls t.records

pub filled_cut : (part : Part) (n : ℕ) (cs : List (Option Open)) → map (option_map (cut_open part)) (kept part.calls (filled n cs)) ≡ filled (rank part.calls n) (map (option_map (cut_open part)) (kept part.calls cs))
filled_cut part n cs = ap (map (option_map (cut_open part))) (filled_kept part.calls n cs) ∙ filled_map (cut_open part) (rank part.calls n) (kept part.calls cs)

filled_full : (n : ℕ) (cs : List (Option Open)) → n ≡ length cs → filled n cs ≡ cs
filled_full n cs e = let none : n - length cs ≡ 0 = omega (arith, e) in ap (λ m. cs ++ replicate m None) none ∙ append-nil cs

pub length_filled : (n : ℕ) (cs : List (Option Open)) → length cs ≤ n → length (filled n cs) ≡ n
length_filled n cs h = length-append cs (replicate (n - length cs) None) ∙ ap (λ m. length cs + m) (length-replicate (n - length cs) None) ∙ omega (arith, h)

-- ---- The table and its history.

blank_entry_cut : (part : Part) (e : ℕ × TableOperation) → option_map blank_entry (cut_table_entry part e) ≡ cut_table_entry part e
blank_entry_cut part e = by e.1
  where
    tested : (b : Bool) (op : TableOperation) → ((m : ℕ) → blank_entry (m, op) ≡ (m, op)) → option_map blank_entry (option_map (λ o. (rank part.calls e.0, o)) (only b op)) ≡ option_map (λ o. (rank part.calls e.0, o)) (only b op)
    tested true op same = ap (λ x. Some x) (same (rank part.calls e.0))
    tested false op same = refl

    by : (op : TableOperation) → option_map blank_entry (cut_table_entry part (e.0, op)) ≡ cut_table_entry part (e.0, op)
    by (table.submit_request f host input) = tested (part.functions f) _ (λ m. refl)
    by (table.submit parent f input) = tested (part.calls parent) _ (λ m. refl)
    by (table.take_next host bench) = refl
    by (table.take_this call host bench) = tested (part.calls call) _ (λ m. refl)
    by (table.finish call o used output counts) = tested (part.calls call) _ (λ m. refl)
    by (table.look parent child) = tested (part.calls parent) _ (λ m. refl)

blank_history : (part : Part) (es : List (ℕ × TableOperation)) → map blank_entry (filter_map (cut_table_entry part) es) ≡ filter_map (cut_table_entry part) es
blank_history part [] = refl
blank_history part (e ∷ es) = by (cut_table_entry part e) (blank_entry_cut part e) (blank_history part es)
  where
    by : (o : Option (ℕ × TableOperation)) → option_map blank_entry o ≡ o → map blank_entry (filter_map (cut_table_entry part) es) ≡ filter_map (cut_table_entry part) es → map blank_entry (cons_option o (filter_map (cut_table_entry part) es)) ≡ cons_option o (filter_map (cut_table_entry part) es)
    by None h k = k
    by (Some x) h k = let same : blank_entry x ≡ x = cc in ap₂ (λ y ys. y ∷ ys) same k

-- what is cut has no blanks to make
pub blank_cut_world : (part : Part) (w : World) → blank (cut part w) ≡ cut part w
blank_cut_world part w = ap₂ (λ rs es. record (cut part w) { table = record (cut_table part w.table) { records = rs }; table_history = es }) (blank_cut part (kept part.calls w.table.records)) (blank_history part w.table_history)

pub table_cut : (part : Part) (w : World) (call : ℕ) (op op' : TableOperation) → cut_table part (table.after w.table call op) ≡ blank_table (table.after (cut_table part w.table) (rank part.calls call) op') → cut_table_entry part (call, op) ≡ Some (blank_entry (rank part.calls call, op')) → cut part (on_table w call op) ≡ blank (on_table (cut part w) (rank part.calls call) op')
table_cut part w call op op' t e =
    let after : Table = table.after w.table call op in
    let then : Table = table.after (cut_table part w.table) (rank part.calls call) op' in
    let long : rank part.calls (length after.records) ≡ length then.records = sym (length_cut part after) ∙ ap (λ u. length u.records) t ∙ length-map then.records blank_record in
    let calls : map (option_map (cut_open part)) (kept part.calls (filled (length after.records) w.calls)) ≡ filled (length then.records) (cut part w).calls = filled_cut part (length after.records) w.calls ∙ ap (λ n. filled n (cut part w).calls) long in
    let history : filter_map (cut_table_entry part) (w.table_history ++ (call, op) ∷ []) ≡ map blank_entry ((cut part w).table_history ++ (rank part.calls call, op') ∷ []) =
    filter_map-append (cut_table_entry part) w.table_history ((call, op) ∷ [])
    ∙ ap₂ (λ xs o. xs ++ cons_option o []) (sym (blank_history part w.table_history)) e
    ∙ sym (map-append blank_entry (cut part w).table_history ((rank part.calls call, op') ∷ [])) in
    ap₂ (λ u hs. record (cut part w) { table = u; table_history = hs; calls = map (option_map (cut_open part)) (kept part.calls (filled (length after.records) w.calls)) }) t history
    ∙ ap (λ cs. record (cut part w) { table = blank_table then; table_history = map blank_entry ((cut part w).table_history ++ (rank part.calls call, op') ∷ []); calls = cs }) calls

pub table_left : (part : Part) (w : World) (call : ℕ) (op : TableOperation) → length w.calls ≡ length w.table.records → cut_table part (table.after w.table call op) ≡ cut_table part w.table → cut_table_operation part op ≡ None → cut part (on_table w call op) ≡ cut part w
table_left part w call op sizes t e =
    let after : Table = table.after w.table call op in
    let long : rank part.calls (length after.records) ≡ length (cut part w).calls = sym (length_cut part after) ∙ ap (λ u. length u.records) t ∙ length_cut part w.table ∙ ap (rank part.calls) (sym sizes) ∙ sym (length_kept part.calls w.calls) ∙ sym (length-map (kept part.calls w.calls) (option_map (cut_open part))) in
    let calls : map (option_map (cut_open part)) (kept part.calls (filled (length after.records) w.calls)) ≡ (cut part w).calls = filled_cut part (length after.records) w.calls ∙ filled_full (rank part.calls (length after.records)) (cut part w).calls long in
    let history : filter_map (cut_table_entry part) (w.table_history ++ (call, op) ∷ []) ≡ (cut part w).table_history =
    filter_map-append (cut_table_entry part) w.table_history ((call, op) ∷ [])
    ∙ ap (λ o. (cut part w).table_history ++ cons_option (option_map (λ p. (rank part.calls call, p)) o) []) e
    ∙ append-nil (cut part w).table_history in
    ap₂ (λ u hs. record (cut part w) { table = u; table_history = hs; calls = map (option_map (cut_open part)) (kept part.calls (filled (length after.records) w.calls)) }) t history
    ∙ ap (λ cs. record (cut part w) { calls = cs }) calls
