-- A turn at which the call runs, and what it leaves.
use Rattle.std.proofs.Common.{◌≡◌, ◌≢◌, ℕ, suc, ◌+◌, ◌<◌, Bool, true, false, cond, List, [], ◌∷◌, ◌++◌, Some, None, length, refl, sym, ap, ◌∙◌, subst, append_assoc, arith}
use Rattle.std.proofs.lemmas.List.{append-nil}
use Rattle.std.proofs.lemmas.List.Elements.{All-nil, All-append}
use Rattle.faaslet_meaning.specs.declared.ask.Reply as coded
use Rattle.faaslet_meaning.specs.declared.call.CallRecord.{CallRecord}
use Rattle.faaslet_meaning.specs.declared.call.CallState.{CallState}
use Rattle.faaslet_meaning.specs.declared.call.CallState.TheVariants.{Queued, Taken, Finished}
use Rattle.faaslet_meaning.specs.declared.outcome.Outcome.{Outcome}
use Rattle.faaslet_meaning.specs.Channels.{Reply}
use Rattle.faaslet_meaning.specs.Lists.{first, passes_at, places_from}
use Rattle.faaslet_meaning.specs.Records.{is_open, is_finished, is_child, child_of, told_of}
use Rattle.faaslet_meaning.specs.Spelling.{spelled_on_table}
use Rattle.faaslet_meaning.specs.Table.{Table, TableOperation, look}
use Rattle.turn_cell.specs.declared.view.Entry.{Entry}
use Rattle.turn_cell.specs.History.{Extends, entry}
use Rattle.call_table.specs.Looked.{LookedAt}
use Rattle.call_table.specs.Made.{Made}
use Rattle.call_table.specs.Makers.{is_on, MayMake, MakesTable, RunsOn}
use Rattle.call_table.specs.Session.{SessionTable}
use Rattle.call_table.proofs.Places.{weaker}
use Rattle.call_service.specs.May.{IsChild}
use Rattle.call_service.specs.Served.{AtTurn}
use Rattle.call_service.specs.Turned.{Looked}
use Rattle.call_service.proofs.Further.{goes_on, children_stay}

pub extends_none : (n : ℕ) (l : List Entry) → Extends n l l
extends_none n l = ([], append-nil l, All-nil (λ (e : Entry). e.maker ≢ n))

pub extends_more : (n : ℕ) (a b c : List Entry) → Extends n a b → Extends n b c → Extends n a c
extends_more n a b c x y = (x.0 ++ y.0, sym (append_assoc a x.0 y.0) ∙ (ap (λ l. l ++ y.0) x.1 ∙ y.1), All-append (λ (e : Entry). e.maker ≢ n) x.0 y.0 x.2 y.2)

-- ---- What is known at the turn.

pub is_known : (start s : SessionTable) (maker call function : ℕ) (old list : List Entry) → AtTurn start maker call old list s → function < length start.table.functions → function < length s.table.functions
is_known start s maker call function old list t h = subst (λ fs. function < length fs) (sym (goes_on start s list t.leads).functions) h

on_open : (b : ℕ) (s : CallState) → is_on b s ≡ true → is_open s ≡ true
on_open b Queued e = let no : ⊥ = cc in absurd no
on_open b (Taken host bench order) e = refl
on_open b (Finished host bench order outcome used output counts) e = let no : ⊥ = cc in absurd no

pub runs_open : (t : Table) (call n : ℕ) → RunsOn t call n → passes_at (λ r. is_open r.state) t.records call ≡ true
runs_open t call n h = weaker (λ r. is_on n r.state) (λ r. is_open r.state) t.records call (λ r e. on_open n r.state e) h

pub is_there : (start s : SessionTable) (maker call child : ℕ) (old list : List Entry) → AtTurn start maker call old list s → IsChild start old call child → child_of s.table.records call child ≡ None → ⊥
is_there start s maker call child old list t is e =
    let c = subst (λ (l : List Entry). IsChild start l call child) t.others.1 (children_stay start call child old t.others.0 is) s t.leads in
    let no : None ≡ Some c.0 = sym e ∙ c.1 in
    cc

first_low : {A : Type 0} (test : A → Bool) (m : ℕ) (xs : List A) (n : ℕ) → first (places_from m test xs) ≡ Some n → n < m + length xs
first_low test m [] n e = let no : ⊥ = cc in absurd no
first_low test m (x ∷ xs) n e = by (test x) e (first_low test (m + 1) xs n)
  where
    by : (b : Bool) → first (cond b (m ∷ places_from (m + 1) test xs) (places_from (m + 1) test xs)) ≡ Some n → (first (places_from (m + 1) test xs) ≡ Some n → n < m + 1 + length xs) → n < m + suc (length xs)
    by true e go = let same : m ≡ n = cc in omega (arith, same)
    by false e go = let l = go e in omega (arith, l)

-- a child is one of the records
pub child_low : (rs : List CallRecord) (call child n : ℕ) → child_of rs call child ≡ Some n → n < length rs
child_low rs call child n e = let l = first_low (is_child call child) 0 rs n e in omega (arith, l)

-- the entry that ends the turn
pub makes_so : (s taken t : SessionTable) (m n : ℕ) (o : TableOperation) (r : Reply) (numbers : List ℕ) → Made s o t r → MayMake s n o → m ≡ n → numbers ≡ spelled_on_table o → taken ≡ s → MakesTable m numbers taken t
makes_so s taken t m n o r numbers made may maker spelled same =
    subst (λ k. MakesTable k numbers taken t) (sym maker)
    (subst (λ e. MakesTable n e taken t) (sym spelled)
    (subst (λ (u : SessionTable). MakesTable n (spelled_on_table o) u t) (sym same) (made.entry n may)))

-- ---- A Look.

-- the outcome and the output of a finished call
record Told (s : CallState) : Type 0 where
  outcome : Outcome
  output : List ℕ
  is : told_of s ≡ Reply.finished outcome output

told : (s : CallState) → is_finished s ≡ true → Told s
told Queued e = let no : ⊥ = cc in absurd no
told (Taken host bench order) e = let no : ⊥ = cc in absurd no
told (Finished host bench order outcome used output counts) e = record { outcome = outcome; output = output; is = refl }

pub look_made : (s : SessionTable) (call child n at : ℕ) (code : coded.Reply) (before after : List ℕ) → RunsOn s.table call n → child_of s.table.records call child ≡ Some at → (l : LookedAt s at code before after) → Made s (look call child) s (told_of l.looked.of.state)
look_made s call child n at code before after runs found l = l.made call child (runs_open s.table call n runs) found

pub looked_so : (start s : SessionTable) (maker call child at : ℕ) (old list new : List Entry) (code : coded.Reply) (before after : List ℕ) → AtTurn start maker call old list s → child_of s.table.records call child ≡ Some at → LookedAt s at code before after
    → new ≡ list ++ entry maker (spelled_on_table (look call child)) ∷ [] → Looked start maker call child old new code before after
looked_so start s maker call child at old list new code before after t found l entered =
    let f = told l.looked.of.state l.looked.finished in
    record {
      outcome = f.outcome;
      output = f.output;
      entered = record {
        list = list;
        before = s;
        after = s;
        turn = t;
        entered = entered;
        did = subst (λ r. Made s (look call child) s r) f.is (look_made s call child maker at code before after t.runs found l);
        may = t.runs;
        fits = tt;
      };
      stands_for = l.looked.told ∙ ap (λ r. Some r) f.is;
      told_so = l.looked.rest f.outcome f.output f.is;
    }
