-- What operations leave of the records that a bench took.
use Rattle.std.proofs.Common.{◌≡◌, ℕ, zero, suc, List, [], ◌∷◌, ◌++◌, Bool, true, false, cond, Option, Some, None, filter, map, slice_get, slice_set, refl, sym, ap, ◌∙◌}
use Rattle.std.specs.Prelude.{◌==◌}
use Rattle.std.proofs.lemmas.Bool.{eqb-true, eq-eqb}
use Rattle.std.proofs.lemmas.List.{map-append, append-nil}
use Rattle.std.proofs.lemmas.List.Elements.{filter-append}
use Rattle.std.proofs.lemmas.Option.{same_Some}
use Rattle.faaslet_meaning.specs.declared.call.CallRecord.{CallRecord}
use Rattle.faaslet_meaning.specs.declared.call.CallState.{CallState}
use Rattle.faaslet_meaning.specs.declared.call.CallState.TheVariants.{Queued, Taken, Finished}
use Rattle.faaslet_meaning.specs.declared.outcome.Outcome.{Outcome}
use Rattle.faaslet_meaning.specs.Lists.{first, passes_at, changed}
use Rattle.faaslet_meaning.specs.Records.{is_queued, queue, queued_calls, takes}
use Rattle.faaslet_meaning.specs.Table as table
use Rattle.faaslet_meaning.specs.Table.{Table, TableOperation, taken, next, finished_state, submitted, has_room, child_record, one_more_child, queued_record}
use Rattle.faaslet_meaning.specs.Table.TableOperation.{submit_request, submit, take_next, take_this, finish, look}
use Rattle.call_table.specs.Makers.{keeper, is_on, MayMake, MakesTable}
use Rattle.call_table.specs.Mine.{is_of, childless, mine, Took, Ended}
use Rattle.call_table.specs.Session.{SessionTable}
use Rattle.call_table.proofs.Held.{changed_set}
use Rattle.call_table.proofs.Places.{passes_there, first_queued, first_at_host}

-- a list around the item at a place
pub record Splits (rs : List CallRecord) (n : ℕ) (r : CallRecord) : Type 0 where
  pub front : List CallRecord
  pub back : List CallRecord
  pub old : rs ≡ front ++ r ∷ back
  pub new : (x : CallRecord) → slice_set rs n x ≡ front ++ x ∷ back

pub splits : (rs : List CallRecord) (n : ℕ) (r : CallRecord) → slice_get rs n ≡ Some r → Splits rs n r
splits [] n r e = let no : ⊥ = cc in absurd no
splits (y ∷ rs) zero r e = record { front = []; back = rs; old = ap (λ z. z ∷ rs) (same_Some y r e); new = λ x. refl }
splits (y ∷ rs) (suc n) r e = let s = splits rs n r e in record { front = y ∷ s.front; back = s.back; old = ap (λ l. y ∷ l) s.old; new = λ x. ap (λ l. y ∷ l) (s.new x) }

mine_append : (b : ℕ) (xs ys : List CallRecord) → mine b (xs ++ ys) ≡ mine b xs ++ mine b ys
mine_append b xs ys = ap (map childless) (filter-append (λ r. is_of b r.state) xs ys) ∙ map-append childless (filter (λ r. is_of b r.state) xs) (filter (λ r. is_of b r.state) ys)

mine_skip : (b : ℕ) (xs ys : List CallRecord) (r : CallRecord) → is_of b r.state ≡ false → mine b (xs ++ r ∷ ys) ≡ mine b xs ++ mine b ys
mine_skip b xs ys r h = mine_append b xs (r ∷ ys) ∙ rw h refl

mine_keep : (b : ℕ) (xs ys : List CallRecord) (r : CallRecord) → is_of b r.state ≡ true → mine b (xs ++ r ∷ ys) ≡ mine b xs ++ childless r ∷ mine b ys
mine_keep b xs ys r h = mine_append b xs (r ∷ ys) ∙ rw h refl

-- a record that is none of the bench's, before and after
other_stays : (b : ℕ) (rs : List CallRecord) (n : ℕ) (r x : CallRecord) → slice_get rs n ≡ Some r → is_of b r.state ≡ false → is_of b x.state ≡ false → mine b (slice_set rs n x) ≡ mine b rs
other_stays b rs n r x e old new = let s = splits rs n r e in
    ap (mine b) (s.new x) ∙ mine_skip b s.front s.back x new ∙ sym (ap (mine b) s.old ∙ mine_skip b s.front s.back r old)

-- a record that is the same without its children
child_stays : (b : ℕ) (rs : List CallRecord) (n : ℕ) (r x : CallRecord) → slice_get rs n ≡ Some r → x.state ≡ r.state → childless x ≡ childless r → mine b (slice_set rs n x) ≡ mine b rs
child_stays b rs n r x e same c = let s = splits rs n r e in ap (mine b) (s.new x) ∙ by s (is_of b r.state) refl ∙ sym (ap (mine b) s.old)
  where
    by : (s : Splits rs n r) (t : Bool) → is_of b r.state ≡ t → mine b (s.front ++ x ∷ s.back) ≡ mine b (s.front ++ r ∷ s.back)
    by s true h = mine_keep b s.front s.back x (ap (is_of b) same ∙ h) ∙ ap (λ y. mine b s.front ++ y ∷ mine b s.back) c ∙ sym (mine_keep b s.front s.back r h)
    by s false h = mine_skip b s.front s.back x (ap (is_of b) same ∙ h) ∙ sym (mine_skip b s.front s.back r h)

push_stays : (b : ℕ) (rs : List CallRecord) (r : CallRecord) → is_of b r.state ≡ false → mine b (rs ++ r ∷ []) ≡ mine b rs
push_stays b rs r h = mine_skip b rs [] r h ∙ append-nil (mine b rs)

queued_of_none : (b : ℕ) (s : CallState) → is_queued s ≡ true → is_of b s ≡ false
queued_of_none b Queued e = refl
queued_of_none b (Taken host bench order) e = let no : ⊥ = cc in absurd no
queued_of_none b (Finished host bench order outcome used output counts) e = let no : ⊥ = cc in absurd no

on_is_of : (b : ℕ) (s : CallState) → is_on b s ≡ true → is_of b s ≡ true
on_is_of b Queued e = let no : ⊥ = cc in absurd no
on_is_of b (Taken host bench order) e = e
on_is_of b (Finished host bench order outcome used output counts) e = let no : ⊥ = cc in absurd no

finished_is_of : (b : ℕ) (s : CallState) (o : Outcome) (used : ℕ) (output counts : List ℕ) → is_of b (finished_state s o used output counts) ≡ is_of b s
finished_is_of b Queued o used output counts = refl
finished_is_of b (Taken host bench order) o used output counts = refl
finished_is_of b (Finished host bench order outcome u out c) o used output counts = refl

differs : (a b : ℕ) → (b ≡ a → ⊥) → (a == b) ≡ false
differs a b ne = by (a == b) refl
  where
    by : (t : Bool) → (a == b) ≡ t → t ≡ false
    by true e = absurd (ne (sym (eqb-true a b e)))
    by false e = refl

on_of_other : (b c : ℕ) (s : CallState) → (b ≡ c → ⊥) → is_on c s ≡ true → is_of b s ≡ false
on_of_other b c Queued ne e = refl
on_of_other b c (Taken host bench order) ne e = differs bench b (λ same. ne (same ∙ eqb-true bench c e))
on_of_other b c (Finished host bench order outcome used output counts) ne e = let no : ⊥ = cc in absurd no

-- ---- A take.

pub next_is_queued : (t : Table) (host call : ℕ) → next t host ≡ Some call → passes_at (λ r. is_queued r.state) t.records call ≡ true
next_is_queued t host call e = by (queue t.records host) refl e
  where
    by : (q : List ℕ) → queue t.records host ≡ q → first (q ++ queued_calls t.records) ≡ Some call → passes_at (λ r. is_queued r.state) t.records call ≡ true
    by [] h f = first_queued t.records call f
    by (n ∷ q) h f = first_at_host t.records host call (ap first h ∙ f)

pub take_stays : (t : Table) (call host bench b : ℕ) → passes_at (λ r. is_queued r.state) t.records call ≡ true → (b ≡ bench → ⊥) → mine b (taken t call host bench).records ≡ mine b t.records
take_stays t call host bench b q ne = let p = passes_there (λ r. is_queued r.state) t.records call q in
    ap (mine b) (changed_set t.records call p.item (λ r. record r { state = Taken host bench (takes t.records) }) p.there)
    ∙ other_stays b t.records call p.item (record p.item { state = Taken host bench (takes t.records) }) p.there (queued_of_none b p.item.state p.passes) (differs bench b ne)

pub took : (t : Table) (call host bench : ℕ) → passes_at (λ r. is_queued r.state) t.records call ≡ true → Took host bench call t.records (taken t call host bench).records
took t call host bench q =
    let p = passes_there (λ r. is_queued r.state) t.records call q in
    let new : CallRecord = record p.item { state = Taken host bench (takes t.records) } in
    let s = splits t.records call p.item p.there in
    record {
      of = p.item;
      there = p.there;
      front = mine bench s.front;
      back = mine bench s.back;
      old_is = ap (mine bench) s.old ∙ mine_skip bench s.front s.back p.item (queued_of_none bench p.item.state p.passes);
      new_is = ap (mine bench) (changed_set t.records call p.item (λ r. record r { state = Taken host bench (takes t.records) }) p.there ∙ s.new new) ∙ mine_keep bench s.front s.back new (eq-eqb bench bench refl);
      others = λ b ne. take_stays t call host bench b q ne;
    }

-- ---- A Finish.

module _ (t : Table) (call bench : ℕ) (o : Outcome) (used : ℕ) (output counts : List ℕ) (maker : ℕ) (on : passes_at (λ r. is_on bench r.state) t.records call ≡ true) where
  change : CallRecord → CallRecord
  change r = record r { state = finished_state r.state o used output counts }

  pub finish_stays : (b : ℕ) → (b ≡ bench → ⊥) → mine b (table.after t maker (finish call o used output counts)).records ≡ mine b t.records
  finish_stays b ne = let p = passes_there (λ r. is_on bench r.state) t.records call on in
      let no = on_of_other b bench p.item.state ne p.passes in
      ap (mine b) (changed_set t.records call p.item (λ r. record r { state = finished_state r.state o used output counts }) p.there)
      ∙ other_stays b t.records call p.item (record p.item { state = finished_state p.item.state o used output counts }) p.there no (finished_is_of b p.item.state o used output counts ∙ no)

  pub ended : Ended bench call o used output counts t.records (table.after t maker (finish call o used output counts)).records
  ended =
      let p = passes_there (λ r. is_on bench r.state) t.records call on in
      let new : CallRecord = record p.item { state = finished_state p.item.state o used output counts } in
      let s = splits t.records call p.item p.there in
      let is = on_is_of bench p.item.state p.passes in
      record {
        of = p.item;
        there = p.there;
        front = mine bench s.front;
        back = mine bench s.back;
        old_is = ap (mine bench) s.old ∙ mine_keep bench s.front s.back p.item is;
        new_is = ap (mine bench) (changed_set t.records call p.item (λ r. record r { state = finished_state r.state o used output counts }) p.there ∙ s.new new)
            ∙ mine_keep bench s.front s.back new (finished_is_of bench p.item.state o used output counts ∙ is);
        others = λ b ne. finish_stays b ne;
      }

-- ---- Any operation of another maker.

-- what a submit and a take of the next leave, by what they find
abbrev pub submit_leaves : Table → ℕ → ℕ → List ℕ → Option CallRecord → Table
submit_leaves t parent function input None = t
submit_leaves t parent function input (Some p) = submitted t parent p function input

abbrev pub next_leaves : Table → ℕ → ℕ → Option ℕ → Table
next_leaves t host bench None = t
next_leaves t host bench (Some call) = taken t call host bench

submit_stays : (t : Table) (parent function b : ℕ) (input : List ℕ) (maker : ℕ) → mine b (table.after t maker (submit parent function input)).records ≡ mine b t.records
submit_stays t parent function b input maker = by (slice_get t.records parent) refl
  where
    room : (p : CallRecord) (k : Bool) → slice_get t.records parent ≡ Some p
        → mine b (cond k (record t { records = changed t.records parent one_more_child ++ child_record t parent p function input ∷ [] }) t).records ≡ mine b t.records
    room p true e = push_stays b (changed t.records parent one_more_child) (child_record t parent p function input) refl
        ∙ ap (mine b) (changed_set t.records parent p one_more_child e) ∙ child_stays b t.records parent p (one_more_child p) e refl refl
    room p false e = refl

    by : (x : Option CallRecord) → slice_get t.records parent ≡ x → mine b (submit_leaves t parent function input x).records ≡ mine b t.records
    by None e = refl
    by (Some p) e = room p (has_room t p function input) e

next_stays : (t : Table) (host bench b : ℕ) → (b ≡ bench → ⊥) → mine b (next_leaves t host bench (next t host)).records ≡ mine b t.records
next_stays t host bench b ne = by (next t host) refl
  where
    by : (x : Option ℕ) → next t host ≡ x → mine b (next_leaves t host bench x).records ≡ mine b t.records
    by None e = refl
    by (Some call) e = take_stays t call host bench b (next_is_queued t host call e) ne

stays : (s : SessionTable) (maker b : ℕ) (o : TableOperation) → table.may s.table maker o ≡ true → MayMake s maker o → (maker ≡ keeper s b → ⊥) → mine b (table.after s.table maker o).records ≡ mine b s.table.records
stays s maker b (submit_request function host input) may by ne = push_stays b s.table.records (queued_record s.table function host input) refl
stays s maker b (submit parent function input) may by ne = submit_stays s.table parent function b input maker
stays s maker b (take_next host bench) may by ne = next_stays s.table host bench b (λ e. ne (by.maker_so ∙ ap (keeper s) (sym e)))
stays s maker b (take_this call host bench) may by ne = take_stays s.table call host bench b may (λ e. ne (by.maker_so ∙ ap (keeper s) (sym e)))
stays s maker b (finish call o used output counts) may by ne = finish_stays s.table call by.0 o used output counts maker by.1 b (λ e. ne (by.2 ∙ ap (keeper s) (sym e)))
stays s maker b (look parent child) may by ne = refl

pub others_leave : (maker : ℕ) (entry : List ℕ) (before after : SessionTable) → MakesTable maker entry before after → (bench : ℕ) → (maker ≡ keeper before bench → ⊥) → mine bench after.table.records ≡ mine bench before.table.records
others_leave maker entry before after m bench ne =
    ap (λ (t : Table). mine bench t.records) m.table.after_so ∙ stays before maker bench m.table.operation m.table.may_stand m.maker_so ne
