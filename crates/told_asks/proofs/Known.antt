-- What a call knows of its children: it stays so, and the table's replies fit it and add to it.
use Rattle.std.proofs.Common.{◌≡◌, ◌⊎◌, inl, inr, ℕ, zero, suc, ◌+◌, ◌<◌, ◌≤◌, Bool, true, false, cond, List, [], ◌∷◌, ◌++◌, Option, Some, None, length, take, slice_get, slice_set, refl, sym, ap, ◌∙◌, subst, arith, length-take}
use Rattle.std.specs.Prelude.{IsTrue, nat_le, nat_lt, option_map, option_and_then, ◌&&◌}
use Rattle.std.proofs.lemmas.Bool.{and_from, and_parts, eq-eqb, le-leb, lt-ltb, ltb-true}
use Rattle.std.proofs.lemmas.List.{length-append}
use Rattle.std.proofs.lemmas.Option.{same_Some}
use Rattle.faaslet_meaning.specs.declared.ask.Ask.{Ask}
use Rattle.faaslet_meaning.specs.declared.ask.Ask.TheVariants as an_ask
use Rattle.faaslet_meaning.specs.declared.ask.Reply as coded
use Rattle.faaslet_meaning.specs.declared.ask.Reply.TheVariants as a_reply
use Rattle.faaslet_meaning.specs.declared.call.CallRecord.{CallRecord}
use Rattle.faaslet_meaning.specs.declared.call.CallState.{CallState}
use Rattle.faaslet_meaning.specs.declared.call.CallState.TheVariants.{Queued, Taken, Finished}
use Rattle.faaslet_meaning.specs.declared.grant.Channel.TheVariants.{Table as OnTable}
use Rattle.faaslet_meaning.specs.declared.outcome.Outcome.{Outcome}
use Rattle.faaslet_meaning.specs.Asks.{front, reply_of, submit_of, RepliesAs}
use Rattle.faaslet_meaning.specs.Call.{comes, fits, child_limit, output_limit, same_length}
use Rattle.faaslet_meaning.specs.CallState.{State}
use Rattle.faaslet_meaning.specs.Channels.{Operation, Reply, Question, ask, fills, pulls, pushes, entries, on_channel, has_form}
use Rattle.faaslet_meaning.specs.Checks.{noted}
use Rattle.faaslet_meaning.specs.Lists.{changed}
use Rattle.faaslet_meaning.specs.Records.{is_finished, child_of, calls_of, bytes_of, told_of}
use Rattle.faaslet_meaning.specs.Spelling.{spelled_on_table}
use Rattle.faaslet_meaning.specs.Table as table
use Rattle.faaslet_meaning.specs.Table.{Table, TableOperation, has_room, child_record, one_more_child, call_limit, byte_limit, depth_limit, callable}
use Rattle.turn_cell.specs.declared.view.Entry.{Entry}
use Rattle.turn_cell.specs.History.{Stands, entry}
use Rattle.call_table.specs.Makers.{is_on, MakesTable, RunsOn}
use Rattle.call_table.specs.Session.{SessionTable}
use Rattle.call_table.proofs.Held.{changed_set}
use Rattle.call_table.proofs.Mine.{submit_leaves}
use Rattle.call_table.proofs.Places.{passes_there}
use Rattle.call_service.specs.Asked.{question_of, told_as}
use Rattle.call_service.specs.Grown.{Later, Grown, Went}
use Rattle.call_service.specs.May.{IsChild}
use Rattle.call_service.specs.Served.{Answers, Entered, Made}
use Rattle.call_service.proofs.Further.{goes_on, part, join, child_stays}
use Rattle.call_service.proofs.Led.{one_table}
use Rattle.told_asks.specs.Counts.{CountsChildren}
use Rattle.told_asks.specs.Knows.{HasOutput, Knows, KnowsBy}
use Rattle.told_asks.specs.Seen.{Kids, seen_after}
use Rattle.told_asks.proofs.Counting.{kept_counts}

-- ---- It stays.

-- a record at its place later
record At (xs : List CallRecord) (n : ℕ) (r : CallRecord) : Type 0 where
  later : CallRecord
  there : slice_get xs n ≡ Some later
  is : Later r later

at_later : (rs xs : List CallRecord) (n : ℕ) (r : CallRecord) → Grown rs xs → slice_get rs n ≡ Some r → At xs n r
at_later [] xs n r g e = let no : ⊥ = cc in absurd no
at_later (y ∷ rs) [] n r g e = absurd g
at_later (y ∷ rs) (x ∷ xs) zero r g e = record { later = x; there = refl; is = subst (λ (z : CallRecord). Later z x) (same_Some y r e) g.0 }
at_later (y ∷ rs) (x ∷ xs) (suc n) r g e = let a = at_later rs xs n r g.1 e in record { later = a.later; there = a.there; is = a.is }

told_finished : (s : CallState) (o : Outcome) (bs : List ℕ) → told_of s ≡ Reply.finished o bs → is_finished s ≡ true
told_finished Queued o bs e = cc
told_finished (Taken host bench order) o bs e = cc
told_finished (Finished host bench order outcome used output counts) o bs e = refl

output_later : (rs xs : List CallRecord) (call child len : ℕ) → Grown rs xs → HasOutput rs call child len → HasOutput xs call child len
output_later rs xs call child len g h =
    let a = at_later rs xs h.number h.of g h.there in
    record {
      number = h.number;
      of = a.later;
      is_child = child_stays call child h.number rs xs g h.is_child;
      there = a.there;
      outcome = h.outcome;
      output = h.output;
      told = ap told_of (a.is.finished (told_finished h.of.state h.outcome h.output h.told)) ∙ h.told;
      long = h.long;
    }

pub knows_later : (rs xs : List CallRecord) (call : ℕ) (kids : Kids) → Grown rs xs → Knows rs call kids → Knows xs call kids
knows_later rs xs call kids g k =
    let a = at_later rs xs call k.of g k.there in
    record {
      of = a.later;
      there = a.there;
      few = let h = k.few in let more = a.is.children in omega (arith, h, more);
      outputs = λ child len e. output_later rs xs call child len g (k.outputs child len e);
    }

pub stay_known : (start : SessionTable) (call : ℕ) (kids : Kids) (list more : List Entry) → KnowsBy start list call kids → KnowsBy start (list ++ more) call kids
stay_known start call kids list more k t st =
    let p = part start t list more st in
    knows_later p.mid.table.records t.table.records call kids (goes_on p.mid t more p.to_end).records (k p.mid p.to_mid)

pub none_known : (start t : SessionTable) (list : List Entry) (call bench : ℕ) → Stands MakesTable start list t → RunsOn t.table call bench → KnowsBy start list call []
none_known start t list call bench st runs u su =
    let same : t ≡ u = one_table start t u list st su in
    let p = passes_there (λ r. is_on bench r.state) t.table.records call runs in
    subst (λ (v : SessionTable). Knows v.table.records call []) same
    (record { of = p.item; there = p.there; few = omega arith; outputs = λ child len e. let no : ⊥ = cc in absurd no })

pub looks_at : (start : SessionTable) (call child : ℕ) (kids : Kids) (list : List Entry) → CountsChildren start.table.records → KnowsBy start list call kids → child < length kids → IsChild start list call child
looks_at start call child kids list counts k low t st =
    let known = k t st in
    let few = known.few in
    (kept_counts start t list st counts).have call known.of known.there child (omega (arith, few, low))

-- ---- What the table answered at the turn.

known_before : (start : SessionTable) (maker call : ℕ) (old new : List Entry) (made : TableOperation × Reply) (kids : Kids) → KnowsBy start old call kids → (e : Entered start maker call old new made) → Knows e.before.table.records call kids
known_before start maker call old new made kids k e =
    subst (λ (l : List Entry). KnowsBy start l call kids) e.turn.others.1 (stay_known start call kids old e.turn.others.0 k) e.before e.turn.leads

-- in the table to which the new list leads, that of the entry
known_after : (start : SessionTable) (maker call : ℕ) (old new : List Entry) (made : TableOperation × Reply) (kids : Kids) → (e : Entered start maker call old new made) → Knows e.after.table.records call kids → KnowsBy start new call kids
known_after start maker call old new made kids e k t st =
    let makes : MakesTable maker (spelled_on_table made.0) e.before e.after = e.did.entry maker e.may in
    let leads = join start e.before e.after e.list (entry maker (spelled_on_table made.0) ∷ []) e.turn.leads (e.after, makes, refl) in
    let same : t ≡ e.after = one_table start t e.after new st (subst (λ (l : List Entry). Stands MakesTable start l e.after) (sym e.entered) leads) in
    subst (λ (u : SessionTable). Knows u.table.records call kids) (sym same) k

-- a turn without an entry
known_turn : (start : SessionTable) (maker call : ℕ) (old new : List Entry) (kids : Kids) → KnowsBy start old call kids → Made start maker call old new [] → KnowsBy start new call kids
known_turn start maker call old new kids k m = subst (λ (l : List Entry). KnowsBy start l call kids) m.1.others.1 (stay_known start call kids old m.1.others.0 k)

-- ---- A Submit.

abbrev submit_reply : Table → ℕ → List ℕ → Option CallRecord → Reply
submit_reply t function input o = elim o [ None ↦ Reply.done | Some p ↦ cond (has_room t p function input) (Reply.child p.children) Reply.chain_full ]

-- where a child came there was room
had_room : (b : Bool) (n k : ℕ) → Reply.child n ≡ cond b (Reply.child k) Reply.chain_full → b ≡ true
had_room true n k e = refl
had_room false n k e = cc

room_at : (start : SessionTable) (maker call function n : ℕ) (input : List ℕ) (old new : List Entry) (e : Entered start maker call old new (table.submit call function input, Reply.child n)) (p : CallRecord) → slice_get e.before.table.records call ≡ Some p
    → has_room e.before.table p function input ≡ true
room_at start maker call function n input old new e p there =
    had_room (has_room e.before.table p function input) n p.children (e.did.did.reply_so maker ∙ ap (submit_reply e.before.table function input) there)

few_calls : (t : Table) (p : CallRecord) (function : ℕ) (input : List ℕ) → has_room t p function input ≡ true → length (calls_of t.records p.request) < 1024
few_calls t p function input room =
    let calls = nat_lt (length (calls_of t.records p.request)) call_limit in
    let bytes = nat_le (bytes_of t.records p.request + (length input + (callable t function).room)) byte_limit in
    ltb-true (length (calls_of t.records p.request)) call_limit (and_parts calls bytes (and_parts (calls && bytes) (nat_lt p.depth depth_limit) room).0).0

child_comes : (start : SessionTable) (maker call function n : ℕ) (input : List ℕ) (old new : List Entry) (kids : Kids) → CountsChildren start.table.records → KnowsBy start old call kids
    → Entered start maker call old new (table.submit call function input, Reply.child n) → length kids < child_limit
child_comes start maker call function n input old new kids counts k e =
    let known = known_before start maker call old new (table.submit call function input, Reply.child n) kids k e in
    let room = few_calls e.before.table known.of function input (room_at start maker call function n input old new e known.of known.there) in
    let few = (kept_counts start e.before e.list e.turn.leads counts).few call known.of known.there in
    let own = known.few in
    omega (arith, room, few, own)

kid_more : (kids : Kids) (n len : ℕ) → slice_get (kids ++ None ∷ []) n ≡ Some (Some len) → slice_get kids n ≡ Some (Some len)
kid_more [] zero len e = let no : ⊥ = cc in absurd no
kid_more [] (suc n) len e = let no : ⊥ = cc in absurd no
kid_more (k ∷ kids) zero len e = e
kid_more (k ∷ kids) (suc n) len e = kid_more kids n len e

get_set : {A : Type 0} (xs : List A) (n : ℕ) (y z : A) → slice_get xs n ≡ Some y → slice_get (slice_set xs n z) n ≡ Some z
get_set [] n y z e = let no : ⊥ = cc in absurd no
get_set (x ∷ xs) zero y z e = refl
get_set (x ∷ xs) (suc n) y z e = get_set xs n y z e

get_more : {A : Type 0} (xs ys : List A) (n : ℕ) (y : A) → slice_get xs n ≡ Some y → slice_get (xs ++ ys) n ≡ Some y
get_more [] ys n y e = let no : ⊥ = cc in absurd no
get_more (x ∷ xs) ys zero y e = e
get_more (x ∷ xs) ys (suc n) y e = get_more xs ys n y e

-- the parent after it
parent_at : (t : Table) (call function : ℕ) (input : List ℕ) (p : CallRecord) → slice_get t.records call ≡ Some p → has_room t p function input ≡ true
    → slice_get (submit_leaves t call function input (slice_get t.records call)).records call ≡ Some (one_more_child p)
parent_at t call function input p e room =
    ap (λ o. slice_get (submit_leaves t call function input o).records call) e
    ∙ (ap (λ b. slice_get (cond b (record t { records = changed t.records call one_more_child ++ child_record t call p function input ∷ [] }) t).records call) room
    ∙ (ap (λ (l : List CallRecord). slice_get (l ++ child_record t call p function input ∷ []) call) (changed_set t.records call p one_more_child e)
    ∙ get_more (slice_set t.records call (one_more_child p)) (child_record t call p function input ∷ []) call (one_more_child p) (get_set t.records call p (one_more_child p) e)))

after_went : (start : SessionTable) (maker call : ℕ) (old new : List Entry) (made : TableOperation × Reply) (e : Entered start maker call old new made) → Went e.before e.after
after_went start maker call old new made e = goes_on e.before e.after (entry maker (spelled_on_table made.0) ∷ []) (e.after, e.did.entry maker e.may, refl)

child_known : (start : SessionTable) (maker call function n : ℕ) (input : List ℕ) (old new : List Entry) (kids : Kids) → KnowsBy start old call kids → Entered start maker call old new (table.submit call function input, Reply.child n)
    → KnowsBy start new call (kids ++ None ∷ [])
child_known start maker call function n input old new kids k e =
    let made : TableOperation × Reply = (table.submit call function input, Reply.child n) in
    let known = known_before start maker call old new made kids k e in
    let later = knows_later e.before.table.records e.after.table.records call kids (after_went start maker call old new made e).records known in
    let room = room_at start maker call function n input old new e known.of known.there in
    known_after start maker call old new made (kids ++ None ∷ []) e (record {
      of = one_more_child known.of;
      there = ap (λ (t : Table). slice_get t.records call) (e.did.did.after_so maker) ∙ parent_at e.before.table call function input known.of known.there room;
      few = let own = known.few in let long = length-append kids (None ∷ []) in omega (arith, own, long);
      outputs = λ child len at. later.outputs child len (kid_more kids child len at);
    })

-- ---- A Look.

abbrev look_reply : List CallRecord → Option ℕ → Reply
look_reply records o = elim (option_and_then (slice_get records) o) [ None ↦ Reply.done | Some r ↦ told_of r.state ]

has_output : (records : List CallRecord) (call child : ℕ) (o : Outcome) (bs : List ℕ) → Reply.finished o bs ≡ look_reply records (child_of records call child) → HasOutput records call child (length bs)
has_output records call child o bs e = by (child_of records call child) refl e
  where
    at : (n : ℕ) → child_of records call child ≡ Some n → (r : Option CallRecord) → slice_get records n ≡ r → Reply.finished o bs ≡ elim r [ None ↦ Reply.done | Some r ↦ told_of r.state ] → HasOutput records call child (length bs)
    at n is None there f = cc
    at n is (Some r) there f = record { number = n; of = r; is_child = is; there = there; outcome = o; output = bs; told = sym f; long = refl }

    by : (c : Option ℕ) → child_of records call child ≡ c → Reply.finished o bs ≡ look_reply records c → HasOutput records call child (length bs)
    by None is f = cc
    by (Some n) is f = at n is (slice_get records n) refl f

same_bytes : (o p : Outcome) (bs cs : List ℕ) → Reply.finished o bs ≡ Reply.finished p cs → bs ≡ cs
same_bytes o p bs cs e = cc

-- an output has one length
one_length : (records : List CallRecord) (call child a b : ℕ) → HasOutput records call child a → HasOutput records call child b → a ≡ b
one_length records call child a b x y =
    let number : x.number ≡ y.number = same_Some x.number y.number (sym x.is_child ∙ y.is_child) in
    let of : x.of ≡ y.of = same_Some x.of y.of (sym x.there ∙ (ap (slice_get records) number ∙ y.there)) in
    let told = sym x.told ∙ (ap (λ (r : CallRecord). told_of r.state) of ∙ y.told) in
    sym x.long ∙ (ap length (same_bytes x.outcome y.outcome x.output y.output told) ∙ y.long)

output_at : (start : SessionTable) (maker call child : ℕ) (o : Outcome) (bs : List ℕ) (old new : List Entry) (e : Entered start maker call old new (table.look call child, Reply.finished o bs)) → HasOutput e.before.table.records call child (length bs)
output_at start maker call child o bs old new e = has_output e.before.table.records call child o bs (e.did.did.reply_so maker)

note_fits : (s : State) (call child len : ℕ) (records : List CallRecord) → Knows records call s.children → HasOutput records call child len → same_length (noted s child) len ≡ true
note_fits s call child len records k h = by (slice_get s.children child) refl
  where
    by : (o : Option (Option ℕ)) → slice_get s.children child ≡ o → same_length (elim o [ None ↦ None | Some n ↦ n ]) len ≡ true
    by None e = refl
    by (Some None) e = refl
    by (Some (Some m)) e = eq-eqb m len (one_length records call child m len (k.outputs child m e) h)

length_noted : (kids : Kids) (c : ℕ) (x : Option ℕ) → length (slice_set kids c x) ≡ length kids
length_noted [] c x = refl
length_noted (k ∷ kids) zero x = refl
length_noted (k ∷ kids) (suc c) x = ap suc (length_noted kids c x)

kid_set : (kids : Kids) (c m n len : ℕ) → slice_get (slice_set kids c (Some m)) n ≡ Some (Some len) → (slice_get kids n ≡ Some (Some len)) ⊎ ((n ≡ c) × (m ≡ len))
kid_set [] c m n len e = inl e
kid_set (k ∷ kids) zero m zero len e = inr (refl, same_Some m len (same_Some (Some m) (Some len) e))
kid_set (k ∷ kids) zero m (suc n) len e = inl e
kid_set (k ∷ kids) (suc c) m zero len e = inl e
kid_set (k ∷ kids) (suc c) m (suc n) len e = by (kid_set kids c m n len e)
  where
    by : (slice_get kids n ≡ Some (Some len)) ⊎ ((n ≡ c) × (m ≡ len)) → (slice_get kids n ≡ Some (Some len)) ⊎ ((suc n ≡ suc c) × (m ≡ len))
    by (inl h) = inl h
    by (inr h) = inr (ap suc h.0, h.1)

look_known : (start : SessionTable) (maker call child : ℕ) (o : Outcome) (bs : List ℕ) (old new : List Entry) (kids : Kids) → KnowsBy start old call kids → Entered start maker call old new (table.look call child, Reply.finished o bs)
    → KnowsBy start new call (slice_set kids child (Some (length bs)))
look_known start maker call child o bs old new kids k e =
    let made : TableOperation × Reply = (table.look call child, Reply.finished o bs) in
    let went = (after_went start maker call old new made e).records in
    let later = knows_later e.before.table.records e.after.table.records call kids went (known_before start maker call old new made kids k e) in
    let out = output_later e.before.table.records e.after.table.records call child (length bs) went (output_at start maker call child o bs old new e) in
    known_after start maker call old new made (slice_set kids child (Some (length bs))) e (record {
      of = later.of;
      there = later.there;
      few = let own = later.few in let long = length_noted kids child (Some (length bs)) in omega (arith, own, long);
      outputs = λ c len at. by e.after.table.records later out c len (kid_set kids child (length bs) c len at);
    })
  where
    by : (records : List CallRecord) → Knows records call kids → HasOutput records call child (length bs) → (c len : ℕ) → (slice_get kids c ≡ Some (Some len)) ⊎ ((c ≡ child) × (length bs ≡ len)) → HasOutput records call c len
    by records known out c len (inl h) = known.outputs c len h
    by records known out c len (inr h) = subst (λ n. HasOutput records call n len) (sym h.0) (subst (λ n. HasOutput records call child n) h.1 out)

-- ---- Both.

-- a question on the table
abbrev Tabled : Question → Type 0
Tabled (ask OnTable (Operation.submit function input)) = Unit {0}
Tabled (ask OnTable (Operation.look child)) = Unit {0}
Tabled q = ⊥

tabled : (callees : List ℕ) (a : Ask) (scratch : List ℕ) (q : Question) → question_of callees a scratch ≡ Some q → Tabled q
tabled callees (an_ask.Submit f len) scratch q e = by (slice_get callees f) (front len scratch) e
  where
    by : (o : Option ℕ) (p : Option (List ℕ)) → submit_of o p ≡ Some q → Tabled q
    by (Some function) (Some input) h = subst Tabled (same_Some (ask OnTable (Operation.submit function input)) q h) tt
    by (Some function) None h = let no : ⊥ = cc in absurd no
    by None p h = let no : ⊥ = cc in absurd no
tabled callees (an_ask.Look child) scratch q e = subst Tabled (same_Some (ask OnTable (Operation.look child)) q e) tt
tabled callees (an_ask.Region channel o) scratch q e = let no : ⊥ = cc in absurd no
tabled callees (an_ask.Move key kind) scratch q e = let no : ⊥ = cc in absurd no

pub reply_known : (start : SessionTable) (maker call : ℕ) (old new : List Entry) (kids : Kids) (q : Question) (r : Reply) → Tabled q → has_form q r ≡ true → KnowsBy start old call kids
    → Made start maker call old new (told_as call (on_channel OnTable (entries q r))) → KnowsBy start new call (seen_after kids q r)
reply_known start maker call old new kids (ask OnTable (Operation.submit function input)) (Reply.child n) on form k m = child_known start maker call function n input old new kids k m
reply_known start maker call old new kids (ask OnTable (Operation.submit function input)) Reply.chain_full on form k m =
    let made : TableOperation × Reply = (table.submit call function input, Reply.chain_full) in
    known_after start maker call old new made kids m (knows_later m.before.table.records m.after.table.records call kids (after_went start maker call old new made m).records (known_before start maker call old new made kids k m))
reply_known start maker call old new kids (ask OnTable (Operation.submit function input)) Reply.want on form k m = known_turn start maker call old new kids k m
reply_known start maker call old new kids (ask OnTable (Operation.look child)) (Reply.finished o bs) on form k m = look_known start maker call child o bs old new kids k m
reply_known start maker call old new kids (ask OnTable (Operation.submit function input)) r on form k m = let no : ⊥ = cc in absurd no
reply_known start maker call old new kids (ask OnTable (Operation.look child)) r on form k m = let no : ⊥ = cc in absurd no
reply_known start maker call old new kids q r on form k m = absurd on

pub reply_fits : (start : SessionTable) (maker call : ℕ) (old new : List Entry) (s : State) (q : Question) (r : Reply) → Tabled q → has_form q r ≡ true → CountsChildren start.table.records → KnowsBy start old call s.children
    → ((o : Outcome) (bs : List ℕ) → r ≡ Reply.finished o bs → length bs ≤ output_limit) → Made start maker call old new (told_as call (on_channel OnTable (entries q r))) → comes s q r ≡ true
reply_fits start maker call old new s (ask OnTable (Operation.submit function input)) (Reply.child n) on form counts k short m =
    lt-ltb (length s.children) child_limit (child_comes start maker call function n input old new s.children counts k m)
reply_fits start maker call old new s (ask OnTable (Operation.submit function input)) Reply.chain_full on form counts k short m = refl
reply_fits start maker call old new s (ask OnTable (Operation.submit function input)) Reply.want on form counts k short m = refl
reply_fits start maker call old new s (ask OnTable (Operation.look child)) (Reply.finished o bs) on form counts k short m =
    let made : TableOperation × Reply = (table.look call child, Reply.finished o bs) in
    and_from (nat_le (length bs) output_limit) (same_length (noted s child) (length bs)) (le-leb (length bs) output_limit (short o bs refl))
    (note_fits s call child (length bs) m.before.table.records (known_before start maker call old new made s.children k m) (output_at start maker call child o bs old new m))
reply_fits start maker call old new s (ask OnTable (Operation.submit function input)) r on form counts k short m = let no : ⊥ = cc in absurd no
reply_fits start maker call old new s (ask OnTable (Operation.look child)) r on form counts k short m = let no : ⊥ = cc in absurd no
reply_fits start maker call old new s q r on form counts k short m = absurd on

-- ---- What was answered by the code.

front_short : (len : ℕ) (scratch bs : List ℕ) → front len scratch ≡ Some bs → length bs ≤ length scratch
front_short len scratch bs e = by (nat_le len (length scratch)) e
  where
    by : (b : Bool) → cond b (Some (take len scratch)) None ≡ Some bs → length bs ≤ length scratch
    by true h = let same = ap length (sym (same_Some (take len scratch) bs h)) in let few = length-take len scratch in omega (arith, same, few)
    by false h = let no : ⊥ = cc in absurd no

finished_short : (p o : Outcome) (x : Option (List ℕ)) (bs : List ℕ) → option_map (λ c. Reply.finished p c) x ≡ Some (Reply.finished o bs) → x ≡ Some bs
finished_short p o None bs e = let no : ⊥ = cc in absurd no
finished_short p o (Some cs) bs e = ap (λ l. Some l) (same_bytes p o cs bs (same_Some (Reply.finished p cs) (Reply.finished o bs) e))

bytes_or : (x : Option (List ℕ)) (o : Outcome) (bs : List ℕ) → option_map (λ c. Reply.bytes c) x ≡ Some (Reply.finished o bs) → ⊥
bytes_or None o bs e = cc
bytes_or (Some cs) o bs e = cc

short_so : (code : coded.Reply) (told : List ℕ) (o : Outcome) (bs : List ℕ) → reply_of code told ≡ Some (Reply.finished o bs) → length bs ≤ length told
short_so (a_reply.Finished p len) told o bs e = front_short len told bs (finished_short p o (front len told) bs e)
short_so (a_reply.Bytes len) told o bs e = absurd (bytes_or (front len told) o bs e)
short_so code told o bs e = let no : ⊥ = cc in absurd no

replies_short : (q : Question) (code : coded.Reply) (told : List ℕ) (r : Reply) (o : Outcome) (bs : List ℕ) → Tabled q → RepliesAs q code told r → r ≡ Reply.finished o bs → length bs ≤ length told
replies_short (ask channel op) code told r o bs on h e = short_so code told o bs (h ∙ ap (λ x. Some x) e)
replies_short (fills key n) code told r o bs on h e = absurd on
replies_short (pulls key off len) code told r o bs on h e = absurd on
replies_short (pushes key off len) code told r o bs on h e = absurd on

pub answer_fits : (callees : List ℕ) (start : SessionTable) (maker call : ℕ) (asked : Ask) (old new : List Entry) (code : coded.Reply) (scratch told : List ℕ) (s : State) → CountsChildren start.table.records → length told ≤ output_limit → KnowsBy start old call s.children
    → (a : Answers callees start maker call asked old new code scratch told) → IsTrue (fits s a.question a.answer)
answer_fits callees start maker call asked old new code scratch told s counts short k a =
    let on = tabled callees asked scratch a.question a.question_so in
    and_from (has_form a.question a.answer) (comes s a.question a.answer) a.form
    (reply_fits start maker call old new s a.question a.answer on a.form counts k (λ o bs e. let h = replies_short a.question code told a.answer o bs on a.replies e in omega (arith, h, short)) a.made)

pub answer_known : (callees : List ℕ) (start : SessionTable) (maker call : ℕ) (asked : Ask) (old new : List Entry) (code : coded.Reply) (scratch told : List ℕ) (kids : Kids) → KnowsBy start old call kids
    → (a : Answers callees start maker call asked old new code scratch told) → KnowsBy start new call (seen_after kids a.question a.answer)
answer_known callees start maker call asked old new code scratch told kids k a =
    reply_known start maker call old new kids a.question a.answer (tabled callees asked scratch a.question a.question_so) a.form k a.made
