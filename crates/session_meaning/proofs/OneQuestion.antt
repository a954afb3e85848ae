-- The reply of a world to a question of an open call fits it, and what the question leaves is what its entries leave.
use Rattle.std.proofs.Common.{◌≡◌, ◌⊎◌, inl, inr, ℕ, zero, suc, ◌+◌, ◌-◌, ◌*◌, ◌≤◌, ◌<◌, List, [], ◌∷◌, ◌++◌, length, refl, sym, subst, ap, ◌∙◌, Bool, true, false, cond, Option, Some, None, slice_get, slice_set, slice_range, drop, fold, arith}
use Rattle.std.proofs.lemmas.Bool.{eq-eqb, and_parts, ltb-true, lt-ltb, le-leb}
use Rattle.std.proofs.lemmas.List.{length-take, length-drop, length-append}
use Rattle.std.specs.Prelude.{option_and_then, IsTrue, ◌==◌, ◌&&◌, nat_lt, nat_le}
use Rattle.faaslet_meaning.specs.declared.call.CallRecord.{CallRecord}
use Rattle.faaslet_meaning.specs.declared.call.CallState.{CallState}
use Rattle.faaslet_meaning.specs.declared.call.CallState.TheVariants.{Queued, Taken, Finished}
use Rattle.faaslet_meaning.specs.declared.grant.Channel.TheVariants.{Local, Global, Table as OnTable}
use Rattle.faaslet_meaning.specs.declared.grant.Grant.{Grant}
use Rattle.faaslet_meaning.specs.declared.outcome.Outcome.{Outcome}
use Rattle.faaslet_meaning.specs.Lists.{changed, passes_at}
use Rattle.faaslet_meaning.specs.Memory.{key_pages, page_size}
use Rattle.faaslet_meaning.specs.Channels.{RegionOperation, Operation, on_region, Reply, Question, ask, fills, pulls, pushes, Entry, entry, entries, has_form}
use Rattle.faaslet_meaning.specs.CallState.{State}
use Rattle.faaslet_meaning.specs.Call.{comes, child_limit, output_limit, same_length}
use Rattle.faaslet_meaning.specs.Region as region
use Rattle.faaslet_meaning.specs.Region.{Region}
use Rattle.faaslet_meaning.specs.Records.{is_open, is_finished, child_of, calls_of, bytes_of, told_of}
use Rattle.faaslet_meaning.specs.Table as table
use Rattle.faaslet_meaning.specs.Table.{Table, submit, look, one_more_child, child_record, has_room, submitted, call_limit, byte_limit, depth_limit, callable}
use Rattle.faaslet_meaning.specs.Fresh.{Function}
use Rattle.faaslet_meaning.specs.Runs.{invocation}
use Rattle.session_meaning.specs.Plan.{Key, Plan}
use Rattle.session_meaning.specs.WellFormed.{GrantFits}
use Rattle.session_meaning.specs.World.{World, on_local, on_global, on_table, entered}
use Rattle.session_meaning.specs.Events.{local_at, global_at, answer}
use Rattle.session_meaning.proofs.GrantedAsks.{HasGrant, Any, InPages, InSize, AsksLocal, AsksGlobal, Asked, kids_after}
use Rattle.session_meaning.proofs.Kept.{get_changed_here}
use Rattle.session_meaning.proofs.Objects.{pages_hold, local_long}
use Rattle.session_meaning.proofs.RecordsKept.{get_front, RecordsOk, Forward, ChildrenStay, told_child, ShortOutput}
use Rattle.session_meaning.proofs.OneEntry.{RegionsOk, local_found, local_region, global_found, global_region, Left, left_seq, left_local, left_global}
use Rattle.session_meaning.proofs.TableEntries.{left_submit, left_look}

-- ---- What a call knows of its children.

abbrev pub kid : List (Option ℕ) → ℕ → Option ℕ
kid kids n = elim (slice_get kids n) [ None ↦ None | Some x ↦ x ]

-- There are no more than its record has, and each that it has seen is finished with an output of that length.
abbrev pub KidsOk : List CallRecord → ℕ → ℕ → List (Option ℕ) → Type 0
KidsOk records call children kids =
    (length kids ≤ children) × ((n len : ℕ) → kid kids n ≡ Some len → (o : Outcome) × (bs : List ℕ) × (told_child records call n ≡ Reply.finished o bs) × (length bs ≡ len))

some_same : {A : Type 0} (a b : A) → Some a ≡ Some b → a ≡ b
some_same a b e = cc

pub kids_kept : (rs more : List CallRecord) (call : ℕ) (p q : CallRecord) (kids : List (Option ℕ)) → Forward rs more → ChildrenStay rs more → slice_get rs call ≡ Some p → slice_get more call ≡ Some q → KidsOk rs call p.children kids → KidsOk more call q.children kids
kids_kept rs more call p q kids forward stay here there ok =
    let f = forward call p here in
    let few = ok.0 in
    let grown = f.2.children in
    let same = ap (λ r. r.children) (some_same f.0 q (sym f.1 ∙ there)) in
    (omega (arith, few, grown, same), λ n len e. let k = ok.1 n len e in (k.0, k.1, stay call n k.0 k.1 k.2, k.3))

kid_more : (kids : List (Option ℕ)) (n len : ℕ) → kid (kids ++ None ∷ []) n ≡ Some len → kid kids n ≡ Some len
kid_more [] zero len e = let no : ⊥ = cc in absurd no
kid_more [] (suc n) len e = let no : ⊥ = cc in absurd no
kid_more (k ∷ kids) zero len e = e
kid_more (k ∷ kids) (suc n) len e = kid_more kids n len e

kid_set : (kids : List (Option ℕ)) (c m n len : ℕ) → kid (slice_set kids c (Some m)) n ≡ Some len → (kid kids n ≡ Some len) ⊎ ((n ≡ c) × (m ≡ len))
kid_set [] c m n len e = inl e
kid_set (k ∷ kids) zero m zero len e = inr (refl, some_same m len e)
kid_set (k ∷ kids) zero m (suc n) len e = inl e
kid_set (k ∷ kids) (suc c) m zero len e = inl e
kid_set (k ∷ kids) (suc c) m (suc n) len e = by (kid_set kids c m n len e)
  where
    by : (kid kids n ≡ Some len) ⊎ ((n ≡ c) × (m ≡ len)) → (kid kids n ≡ Some len) ⊎ ((suc n ≡ suc c) × (m ≡ len))
    by (inl h) = inl h
    by (inr h) = inr (ap suc h.0, h.1)

length_kids : (kids : List (Option ℕ)) (c m : ℕ) → length (slice_set kids c (Some m)) ≡ length kids
length_kids [] c m = refl
length_kids (k ∷ kids) zero m = refl
length_kids (k ∷ kids) (suc c) m = ap suc (length_kids kids c m)

-- ---- What a served question leaves.

pub record Served (plan : Plan) (w : World) (call host : ℕ) (s : State) (q : Question) (r : Reply) : Type 0 where
  pub left : Left plan w call host (entries q r) (fold (entered call host) w (entries q r))
  pub form : has_form q r ≡ true
  pub comes_so : comes s q r ≡ true
  pub kids : (p : CallRecord) → slice_get (fold (entered call host) w (entries q r)).table.records call ≡ Some p → KidsOk (fold (entered call host) w (entries q r)).table.records call p.children (kids_after s.children q r)

-- the grants of a function name keys of the plan
abbrev pub GrantsFit : Plan → Function → Type 0
GrantsFit plan f = (n : ℕ) (g : Grant) → slice_get f.grants n ≡ Some g → GrantFits plan.keys g

pub record KeyFound (plan : Plan) (key : ℕ) (P : Grant → Type 0) : Type 0 where
  pub k : Key
  pub here : slice_get plan.keys key ≡ Some k
  pub grant : Grant
  pub size : grant.size ≡ k.size
  pub holds : P grant

key_found : (plan : Plan) (f : Function) (input : List ℕ) (key : ℕ) (P : Grant → Type 0) → GrantsFit plan f → HasGrant (invocation f input) key P → KeyFound plan key P
key_found plan f input key P fit h =
    let g = fit h.0 h.1 h.2 in
    record { k = g.0; here = ap (slice_get plan.keys) (sym h.3) ∙ g.1; grant = h.1; size = g.2; holds = h.4 }

slice_long : (xs : List ℕ) (off len : ℕ) → off + len ≤ length xs → length (slice_range xs off (off + len)) ≡ len
slice_long xs off len h =
    let a = length-take (off + len - off) (drop off xs) in
    let b = length-drop off xs in
    omega (arith, a, b, h)

long_so : (bs : List ℕ) (len : ℕ) → length bs ≡ len → (length bs == len) ≡ true
long_so bs len e = eq-eqb (length bs) len e

-- a Look may stand
abbrev pub LookStands : World → ℕ → Question → Type 0
LookStands w call (ask OnTable (Operation.look c)) = IsTrue (table.may w.table call (look call c))
LookStands w call q = Unit {0}

module _ (plan : Plan) (w : World) (call host : ℕ) (s : State) (p : CallRecord) (ok : RegionsOk plan w) (records : RecordsOk w.table.records) (within : host < plan.hosts) (here : slice_get w.table.records call ≡ Some p) (kids : KidsOk w.table.records call p.children s.children) where
  -- nothing is learned of children
  kept_by : (w' : World) (es : List Entry) → Left plan w call host es w' → (q : CallRecord) → slice_get w'.table.records call ≡ Some q → KidsOk w'.table.records call q.children s.children
  kept_by w' es left q there = kids_kept w.table.records w'.table.records call p q s.children left.forward left.children here there kids

  local_bytes : (key : ℕ) (k : Key) → slice_get plan.keys key ≡ Some k → length (local_at w host key).bytes ≡ local_long k
  local_bytes key k at = let found = local_found plan w host key k ok within at in ap (λ x. length x.bytes) (local_region plan w host key k found) ∙ found.led.1.0

  global_bytes : (key : ℕ) (k : Key) → slice_get plan.keys key ≡ Some k → length (global_at w key).bytes ≡ k.size
  global_bytes key k at = let found = global_found plan w key k ok at in ap (λ x. length x.bytes) (global_region plan w key k found) ∙ found.led.1.0

  -- ---- An operation on a replica.

  local_served : (f : Function) (input : List ℕ) (key : ℕ) (op : RegionOperation) → GrantsFit plan f → AsksLocal (invocation f input) key op → Served plan w call host s (ask (Local key) (on_region op)) (answer w call host (ask (Local key) (on_region op)))
  local_served f input key RegionOperation.probe fit h =
      let x = key_found plan f input key Any fit h in
      let left = left_local plan w call host key x.k RegionOperation.probe ok records within x.here tt in
      record { left = left; form = refl; comes_so = refl; kids = kept_by _ _ left }
  local_served f input key (RegionOperation.read off len) fit h =
      let x = key_found plan f input key (InPages (off + len)) fit h in
      let left = left_local plan w call host key x.k (RegionOperation.read off len) ok records within x.here tt in
      let long = local_bytes key x.k x.here in
      let fits = x.holds in
      let same = ap (λ n. key_pages n * page_size) x.size in
      record { left = left; form = long_so (slice_range (local_at w host key).bytes off (off + len)) len (slice_long (local_at w host key).bytes off len (omega (arith, long, fits, same))); comes_so = refl; kids = kept_by _ _ left }
  local_served f input key (RegionOperation.write off bs) fit h =
      let x = key_found plan f input key (InPages (off + length bs)) fit h in
      let fits = x.holds in
      let same = ap (λ n. key_pages n * page_size) x.size in
      let left = left_local plan w call host key x.k (RegionOperation.write off bs) ok records within x.here (omega (arith, fits, same)) in
      record { left = left; form = refl; comes_so = refl; kids = kept_by _ _ left }
  local_served f input key RegionOperation.lock_read fit h =
      let x = key_found plan f input key Any fit h in
      let left = left_local plan w call host key x.k RegionOperation.lock_read ok records within x.here tt in
      record { left = left; form = refl; comes_so = refl; kids = kept_by _ _ left }
  local_served f input key RegionOperation.lock_write fit h =
      let x = key_found plan f input key Any fit h in
      let left = left_local plan w call host key x.k RegionOperation.lock_write ok records within x.here tt in
      record { left = left; form = refl; comes_so = refl; kids = kept_by _ _ left }
  local_served f input key RegionOperation.unlock fit h =
      let x = key_found plan f input key Any fit h in
      let left = left_local plan w call host key x.k RegionOperation.unlock ok records within x.here tt in
      record { left = left; form = refl; comes_so = refl; kids = kept_by _ _ left }
  local_served f input key op fit h = absurd h

  -- ---- An operation on a global value.

  global_served : (f : Function) (input : List ℕ) (key : ℕ) (op : RegionOperation) → GrantsFit plan f → AsksGlobal (invocation f input) key op → Served plan w call host s (ask (Global key) (on_region op)) (answer w call host (ask (Global key) (on_region op)))
  global_served f input key RegionOperation.size fit h =
      let x = key_found plan f input key Any fit h in
      let left = left_global plan w call host key x.k RegionOperation.size ok records x.here tt in
      record { left = left; form = refl; comes_so = refl; kids = kept_by _ _ left }
  global_served f input key (RegionOperation.append bs) fit h = by (region.has_room (global_at w key) bs) (left_global plan w call host key x.k (RegionOperation.append bs) ok records x.here tt)
    where
      x : KeyFound plan key Any
      x = key_found plan f input key Any fit h

      by : (b : Bool) → Left plan w call host (entry (Global key) (on_region (RegionOperation.append bs)) (cond b (Reply.number (global_at w key).used) Reply.full) ∷ []) (on_global w key call (RegionOperation.append bs)) → Served plan w call host s (ask (Global key) (on_region (RegionOperation.append bs))) (cond b (Reply.number (global_at w key).used) Reply.full)
      by true left = record { left = left; form = refl; comes_so = refl; kids = kept_by _ _ left }
      by false left = record { left = left; form = refl; comes_so = refl; kids = kept_by _ _ left }
  global_served f input key RegionOperation.lock_read fit h =
      let x = key_found plan f input key Any fit h in
      let left = left_global plan w call host key x.k RegionOperation.lock_read ok records x.here tt in
      record { left = left; form = refl; comes_so = refl; kids = kept_by _ _ left }
  global_served f input key RegionOperation.lock_write fit h =
      let x = key_found plan f input key Any fit h in
      let left = left_global plan w call host key x.k RegionOperation.lock_write ok records x.here tt in
      record { left = left; form = refl; comes_so = refl; kids = kept_by _ _ left }
  global_served f input key RegionOperation.unlock fit h =
      let x = key_found plan f input key Any fit h in
      let left = left_global plan w call host key x.k RegionOperation.unlock ok records x.here tt in
      record { left = left; form = refl; comes_so = refl; kids = kept_by _ _ left }
  global_served f input key op fit h = absurd h

  -- ---- A move.

  -- the bytes that come from the global value go into the replica
  fill_served : (f : Function) (input : List ℕ) (key n : ℕ) → GrantsFit plan f → HasGrant (invocation f input) key (λ g. n ≡ g.size) → Served plan w call host s (fills key n) (answer w call host (fills key n))
  fill_served f input key n fit h =
      let x = key_found plan f input key (λ g. n ≡ g.size) fit h in
      let long = global_bytes key x.k x.here in
      let fits = x.holds in
      let same = x.size in
      let bs = slice_range (global_at w key).bytes 0 (0 + n) in
      let moved = slice_long (global_at w key).bytes 0 n (omega (arith, long, fits, same)) in
      let pages = pages_hold x.k.size in
      let first = left_global plan w call host key x.k (RegionOperation.send 0 n) ok records x.here tt in
      let second = left_local plan (on_global w key call (RegionOperation.send 0 n)) call host key x.k (RegionOperation.fill bs) first.regions first.records within x.here (omega (arith, moved, pages, fits, same)) in
      let left = left_seq plan w (on_global w key call (RegionOperation.send 0 n)) (on_local (on_global w key call (RegionOperation.send 0 n)) host key call (RegionOperation.fill bs)) call host _ _ first second in
      record { left = left; form = long_so bs n moved; comes_so = refl; kids = kept_by _ _ left }

  pull_served : (f : Function) (input : List ℕ) (key off len : ℕ) → GrantsFit plan f → HasGrant (invocation f input) key (InSize (off + len)) → Served plan w call host s (pulls key off len) (answer w call host (pulls key off len))
  pull_served f input key off len fit h =
      let x = key_found plan f input key (InSize (off + len)) fit h in
      let long = global_bytes key x.k x.here in
      let fits = x.holds in
      let same = x.size in
      let bs = slice_range (global_at w key).bytes off (off + len) in
      let moved = slice_long (global_at w key).bytes off len (omega (arith, long, fits, same)) in
      let pages = pages_hold x.k.size in
      let first = left_global plan w call host key x.k (RegionOperation.send off len) ok records x.here tt in
      let second = left_local plan (on_global w key call (RegionOperation.send off len)) call host key x.k (RegionOperation.take off bs) first.regions first.records within x.here (omega (arith, moved, pages, fits, same)) in
      let left = left_seq plan w (on_global w key call (RegionOperation.send off len)) (on_local (on_global w key call (RegionOperation.send off len)) host key call (RegionOperation.take off bs)) call host _ _ first second in
      record { left = left; form = long_so bs len moved; comes_so = refl; kids = kept_by _ _ left }

  push_served : (f : Function) (input : List ℕ) (key off len : ℕ) → GrantsFit plan f → HasGrant (invocation f input) key (InSize (off + len)) → Served plan w call host s (pushes key off len) (answer w call host (pushes key off len))
  push_served f input key off len fit h =
      let x = key_found plan f input key (InSize (off + len)) fit h in
      let long = local_bytes key x.k x.here in
      let fits = x.holds in
      let same = x.size in
      let bs = slice_range (local_at w host key).bytes off (off + len) in
      let pages = pages_hold x.k.size in
      let moved = slice_long (local_at w host key).bytes off len (omega (arith, long, fits, same, pages)) in
      let first = left_local plan w call host key x.k (RegionOperation.send off len) ok records within x.here tt in
      let second = left_global plan (on_local w host key call (RegionOperation.send off len)) call host key x.k (RegionOperation.put off bs) first.regions first.records x.here (omega (arith, moved, fits, same)) in
      let left = left_seq plan w (on_local w host key call (RegionOperation.send off len)) (on_global (on_local w host key call (RegionOperation.send off len)) key call (RegionOperation.put off bs)) call host _ _ first second in
      record { left = left; form = long_so bs len moved; comes_so = refl; kids = kept_by _ _ left }

  -- ---- A Submit.

  -- a parent has one child more
  one_more : (f : ℕ) (input : List ℕ) → has_room w.table p f input ≡ true → (q : CallRecord) → slice_get (on_table w call (submit call f input)).table.records call ≡ Some q → q.children ≡ p.children + 1
  one_more f input room q there = ap (λ r. r.children) (sym (some_same (one_more_child p) q (sym at ∙ there)))
    where
      rs : List CallRecord
      rs = changed w.table.records call one_more_child

      table_so : (on_table w call (submit call f input)).table ≡ record w.table { records = rs ++ child_record w.table call p f input ∷ [] }
      table_so =
          ap (λ o. elim o as (λ o. Table) [ None ↦ w.table | Some p ↦ submitted w.table call p f input ]) here
          ∙ ap (λ b. cond b (record w.table { records = rs ++ child_record w.table call p f input ∷ [] }) w.table) room

      at : slice_get (on_table w call (submit call f input)).table.records call ≡ Some (one_more_child p)
      at =
          ap (λ t. slice_get t.records call) table_so
          ∙ get_front rs (child_record w.table call p f input) call (one_more_child p) (get_changed_here w.table.records call one_more_child ∙ ap (λ o. elim o as (λ o. Option CallRecord) [ None ↦ None | Some r ↦ Some (one_more_child r) ]) here)

  submit_served : (f : ℕ) (input : List ℕ) → Served plan w call host s (ask OnTable (Operation.submit f input)) (answer w call host (ask OnTable (Operation.submit f input)))
  submit_served f input = subst (λ r. Served plan w call host s (ask OnTable (Operation.submit f input)) r) (sym reply_so) (by (has_room w.table p f input) refl)
    where
      reply_so : table.reply w.table call (submit call f input) ≡ cond (has_room w.table p f input) (Reply.child p.children) Reply.chain_full
      reply_so = ap (λ o. elim o as (λ o. Reply) [ None ↦ Reply.done | Some p ↦ cond (has_room w.table p f input) (Reply.child p.children) Reply.chain_full ]) here

      left : Left plan w call host (entry OnTable (Operation.submit f input) (cond (has_room w.table p f input) (Reply.child p.children) Reply.chain_full) ∷ []) (on_table w call (submit call f input))
      left = subst (λ r. Left plan w call host (entry OnTable (Operation.submit f input) r ∷ []) (on_table w call (submit call f input))) reply_so (left_submit plan w call host f input ok records)

      few : has_room w.table p f input ≡ true → length s.children < child_limit
      few room =
          let bytes = nat_le (bytes_of w.table.records p.request + (length input + (callable w.table f).room)) byte_limit in
          let parts = and_parts (nat_lt (length (calls_of w.table.records p.request)) call_limit && bytes) (nat_lt p.depth depth_limit) room in
          let below = ltb-true (length (calls_of w.table.records p.request)) call_limit (and_parts (nat_lt (length (calls_of w.table.records p.request)) call_limit) bytes parts.0).0 in
          let counted = (records call p here).0 in
          let own = kids.0 in
          omega (arith, below, counted, own)

      by : (b : Bool) → has_room w.table p f input ≡ b → Served plan w call host s (ask OnTable (Operation.submit f input)) (cond b (Reply.child p.children) Reply.chain_full)
      by true room =
          let l = subst (λ b. Left plan w call host (entry OnTable (Operation.submit f input) (cond b (Reply.child p.children) Reply.chain_full) ∷ []) (on_table w call (submit call f input))) room left in
          record {
            left = l;
            form = refl;
            comes_so = lt-ltb (length s.children) child_limit (few room);
            kids = λ q there.
                let more = one_more f input room q there in
                let long = length-append s.children (None ∷ []) in
                let own = kids.0 in
                (omega (arith, more, long, own), λ n len e. (kept_by _ _ l q there).1 n len (kid_more s.children n len e));
          }
      by false room =
          let l = subst (λ b. Left plan w call host (entry OnTable (Operation.submit f input) (cond b (Reply.child p.children) Reply.chain_full) ∷ []) (on_table w call (submit call f input))) room left in
          record { left = l; form = refl; comes_so = refl; kids = kept_by _ _ l }

  -- ---- A Look.

  abbrev IsFinishedBy : Reply → Type 0
  IsFinishedBy r = (o : Outcome) × (bs : List ℕ) × (r ≡ Reply.finished o bs) × (length bs ≤ output_limit)

  finished_reply : (c : ℕ) → IsTrue (table.may w.table call (look call c)) → IsFinishedBy (told_child w.table.records call c)
  finished_reply c may = by (child_of w.table.records call c) (and_parts (passes_at (λ r. is_open r.state) w.table.records call) _ may).1
    where
      told : (r : CallState) → ShortOutput r → is_finished r ≡ true → IsFinishedBy (told_of r)
      told (Finished h b o outcome used output counts) short e = (outcome, output, refl, short)
      told Queued short e = let no : ⊥ = cc in absurd no
      told (Taken h b o) short e = let no : ⊥ = cc in absurd no

      of : (n : ℕ) (o : Option CallRecord) → slice_get w.table.records n ≡ o → ◌≡◌ {A = Bool} (elim o [ None ↦ false | Some r ↦ is_finished r.state ]) true → IsFinishedBy (elim o [ None ↦ Reply.done | Some r ↦ told_of r.state ])
      of n None at e = let no : ⊥ = cc in absurd no
      of n (Some r) at e = told r.state (records n r at).1 e

      by : (o : Option ℕ) → ◌≡◌ {A = Bool} (elim o [ None ↦ false | Some n ↦ passes_at (λ r. is_finished r.state) w.table.records n ]) true → IsFinishedBy (elim (option_and_then (slice_get w.table.records) o) [ None ↦ Reply.done | Some r ↦ told_of r.state ])
      by None e = let no : ⊥ = cc in absurd no
      by (Some n) e = of n (slice_get w.table.records n) refl e

  look_served : (c : ℕ) → IsTrue (table.may w.table call (look call c)) → Served plan w call host s (ask OnTable (Operation.look c)) (answer w call host (ask OnTable (Operation.look c)))
  look_served c may = subst (λ r. Served plan w call host s (ask OnTable (Operation.look c)) r) (sym reply_so) served
    where
      reply_so : told_child w.table.records call c ≡ Reply.finished (finished_reply c may).0 (finished_reply c may).1
      reply_so = (finished_reply c may).2

      left : Left plan w call host (entry OnTable (Operation.look c) (Reply.finished (finished_reply c may).0 (finished_reply c may).1) ∷ []) (on_table w call (look call c))
      left = subst (λ r. Left plan w call host (entry OnTable (Operation.look c) r ∷ []) (on_table w call (look call c))) reply_so (left_look plan w call host c ok records)

      bytes_same : (o : Outcome) (bs : List ℕ) → told_child w.table.records call c ≡ Reply.finished o bs → bs ≡ (finished_reply c may).1
      bytes_same o bs e = finished_same o (finished_reply c may).0 bs (finished_reply c may).1 (sym e ∙ reply_so)
        where
          finished_same : (o o' : Outcome) (bs bs' : List ℕ) → Reply.finished o bs ≡ Reply.finished o' bs' → bs ≡ bs'
          finished_same o o' bs bs' e = cc

      noted_so : (x : Option ℕ) → kid s.children c ≡ x → same_length x (length (finished_reply c may).1) ≡ true
      noted_so None e = refl
      noted_so (Some len) e =
          let k = kids.1 c len e in
          eq-eqb len (length (finished_reply c may).1) (sym k.3 ∙ ap length (bytes_same k.0 k.1 k.2))

      both_true : (a b : Bool) → a ≡ true → b ≡ true → (a && b) ≡ true
      both_true true b h k = k
      both_true false b h k = h

      served : Served plan w call host s (ask OnTable (Operation.look c)) (Reply.finished (finished_reply c may).0 (finished_reply c may).1)
      served =
          record {
            left = left;
            form = refl;
            comes_so = both_true _ _ (le-leb (length (finished_reply c may).1) output_limit (finished_reply c may).3) (noted_so (kid s.children c) refl);
            kids = λ q there.
                let before = kept_by _ _ left q there in
                let same = length_kids s.children c (length (finished_reply c may).1) in
                let own = before.0 in
                (omega (arith, same, own), λ n len e. seen q before n len (kid_set s.children c (length (finished_reply c may).1) n len e));
          }
        where
          seen : (q : CallRecord) → KidsOk (on_table w call (look call c)).table.records call q.children s.children → (n len : ℕ) → (kid s.children n ≡ Some len) ⊎ ((n ≡ c) × (length (finished_reply c may).1 ≡ len)) → (o : Outcome) × (bs : List ℕ) × (told_child w.table.records call n ≡ Reply.finished o bs) × (length bs ≡ len)
          seen q before n len (inl e) = before.1 n len e
          seen q before n len (inr e) = ((finished_reply c may).0, (finished_reply c may).1, ap (told_child w.table.records call) e.0 ∙ reply_so, e.1)

  -- ---- Whatever it asks.

  pub question_served : (f : Function) (input : List ℕ) (q : Question) → GrantsFit plan f → Asked (invocation f input) q → LookStands w call q → Served plan w call host s q (answer w call host q)
  question_served f input (ask (Local key) (on_region op)) fit asked stands = local_served f input key op fit asked
  question_served f input (ask (Global key) (on_region op)) fit asked stands = global_served f input key op fit asked
  question_served f input (ask OnTable (Operation.submit n bs)) fit asked stands = submit_served n bs
  question_served f input (ask OnTable (Operation.look c)) fit asked stands = look_served c stands
  question_served f input (fills key n) fit asked stands = fill_served f input key n fit asked
  question_served f input (pulls key off len) fit asked stands = pull_served f input key off len fit asked
  question_served f input (pushes key off len) fit asked stands = push_served f input key off len fit asked
  question_served f input q fit asked stands = absurd asked
