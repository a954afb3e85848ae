-- A call of a world has as many children as its record counts, and of a well-formed plan it looks at these alone.
use Rattle.std.proofs.Common.{◌≡◌, ◌⊎◌, inl, inr, ℕ, zero, suc, ◌+◌, ◌<◌, Bool, true, false, cond, List, [], ◌∷◌, ◌++◌, Option, Some, None, refl, sym, ap, ap₂, ◌∙◌, length, slice_get, option_map, subst, arith}
use Rattle.std.specs.Prelude.{fold, ◌==◌, ◌&&◌}
use Rattle.std.proofs.lemmas.Bool.{eq-eqb, eqb-true, eqb-false}
use Rattle.faaslet_meaning.specs.declared.call.CallRecord.{CallRecord}
use Rattle.faaslet_meaning.specs.declared.grant.Channel.{Channel}
use Rattle.faaslet_meaning.specs.declared.grant.Channel.TheVariants.{Table as OnTable}
use Rattle.session_meaning.specs.declared.event.Event.{Event}
use Rattle.faaslet_meaning.specs.Channels.{RegionOperation, Operation, on_region, Question, ask}
use Rattle.faaslet_meaning.specs.CallState.{Invocation, local, Act, presence, passing, await, look, Work, Stage, running, touching, calling, releasing, State}
use Rattle.faaslet_meaning.specs.Memory.{Touch, reads_piece, writes_piece, touch_of}
use Rattle.faaslet_meaning.specs.Call.{begun_touch}
use Rattle.faaslet_meaning.specs.Goes.{Goes, here, stepped, answered}
use Rattle.faaslet_meaning.specs.Lists.{changed}
use Rattle.faaslet_meaning.specs.Asked.{question_by, question_in}
use Rattle.faaslet_meaning.specs.Records.{is_child, child_of}
use Rattle.faaslet_meaning.specs.Serve.{is_present, channel, touch_question}
use Rattle.faaslet_meaning.specs.Table as table
use Rattle.faaslet_meaning.specs.Table.{Table, has_room, queued_record, child_record, one_more_child}
use Rattle.faaslet_meaning.proofs.CallActs.{base}
use Rattle.faaslet_meaning.proofs.CallKept.{WorkFits, StageFits, ProgressFits, call_fits, replied_fits}
use Rattle.session_meaning.specs.Plan.{Plan, Request}
use Rattle.session_meaning.specs.World.{World, requested, start, first_world}
use Rattle.session_meaning.specs.Events.{Worlds}
use Rattle.session_meaning.proofs.Invariants.{changed_back, Back}
use Rattle.session_meaning.proofs.Tables.{spot, child_is, get_end}
use Rattle.session_meaning.proofs.TableKeeps.{Keeps, events_keep}
use Rattle.session_meaning.proofs.Later.{Same, Later, later_on, changed_later, push_later, push_before, state_same, submitted_by}

-- ---- Each child that a record counts is there.

pub record Child (rs : List CallRecord) (parent child : ℕ) : Type 0 where
  pub call : ℕ
  pub is : CallRecord
  pub here : slice_get rs call ≡ Some is
  pub of_parent : is.parent ≡ Some parent
  pub number : is.child ≡ child

abbrev pub HaveChildren : List CallRecord → Type 0
HaveChildren rs = (n : ℕ) (r : CallRecord) → slice_get rs n ≡ Some r → (child : ℕ) → child < r.children → Child rs n child

child_later : (rs more : List CallRecord) (n child : ℕ) → Later rs more → Child rs n child → Child more n child
child_later rs more n child later c = let l = later c.call c.is c.here in record { call = c.call; is = l.0; here = l.1; of_parent = l.2.parent ∙ c.of_parent; number = l.2.child ∙ c.number }

changed_have : (rs : List CallRecord) (n : ℕ) (f : CallRecord → CallRecord) → ((r : CallRecord) → Same r (f r)) → ((r : CallRecord) → (f r).children ≡ r.children) → HaveChildren rs → HaveChildren (changed rs n f)
changed_have rs n f same children have m y e child few = by (changed_back rs n f m y e)
  where
    later : Later rs (changed rs n f)
    later = changed_later rs n f same

    by : Back rs n f m y → Child (changed rs n f) m child
    by (inl h) = child_later rs (changed rs n f) m child later (have m y h child few)
    by (inr h) =
        let x = h.1.0 in
        let there : slice_get rs m ≡ Some x = ap (slice_get rs) h.0 ∙ (subst (λ k. slice_get rs k ≡ Some x) h.0 h.1.1) in
        let count : y.children ≡ x.children = ap (λ z. z.children) h.1.2 ∙ children x in
        child_later rs (changed rs n f) m child later (have m x h.1.1 child (subst (λ k. child < k) count few))

push_have : (rs : List CallRecord) (x : CallRecord) → x.children ≡ 0 → HaveChildren rs → HaveChildren (rs ++ x ∷ [])
push_have rs x none have m y e child few = by (push_before rs x m y e)
  where
    by : (slice_get rs m ≡ Some y) ⊎ ((m ≡ length rs) × (y ≡ x)) → Child (rs ++ x ∷ []) m child
    by (inl h) = child_later rs (rs ++ x ∷ []) m child (push_later rs x) (have m y h child few)
    by (inr h) = let count : y.children ≡ 0 = ap (λ z. z.children) h.1 ∙ none in let no : ⊥ = omega (arith, few, count) in absurd no

some_same : {A : Type 0} {x y : A} → Some x ≡ Some y → x ≡ y
some_same e = cc

more_have : (t : Table) (parent : ℕ) (p : CallRecord) (f : ℕ) (input : List ℕ) → slice_get t.records parent ≡ Some p → HaveChildren t.records → HaveChildren (changed t.records parent one_more_child ++ child_record t parent p f input ∷ [])
more_have t parent p f input e have m y h child few = by (push_before ys x m y h)
  where
    ys : List CallRecord
    ys = changed t.records parent one_more_child

    x : CallRecord
    x = child_record t parent p f input

    later : Later t.records (ys ++ x ∷ [])
    later = later_on t.records ys (ys ++ x ∷ []) (changed_later t.records parent one_more_child state_same) (push_later ys x)

    newest : (c : ℕ) → (c < p.children) ⊎ (c ≡ p.children) → Child (ys ++ x ∷ []) parent c
    newest c (inl l) = child_later t.records (ys ++ x ∷ []) parent c later (have parent p e c l)
    newest c (inr l) = record { call = length ys; is = x; here = get_end ys x (length ys) refl; of_parent = refl; number = sym l }

    parted : (c n : ℕ) → c < n + 1 → (c < n) ⊎ (c ≡ n)
    parted c n l = cut (eqb-cases c n)
      where
        eqb-cases : (a b : ℕ) → (a ≡ b) ⊎ ((a ≡ b) → ⊥)
        eqb-cases a b = at (a == b) refl
          where
            at : (z : Bool) → (a == b) ≡ z → (a ≡ b) ⊎ ((a ≡ b) → ⊥)
            at true i = inl (eqb-true a b i)
            at false i = inr (eqb-false a b i)

        cut : (c ≡ n) ⊎ ((c ≡ n) → ⊥) → (c < n) ⊎ (c ≡ n)
        cut (inl i) = inr i
        cut (inr i) = inl (omega (arith, l, i))

    old : Back t.records parent one_more_child m y → Child (ys ++ x ∷ []) m child
    old (inl k) = child_later t.records (ys ++ x ∷ []) m child later (have m y k child few)
    old (inr k) =
        let is_p : k.1.0 ≡ p = some_same (sym (subst (λ n. slice_get t.records n ≡ Some k.1.0) k.0 k.1.1) ∙ e) in
        let count : y.children ≡ p.children + 1 = ap (λ r. r.children) k.1.2 ∙ ap (λ r. r.children + 1) is_p in
        subst (λ n. Child (ys ++ x ∷ []) n child) (sym k.0) (newest child (parted child p.children (subst (λ n. child < n) count few)))

    by : (slice_get ys m ≡ Some y) ⊎ ((m ≡ length ys) × (y ≡ x)) → Child (ys ++ x ∷ []) m child
    by (inl k) = old (changed_back t.records parent one_more_child m y k)
    by (inr k) = let count : y.children ≡ 0 = ap (λ z. z.children) k.1 in let no : ⊥ = omega (arith, few, count) in absurd no

submit_have : (t : Table) (m parent f : ℕ) (input : List ℕ) → HaveChildren t.records → HaveChildren (table.after t m (table.submit parent f input)).records
submit_have t m parent f input have = by (slice_get t.records parent) refl
  where
    room : (p : CallRecord) → slice_get t.records parent ≡ Some p → (b : Bool) → HaveChildren (cond b (record t { records = changed t.records parent one_more_child ++ child_record t parent p f input ∷ [] }) t).records
    room p e true = more_have t parent p f input e have
    room p e false = have

    by : (o : Option CallRecord) → slice_get t.records parent ≡ o → HaveChildren (submitted_by t parent f input o).records
    by None e = have
    by (Some p) e = room p e (has_room t p f input)

same_state : (r s : CallRecord) → s.function ≡ r.function → s.parent ≡ r.parent → s.request ≡ r.request → s.depth ≡ r.depth → s.child ≡ r.child → s.children ≡ r.children → Same r s
same_state r s function parent request depth child children = record { function = function; parent = parent; request = request; depth = depth; child = child; children = omega (arith, children) }

have_keeps : Keeps HaveChildren
have_keeps =
    record {
      take = λ t m call host bench h. changed_have t.records call _ (λ r. same_state r _ refl refl refl refl refl refl) (λ r. refl) h;
      finish = λ t m call o used output counts h. changed_have t.records call _ (λ r. same_state r _ refl refl refl refl refl refl) (λ r. refl) h;
      submit = λ t m parent f input h. submit_have t m parent f input h;
    }

requests_have : (w : World) (rs : List Request) → HaveChildren w.table.records → HaveChildren (fold requested w rs).table.records
requests_have w [] h = h
requests_have w (r ∷ rs) h = requests_have (requested w r) rs (push_have w.table.records (queued_record w.table r.function r.host r.input) refl h)

pub world_has_children : (plan : Plan) (es : List Event) (w : World) → Worlds plan es w → HaveChildren w.table.records
world_has_children plan es w made = subst (λ v. HaveChildren v.table.records) (sym made.world_so) (events_keep HaveChildren have_keeps plan (first_world plan) es (requests_have (start plan) plan.requests (λ n r e. let no : ⊥ = cc in absurd no)))

-- ---- It is found by its number.

spot_finds : {A : Type 0} (test : A → Bool) (xs : List A) (n : ℕ) (x : A) → slice_get xs n ≡ Some x → test x ≡ true → (k : ℕ) × (spot test xs ≡ Some k)
spot_finds test [] n x e h = let no : ⊥ = cc in absurd no
spot_finds test (y ∷ xs) zero x e h = let same : y ≡ x = cc in (0, ap (λ b. cond b (Some 0) (option_map (λ n. suc n) (spot test xs))) (ap test same ∙ h))
spot_finds test (y ∷ xs) (suc n) x e h = by (test y) (spot_finds test xs n x e h)
  where
    by : (b : Bool) → (k : ℕ) × (spot test xs ≡ Some k) → (k : ℕ) × (cond b (Some 0) (option_map (λ n. suc n) (spot test xs)) ≡ Some k)
    by true f = (0, refl)
    by false f = (suc f.0, ap (option_map (λ n. suc n)) f.1)

pub child_found : (rs : List CallRecord) (parent child : ℕ) → Child rs parent child → (k : ℕ) × (child_of rs parent child ≡ Some k)
child_found rs parent child c =
    let test : is_child parent child c.is ≡ true =
    ap (λ o. elim o as (λ o. Bool) [ None ↦ false | Some p ↦ (p == parent) && (c.is.child == child) ]) c.of_parent
    ∙ ap₂ (λ a b. a && b) (eq-eqb parent parent refl) (eq-eqb c.is.child child c.number) in
    let f = spot_finds (is_child parent child) rs c.call c.is c.here test in
    (f.0, child_is rs parent child ∙ f.1)

-- ---- A call looks at children that it was told of.

pub goes_fit : {j : Invocation} {p y : _} {transcript : _} → Goes j p transcript y → ProgressFits j p → ProgressFits j y
goes_fit here h = h
goes_fit {j} (stepped {s = s} g) h = goes_fit g (call_fits j s h)
goes_fit {j} (answered {s = s} {q = q} {r = r} fit g) h = goes_fit g (replied_fits j s q r h fit)

module _ (j : Invocation) (s : State) (c : ℕ) where
  abbrev Looks : Option Question → Type 0
  Looks o = o ≡ Some (ask OnTable (Operation.look c))

  touch_looks : (o : Option Touch) → Looks (option_map (touch_question j) o) → ⊥
  touch_looks None e = cc
  touch_looks (Some (reads_piece k off n)) e = cc
  touch_looks (Some (writes_piece k off bs)) e = cc

  seen_looks : (b : Bool) (d : Channel) → Looks (cond b None (Some (ask d (on_region RegionOperation.probe)))) → ⊥
  seen_looks true d e = cc
  seen_looks false d e = cc

  act_looks : (w : Work) (a : Act) (acts : List Act) → WorkFits j (base s) s.present w.held (a ∷ acts) → Looks (question_by j s w (a ∷ acts)) → c < length s.children
  act_looks w (await d) acts h e = let same : d ≡ c = cc in subst (λ n. n < length s.children) same h.fit.0
  act_looks w (look d off len) acts h e = let same : d ≡ c = cc in subst (λ n. n < length s.children) same h.fit.0
  act_looks w (passing a) acts h e = absurd (touch_looks (touch_of a) e)
  act_looks w (presence k) acts h e = absurd (seen_looks (is_present s k) (channel j local k) e)
  act_looks w _ acts h e = absurd (cc)

  work_looks : (w : Work) (acts : List Act) → WorkFits j (base s) s.present w.held acts → Looks (question_by j s w acts) → c < length s.children
  work_looks w [] h e = absurd (cc)
  work_looks w (a ∷ acts) h e = act_looks w a acts h e

  pub stage_looks : (st : Stage) → StageFits j s st → Looks (question_in j s st) → c < length s.children
  stage_looks running h e = absurd (cc)
  stage_looks (touching b) h e = absurd (touch_looks (begun_touch b) e)
  stage_looks (calling w) h e = work_looks w w.acts h e
  stage_looks (releasing [] o) h e = absurd (cc)
  stage_looks (releasing (l ∷ left) o) h e = absurd (cc)
