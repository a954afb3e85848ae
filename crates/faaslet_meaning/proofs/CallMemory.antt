-- The memory of a call: pieces of a range, segments that only grow, the places that are mapped; and what a step keeps of them.
use Rattle.std.proofs.Common.{◌≡◌, ℕ, ◌+◌, ◌-◌, ◌*◌, ◌^◌, ◌<◌, ◌≤◌, List, [], ◌∷◌, ◌++◌, length, refl, sym, ap, ◌∙◌, subst, arith, None, Some, Option, Bool, true, false, cond, not, take, drop, reverse, Result, Ok, Err}
use Rattle.std.specs.Prelude.{min, nat_lt}
use Rattle.std.proofs.lemmas.Bool.{leb-true, ltb-true, and_parts}
use Rattle.std.proofs.lemmas.List.{reverse-append}
use Rattle.faaslet_meaning.specs.declared.outcome.Trap.{Trap}
use Rattle.faaslet_meaning.specs.declared.grant.Mode.TheVariants.{Write}
use Rattle.faaslet_meaning.specs.LoadStore as bytes
use Rattle.faaslet_meaning.specs.LoadStore.{load_size}
use Rattle.faaslet_meaning.specs.Memory.{Home, private, mapped, is_private, Segment, Memory, Piece, page_size, page_limit, pages_of, size_of, lies_in, cut, pieces, shared_pieces, put, Access, reads, writes, Written, reading, writing, write_on, answered, grown, with_pages, may_grow}
use Rattle.faaslet_meaning.specs.HostCalls.{HostCall, buffer_of}
use Rattle.faaslet_meaning.specs.ControlRules.{buffer_limit}
use Rattle.faaslet_meaning.specs.Configuration.{Begun, load, store, Program, Configuration, Next, values_held}
use Rattle.faaslet_meaning.specs.Limits.{traps, value_limit}
use Rattle.faaslet_meaning.specs.MemoryRules.{load_on, store_on, stored, resumed, all_granted}
use Rattle.faaslet_meaning.specs.MemoryRules as access
use Rattle.faaslet_meaning.specs.Step.{step, finished}
use Rattle.faaslet_meaning.specs.Formed.{places_mapped, IsTied}
use Rattle.faaslet_meaning.proofs.Pieces.{when, load_small}
use Rattle.faaslet_meaning.proofs.StepWalk.{View, IsShort, Good, Rules, step_holds}
use Rattle.faaslet_meaning.proofs.CallParts.{Each, each_filter}

-- ---- Pieces

-- a piece is not empty, ends within 2 ^ 32 bytes of its segment's begin, and is no longer than a buffer
pub record PieceFits (p : Piece) : Type 0 where
  pub some : 0 < p.size
  pub ends : p.off + p.size ≤ 2 ^ 32
  pub short : p.size ≤ buffer_limit

pub cut_fits : (ss : List Segment) (base at n : ℕ) → at + n ≤ 2 ^ 32 → n ≤ buffer_limit → Each PieceFits (cut ss base at n)
cut_fits [] base at n h l = tt
cut_fits (s ∷ ss) base at n h l =
    let next = base + s.pages * page_size in
    let here = min n (next - at) in
    when (Each PieceFits) (nat_lt 0 here) (record { home = s.home; off = at - base; at = at; size = here } ∷ cut ss next (at + here) (n - here)) (cut ss next at n)
    (λ e. let some = ltb-true 0 here e in (record { some = some; ends = omega (arith, h); short = omega (arith, l) }, cut_fits ss next (at + here) (n - here) (omega (arith, h)) (omega (arith, l))))
    (λ e. cut_fits ss next at n h l)

-- what is left of an access
abbrev pub AccessFits : Access → Type 0
AccessFits (reads at n left copy) = Each PieceFits left
AccessFits (writes left bytes) = Each PieceFits left

pub reading_fits : (m : Memory) (at n : ℕ) → at + n ≤ 2 ^ 32 → n ≤ buffer_limit → AccessFits (reading m at n)
reading_fits m at n h l = each_filter PieceFits (λ p. not (is_private p.home)) (pieces m at n) (cut_fits m.segments 0 at n h l)

-- a write leaves the segments
pub record WrittenFits (m : Memory) (w : Written) : Type 0 where
  pub same : w.memory.segments ≡ m.segments
  pub access : AccessFits w.access

pub write_fits : (ps : List Piece) (m : Memory) (bs : List ℕ) → Each PieceFits ps → WrittenFits m (write_on ps m bs)
write_fits [] m bs h = record { same = refl; access = tt }
write_fits (p ∷ ps) m bs h = by p.home (write_fits ps (put m p.at (take p.size bs)) (drop p.size bs) h.1)
  where
    by : (k : Home) → WrittenFits (put m p.at (take p.size bs)) (write_on ps (put m p.at (take p.size bs)) (drop p.size bs)) → WrittenFits m (elim k as (λ _. Written) [ private ↦ write_on ps (put m p.at (take p.size bs)) (drop p.size bs) | mapped n ↦ record { memory = m; access = writes (p ∷ ps) bs } ])
    by private w = record { same = w.same; access = w.access }
    by (mapped n) w = record { same = refl; access = h }

pub writing_fits : (m : Memory) (at : ℕ) (bs : List ℕ) → at + length bs ≤ 2 ^ 32 → length bs ≤ buffer_limit → WrittenFits m (writing m at bs)
writing_fits m at bs h l = write_fits (pieces m at (length bs)) m bs (cut_fits m.segments 0 at (length bs) h l)

pub answered_fits : (m : Memory) (a : Access) (bs : List ℕ) → AccessFits a → WrittenFits m (answered m a bs)
answered_fits m (reads at n [] copy) bs h = record { same = refl; access = tt }
answered_fits m (reads at n (p ∷ ps) copy) bs h = record { same = refl; access = h.1 }
answered_fits m (writes [] left) bs h = record { same = refl; access = tt }
answered_fits m (writes (p ∷ ps) left) bs h = let w = write_fits ps m (drop p.size left) h.1 in record { same = w.same; access = w.access }

-- ---- The places that are mapped

-- `memory.grow` maps none
pub growth_maps : (ss : List Segment) (n base : ℕ) → places_mapped (with_pages ss n) base ≡ places_mapped ss base
growth_maps [] n base = refl
growth_maps (s ∷ []) n base = by s.home
  where
    by : (k : Home) → places_mapped (cond (is_private k) (record { home = k; pages = s.pages + n } ∷ []) (record { home = k; pages = s.pages } ∷ record { home = private; pages = n } ∷ [])) base ≡ places_mapped (record { home = k; pages = s.pages } ∷ []) base
    by private = refl
    by (mapped k) = refl
growth_maps (s ∷ t ∷ ss) n base = by s.home (growth_maps (t ∷ ss) n (base + s.pages))
  where
    by : (k : Home) → places_mapped (with_pages (t ∷ ss) n) (base + s.pages) ≡ places_mapped (t ∷ ss) (base + s.pages) → places_mapped (record { home = k; pages = s.pages } ∷ with_pages (t ∷ ss) n) base ≡ places_mapped (record { home = k; pages = s.pages } ∷ t ∷ ss) base
    by private e = e
    by (mapped k) e = ap (λ ms. (k, base * page_size) ∷ ms) e

pub growth_adds : (ss : List Segment) (n : ℕ) → pages_of (with_pages ss n) ≡ pages_of ss + n
growth_adds [] n = omega arith
growth_adds (s ∷ []) n = by (is_private s.home)
  where
    by : (b : Bool) → pages_of (cond b (record s { pages = s.pages + n } ∷ []) (s ∷ record { home = private; pages = n } ∷ [])) ≡ s.pages + 0 + n
    by true = omega arith
    by false = omega arith
growth_adds (s ∷ t ∷ ss) n = let r = growth_adds (t ∷ ss) n in omega (arith, r)

-- a replica that is mapped comes last
pub map_last : (ss : List Segment) (k n base : ℕ) → places_mapped (ss ++ record { home = mapped k; pages = n } ∷ []) base ≡ places_mapped ss base ++ (k, (base + pages_of ss) * page_size) ∷ []
map_last [] k n base = ap (λ b. (k, b * page_size) ∷ []) (omega arith)
map_last (s ∷ ss) k n base = by s.home (map_last ss k n (base + s.pages))
  where
    sum : base + s.pages + pages_of ss ≡ base + (s.pages + pages_of ss)
    sum = omega arith

    by : (h : Home) → places_mapped (ss ++ record { home = mapped k; pages = n } ∷ []) (base + s.pages) ≡ places_mapped ss (base + s.pages) ++ (k, (base + s.pages + pages_of ss) * page_size) ∷ [] → places_mapped (record { home = h; pages = s.pages } ∷ (ss ++ record { home = mapped k; pages = n } ∷ [])) base ≡ places_mapped (record { home = h; pages = s.pages } ∷ ss) base ++ (k, (base + (s.pages + pages_of ss)) * page_size) ∷ []
    by private e = e ∙ ap (λ b. places_mapped ss (base + s.pages) ++ (k, b * page_size) ∷ []) sum
    by (mapped h) e = ap (λ ms. (h, base * page_size) ∷ ms) (e ∙ ap (λ b. places_mapped ss (base + s.pages) ++ (k, b * page_size) ∷ []) sum)

pub pages_last : (ss : List Segment) (s : Segment) → pages_of (ss ++ s ∷ []) ≡ pages_of ss + s.pages
pages_last [] s = omega arith
pages_last (t ∷ ss) s = let r = pages_last ss s in omega (arith, r)

zero_first : (n : ℕ) → 0 + n ≡ n
zero_first n = omega arith

pub tied_map : (ss : List Segment) (ms : List (ℕ × ℕ)) (k n : ℕ) → pages_of ss + n ≤ page_limit → IsTied ss ms → IsTied (ss ++ record { home = mapped k; pages = n } ∷ []) ((k, pages_of ss * page_size) ∷ ms)
tied_map ss ms k n l h =
    record {
      few_pages = omega (arith, l, pages_last ss (record { home = mapped k; pages = n }));
      same = ap (λ xs. (k, pages_of ss * page_size) ∷ xs) h.same ∙ sym (ap reverse (map_last ss k n 0 ∙ ap (λ b. places_mapped ss 0 ++ (k, b * page_size) ∷ []) (zero_first (pages_of ss))) ∙ reverse-append (places_mapped ss 0) ((k, pages_of ss * page_size) ∷ []));
    }

-- ---- What a step keeps

abbrev pub access_of : Begun → Access
access_of (load l a) = a
access_of (store a) = a

module _ (ms : List (ℕ × ℕ)) where
  abbrev pub Kept : View → Type 0
  Kept v = IsTied v.memory.segments ms

  abbrev pub Touched : Configuration → Begun → Type 0
  Touched c b = IsTied c.memory.segments ms × AccessFits (access_of b)

  abbrev pub Called : Configuration → HostCall → Type 0
  Called c h = IsTied c.memory.segments ms × IsShort (buffer_of h)

  abbrev pub NextFits : Next → Type 0
  NextFits x = Good Kept Kept Touched Called x

  load_fits : (c : Configuration) (l : bytes.Load) (a : Access) → IsTied c.memory.segments ms → AccessFits a → NextFits (load_on c l a)
  load_fits c l (reads at n [] copy) h f = h
  load_fits c l (reads at n (p ∷ ps) copy) h f = (h, f)
  load_fits c l (writes left bs) h f = tt

  store_fits : (c : Configuration) (a : Access) → IsTied c.memory.segments ms → AccessFits a → NextFits (store_on c a)
  store_fits c (writes [] bs) h f = h
  store_fits c (writes (p ∷ ps) bs) h f = (h, f)
  store_fits c (reads at n left copy) h f = tt

  stored_fits : (c : Configuration) (w : Written) → IsTied c.memory.segments ms → WrittenFits c.memory w → NextFits (stored c w)
  stored_fits c w h f = store_fits (record c { memory = w.memory }) w.access (subst (λ ss. IsTied ss ms) (sym f.same) h) f.access

  -- a range that lies in memory ends within 2 ^ 32 bytes
  pub within : (m : Memory) (at n : ℕ) → lies_in m at n ≡ true → IsTied m.segments ms → at + n ≤ 2 ^ 32
  within m at n e h = let l = leb-true (at + n) (size_of m) e in let few = h.few_pages in omega (arith, l, few)

  growth_keeps : (m : Memory) (n most : ℕ) → may_grow m n most ≡ true → IsTied m.segments ms → IsTied (grown m n).segments ms
  growth_keeps m n most e h =
      let l = leb-true (pages_of m.segments + n) (min most page_limit) (and_parts _ _ e).0 in
      record { few_pages = omega (arith, l, growth_adds m.segments n); same = h.same ∙ ap reverse (sym (growth_maps m.segments n 0)) }

  rules : (p : Program) → Rules Kept Kept Touched Called Kept Kept p
  rules p =
      record {
        pays = λ v k h. h;
        leaves = λ v k lt h. h;
        stays = λ v k le h. h;
        grows = λ v n may h. growth_keeps v.memory n p.most_pages may h;
        ends_before = λ v h. h;
        ends_paid = λ v h. h;
        loads = λ c l at in_ h. let small = load_small l in load_fits c l (reading c.memory at (load_size l)) h (reading_fits c.memory at (load_size l) (within c.memory at (load_size l) in_ h) (omega (arith, small)));
        stores = λ c at bs few in_ h. stored_fits c (writing c.memory at bs) h (writing_fits c.memory at bs (within c.memory at (length bs) in_ h) (omega (arith, few)));
        asks = λ c h k less short hosted w. (w, short);
      }

  pub step_fits : (p : Program) (c : Configuration) → IsTied c.memory.segments ms → NextFits (step p c)
  step_fits p c h = step_holds Kept Kept Touched Called p (rules p) c h

  -- after a reply to a shared piece
  pub resumed_fits : (c : Configuration) (b : Begun) (bs : List ℕ) → IsTied c.memory.segments ms → AccessFits (access_of b) → NextFits (resumed c b bs)
  resumed_fits c (load l a) bs h f = load_fits c l (answered c.memory a bs).access h (answered_fits c.memory a bs f).access
  resumed_fits c (store a) bs h f = stored_fits c (answered c.memory a bs) h (answered_fits c.memory a bs f)

  -- after a host call
  pub finished_fits : (c : Configuration) (r : Result (Option ℕ) Trap) → IsTied c.memory.segments ms → NextFits (finished c r)
  finished_fits c (Ok None) h = h
  finished_fits c (Ok (Some v)) h = when NextFits (nat_lt (values_held c) value_limit) _ (traps c _) (λ e. h) (λ e. (h, tt))
  finished_fits c (Err t) h = (h, tt)
