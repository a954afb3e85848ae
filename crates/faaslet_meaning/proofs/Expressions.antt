-- Expressions: bytes, trees and flat lists together, and the loop that reads them.
use Rattle.std.proofs.Common.{arith, length, ◌<◌, ◌≡◌, ℕ, Bool, false, List, [], ◌∷◌, ◌++◌, Option, Some, None, inl, inr, refl, sym, ap, subst, ◌∙◌, append_assoc}
use Rattle.std.proofs.lemmas.List.{append-nil, nil_from_length, length-append}
use Rattle.faaslet_meaning.specs.declared.instr.Instr.{Instr}
use Rattle.faaslet_meaning.specs.declared.instr.Instr.TheVariants.{Unreachable, Nop, Block, Loop, If, Else, End, Br, BrIf, BrTable, Return, Call, CallIndirect, Drop, Select, LocalGet, LocalSet, LocalTee, GlobalGet, GlobalSet, Load, Store, MemorySize, MemoryGrow, I32Const, I64Const, F32Const, F64Const, Num}
use Rattle.faaslet_meaning.specs.Productions.{◌⨾◌, Front, NoFront}
use Rattle.faaslet_meaning.specs.Tree.{Tree, stop, plain, block, loop, if_then, if_else, written, IsPlain, AllPlain}
use Rattle.faaslet_meaning.specs.Instructions.{IsSequence, IsExpression, IsInstr}
use Rattle.faaslet_meaning.specs.Reading.{◌>>=◌, instr_at}
use Rattle.faaslet_meaning.specs.Nesting.{step, run}
use Rattle.faaslet_meaning.proofs.InstrReaders.{IsFlat, instr_reads}
use Rattle.faaslet_meaning.proofs.Readers.{some_is}
use Rattle.faaslet_meaning.proofs.Flats.{flat_not_empty, AreFlats, flats-append, flats-split, one_more, beside}
use Rattle.faaslet_meaning.proofs.Trees.{rests, runs_over}

-- ---- the two ways to read a sequence

then_by : {P Q R S : List ℕ → Type 0} {bytes : List ℕ} → (P ⨾ Q) bytes → ((a : List ℕ) → P a → R a) → ((a : List ℕ) → Q a → S a) → (R ⨾ S) bytes
then_by p f g = record { front = p.front; back = p.back; parts = p.parts; first = f p.front p.first; second = g p.back p.second }

left : {P Q R : List ℕ → Type 0} {bytes : List ℕ} → (P ⨾ (Q ⨾ R)) bytes → ((P ⨾ Q) ⨾ R) bytes
left p = record { front = p.front ++ p.second.front; back = p.second.back; parts = p.parts ∙ ap (λ (t : List ℕ). p.front ++ t) p.second.parts ∙ sym (append_assoc p.front p.second.front p.second.back); first = record { front = p.front; back = p.second.front; parts = refl; first = p.first; second = p.second.first }; second = p.second.second }

right : {P Q R : List ℕ → Type 0} {bytes : List ℕ} → ((P ⨾ Q) ⨾ R) bytes → (P ⨾ (Q ⨾ R)) bytes
right p = record { front = p.first.front; back = p.first.back ++ p.back; parts = p.parts ∙ ap (λ (t : List ℕ). t ++ p.back) p.first.parts ∙ append_assoc p.first.front p.first.back p.back; first = p.first.first; second = record { front = p.first.back; back = p.back; parts = refl; first = p.first.second; second = p.second } }

flats_join : (is js : List Instr) (bytes : List ℕ) → (AreFlats is ⨾ AreFlats js) bytes → AreFlats (is ++ js) bytes
flats_join is js bytes p = subst (AreFlats (is ++ js)) (sym p.parts) (flats-append is js p.front p.back p.first p.second)

flats_cut : (is js : List Instr) (bytes : List ℕ) → AreFlats (is ++ js) bytes → (AreFlats is ⨾ AreFlats js) bytes
flats_cut is js bytes p = let h = flats-split is js bytes p in record { front = h.0; back = h.1; parts = h.2; first = h.3; second = h.4 }

plain_flat : (i : Instr) (bytes : List ℕ) → IsInstr i bytes → IsFlat i bytes × IsPlain i
plain_flat Unreachable bytes p = (p, tt)
plain_flat Nop bytes p = (p, tt)
plain_flat (Br l) bytes p = (p, tt)
plain_flat (BrIf l) bytes p = (p, tt)
plain_flat (BrTable ls l) bytes p = (p, tt)
plain_flat Return bytes p = (p, tt)
plain_flat (Call f) bytes p = (p, tt)
plain_flat (CallIndirect t) bytes p = (p, tt)
plain_flat Drop bytes p = (p, tt)
plain_flat Select bytes p = (p, tt)
plain_flat (LocalGet x) bytes p = (p, tt)
plain_flat (LocalSet x) bytes p = (p, tt)
plain_flat (LocalTee x) bytes p = (p, tt)
plain_flat (GlobalGet x) bytes p = (p, tt)
plain_flat (GlobalSet x) bytes p = (p, tt)
plain_flat (Load op a o) bytes p = (p, tt)
plain_flat (Store op a o) bytes p = (p, tt)
plain_flat MemorySize bytes p = (p, tt)
plain_flat MemoryGrow bytes p = (p, tt)
plain_flat (I32Const n) bytes p = (p, tt)
plain_flat (I64Const n) bytes p = (p, tt)
plain_flat (F32Const n) bytes p = (p, tt)
plain_flat (F64Const n) bytes p = (p, tt)
plain_flat (Num op) bytes p = (p, tt)
plain_flat (Block t) bytes p = absurd p
plain_flat (Loop t) bytes p = absurd p
plain_flat (If t) bytes p = absurd p
plain_flat Else bytes p = absurd p
plain_flat End bytes p = absurd p

flat_plain : (i : Instr) (bytes : List ℕ) → IsPlain i → IsFlat i bytes → IsInstr i bytes
flat_plain Unreachable bytes leaf p = p
flat_plain Nop bytes leaf p = p
flat_plain (Br l) bytes leaf p = p
flat_plain (BrIf l) bytes leaf p = p
flat_plain (BrTable ls l) bytes leaf p = p
flat_plain Return bytes leaf p = p
flat_plain (Call f) bytes leaf p = p
flat_plain (CallIndirect t) bytes leaf p = p
flat_plain Drop bytes leaf p = p
flat_plain Select bytes leaf p = p
flat_plain (LocalGet x) bytes leaf p = p
flat_plain (LocalSet x) bytes leaf p = p
flat_plain (LocalTee x) bytes leaf p = p
flat_plain (GlobalGet x) bytes leaf p = p
flat_plain (GlobalSet x) bytes leaf p = p
flat_plain (Load op a o) bytes leaf p = p
flat_plain (Store op a o) bytes leaf p = p
flat_plain MemorySize bytes leaf p = p
flat_plain MemoryGrow bytes leaf p = p
flat_plain (I32Const n) bytes leaf p = p
flat_plain (I64Const n) bytes leaf p = p
flat_plain (F32Const n) bytes leaf p = p
flat_plain (F64Const n) bytes leaf p = p
flat_plain (Num op) bytes leaf p = p
flat_plain (Block t) bytes l p = absurd l
flat_plain (Loop t) bytes l p = absurd l
flat_plain (If t) bytes l p = absurd l
flat_plain Else bytes l p = absurd l
flat_plain End bytes l p = absurd l

pub proper : (t : Tree) (bytes : List ℕ) → IsSequence t bytes → AllPlain t
proper stop bytes p = tt
proper (plain i rest) bytes p = ((plain_flat i p.front p.first).1, proper rest p.back p.second)
proper (block t body rest) bytes p = let q = p.second.second in (proper body q.front q.first, proper rest q.second.back q.second.second)
proper (loop t body rest) bytes p = let q = p.second.second in (proper body q.front q.first, proper rest q.second.back q.second.second)
proper (if_then t body rest) bytes p = let q = p.second.second in (proper body q.front q.first, proper rest q.second.back q.second.second)
proper (if_else t body other rest) bytes p = let q = p.second.second in let r = q.second.second in (proper body q.front q.first, proper other r.front r.first, proper rest r.second.back r.second.second)

pub to_flats : (t : Tree) (bytes : List ℕ) → IsSequence t bytes → AreFlats (written t) bytes
to_flats stop bytes p = p
to_flats (plain i rest) bytes p = then_by p (λ a q. (plain_flat i a q).0) (λ a q. to_flats rest a q)
to_flats (block t body rest) bytes p = then_by (left p) (λ a q. q) (λ a q. flats_join (written body) (End ∷ written rest) a (then_by q (λ b r. to_flats body b r) (λ b r. then_by r (λ c s. s) (λ c s. to_flats rest c s))))
to_flats (loop t body rest) bytes p = then_by (left p) (λ a q. q) (λ a q. flats_join (written body) (End ∷ written rest) a (then_by q (λ b r. to_flats body b r) (λ b r. then_by r (λ c s. s) (λ c s. to_flats rest c s))))
to_flats (if_then t body rest) bytes p = then_by (left p) (λ a q. q) (λ a q. flats_join (written body) (End ∷ written rest) a (then_by q (λ b r. to_flats body b r) (λ b r. then_by r (λ c s. s) (λ c s. to_flats rest c s))))
to_flats (if_else t body other rest) bytes p = then_by (left p) (λ a q. q) (λ a q. flats_join (written body) (Else ∷ (written other ++ End ∷ written rest)) a (then_by q (λ b r. to_flats body b r) (λ b r. then_by r (λ c s. s) (λ c s. flats_join (written other) (End ∷ written rest) c (then_by s (λ d u. to_flats other d u) (λ d u. then_by u (λ f v. v) (λ f v. to_flats rest f v)))))))

pub from_flats : (t : Tree) (bytes : List ℕ) → AllPlain t → AreFlats (written t) bytes → IsSequence t bytes
from_flats stop bytes l p = p
from_flats (plain i rest) bytes l p = then_by p (λ a q. flat_plain i a l.0 q) (λ a q. from_flats rest a l.1 q)
from_flats (block t body rest) bytes l p = right (then_by p (λ a q. q) (λ a q. then_by (flats_cut (written body) (End ∷ written rest) a q) (λ b r. from_flats body b l.0 r) (λ b r. then_by r (λ c s. s) (λ c s. from_flats rest c l.1 s))))
from_flats (loop t body rest) bytes l p = right (then_by p (λ a q. q) (λ a q. then_by (flats_cut (written body) (End ∷ written rest) a q) (λ b r. from_flats body b l.0 r) (λ b r. then_by r (λ c s. s) (λ c s. from_flats rest c l.1 s))))
from_flats (if_then t body rest) bytes l p = right (then_by p (λ a q. q) (λ a q. then_by (flats_cut (written body) (End ∷ written rest) a q) (λ b r. from_flats body b l.0 r) (λ b r. then_by r (λ c s. s) (λ c s. from_flats rest c l.1 s))))
from_flats (if_else t body other rest) bytes l p = right (then_by p (λ a q. q) (λ a q. then_by (flats_cut (written body) (Else ∷ (written other ++ End ∷ written rest)) a q) (λ b r. from_flats body b l.0 r) (λ b r. then_by r (λ c s. s) (λ c s. then_by (flats_cut (written other) (End ∷ written rest) c s) (λ d u. from_flats other d l.1 u) (λ d u. then_by u (λ f v. v) (λ f v. from_flats rest f l.2 v))))))

-- ---- an expression is a list of flat instructions that runs to its end

abbrev pub start : List Bool
start = false ∷ []

pub is_expression : (code : List Instr) (bytes : List ℕ) → AreFlats code bytes → run start code ≡ Some [] → IsExpression code bytes
is_expression code bytes p e =
    let r = rests code start e in
    let whole : code ≡ written r.tree ++ End ∷ [] = r.parts ∙ ap (λ (t : List Instr). written r.tree ++ t) (r.then.parts ∙ ap (λ (t : List Instr). End ∷ t) r.then.then) in
    record { tree = r.tree; flat = whole; spells = then_by (flats_cut (written r.tree) (End ∷ []) bytes (subst (λ c. AreFlats c bytes) whole p)) (λ a q. from_flats r.tree a r.proper q) (λ a q. q.parts ∙ ap (λ (t : List ℕ). q.front ++ t) q.second ∙ append-nil q.front ∙ q.first) }

pub expression_flats : (code : List Instr) (bytes : List ℕ) → IsExpression code bytes → AreFlats code bytes
expression_flats code bytes x = subst (λ c. AreFlats c bytes) (sym x.flat) (flats_join (written x.tree) (End ∷ []) bytes (then_by x.spells (λ a q. to_flats x.tree a q) (λ a q. record { front = a; back = []; parts = sym (append-nil a); first = q; second = refl })))

pub expression_runs : (code : List Instr) (bytes : List ℕ) → IsExpression code bytes → run start code ≡ Some []
expression_runs code bytes x = ap (run start) x.flat ∙ runs_over x.tree false [] (End ∷ []) (proper x.tree x.spells.front x.spells.first)

-- ---- the loop: what has been read, and what is open

pub run-append : (ms : List Bool) (a b : List Instr) → run ms (a ++ b) ≡ (run ms a >>= λ ns. run ns b)
run-append ms [] b = refl
run-append ms (i ∷ a) b = go (step ms i) (λ ns. run-append ns a b)
  where
    go : (o : Option (List Bool)) → ((ns : List Bool) → run ns (a ++ b) ≡ (run ns a >>= λ ns. run ns b)) → (o >>= λ ns. run ns (a ++ b)) ≡ ((o >>= λ ns. run ns a) >>= λ ns. run ns b)
    go (Some ns) h = h ns
    go None h = refl

pub run_more : (code : List Instr) (i : Instr) (ms ns : List Bool) → run start code ≡ Some ms → step ms i ≡ Some ns → run start (code ++ i ∷ []) ≡ Some ns
run_more code i ms ns e f = run-append start code (i ∷ []) ∙ rw (e, f) refl

pub grows : (bytes : List ℕ) (code : List Instr) (rest : List ℕ) (i : Instr) (after : List ℕ) → Front AreFlats bytes code rest → instr_at rest ≡ Some (i, after) → Front AreFlats bytes (code ++ i ∷ []) after
grows bytes code rest i after f e =
    let t = instr_reads.takes rest i after e in
    record { text = f.text ++ t.text; parts = f.parts ∙ ap (λ (u : List ℕ). f.text ++ u) t.parts ∙ sym (append_assoc f.text t.text after); spells = one_more code i f.text t.text f.spells t.spells }

pub nothing_yet : (bytes : List ℕ) → Front AreFlats bytes [] bytes
nothing_yet bytes = record { text = []; parts = refl; spells = refl }

pub ended : (bytes : List ℕ) (code : List Instr) (rest : List ℕ) → Front AreFlats bytes code rest → run start code ≡ Some [] → Front IsExpression bytes code rest
ended bytes code rest f e = record { text = f.text; parts = f.parts; spells = is_expression code f.text f.spells e }

-- with something open, and no next instruction that may stand here, nothing is an expression
pub stuck : (bytes : List ℕ) (code : List Instr) (rest : List ℕ) (ms : List Bool) → Front AreFlats bytes code rest → run start code ≡ Some ms → (ms ≡ [] → ⊥) → ((i : Instr) (after : List ℕ) → instr_at rest ≡ Some (i, after) → step ms i ≡ None) → NoFront IsExpression bytes
stuck bytes code rest ms f e open_still no_step = record { none = go }
  where
    more_from : (more : List Instr) (text tail : List ℕ) → AreFlats more text → rest ≡ text ++ tail → run ms more ≡ Some [] → ⊥
    more_from [] text tail p parts r = open_still cc
    more_from (i ∷ is) text tail p parts r =
        let next : instr_at rest ≡ Some (i, p.back ++ tail) = ap instr_at (parts ∙ ap (λ (t : List ℕ). t ++ tail) p.parts ∙ append_assoc p.front p.back tail) ∙ instr_reads.again i p.front (p.back ++ tail) p.first in
        let none = rw (no_step i (p.back ++ tail) next) at r in cc

    go : (whole : List Instr) (a tail : List ℕ) → bytes ≡ a ++ tail → IsExpression whole a → ⊥
    go whole a tail parts x =
        let flats = expression_flats whole a x in
        let runs = expression_runs whole a x in
        elim (beside code whole f.text rest a tail f.spells flats (sym parts ∙ f.parts)) [
          | inl l ↦ (let all = ap (run start) (sym l.goes_on) ∙ runs in let h = sym (run-append start code l.more) ∙ all in let k = rw e at h in more_from l.more l.text tail l.spells l.parts k)
          | inr s ↦ (let all = sym (run-append start whole (s.next ∷ s.more)) ∙ ap (run start) (sym s.goes_on) ∙ e in let k = rw runs at all in cc)
        ]

-- no instruction can be read
pub stuck_unread : (bytes : List ℕ) (code : List Instr) (rest : List ℕ) (ms : List Bool) → Front AreFlats bytes code rest → run start code ≡ Some ms → (ms ≡ [] → ⊥) → instr_at rest ≡ None → NoFront IsExpression bytes
stuck_unread bytes code rest ms f e open_still none = stuck bytes code rest ms f e open_still (λ i after read. absurd cc)

-- one can, and may not stand here
pub stuck_here : (bytes : List ℕ) (code : List Instr) (rest : List ℕ) (ms : List Bool) (i : Instr) (after : List ℕ) → Front AreFlats bytes code rest → run start code ≡ Some ms → (ms ≡ [] → ⊥) → instr_at rest ≡ Some (i, after) → step ms i ≡ None → NoFront IsExpression bytes
stuck_here bytes code rest ms i after f e open_still read none = stuck bytes code rest ms f e open_still (λ j more again. let h = some_is (j, more) (i, after) (sym again ∙ read) in let same : j ≡ i = ap (λ (p : Instr × List ℕ). p.0) h in rw same none)

pub shorter : (rest : List ℕ) (i : Instr) (after : List ℕ) → instr_at rest ≡ Some (i, after) → length after < length rest
shorter rest i after e =
    let t = instr_reads.takes rest i after e in
    let h : (length t.text ≡ 0) → ⊥ = λ z. flat_not_empty i t.text t.spells (nil_from_length t.text z) in
    omega (arith, length-append t.text after, ap length t.parts, h)
