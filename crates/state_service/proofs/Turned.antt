-- A turn that was taken and ended, and turns one after the other.
use Rattle.std.proofs.Common.{◌≡◌, ◌≢◌, ℕ, zero, suc, ◌<◌, List, [], ◌∷◌, ◌++◌, set, Some, refl, sym, ap, ◌∙◌, subst}
use Rattle.std.specs.Prelude as std
use Rattle.std.proofs.lemmas.List.{append-nil}
use Rattle.std.proofs.lemmas.List.Elements.{All-nil}
use mathlib.Core.Option.{some, some-injective}
use lib.ListN.{get_elem?}
use Rattle.faaslet_meaning.specs.declared.ask.Move.{Move}
use Rattle.faaslet_meaning.specs.Channels.{RegionOperation, Reply}
use Rattle.faaslet_meaning.specs.Region as region
use Rattle.faaslet_meaning.specs.Spelling.{spelled}
use Rattle.shared_region.specs.Entries.{MakesShared}
use Rattle.shared_region.specs.Moves.{MoveFits}
use Rattle.shared_region.specs.Shared.{Shared}
use Rattle.turn_cell.specs.declared.cell.Turns.{Turns}
use Rattle.turn_cell.specs.declared.view.Entry.{Entry}
use Rattle.turn_cell.specs.Cell.{IsPassOf, pass_list, pass_number, turn_list, maker_of, value_of, start_of, numbers_of}
use Rattle.turn_cell.specs.History.{Stands, Extends, MakersBelow, entry}
use Rattle.turn_cell.specs.Views.{numbers_in}
use Rattle.turn_cell.proofs.Frames.{there}
use Rattle.region_tier.specs.Answered.{Answered}
use Rattle.region_tier.specs.Tiers.{RegionPass, RegionHeld, HasPass, Goes, Took, Gave}
use Rattle.region_tier.proofs.At.{same_at, same_in, set_twice}
use Rattle.region_tier.proofs.Dealing.{at_put}
use Rattle.region_tier.proofs.Lists.{extends_more}
use Rattle.state_service.specs.May.{Cells, Slots, MayMove}
use Rattle.state_service.specs.Moving.{Waited}

-- a turn of a key, from its pass to its pass
pub went : (cells : Cells) (old mid new : Slots) (key : ℕ) (held ended : RegionHeld) (es : List Entry) (P : Turns Shared → RegionPass → RegionPass → Type 0)
    → Took cells old mid key held → Gave cells mid new key ended es → maker_of ended ≡ maker_of held → turn_list ended ≡ turn_list held
    → ((t : Turns Shared) (p q : RegionPass) → get_elem? cells key ≡ some t → get_elem? old key ≡ some (Some p) → maker_of held ≡ pass_number p → pass_list q ≡ turn_list held ++ es
    → Extends (pass_number p) (pass_list p) (turn_list held) → Stands MakesShared (start_of t) (turn_list held) (value_of held) → P t p q)
    → Goes cells old new key P
went cells old mid new key held ended es P t g maker list so =
    let same : g.cell ≡ t.cell = same_at cells key g.cell t.cell g.at_cell t.at_cell in
    record {
      cell = t.cell;
      before = t.pass;
      after = g.pass;
      at_cell = t.at_cell;
      at_before = t.at_pass;
      put = g.put ∙ (ap (λ l. set l key (Some g.pass)) t.out ∙ set_twice old key std.None (Some g.pass));
      sits = subst (λ (u : Turns Shared). IsPassOf g.pass u) same g.sits;
      number = g.number ∙ (maker ∙ t.number);
      makers = subst (λ (u : Turns Shared). MakersBelow (numbers_of u) (pass_list g.pass)) same g.makers;
      so = so t.cell t.pass g.pass t.at_cell t.at_pass t.number (g.list ∙ ap (λ l. l ++ es) list) t.others t.stands;
    }

-- a turn that ended without an entry
pub waits : (cells : Cells) (old mid new : Slots) (key : ℕ) (held ended : RegionHeld) → Took cells old mid key held → Gave cells mid new key ended [] → maker_of ended ≡ maker_of held → turn_list ended ≡ turn_list held → Waited cells old new key
waits cells old mid new key held ended t g maker list =
    went cells old mid new key held ended [] (λ u p q. Extends (pass_number p) (pass_list p) (pass_list q)) t g maker list
    (λ u p q at_cell at_pass m l others stands. subst (Extends (pass_number p) (pass_list p)) (sym (l ∙ append-nil (turn_list held))) others)

-- the entry that ended a turn, with its reply
pub enters : (start : Shared) (n m : ℕ) (o : RegionOperation) (r : Reply) (old log new : List Entry) (value : Shared) → m ≡ n → new ≡ log ++ entry m (spelled o) ∷ [] → Extends n old log → Stands MakesShared start log value → r ≡ region.reply value.region m o
    → Answered start n o old new r
enters start n m o r old log new value same list others stands answer = record {
  before = log;
  region = value;
  leads = stands;
  others = others;
  entered = list ∙ ap (λ k. log ++ entry k (spelled o) ∷ []) same;
  reply_so = answer ∙ ap (λ k. region.reply value.region k o) same;
}

-- ---- Turns one after the other.

-- what stands at the key once its pass came back
pub after_at : (cells : Cells) (old new : Slots) (key : ℕ) (P : Turns Shared → RegionPass → RegionPass → Type 0) (g : Goes cells old new key P) → get_elem? new key ≡ some (Some g.after)
after_at cells old new key P g = ap (λ (l : Slots). get_elem? l key) g.put ∙ at_put old key (Some g.after) (there old key (Some g.before) g.at_before)

pub goes_on : (cells : Cells) (old mid new : Slots) (key : ℕ) (P Q : Turns Shared → RegionPass → RegionPass → Type 0) → Waited cells old mid key → Goes cells mid new key P
    → ((t : Turns Shared) (p q r : RegionPass) → pass_number q ≡ pass_number p → Extends (pass_number p) (pass_list p) (pass_list q) → P t q r → Q t p r) → Goes cells old new key Q
goes_on cells old mid new key P Q w g more =
    let same : g.cell ≡ w.cell = same_at cells key g.cell w.cell g.at_cell w.at_cell in
    let mid_so : g.before ≡ w.after = same_in mid key g.before w.after g.at_before (after_at cells old mid key (λ t p q. Extends (pass_number p) (pass_list p) (pass_list q)) w) in
    record {
      cell = w.cell;
      before = w.before;
      after = g.after;
      at_cell = w.at_cell;
      at_before = w.at_before;
      put = g.put ∙ (ap (λ l. set l key (Some g.after)) w.put ∙ set_twice old key (Some w.after) (Some g.after));
      sits = subst (λ (u : Turns Shared). IsPassOf g.after u) same g.sits;
      number = g.number ∙ (ap pass_number mid_so ∙ w.number);
      makers = subst (λ (u : Turns Shared). MakersBelow (numbers_of u) (pass_list g.after)) same g.makers;
      so = more w.cell w.before w.after g.after w.number w.so (subst (λ (u : Turns Shared). P u w.after g.after) same (subst (λ (p : RegionPass). P g.cell p g.after) mid_so g.so));
    }

-- an answer, where before it the list grew by entries of others
pub answered_later : (start : Shared) (n m : ℕ) (o : RegionOperation) (r : Reply) (a b c : List Entry) → n ≡ m → Extends m a b → Answered start n o b c r → Answered start m o a c r
answered_later start n m o r a b c same x h = let k = subst (λ i. Answered start i o b c r) same h in record {
  before = k.before;
  region = k.region;
  leads = k.leads;
  others = extends_more m a b k.before x k.others;
  entered = k.entered;
  reply_so = k.reply_so;
}

-- no turn yet
pub not_yet : (cells : Cells) (slots : Slots) (key : ℕ) (P : Turns Shared → RegionPass → Type 0) → HasPass cells slots key P → Waited cells slots slots key
not_yet cells slots key P h = record {
  cell = h.cell;
  before = h.pass;
  after = h.pass;
  at_cell = h.at_cell;
  at_before = h.at_pass;
  put = sym (set_same slots key (Some h.pass) h.at_pass);
  sits = h.sits;
  number = refl;
  makers = sees h.pass h.cell h.sits;
  so = ([], append-nil (pass_list h.pass), All-nil (λ (e : Entry). e.maker ≢ pass_number h.pass));
}
  where
    set_same : {A : Type 0} (xs : List A) (k : ℕ) (a : A) → get_elem? xs k ≡ some a → set xs k a ≡ xs
    set_same [] k a e = refl
    set_same (x ∷ xs) zero a e = ap (λ y. y ∷ xs) (sym (some-injective x a e))
    set_same (x ∷ xs) (suc k) a e = ap (λ ys. x ∷ ys) (set_same xs k a e)

    sees : (p : RegionPass) (t : Turns Shared) → IsPassOf p t → MakersBelow (numbers_of t) (pass_list p)
    sees p t s = subst (λ k. MakersBelow (numbers_in k) (pass_list p)) s.1 p.makers

-- the pass of the key is there, after turns that made nothing
pub again : (cells : Cells) (old new : Slots) (key : ℕ) (P Q : Turns Shared → RegionPass → Type 0) → HasPass cells old key P → Waited cells old new key
    → ((t : Turns Shared) (p q : RegionPass) → pass_number q ≡ pass_number p → P t p → Q t q) → HasPass cells new key Q
again cells old new key P Q h w keeps =
    let same : w.cell ≡ h.cell = same_at cells key w.cell h.cell w.at_cell h.at_cell in
    let number : pass_number w.after ≡ pass_number h.pass = w.number ∙ ap pass_number (same_in old key w.before h.pass w.at_before h.at_pass) in
    record {
      cell = h.cell;
      pass = w.after;
      at_cell = h.at_cell;
      at_pass = after_at cells old new key (λ t p q. Extends (pass_number p) (pass_list p) (pass_list q)) w;
      sits = subst (λ (u : Turns Shared). IsPassOf w.after u) same w.sits;
      low = subst (λ n. n < numbers_of h.cell) (sym number) h.low;
      so = keeps h.cell h.pass w.after number h.so;
    }

-- the pass at the global value fits that at the replica
abbrev Beside : Move → Turns Shared → RegionPass → Turns Shared → RegionPass → Type 0
Beside kind t p u q = (pass_number p ≡ pass_number q) × ((start_of t).region.size ≡ (start_of u).region.size) × MoveFits kind (start_of t).region.size

pub may_again : (locals globals : Cells) (l m g h : Slots) (key : ℕ) (kind : Move) → MayMove locals globals l g key kind → Waited locals l m key → Waited globals g h key → MayMove locals globals m h key kind
may_again locals globals l m g h key kind may wl wg =
    again locals l m key (λ t p. HasPass globals g key (Beside kind t p)) (λ t p. HasPass globals h key (Beside kind t p)) may wl
    (λ t p q same has. again globals g h key (Beside kind t p) (Beside kind t q) has wg (λ u r s kept b. (same ∙ (b.0 ∙ sym kept), b.1, b.2)))

pub waits_more : (cells : Cells) (old mid new : Slots) (key : ℕ) → Waited cells old mid key → Waited cells mid new key → Waited cells old new key
waits_more cells old mid new key v w =
    let P : Turns Shared → RegionPass → RegionPass → Type 0 = λ t p q. Extends (pass_number p) (pass_list p) (pass_list q) in
    goes_on cells old mid new key P P v w (λ t p q r same x y. extends_more (pass_number p) (pass_list p) (pass_list q) (pass_list r) x (subst (λ n. Extends n (pass_list q) (pass_list r)) same y))
