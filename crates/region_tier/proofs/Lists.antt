-- A list that grew by entries of others, more than once.
use Rattle.std.proofs.Common.{◌≡◌, ◌≢◌, ℕ, List, [], ◌++◌, sym, ap, ◌∙◌, subst, append_assoc}
use Rattle.std.proofs.lemmas.List.{append-nil}
use Rattle.std.proofs.lemmas.List.Elements.{All-nil, All-append}
use Rattle.faaslet_meaning.specs.declared.ask.Reply as coded
use Rattle.faaslet_meaning.specs.Channels.{RegionOperation}
use Rattle.shared_region.specs.Shared.{Shared}
use Rattle.turn_cell.specs.declared.view.Entry.{Entry}
use Rattle.turn_cell.specs.History.{Extends}
use Rattle.region_tier.specs.Answered.{Told}

pub extends_none : (n : ℕ) (l : List Entry) → Extends n l l
extends_none n l = ([], append-nil l, All-nil (λ (e : Entry). e.maker ≢ n))

pub extends_more : (n : ℕ) (a b c : List Entry) → Extends n a b → Extends n b c → Extends n a c
extends_more n a b c x y = (x.0 ++ y.0, sym (append_assoc a x.0 y.0) ∙ (ap (λ l. l ++ y.0) x.1 ∙ y.1), All-append (λ (e : Entry). e.maker ≢ n) x.0 y.0 x.2 y.2)

pub told_from : (start : Shared) (n : ℕ) (o : RegionOperation) (a b c : List Entry) (code : coded.Reply) (scratch told : List ℕ) → Extends n a b → Told start n o b c code scratch told → Told start n o a c code scratch told
told_from start n o a b c code scratch told x t = record {
  answer = t.answer;
  stands_for = t.stands_for;
  laid_so = t.laid_so;
  answered = record { before = t.answered.before; region = t.answered.region; leads = t.answered.leads; others = extends_more n a b t.answered.before x t.answered.others; entered = t.answered.entered; reply_so = t.answered.reply_so };
}

-- the same, where the maker and the scratch are known under other names
pub told_as : (start : Shared) (m n : ℕ) (o : RegionOperation) (a b c : List Entry) (code : coded.Reply) (s t told : List ℕ) → m ≡ n → s ≡ t → Extends n a b → Told start m o b c code s told → Told start n o a c code t told
told_as start m n o a b c code s t told e f x h = told_from start n o a b c code t told x (subst (λ k. Told start k o b c code t told) e (subst (λ k. Told start m o b c code k told) f h))
