-- A journal is what its entries say.
use Rattle.std.proofs.Common.{◌≡◌, ℕ, ◌<◌, eq-eqb, Bool, true, false, List, [], ◌∷◌, ◌++◌, refl, sym, ap, ◌∙◌, append_assoc, arith}
use Rattle.std.proofs.lemmas.List.{append-nil}
use Rattle.std.proofs.lemmas.List.Elements.{All-head, All-tail}
use Rattle.std.specs.Prelude.{MatchBool}
use Rattle.turn_cell.specs.declared.view.Entry.{Entry}
use Rattle.turn_cell.specs.History.{own, Stands, MakersBelow}
use Rattle.turn_counter.specs.Lines.{entry_if}

abbrev pub lines : List Entry → List ℕ
lines [] = []
lines (e ∷ es) = e.numbers ++ lines es

pub spelled : (log : List Entry) (start v : List ℕ) → Stands (λ maker numbers (a : List ℕ) b. b ≡ a ++ numbers) start log v → v ≡ start ++ lines log
spelled [] start v s = sym s ∙ sym (append-nil start)
spelled (e ∷ es) start v s = spelled es s.0 v s.2 ∙ (ap (λ (z : List ℕ). z ++ lines es) s.1 ∙ append_assoc start e.numbers (lines es))

pub all_own : (log : List Entry) → MakersBelow 1 log → own 0 log ≡ log
all_own [] all = refl
all_own (e ∷ es) all = let low = All-head (λ (d : Entry). d.maker < 1) e es all in let z : e.maker ≡ 0 = omega (arith, low) in
    rw (eq-eqb e.maker 0 z) (ap (λ (l : List Entry). e ∷ l) (all_own es (All-tail (λ (d : Entry). d.maker < 1) e es all)))

pub one_entry : (done : Bool) (line : ℕ) (v : List ℕ) → v ≡ lines (entry_if done 0 line) → MatchBool done (v ≡ line ∷ []) (v ≡ [])
one_entry true line v e = e
one_entry false line v e = e
