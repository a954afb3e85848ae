use Rattle.std.proofs.Common.{◌≡◌, ℕ, ◌+◌, ◌<◌, ◌≤◌, List, Option, Some, length, map, get_or, ◌∙◌, ap, sym, arith}
use Rattle.std.proofs.Math.ListN.{set}
use Rattle.std.proofs.Math.Seq.{paste}
use Rattle.std.proofs.lemmas.List.{get_or-map, length-map}
use Rattle.std.proofs.lemmas.List.Edits.{paste_more}
use Rattle.proto_faaslet.proofs.table.put_functions.Goals as goal

abbrev some : ℕ → Option ℕ
some f = Some f

one_more : (to : List (Option ℕ)) (at : ℕ) (fs : List ℕ) (k : ℕ) → at + length fs ≤ length to → k < length fs → set (paste to at (map some fs) k) (at + k) (some (get_or fs k 0)) ≡ paste to at (map some fs) (k + 1)
one_more to at fs k room within =
    ap (set (paste to at (map some fs) k) (at + k)) (sym (get_or-map some fs k 0 (some 0) within))
    ∙ paste_more to at (map some fs) k (some 0) (omega arith) (omega (arith, length-map fs some))

pub loop-k-preserved : goal.loop-k-preserved
loop-k-preserved c =
    let l = c.loop-k in
    ap (λ t. set t (c.args.at + l.k) (Some (get_or c.args.functions.now l.k 0))) l.invariant
    ∙ one_more c.args.table.now c.args.at c.args.functions.now l.k c.requires c.loop-k-test.true
