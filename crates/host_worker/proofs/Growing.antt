-- The lists of a bench grow by what is served.
use Rattle.std.proofs.Common.{◌≡◌, ℕ, List, [], ◌∷◌, ◌++◌, sym, ap, ◌∙◌, subst, append_assoc}
use Rattle.std.proofs.lemmas.List.{append-nil}
use mathlib.Core.List.{IsPrefix}
use Rattle.faaslet_meaning.specs.Channels.{Operation, Reply}
use Rattle.region_tier.specs.Tiers.{RegionPass}
use Rattle.region_tier.proofs.At.{same_in}
use Rattle.state_service.specs.May.{Cells, Slots}
use Rattle.state_service.specs.Served.{Made}
use Rattle.turn_cell.specs.Cell.{pass_list}
use Rattle.host_worker.specs.Grew.{Grew, Longer}
use Rattle.host_worker.specs.declared.bench.Bench.{Bench}

prefix_same : {A : Type 0} (xs : List A) → IsPrefix xs xs
prefix_same xs = ([], append-nil xs)

prefix_then : {A : Type 0} (xs ys zs : List A) → IsPrefix xs ys → IsPrefix ys zs → IsPrefix xs zs
prefix_then xs ys zs p q = (p.0 ++ q.0, sym (append_assoc xs p.0 q.0) ∙ (ap (λ l. l ++ q.0) p.1 ∙ q.1))

pub made_longer : (cells : Cells) (old new : Slots) (key : ℕ) (made : List (Operation × Reply)) → Made cells old new key made → Longer old new key
made_longer cells old new key [] m p at = (p, m ∙ at, prefix_same (pass_list p))
made_longer cells old new key (x ∷ []) m p at =
    let before : m.before ≡ p = same_in old key m.before p m.at_before at in
    let a = m.answered in
    let grown = prefix_then (pass_list m.before) a.before (pass_list m.after) (a.others.0, a.others.1) (_, sym a.entered) in
    (m.after, m.at_after, subst (λ (y : RegionPass). IsPrefix (pass_list y) (pass_list m.after)) before grown)
made_longer cells old new key (x ∷ y ∷ more) m p at = absurd m

longer_then : (a b c : Slots) (key : ℕ) → Longer a b key → Longer b c key → Longer a c key
longer_then a b c key x y p at = let q = x p at in let r = y q.0 q.1 in (r.0, r.1, prefix_then (pass_list p) (pass_list q.0) (pass_list r.0) q.2 r.2)

pub longer_same : (a : Slots) (key : ℕ) → Longer a a key
longer_same a key p at = (p, at, prefix_same (pass_list p))

pub grew_none : (b n : Bench) → n.passes ≡ b.passes → Grew b n
grew_none b n e = subst (λ ps. Grew b (record { number = n.number; call = n.call; callees = n.callees; faaslet = n.faaslet; passes = ps })) (sym e)
    (record { locals = λ key. longer_same _ key; globals = λ key. longer_same _ key; table = prefix_same (pass_list b.passes.table) })

pub grew_then : (a b c : Bench) → Grew a b → Grew b c → Grew a c
grew_then a b c x y = record {
  locals = λ key. longer_then _ _ _ key (x.locals key) (y.locals key);
  globals = λ key. longer_then _ _ _ key (x.globals key) (y.globals key);
  table = prefix_then _ _ _ x.table y.table;
}
