-- The content has one page more, kept behind the others or not at all.
use Rattle.std.proofs.Common.{◌≡◌, ℕ, List, [], ◌++◌, ◌∷◌, ◌+◌, ◌*◌, ◌/◌, ◌<◌, ◌≤◌, Some, None, length, replicate, ap, arith, sym, ◌∙◌}
use Rattle.std.proofs.lemmas.List.{append-nil, length-append}
use Rattle.faaslet_meaning.specs.Memory.{Content, page_limit}
use Rattle.private_pages.specs.declared.image.Image.TheInside.{Inside}
use Rattle.private_pages.proofs.Kept.{pushed_is, pushed_are, kept_last}
use Rattle.private_pages.proofs.image.Image.push.Goals as goal
use Rattle.private_pages.proofs.image.Image.push.Goals.{then-is_zero, else-is_zero+in_ok-extend_from_slice}

more : Content → List ℕ → Content
more v content = record { pages = v.pages + 1; bytes = v.bytes ++ content }

pub returns : goal.returns
unfolding more
returns c =
    let content = c.args.content.now in
    let s = c.self.inside in
    elim c.if-is_zero.branch [
      | then-is_zero w ↦ (let z : content ≡ replicate 65536 0 = c.is_zero.ensures.0 w.if-is_zero.true ∙ ap (λ (n : ℕ). replicate n 0) c.requires.whole in
          let f = ap (λ (x : Inside). x.places.items) w.self-inside-is in
          let a : c.push.new.self.items ≡ s.places.items ++ None ∷ [] = cc (c.in-Ok.ensures.items, c.in_ok-reserve.ensures.items, f, w.place-is) in
          let b : c.if-is_zero.self-inside.kept.items ≡ s.kept.items ++ [] = ap (λ (x : Inside). x.kept.items) w.self-inside-is ∙ sym (append-nil s.kept.items) in
          record { pushed = pushed_is s (record { places = c.push.new.self; kept = c.if-is_zero.self-inside.kept }) None [] content c.self.invariant a b (sym z) ∙ ap (λ (v : Content). more v content) c.self.view_is })
      | else-is_zero+in_ok-extend_from_slice w ↦ (let f = ap (λ (x : Inside). x.places.items) w.self-inside-is in
          let l : w.len.result ≡ length s.kept.items = omega (arith, w.len.ensures, s.kept.ok.0) in
          let p : c.if-is_zero.place ≡ Some (length s.kept.items / 65536) = w.place-is ∙ ap (λ (n : ℕ). Some (n / 65536)) l in
          let a : c.push.new.self.items ≡ s.places.items ++ Some (length s.kept.items / 65536) ∷ [] = cc (c.in-Ok.ensures.items, c.in_ok-reserve.ensures.items, f, p) in
          let b : c.if-is_zero.self-inside.kept.items ≡ s.kept.items ++ content = ap (λ (x : Inside). x.kept.items) w.self-inside-is ∙ w.in_ok-extend_from_slice.ensures.items in
          record { pushed = pushed_is s (record { places = c.push.new.self; kept = c.if-is_zero.self-inside.kept }) (Some (length s.kept.items / 65536)) content content c.self.invariant a b (kept_last s.kept.items content c.self.invariant.whole c.requires.whole) ∙ ap (λ (v : Content). more v content) c.self.view_is })
    ]

pub invariant_of-self-2 : goal.invariant_of-self-2
invariant_of-self-2 c =
    let content = c.args.content.now in
    let s = c.self.inside in
    let few : length s.places.items < page_limit = omega (arith, c.requires.few, ap (λ (v : Content). v.pages) c.self.view_is) in
    let t : Inside = record { places = c.push.new.self; kept = c.if-is_zero.self-inside.kept } in
    elim c.if-is_zero.branch [
      | then-is_zero w ↦ (let f = ap (λ (x : Inside). x.places.items) w.self-inside-is in
          let a : c.push.new.self.items ≡ s.places.items ++ None ∷ [] = cc (c.in-Ok.ensures.items, c.in_ok-reserve.ensures.items, f, w.place-is) in
          let b : c.if-is_zero.self-inside.kept.items ≡ s.kept.items ++ [] = ap (λ (x : Inside). x.kept.items) w.self-inside-is ∙ sym (append-nil s.kept.items) in
          pushed_are s t None [] c.self.invariant a b few (omega arith) (omega arith) tt tt)
      | else-is_zero+in_ok-extend_from_slice w ↦ (let f = ap (λ (x : Inside). x.places.items) w.self-inside-is in
          let l : w.len.result ≡ length s.kept.items = omega (arith, w.len.ensures, s.kept.ok.0) in
          let p : c.if-is_zero.place ≡ Some (length s.kept.items / 65536) = w.place-is ∙ ap (λ (n : ℕ). Some (n / 65536)) l in
          let a : c.push.new.self.items ≡ s.places.items ++ Some (length s.kept.items / 65536) ∷ [] = cc (c.in-Ok.ensures.items, c.in_ok-reserve.ensures.items, f, p) in
          let b : c.if-is_zero.self-inside.kept.items ≡ s.kept.items ++ content = ap (λ (x : Inside). x.kept.items) w.self-inside-is ∙ w.in_ok-extend_from_slice.ensures.items in
          let i : length s.kept.items / 65536 * 65536 + 65536 ≤ length (s.kept.items ++ content) = omega (arith, length-append s.kept.items content, c.requires.whole, c.self.invariant.whole) in
          let not : content ≡ replicate 65536 0 → ⊥ = λ z. (let y = c.is_zero.ensures.1 (z ∙ ap (λ (n : ℕ). replicate n 0) (sym c.requires.whole)) in let x = w.if-is_zero.false in cc) in
          pushed_are s t (Some (length s.kept.items / 65536)) content c.self.invariant a b few (omega (arith, c.requires.whole)) (omega (arith, c.requires.whole)) i (λ z. not (sym (kept_last s.kept.items content c.self.invariant.whole c.requires.whole) ∙ z)))
    ]
