-- One piece after another.
use Rattle.std.proofs.Common.{ℕ, ◌+◌, List, Option, Some, None, take, drop, ap, ◌∙◌, append_assoc}
use Rattle.std.proofs.Math.Seq.{take-add}
use Rattle.fa_outside.specs.Appended.{Appends}

-- after the first i bytes, n of those behind them: the first i + n
pub appends_more : (start before after : Option (List ℕ)) (bytes : List ℕ) (i n : ℕ) → Appends start before (take i bytes) → Appends before after (take n (drop i bytes)) → Appends start after (take (i + n) bytes)
appends_more None before after bytes i n first second = rw first at second
appends_more (Some w) before after bytes i n first second =
    let all = rw first at second in
    rw (take-add i n bytes) (all ∙ ap (λ (t : List ℕ). Some t) (append_assoc w (take i bytes) (take n (drop i bytes))))
