-- A text is written piece by piece: a front of it is there, and the rest is left.
use Rattle.std.proofs.Common.{◌≡◌, ℕ, ◌+◌, ◌<◌, List, [], ◌∷◌, ◌++◌, Option, Some, None, Result, Ok, Err, length, take, refl, sym, ap, subst, ◌∙◌, append_assoc, append-nil, arith, length-append}
use Rattle.std.specs.Prelude.{IsErr, OnErr, codes, slice_get}
use Rattle.std.proofs.Math.Seq.{take-append-add}
use Rattle.std.proofs.lemmas.List.{take-append-le}
use Rattle.fa_outside.specs.Appended.{Appends, AppendsPart}
use Rattle.faaslet_meaning.specs.declared.call.CallRecord.{CallRecord}
use Rattle.faaslet_meaning.specs.Report.{hex, line}
use Rattle.session_meaning.specs.Plan.{Key, Plan, Request}
use Rattle.session_meaning.specs.SessionReport.{obstacle_text, path, request_line, state_line, state_text}
use Rattle.session_report.specs.declared.reported.Blocked.{Blocked}
use Rattle.session_report.specs.Told.{blocked_line, obstacle_of}
use Rattle.session_report.specs.Written.{Writes}

pub record Left (old now : Option (List ℕ)) (all rest : List ℕ) : Type 0 where
  pub front : List ℕ
  pub appends : Appends old now front
  pub splits : front ++ rest ≡ all

same : (old : Option (List ℕ)) → Appends old old []
same None = refl
same (Some w) = ap (λ t. Some t) (sym (append-nil _))

both : (old now new : Option (List ℕ)) (a b : List ℕ) → Appends old now a → Appends now new b → Appends old new (a ++ b)
both None now new a b first second = rw first at second
both (Some w) now new a b first second = let all = rw first at second in all ∙ ap (λ t. Some t) (append_assoc w a b)

pub nothing_yet : (old : Option (List ℕ)) (all : List ℕ) → Left old old all all
nothing_yet old all = record { front = []; appends = same old; splits = refl }

pub one_more : (old now new : Option (List ℕ)) (all rest piece left : List ℕ) → rest ≡ piece ++ left → Appends now new piece → Left old now all rest → Left old new all left
one_more old now new all rest piece left is adds l =
    record {
      front = l.front ++ piece;
      appends = both old now new l.front piece l.appends adds;
      splits = append_assoc l.front piece left ∙ ap (λ t. l.front ++ t) (sym is) ∙ l.splits;
    }

pub all_of_it : (old now : Option (List ℕ)) (all rest : List ℕ) → rest ≡ [] → Left old now all rest → Appends old now all
all_of_it old now all rest none l = subst (Appends old now) (sym (append-nil _) ∙ ap (λ t. l.front ++ t) (sym none) ∙ l.splits) l.appends

-- the front of a text that a front and some bytes of the next piece are
take_front : (a b c : List ℕ) (n : ℕ) → n < length b → take (length a + n) (a ++ (b ++ c)) ≡ a ++ take n b
take_front a b c n less = take-append-add a (b ++ c) n ∙ ap (λ t. a ++ t) (take-append-le n b c (omega (arith, less)))

pub stopped : (old now new : Option (List ℕ)) (all rest piece left : List ℕ) → rest ≡ piece ++ left → AppendsPart now new piece → Left old now all rest → AppendsPart old new all
stopped old now new all rest piece left is part l =
    let (n, less, adds) = part in
    let whole : l.front ++ (piece ++ left) ≡ all = ap (λ t. l.front ++ t) (sym is) ∙ l.splits in
    let within : length l.front + n < length (l.front ++ (piece ++ left)) = omega (arith, less, length-append l.front (piece ++ left), length-append piece left) in
    let front = both old now new l.front (take n piece) l.appends adds in
    subst (AppendsPart old new) whole (length l.front + n, within, subst (Appends old new) (sym (take_front l.front piece left n less)) front)

-- nothing of a piece was written
pub none_of_it : (now : Option (List ℕ)) (piece : List ℕ) → 0 < length piece → AppendsPart now now piece
none_of_it now piece some = (0, some, same now)

-- ---- No line is empty.

line_some : (text : List ℕ) → 0 < length (line text)
line_some text = omega (arith, length-append text (10 ∷ []))

pub request_some : (records : List CallRecord) (n : ℕ) (r : Request) → 0 < length (request_line records n r)
request_some records n r = line_some (r.label ++ codes " " ++ elim (slice_get records n) [ None ↦ codes "stuck" | Some c ↦ state_text c.state ])

pub blocked_some : (plan : Plan) (records : List CallRecord) (b : Blocked) → 0 < length (blocked_line plan records b)
blocked_some plan records b = line_some (codes "blocked " ++ path plan records b.call ++ codes " " ++ obstacle_text plan records (obstacle_of b.by))

pub value_some : (k : Key) (value : List ℕ) → 0 < length (state_line k value)
value_some k value = line_some (codes "state " ++ k.name ++ codes " " ++ hex value)

-- ---- What a result says of it.

pub in_part : {T E : Type 0} (r : Result T E) (old new : Option (List ℕ)) (text : List ℕ) → IsErr r → AppendsPart old new text → Writes r old new text
in_part (Ok x) old new text is part = absurd cc
in_part (Err e) old new text is part = part

pub last_part : {T E : Type 0} (r : Result T E) (old now new : Option (List ℕ)) (all rest : List ℕ) → Writes r now new rest → Left old now all rest → OnErr r (AppendsPart old new all)
last_part (Ok x) old now new all rest writes l = tt
last_part (Err e) old now new all rest writes l = stopped old now new all rest rest [] (sym (append-nil _)) writes l

pub on_error : {T E : Type 0} (r : Result T E) (P : Type 0) → P → OnErr r P
on_error (Ok x) P p = tt
on_error (Err e) P p = p
