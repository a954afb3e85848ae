-- Each operation of a question on a region is of one of the halves that are known before its reply.
use Rattle.std.proofs.Common.{◌≡◌, ℕ, Bool, true, false, cond, List, [], ◌∷◌, refl, ap, ap₂, ◌∙◌}
use Rattle.std.proofs.lemmas.Bool.{eq-eqb}
use Rattle.std.specs.Prelude.{◌==◌, ◌&&◌, ◌||◌, IsTrue}
use Rattle.std.specs.List.{list_all}
use Rattle.faaslet_meaning.specs.declared.grant.Channel.{Channel}
use Rattle.faaslet_meaning.specs.declared.grant.Channel.TheVariants.{Local, Global, Table}
use Rattle.faaslet_meaning.specs.Channels.{RegionOperation, Operation, on_region, Reply, Question, ask, fills, pulls, pushes, entry, entries, same_channel}
use Rattle.faaslet_meaning.specs.Region.{Kind, reads, writes, always, kind, same_kind, is_half}

same_itself : (n : ℕ) → (n == n) ≡ true
same_itself n = eq-eqb n n refl

channel_itself : (ch : Channel) → same_channel ch ch ≡ true
channel_itself (Local key) = same_itself key
channel_itself (Global key) = same_itself key
channel_itself Table = refl

kind_itself : (k : Kind) → same_kind k k ≡ true
kind_itself reads = refl
kind_itself writes = refl
kind_itself always = refl

one_half : (ch : Channel) (op : RegionOperation) (r : Reply) → is_half (ask ch (on_region op)) (entry ch (on_region op) r) ≡ true
one_half ch op r = ap₂ (λ a b. (a && b) || false) (channel_itself ch) (kind_itself (kind op))

called : (ch : Channel) (op : Operation) (r : Reply) → ((s : Reply) → is_half (ask ch op) (entry ch op s) ≡ true) → IsTrue (list_all (is_half (ask ch op)) (entries (ask ch op) r))
called ch op Reply.want h = refl
called ch op Reply.done h = ap (λ b. b && true) (h Reply.done)
called ch op Reply.full h = ap (λ b. b && true) (h Reply.full)
called ch op Reply.chain_full h = ap (λ b. b && true) (h Reply.chain_full)
called ch op (Reply.present b) h = ap (λ b. b && true) (h (Reply.present b))
called ch op (Reply.bytes bs) h = ap (λ b. b && true) (h (Reply.bytes bs))
called ch op (Reply.number n) h = ap (λ b. b && true) (h (Reply.number n))
called ch op (Reply.child n) h = ap (λ b. b && true) (h (Reply.child n))
called ch op (Reply.finished o bs) h = ap (λ b. b && true) (h (Reply.finished o bs))

pub entries_are_halves : (q : Question) (r : Reply) → IsTrue (list_all (is_half q) (entries q r))
entries_are_halves (ask ch (on_region op)) r = called ch (on_region op) r (one_half ch op)
entries_are_halves (ask ch (Operation.submit f input)) r = called ch (Operation.submit f input) r (λ s. refl)
entries_are_halves (ask ch (Operation.look c)) r = called ch (Operation.look c) r (λ s. refl)
entries_are_halves (fills key n) (Reply.bytes bs) = rw (same_itself key) refl
entries_are_halves (pulls key off len) (Reply.bytes bs) = rw (same_itself key) refl
entries_are_halves (pushes key off len) (Reply.bytes bs) = rw (same_itself key) refl
entries_are_halves q r = refl
