-- What kept calls ask and others ask, and what kept calls are answered in a cut.
use Rattle.std.proofs.Common.{◌≡◌, ℕ, Bool, true, false, cond, not, List, [], ◌∷◌, Some, None, refl, sym, ap, ◌∙◌, map, length, slice_get, option_map}
use Rattle.std.specs.Prelude.{◌&&◌, fold}
use Rattle.std.specs.List.{list_all}
use Rattle.std.proofs.lemmas.Bool.{and_parts}
use Rattle.faaslet_meaning.specs.declared.call.CallRecord.{CallRecord}
use Rattle.faaslet_meaning.specs.declared.grant.Channel.{Channel}
use Rattle.faaslet_meaning.specs.declared.grant.Channel.TheVariants.{Local, Global, Table as OnTable}
use Rattle.faaslet_meaning.specs.declared.grant.Grant.{Grant}
use Rattle.faaslet_meaning.specs.Channels.{RegionOperation, Operation, on_region, is_on_region, Reply, Question, ask, fills, pulls, pushes, Entry, entry, entries}
use Rattle.faaslet_meaning.specs.CallState.{State}
use Rattle.faaslet_meaning.specs.Region as region
use Rattle.faaslet_meaning.specs.Table as table
use Rattle.session_meaning.specs.OpenCall.{Open, asking}
use Rattle.session_meaning.specs.World.{World, entered}
use Rattle.session_meaning.specs.Events.{local_at, global_at, reply_on, answer, entries_now, open_at}
use Rattle.session_meaning.specs.Cut.{Part, kept, rank, cut_channel, cut_operation, cut_question, cut_asked, cut_table, cut, blank}
use Rattle.session_meaning.proofs.Regions.{reply_cut}
use Rattle.session_meaning.proofs.Tables.{AllFit, submit_cut, submit_reply_cut, look_reply_cut, blank_cut}
use Rattle.session_meaning.proofs.WorldParts.{Held, local_cut, global_cut, local_held, global_held, local_at_cut, global_at_cut, blank_cut_world, table_cut}

-- ---- What kept calls ask, and what others ask.

-- a function that is kept
abbrev pub keeps_operation : Part → Operation → Bool
keeps_operation part (Operation.submit f input) = part.functions f
keeps_operation part op = true

-- a region operation on a region
abbrev pub keeps_ask : Part → Channel → Operation → Bool
keeps_ask part (Local key) op = part.keys key && is_on_region op
keeps_ask part (Global key) op = part.keys key && is_on_region op
keeps_ask part OnTable op = keeps_operation part op

abbrev pub keeps_question : Part → Question → Bool
keeps_question part (ask ch op) = keeps_ask part ch op
keeps_question part (fills key size) = part.keys key
keeps_question part (pulls key off len) = part.keys key
keeps_question part (pushes key off len) = part.keys key

abbrev pub leaves_channel : Part → Channel → Bool
leaves_channel part (Local key) = not (part.keys key)
leaves_channel part (Global key) = not (part.keys key)
leaves_channel part OnTable = true

abbrev pub leaves_operation : Part → Operation → Bool
leaves_operation part (Operation.submit f input) = not (part.functions f)
leaves_operation part op = true

abbrev pub leaves_question : Part → Question → Bool
leaves_question part (ask ch op) = leaves_channel part ch && leaves_operation part op
leaves_question part (fills key size) = not (part.keys key)
leaves_question part (pulls key off len) = not (part.keys key)
leaves_question part (pushes key off len) = not (part.keys key)

-- by what it was granted, a kept call asks of kept keys and functions alone, and any other of others alone
abbrev pub AsksOwn : Part → Bool → Question → Type 0
AsksOwn part true q = keeps_question part q ≡ true
AsksOwn part false q = leaves_question part q ≡ true

abbrev pub GrantsOwn : Part → Bool → List Grant → Type 0
GrantsOwn part true gs = list_all (λ g. part.keys g.key) gs ≡ true
GrantsOwn part false gs = Unit {0}

pub record Own (part : Part) (is : Bool) (o : Open) : Type 0 where
  pub grants : GrantsOwn part is o.invocation.program.grants
  pub asks : (s : State) (q : Question) → asking o.machine ≡ Some (s, q) → AsksOwn part is q

-- What one step needs of a world: the records fit, there is a place for each, holders on kept keys are kept, and each open call
-- asks its own.
pub record Apart (part : Part) (w : World) : Type 0 where
  pub fit : AllFit part w.table.records
  pub sizes : length w.calls ≡ length w.table.records
  pub held : Held part w
  pub own : (call : ℕ) (o : Open) → open_at w call ≡ Some o → Own part (part.calls call) o

-- ---- Replies.

region_reply_not_want : (s : region.Region) (m : ℕ) (op : RegionOperation) (ch : Channel) → entries (ask ch (on_region op)) (region.reply s m op) ≡ entry ch (on_region op) (region.reply s m op) ∷ []
region_reply_not_want s m RegionOperation.probe ch = refl
region_reply_not_want s m (RegionOperation.append bytes) ch = by (region.has_room s bytes)
  where
    by : (b : Bool) → entries (ask ch (on_region (RegionOperation.append bytes))) (cond b (Reply.number s.used) Reply.full) ≡ entry ch (on_region (RegionOperation.append bytes)) (cond b (Reply.number s.used) Reply.full) ∷ []
    by true = refl
    by false = refl
region_reply_not_want s m op ch = refl

entries_cut : (part : Part) (q : Question) (r : Reply) → entries (cut_question part q) r ≡ map (cut_asked part) (entries q r)
entries_cut part q Reply.want = refl
entries_cut part (ask ch op) Reply.done = refl
entries_cut part (ask ch op) Reply.full = refl
entries_cut part (ask ch op) Reply.chain_full = refl
entries_cut part (ask ch op) (Reply.present b) = refl
entries_cut part (ask ch op) (Reply.bytes bs) = refl
entries_cut part (ask ch op) (Reply.number n) = refl
entries_cut part (ask ch op) (Reply.child n) = refl
entries_cut part (ask ch op) (Reply.finished o bs) = refl
entries_cut part (fills key n) (Reply.bytes bs) = refl
entries_cut part (pulls key off len) (Reply.bytes bs) = refl
entries_cut part (pushes key off len) (Reply.bytes bs) = refl
entries_cut part q r = refl

table_reply_cut : (part : Part) (w : World) (call host : ℕ) (op : Operation) → AllFit part w.table.records → part.calls call ≡ true → keeps_operation part op ≡ true → reply_on (cut part w) (rank part.calls call) host OnTable (cut_operation part.functions op) ≡ reply_on w call host OnTable op
table_reply_cut part w call host (Operation.submit f input) fit i k = submit_reply_cut part w.table call (rank part.calls call) call f input fit i k
table_reply_cut part w call host (Operation.look c) fit i k = look_reply_cut part w.table call (rank part.calls call) call c fit i
table_reply_cut part w call host op fit i k = refl

reply_on_cut : (part : Part) (w : World) (call host : ℕ) (ch : Channel) (op : Operation) → AllFit part w.table.records → part.calls call ≡ true → keeps_ask part ch op ≡ true → reply_on (cut part w) (rank part.calls call) host (cut_channel part.keys ch) (cut_operation part.functions op) ≡ reply_on w call host ch op
reply_on_cut part w call host (Local key) (on_region op) fit i k =
    let h = and_parts (part.keys key) true k in
    ap (λ s. region.reply s (rank part.calls call) op) (local_at_cut part w host key h.0) ∙ reply_cut part.calls (local_at w host key) call op
reply_on_cut part w call host (Global key) (on_region op) fit i k =
    let h = and_parts (part.keys key) true k in
    ap (λ s. region.reply s (rank part.calls call) op) (global_at_cut part w key h.0) ∙ reply_cut part.calls (global_at w key) call op
reply_on_cut part w call host (Local key) (Operation.submit f input) fit i k = refl
reply_on_cut part w call host (Local key) (Operation.look c) fit i k = refl
reply_on_cut part w call host (Global key) (Operation.submit f input) fit i k = refl
reply_on_cut part w call host (Global key) (Operation.look c) fit i k = refl
reply_on_cut part w call host OnTable op fit i k = table_reply_cut part w call host op fit i k

both : (b : Bool) → b ≡ true → (b && true) ≡ true
both b h = ap (λ c. c && true) h

pub answer_cut : (part : Part) (w : World) (call host : ℕ) (q : Question) → AllFit part w.table.records → part.calls call ≡ true → keeps_question part q ≡ true → answer (cut part w) (rank part.calls call) host (cut_question part q) ≡ answer w call host q
answer_cut part w call host (ask ch op) fit i k = reply_on_cut part w call host ch op fit i k
answer_cut part w call host (fills key size) fit i k = reply_on_cut part w call host (Global key) (on_region (RegionOperation.send 0 size)) fit i (both (part.keys key) k)
answer_cut part w call host (pulls key off len) fit i k = reply_on_cut part w call host (Global key) (on_region (RegionOperation.send off len)) fit i (both (part.keys key) k)
answer_cut part w call host (pushes key off len) fit i k = reply_on_cut part w call host (Local key) (on_region (RegionOperation.send off len)) fit i (both (part.keys key) k)

pub entries_now_cut : (part : Part) (w : World) (call host : ℕ) (q : Question) → AllFit part w.table.records → part.calls call ≡ true → keeps_question part q ≡ true → entries_now (cut part w) (rank part.calls call) host (cut_question part q) ≡ map (cut_asked part) (entries_now w call host q)
entries_now_cut part w call host q fit i k = ap (entries (cut_question part q)) (answer_cut part w call host q fit i k) ∙ entries_cut part q (answer w call host q)

-- ---- Entries.

-- entries on regions of kept keys
abbrev pub keeps_region : Part → Entry → Bool
keeps_region part e = elim e.channel [ Local key ↦ part.keys key && is_on_region e.operation | Global key ↦ part.keys key && is_on_region e.operation | OnTable ↦ false ]

entered_at : (part : Part) (w : World) (call host : ℕ) (ch : Channel) (op : Operation) (r : Reply) → part.calls call ≡ true → Held part w → keeps_region part (entry ch op r) ≡ true → cut part (entered call host w (entry ch op r)) ≡ entered (rank part.calls call) host (cut part w) (cut_asked part (entry ch op r))
entered_at part w call host (Local key) (on_region op) r i h k = local_cut part w host key call op i (and_parts (part.keys key) true k).0 h
entered_at part w call host (Global key) (on_region op) r i h k = global_cut part w key call op i (and_parts (part.keys key) true k).0 h
entered_at part w call host (Local key) (Operation.submit f input) r i h k = refl
entered_at part w call host (Local key) (Operation.look c) r i h k = refl
entered_at part w call host (Global key) (Operation.submit f input) r i h k = refl
entered_at part w call host (Global key) (Operation.look c) r i h k = refl
entered_at part w call host OnTable op r i h k = let no : ⊥ = cc in absurd no

entered_held : (part : Part) (w : World) (call host : ℕ) (ch : Channel) (op : Operation) (r : Reply) → part.calls call ≡ true → Held part w → keeps_region part (entry ch op r) ≡ true → Held part (entered call host w (entry ch op r))
entered_held part w call host (Local key) (on_region op) r i h k = local_held part w host key call op i h
entered_held part w call host (Global key) (on_region op) r i h k = global_held part w key call op i h
entered_held part w call host (Local key) op r i h k = h
entered_held part w call host (Global key) op r i h k = h
entered_held part w call host OnTable op r i h k = let no : ⊥ = cc in absurd no

pub regions_entered : (part : Part) (w : World) (call host : ℕ) (es : List Entry) → part.calls call ≡ true → Held part w → list_all (keeps_region part) es ≡ true → cut part (fold (entered call host) w es) ≡ fold (entered (rank part.calls call) host) (cut part w) (map (cut_asked part) es)
regions_entered part w call host [] i h k = refl
regions_entered part w call host (e ∷ es) i h k =
    let g = and_parts (keeps_region part e) (list_all (keeps_region part) es) k in
    regions_entered part (entered call host w e) call host es i (entered_held part w call host e.channel e.operation e.reply i h g.0) g.1
    ∙ ap (λ v. fold (entered (rank part.calls call) host) v (map (cut_asked part) es)) (entered_at part w call host e.channel e.operation e.reply i h g.0)

-- an entry on the table
pub table_entered : (part : Part) (w : World) (call host : ℕ) (op : Operation) (r : Reply) → AllFit part w.table.records → AllFit part (entered call host w (entry OnTable op r)).table.records → (p : CallRecord) → slice_get w.table.records call ≡ Some p → part.calls call ≡ true → keeps_operation part op ≡ true → cut part (entered call host w (entry OnTable op r)) ≡ blank (entered (rank part.calls call) host (cut part w) (cut_asked part (entry OnTable op r)))
table_entered part w call host (Operation.submit f input) r fit fit' p e i k =
    table_cut part w call (table.submit call f input) (table.submit (rank part.calls call) (rank part.functions f) input) (submit_cut part w.table call (rank part.calls call) call p f input e fit fit' i k) (ap (λ b. option_map (λ o. (rank part.calls call, o)) (cond b (Some (table.submit (rank part.calls call) (rank part.functions f) input)) None)) i)
table_entered part w call host (Operation.look c) r fit fit' p e i k =
    table_cut part w call (table.look call c) (table.look (rank part.calls call) c) (ap (λ rs. record (cut_table part w.table) { records = rs }) (sym (blank_cut part (kept part.calls w.table.records)))) (ap (λ b. option_map (λ o. (rank part.calls call, o)) (cond b (Some (table.look (rank part.calls call) c)) None)) i)
table_entered part w call host op r fit fit' p e i k = sym (blank_cut_world part w)
