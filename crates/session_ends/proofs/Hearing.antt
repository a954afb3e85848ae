-- What a bench heard by the list of its own pass is what it was told by the history of the whole list.
use Rattle.std.proofs.Common.{◌≡◌, ℕ, ◌<◌, true, false, not, List, [], ◌∷◌, None, refl, sym, ap, ◌∙◌, map, filter_map, arith}
use Rattle.std.specs.Prelude.{◌==◌, ◌&&◌}
use Rattle.std.proofs.lemmas.Bool.{ne_eqb}
use Rattle.faaslet_meaning.specs.Channels.{RegionOperation, Operation, on_region, Reply}
use Rattle.faaslet_meaning.specs.History.{History, told_to, region_rules, table_rules}
use Rattle.faaslet_meaning.specs.Region.{global_value}
use Rattle.faaslet_meaning.specs.Spelling.{spelled, Spells}
use Rattle.faaslet_meaning.specs.Table.{TableOperation}
use Rattle.faaslet_meaning.proofs.Histories.{told_both}
use Rattle.session_meaning.specs.Answered.{Answered, of_region, of_table, asked_on, asked_on_table}
use Rattle.session_meaning.specs.Own.{benches, with_last_read}
use Rattle.session_meaning.specs.Plan.{Key, Plan}
use Rattle.shared_region.specs.Entries.{MakesShared}
use Rattle.shared_region.specs.Shared.{Shared}
use Rattle.turn_cell.specs.declared.view.Entry.{Entry}
use Rattle.turn_cell.specs.History.{Stands}
use Rattle.call_table.specs.Makers.{MakesTable}
use Rattle.call_table.specs.Session.{SessionTable}
use Rattle.call_service.specs.Heard as call
use Rattle.call_service.proofs.Listens as calls
use Rattle.state_service.specs.Heard as state
use Rattle.state_service.proofs.Listens as states
use Rattle.bench_parts.specs.AnsweredBy.{answered}
use Rattle.session_ends.specs.Bench.{HeardOn, HeardOnTable}
use Rattle.session_ends.specs.Opened.{first_session}
use Rattle.session_ends.specs.Session.{pairs}

abbrev asked : RegionOperation × Reply → Operation × Reply
asked x = (on_region x.0, x.1)

of_keys : (xs : List (RegionOperation × Reply)) → map (answered None) (map asked xs) ≡ map of_region xs
of_keys [] = refl
of_keys (x ∷ xs) = ap (λ ys. of_region x ∷ ys) (of_keys xs)

pub heard_region : (start end : Shared) (bench : ℕ) (whole : List Entry) (heard : List Answered) (h : History RegionOperation) → Stands MakesShared start whole end → HeardOn start.region bench whole heard → Spells spelled (pairs whole) h → asked_on bench start.region h ≡ heard
heard_region start end bench whole heard h st x spells =
    let told = told_to region_rules bench start.region h in
    let later : state.Heard start.region bench whole x.told = states.heard_stays start end bench x.own whole x.told x.others st x.told_so in
    let here : state.Heard start.region bench whole (map asked told) = record { history = h; spells = spells; told_so = refl } in
    let same = states.heard_once start bench whole (map asked told) x.told here later in
    sym (of_keys told) ∙ ap (map (answered None)) same ∙ sym x.heard_so

-- the session's read at the end tells the benches nothing
pub heard_value : (plan : Plan) (k : Key) (bench : ℕ) (h : History RegionOperation) → bench < benches plan → asked_on bench (global_value k.size k.init) (with_last_read plan k h) ≡ asked_on bench (global_value k.size k.init) h
heard_value plan k bench h low =
    let apart : (benches plan == bench) ≡ false = ne_eqb (benches plan) bench (λ e. let no : ⊥ = omega (arith, e, low) in no) in
    ap (map of_region) (told_both region_rules bench (global_value k.size k.init) h ((benches plan, RegionOperation.read 0 k.size) ∷ []) (ap (λ b. not b && true) apart))

pub heard_table : (plan : Plan) (end : SessionTable) (bench : ℕ) (whole : List Entry) (heard : List Answered) (h : History TableOperation) → Stands MakesTable (first_session plan) whole end → HeardOnTable plan bench whole heard → call.SpellsHistory whole h → asked_on_table bench (first_session plan).table h ≡ heard
heard_table plan end bench whole heard h st x spells =
    let start = first_session plan in
    let told = told_to table_rules bench start.table h in
    let later : call.Heard start.table bench whole x.told = calls.heard_stays start end bench x.own whole x.told x.others st x.told_so in
    let here : call.Heard start.table bench whole told = record { history = h; spells = spells; told_so = refl } in
    ap (filter_map of_table) (calls.heard_once start.table bench whole told x.told here later) ∙ sym x.heard_so
