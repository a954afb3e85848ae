-- Serving only adds to a maker's list.
use Rattle.std.proofs.Common.{◌≡◌, ℕ, List, [], ◌∷◌, ◌++◌, sym, ap, ◌∙◌, append_assoc}
use Rattle.faaslet_meaning.specs.declared.ask.Ask.{Ask}
use Rattle.faaslet_meaning.specs.declared.ask.Ask.TheVariants as an_ask
use Rattle.faaslet_meaning.specs.declared.grant.Channel.TheVariants.{Table}
use Rattle.faaslet_meaning.specs.Channels.{Reply, entries, on_channel}
use Rattle.faaslet_meaning.specs.Spelling.{spelled_on_table}
use Rattle.faaslet_meaning.specs.Table.{TableOperation}
use Rattle.turn_cell.specs.declared.view.Entry.{Entry}
use Rattle.turn_cell.specs.History.{entry}
use Rattle.call_table.specs.Session.{SessionTable}
use Rattle.call_service.specs.Asked.{told_as}
use Rattle.call_service.specs.Served.{Made, Serves}
use Rattle.call_service.specs.declared.service.Service.{Service}
use Rattle.call_service.specs.declared.service.Service.TheVariants as service

made_adds : (start : SessionTable) (maker call : ℕ) (old new : List Entry) (made : List (TableOperation × Reply)) → Made start maker call old new made → (more : List Entry) × (old ++ more ≡ new)
made_adds start maker call old new [] m = (m.1.others.0, m.1.others.1)
made_adds start maker call old new (x ∷ []) m =
    let last : List Entry = entry maker (spelled_on_table x.0) ∷ [] in
    (m.turn.others.0 ++ last, sym (append_assoc old m.turn.others.0 last) ∙ (ap (λ l. l ++ last) m.turn.others.1 ∙ sym m.entered))
made_adds start maker call old new (x ∷ y ∷ more) m = absurd m

pub serving_adds : (callees : List ℕ) (start : SessionTable) (maker call : ℕ) (asked : Ask) (old new : List Entry) (came : Service) (scratch told : List ℕ) → Serves callees start maker call asked old new came scratch told → (more : List Entry) × (old ++ more ≡ new)
serving_adds callees start maker call asked old new (service.Replied code) scratch told s = made_adds start maker call old new (told_as call (on_channel Table (entries s.question s.answer))) s.made
serving_adds callees start maker call (an_ask.Look child) old new (service.Awaits n) scratch told s = (s.0.turn.others.0, s.0.turn.others.1)
serving_adds callees start maker call (an_ask.Submit f len) old new (service.Awaits n) scratch told s = absurd s
serving_adds callees start maker call (an_ask.Region channel o) old new (service.Awaits n) scratch told s = absurd s
serving_adds callees start maker call (an_ask.Move key kind) old new (service.Awaits n) scratch told s = absurd s
