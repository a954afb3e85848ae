-- What a bench was told grows by a question and its reply, key by key.
use Rattle.std.proofs.Common.{◌≡◌, ℕ, ◌<◌, false, List, [], ◌∷◌, ◌++◌, sym, ap, ◌∙◌, subst, append_assoc}
use Rattle.std.proofs.lemmas.List.{append-nil}
use Rattle.std.proofs.lemmas.List.Elements.{filter_map-append}
use Rattle.std.specs.Prelude.{option_map}
use Rattle.call_service.specs.Asked.{by_call, told_as}
use Rattle.faaslet_meaning.specs.declared.grant.Channel.{Channel}
use Rattle.faaslet_meaning.specs.Channels.{Operation, Reply, Question, Transcript, entries, on_channel, told_by}
use Rattle.turn_cell.specs.declared.cell.Turns.{Turns}
use Rattle.turn_cell.specs.Cell.{numbers_of, pass_list, pass_number, start_of}
use Rattle.shared_region.specs.Shared.{Shared}
use Rattle.region_tier.specs.Holding.{has_lock}
use Rattle.region_tier.specs.Tiers.{HasPass, RegionPass}
use Rattle.region_tier.proofs.At.{same_at, same_in}
use Rattle.session_meaning.proofs.Goes.{told_more}
use Rattle.state_service.specs.Heard.{Heard}
use Rattle.state_service.specs.May.{Cells, Slots}
use Rattle.state_service.specs.Served.{Made}
use Rattle.state_service.proofs.Listens.{made_heard}
use Rattle.told_asks.specs.Leaves.{leaves_lock}
use Rattle.told_asks.proofs.LockTurns.{leaves_both, list_leaves}
use Rattle.host_worker.specs.Seats.{HeardAt}

-- ---- Locks.

-- by the list of a pass its maker has a lock exactly where what it was told leaves one
pub lock_told : (t : Turns Shared) (p : RegionPass) (told : List (Operation × Reply)) → Heard (start_of t).region (pass_number p) (pass_list p) told → has_lock (pass_number p) (pass_list p) ≡ leaves_lock false told
lock_told t p told h = list_leaves (start_of t).region (pass_number p) (pass_list p) h.history h.spells ∙ ap (leaves_lock false) (sym h.told_so)

-- behind what leaves none, what comes says it
pub lock_behind : (before after : List (Operation × Reply)) → leaves_lock false before ≡ false → leaves_lock false (before ++ after) ≡ leaves_lock false after
lock_behind before after e = leaves_both false before after ∙ ap (λ b. leaves_lock b after) e

-- ---- One question more.

pub told_next : (before : List (Operation × Reply)) (t : Transcript) (q : Question) (r : Reply) (ch : Channel) → (before ++ told_by t ch) ++ on_channel ch (entries q r) ≡ before ++ told_by (t ++ (q, r) ∷ []) ch
told_next before t q r ch = append_assoc before (told_by t ch) (on_channel ch (entries q r)) ∙ ap (λ l. before ++ l) (sym (told_more t q r ch))

pub heard_next : (cells : Cells) (old new : Slots) (key : ℕ) (made told : List (Operation × Reply)) → Made cells old new key made → HeardAt cells old key told → HeardAt cells new key (told ++ made)
heard_next cells old new key [] told m h t p at_cell at_new = subst (Heard (start_of t).region (pass_number p) (pass_list p)) (sym (append-nil told)) (h t p at_cell (sym m ∙ at_new))
heard_next cells old new key (x ∷ []) told m h t p at_cell at_new =
    let cell : m.cell ≡ t = same_at cells key m.cell t m.at_cell at_cell in
    let was = h t m.before at_cell m.at_before in
    let n = made_heard cells old new key (x ∷ []) told t m.before m at_cell m.at_before was in
    let same : n.0 ≡ p = same_in new key n.0 p n.1 at_new in
    let now = subst (λ k. Heard (start_of t).region k (pass_list n.0) (told ++ x ∷ [])) (sym n.2) n.3 in
    subst (λ (y : RegionPass). Heard (start_of t).region (pass_number y) (pass_list y) (told ++ x ∷ [])) same now
heard_next cells old new key (x ∷ y ∷ more) told m h t p at_cell at_new = absurd m

-- and the pass is still there
pub has_next : (cells : Cells) (old new : Slots) (key : ℕ) (made : List (Operation × Reply)) (P : Turns Shared → RegionPass → Type 0) → Made cells old new key made → HasPass cells old key P
    → ((t : Turns Shared) (p n : RegionPass) → pass_number n ≡ pass_number p → P t p → P t n) → HasPass cells new key P
has_next cells old new key [] P m h keeps = record { cell = h.cell; pass = h.pass; at_cell = h.at_cell; at_pass = m ∙ h.at_pass; sits = h.sits; low = h.low; so = h.so }
has_next cells old new key (x ∷ []) P m h keeps =
    let cell : h.cell ≡ m.cell = same_at cells key h.cell m.cell h.at_cell m.at_cell in
    let pass : h.pass ≡ m.before = same_in old key h.pass m.before h.at_pass m.at_before in
    let number : pass_number m.after ≡ pass_number h.pass = m.number ∙ ap pass_number (sym pass) in
    record {
      cell = m.cell;
      pass = m.after;
      at_cell = m.at_cell;
      at_pass = m.at_after;
      sits = m.sits;
      low = subst (λ (t : Turns Shared). pass_number m.after < numbers_of t) cell (subst (λ n. n < numbers_of h.cell) (sym number) h.low);
      so = subst (λ (t : Turns Shared). P t m.after) cell (keeps h.cell h.pass m.after number h.so);
    }
has_next cells old new key (x ∷ y ∷ more) P m h keeps = absurd m

-- on the table too
pub told_as_both : (call : ℕ) (before after : List (Operation × Reply)) → told_as call (before ++ after) ≡ told_as call before ++ told_as call after
told_as_both call before after = filter_map-append (λ (x : Operation × Reply). option_map (λ o. (o, x.1)) (by_call call x.0)) before after
