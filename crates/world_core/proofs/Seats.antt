-- An open call that was found by its number, and why its question may not stand.
use Rattle.std.proofs.Common.{◌≡◌, ℕ, ◌<◌, Option, Some, None, sym, ap, ap₂, ◌∙◌, subst, length, slice_get, slice_index_or}
use Rattle.std.specs.Prelude.{IfSome, ◌==◌, option_map, position}
use Rattle.std.proofs.lemmas.Option.{get_or_from_slice_get, same_Some}
use Rattle.faaslet_meaning.specs.declared.ask.Ask.{Ask}
use Rattle.session_meaning.specs.declared.event.Event.TheVariants.{Ask as AskEvent}
use Rattle.session_meaning.specs.declared.event.Why.{Why}
use Rattle.session_meaning.specs.declared.event.Why.TheVariants.{HasEnded, NotOpen}
use Rattle.session_meaning.specs.Events.{Obstacle, obstacle, why, why_of, world}
use Rattle.session_meaning.specs.OpenCall.{asking}
use Rattle.session_meaning.specs.SessionReport as report
use Rattle.session_meaning.proofs.CallsRan.{all_get}
use Rattle.world_core.specs.Asking.{Asker}
use Rattle.world_core.specs.Living.{Lives, SameWorld, world_of}
use Rattle.world_core.specs.Played.{Plays, question_told}
use Rattle.world_core.specs.declared.player.Player.{Player}
use Rattle.world_core.specs.declared.running.Running.{Running}
use Rattle.world_core.proofs.Askers.{asker_of}
use Rattle.world_core.proofs.KeptBack.{asks_at, asks_none, obstacle_there}
use Rattle.world_core.proofs.Reasons.{ask_is}
use Rattle.world_core.proofs.Standing.{ask_reason}
use Rattle.world_core.proofs.Whys.{found, says_not_open}

pub world_same : (c new : Running) → SameWorld c new → world_of new ≡ world_of c
world_same c new same = ap₂ (λ p es. world p es) (ap (λ p. p.now) same.protos) same.events

abbrev FoundAt : Running → ℕ → ℕ → Type 0
FoundAt c call seat = position (λ (p : Player). p.call == call) c.players.items ≡ Some seat

module _ (c : Running) (lives : Lives c) where
  pub plays_at : (seat : ℕ) (p : Player) → slice_get c.players.items seat ≡ Some p → Plays (world_of c) p
  plays_at seat p here = all_get (Plays (world_of c)) c.players.items seat p lives.settling.keeps.players here

  call_there : (call : ℕ) → call < length c.table.table.records → call < length (world_of c).table.records
  call_there call l = subst (λ t. call < length t.records) lives.settling.keeps.table l

  pub not_open : (call : ℕ) → call < length c.table.table.records → position (λ (p : Player). p.call == call) c.players.items ≡ None → why (world_of c) (AskEvent call) ≡ Some NotOpen
  not_open call l e = (says_not_open (world_of c) (λ (p : Player). p.call) c.players.items call (lives.settling.keeps.numbers ∙ lives.settling.keeps.floor.open_so) (call_there call l) e).0

  module _ (call seat : ℕ) (at : FoundAt c call seat) where
    -- what is read there
    pub player_at : (p : Player) → p ≡ slice_index_or c.players.items seat p → slice_get c.players.items seat ≡ Some p
    player_at p is = let f = found (λ (p : Player). p.call) call seat c.players.items at in f.here ∙ ap (λ x. Some x) (sym (is ∙ get_or_from_slice_get c.players.items seat f.item p f.here))

    pub call_at : (p : Player) → slice_get c.players.items seat ≡ Some p → p.call ≡ call
    call_at p here = let f = found (λ (p : Player). p.call) call seat c.players.items at in ap (λ (p : Player). p.call) (same_Some _ _ (sym here ∙ f.here)) ∙ f.is

    pub has_ended : (p : Player) → slice_get c.players.items seat ≡ Some p → call < length c.table.table.records → question_told p.place ≡ None → why (world_of c) (AskEvent call) ≡ Some HasEnded
    has_ended p here l none = subst (λ n. why (world_of c) (AskEvent n) ≡ Some HasEnded) (call_at p here) reason
      where
        h : Plays (world_of c) p
        h = plays_at seat p here

        reason : why (world_of c) (AskEvent p.call) ≡ Some HasEnded
        reason =
            let w = world_of c in
            let m = asks_none h.o p.faaslet p.place none h.stands in
            ask_is w p.call h.o (call_there p.call (subst (λ n. n < length c.table.table.records) (sym (call_at p here)) l)) h.open_so
            ∙ ap (λ m. elim (asking m) as (λ a. Option Why) [ None ↦ Some HasEnded | Some a ↦ option_map why_of (obstacle w p.call h.o.host a.1) ]) m.1
            ∙ ap (λ a. elim a as (λ a. Option Why) [ None ↦ Some HasEnded | Some a ↦ option_map why_of (obstacle w p.call h.o.host a.1) ]) m.2

    pub kept_back_by : (p : Player) (a : Ask) (x : Option Obstacle) → slice_get c.players.items seat ≡ Some p → call < length c.table.table.records → question_told p.place ≡ Some a → IfSome (slice_get c.players.items seat) (λ p. x ≡ report.obstacle_of (world_of c) p.call) → why (world_of c) (AskEvent call) ≡ option_map why_of x
    kept_back_by p a x here l told by = subst (λ n. why (world_of c) (AskEvent n) ≡ option_map why_of x) (call_at p here) reason
      where
        h : Asker (world_of c) p a
        h = asker_of (world_of c) p a (plays_at seat p here) (asks_at p.place a told)

        x_is : x ≡ report.obstacle_of (world_of c) p.call
        x_is = subst (λ o. IfSome o (λ p. x ≡ report.obstacle_of (world_of c) p.call)) here by

        reason : why (world_of c) (AskEvent p.call) ≡ option_map why_of x
        reason =
            let w = world_of c in
            ask_is w p.call h.o (call_there p.call (subst (λ n. n < length c.table.table.records) (sym (call_at p here)) l)) h.open_so
            ∙ ask_reason w p.call h.o h.at.asked.state h.at.asked.question h.at.machine
            ∙ ap (option_map why_of) (sym (x_is ∙ obstacle_there w p.call h.o h.at.asked.state h.at.asked.question h.open_so h.at.machine))
