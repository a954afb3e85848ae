-- Asks that lock nothing find what they need, and leave the passes there.
use Rattle.std.proofs.Common.{◌≡◌, ℕ, ◌≤◌, Bool, List, [], ◌∷◌, length, sym, ap, subst, arith}
use Rattle.faaslet_meaning.specs.declared.ask.Ask.{Ask}
use Rattle.faaslet_meaning.specs.declared.ask.Ask.TheVariants as an_ask
use Rattle.faaslet_meaning.specs.declared.ask.AskOp.{AskOp}
use Rattle.faaslet_meaning.specs.declared.ask.AskOp.TheVariants as op
use Rattle.faaslet_meaning.specs.declared.ask.Reply as coded
use Rattle.faaslet_meaning.specs.declared.grant.Channel.TheVariants.{Local, Global, Table}
use Rattle.faaslet_meaning.specs.Region.{replica, global_value}
use Rattle.shared_region.specs.Shared.{Shared}
use Rattle.turn_cell.specs.declared.view.Entry.{Entry}
use Rattle.turn_cell.specs.Cell.{pass_list, pass_number, start_of}
use Rattle.region_tier.specs.Holding.{has_lock, LocksInTurn}
use Rattle.state_service.specs.Asked.{asked_operation}
use Rattle.state_service.specs.May.{Cells, Slots, AskFits, MayAsk, MayMove, MayServe}
use Rattle.state_service.specs.Served.{Served}
use Rattle.state_service_tests.specs.Makers.{IsOneKey, IsPlain, IsPlainOp, Sees, Keeps}
use Rattle.state_service_tests.proofs.OneKey.{has, keeps_made}
use Rattle.state_service_tests.proofs.Moved.{bytes_here, may_move}

op_fits : (s : Shared) (o : AskOp) (held : Bool) → 2 ≤ length s.region.bytes → IsPlainOp o → AskFits s o 2 × LocksInTurn (asked_operation o (5 ∷ 6 ∷ [])) held
op_fits s op.Probe held long p = (tt, tt)
op_fits s (op.Read off len) held long p = ((omega (arith, long, p), omega (arith, p)), tt)
op_fits s (op.Write off len) held long p = ((omega (arith, long, p), omega (arith, p)), tt)
op_fits s (op.Append len) held long p = (p, tt)
op_fits s op.Size held long p = (tt, tt)
op_fits s op.LockRead held long p = absurd p
op_fits s op.LockWrite held long p = absurd p
op_fits s op.Unlock held long p = absurd p

pub may_plain : (locals globals : Cells) (l g : Slots) (a b : List Entry) (asked : Ask) → IsOneKey locals (replica 2) → IsOneKey globals (global_value 2 (1 ∷ 2 ∷ [])) → Sees locals l 0 a → Sees globals g 0 b → IsPlain asked
    → MayServe asked locals globals l g (5 ∷ 6 ∷ [])
may_plain locals globals l g a b (an_ask.Region (Local key) o) k m s t p = subst (λ j. MayAsk locals l j o (5 ∷ 6 ∷ [])) (sym p.0)
    (has locals l (replica 2) 0 a _ k s (omega arith) (λ x q start number list.
    let long : length (start_of x).region.bytes ≡ 65536 = bytes_here 2 (start_of x) start in
    op_fits (start_of x) o (has_lock (pass_number q) (pass_list q)) (omega (arith, long)) p.1))
may_plain locals globals l g a b (an_ask.Region (Global key) o) k m s t p = subst (λ j. MayAsk globals g j o (5 ∷ 6 ∷ [])) (sym p.0)
    (has globals g (global_value 2 (1 ∷ 2 ∷ [])) 0 b _ m t (omega arith) (λ x q start number list.
    let long : length (start_of x).region.bytes ≡ 2 = ap (λ (z : Shared). length z.region.bytes) start in
    op_fits (start_of x) o (has_lock (pass_number q) (pass_list q)) (omega (arith, long)) p.1))
may_plain locals globals l g a b (an_ask.Region Table o) k m s t p = absurd p
may_plain locals globals l g a b (an_ask.Move key kind) k m s t p = subst (λ j. MayMove locals globals l g j kind) (sym p.0) (may_move locals globals l g 0 a b kind k m s t (omega arith) p.1)
may_plain locals globals l g a b (an_ask.Submit f len) k m s t p = absurd p
may_plain locals globals l g a b (an_ask.Look child) k m s t p = absurd p

pub served_here : (asked : Ask) (size : ℕ) (locals globals : Cells) (l m g h : Slots) (code : coded.Reply) (x y : List ℕ) → Keeps locals l 0 → Served asked size locals globals l m g h code x y → Keeps locals m 0
served_here asked size locals globals l m g h code x y s d = keeps_made locals l m 0 s.0 _ s.1 d.local_keys (d.local_made 0)

pub served_there : (asked : Ask) (size : ℕ) (locals globals : Cells) (l m g h : Slots) (code : coded.Reply) (x y : List ℕ) → Keeps globals g 0 → Served asked size locals globals l m g h code x y → Keeps globals h 0
served_there asked size locals globals l m g h code x y s d = keeps_made globals g h 0 s.0 _ s.1 d.global_keys (d.global_made 0)
