-- A maker that has made nothing may lock, and once it has locked it may unlock.
use Rattle.std.proofs.Common.{◌≡◌, ℕ, Bool, true, false, eq-eqb, List, [], ◌∷◌, ◌++◌, refl, sym, ap, ◌∙◌, subst, arith, if◌then◌else◌, ◌==◌}
use Rattle.std.specs.Prelude as std
use Rattle.std.specs.Prelude.{IsTrue}
use Rattle.faaslet_meaning.specs.declared.ask.Ask.TheVariants as an_ask
use Rattle.faaslet_meaning.specs.declared.ask.AskOp.{AskOp}
use Rattle.faaslet_meaning.specs.declared.ask.AskOp.TheVariants as op
use Rattle.faaslet_meaning.specs.declared.ask.Reply as coded
use Rattle.faaslet_meaning.specs.declared.grant.Channel.{Channel}
use Rattle.faaslet_meaning.specs.declared.grant.Channel.TheVariants.{Local, Global, Table}
use Rattle.faaslet_meaning.specs.Channels as channels
use Rattle.faaslet_meaning.specs.Channels.{has_form, RegionOperation, Reply, Question, ask, entries, on_channel, on_region}
use Rattle.faaslet_meaning.specs.Region.{Region, replica, global_value}
use Rattle.faaslet_meaning.specs.Spelling.{spelled}
use Rattle.turn_cell.specs.declared.view.Entry.{Entry}
use Rattle.turn_cell.specs.Cell.{pass_list}
use Rattle.turn_cell.specs.History.{entry}
use Rattle.region_tier.specs.Holding.{has_lock, locked_after, locked_by}
use Rattle.state_service.specs.May.{Cells, Slots, MayAsk, MayServe}
use Rattle.state_service.specs.Served.{Entered, Made, Served}
use Rattle.state_service_tests.specs.Makers.{IsLock, IsOfKey, IsOneKey, Sees, SeesNothing}
use Rattle.state_service_tests.proofs.OneKey.{has, enters}
use Rattle.state_service_tests.proofs.Moved.{some_so, one_entry}

-- ---- The lock.

pub sees_on : (locals globals : Cells) (l g : Slots) (channel : Channel) → IsOfKey channel → Sees locals l 0 [] → Sees globals g 0 [] → SeesNothing channel locals globals l g
sees_on locals globals l g (Local key) is s t = (is, s)
sees_on locals globals l g (Global key) is s t = (is, t)
sees_on locals globals l g Table is s t = absurd is

lock_one : (cells : Cells) (slots : Slots) (start : Region) (o : AskOp) → IsOneKey cells start → Sees cells slots 0 [] → IsLock o → MayAsk cells slots 0 o []
lock_one cells slots start op.LockRead k s lock = has cells slots start 0 [] _ k s (omega arith) (λ t p begins number list. (tt, ap (has_lock _) list))
lock_one cells slots start op.LockWrite k s lock = has cells slots start 0 [] _ k s (omega arith) (λ t p begins number list. (tt, ap (has_lock _) list))
lock_one cells slots start op.Probe k s lock = absurd lock
lock_one cells slots start (op.Read off len) k s lock = absurd lock
lock_one cells slots start (op.Write off len) k s lock = absurd lock
lock_one cells slots start (op.Append len) k s lock = absurd lock
lock_one cells slots start op.Size k s lock = absurd lock
lock_one cells slots start op.Unlock k s lock = absurd lock

pub may_lock : (locals globals : Cells) (l g : Slots) (channel : Channel) (o : AskOp) → IsOneKey locals (replica 2) → IsOneKey globals (global_value 2 (1 ∷ 2 ∷ [])) → SeesNothing channel locals globals l g → IsLock o → MayServe (an_ask.Region channel o) locals globals l g []
may_lock locals globals l g (Local key) o k m s lock = subst (λ j. MayAsk locals l j o []) (sym s.0) (lock_one locals l (replica 2) o k s.1 lock)
may_lock locals globals l g (Global key) o k m s lock = subst (λ j. MayAsk globals g j o []) (sym s.0) (lock_one globals g (global_value 2 (1 ∷ 2 ∷ [])) o m s.1 lock)
may_lock locals globals l g Table o k m s lock = absurd s

-- ---- And the Unlock.

-- whoever locked last holds a lock
locked_last : (n : ℕ) (numbers : List ℕ) (held : Bool) (es : List Entry) → ((b : Bool) → locked_after numbers b ≡ true) → locked_by n held (es ++ entry n numbers ∷ []) ≡ true
locked_last n numbers held [] locks = ap (λ (c : Bool). if c then locked_after numbers held else held) (eq-eqb n n refl) ∙ locks held
locked_last n numbers held (e ∷ es) locks = locked_last n numbers (if e.maker == n then locked_after e.numbers held else held) es locks

unlock_one : (cells : Cells) (old new : Slots) (start : Region) (o : RegionOperation) (r : Reply) → IsOneKey cells start → Sees cells old 0 [] → std.length new ≡ std.length old → Entered cells old new 0 (on_region o, r) → ((b : Bool) → locked_after (spelled o) b ≡ true) → MayAsk cells new 0 op.Unlock []
unlock_one cells old new start o r k s long entered locks =
    let e = enters cells old new 0 [] o r s long entered in
    let a = e.answered k.cell k.at_cell in
    let holds : has_lock 0 e.list ≡ true = ap (has_lock 0) a.entered ∙ locked_last 0 (spelled o) false a.before locks in
    has cells new start 0 e.list _ k e.sees (omega arith) (λ t p begins number list. (tt, ap (λ (n : ℕ). has_lock n (pass_list p)) number ∙ (ap (has_lock 0) list ∙ holds)))

unlock_here : (locals globals : Cells) (l m g h : Slots) (o : AskOp) (operation : RegionOperation) (code : coded.Reply) (told : List ℕ) → IsOneKey locals (replica 2) → Sees locals l 0 []
    → ((b : Bool) → locked_after (spelled operation) b ≡ true) → (d : Served (an_ask.Region (Local 0) o) 0 locals globals l m g h code [] told) → std.Some (ask (Local 0) (on_region operation)) ≡ std.Some d.question → MayAsk locals m 0 op.Unlock []
unlock_here locals globals l m g h o operation code told k s locks d e =
    let is = sym (some_so (ask (Local 0) (on_region operation)) d.question e) in
    let one = one_entry (Local 0) operation d.answer (subst (λ q. IsTrue (has_form q d.answer)) is d.form) in
    let made : Made locals l m 0 ((on_region operation, d.answer) ∷ []) =
    subst (λ (es : List channels.Entry). Made locals l m 0 (on_channel (Local 0) es)) one (subst (λ q. Made locals l m 0 (on_channel (Local 0) (entries q d.answer))) is (d.local_made 0)) in
    unlock_one locals l m (replica 2) operation d.answer k s d.local_keys made locks

unlock_there : (locals globals : Cells) (l m g h : Slots) (o : AskOp) (operation : RegionOperation) (code : coded.Reply) (told : List ℕ) → IsOneKey globals (global_value 2 (1 ∷ 2 ∷ [])) → Sees globals g 0 []
    → ((b : Bool) → locked_after (spelled operation) b ≡ true) → (d : Served (an_ask.Region (Global 0) o) 0 locals globals l m g h code [] told) → std.Some (ask (Global 0) (on_region operation)) ≡ std.Some d.question → MayAsk globals h 0 op.Unlock []
unlock_there locals globals l m g h o operation code told k s locks d e =
    let is = sym (some_so (ask (Global 0) (on_region operation)) d.question e) in
    let one = one_entry (Global 0) operation d.answer (subst (λ q. IsTrue (has_form q d.answer)) is d.form) in
    let made : Made globals g h 0 ((on_region operation, d.answer) ∷ []) =
    subst (λ (es : List channels.Entry). Made globals g h 0 (on_channel (Global 0) es)) one (subst (λ q. Made globals g h 0 (on_channel (Global 0) (entries q d.answer))) is (d.global_made 0)) in
    unlock_one globals g h (global_value 2 (1 ∷ 2 ∷ [])) operation d.answer k s d.global_keys made locks

here : (locals globals : Cells) (l m g h : Slots) (o : AskOp) (code : coded.Reply) (told : List ℕ) → IsOneKey locals (replica 2) → Sees locals l 0 [] → IsLock o → Served (an_ask.Region (Local 0) o) 0 locals globals l m g h code [] told → MayAsk locals m 0 op.Unlock []
here locals globals l m g h op.LockRead code told k s lock d = unlock_here locals globals l m g h op.LockRead RegionOperation.lock_read code told k s (λ b. refl) d d.question_so
here locals globals l m g h op.LockWrite code told k s lock d = unlock_here locals globals l m g h op.LockWrite RegionOperation.lock_write code told k s (λ b. refl) d d.question_so
here locals globals l m g h op.Probe code told k s lock d = absurd lock
here locals globals l m g h (op.Read off len) code told k s lock d = absurd lock
here locals globals l m g h (op.Write off len) code told k s lock d = absurd lock
here locals globals l m g h (op.Append len) code told k s lock d = absurd lock
here locals globals l m g h op.Size code told k s lock d = absurd lock
here locals globals l m g h op.Unlock code told k s lock d = absurd lock

there : (locals globals : Cells) (l m g h : Slots) (o : AskOp) (code : coded.Reply) (told : List ℕ) → IsOneKey globals (global_value 2 (1 ∷ 2 ∷ [])) → Sees globals g 0 [] → IsLock o → Served (an_ask.Region (Global 0) o) 0 locals globals l m g h code [] told
    → MayAsk globals h 0 op.Unlock []
there locals globals l m g h op.LockRead code told k s lock d = unlock_there locals globals l m g h op.LockRead RegionOperation.lock_read code told k s (λ b. refl) d d.question_so
there locals globals l m g h op.LockWrite code told k s lock d = unlock_there locals globals l m g h op.LockWrite RegionOperation.lock_write code told k s (λ b. refl) d d.question_so
there locals globals l m g h op.Probe code told k s lock d = absurd lock
there locals globals l m g h (op.Read off len) code told k s lock d = absurd lock
there locals globals l m g h (op.Write off len) code told k s lock d = absurd lock
there locals globals l m g h (op.Append len) code told k s lock d = absurd lock
there locals globals l m g h op.Size code told k s lock d = absurd lock
there locals globals l m g h op.Unlock code told k s lock d = absurd lock

pub may_unlock : (locals globals : Cells) (l m g h : Slots) (channel : Channel) (o : AskOp) (code : coded.Reply) (told : List ℕ) → IsOneKey locals (replica 2) → IsOneKey globals (global_value 2 (1 ∷ 2 ∷ [])) → SeesNothing channel locals globals l g → IsLock o
    → Served (an_ask.Region channel o) 0 locals globals l m g h code [] told → MayServe (an_ask.Region channel op.Unlock) locals globals m h []
may_unlock locals globals l m g h (Local key) o code told k n s lock d = subst (λ j. MayAsk locals m j op.Unlock []) (sym s.0)
    (here locals globals l m g h o code told k s.1 lock (subst (λ j. Served (an_ask.Region (Local j) o) 0 locals globals l m g h code [] told) s.0 d))
may_unlock locals globals l m g h (Global key) o code told k n s lock d = subst (λ j. MayAsk globals h j op.Unlock []) (sym s.0)
    (there locals globals l m g h o code told n s.1 lock (subst (λ j. Served (an_ask.Region (Global j) o) 0 locals globals l m g h code [] told) s.0 d))
may_unlock locals globals l m g h Table o code told k n s lock d = absurd s
