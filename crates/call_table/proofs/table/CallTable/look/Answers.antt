-- A Look that is answered is an entry of the parent's bench.
use Rattle.std.proofs.Common.{ℕ, List, Ok, Err, refl, subst}
use Rattle.std.specs.Prelude.{Result, IfOk}
use Rattle.faaslet_meaning.specs.declared.ask.Reply as coded
use Rattle.faaslet_meaning.specs.Records.{told_of}
use Rattle.faaslet_meaning.specs.Table.{look}
use Rattle.call_table.specs.Looked.{Looked, LookedAt}
use Rattle.call_table.specs.Session.{SessionTable}
use Rattle.call_table.specs.SessionInside.{session_in}
use Rattle.call_table.proofs.Entries.{made}
use Rattle.call_table.proofs.table.CallTable.look.Goals as goal

entered : {E : Type 0} (s : SessionTable) (call : ℕ) (before after : List ℕ) (r : Result coded.Reply E) → IfOk r (λ reply. Looked s.table call reply before after) → IfOk r (λ reply. LookedAt s call reply before after)
entered s call before after (Ok reply) l = record { looked = l; made = λ parent child opened found. made s s (look parent child) (told_of l.of.state) (l.did parent child opened found) refl refl tt }
entered s call before after (Err e) l = tt

pub returns-clause-finished : goal.returns-clause-finished
returns-clause-finished c =
    subst (λ (s : SessionTable). IfOk c.look.result (λ reply. LookedAt s c.args.call reply c.args.out.now c.look.new.out)) c.self.view_is
    (entered (session_in c.self.inside) c.args.call c.args.out.now c.look.new.out c.look.result c.look.ensures.finished)
