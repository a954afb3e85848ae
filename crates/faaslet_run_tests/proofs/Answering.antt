-- Where a call is after it was told a question, after bytes were put into its scratch, and after its reply.
use Rattle.std.proofs.Common.{◌≡◌, ℕ, List, [], ◌∷◌, ◌++◌, Option, length, sym, ap, ◌∙◌, subst}
use Rattle.faaslet_meaning.specs.declared.ask.Ask.{Ask}
use Rattle.faaslet_meaning.specs.declared.ask.Reply.{Reply}
use Rattle.faaslet_meaning.specs.Call.{replied}
use Rattle.faaslet_meaning.specs.CallState.{Invocation, asks, fresh_state}
use Rattle.faaslet_meaning.specs.Runs.{invocation}
use Rattle.faaslet_run.specs.Places.{StandsAt}
use Rattle.faaslet_run.specs.Turns.{AsksThis, IsReady, Tells}
use Rattle.faaslet_run.specs.declared.faaslet.Faaslet.{Faaslet}
use Rattle.faaslet_run.specs.declared.faaslet.Turn.{Turn}
use Rattle.faaslet_run.specs.declared.faaslet.Turn.TheVariants as turns
use Rattle.faaslet_run.proofs.Standing.{kept_stands}
use Rattle.faaslet_run_tests.specs.Children.{MayCome, known_after, known_then}
use Rattle.faaslet_run_tests.specs.Standing.{IsAsked, IsAt}
use Rattle.faaslet_run_tests.proofs.Knowing.{children_are, known_more}
use Rattle.faaslet_run_tests.proofs.Replies.{Comes, comes_so}

pub asked_at : (f new : Faaslet) (turn : Turn) (a : Ask) (kids : List (Option ℕ)) (x : IsAt f kids) → turn ≡ turns.Asks a → Tells turn new (invocation x.function x.input) (fresh_state x.config) x.transcript → IsAsked new a kids
asked_at f new (turns.Asks b) a kids x e told =
    let same : b ≡ a = cc in
    let t : AsksThis new (invocation x.function x.input) (fresh_state x.config) x.transcript a = subst (AsksThis new (invocation x.function x.input) (fresh_state x.config) x.transcript) same told in
    record {
      function = x.function;
      input = x.input;
      config = x.config;
      is_fresh = x.is_fresh;
      transcript = x.transcript;
      knows = x.knows;
      state = t.state;
      question = t.question;
      at = t.at;
      waits = t.waits;
      bytes = new.scratch;
      is = t.is;
    }
asked_at f new (turns.Ended o) a kids x e told = absurd (cc)

pub asked_kept : (f new : Faaslet) (a : Ask) (kids : List (Option ℕ)) → new ≡ record f { scratch = new.scratch } → IsAsked f a kids → IsAsked new a kids
asked_kept f new a kids e x = subst (λ (y : Faaslet). IsAsked y a kids) (sym e) (record {
  function = x.function;
  input = x.input;
  config = x.config;
  is_fresh = x.is_fresh;
  transcript = x.transcript;
  knows = x.knows;
  state = x.state;
  question = x.question;
  at = kept_stands f (invocation x.function x.input) (fresh_state x.config) x.transcript (asks x.state x.question) new.scratch x.at;
  waits = x.waits;
  bytes = x.bytes;
  is = x.is;
})

pub may_answer : (f : Faaslet) (a : Ask) (r : Reply) (kids : List (Option ℕ)) (x : IsAsked f a kids) → MayCome a r kids → length f.scratch ≡ 65536 → Comes a r kids f.scratch x.state x.question
may_answer f a r kids x m long = comes_so kids x.bytes f.scratch long x.state (children_are x.function x.input x.config x.transcript x.state x.question x.is_fresh x.at.way ∙ sym x.knows) (invocation x.function x.input) a r x.question m x.is

pub answered_at : (f new : Faaslet) (a : Ask) (r : Reply) (kids : List (Option ℕ)) (x : IsAsked f a kids) (c : Comes a r kids f.scratch x.state x.question)
    → (let j : Invocation = invocation x.function x.input in StandsAt new j (fresh_state x.config) (x.transcript ++ (x.question, c.reply) ∷ []) (replied j x.state c.reply) × IsReady new j (replied j x.state c.reply)) → IsAt new (known_then a r kids)
answered_at f new a r kids x c s = record {
  function = x.function;
  input = x.input;
  config = x.config;
  is_fresh = x.is_fresh;
  transcript = x.transcript ++ (x.question, c.reply) ∷ [];
  knows = sym (known_more [] x.transcript x.question c.reply ∙ ap (λ (ks : List (Option ℕ)). known_after ks x.question c.reply) (sym x.knows) ∙ c.known);
  at = record { progress = replied (invocation x.function x.input) x.state c.reply; at = s.0; ready = s.1 };
}
