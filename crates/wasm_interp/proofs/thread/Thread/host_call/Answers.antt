-- A host call takes its arguments and asks, or traps where its buffer is too long.
use Rattle.std.proofs.Common.{◌∙◌, ap, sym, refl, subst, arith, take, drop, map, Ok, Err}
use Rattle.std.specs.Prelude.{reverse}
use Rattle.std.specs.Int.{w32}
use Rattle.faaslet_meaning.specs.Integers.{low}
use Rattle.faaslet_meaning.specs.Configuration.{Next}
use Rattle.faaslet_meaning.specs.HostCalls.{buffer_of}
use Rattle.faaslet_meaning.specs.ControlRules.{host_by}
use Rattle.wasm_interp.specs.declared.machine.HostAsk.{HostAsk}
use Rattle.wasm_interp.specs.HostStops.{Pays, Asked}
use Rattle.wasm_interp.proofs.HostSteps.{left_of, called, params_few, args_taken, asks_with, asked_of, ended_of}
use Rattle.wasm_interp.proofs.thread.Thread.host_call.Goals as goal

pub take_args-args-requires-clause-few : goal.take_args-args-requires-clause-few
take_args-args-requires-clause-few c =
    let (t, params, (memory, d, s, ok)) = c.requires in
    omega (arith, params, params_few d c.args.number t ok)

pub returns-in-None-clause-done : goal.returns-in-None-clause-done
returns-in-None-clause-done c memory d t s params ok =
    let self = c.args.self.now in
    let k = called d c.args.number t ok in
    let ask : HostAsk = record { call = c.args.number; args = c.take_args-args.result } in
    let args = ap (λ j. take j c.take_args-args.result) params ∙ c.take_args-args.ensures.args ∙ ap (λ j. reverse (map (low w32) (take j self.values))) (sym params) in
    let asks = asks_with memory self d c.args.number t s k ask refl args in
    let stands = args_taken memory self d c.args.number t s k c.take_args-args.new.values (c.take_args-args.ensures.left ∙ ap (λ j. drop j self.values) (sym params)) in
    let paid = c.pay_buffer.ensures.done memory (left_of d t) k.call stands (c.buffer_length-length.ensures asks.row k.call asks.row_is asks.made_is) in
    let next : Next = host_by (left_of d t) k.call (buffer_of k.call) in
    subst (λ (n : Next). Asked memory c.pay_buffer.new.self n (Ok ask)) (sym k.is) (asked_of memory c.pay_buffer.new.self k.call ask next asks (subst (λ r. Pays memory c.pay_buffer.new.self k.call next r) c.in-None.is paid))

pub returns-in-Some-clause-done : goal.returns-in-Some-clause-done
returns-in-Some-clause-done c memory d t s params ok =
    let self = c.args.self.now in
    let k = called d c.args.number t ok in
    let ask : HostAsk = record { call = c.args.number; args = c.take_args-args.result } in
    let args = ap (λ j. take j c.take_args-args.result) params ∙ c.take_args-args.ensures.args ∙ ap (λ j. reverse (map (low w32) (take j self.values))) (sym params) in
    let asks = asks_with memory self d c.args.number t s k ask refl args in
    let stands = args_taken memory self d c.args.number t s k c.take_args-args.new.values (c.take_args-args.ensures.left ∙ ap (λ j. drop j self.values) (sym params)) in
    let paid = c.pay_buffer.ensures.done memory (left_of d t) k.call stands (c.buffer_length-length.ensures asks.row k.call asks.row_is asks.made_is) in
    let next : Next = host_by (left_of d t) k.call (buffer_of k.call) in
    subst (λ (n : Next). Asked memory c.pay_buffer.new.self n (Err c.in-Some.outcome)) (sym k.is) (ended_of memory c.pay_buffer.new.self k.call c.in-Some.outcome next (subst (λ r. Pays memory c.pay_buffer.new.self k.call next r) c.in-Some.is paid))
