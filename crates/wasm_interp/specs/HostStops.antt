-- How a host call stops the machine, or ends the run. This project's own.
use Rattle.std.specs.Prelude.{◌≡◌, Option, Some, None, Result, Ok, Err}
use Rattle.faaslet_meaning.specs.declared.outcome.Outcome.{Outcome}
use Rattle.faaslet_meaning.specs.Memory.{Memory}
use Rattle.faaslet_meaning.specs.HostCalls.{HostCall}
use Rattle.faaslet_meaning.specs.Configuration.{Next, ends, calls}
use Rattle.wasm_interp.specs.Stands.{Stands, KeptFor}
use Rattle.wasm_interp.specs.StandsFor.{AsksHost}
use Rattle.wasm_interp.specs.declared.machine.HostAsk.{HostAsk}
use Rattle.wasm_interp.specs.declared.thread.Thread.{Thread}

-- the buffer of this host call was paid for, or the run has ended with this outcome
abbrev pub Pays : Memory → Thread → HostCall → Next → Option Outcome → Type 0
Pays memory t h (calls c k) None = Stands memory t c × (k ≡ h)
Pays memory t h (ends c o) (Some p) = (p ≡ o) × KeptFor memory t c
Pays memory t h _ _ = ⊥

-- a host call was asked, or the run has ended with this outcome
abbrev pub Asked : Memory → Thread → Next → Result HostAsk Outcome → Type 0
Asked memory t (calls c h) (Ok ask) = Stands memory t c × AsksHost ask h
Asked memory t (ends c o) (Err p) = (p ≡ o) × KeptFor memory t c
Asked memory t _ _ = ⊥
