-- What `decode` tells of a file. This project's own.
use Rattle.std.specs.Prelude.{ℕ, List, Result, Ok, Err}
use Rattle.faaslet_meaning.specs.declared.module.Module.{Module}
use Rattle.faaslet_meaning.specs.Decoding as decoding
use Rattle.wasm_code.specs.declared.fault.BodyFault.{BodyFault}
use Rattle.wasm_code.specs.declared.fault.BodyFault.TheVariants as bodies
use Rattle.wasm_decode.specs.declared.fault.Which.{Which}
use Rattle.wasm_decode.specs.declared.fault.Which.TheVariants.{Params, Locals, Table, Globals}
use Rattle.wasm_decode.specs.declared.fault.DecodeFault.{DecodeFault}
use Rattle.wasm_decode.specs.declared.fault.DecodeFault.TheVariants.{TooLong, Malformed, Float, Limit, Want}

-- the limit as the definitions have it
abbrev pub limit_of : Which → decoding.Limit
limit_of Params = decoding.params
limit_of Locals = decoding.locals
limit_of Table = decoding.table
limit_of Globals = decoding.globals

-- the result is what is answered of the bytes; want of memory says nothing
abbrev pub IsDecoded : Result Module DecodeFault → List ℕ → Type 0
IsDecoded (Ok m) bytes = decoding.DecodesTo (decoding.accepted m) bytes
IsDecoded (Err TooLong) bytes = decoding.DecodesTo decoding.too_long bytes
IsDecoded (Err Malformed) bytes = decoding.DecodesTo decoding.malformed bytes
IsDecoded (Err Float) bytes = decoding.DecodesTo decoding.float bytes
IsDecoded (Err (Limit w)) bytes = decoding.DecodesTo (decoding.limit (limit_of w)) bytes
IsDecoded (Err Want) bytes = Unit {0}

-- the fault of the grammar alone
abbrev pub fault_of : BodyFault → DecodeFault
fault_of bodies.Malformed = Malformed
fault_of bodies.Want = Want
