-- The host calls that the tests make, with their arguments.
use Rattle.std.proofs.Common.{◌≡◌, ℕ, zero, suc, ◌<◌, ◌^◌, List, [], ◌∷◌, Option, Some, None, refl, arith}
use Rattle.std.specs.Prelude.{codes}
use Rattle.faaslet_meaning.specs.declared.instr.ValType.TheVariants.{I32}
use Rattle.faaslet_meaning.specs.HostCalls.{row as host_row, of_none, of_two, of_three, input_size, read_input, write_output}
use Rattle.wasm_interp.specs.StandsFor.{AsksHost}
use Rattle.host_calls.specs.CallHosts.{AreSmall}

pub four_small : (a b c d : ℕ) → a < 2 ^ 32 → b < 2 ^ 32 → c < 2 ^ 32 → d < 2 ^ 32 → AreSmall (a ∷ b ∷ c ∷ d ∷ [])
four_small a b c d ha hb hc hd zero = ha
four_small a b c d ha hb hc hd (suc zero) = hb
four_small a b c d ha hb hc hd (suc (suc zero)) = hc
four_small a b c d ha hb hc hd (suc (suc (suc zero))) = hd
four_small a b c d ha hb hc hd (suc (suc (suc (suc k)))) = omega arith

pub size_asked : AsksHost (record { call = 16; args = 0 ∷ 0 ∷ 0 ∷ 0 ∷ [] }) input_size
size_asked = record { row = host_row (codes "input_size") (of_none input_size) (Some I32); row_is = refl; made_is = refl }

pub write_asked : AsksHost (record { call = 18; args = 65535 ∷ 2 ∷ 0 ∷ 0 ∷ [] }) (write_output 65535 2)
write_asked = record { row = host_row (codes "write_output") (of_two write_output) None; row_is = refl; made_is = refl }

pub read_asked : AsksHost (record { call = 17; args = 0 ∷ 65535 ∷ 2 ∷ 0 ∷ [] }) (read_input 0 65535 2)
read_asked = record { row = host_row (codes "read_input") (of_three read_input) None; row_is = refl; made_is = refl }
