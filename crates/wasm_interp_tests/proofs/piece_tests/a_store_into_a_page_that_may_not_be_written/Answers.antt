use Rattle.std.proofs.Common.{[], refl}
use Rattle.wasm_interp.proofs.Granting.{agrees_none}
use Rattle.wasm_interp_tests.proofs.piece_tests.a_store_into_a_page_that_may_not_be_written.Goals as goal

pub stored-requires : goal.stored-requires
stored-requires g c = ([], agrees_none 0 refl)
