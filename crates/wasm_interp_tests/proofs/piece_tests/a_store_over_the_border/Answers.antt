use Rattle.std.proofs.Common.{[], ◌∷◌}
use Rattle.wasm_interp_tests.proofs.Borders.{grant, agrees_one}
use Rattle.wasm_interp_tests.proofs.piece_tests.a_store_over_the_border.Goals as goal

pub stored-requires : goal.stored-requires
stored-requires g c = (grant ∷ [], agrees_one)

pub after_the_piece-requires : goal.after_the_piece-requires
after_the_piece-requires g c = (grant ∷ [], agrees_one)
