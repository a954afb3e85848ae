-- Both operations of a move make an entry.
use Rattle.std.proofs.Common.{rules, arith, refl}
use Rattle.shared_region.proofs.Entered.{Parts, local_entered, global_entered}
use Rattle.shared_region.proofs.region.Region.move_between.Goals as goal

pub returns-in-Fill-kind-clause-local : goal.returns-in-Fill-kind-clause-local
returns-in-Fill-kind-clause-local c = rw c.in-Fill-kind.is (c.fill_from.ensures c.args.maker)

pub returns-in-Fill-kind-clause-local_entry : goal.returns-in-Fill-kind-clause-local_entry
returns-in-Fill-kind-clause-local_entry c =
    let p : Parts c.args.local.now c.args.global.now c.args.maker c.args.kind = record { one_size = c.requires.one_size; local_whole = omega arith; global_whole = omega arith; fits = c.requires.fits; free = search rules } in
    local_entered c.args.local.now c.args.global.now c.fill_from.new.self c.args.maker c.args.kind p (returns-in-Fill-kind-clause-local c)

pub returns-in-Fill-kind-clause-global_entry : goal.returns-in-Fill-kind-clause-global_entry
returns-in-Fill-kind-clause-global_entry c =
    let p : Parts c.args.local.now c.args.global.now c.args.maker c.args.kind = record { one_size = c.requires.one_size; local_whole = omega arith; global_whole = omega arith; fits = c.requires.fits; free = search rules } in
    global_entered c.args.local.now c.args.global.now c.args.global.now c.args.maker c.args.kind p (rw c.in-Fill-kind.is refl)

pub returns-in-Pull-kind-clause-local_entry : goal.returns-in-Pull-kind-clause-local_entry
returns-in-Pull-kind-clause-local_entry c =
    let p : Parts c.args.local.now c.args.global.now c.args.maker c.args.kind = record { one_size = c.requires.one_size; local_whole = omega arith; global_whole = omega arith; fits = c.requires.fits; free = search rules } in
    local_entered c.args.local.now c.args.global.now c.copy_from.new.self c.args.maker c.args.kind p (rw c.in-Pull-kind.is c.copy_from.ensures)

pub returns-in-Pull-kind-clause-global_entry : goal.returns-in-Pull-kind-clause-global_entry
returns-in-Pull-kind-clause-global_entry c =
    let p : Parts c.args.local.now c.args.global.now c.args.maker c.args.kind = record { one_size = c.requires.one_size; local_whole = omega arith; global_whole = omega arith; fits = c.requires.fits; free = search rules } in
    global_entered c.args.local.now c.args.global.now c.args.global.now c.args.maker c.args.kind p (rw c.in-Pull-kind.is refl)

pub returns-in-Push-kind-clause-local_entry : goal.returns-in-Push-kind-clause-local_entry
returns-in-Push-kind-clause-local_entry c =
    let p : Parts c.args.local.now c.args.global.now c.args.maker c.args.kind = record { one_size = c.requires.one_size; local_whole = omega arith; global_whole = omega arith; fits = c.requires.fits; free = search rules } in
    local_entered c.args.local.now c.args.global.now c.args.local.now c.args.maker c.args.kind p (rw c.in-Push-kind.is refl)

pub returns-in-Push-kind-clause-global_entry : goal.returns-in-Push-kind-clause-global_entry
returns-in-Push-kind-clause-global_entry c =
    let p : Parts c.args.local.now c.args.global.now c.args.maker c.args.kind = record { one_size = c.requires.one_size; local_whole = omega arith; global_whole = omega arith; fits = c.requires.fits; free = search rules } in
    global_entered c.args.local.now c.args.global.now c.copy_from-in-Push-kind.new.self c.args.maker c.args.kind p (rw c.in-Push-kind.is c.copy_from-in-Push-kind.ensures)
