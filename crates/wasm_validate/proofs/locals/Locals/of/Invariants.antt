use Rattle.std.proofs.Common.{◌≡◌, take, sum_by}
use Rattle.wasm_validate.specs.Groups.{ends_from}
use Rattle.wasm_validate.proofs.locals.Locals.of.Given as goal

abbrev pub invariant-groups : goal.invariant-groups
invariant-groups l = record {
  end : l.end ≡ sum_by (λ g. g.count) (take l.group-index l.groups);
  ends : l.ends.items ≡ ends_from 0 (take l.group-index l.groups);
}
