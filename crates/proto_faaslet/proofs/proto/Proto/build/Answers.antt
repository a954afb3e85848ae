use Rattle.std.proofs.Common.{sym, ap, ◌∙◌}
use Rattle.faaslet_meaning.specs.Memory.{Memory}
use Rattle.region_map.specs.Segments.{Segmented}
use Rattle.proto_faaslet.specs.Instances.{store_of}
use Rattle.proto_faaslet.proofs.Built.{initialize_breaks, built_so}
use Rattle.proto_faaslet.proofs.proto.Proto.build.Goals as goal

pub returns-in-Err-clause-broken : goal.returns-in-Err-clause-broken
returns-in-Err-clause-broken c =
    let first = c.in_ok-memory.memory.memory in
    let kept = c.in_ok-kept.kept in
    let before = ap (λ (x : Memory). x.quota) c.in_ok-memory.ensures.memory in
    let same = ap (λ (x : Segmented). x.memory) (sym c.in_ok-machine.ensures.memory) in
    let after = ap (λ (x : Segmented). x.memory.quota) c.in_ok-machine.ensures.memory ∙ c.in_ok-kept.ensures.kept.quota_is ∙ before in
    initialize_breaks c.args.module.now c.args.quota c.args.fuel c.in-Err.fault first.quota _ _ _ before after (ap (store_of kept) same) c.in_ok-kept.ensures.made c.in-Err.ensures.broken

pub returns-clause-snapshot : goal.returns-clause-snapshot
returns-clause-snapshot c =
    let first = c.in_ok-memory.memory.memory in
    let kept = c.in_ok-kept.kept in
    let before = ap (λ (x : Memory). x.quota) c.in_ok-memory.ensures.memory in
    let same = ap (λ (x : Segmented). x.memory) (sym c.in_ok-machine.ensures.memory) in
    let after = ap (λ (x : Segmented). x.memory.quota) c.in_ok-machine.ensures.memory ∙ c.in_ok-kept.ensures.kept.quota_is ∙ before in
    let left = ap (λ (x : Segmented). store_of c.in-Ok.kept x.memory) (sym c.memory_mut.ensures.same) in
    built_so c.args.module.now c.args.quota c.args.fuel c.in_ok-keep.field-0 first.quota _ _ _ _ _ before after (ap (store_of kept) same) left c.in_ok-kept.ensures.made c.in-Ok.ensures.done c.in_ok-keep.ensures
