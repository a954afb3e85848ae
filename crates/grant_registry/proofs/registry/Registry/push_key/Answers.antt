use Rattle.std.proofs.Common.{◌∙◌, refl}
use Rattle.grant_registry.proofs.Pushed.{key_made, key_kept}
use Rattle.grant_registry.proofs.registry.Registry.push_key.Goals as goal

pub invariant_of-self-2 : goal.invariant_of-self-2
invariant_of-self-2 c =
    key_kept c.self.inside.hosts c.self.inside.workers c.self.inside.keys.entries c.self.inside.functions.entries c.self.inside.requests.entries c.args.self.now c.self.view_is
    c.insert.new.self.entries c.in_ok-name.name (record { size = c.args.size; init = c.of-init.result }) c.args.name.now c.args.size c.args.init.now
    c.requires c.in_ok-name.ensures.ok refl (c.of-init.ensures ∙ c.in_ok-from_slice.ensures.items) c.in_ok-insert.ensures.entries c.self.invariant.limits

pub returns-clause-ok : goal.returns-clause-ok
returns-clause-ok c =
    key_made c.self.inside.hosts c.self.inside.workers c.self.inside.keys.entries c.self.inside.functions.entries c.self.inside.requests.entries c.args.self.now c.self.view_is
    c.insert.new.self.entries c.in_ok-name.name (record { size = c.args.size; init = c.of-init.result }) c.args.name.now c.args.size c.args.init.now
    c.requires c.in_ok-name.ensures.ok refl (c.of-init.ensures ∙ c.in_ok-from_slice.ensures.items) c.in_ok-insert.ensures.entries
