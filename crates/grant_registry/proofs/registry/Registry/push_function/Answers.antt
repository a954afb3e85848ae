use Rattle.std.proofs.Common.{None, refl}
use Rattle.grant_registry.proofs.Pushed.{function_made, function_kept}
use Rattle.grant_registry.proofs.registry.Registry.push_function.Goals as goal

pub invariant_of-self-2 : goal.invariant_of-self-2
invariant_of-self-2 c =
    function_kept c.self.inside.hosts c.self.inside.workers c.self.inside.keys.entries c.self.inside.functions.entries c.self.inside.requests.entries c.args.self.now c.self.view_is
    c.insert.new.self.entries c.in_ok-name.name (record { «module» = None; quota = c.args.quota; fuel = c.args.fuel; room = c.args.room; grants = c.of.result; callees = c.new-2.result }) c.args.name.now c.args.quota c.args.fuel c.args.room
    c.requires (rw (c.in_ok-name.ensures.ok, c.of.ensures, c.new.ensures.items, c.new-2.ensures.items) refl) c.in_ok-name.ensures.ok c.in_ok-insert.ensures.entries c.self.invariant.limits

pub returns-clause-ok : goal.returns-clause-ok
returns-clause-ok c =
    function_made c.self.inside.hosts c.self.inside.workers c.self.inside.keys.entries c.self.inside.functions.entries c.self.inside.requests.entries c.args.self.now c.self.view_is
    c.insert.new.self.entries c.in_ok-name.name (record { «module» = None; quota = c.args.quota; fuel = c.args.fuel; room = c.args.room; grants = c.of.result; callees = c.new-2.result }) c.args.name.now c.args.quota c.args.fuel c.args.room
    c.requires (rw (c.in_ok-name.ensures.ok, c.of.ensures, c.new.ensures.items, c.new-2.ensures.items) refl) c.in_ok-name.ensures.ok c.in_ok-insert.ensures.entries
