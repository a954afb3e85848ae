use Rattle.grant_registry.proofs.Pushed.{request_made, request_kept}
use Rattle.grant_registry.proofs.registry.Registry.push_request.Goals as goal

pub invariant_of-self-2 : goal.invariant_of-self-2
invariant_of-self-2 c =
    request_kept c.self.inside.hosts c.self.inside.workers c.self.inside.keys.entries c.self.inside.functions.entries c.self.inside.requests.entries c.args.self.now c.self.view_is
    c.insert.new.self.entries c.in_ok-label.label c.args.entry c.args.label.now
    c.requires.fresh c.in_ok-label.ensures.ok c.in_ok-insert.ensures.entries c.self.invariant.limits c.requires.keeps

pub returns-clause-ok : goal.returns-clause-ok
returns-clause-ok c =
    request_made c.self.inside.hosts c.self.inside.workers c.self.inside.keys.entries c.self.inside.functions.entries c.self.inside.requests.entries c.args.self.now c.self.view_is
    c.insert.new.self.entries c.in_ok-label.label c.args.entry c.args.label.now
    c.requires.fresh c.in_ok-label.ensures.ok c.in_ok-insert.ensures.entries
