use Rattle.std.proofs.Common.{◌<◌, ap, arith, length, sym}
use Rattle.world_core.specs.Living.{world_of}
use Rattle.world_core.proofs.Whys.{says_free, says_not_queued}
use Rattle.world_core.proofs.running.Running.place_to_take.Goals as goal

pub returns-in-Some-clause-free : goal.returns-in-Some-clause-free
returns-in-Some-clause-free c =
    let r = c.args.self.now in
    let keeps = c.requires.lives.settling.keeps in
    let w = world_of r in
    let many = ap (λ t. length t.records) keeps.table in
    let hosts = ap (λ t. t.hosts) keeps.table in
    let l : c.args.call < length w.table.records = omega (arith, many) in
    let m : c.args.host < w.table.hosts = omega (arith, hosts) in
    says_free w (λ q. q.call) r.floor.queued.items keeps.floor.queued c.args.call c.args.host c.in-Some.place l m (sym c.in-Some.ensures)

pub returns-in-None-clause-kept_back : goal.returns-in-None-clause-kept_back
returns-in-None-clause-kept_back c =
    let r = c.args.self.now in
    let keeps = c.requires.lives.settling.keeps in
    let w = world_of r in
    let many = ap (λ t. length t.records) keeps.table in
    let hosts = ap (λ t. t.hosts) keeps.table in
    let l : c.args.call < length w.table.records = omega (arith, many) in
    let m : c.args.host < w.table.hosts = omega (arith, hosts) in
    says_not_queued w (λ q. q.call) r.floor.queued.items keeps.floor.queued c.args.call c.args.host l m (sym c.in-None.ensures)
