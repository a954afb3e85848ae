-- The loads that are kept are those of the records.
use Rattle.std.proofs.Common.{◌<◌, All, ap, sym, subst, ◌∙◌, arith}
use Rattle.faaslet_meaning.specs.Table.{place_of}
use Rattle.call_table.specs.Session.{SessionTable}
use Rattle.call_table.proofs.Loaded.{loads_length, placed_so}
use Rattle.call_table.proofs.table.CallTable.place.Goals as goal

pub place-requires-clause-from : goal.place-requires-clause-from
place-requires-clause-from c =
    let t = c.self.inside.store in
    let len = loads_length t.hosts t.records c.self.inside.loads c.self.invariant.loads in
    let low : c.args.from < t.hosts = subst (λ (s : SessionTable). c.args.from < s.table.hosts) (sym c.self.view_is) c.requires.from in
    omega arith

pub place-requires-clause-warm : goal.place-requires-clause-warm
place-requires-clause-warm c =
    let t = c.self.inside.store in
    subst (λ n. All (λ w. w.1 < n) c.self.inside.loads.warm.items) (sym (loads_length t.hosts t.records c.self.inside.loads c.self.invariant.loads)) c.self.invariant.loads.within

pub returns : goal.returns
returns c =
    let t = c.self.inside.store in
    c.place.ensures ∙ placed_so t c.self.inside.loads c.args.function c.args.from c.self.invariant.loads ∙ ap (λ (s : SessionTable). place_of s.table c.args.function c.args.from) c.self.view_is
