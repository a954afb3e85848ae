-- The passes that are handed out are fresh.
use Rattle.std.proofs.Common.{◌≡◌, ℕ, ◌+◌, List, [], ◌∷◌, ◌++◌, length, sym, ap, ◌∙◌}
use Rattle.std.proofs.lemmas.List.{length-map}
use lib.ListN.{get_elem?}
use Rattle.call_table.specs.Session.{SessionTable}
use Rattle.turn_cell.specs.declared.cell.Turns.{Turns}
use Rattle.turn_cell.specs.History.{Each}
use Rattle.region_tier.proofs.Dealing.{at_last}
use Rattle.region_tier.specs.declared.cells.Passes.{Passes}
use Rattle.session_meaning.specs.Draft.{Draft}
use Rattle.session_objects.specs.declared.columns.BenchPasses.{BenchPasses}
use Rattle.session_objects.specs.declared.objects.Objects.{Objects}
use Rattle.session_objects.specs.Lists.{globals_of, locals_of, tables_of}
use Rattle.session_objects.specs.Parts.{IsFresh}
use Rattle.session_objects.specs.Rests.{FreshFor, IsDealt, IsFreshPass, TablePass}
use Rattle.session_objects.specs.Shape.{each}
use Rattle.session_objects.proofs.Limits.{host_is}
use Rattle.session_objects.proofs.Rows.{at_map}

pub benches_fresh : (d : Draft) (o : Objects) (benches : List BenchPasses) (locals globals : List Passes) (column : List TablePass) → locals_of benches ≡ locals → globals_of benches ≡ globals → tables_of benches ≡ column
    → Each locals (IsDealt o.locals.items (each d)) → Each globals (FreshFor o.globals) → Each column (IsFreshPass o.table) → Each benches (IsFresh d o)
benches_fresh d o benches locals globals column l g t dealt rows passes b p e =
    let x = dealt b p.local (ap (λ z. get_elem? z b) (sym l) ∙ at_map (λ p. p.local) benches b p e) in
    record {
      tier = x.tier;
      at_host = ap (get_elem? o.locals.items) (host_is d b x.host x.low x.high) ∙ x.at_host;
      local = x.fresh;
      global = rows b p.global (ap (λ z. get_elem? z b) (sym g) ∙ at_map (λ p. p.global) benches b p e);
      table = passes b p.table (ap (λ z. get_elem? z b) (sym t) ∙ at_map (λ p. p.table) benches b p e);
    }

pub bench_total : (benches : List BenchPasses) (locals : List Passes) → locals_of benches ≡ locals → length benches ≡ length locals
bench_total benches locals is = sym (length-map benches (λ p. p.local)) ∙ ap length is

-- the last pass is the session's
pub last_pass : (turns : Turns SessionTable) (from count : ℕ) (ws : List TablePass) (session : TablePass) → length ws ≡ count → Each (ws ++ session ∷ []) (λ j x. IsFreshPass turns (from + j) x) → IsFreshPass turns (from + count) session
last_pass turns from count ws session long all = all count session (at_last ws session count (sym long))
