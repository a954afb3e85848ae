-- What a maker was told, by lists of entries that grow.
use Rattle.std.proofs.Common.{◌≡◌, ◌≢◌, ℕ, Bool, true, false, not, cond, eq-eqb, ne_eqb, List, [], ◌∷◌, ◌++◌, refl, sym, ap, ◌∙◌, subst}
use Rattle.std.proofs.lemmas.List.{append-nil, map-append}
use Rattle.std.proofs.lemmas.List.Elements.{All-head, All-tail}
use Rattle.std.specs.Prelude.{IsTrue, map, ◌==◌, ◌&&◌}
use Rattle.std.specs.List.{All, list_all}
use Rattle.faaslet_meaning.specs.Channels.{Reply}
use Rattle.faaslet_meaning.specs.History.{History, left, told_to, table_rules}
use Rattle.faaslet_meaning.specs.Spelling.{spelled_on_table, OperationFits}
use Rattle.faaslet_meaning.specs.Table as table
use Rattle.faaslet_meaning.specs.Table.{Table, TableOperation}
use Rattle.faaslet_meaning.proofs.Histories.{told_both}
use Rattle.turn_cell.specs.declared.view.Entry.{Entry}
use Rattle.turn_cell.specs.History.{Stands, Extends, entry}
use Rattle.call_table.specs.Makers.{MakesTable}
use Rattle.call_table.specs.Session.{SessionTable}
use Rattle.call_service.specs.Heard.{SpellsHistory, Heard}
use Rattle.call_service.specs.Served.{Made}
use Rattle.call_service.proofs.Led.{pair, spelling, Fit, led, behind, once}

head_so : {A : Type 0} (x y : A) (xs ys : List A) → (x ∷ xs) ≡ (y ∷ ys) → x ≡ y
head_so x y xs ys e = cc

tail_so : {A : Type 0} (x y : A) (xs ys : List A) → (x ∷ xs) ≡ (y ∷ ys) → xs ≡ ys
tail_so x y xs ys e = cc

-- entries of others are others' operations
others_so : (n : ℕ) (rest : List Entry) (back : History TableOperation) → map pair rest ≡ map spelling back → All (λ e. e.maker ≢ n) rest → IsTrue (list_all (λ e. not (e.0 == n)) back)
others_so n [] [] e all = refl
others_so n [] (x ∷ xs) e all = cc
others_so n (r ∷ rs) [] e all = cc
others_so n (r ∷ rs) (x ∷ xs) e all =
    let maker : r.maker ≡ x.0 = ap (λ (z : ℕ × List ℕ). z.0) (head_so (pair r) (spelling x) (map pair rs) (map spelling xs) e) in
    let apart : (x.0 == n) ≡ false = ap (λ (m : ℕ). m == n) (sym maker) ∙ ne_eqb r.maker n (All-head (λ (d : Entry). d.maker ≢ n) r rs all) in
    let more = others_so n rs xs (tail_so (pair r) (spelling x) (map pair rs) (map spelling xs) e) (All-tail (λ (d : Entry). d.maker ≢ n) r rs all) in
    ap (λ (b : Bool). not b && list_all (λ e. not (e.0 == n)) xs) apart ∙ more

-- the history of a list that grew by entries of others, and what the maker was told by it
record Grown (start : Table) (n : ℕ) (list : List Entry) (end : Table) (told : List (TableOperation × Reply)) : Type 0 where
  history : History TableOperation
  spells : SpellsHistory list history
  end_so : end ≡ left table_rules start history
  told_so : told ≡ told_to table_rules n start history

grown : (start end : SessionTable) (n : ℕ) (old new : List Entry) (told : List (TableOperation × Reply)) → Extends n old new → Stands MakesTable start new end → Heard start.table n old told → Grown start.table n new end.table told
grown start end n old new told x st h =
    let whole = led start end new st in
    let parts : map spelling h.history ++ map pair x.0 ≡ map spelling whole.0 = ap (λ l. l ++ map pair x.0) (sym h.spells.spells) ∙ (sym (map-append pair old x.0) ∙ (ap (map pair) x.1 ∙ whole.1.spells)) in
    let b = behind h.history whole.0 (map pair x.0) h.spells.fits whole.1.fits parts in
    let same = told_both table_rules n start.table h.history b.back (others_so n x.0 b.back b.spells x.2) in
    record {
      history = whole.0;
      spells = whole.1;
      end_so = whole.2.end_so;
      told_so = h.told_so ∙ (sym same ∙ ap (told_to table_rules n start.table) (sym b.parts));
    }

-- one operation more of the maker
told_one : (n : ℕ) (o : TableOperation) (s : Table) (h : History TableOperation) → told_to table_rules n s (h ++ (n, o) ∷ []) ≡ told_to table_rules n s h ++ (o, table.reply (left table_rules s h) n o) ∷ []
told_one n o s [] = ap (λ (b : Bool). cond b ((o, table.reply s n o) ∷ []) []) (eq-eqb n n refl)
told_one n o s (e ∷ es) = by (e.0 == n) (told_one n o (table.after s e.0 e.1) es)
  where
    by : (b : Bool) → told_to table_rules n (table.after s e.0 e.1) (es ++ (n, o) ∷ []) ≡ told_to table_rules n (table.after s e.0 e.1) es ++ (o, table.reply (left table_rules (table.after s e.0 e.1) es) n o) ∷ []
        → cond b ((e.1, table.reply s e.0 e.1) ∷ told_to table_rules n (table.after s e.0 e.1) (es ++ (n, o) ∷ [])) (told_to table_rules n (table.after s e.0 e.1) (es ++ (n, o) ∷ []))
        ≡ cond b ((e.1, table.reply s e.0 e.1) ∷ told_to table_rules n (table.after s e.0 e.1) es) (told_to table_rules n (table.after s e.0 e.1) es) ++ (o, table.reply (left table_rules (table.after s e.0 e.1) es) n o) ∷ []
    by true h = ap (λ l. (e.1, table.reply s e.0 e.1) ∷ l) h
    by false h = h

fit_one : (h : History TableOperation) (n : ℕ) (o : TableOperation) → Fit h → OperationFits o → Fit (h ++ (n, o) ∷ [])
fit_one [] n o f g = (g, tt)
fit_one (x ∷ xs) n o f g = (f.0, fit_one xs n o f.1 g)

-- ---- The laws.

pub heard_none : (start : Table) (n : ℕ) → Heard start n [] []
heard_none start n = record { history = []; spells = record { spells = refl; fits = tt }; told_so = refl }

pub heard_once : (start : Table) (n : ℕ) (list : List Entry) (a b : List (TableOperation × Reply)) → Heard start n list a → Heard start n list b → a ≡ b
heard_once start n list a b x y = x.told_so ∙ (ap (told_to table_rules n start) (once x.history y.history x.spells.fits y.spells.fits (sym x.spells.spells ∙ y.spells.spells)) ∙ sym y.told_so)

pub heard_stays : (start end : SessionTable) (n : ℕ) (old new : List Entry) (told : List (TableOperation × Reply)) → Extends n old new → Stands MakesTable start new end → Heard start.table n old told → Heard start.table n new told
heard_stays start end n old new told x st h = let g = grown start end n old new told x st h in record { history = g.history; spells = g.spells; told_so = g.told_so }

pub made_heard : (start : SessionTable) (n call : ℕ) (old new : List Entry) (made told : List (TableOperation × Reply)) → Made start n call old new made → Heard start.table n old told → Heard start.table n new (told ++ made)
made_heard start n call old new [] told m h = subst (Heard start.table n new) (sym (append-nil told)) (heard_stays start m.0 n old new told m.1.others m.1.leads h)
made_heard start n call old new (x ∷ []) told m h =
    let g = grown start m.before n old m.list told m.turn.others m.turn.leads h in
    let o = x.0 in
    let reply_so : x.1 ≡ table.reply (left table_rules start.table g.history) n o = m.did.did.reply_so n ∙ ap (λ (s : Table). table.reply s n o) g.end_so in
    record {
      history = g.history ++ (n, o) ∷ [];
      spells = record {
        spells = ap (map pair) m.entered ∙ (map-append pair m.list (entry n (spelled_on_table o) ∷ []) ∙ (ap (λ l. l ++ (n, spelled_on_table o) ∷ []) g.spells.spells ∙ sym (map-append spelling g.history ((n, o) ∷ []))));
        fits = fit_one g.history n o g.spells.fits m.fits;
      };
      told_so =
          ap (λ (l : List (TableOperation × Reply)). l ++ x ∷ []) g.told_so
          ∙ (ap (λ (r : Reply). told_to table_rules n start.table g.history ++ (o, r) ∷ []) reply_so
          ∙ sym (told_one n o start.table g.history));
    }
made_heard start n call old new (x ∷ y ∷ more) told m h = absurd m
