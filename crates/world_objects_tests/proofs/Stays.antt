-- Objects of one key stay so, whatever is served.
use Rattle.std.proofs.Common.{◌≡◌, ℕ, zero, suc, ◌+◌, ◌*◌, ◌-◌, ◌≤◌, Bool, true, false, List, [], ◌∷◌, ◌++◌, Option, Some, None, length, take, drop, replicate, fold, cond, IfSome, IsSome, map, refl, sym, subst, arith, length-append}
use Rattle.std.proofs.lemmas.List.{length-drop, length-take}
use Rattle.faaslet_meaning.specs.declared.grant.Channel.{Channel}
use Rattle.faaslet_meaning.specs.declared.grant.Channel.TheVariants.{Local, Global, Table as OnTable}
use Rattle.faaslet_meaning.specs.Channels.{RegionOperation, as_region, Entry, Question, entries}
use Rattle.faaslet_meaning.specs.Lists.{changed}
use Rattle.faaslet_meaning.specs.Memory.{over}
use Rattle.faaslet_meaning.specs.Region.{Region, after, has_room}
use Rattle.world_objects.specs.Kept.{Kept, Objects, applied}
use Rattle.world_objects.specs.Served.{changed_at, entered_at, reply_at}
use Rattle.world_objects_tests.specs.Ready.{Ready, Row, Rows, Sized}

over_long : (xs : List ℕ) (at : ℕ) (new : List ℕ) → 4 ≤ length xs → 4 ≤ length (over xs at new)
over_long xs at new h = rw (length-append, length-append, length-take, length-drop) (omega (arith, h))

either : (b : Bool) (x y : Region) → Sized x → Sized y → Sized (cond b x y)
either true x y p q = p
either false x y p q = q

sized_after : (s : Region) (maker : ℕ) (o : RegionOperation) → Sized s → Sized (after s maker o)
sized_after s maker RegionOperation.probe h = h
sized_after s maker (RegionOperation.read off len) h = h
sized_after s maker (RegionOperation.send off len) h = h
sized_after s maker RegionOperation.size h = h
sized_after s maker (RegionOperation.fill bytes) h = either s.present _ _ h (h.0, over_long s.bytes 0 bytes h.1)
sized_after s maker (RegionOperation.write off bytes) h = (h.0, over_long s.bytes off bytes h.1)
sized_after s maker (RegionOperation.take off bytes) h = (h.0, over_long s.bytes off bytes h.1)
sized_after s maker (RegionOperation.put off bytes) h = (h.0, over_long s.bytes off bytes h.1)
sized_after s maker (RegionOperation.append bytes) h = either (has_room s bytes) _ _ (h.0, over_long s.bytes s.used bytes h.1) h
sized_after s maker RegionOperation.lock_read h = h
sized_after s maker RegionOperation.lock_write h = h
sized_after s maker RegionOperation.unlock h = h

row_after : (row : List Kept) (key maker : ℕ) (o : RegionOperation) → Row row → Row (changed row key (applied maker o))
row_after [] key maker o h = absurd h
row_after (x ∷ []) zero maker o h = sized_after x.region maker o h
row_after (x ∷ []) (suc key) maker o h = h
row_after (x ∷ y ∷ rest) key maker o h = absurd h

rows_after : (rows : List (List Kept)) (host key maker : ℕ) (o : RegionOperation) → Rows rows → Rows (changed rows host (λ row. changed row key (applied maker o)))
rows_after [] host key maker o h = absurd h
rows_after (a ∷ []) host key maker o h = absurd h
rows_after (a ∷ b ∷ []) zero key maker o h = (row_after a key maker o h.0, h.1)
rows_after (a ∷ b ∷ []) (suc zero) key maker o h = (h.0, row_after b key maker o h.1)
rows_after (a ∷ b ∷ []) (suc (suc host)) key maker o h = h
rows_after (a ∷ b ∷ c ∷ rest) host key maker o h = absurd h

changed_ready : (o : Objects) (host maker : ℕ) (ch : Channel) (p : RegionOperation) → Ready o → Ready (changed_at o host ch (applied maker p))
changed_ready o host maker (Local key) p h = (rows_after o.locals host key maker p h.0, h.1)
changed_ready o host maker (Global key) p h = (h.0, row_after o.globals key maker p h.1)
changed_ready o host maker OnTable p h = h

entered_ready : (o : Objects) (maker host : ℕ) (e : Entry) → Ready o → Ready (entered_at maker host o e)
entered_ready o maker host e h = by (as_region e.operation)
  where
    by : (p : Option RegionOperation) → Ready (elim p as (λ _. Objects) [ None ↦ o | Some x ↦ changed_at o host e.channel (applied maker x) ])
    by None = h
    by (Some x) = changed_ready o host maker e.channel x h

pub stays : (o : Objects) (maker host : ℕ) (es : List Entry) → Ready o → Ready (fold (entered_at maker host) o es)
stays o maker host [] h = h
stays o maker host (e ∷ es) h = stays (entered_at maker host o e) maker host es (entered_ready o maker host e h)

pub served : (o n : Objects) (maker host : ℕ) (q : Option Question) → Ready o → IsSome q → IfSome q (λ x. n ≡ fold (entered_at maker host) o (entries x (reply_at o maker host x))) → Ready n
served o n maker host None h i f = let no : ⊥ = cc in absurd no
served o n maker host (Some q) h i f = subst Ready (sym f) (stays o maker host (entries q (reply_at o maker host q)) h)
