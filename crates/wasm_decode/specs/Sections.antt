-- Taking one section after another into a module. This project's own: functions on lists, by which the sections are read;
-- that they take what the grammar spells is proved in `proofs/Modules`.
use Rattle.std.specs.Prelude.{ℕ, List, [], ◌∷◌, Option, Some, None, nat_lt, nat_le, ◌==◌, ◌&&◌, if◌then◌else◌}
use Rattle.faaslet_meaning.specs.declared.module.Module.{Module}
use Rattle.faaslet_meaning.specs.Grammar.{Section}
use Rattle.faaslet_meaning.specs.Reading.{◌>>=◌, unsigned_at, vec_at}
use Rattle.faaslet_meaning.specs.ModuleReading.{whole, name_at, func_type_at, import_at, table_type_at, limits_at, global_def_at, export_at, element_at, body_at, segment_at}
use Rattle.wasm_decode.specs.declared.sections.SoFar.{SoFar}

-- the last id other than 0 after a section with this id, which may stand there
unfoldable pub next_id : ℕ → ℕ → Option ℕ
next_id last id = if id == 0 then Some last else if nat_lt last id && nat_le id 11 then Some id else None

-- the module with the content of the section with this id
unfoldable pub filled : Module → ℕ → List ℕ → Option Module
filled m id c =
    if id == 0 then (name_at c >>= λ n. Some m)
    else if id == 1 then (whole (vec_at func_type_at c) >>= λ xs. Some (record m { types = xs }))
    else if id == 2 then (whole (vec_at import_at c) >>= λ xs. Some (record m { imports = xs }))
    else if id == 3 then (whole (vec_at (unsigned_at 32) c) >>= λ xs. Some (record m { functions = xs }))
    else if id == 4 then (whole (vec_at table_type_at c) >>= λ xs. Some (record m { tables = xs }))
    else if id == 5 then (whole (vec_at limits_at c) >>= λ xs. Some (record m { memories = xs }))
    else if id == 6 then (whole (vec_at global_def_at c) >>= λ xs. Some (record m { globals = xs }))
    else if id == 7 then (whole (vec_at export_at c) >>= λ xs. Some (record m { exports = xs }))
    else if id == 8 then (whole (unsigned_at 32 c) >>= λ f. Some (record m { start = Some f }))
    else if id == 9 then (whole (vec_at element_at c) >>= λ xs. Some (record m { elements = xs }))
    else if id == 10 then (whole (vec_at body_at c) >>= λ xs. Some (record m { bodies = xs }))
    else if id == 11 then (whole (vec_at segment_at c) >>= λ xs. Some (record m { segments = xs }))
    else None

-- what has been read, with one section more
unfoldable pub put : SoFar → ℕ → List ℕ → Option SoFar
put s id c = do
  last ← next_id s.last id
  built ← filled s.built id c
  Some (record { last = last; built = built })

-- the last id other than 0 of some sections
abbrev pub end_of : ℕ → List Section → ℕ
end_of last [] = last
end_of last (s ∷ rest) = end_of (if s.0 == 0 then last else s.0) rest

-- a module with nothing in it
abbrev pub no_module : Module
no_module = record { types = []; imports = []; functions = []; tables = []; memories = []; globals = []; exports = []; start = None; elements = []; bodies = []; segments = [] }
