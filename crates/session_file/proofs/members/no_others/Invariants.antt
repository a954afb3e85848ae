use Rattle.std.proofs.Common.{◌≡◌, map, string_bytes}
use Rattle.std.specs.List.{list_all, list_any}
use Rattle.std.specs.Str.{bytes_eq}
use Rattle.serde_json.specs.View.{members_view}
use Rattle.session_meaning.specs.SessionText as text
use Rattle.session_file.proofs.members.no_others.Given as goal

-- the rest decides
abbrev pub invariant-loop-name : goal.invariant-loop-name
invariant-loop-name l =
    list_all (λ k. list_any (bytes_eq (string_bytes k)) (map (λ n. n.now) l.names)) l.name-iterator
    ≡ text.no_others (map (λ n. n.now) l.names) (members_view l.members.entries)
