use Rattle.std.proofs.Common.{◌≡◌, ◌++◌, drop, map, option_map}
use Rattle.serde_json.specs.View.{items_view}
use Rattle.session_meaning.specs.SessionText as text
use Rattle.session_file.proofs.lists.read_items.Given as goal

-- what was read, and then the rest
abbrev pub invariant-loop-value : goal.invariant-loop-value
invariant-loop-value g l =
    option_map (λ rest. map g.T.Item.text_of l.items.items ++ rest) (text.all_items g.T.Item.read_of (items_view (drop l.value-index l.values)))
    ≡ text.all_items g.T.Item.read_of (items_view l.values)
