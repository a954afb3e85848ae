-- What a borrowed entry stands for. This project's own.
use Rattle.std.specs.Prelude.{Option, Some, codes, map}
use Rattle.serde_json.specs.Data.{Data}
use Rattle.serde_json.specs.Find.{as_str}
use Rattle.session_meaning.specs.SessionText as text
use Rattle.session_meaning.specs.SessionText.{then_read, given_list}
use Rattle.session_file.specs.declared.entries.KeyText.{KeyText}
use Rattle.session_file.specs.declared.entries.GrantText.{GrantText}
use Rattle.session_file.specs.declared.entries.FunctionHead.{FunctionHead}
use Rattle.session_file.specs.declared.entries.FunctionText.{FunctionText}
use Rattle.session_file.specs.declared.entries.RequestText.{RequestText}
use Rattle.session_file.specs.declared.entries.SessionText.{SessionText}

abbrev pub key_text_of : KeyText → text.KeyText
key_text_of k = record { name = k.name.now; size = k.size; init = k.init.now }

abbrev pub grant_text_of : GrantText → text.GrantText
grant_text_of g = record { key = g.key.now; mode = g.mode }

-- the function whose lists are read of this value
abbrev pub head_then : Data → FunctionHead → Option text.FunctionText
head_then d h =
    then_read (given_list text.grant_text (codes "grants") d) λ grants.
    then_read (given_list as_str (codes "calls") d) λ calls.
    Some (record { name = h.name.now; path = h.path.now; quota = h.quota; fuel = h.fuel; room = h.room; grants = grants; calls = calls })

abbrev pub function_text_of : FunctionText → text.FunctionText
function_text_of f =
    record {
      name = f.head.name.now;
      path = f.head.path.now;
      quota = f.head.quota;
      fuel = f.head.fuel;
      room = f.head.room;
      grants = map grant_text_of f.grants.items;
      calls = map (λ s. s.now) f.calls.items;
    }

abbrev pub request_text_of : RequestText → text.RequestText
request_text_of r = record { label = r.label.now; function = r.function.now; host = r.host; input = r.input.now }

abbrev pub session_text_of : SessionText → text.SessionText
session_text_of s =
    record { hosts = s.hosts; workers = s.workers; keys = map key_text_of s.keys.items; functions = map function_text_of s.functions.items; requests = map request_text_of s.requests.items }
