use Rattle.std.proofs.Common.{◌≡◌, drop, length, map}
use Rattle.session_meaning.specs.SessionFile as file
use Rattle.session_file.specs.Grown.{Grown}
use Rattle.session_file.specs.Texts.{request_text_of}
use Rattle.session_file.proofs.fill.add_requests.Given as goal

-- the rest decides, and places are those of the registry
abbrev pub invariant-loop-request : goal.invariant-loop-request
invariant-loop-request l = record {
  place : l.request-index ≡ length l.registry.requests;
  sizes : Grown 0 0 l.request-index l.initial.registry l.registry;
  rest :
      file.in_turn l.request-index file.add_request l.registry (map request_text_of (drop l.request-index l.requests))
      ≡ file.in_turn 0 file.add_request l.initial.registry (map request_text_of l.requests);
}
