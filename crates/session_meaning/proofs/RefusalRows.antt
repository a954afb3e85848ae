-- Worked lines of sessions that are refused.
use Rattle.std.proofs.Common.{◌≡◌, refl}
use Rattle.std.specs.Prelude.{codes}
use Rattle.std.specs.Fmt.{digits}
use Rattle.faaslet_meaning.specs.Report.{line}
use Rattle.session_meaning.specs.declared.fault.Kind.TheVariants as kind
use Rattle.session_meaning.specs.declared.fault.SessionList.TheVariants.{Keys, Functions, Session}
use Rattle.session_meaning.specs.SessionFile.{refused}
use Rattle.session_meaning.specs.RefusalLines.{refused_line, function_line, modules_line}

no_json : refused_line (refused kind.Json Session 0) ≡ line (codes "session json session 0")
unfolding digits
no_json = refl

two_keys_of_one_name : refused_line (refused kind.Duplicate Keys 1) ≡ line (codes "session duplicate keys 1")
unfolding digits
two_keys_of_one_name = refl

unknown_key : refused_line (refused kind.Unknown Functions 0) ≡ line (codes "session unknown functions 0")
unfolding digits
unknown_key = refl

too_many_bytes : modules_line 3 ≡ line (codes "session module-budget functions 3")
unfolding digits
too_many_bytes = refl

of_a_function : function_line (codes "f") (line (codes "no main")) ≡ line (codes "function f no main")
of_a_function = refl
