-- What is printed of a session that is refused: of its file, of a function's module, and of all modules. This project's own.
use Rattle.std.specs.Prelude.{ℕ, List, ◌++◌, codes}
use Rattle.std.specs.Fmt.{decimal}
use Rattle.faaslet_meaning.specs.Report.{line}
use Rattle.session_meaning.specs.declared.fault.Kind.{Kind}
use Rattle.session_meaning.specs.declared.fault.Kind.TheVariants as kind
use Rattle.session_meaning.specs.declared.fault.SessionList.{SessionList}
use Rattle.session_meaning.specs.declared.fault.SessionList.TheVariants.{Keys, Functions, Requests, Session}
use Rattle.session_meaning.specs.SessionFile.{Refused}

abbrev pub kind_text : Kind → List ℕ
kind_text kind.Long = codes "long"
kind_text kind.Json = codes "json"
kind_text kind.Shape = codes "shape"
kind_text kind.Many = codes "many"
kind_text kind.Name = codes "name"
kind_text kind.Duplicate = codes "duplicate"
kind_text kind.Range = codes "range"
kind_text kind.Unknown = codes "unknown"
kind_text kind.StateBudget = codes "state-budget"
kind_text kind.PageBudget = codes "page-budget"
kind_text kind.Hex = codes "hex"

abbrev pub list_text : SessionList → List ℕ
list_text Keys = codes "keys"
list_text Functions = codes "functions"
list_text Requests = codes "requests"
list_text Session = codes "session"

-- `session KIND LIST I`
abbrev pub refused_line : Refused → List ℕ
refused_line r = line (codes "session " ++ kind_text r.kind ++ codes " " ++ list_text r.list ++ codes " " ++ decimal r.place)

-- the line of a module that is refused, with the name of its function before it
abbrev pub function_line : List ℕ → List ℕ → List ℕ
function_line name refusal = codes "function " ++ name ++ codes " " ++ refusal

-- the function at whose module the bytes of all modules pass their limit
abbrev pub modules_line : ℕ → List ℕ
modules_line place = line (codes "session module-budget functions " ++ decimal place)
