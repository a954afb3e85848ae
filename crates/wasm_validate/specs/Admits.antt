-- The operand types that a stack with unknowns stands for, and the bodies whose rest is typed from them. This project's own.
use Rattle.std.specs.Prelude.{◌≡◌, Bool, true, false, ◌⊎◌, List, [], ◌∷◌, ◌++◌, Option, Some, None, map}
use Rattle.faaslet_meaning.specs.declared.instr.ValType.{ValType}
use Rattle.faaslet_meaning.specs.declared.instr.Instr.{Instr}
use Rattle.faaslet_meaning.specs.declared.instr.Instr.TheVariants.{Else, End}
use Rattle.faaslet_meaning.specs.Typing.{Context, Effect, Typed}
use Rattle.faaslet_meaning.specs.Tree.{Tree, written, types_of}
use Rattle.wasm_validate.specs.declared.kind.Kind.{Kind}
use Rattle.wasm_validate.specs.declared.kind.Kind.TheVariants.{Body, Again, Choice}
use Rattle.wasm_validate.specs.Frames.{Frame, label_of}

-- an unknown operand has any type
abbrev pub May : Option ValType → ValType → Type 0
May None t = Unit {0}
May (Some s) t = s ≡ t

-- below the operands of an unreachable block any others may stand
abbrev pub Admits : List (Option ValType) → Bool → List ValType → Type 0
Admits [] false ts = ts ≡ []
Admits [] true ts = Unit {0}
Admits (o ∷ os) u [] = ⊥
Admits (o ∷ os) u (t ∷ ts) = May o t × Admits os u ts

abbrev pub AdmitsSome : Option (List (Option ValType)) → Bool → List ValType → Type 0
AdmitsSome None u ts = ⊥
AdmitsSome (Some os) u ts = Admits os u ts

-- where these blocks are open
abbrev pub inside : Context → List Frame → Context
inside s fs = record s { labels = map (λ f. types_of (label_of f)) fs }

-- in a body, where one label is open, which has its results
abbrev pub of_body : Context → Context
of_body c = record c { labels = c.results ∷ [] }

-- what follows the instructions of a block: its end, or for the first side of an if its other side
abbrev pub Closes : Kind → Option ValType → Context → List Instr → List Instr → Type 0
Closes Body t c tail rest = tail ≡ End ∷ rest
Closes Again t c tail rest = tail ≡ End ∷ rest
Closes Choice t c tail rest = ((t ≡ None) × (tail ≡ End ∷ rest)) ⊎ ((d : Tree) × Typed d c (types_of t) [] × (tail ≡ Else ∷ (written d ++ (End ∷ rest))))

-- the code begins with the rest of a block, typed from operands that its stack admits, and after its end goes on as said
pub record Rest (c : Context) (k : Kind) (t : Option ValType) (u : Bool) (os : List (Option ValType)) (code : List Instr) (After : List Instr → Type 0) : Type 0 where
  pub tree : Tree
  pub tail : List Instr
  pub rest : List Instr
  pub types : List ValType
  pub code_is : code ≡ written tree ++ tail
  pub admits : Admits os u types
  pub typed : Typed tree c (types_of t) types
  pub closes : Closes k t c tail rest
  pub after : After rest

-- the code is the rest of a body, typed, where so many blocks are open and the innermost has the results of one that ended on its stack
abbrev pub Fits : Context → List ValType → List Frame → List Instr → Type 0
Fits s inner [] code = code ≡ []
Fits s inner (f ∷ fs) code = Rest (inside s (f ∷ fs)) f.kind f.ends f.unreachable (map (λ t. Some t) inner ++ f.operands) code (Fits s (types_of f.ends) fs)

abbrev pub FitsSome : Context → Option (List Frame) → List Instr → Type 0
FitsSome s None code = ⊥
FitsSome s (Some fs) code = Fits s [] fs code

abbrev pub Both : Type 0 → Type 0 → Type 0
Both A B = (A → B) × (B → A)

-- what the instruction leaves from the operand types that one stack admits is what the other admits
pub record Image (c : Context) (i : Instr) (u : Bool) (os : List (Option ValType)) (v : Bool) (made : Option (List (Option ValType))) : Type 0 where
  pub forth : (ts us : List ValType) → Admits os u ts → Effect c i ts us → AdmitsSome made v us
  pub back : (us : List ValType) → AdmitsSome made v us → (ts : List ValType) × Admits os u ts × Effect c i ts us
