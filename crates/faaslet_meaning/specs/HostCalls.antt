-- The host calls, in the order of their numbers: names, parameters, results, and the buffers that they have. This
-- project's own. All parameters are i32, read as unsigned.
use Rattle.std.specs.Prelude.{ℕ, List, [], ◌∷◌, Option, Some, None, position, codes, replicate}
use Rattle.std.specs.Prelude.{bytes_eq}
use Rattle.faaslet_meaning.specs.declared.instr.ValType.{ValType}
use Rattle.faaslet_meaning.specs.declared.instr.ValType.TheVariants.{I32, I64}
use Rattle.faaslet_meaning.specs.declared.module.FuncType.{FuncType}
use Rattle.faaslet_meaning.specs.Tree.{types_of}
use Rattle.faaslet_meaning.specs.declared.grant.Mode.{Mode}
use Rattle.faaslet_meaning.specs.declared.grant.Mode.TheVariants.{Read, Write}

-- A host call with its arguments: k is a place in the list of grants, f one in the list of callable functions, c a child.
pub data HostCall : Type 0 where
  state_size state_used get_state : (k : ℕ) → HostCall
  read_state set_state : (k off ptr len : ℕ) → HostCall
  push_state pull_state : (k : ℕ) → HostCall
  push_state_offset pull_state_offset : (k off len : ℕ) → HostCall
  append_state : (k ptr len : ℕ) → HostCall
  lock_state_read lock_state_write unlock_state : (k : ℕ) → HostCall
  lock_global_read lock_global_write unlock_global : (k : ℕ) → HostCall
  input_size : HostCall
  read_input : (off ptr len : ℕ) → HostCall
  write_output : (ptr len : ℕ) → HostCall
  chain_call : (f ptr len : ℕ) → HostCall
  await_call output_size : (c : ℕ) → HostCall
  read_output : (c off ptr len : ℕ) → HostCall

-- a call made of so many arguments
pub data Form : Type 0 where
  of_none : HostCall → Form
  of_one : (ℕ → HostCall) → Form
  of_two : (ℕ → ℕ → HostCall) → Form
  of_three : (ℕ → ℕ → ℕ → HostCall) → Form
  of_four : (ℕ → ℕ → ℕ → ℕ → HostCall) → Form

abbrev pub arity : Form → ℕ
arity (of_none h) = 0
arity (of_one h) = 1
arity (of_two h) = 2
arity (of_three h) = 3
arity (of_four h) = 4

abbrev pub made : Form → List ℕ → Option HostCall
made (of_none h) [] = Some h
made (of_one h) (x ∷ []) = Some (h x)
made (of_two h) (x ∷ y ∷ []) = Some (h x y)
made (of_three h) (x ∷ y ∷ z ∷ []) = Some (h x y z)
made (of_four h) (x ∷ y ∷ z ∷ u ∷ []) = Some (h x y z u)
made _ _ = None

pub record HostRow : Type 0 where
  pub name : List ℕ
  pub form : Form
  pub result : Option ValType

abbrev pub row : List ℕ → Form → Option ValType → HostRow
row name form result = record { name = name; form = form; result = result }

abbrev pub host_rows : List HostRow
host_rows =
    row (codes "state_size") (of_one state_size) (Some I32)
    ∷ row (codes "state_used") (of_one state_used) (Some I32)
    ∷ row (codes "get_state") (of_one get_state) (Some I32)
    ∷ row (codes "read_state") (of_four read_state) None
    ∷ row (codes "set_state") (of_four set_state) None
    ∷ row (codes "push_state") (of_one push_state) None
    ∷ row (codes "pull_state") (of_one pull_state) None
    ∷ row (codes "push_state_offset") (of_three push_state_offset) None
    ∷ row (codes "pull_state_offset") (of_three pull_state_offset) None
    ∷ row (codes "append_state") (of_three append_state) (Some I32)
    ∷ row (codes "lock_state_read") (of_one lock_state_read) None
    ∷ row (codes "lock_state_write") (of_one lock_state_write) None
    ∷ row (codes "unlock_state") (of_one unlock_state) None
    ∷ row (codes "lock_global_read") (of_one lock_global_read) None
    ∷ row (codes "lock_global_write") (of_one lock_global_write) None
    ∷ row (codes "unlock_global") (of_one unlock_global) None
    ∷ row (codes "input_size") (of_none input_size) (Some I32)
    ∷ row (codes "read_input") (of_three read_input) None
    ∷ row (codes "write_output") (of_two write_output) None
    ∷ row (codes "chain_call") (of_three chain_call) (Some I32)
    ∷ row (codes "await_call") (of_one await_call) (Some I64)
    ∷ row (codes "output_size") (of_one output_size) (Some I32)
    ∷ row (codes "read_output") (of_four read_output) None
    ∷ []

-- the module that they are imported from
abbrev pub host_module : List ℕ
host_module = codes "faasm"

-- all parameters are i32
abbrev pub type_of_row : HostRow → FuncType
type_of_row r = record { params = replicate (arity r.form) I32; results = types_of r.result }

-- the number of the host call of this name
abbrev pub number_of : List ℕ → Option ℕ
number_of name = position (λ r. bytes_eq r.name name) host_rows

-- A buffer in linear memory. Shared pieces of a buffer in need Read, those of a buffer out Write.
pub record Buffer : Type 0 where
  pub ptr : ℕ
  pub len : ℕ
  pub needs : Mode

abbrev pub buffer_in : ℕ → ℕ → Option Buffer
buffer_in ptr len = Some (record { ptr = ptr; len = len; needs = Read })

abbrev pub buffer_out : ℕ → ℕ → Option Buffer
buffer_out ptr len = Some (record { ptr = ptr; len = len; needs = Write })

abbrev pub buffer_of : HostCall → Option Buffer
buffer_of (read_state k off ptr len) = buffer_out ptr len
buffer_of (set_state k off ptr len) = buffer_in ptr len
buffer_of (append_state k ptr len) = buffer_in ptr len
buffer_of (read_input off ptr len) = buffer_out ptr len
buffer_of (write_output ptr len) = buffer_in ptr len
buffer_of (chain_call f ptr len) = buffer_in ptr len
buffer_of (read_output c off ptr len) = buffer_out ptr len
buffer_of _ = None
