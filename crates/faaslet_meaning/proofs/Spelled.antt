-- Worked examples of the binary grammar: numbers, expressions and modules, and the bytes that spell them.
use Rattle.std.proofs.Common.{◌≡◌, ℕ, pos, negsuc, ◌<◌, true, false, List, [], ◌∷◌, ◌++◌, length, codes, Some, None, refl, sym, ap, subst, inl, inr, lit<, lit≤, arith, append-nil}
use Rattle.std.specs.Prelude.{IsUtf8}
use lib.Utf8.{encode}
use Rattle.faaslet_meaning.specs.declared.instr.ValType.TheVariants.{I32, I64, F32}
use Rattle.faaslet_meaning.specs.declared.instr.Instr.{Instr}
use Rattle.faaslet_meaning.specs.declared.instr.Instr.TheVariants.{Block, Loop, If, Else, End, Br, Drop, I32Const}
use Rattle.faaslet_meaning.specs.declared.module.ImportKind.TheVariants as imported
use Rattle.faaslet_meaning.specs.declared.module.ExportKind.TheVariants.{Function, Global}
use Rattle.faaslet_meaning.specs.declared.module.LocalGroup.{LocalGroup}
use Rattle.faaslet_meaning.specs.declared.module.Module.{Module}
use Rattle.faaslet_meaning.specs.Productions.{◌⨾◌, Nothing, IsMany, NoFront}
use Rattle.faaslet_meaning.specs.Numbers.{IsU32, IsS32, IsVec}
use Rattle.faaslet_meaning.specs.Tree.{Tree, stop, plain, block, loop, if_else, IsWritten}
use Rattle.faaslet_meaning.specs.Instructions.{IsValType, IsInstr, IsSequence, IsExpression}
use Rattle.faaslet_meaning.specs.Grammar.{IsBlob, IsSized, IsName, IsFuncType, IsImport, IsExport, IsCodeEntry, Section, IsSection, IsCustom, IsRising, Holds, header, IsModule}
use Rattle.faaslet_meaning.specs.Floats.{has_float}
use Rattle.faaslet_meaning.specs.Reading.{byte_at, unsigned_at, signed_at, instr_at, block_at, block_type_at, bare_at}
use Rattle.faaslet_meaning.specs.ModuleReading.{blob_at, section_at, flats_at, expression_at}
use Rattle.faaslet_meaning.proofs.Readers.{none_is_none}
use Rattle.faaslet_meaning.proofs.NumberReaders.{unsigned_reads, signed_reads}
use Rattle.faaslet_meaning.proofs.BodyReaders.{expression_reads}
use Rattle.faaslet_meaning.proofs.OneModule.{same_sections, part_once, unread}

-- ---- what the examples are made of

-- one spelling after another
then : {P Q : List ℕ → Type 0} (a b : List ℕ) → P a → Q b → (P ⨾ Q) (a ++ b)
then a b p q = record { front = a; back = b; parts = refl; first = p; second = q }

-- a byte, and what follows it
byte : {Q : List ℕ → Type 0} (k : ℕ) (b : List ℕ) → Q b → ((λ bytes. bytes ≡ k ∷ []) ⨾ Q) (k ∷ b)
byte k b q = record { front = k ∷ []; back = b; parts = refl; first = refl; second = q }

-- a production, and nothing behind it
last : {P : List ℕ → Type 0} (a : List ℕ) → P a → (P ⨾ Nothing) a
last a p = record { front = a; back = []; parts = sym (append-nil a); first = p; second = refl }

-- a number below 128 in one byte
short : (n : ℕ) → n < 128 → IsU32 n (n ∷ [])
short n small = (small, omega (arith, small), refl)

zero_in_one : IsU32 0 (0 ∷ [])
zero_in_one = short 0 (lit< tt)

one_in_one : IsU32 1 (1 ∷ [])
one_in_one = short 1 (lit< tt)

-- a size below 128, and so many bytes
blob : (content : List ℕ) → length content < 128 → IsBlob content (length content ∷ content)
blob content small = then (length content ∷ []) content (short (length content) small) refl

sized : {A : Type 0} (P : A → List ℕ → Type 0) (x : A) (content : List ℕ) → length content < 128 → P x content → IsSized P x (length content ∷ content)
sized P x content small p = record { content = content; blob = blob content small; means = p }

section : (id : ℕ) (content : List ℕ) → length content < 128 → IsSection (id, content) (id ∷ length content ∷ content)
section id content small = byte id (length content ∷ content) (blob content small)

-- sections of fewer than 128 bytes, with each size in one byte
abbrev AllShort : List Section → Type 0
AllShort [] = Unit {0}
AllShort (s ∷ ss) = (length s.1 < 128) × AllShort ss

abbrev short_text : List Section → List ℕ
short_text [] = []
short_text (s ∷ ss) = (s.0 ∷ length s.1 ∷ s.1) ++ short_text ss

short_sections : (ss : List Section) → AllShort ss → IsMany IsSection ss (short_text ss)
short_sections [] small = refl
short_sections (s ∷ ss) small = then (s.0 ∷ length s.1 ∷ s.1) (short_text ss) (section s.0 s.1 small.0) (short_sections ss small.1)

-- ---- numbers

-- 42 in one byte, and with two bytes more than it needs
forty_two : IsS32 (pos 42) (0x2A ∷ [])
forty_two = inl (lit< tt, lit< tt, refl)

padded : IsS32 (pos 42) (0xAA ∷ 0x80 ∷ 0x00 ∷ [])
padded = (lit< tt, lit≤ tt, pos 0, refl, (lit< tt, lit≤ tt, pos 0, refl, inl (lit< tt, lit< tt, refl)))

-- -1 in one byte
minus_one : IsS32 (negsuc 0) (0x7F ∷ [])
minus_one = inr (lit≤ tt, lit< tt, lit≤ tt, refl)

-- -2147483648 in five bytes
smallest : IsS32 (negsuc 2147483647) (0x80 ∷ 0x80 ∷ 0x80 ∷ 0x80 ∷ 0x78 ∷ [])
smallest = (lit< tt, lit≤ tt, negsuc 16777215, refl, (lit< tt, lit≤ tt, negsuc 131071, refl, (lit< tt, lit≤ tt, negsuc 1023, refl, (lit< tt, lit≤ tt, negsuc 7, refl, inr (lit≤ tt, lit< tt, lit≤ tt, refl)))))

-- 0 in all five bytes
zero_in_five : IsU32 0 (0x80 ∷ 0x80 ∷ 0x80 ∷ 0x80 ∷ 0x00 ∷ [])
zero_in_five = (lit< tt, lit≤ tt, 0, refl, (lit< tt, lit≤ tt, 0, refl, (lit< tt, lit≤ tt, 0, refl, (lit< tt, lit≤ tt, 0, refl, (lit< tt, lit< tt, refl)))))

-- the unused bits of a fifth byte are 0, and there is no sixth
no_wide_last : (n : ℕ) → IsU32 n (0x80 ∷ 0x80 ∷ 0x80 ∷ 0x80 ∷ 0x10 ∷ []) → ⊥
no_wide_last n p = let h : 16 < 16 = p.4.4.4.4.1 in omega arith

no_sixth : (n : ℕ) → IsU32 n (0x80 ∷ 0x80 ∷ 0x80 ∷ 0x80 ∷ 0x80 ∷ 0x00 ∷ []) → ⊥
no_sixth n p = let h : 7 < 4 = p.4.4.4.4.0 in omega arith

-- those of a signed number are copies of its sign
no_mixed_signs : NoFront IsS32 (0xFF ∷ 0xFF ∷ 0xFF ∷ 0xFF ∷ 0x4F ∷ [])
unfolding signed_at
no_mixed_signs = none_is_none IsS32 (signed_at 32) _ (signed_reads 32) refl

-- ---- expressions

-- A block with a loop and an if in it. The loop's branch goes back to its own beginning.
abbrev nested : Tree
nested =
    block None (loop None (plain (Br 0) stop) (plain (I32Const (pos 1)) (if_else (Some I32) (plain (I32Const (pos 2)) stop) (plain (I32Const (pos 3)) stop) (plain Drop stop)))) stop

abbrev nested_code : List Instr
nested_code = Block None ∷ Loop None ∷ Br 0 ∷ End ∷ I32Const (pos 1) ∷ If (Some I32) ∷ I32Const (pos 2) ∷ Else ∷ I32Const (pos 3) ∷ End ∷ Drop ∷ End ∷ End ∷ []

constant : (n : ℕ) → n < 64 → IsInstr (I32Const (pos n)) (0x41 ∷ n ∷ [])
constant n small = byte 0x41 (n ∷ []) (inl (small, omega (arith, small), refl))

branches : IsSequence (if_else (Some I32) (plain (I32Const (pos 2)) stop) (plain (I32Const (pos 3)) stop) (plain Drop stop)) (0x04 ∷ 0x7F ∷ 0x41 ∷ 0x02 ∷ 0x05 ∷ 0x41 ∷ 0x03 ∷ 0x0B ∷ 0x1A ∷ [])
branches = byte 0x04 _ (byte 0x7F _ (then (0x41 ∷ 0x02 ∷ []) _ (last _ (constant 2 (lit< tt))) (byte 0x05 _ (then (0x41 ∷ 0x03 ∷ []) _ (last _ (constant 3 (lit< tt))) (byte 0x0B _ (last _ refl))))))

looped : IsSequence (loop None (plain (Br 0) stop) (plain (I32Const (pos 1)) (if_else (Some I32) (plain (I32Const (pos 2)) stop) (plain (I32Const (pos 3)) stop) (plain Drop stop)))) (0x03 ∷ 0x40 ∷ 0x0C ∷ 0x00 ∷ 0x0B ∷ 0x41 ∷ 0x01 ∷ 0x04 ∷ 0x7F ∷ 0x41 ∷ 0x02 ∷ 0x05 ∷ 0x41 ∷ 0x03 ∷ 0x0B ∷ 0x1A ∷ [])
looped = byte 0x03 _ (byte 0x40 _ (then (0x0C ∷ 0x00 ∷ []) _ (last _ (byte 0x0C _ zero_in_one)) (byte 0x0B _ (then (0x41 ∷ 0x01 ∷ []) _ (constant 1 (lit< tt)) branches))))

nested_spelled : IsExpression nested_code (0x02 ∷ 0x40 ∷ 0x03 ∷ 0x40 ∷ 0x0C ∷ 0x00 ∷ 0x0B ∷ 0x41 ∷ 0x01 ∷ 0x04 ∷ 0x7F ∷ 0x41 ∷ 0x02 ∷ 0x05 ∷ 0x41 ∷ 0x03 ∷ 0x0B ∷ 0x1A ∷ 0x0B ∷ 0x0B ∷ [])
nested_spelled = record {
  tree = nested;
  spells = then (0x02 ∷ 0x40 ∷ 0x03 ∷ 0x40 ∷ 0x0C ∷ 0x00 ∷ 0x0B ∷ 0x41 ∷ 0x01 ∷ 0x04 ∷ 0x7F ∷ 0x41 ∷ 0x02 ∷ 0x05 ∷ 0x41 ∷ 0x03 ∷ 0x0B ∷ 0x1A ∷ 0x0B ∷ []) (0x0B ∷ []) (byte 0x02 _ (byte 0x40 _ (then (0x03 ∷ 0x40 ∷ 0x0C ∷ 0x00 ∷ 0x0B ∷ 0x41 ∷ 0x01 ∷ 0x04 ∷ 0x7F ∷ 0x41 ∷ 0x02 ∷ 0x05 ∷ 0x41 ∷ 0x03 ∷ 0x0B ∷ 0x1A ∷ []) _ looped (last _ refl)))) refl;
  flat = refl;
}

nested_written : IsWritten nested_code nested
nested_written = record { plain = (((tt, tt), (tt, ((tt, tt), (tt, tt), (tt, tt)))), tt); flat = refl }

-- no else in a block, and no second one in an if
no_else_in_a_block : NoFront IsExpression (0x02 ∷ 0x40 ∷ 0x05 ∷ 0x0B ∷ 0x0B ∷ [])
unfolding expression_at flats_at instr_at byte_at block_at block_type_at bare_at
no_else_in_a_block = none_is_none IsExpression expression_at _ expression_reads refl

no_second_else : NoFront IsExpression (0x04 ∷ 0x40 ∷ 0x05 ∷ 0x05 ∷ 0x0B ∷ 0x0B ∷ [])
unfolding expression_at flats_at instr_at byte_at block_at block_type_at bare_at
no_second_else = none_is_none IsExpression expression_at _ expression_reads refl

-- ---- modules

abbrev empty_module : Module
empty_module = record { types = []; imports = []; functions = []; tables = []; memories = []; globals = []; exports = []; start = None; elements = []; bodies = []; segments = [] }

-- the header alone, and custom sections behind it
empty_spelled : IsModule empty_module header
empty_spelled = record {
  sections = [];
  spells = last header refl;
  rising = tt;
  holds = record { types = refl; imports = refl; functions = refl; tables = refl; memories = refl; globals = refl; exports = refl; start = refl; elements = refl; bodies = refl; segments = refl };
  counts = refl;
}

named : IsCustom (0x01 ∷ 0x6E ∷ 0xFF ∷ [])
unfolding encode
named = record { name = codes "n"; rest = 0xFF ∷ []; spells = then (0x01 ∷ 0x6E ∷ []) (0xFF ∷ []) ((codes "n", (refl, refl)), blob (codes "n") (lit< tt)) refl }

customs_spelled : IsModule empty_module (header ++ 0x00 ∷ 0x03 ∷ 0x01 ∷ 0x6E ∷ 0xFF ∷ 0x00 ∷ 0x03 ∷ 0x01 ∷ 0x6E ∷ 0xFF ∷ [])
customs_spelled = record {
  sections = (0, 0x01 ∷ 0x6E ∷ 0xFF ∷ []) ∷ (0, 0x01 ∷ 0x6E ∷ 0xFF ∷ []) ∷ [];
  spells = then header _ refl (then (0x00 ∷ 0x03 ∷ 0x01 ∷ 0x6E ∷ 0xFF ∷ []) _ custom (last _ custom));
  rising = inl (refl, named, inl (refl, named, tt));
  holds = record { types = refl; imports = refl; functions = refl; tables = refl; memories = refl; globals = refl; exports = refl; start = refl; elements = refl; bodies = refl; segments = refl };
  counts = refl;
}
  where
    custom : IsSection (0, 0x01 ∷ 0x6E ∷ 0xFF ∷ []) (0x00 ∷ 0x03 ∷ 0x01 ∷ 0x6E ∷ 0xFF ∷ [])
    custom = section 0 (0x01 ∷ 0x6E ∷ 0xFF ∷ []) (lit< tt)

-- One function `main` from nothing to an i32, which returns 42, with these locals.
abbrev module_with : List LocalGroup → Module
module_with locals = record empty_module {
  types = record { params = []; results = I32 ∷ [] } ∷ [];
  functions = 0 ∷ [];
  exports = record { name = codes "main"; kind = Function; index = 0 } ∷ [];
  bodies = record { locals = locals; code = I32Const (pos 42) ∷ End ∷ [] } ∷ [];
}

abbrev types_content : List ℕ
types_content = 0x01 ∷ 0x60 ∷ 0x00 ∷ 0x01 ∷ 0x7F ∷ []

abbrev functions_content : List ℕ
functions_content = 0x01 ∷ 0x00 ∷ []

abbrev exports_content : List ℕ
exports_content = 0x01 ∷ 0x04 ∷ 0x6D ∷ 0x61 ∷ 0x69 ∷ 0x6E ∷ 0x00 ∷ 0x00 ∷ []

-- the first three sections
abbrev before_code : List ℕ
before_code = 0x01 ∷ 0x05 ∷ 0x01 ∷ 0x60 ∷ 0x00 ∷ 0x01 ∷ 0x7F ∷ 0x03 ∷ 0x02 ∷ 0x01 ∷ 0x00 ∷ 0x07 ∷ 0x08 ∷ 0x01 ∷ 0x04 ∷ 0x6D ∷ 0x61 ∷ 0x69 ∷ 0x6E ∷ 0x00 ∷ 0x00 ∷ []

abbrev sections_before : List Section
sections_before = (1, types_content) ∷ (3, functions_content) ∷ (7, exports_content) ∷ []

types_spelled : IsVec IsFuncType (module_with []).types types_content
types_spelled = then (1 ∷ []) _ one_in_one (last _ (byte 0x60 _ (then (0 ∷ []) _ (last _ zero_in_one) (then (1 ∷ []) (0x7F ∷ []) one_in_one (last _ refl)))))

functions_spelled : IsVec IsU32 (0 ∷ []) functions_content
functions_spelled = then (1 ∷ []) _ one_in_one (last _ zero_in_one)

exports_spelled : IsVec IsExport (module_with []).exports exports_content
unfolding encode
exports_spelled = then (1 ∷ []) _ one_in_one (last _ (then (0x04 ∷ 0x6D ∷ 0x61 ∷ 0x69 ∷ 0x6E ∷ []) _ ((codes "main", (refl, refl)), blob (codes "main") (lit< tt)) (then (0 ∷ []) (0 ∷ []) refl zero_in_one)))

before_spelled : IsMany IsSection sections_before before_code
before_spelled = then (0x01 ∷ 0x05 ∷ types_content) _ (section 1 types_content (lit< tt)) (then (0x03 ∷ 0x02 ∷ functions_content) _ (section 3 functions_content (lit< tt)) (last _ (section 7 exports_content (lit< tt))))

-- a module of these sections and a code section with one body
with_code : (locals : List LocalGroup) (content : List ℕ) → length content < 128 → IsVec IsCodeEntry (module_with locals).bodies content → IsModule (module_with locals) (header ++ (before_code ++ 0x0A ∷ length content ∷ content))
with_code locals content small body = record {
  sections = (1, types_content) ∷ (3, functions_content) ∷ (7, exports_content) ∷ (10, content) ∷ [];
  spells = then header _ refl (then (0x01 ∷ 0x05 ∷ types_content) _ (section 1 types_content (lit< tt)) (then (0x03 ∷ 0x02 ∷ functions_content) _ (section 3 functions_content (lit< tt)) (then (0x07 ∷ 0x08 ∷ exports_content) _ (section 7 exports_content (lit< tt)) (last _ (section 10 content small)))));
  rising = inr (lit< tt, lit≤ tt, inr (lit< tt, lit≤ tt, inr (lit< tt, lit≤ tt, inr (lit< tt, lit≤ tt, tt))));
  holds = record { types = types_spelled; imports = refl; functions = functions_spelled; tables = refl; memories = refl; globals = refl; exports = exports_spelled; start = refl; elements = refl; bodies = body; segments = refl };
  counts = refl;
}

one_constant : (n : ℕ) → n < 64 → IsExpression (I32Const (pos n) ∷ End ∷ []) (0x41 ∷ n ∷ 0x0B ∷ [])
one_constant n small = record { tree = plain (I32Const (pos n)) stop; spells = then (0x41 ∷ n ∷ []) (0x0B ∷ []) (last _ (constant n small)) refl; flat = refl }

returned : IsExpression (I32Const (pos 42) ∷ End ∷ []) (0x41 ∷ 0x2A ∷ 0x0B ∷ [])
returned = one_constant 42 (lit< tt)

-- without locals, in 37 bytes
returns_42 : IsModule (module_with []) (header ++ (before_code ++ 0x0A ∷ 0x06 ∷ 0x01 ∷ 0x04 ∷ 0x00 ∷ 0x41 ∷ 0x2A ∷ 0x0B ∷ []))
returns_42 = with_code [] (0x01 ∷ 0x04 ∷ 0x00 ∷ 0x41 ∷ 0x2A ∷ 0x0B ∷ []) (lit< tt) (then (1 ∷ []) _ one_in_one (last _ (sized _ _ (0x00 ∷ 0x41 ∷ 0x2A ∷ 0x0B ∷ []) (lit< tt) (lit< tt, then (0 ∷ []) _ (last _ zero_in_one) returned))))

its_bytes : length (header ++ (before_code ++ 0x0A ∷ 0x06 ∷ 0x01 ∷ 0x04 ∷ 0x00 ∷ 0x41 ∷ 0x2A ∷ 0x0B ∷ [])) ≡ 37
its_bytes = refl

no_float_in_it : has_float (module_with []) ≡ false
no_float_in_it = refl

-- with one local, an f32
one_f32 : IsModule (module_with (record { count = 1; kind = F32 } ∷ [])) (header ++ (before_code ++ 0x0A ∷ 0x08 ∷ 0x01 ∷ 0x06 ∷ 0x01 ∷ 0x01 ∷ 0x7D ∷ 0x41 ∷ 0x2A ∷ 0x0B ∷ []))
one_f32 = with_code (record { count = 1; kind = F32 } ∷ []) (0x01 ∷ 0x06 ∷ 0x01 ∷ 0x01 ∷ 0x7D ∷ 0x41 ∷ 0x2A ∷ 0x0B ∷ []) (lit< tt) (then (1 ∷ []) _ one_in_one (last _ (sized _ _ (0x01 ∷ 0x01 ∷ 0x7D ∷ 0x41 ∷ 0x2A ∷ 0x0B ∷ []) (lit< tt) (lit< tt, then (1 ∷ 1 ∷ 0x7D ∷ []) _ (then (1 ∷ []) _ one_in_one (last _ (then (1 ∷ []) (0x7D ∷ []) one_in_one refl))) returned))))

float_in_it : has_float (module_with (record { count = 1; kind = F32 } ∷ [])) ≡ true
float_in_it = refl

-- ---- a module with each section

abbrev full_module : Module
full_module = record {
  types = record { params = I32 ∷ []; results = I32 ∷ [] } ∷ [];
  imports = record { «module» = codes "m"; name = codes "f"; kind = imported.Function 0 } ∷ record { «module» = codes "m"; name = codes "g"; kind = imported.Global (record { value = I64; mutable = false }) } ∷ [];
  functions = 0 ∷ [];
  tables = record { min = 1; max = None } ∷ [];
  memories = record { min = 1; max = Some 2 } ∷ [];
  globals = record { kind = record { value = I32; mutable = true }; init = I32Const (pos 5) ∷ End ∷ [] } ∷ [];
  exports = record { name = codes "g"; kind = Global; index = 1 } ∷ [];
  start = Some 1;
  elements = record { table = 0; offset = I32Const (pos 0) ∷ End ∷ []; functions = 1 ∷ [] } ∷ [];
  bodies = record { locals = []; code = I32Const (pos 7) ∷ End ∷ [] } ∷ [];
  segments = record { memory = 0; offset = I32Const (pos 3) ∷ End ∷ []; bytes = 0xFF ∷ 0x00 ∷ [] } ∷ [];
}

abbrev full_sections : List Section
full_sections =
    (1, 0x01 ∷ 0x60 ∷ 0x01 ∷ 0x7F ∷ 0x01 ∷ 0x7F ∷ [])
    ∷ (2, 0x02 ∷ 0x01 ∷ 0x6D ∷ 0x01 ∷ 0x66 ∷ 0x00 ∷ 0x00 ∷ 0x01 ∷ 0x6D ∷ 0x01 ∷ 0x67 ∷ 0x03 ∷ 0x7E ∷ 0x00 ∷ [])
    ∷ (3, 0x01 ∷ 0x00 ∷ [])
    ∷ (4, 0x01 ∷ 0x70 ∷ 0x00 ∷ 0x01 ∷ [])
    ∷ (5, 0x01 ∷ 0x01 ∷ 0x01 ∷ 0x02 ∷ [])
    ∷ (6, 0x01 ∷ 0x7F ∷ 0x01 ∷ 0x41 ∷ 0x05 ∷ 0x0B ∷ [])
    ∷ (7, 0x01 ∷ 0x01 ∷ 0x67 ∷ 0x03 ∷ 0x01 ∷ [])
    ∷ (8, 0x01 ∷ [])
    ∷ (9, 0x01 ∷ 0x00 ∷ 0x41 ∷ 0x00 ∷ 0x0B ∷ 0x01 ∷ 0x01 ∷ [])
    ∷ (10, 0x01 ∷ 0x04 ∷ 0x00 ∷ 0x41 ∷ 0x07 ∷ 0x0B ∷ [])
    ∷ (11, 0x01 ∷ 0x00 ∷ 0x41 ∷ 0x03 ∷ 0x0B ∷ 0x02 ∷ 0xFF ∷ 0x00 ∷ [])
    ∷ []

letter : (c : ℕ) → IsUtf8 (c ∷ []) → IsName (c ∷ []) (0x01 ∷ c ∷ [])
letter c utf8 = (utf8, blob (c ∷ []) (lit< tt))

full_imports : IsVec IsImport full_module.imports (0x02 ∷ 0x01 ∷ 0x6D ∷ 0x01 ∷ 0x66 ∷ 0x00 ∷ 0x00 ∷ 0x01 ∷ 0x6D ∷ 0x01 ∷ 0x67 ∷ 0x03 ∷ 0x7E ∷ 0x00 ∷ [])
unfolding encode
full_imports = then (2 ∷ []) _ (short 2 (lit< tt)) (then (0x01 ∷ 0x6D ∷ 0x01 ∷ 0x66 ∷ 0x00 ∷ 0x00 ∷ []) _ function (last _ global))
  where
    m : IsName (codes "m") (0x01 ∷ 0x6D ∷ [])
    m = letter 0x6D (codes "m", (refl, refl))

    function : IsImport (record { «module» = codes "m"; name = codes "f"; kind = imported.Function 0 }) (0x01 ∷ 0x6D ∷ 0x01 ∷ 0x66 ∷ 0x00 ∷ 0x00 ∷ [])
    function = then (0x01 ∷ 0x6D ∷ []) _ m (then (0x01 ∷ 0x66 ∷ []) _ (letter 0x66 (codes "f", (refl, refl))) (byte 0x00 _ zero_in_one))

    global : IsImport (record { «module» = codes "m"; name = codes "g"; kind = imported.Global (record { value = I64; mutable = false }) }) (0x01 ∷ 0x6D ∷ 0x01 ∷ 0x67 ∷ 0x03 ∷ 0x7E ∷ 0x00 ∷ [])
    global = then (0x01 ∷ 0x6D ∷ []) _ m (then (0x01 ∷ 0x67 ∷ []) _ (letter 0x67 (codes "g", (refl, refl))) (byte 0x03 _ (byte 0x7E (0x00 ∷ []) refl)))

full_holds : Holds full_sections full_module
unfolding encode
full_holds = record {
  types = then (1 ∷ []) _ one_in_one (last _ (byte 0x60 _ (then (1 ∷ 0x7F ∷ []) (1 ∷ 0x7F ∷ []) i32 i32)));
  imports = full_imports;
  functions = functions_spelled;
  tables = then (1 ∷ []) _ one_in_one (last _ (byte 0x70 _ (byte 0x00 _ one_in_one)));
  memories = then (1 ∷ []) _ one_in_one (last _ (byte 0x01 _ (then (1 ∷ []) _ one_in_one (short 2 (lit< tt)))));
  globals = then (1 ∷ []) _ one_in_one (last _ (then (0x7F ∷ 0x01 ∷ []) _ (byte 0x7F (0x01 ∷ []) refl) (one_constant 5 (lit< tt))));
  exports = then (1 ∷ []) _ one_in_one (last _ (then (0x01 ∷ 0x67 ∷ []) _ (letter 0x67 (codes "g", (refl, refl))) (byte 0x03 _ one_in_one)));
  start = one_in_one;
  elements = then (1 ∷ []) _ one_in_one (last _ (then (0 ∷ []) _ zero_in_one (then (0x41 ∷ 0x00 ∷ 0x0B ∷ []) _ (one_constant 0 (lit< tt)) (then (1 ∷ []) _ one_in_one (last _ one_in_one)))));
  bodies = then (1 ∷ []) _ one_in_one (last _ (sized _ _ (0x00 ∷ 0x41 ∷ 0x07 ∷ 0x0B ∷ []) (lit< tt) (lit< tt, then (0 ∷ []) _ (last _ zero_in_one) (one_constant 7 (lit< tt)))));
  segments = then (1 ∷ []) _ one_in_one (last _ (then (0 ∷ []) _ zero_in_one (then (0x41 ∷ 0x03 ∷ 0x0B ∷ []) _ (one_constant 3 (lit< tt)) (blob (0xFF ∷ 0x00 ∷ []) (lit< tt)))));
}
  where
    i32 : IsVec IsValType (I32 ∷ []) (1 ∷ 0x7F ∷ [])
    i32 = then (1 ∷ []) _ one_in_one (last _ refl)

full_spelled : IsModule full_module (header ++ short_text full_sections)
full_spelled = record {
  sections = full_sections;
  spells = then header (short_text full_sections) refl (short_sections full_sections sizes);
  rising = inr (lit< tt, lit≤ tt, inr (lit< tt, lit≤ tt, inr (lit< tt, lit≤ tt, inr (lit< tt, lit≤ tt, inr (lit< tt, lit≤ tt, inr (lit< tt, lit≤ tt, inr (lit< tt, lit≤ tt, inr (lit< tt, lit≤ tt, inr (lit< tt, lit≤ tt, inr (lit< tt, lit≤ tt, inr (lit< tt, lit≤ tt, tt)))))))))));
  holds = full_holds;
  counts = refl;
}
  where
    sizes : AllShort full_sections
    sizes = (lit< tt, (lit< tt, (lit< tt, (lit< tt, (lit< tt, (lit< tt, (lit< tt, (lit< tt, (lit< tt, (lit< tt, (lit< tt, tt)))))))))))

-- ---- bytes that spell no module

-- seven bytes of the header
no_short_header : (m : Module) → IsModule m (0x00 ∷ 0x61 ∷ 0x73 ∷ 0x6D ∷ 0x01 ∷ 0x00 ∷ 0x00 ∷ []) → ⊥
no_short_header m x = let h = rw x.spells.first at x.spells.parts in cc

-- the last byte is missing
no_end : (m : Module) → IsModule m (header ++ (before_code ++ 0x0A ∷ 0x08 ∷ 0x01 ∷ 0x06 ∷ 0x01 ∷ 0x01 ∷ 0x7D ∷ 0x41 ∷ 0x2A ∷ [])) → ⊥
unfolding section_at blob_at byte_at unsigned_at
no_end m x = unread m _ _ before_code (0x0A ∷ 0x08 ∷ 0x01 ∷ 0x06 ∷ 0x01 ∷ 0x01 ∷ 0x7D ∷ 0x41 ∷ 0x2A ∷ []) sections_before x refl refl before_spelled (λ e. cc) refl

not_below : (n : ℕ) → n < n → ⊥
not_below n lt = omega arith

-- a second type section
no_second_section : (m : Module) → IsModule m (header ++ 0x01 ∷ 0x01 ∷ 0x00 ∷ 0x01 ∷ 0x01 ∷ 0x00 ∷ []) → ⊥
no_second_section m x = go (subst (IsRising 0) same x.rising)
  where
    two : IsMany IsSection ((1, 0x00 ∷ []) ∷ (1, 0x00 ∷ []) ∷ []) (0x01 ∷ 0x01 ∷ 0x00 ∷ 0x01 ∷ 0x01 ∷ 0x00 ∷ [])
    two = then (0x01 ∷ 0x01 ∷ 0x00 ∷ []) _ (section 1 (0x00 ∷ []) (lit< tt)) (last _ (section 1 (0x00 ∷ []) (lit< tt)))

    same : x.sections ≡ (1, 0x00 ∷ []) ∷ (1, 0x00 ∷ []) ∷ []
    same = same_sections m _ _ ((1, 0x00 ∷ []) ∷ (1, 0x00 ∷ []) ∷ []) x two refl

    go : IsRising 0 ((1, 0x00 ∷ []) ∷ (1, 0x00 ∷ []) ∷ []) → ⊥
    go (inl r) = cc r.0
    go (inr (lt, le, inl r)) = cc r.0
    go (inr (lt, le, inr r)) = not_below 1 r.0

-- functions without bodies
no_body : (m : Module) → IsModule m (header ++ before_code) → ⊥
no_body m x =
    let h = subst (λ (ss : List Section). Holds ss m) (same_sections m _ before_code sections_before x before_spelled refl) x.holds in
    let functions : m.functions ≡ 0 ∷ [] = part_once IsU32 (unsigned_at 32) (unsigned_reads 32) (Some functions_content) m.functions (0 ∷ []) h.functions functions_spelled in
    let bodies : m.bodies ≡ [] = h.bodies in
    omega (arith, ap length functions, ap length bodies, x.counts)
