-- The act of each instruction, its names resolved ("Dalvik bytecode"). A wide value stands in two neighbouring registers: both are
-- written, and the first is read.
use Rattle.std.specs.Prelude.{ℕ, ◌+◌, Bool, true, false, List, [], ◌∷◌, if◌then◌else◌, Option, Some, None, zero, suc}
use Rattle.vet_base.specs.declared.key_id.KeyId.{KeyId}
use Rattle.dalvik_formats.specs.declared.kind.Kind.{Kind}
use Rattle.dalvik_formats.specs.declared.kind.Kind.TheVariants as kinds
use Rattle.dalvik_formats.specs.declared.pairs.Pairs.{Pairs}
use Rattle.dalvik_formats.specs.declared.pairs.Pairs.TheVariants as pairs
use Rattle.dalvik_formats.specs.Layouts.{pairing_of}
use Rattle.app_machine.specs.declared.call.CallKind.{CallKind}
use Rattle.app_machine.specs.declared.call.CallKind.TheVariants as calls
use Rattle.app_machine.specs.declared.method.Act.{Act}
use Rattle.app_machine.specs.declared.method.Act.TheVariants.{Skip, Join, Move, Blank, New, Fill, Get, Put, GetStatic, PutStatic, Call, Return, Throw, TakeResult, TakeException, Go}
use Rattle.dex_code.specs.declared.insn.Insn.{Insn}
use Rattle.dex_code.specs.declared.insn.Insn.TheVariants.{F10x, F12x, F11n, F11x, F10t, F20t, F22x, F21t, F21s, F21h, F21c, F23x, F22b, F22t, F22s, F22c, F32x, F30t, F31t, F31i, F31c, F35c, F3rc, F51l, Packed, Sparse, Filled}
use Rattle.dex_code.specs.declared.names.Named.{Named}
use Rattle.dex_code.specs.declared.names.Named.TheVariants as named
use Rattle.dex_code.specs.declared.names.Naming.{Naming}
use Rattle.dex_code.specs.declared.names.Naming.TheVariants as naming
use Rattle.dex_code.specs.Insns.{opcode_of, kind_of}

-- the first three registers that an instruction names, 0 where there are fewer
abbrev pub operands_of : Insn → ℕ × ℕ × ℕ
operands_of (F10x op) = (0, 0, 0)
operands_of (F12x op a b) = (a, b, 0)
operands_of (F11n op a n) = (a, 0, 0)
operands_of (F11x op a) = (a, 0, 0)
operands_of (F10t op t) = (0, 0, 0)
operands_of (F20t op t) = (0, 0, 0)
operands_of (F22x op a b) = (a, b, 0)
operands_of (F21t op a t) = (a, 0, 0)
operands_of (F21s op a n) = (a, 0, 0)
operands_of (F21h op a n) = (a, 0, 0)
operands_of (F21c op a i) = (a, 0, 0)
operands_of (F23x op a b c) = (a, b, c)
operands_of (F22b op a b n) = (a, b, 0)
operands_of (F22t op a b t) = (a, b, 0)
operands_of (F22s op a b n) = (a, b, 0)
operands_of (F22c op a b i) = (a, b, 0)
operands_of (F32x op a b) = (a, b, 0)
operands_of (F30t op t) = (0, 0, 0)
operands_of (F31t op a t) = (a, 0, 0)
operands_of (F31i op a n) = (a, 0, 0)
operands_of (F31c op a i) = (a, 0, 0)
operands_of (F35c op i registers) = (0, 0, 0)
operands_of (F3rc op i first count) = (0, 0, 0)
operands_of (F51l op a n) = (a, 0, 0)
operands_of (Packed first distances) = (0, 0, 0)
operands_of (Sparse pairs) = (0, 0, 0)
operands_of (Filled width count) = (0, 0, 0)

-- so many neighbouring registers
unfoldable pub range_of : ℕ → ℕ → List ℕ
range_of first zero = []
range_of first (suc n) = first ∷ range_of (first + 1) n

-- the arguments of a call, or the elements of a new array
abbrev pub arguments_of : Insn → List ℕ
arguments_of (F35c op i registers) = registers
arguments_of (F3rc op i first count) = range_of first count
arguments_of insn = []

-- the first operand is a pair
abbrev pub begins_wide : Pairs → Bool
begins_wide pairs.NoPair = false
begins_wide pairs.First = true
begins_wide pairs.Second = false
begins_wide pairs.FirstTwo = true
begins_wide pairs.LastTwo = false
begins_wide pairs.All = true

abbrev pub wide_with : Option ℕ → Bool
wide_with None = false
wide_with (Some op) = begins_wide (pairing_of op)

-- the registers that an instruction writes: one, or the pair that begins there
abbrev pub written : Bool → ℕ → List ℕ
written wide d = if wide then d ∷ (d + 1) ∷ [] else d ∷ []

-- the key of all elements of arrays
abbrev pub elem : KeyId
elem = record { 0 = 0 }

-- the act of an instruction without a name, by what it does, the width of its first operand and its operands
abbrev pub plain_act : Kind → Bool → ℕ × ℕ × ℕ → Act
plain_act kinds.Move wide r = Move (written wide r.0) r.1
plain_act kinds.MoveResult wide r = TakeResult (written wide r.0)
plain_act kinds.MoveException wide r = TakeException r.0
plain_act kinds.ReturnVoid wide r = Return None
plain_act kinds.Return wide r = Return (Some r.0)
plain_act kinds.Const wide r = Blank (written wide r.0)
plain_act kinds.InstanceOf wide r = Blank (written false r.0)
plain_act kinds.ArrayLength wide r = Join (written false r.0) (r.1 ∷ [])
plain_act kinds.Throw wide r = Throw r.0
plain_act kinds.Goto wide r = Go
plain_act kinds.PackedSwitch wide r = Go
plain_act kinds.SparseSwitch wide r = Go
plain_act kinds.If wide r = Go
plain_act kinds.Compare wide r = Join (written false r.0) (r.1 ∷ r.2 ∷ [])
plain_act kinds.ArrayGet wide r = Get (written wide r.0) r.1 elem
plain_act kinds.ArrayPut wide r = Put r.1 elem r.0
plain_act kinds.Unary wide r = Join (written wide r.0) (r.1 ∷ [])
plain_act kinds.Binary wide r = Join (written wide r.0) (r.1 ∷ r.2 ∷ [])
plain_act kinds.BinaryInPlace wide r = Join (written wide r.0) (r.0 ∷ r.1 ∷ [])
plain_act kinds.BinaryLiteral wide r = Join (written false r.0) (r.1 ∷ [])
plain_act kind wide r = Skip

-- of one that makes an object or an array of a class. The second register of a new array is its size.
abbrev pub class_act : Kind → ℕ × ℕ × ℕ → List ℕ → List ℕ → Act
class_act kinds.NewInstance r elements class = New r.0 class None
class_act kinds.NewArray r elements class = New r.0 class (Some r.1)
class_act kinds.FilledNewArray r elements class = Fill elements class
class_act kind r elements class = Skip

-- of one on an instance field
abbrev pub field_act : Kind → Bool → ℕ × ℕ × ℕ → KeyId → Act
field_act kinds.InstanceGet wide r key = Get (written wide r.0) r.1 key
field_act kinds.InstancePut wide r key = Put r.1 key r.0
field_act kind wide r key = Skip

-- of one on a static field
abbrev pub static_act : Kind → Bool → ℕ → ℕ → Act
static_act kinds.StaticGet wide d g = GetStatic (written wide d) g
static_act kinds.StaticPut wide d g = PutStatic g d
static_act kind wide d g = Skip

abbrev pub call_kind_of : Kind → CallKind
call_kind_of kinds.InvokeSuper = calls.Super
call_kind_of kinds.InvokeDirect = calls.Direct
call_kind_of kinds.InvokeStatic = calls.Static
call_kind_of kinds.InvokeInterface = calls.Interface
call_kind_of kind = calls.Virtual

abbrev pub act_with : Kind → Bool → ℕ × ℕ × ℕ → List ℕ → Named → Act
act_with kind wide r arguments named.Nothing = plain_act kind wide r
act_with kind wide r arguments (named.Class class) = class_act kind r arguments class
act_with kind wide r arguments (named.Method at) = Call (call_kind_of kind) at arguments
act_with kind wide r arguments (named.Key key) = field_act kind wide r key
act_with kind wide r arguments (named.Static g) = static_act kind wide r.0 g

-- the act of an instruction, with what it names
unfoldable pub act_of : Insn → Named → Act
act_of insn name = act_with (kind_of insn) (wide_with (opcode_of insn)) (operands_of insn) (arguments_of insn) name

-- the index by which an instruction names something
abbrev pub index_of : Insn → ℕ
index_of (F21c op a i) = i
index_of (F22c op a b i) = i
index_of (F31c op a i) = i
index_of (F35c op i registers) = i
index_of (F3rc op i first count) = i
index_of insn = 0

-- what an act needs the name of. A cast, a test of a class and a constant need none.
abbrev pub naming_with : Kind → ℕ → Naming
naming_with kinds.NewInstance i = naming.Class i
naming_with kinds.NewArray i = naming.Class i
naming_with kinds.FilledNewArray i = naming.Class i
naming_with kinds.InvokeVirtual i = naming.Method i
naming_with kinds.InvokeSuper i = naming.Method i
naming_with kinds.InvokeDirect i = naming.Method i
naming_with kinds.InvokeStatic i = naming.Method i
naming_with kinds.InvokeInterface i = naming.Method i
naming_with kinds.InstanceGet i = naming.InstanceField i
naming_with kinds.InstancePut i = naming.InstanceField i
naming_with kinds.StaticGet i = naming.StaticField i
naming_with kinds.StaticPut i = naming.StaticField i
naming_with kind i = naming.Nothing

unfoldable pub naming_of : Insn → Naming
naming_of insn = naming_with (kind_of insn) (index_of insn)

-- a name of the kind that is needed
abbrev pub suits : Naming → Named → Bool
suits naming.Nothing named.Nothing = true
suits (naming.Class i) (named.Class class) = true
suits (naming.Method i) (named.Method at) = true
suits (naming.InstanceField i) (named.Key key) = true
suits (naming.StaticField i) (named.Static g) = true
suits needed name = false
