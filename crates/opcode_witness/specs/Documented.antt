-- The opcodes of DEX version 035 as the documentation has them: each list goes from opcode 0 on to 255 and says how many opcodes in a
-- row share what stands behind the number. Layouts and groups are those of "Dalvik bytecode", "Summary of bytecode set"; operands are
-- as wide as the column "Arguments" and the types in the name of an operation say.
use Rattle.std.specs.Prelude.{◌≡◌, ℕ, suc, zero, List, [], ◌∷◌, ◌++◌, map}
use Rattle.dalvik_formats.specs.declared.format.Format.{Format}
use Rattle.dalvik_formats.specs.declared.format.Format.TheVariants.{Unused, F10x, F12x, F11n, F11x, F10t, F20t, F22x, F21t, F21s, F21h, F21c, F23x, F22b, F22t, F22s, F22c, F32x, F30t, F31t, F31i, F31c, F35c, F3rc, F51l}
use Rattle.dalvik_formats.specs.declared.format.Pool.TheVariants.{Strings, Types, Fields, Methods}
use Rattle.dalvik_formats.specs.declared.kind.Kind.{Kind}
use Rattle.dalvik_formats.specs.declared.kind.Kind.TheVariants as does
use Rattle.dalvik_formats.specs.declared.pairs.Pairs.{Pairs}
use Rattle.dalvik_formats.specs.declared.pairs.Pairs.TheVariants.{NoPair, First, Second, FirstTwo, LastTwo, All}
use Rattle.dalvik_formats.specs.declared.opcodes.TheConstants.{OPCODES}

abbrev pub times : {A : Type 0} → ℕ → A → List A
times zero x = []
times (suc n) x = x ∷ times n x

-- what holds of each opcode, by how many in a row share it
abbrev pub each_of : {A : Type 0} → List (ℕ × A) → List A
each_of [] = []
each_of (run ∷ runs) = times run.0 run.1 ++ each_of runs

-- how instructions are laid out, and into which table their index points
abbrev pub layouts : List (ℕ × Format)
layouts =
    -- nop; move, move-wide and move-object, each with /from16 and /16
    (1, F10x) ∷ (1, F12x) ∷ (1, F22x) ∷ (1, F32x) ∷ (1, F12x) ∷ (1, F22x) ∷ (1, F32x) ∷ (1, F12x) ∷ (1, F22x) ∷ (1, F32x) ∷
    -- move-result and its -wide and -object, move-exception; return-void; the three returns
    (4, F11x) ∷ (1, F10x) ∷ (3, F11x) ∷
    -- const/4, /16, const, /high16; const-wide/16, /32, const-wide, /high16
    (1, F11n) ∷ (1, F21s) ∷ (1, F31i) ∷ (1, F21h) ∷ (1, F21s) ∷ (1, F31i) ∷ (1, F51l) ∷ (1, F21h) ∷
    -- const-string, its /jumbo, const-class
    (1, F21c Strings) ∷ (1, F31c) ∷ (1, F21c Types) ∷
    -- the two monitors, check-cast, instance-of, array-length, new-instance, new-array
    (2, F11x) ∷ (1, F21c Types) ∷ (1, F22c Types) ∷ (1, F12x) ∷ (1, F21c Types) ∷ (1, F22c Types) ∷
    -- filled-new-array, its /range, fill-array-data, throw
    (1, F35c Types) ∷ (1, F3rc Types) ∷ (1, F31t) ∷ (1, F11x) ∷
    -- goto, /16, /32; the two switches
    (1, F10t) ∷ (1, F20t) ∷ (1, F30t) ∷ (2, F31t) ∷
    -- comparisons; tests of two registers and of one; unused
    (5, F23x) ∷ (6, F22t) ∷ (6, F21t) ∷ (6, Unused) ∷
    -- operations on arrays, fields and statics
    (14, F23x) ∷ (14, F22c Fields) ∷ (14, F21c Fields) ∷
    -- calls, and calls by a range
    (5, F35c Methods) ∷ (1, Unused) ∷ (5, F3rc Methods) ∷ (2, Unused) ∷
    -- operations on one register, on two, on two into the first; with a literal of 16 bits, and of 8
    (21, F12x) ∷ (32, F23x) ∷ (32, F12x) ∷ (8, F22s) ∷ (11, F22b) ∷
    (29, Unused) ∷ []

-- what instructions do
abbrev pub groups : List (ℕ × Kind)
groups =
    (1, does.Nop) ∷ (9, does.Move) ∷ (3, does.MoveResult) ∷ (1, does.MoveException) ∷ (1, does.ReturnVoid) ∷ (3, does.Return) ∷ (11, does.Const) ∷
    (2, does.Monitor) ∷ (1, does.CheckCast) ∷ (1, does.InstanceOf) ∷ (1, does.ArrayLength) ∷ (1, does.NewInstance) ∷ (1, does.NewArray) ∷
    (2, does.FilledNewArray) ∷ (1, does.FillArrayData) ∷ (1, does.Throw) ∷ (3, does.Goto) ∷ (1, does.PackedSwitch) ∷ (1, does.SparseSwitch) ∷
    (5, does.Compare) ∷ (12, does.If) ∷ (6, does.NoInstruction) ∷
    (7, does.ArrayGet) ∷ (7, does.ArrayPut) ∷ (7, does.InstanceGet) ∷ (7, does.InstancePut) ∷ (7, does.StaticGet) ∷ (7, does.StaticPut) ∷
    (1, does.InvokeVirtual) ∷ (1, does.InvokeSuper) ∷ (1, does.InvokeDirect) ∷ (1, does.InvokeStatic) ∷ (1, does.InvokeInterface) ∷ (1, does.NoInstruction) ∷
    (1, does.InvokeVirtual) ∷ (1, does.InvokeSuper) ∷ (1, does.InvokeDirect) ∷ (1, does.InvokeStatic) ∷ (1, does.InvokeInterface) ∷ (2, does.NoInstruction) ∷
    (21, does.Unary) ∷ (32, does.Binary) ∷ (32, does.BinaryInPlace) ∷ (19, does.BinaryLiteral) ∷ (29, does.NoInstruction) ∷ []

-- which operands are wide, and so name two registers
abbrev pub wide_operands : List (ℕ × Pairs)
wide_operands =
    -- move-wide moves from pair to pair; move-result-wide and return-wide have one operand; const-wide writes one
    (4, NoPair) ∷ (3, FirstTwo) ∷ (4, NoPair) ∷ (1, First) ∷ (4, NoPair) ∷ (1, First) ∷ (5, NoPair) ∷ (4, First) ∷
    -- up to the comparisons of doubles and longs, whose result is an int
    (21, NoPair) ∷ (3, LastTwo) ∷
    -- the second of each seven of aget, aput, iget, iput, sget and sput is the wide one
    (19, NoPair) ∷ (1, First) ∷ (6, NoPair) ∷ (1, First) ∷ (6, NoPair) ∷ (1, First) ∷ (6, NoPair) ∷ (1, First) ∷ (6, NoPair) ∷ (1, First) ∷ (6, NoPair) ∷ (1, First) ∷ (5, NoPair) ∷
    -- calls name their registers one by one; neg-int, not-int; neg-long, not-long; neg-float; neg-double
    (13, NoPair) ∷ (2, NoPair) ∷ (2, FirstTwo) ∷ (1, NoPair) ∷ (1, FirstTwo) ∷
    -- int to long, float, double; long to int, float, double; float to int, long, double; double to int, long, float; int to byte, char, short
    (1, First) ∷ (1, NoPair) ∷ (1, First) ∷ (2, Second) ∷ (1, FirstTwo) ∷ (1, NoPair) ∷ (2, First) ∷ (1, Second) ∷ (1, FirstTwo) ∷ (1, Second) ∷ (3, NoPair) ∷
    -- eleven operations on ints, eleven on longs of which the last three shift by an int, five on floats, five on doubles
    (11, NoPair) ∷ (8, All) ∷ (3, FirstTwo) ∷ (5, NoPair) ∷ (5, All) ∷
    -- the same into the first
    (11, NoPair) ∷ (8, FirstTwo) ∷ (3, First) ∷ (5, NoPair) ∷ (5, FirstTwo) ∷
    -- ints with a literal, and what is unused
    (19, NoPair) ∷ (29, NoPair) ∷ []

-- The one table says of each opcode what the documentation says.
pub record TableIsDocumented : Type 0 where
  pub laid_out : map (λ row. row.0) OPCODES ≡ each_of layouts
  pub wide : map (λ row. row.1) OPCODES ≡ each_of wide_operands
  pub grouped : map (λ row. row.2) OPCODES ≡ each_of groups
