-- Where control goes from each line: to starts of instructions, and never off the end or into a payload.
use Rattle.std.specs.Prelude.{ℕ, ℤ, ◌==◌, Bool, true, false, not, List, [], ◌∷◌, map, nat_lt, ◌||◌, IsTrue, Option, Some, None, if◌then◌else◌}
use Rattle.std.specs.List.{list_all}
use Rattle.dalvik_formats.specs.declared.kind.Kind.{Kind}
use Rattle.dalvik_formats.specs.declared.kind.Kind.TheVariants.{Nop, PackedSwitch, SparseSwitch, FillArrayData}
use Rattle.dalvik_formats.specs.Layouts.{group_of, may_go_on}
use Rattle.dex_code.specs.declared.insn.Insn.{Insn}
use Rattle.dex_code.specs.declared.insn.Insn.TheVariants.{F10t, F20t, F21t, F22t, F30t, F31t, Packed, Sparse, Filled}
use Rattle.dex_code.specs.declared.fault.CodeFault.{CodeFault}
use Rattle.dex_code.specs.declared.fault.CodeFault.TheVariants.{Target, Payload, FallsOff}
use Rattle.dex_code.specs.Units.{target_of}
use Rattle.dex_code.specs.Insns.{is_payload, kind_of}
use Rattle.dex_code.specs.Lines.{Line}
use Rattle.vet_base.specs.Script.{Script, Value, ◌>>=◌, test}

-- what begins at a pc, by the lines
unfoldable pub found : List Line → ℕ → Option Insn
found [] pc = None
found (line ∷ lines) pc = if line.0 == pc then Some line.1 else found lines pc

-- it is an instruction; a payload is none
abbrev pub is_start : Option Insn → Bool
is_start None = false
is_start (Some insn) = not (is_payload insn)

unfoldable pub starts : List Line → ℕ → Bool
starts lines pc = is_start (found lines pc)

-- an instruction starts at each of these distances
unfoldable pub all_start : List Line → ℕ → List ℤ → Bool
all_start lines pc distances = list_all (λ d. starts lines (target_of pc d)) distances

-- the distances in the table of a switch
abbrev pub packed_in : Option Insn → List ℤ
packed_in (Some (Packed first distances)) = distances
packed_in entry = []

unfoldable pub second_parts : List (ℤ × ℤ) → List ℤ
second_parts pairs = map (λ pair. pair.1) pairs

abbrev pub sparse_in : Option Insn → List ℤ
sparse_in (Some (Sparse pairs)) = second_parts pairs
sparse_in entry = []

abbrev pub distances_in : Kind → Option Insn → List ℤ
distances_in PackedSwitch entry = packed_in entry
distances_in SparseSwitch entry = sparse_in entry
distances_in kind entry = []

-- where a branch or a switch goes, instructions start
abbrev pub targets_stand : List Line → ℕ → Insn → Bool
targets_stand lines pc (F10t op t) = starts lines t
targets_stand lines pc (F20t op t) = starts lines t
targets_stand lines pc (F30t op t) = starts lines t
targets_stand lines pc (F21t op a t) = starts lines t
targets_stand lines pc (F22t op a b t) = starts lines t
targets_stand lines pc (F31t op a t) = all_start lines pc (distances_in (group_of op) (found lines t))
targets_stand lines pc insn = true

-- the payload is of the kind that the instruction needs
abbrev pub is_packed : Option Insn → Bool
is_packed (Some (Packed first distances)) = true
is_packed entry = false

abbrev pub is_sparse : Option Insn → Bool
is_sparse (Some (Sparse pairs)) = true
is_sparse entry = false

abbrev pub is_filled : Option Insn → Bool
is_filled (Some (Filled width count)) = true
is_filled entry = false

abbrev pub suits : Kind → Option Insn → Bool
suits PackedSwitch entry = is_packed entry
suits SparseSwitch entry = is_sparse entry
suits FillArrayData entry = is_filled entry
suits kind entry = true

abbrev pub payload_stands : List Line → Insn → Bool
payload_stands lines (F31t op a t) = suits (group_of op) (found lines t)
payload_stands lines insn = true

-- A `nop` directly before a payload is the padding that compilers write: control is not taken to go on from there.
abbrev pub is_nop : Kind → Bool
is_nop Nop = true
is_nop kind = false

-- behind the line comes an instruction, or the line is padding
abbrev pub is_followed : Bool → List Line → Bool
is_followed is_padding [] = false
is_followed is_padding (line ∷ lines) = is_padding || not (is_payload line.1)

-- From the line control goes on to an instruction, or it does not go on to the next line. The entry of the method is control to
-- its first line, so a payload stands elsewhere.
abbrev pub stays : ℕ → Insn → List Line → Bool
stays pc insn rest = if is_payload insn then nat_lt 0 pc else (not (may_go_on (kind_of insn)) || is_followed (is_nop (kind_of insn)) rest)

-- the tests of a line, before these others
unfoldable pub flow_at : List Line → Line → List Line → Script CodeFault (Unit {0})
flow_at lines line rest = do
  _ ← test (targets_stand lines line.0 line.1) (Target line.0)
  _ ← test (payload_stands lines line.1) (Payload line.0)
  test (stays line.0 line.1 rest) (FallsOff line.0)

unfoldable pub flows_at : List Line → List Line → Script CodeFault (Unit {0})
flows_at lines [] = Value tt
flows_at lines (line ∷ rest) = do
  _ ← flow_at lines line rest
  flows_at lines rest

-- in words
pub record Flows (lines : List Line) (line : Line) (rest : List Line) : Type 0 where
  pub targets : IsTrue (targets_stand lines line.0 line.1)
  pub payload : IsTrue (payload_stands lines line.1)
  pub stays_within : IsTrue (stays line.0 line.1 rest)

abbrev pub AllFlow : List Line → List Line → Type 0
AllFlow lines [] = Unit {0}
AllFlow lines (line ∷ rest) = Flows lines line rest × AllFlow lines rest
