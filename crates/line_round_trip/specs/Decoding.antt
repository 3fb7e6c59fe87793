-- That the units which are written for the lines of a listing are decoded as these lines.
use Rattle.std.specs.Prelude.{◌≡◌, ◌<◌, ◌≤◌, ℕ, ℤ, ◌+◌, List, [], ◌∷◌, length, Some, None, IsTrue}
use Rattle.std.specs.Int.{w32, w64}
use Rattle.std.specs.Int.RustNames.{FitsSigned}
use Rattle.std.specs.List.{AllByRecursion}
use Rattle.vet_base.specs.Members.{In}
use Rattle.dex_writer.specs.declared.tables.Tables.{Tables}
use Rattle.dex_maker.specs.declared.listing.Listing.{Listing}
use Rattle.dex_maker.specs.declared.listing.ListedClass.{ListedClass}
use Rattle.dex_maker.specs.declared.listing.ListedMethod.{ListedMethod}
use Rattle.dex_maker.specs.declared.listing.ListedCode.{ListedCode}
use Rattle.dex_maker.specs.declared.listing.ListedLine.{ListedLine}
use Rattle.dex_maker.specs.declared.listing.ListedLine.TheVariants.{Plain, Packed, Sparse, Filled}
use Rattle.dex_maker.specs.Codes.{index_for, raw_code}
use Rattle.dex_maker.specs.Lines.{width_of, starts_from}
use Rattle.dex_maker.specs.Made.{Makeable, fault_of}
use Rattle.dex_maker.specs.Naming.{tables_of}
use Rattle.dex_code.specs.declared.decoder.Counts.{Counts}
use Rattle.dex_code.specs.declared.decoder.Decoded.{Decoded}
use Rattle.dex_code.specs.declared.insn.Insn.{Insn}
use Rattle.dex_code.specs.Code.{IsCode}
use Rattle.dex_code.specs.Insns.{shape_at, width_at, insn_at, is_used}
use Rattle.dex_code.specs.Lines.{Line}
use Rattle.line_round_trip.specs.Said.{insn_of}

-- the numbers of a line are of their types
abbrev pub HasItsTypes : ListedLine → Type 0
HasItsTypes (Plain opcode registers literal operand target) = (opcode < 256) × AllByRecursion (λ r. r < 65536) registers × FitsSigned w64 literal
HasItsTypes (Packed switch first_key targets) = FitsSigned w32 first_key
HasItsTypes (Sparse switch pairs) = AllByRecursion (λ (pair : ℤ × ℕ). FitsSigned w32 pair.0) pairs
HasItsTypes (Filled width bytes) = width < 65536

-- the index of a line, by the rows of these tables
abbrev pub index_in : Tables → ListedLine → ℕ
index_in t (Plain opcode registers literal operand target) = index_for t operand
index_in t (Packed switch first_key targets) = 0
index_in t (Sparse switch pairs) = 0
index_in t (Filled width bytes) = 0

-- at a place in units stands, by the decoder's definitions, an instruction of a used opcode or a payload, so many units wide
pub record StandsAt (units : List ℕ) (at width : ℕ) (insn : Insn) : Type 0 where
  pub some : 0 < width
  pub used : IsTrue (is_used (shape_at units at))
  pub wide : width_at units at ≡ width
  pub whole : at + width ≤ length units
  pub says : insn_at units at ≡ insn

-- from a place on the lines stand end to end, up to the last unit
abbrev pub AllStand : Tables → List ℕ → List ℕ → ℕ → List ListedLine → Type 0
AllStand t starts units at [] = at ≡ length units
AllStand t starts units at (line ∷ lines) = StandsAt units at (width_of line) (insn_of (index_in t line) starts line) × AllStand t starts units (at + width_of line) lines

-- the lines as the decoder lists them
abbrev pub lines_from : Tables → List ℕ → ℕ → List ListedLine → List Line
lines_from t starts at [] = []
lines_from t starts at (line ∷ lines) = (at, insn_of (index_in t line) starts line) ∷ lines_from t starts (at + width_of line) lines

-- The units that are written for some code are decoded as its lines: these stand there, and whatever is the code of the units has
-- just these lines.
pub record AreDecodedBack (t : Tables) (code : ListedCode) : Type 0 where
  pub stand : AllStand t (starts_from 0 code.lines) (raw_code t code).units 0 code.lines
  pub alone : (counts : Counts) (decoded : Decoded) → IsCode (raw_code t code) counts decoded → decoded.lines ≡ lines_from t (starts_from 0 code.lines) 0 code.lines

-- So it is with the code of each method of each listing that has a file.
abbrev pub LinesAreDecodedBack : Type 0
LinesAreDecodedBack = (listing : Listing) → Makeable listing → fault_of listing ≡ None → (class : ListedClass) → In class listing.classes → (m : ListedMethod) → In m class.methods
    → (code : ListedCode) → m.code ≡ Some code → AllByRecursion HasItsTypes code.lines → AreDecodedBack (tables_of listing) code
