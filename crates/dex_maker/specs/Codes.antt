-- What the code of a listing is in a file: its units, its tries, and how many arguments its calls pass at most.
use Rattle.std.specs.Prelude.{ℕ, ◌+◌, ◌-◌, List, [], ◌∷◌, ◌++◌, length, map, max, slice_index, Option, Some, None}
use Rattle.std.specs.Option.{option_map}
use Rattle.std.specs.Int.{w64, cast_unsigned}
use Rattle.dalvik_formats.specs.declared.format.Format.{Format}
use Rattle.dalvik_formats.specs.declared.format.Format.TheVariants.{F35c, F3rc}
use Rattle.dalvik_formats.specs.declared.format.Pool.TheVariants.{Methods}
use Rattle.dalvik_formats.specs.Layouts.{layout_of}
use Rattle.dex_tables.specs.declared.dex.RawCode.{RawCode}
use Rattle.dex_tables.specs.declared.dex.RawTry.{RawTry}
use Rattle.dex_writer.specs.declared.tables.Tables.{Tables}
use Rattle.dex_maker.specs.declared.listing.ListedCode.{ListedCode}
use Rattle.dex_maker.specs.declared.listing.ListedTry.{ListedTry}
use Rattle.dex_maker.specs.declared.listing.ListedLine.{ListedLine}
use Rattle.dex_maker.specs.declared.listing.ListedLine.TheVariants.{Plain, Packed, Sparse, Filled}
use Rattle.dex_maker.specs.declared.listing.Operand.{Operand}
use Rattle.dex_maker.specs.declared.listing.Operand.TheVariants.{Nothing, Text, Class, Field, Method}
use Rattle.dex_writer.specs.Tables.{string_index, type_index, field_index, method_index}
use Rattle.dex_maker.specs.Spelling.{unit_of, plain_units}
use Rattle.dex_maker.specs.Payloads.{distance_bits, packed_units, sparse_units, filled_units}
use Rattle.dex_maker.specs.Lines.{width_of, starts_from}

-- the row that an instruction's index names
abbrev pub index_for : Tables → Operand → ℕ
index_for t Nothing = 0
index_for t (Text text) = string_index t text
index_for t (Class class) = type_index t class
index_for t (Field class name kind) = field_index t class name kind
index_for t (Method class name params ret) = method_index t class name params ret

abbrev pub target_bits : List ℕ → ℕ → Option ℕ → ℕ
target_bits starts at None = 0
target_bits starts at (Some line) = distance_bits starts at line

-- the units of a line that begins there, where the lines begin at these starts
abbrev pub line_units : Tables → List ℕ → ℕ → ListedLine → List ℕ
line_units t starts at (Plain opcode registers literal operand target) = plain_units (layout_of opcode) opcode registers (cast_unsigned w64 literal) (index_for t operand) (target_bits starts at target)
line_units t starts at (Packed switch first_key targets) = packed_units starts (slice_index starts switch) first_key targets
line_units t starts at (Sparse switch pairs) = sparse_units starts (slice_index starts switch) pairs
line_units t starts at (Filled width bytes) = filled_units width bytes

abbrev pub units_from : Tables → List ℕ → ℕ → List ListedLine → List ℕ
units_from t starts at [] = []
units_from t starts at (line ∷ lines) = line_units t starts at line ++ units_from t starts (at + width_of line) lines

-- how many arguments a call passes
abbrev pub call_arguments : Format → List ℕ → ℕ
call_arguments (F35c Methods) registers = unit_of (length registers) 1
call_arguments (F3rc Methods) registers = unit_of (slice_index registers 1) 1
call_arguments format registers = 0

abbrev pub arguments_of : ListedLine → ℕ
arguments_of (Plain opcode registers literal operand target) = call_arguments (layout_of opcode) registers
arguments_of (Packed switch first_key targets) = 0
arguments_of (Sparse switch pairs) = 0
arguments_of (Filled width bytes) = 0

abbrev pub outs_of : List ListedLine → ℕ
outs_of [] = 0
outs_of (line ∷ lines) = max (arguments_of line) (outs_of lines)

-- a try whose lines begin at these starts
abbrev pub handler_pair : Tables → List ℕ → List ℕ × ℕ → ℕ × ℕ
handler_pair t starts handler = (type_index t handler.0, slice_index starts handler.1)

unfoldable pub raw_try : Tables → List ℕ → ListedTry → RawTry
raw_try t starts item = record {
  start = slice_index starts item.start;
  count = unit_of (slice_index starts item.end - slice_index starts item.start) 1;
  handlers = map (handler_pair t starts) item.handlers;
  catch_all = option_map (slice_index starts) item.catch_all;
}

unfoldable pub raw_code : Tables → ListedCode → RawCode
raw_code t code = record {
  registers = code.registers;
  ins = code.ins;
  outs = outs_of code.lines;
  units = units_from t (starts_from 0 code.lines) 0 code.lines;
  tries = map (raw_try t (starts_from 0 code.lines)) code.tries;
}
