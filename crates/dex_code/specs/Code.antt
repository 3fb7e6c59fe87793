-- The code of a method as a list of lines, and the first fault of its units.
use Rattle.std.specs.Prelude.{◌≡◌, ◌<◌, length, nat_lt, nat_le, ◌||◌}
use Rattle.dex_tables.specs.declared.dex.RawCode.{RawCode}
use Rattle.dex_code.specs.declared.decoder.Counts.{Counts}
use Rattle.dex_code.specs.declared.decoder.Decoded.{Decoded}
use Rattle.dex_code.specs.declared.fault.CodeFault.{CodeFault}
use Rattle.dex_code.specs.declared.fault.CodeFault.TheVariants as faults
use Rattle.dex_code.specs.Lines.{lines_at, StandFrom}
use Rattle.dex_code.specs.Flow.{flows_at, AllFlow}
use Rattle.dex_code.specs.Tries.{tries_at, AllTriesStand}
use Rattle.vet_base.specs.Script.{Script, Value, ◌>>=◌, test, tests, IsFirst}

-- The tests in their order: one sweep, then where control goes from each line, then the tries. Behind them stand the lines and the
-- tries.
unfoldable pub decoding : RawCode → Counts → Script CodeFault Decoded
decoding code counts = do
  _ ← test (nat_lt 0 (length code.units) || nat_le code.ins code.registers) (faults.Register 0)
  lines ← lines_at code counts
  _ ← test (nat_lt 0 (length code.units)) (faults.FallsOff 0)
  _ ← flows_at lines.0 lines.0
  _ ← tries_at (length code.units) lines.0 0 code.tries
  Value (record { lines = lines.0; tries = code.tries })

-- the first test that does not hold has this fault
unfoldable pub FirstFault : RawCode → Counts → CodeFault → Type 0
FirstFault code counts fault = IsFirst (tests (decoding code counts)) fault

-- In the words of the documentation: this is the code of these units, for a file with so many strings, types, fields and methods.
pub record IsCode (code : RawCode) (counts : Counts) (decoded : Decoded) : Type 0 where
  -- there is a unit to begin with
  pub begins : 0 < length code.units
  -- the lines stand end to end from unit 0 to the last, each spelled by its format; its registers and its index are there
  pub lines : StandFrom code counts 0 decoded.lines
  -- branches, switches and payloads go where they must, and control falls off nowhere
  pub flow : AllFlow decoded.lines decoded.lines
  -- each try covers units of the method, and its handlers start instructions
  pub handlers : AllTriesStand (length code.units) decoded.lines decoded.tries
  pub tries : decoded.tries ≡ code.tries
