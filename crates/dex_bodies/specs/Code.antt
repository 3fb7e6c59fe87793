-- Code items (Android documentation, "Dalvik executable format", code_item).
use Rattle.std.specs.Prelude.{ℕ, zero, suc, ◌+◌, ◌*◌, ◌==◌, List, [], ◌∷◌, length, slice_index, Option, Some, None, nat_le, if◌then◌else◌}
use Rattle.vet_base.specs.Script.{Script, Value, ◌>>=◌, test}
use Rattle.dex_tables.specs.declared.fault.Fault.{Fault}
use Rattle.dex_tables.specs.declared.fault.Fault.TheVariants.{Outside, TooMany}
use Rattle.dex_tables.specs.declared.fault.Limit.TheVariants.{Units}
use Rattle.dex_tables.specs.declared.dex.RawCode.{RawCode}
use Rattle.dex_tables.specs.declared.dex.RawTry.{RawTry}
use Rattle.dex_bodies.specs.declared.tries.CodeHead.{CodeHead}
use Rattle.dex_tables.specs.declared.place.Totals.{Totals}
use Rattle.dex_tables.specs.Parts.{u2_at, u4_at}
use Rattle.dex_bodies.specs.Tries.{tries_at}

-- The fixed head of a code item: four numbers of two bytes, the debug offset, the count of units, and where these begin.
unfoldable pub code_head_at : List ℕ → ℕ → Script Fault CodeHead
code_head_at file code = do
  registers ← u2_at file code code
  ins ← u2_at file registers.1 code
  outs ← u2_at file ins.1 code
  tries ← u2_at file outs.1 code
  debug ← u4_at file tries.1 code
  units ← u4_at file debug.1 code
  Value (record { registers = registers.0; ins = ins.0; outs = outs.0; tries = tries.0; units = units.0; at = units.1 })

-- so many numbers of two bytes
unfoldable pub units_from : List ℕ → ℕ → ℕ → List ℕ
units_from file at zero = []
units_from file at (suc n) = (slice_index file at + 256 * slice_index file (at + 1)) ∷ units_from file (at + 2) n

-- the units, which are counted once they lie within the file
unfoldable pub units_at : List ℕ → ℕ → CodeHead → ℕ → Script Fault (List ℕ)
units_at file code head total = do
  _ ← test (nat_le (head.at + 2 * head.units) (length file)) (Outside code)
  _ ← test (nat_le (total + head.units) 8388608) (TooMany Units)
  Value (units_from file head.at head.units)

abbrev pub raw_code : CodeHead → List ℕ → List RawTry → RawCode
raw_code head units tries = record { registers = head.registers; ins = head.ins; outs = head.outs; units = units; tries = tries }

abbrev pub coded : Totals → ℕ → ℕ → Totals
coded totals units tries = record { members = totals.members; units = totals.units + units; tries = tries }

unfoldable pub code_at : List ℕ → ℕ → ℕ → Totals → Script Fault (RawCode × Totals)
code_at file types code totals = do
  head ← code_head_at file code
  units ← units_at file code head totals.units
  tries ← tries_at file types code head totals.tries
  Value (raw_code head units tries.0, coded totals head.units tries.1)

abbrev pub some_code : RawCode × Totals → Option RawCode × Totals
some_code x = (Some x.0, x.1)

-- offset 0 stands for no code
unfoldable pub maybe_code_at : List ℕ → ℕ → ℕ → Totals → Script Fault (Option RawCode × Totals)
maybe_code_at file types code totals = if code == 0 then Value (None, totals) else (do
  code ← code_at file types code totals
  Value (some_code code))
