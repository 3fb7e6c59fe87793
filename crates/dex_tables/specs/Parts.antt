-- The parts that every item is made of: numbers, indices and texts, each with the fault of a part that is not there.
use Rattle.std.specs.Prelude.{ℕ, ℤ, pos, ◌+◌, ◌*◌, ◌==◌, ◌||◌, List, length, drop, take, position, Option, Some, None, false, nat_lt, nat_le}
use Rattle.vet_base.specs.Numbers.{u2, u4, uleb, sleb}
use Rattle.vet_base.specs.Script.{Script, Value, Test, ◌>>=◌, test}
use Rattle.dex_tables.specs.declared.fault.Fault.{Fault}
use Rattle.dex_tables.specs.declared.fault.Fault.TheVariants.{Outside, Index, Text, Leb}
use Rattle.dex_tables.specs.declared.fault.Table.{Table}

-- a value that is there, or the fault
abbrev pub there : {A : Type 0} → Option A → A → Fault → Script Fault A
there (Some x) d fault = Value x
there None d fault = Test false fault (Value d)

-- a number of two or of four bytes in the item that begins at this offset, and the offset behind the number
abbrev pub u2_at : List ℕ → ℕ → ℕ → Script Fault (ℕ × ℕ)
u2_at file at item = there (u2 file at) (0, 0) (Outside item)

abbrev pub u4_at : List ℕ → ℕ → ℕ → Script Fault (ℕ × ℕ)
u4_at file at item = there (u4 file at) (0, 0) (Outside item)

-- a LEB128 number, and the offset behind it
abbrev pub uleb_at : List ℕ → ℕ → Script Fault (ℕ × ℕ)
uleb_at file at = there (uleb file at) (0, 0) (Leb at)

abbrev pub sleb_at : List ℕ → ℕ → Script Fault (ℤ × ℕ)
sleb_at file at = there (sleb file at) (pos 0, 0) (Leb at)

-- an index below the size of its table
abbrev pub index_test : ℕ → ℕ → Table → ℕ → Script Fault (Unit {0})
index_test index size table row = test (nat_lt index size) (Index table row)

-- the bytes up to the first 0
unfoldable pub text_at : List ℕ → ℕ → Script Fault (List ℕ)
text_at file at = do
  len ← there (position (λ b. b == 0) (drop at file)) 0 (Text at)
  Value (take len (drop at file))

-- so many rows of that width lie within the file, or there are none
unfoldable pub table_test : List ℕ → ℕ → ℕ → ℕ → Script Fault (Unit {0})
table_test file size at width = test (size == 0 || nat_le (at + size * width) (length file)) (Outside at)
