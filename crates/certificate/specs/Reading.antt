-- How a certificate is read: its tests in their order, each with its fault, and what it says.
use Rattle.std.specs.Prelude.{ℕ, ◌-◌, ◌==◌, Bool, true, false, not, List, [], ◌∷◌, length, take, drop, Option, Some, None, nat_eq, nat_le, if◌then◌else◌}
use Rattle.std.specs.List.{starts_with}
use Rattle.std.specs.Ordering.{is_lt}
use Rattle.vet_base.specs.Script.{Script, Value, Test, ◌>>=◌, test, repeat, tests, IsFirst}
use Rattle.fact_rows.specs.declared.row.Row.{Row}
use Rattle.fact_rows.specs.Order.{row_cmp}
use Rattle.cert_rows.specs.declared.fault.RowFault.{RowFault}
use Rattle.cert_rows.specs.declared.fault.RowFault.TheVariants as row_fault
use Rattle.cert_rows.specs.declared.sets.Set.{Set}
use Rattle.cert_rows.specs.declared.sets.Set.TheVariants.{Paths, Cells}
use Rattle.cert_rows.specs.Reading.{u4_from}
use Rattle.cert_rows.specs.Rows.{row_from}
use Rattle.certificate.specs.declared.cert.Cert.{Cert}
use Rattle.certificate.specs.declared.fault.CertFault.{CertFault}
use Rattle.certificate.specs.declared.fault.CertFault.TheVariants.{Magic, Cut, Order, Bad, Rest, Version}
use Rattle.certificate.specs.Cert.{magic}

-- "VETCERT1"
unfoldable pub old_magic : List ℕ
old_magic = 86 ∷ 69 ∷ 84 ∷ 67 ∷ 69 ∷ 82 ∷ 84 ∷ 49 ∷ []

-- a fault at the offset of what cannot be read
abbrev pub fault_at : ℕ → RowFault → CertFault
fault_at at row_fault.Cut = Cut at
fault_at at row_fault.Bad = Bad at

abbrev pub placed : {A : Type 0} → ℕ → Script RowFault A → Script CertFault A
placed at (Value x) = Value x
placed at (Test holds fault rest) = Test holds (fault_at at fault) (placed at rest)

-- the set that the first eight bytes tell
unfoldable pub set_told : List ℕ → Option Set
set_told bytes =
    if starts_with nat_eq bytes (magic Paths) then Some Paths
    else if starts_with nat_eq bytes (magic Cells) then Some Cells
    else None

abbrev pub set_named : Option Set → Script CertFault Set
set_named None = Test false Magic (Value Paths)
set_named (Some set) = Value set

-- that set, and the bytes behind the first eight
unfoldable pub magic_from : List ℕ → Script CertFault (Set × List ℕ)
magic_from bytes = do
  _ ← test (not (starts_with nat_eq bytes old_magic)) Version
  _ ← test (nat_le 8 (length bytes)) Magic
  set ← set_named (set_told bytes)
  Value (set, drop 8 bytes)

-- the digest, and the bytes behind it
unfoldable pub digest_from : List ℕ → Script CertFault (List ℕ × List ℕ)
digest_from bytes = do
  _ ← test (nat_le 32 (length bytes)) (Cut 8)
  Value (take 32 bytes, drop 32 bytes)

-- how many rows there are, and the bytes behind
unfoldable pub count_from : List ℕ → Script CertFault (ℕ × List ℕ)
count_from bytes = placed 40 (u4_from bytes)

abbrev pub is_above : Option Row → Row → Bool
is_above None row = true
is_above (Some last) row = is_lt (row_cmp last row)

-- The row that the bytes begin with, which are the last of so many, where it is above the last one.
unfoldable pub next_row : Set → ℕ → Option Row × List ℕ → Script CertFault (Row × (Option Row × List ℕ))
next_row set size s = do
  row ← placed (size - length s.1) (row_from set s.1)
  _ ← test (is_above s.0 row.0) (Order (size - length s.1))
  Value (row.0, (Some row.0, row.1))

unfoldable pub rows_from : Set → ℕ → ℕ → List ℕ → Script CertFault (List Row × (Option Row × List ℕ))
rows_from set size count bytes = repeat count (next_row set size) (None, bytes)

unfoldable pub cert_from : List ℕ → Script CertFault Cert
cert_from bytes = do
  set ← magic_from bytes
  digest ← digest_from set.1
  count ← count_from digest.1
  rows ← rows_from set.0 (length bytes) count.0 count.1
  _ ← test (length rows.1.1 == 0) (Rest (length bytes - length rows.1.1))
  Value (record { set = set.0; digest = digest.0; rows = rows.0 })

-- the fault of the first test that does not hold
abbrev pub FirstCertFault : List ℕ → CertFault → Type 0
FirstCertFault bytes fault = IsFirst (tests (cert_from bytes)) fault
