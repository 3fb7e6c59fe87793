-- What a certificate is: eight bytes that tell its set, the digest, the number of rows, and the rows in ascending order.
use Rattle.std.specs.Prelude.{◌≡◌, ◌<◌, ℕ, List, ◌++◌, length, codes}
use Rattle.std.specs.List.{All, flat_map}
use Rattle.vet_base.specs.Ascending.{Ascends}
use Rattle.fact_rows.specs.declared.row.Row.{Row}
use Rattle.fact_rows.specs.Order.{row_cmp}
use Rattle.cert_rows.specs.declared.sets.Set.{Set}
use Rattle.cert_rows.specs.declared.sets.Set.TheVariants.{Paths, Cells}
use Rattle.cert_rows.specs.Fitting.{RowFits}
use Rattle.cert_rows.specs.Spelling.{u4_bytes, row_bytes}

unfoldable pub magic : Set → List ℕ
magic Paths = codes "VETCERT2"
magic Cells = codes "VETCELL1"

-- the one spelling of a set, a digest and rows
unfoldable pub cert_bytes : Set → List ℕ → List Row → List ℕ
cert_bytes set digest rows = magic set ++ (digest ++ (u4_bytes (length rows) ++ flat_map row_bytes rows))

-- The bytes are the certificate of this set, this digest and these rows.
pub record IsCert (bytes : List ℕ) (set : Set) (digest : List ℕ) (rows : List Row) : Type 0 where
  pub spelled : bytes ≡ cert_bytes set digest rows
  pub digest_len : length digest ≡ 32
  pub few : length rows < 4294967296
  pub fit : All (RowFits set) rows
  pub ascend : Ascends row_cmp rows
