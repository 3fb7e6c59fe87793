-- The first fault of bytes that are no certificate, said of the bytes alone.
use Rattle.std.specs.Prelude.{◌≡◌, ◌≢◌, ◌<◌, ◌-◌, ℕ, List, [], ◌∷◌, ◌++◌, length}
use Rattle.std.specs.List.{All, flat_map}
use Rattle.vet_base.specs.Ascending.{Ascends}
use Rattle.fact_rows.specs.declared.row.Row.{Row}
use Rattle.fact_rows.specs.Order.{row_cmp}
use Rattle.cert_rows.specs.declared.sets.Set.{Set}
use Rattle.cert_rows.specs.Fitting.{RowFits}
use Rattle.cert_rows.specs.Spelling.{u4_bytes, row_bytes}
use Rattle.certificate.specs.declared.fault.CertFault.{CertFault}
use Rattle.certificate.specs.declared.fault.CertFault.TheVariants.{Magic, Cut, Order, Bad, Rest, Version}
use Rattle.certificate.specs.Cert.{magic}
use Rattle.certificate.specs.Reading.{old_magic}

-- a row of a certificate of the set stands at their front
pub record BeginsWithRow (set : Set) (bytes : List ℕ) : Type 0 where
  pub row : Row
  pub rest : List ℕ
  pub fits : RowFits set row
  pub is : bytes ≡ row_bytes row ++ rest

-- they are a front of a row of a certificate of the set, and not all of it
pub record IsCutRow (set : Set) (bytes : List ℕ) : Type 0 where
  pub row : Row
  pub more : List ℕ
  pub fits : RowFits set row
  pub some : more ≢ []
  pub is : bytes ++ more ≡ row_bytes row

-- they begin as a certificate of the set and of so many rows, of which these stand there, each above the one before, and others are
-- left
pub record Holds (bytes : List ℕ) (set : Set) (digest : List ℕ) (count : ℕ) (rows : List Row) (rest : List ℕ) : Type 0 where
  pub is : bytes ≡ magic set ++ (digest ++ (u4_bytes count ++ (flat_map row_bytes rows ++ rest)))
  pub digest_len : length digest ≡ 32
  pub few : count < 4294967296
  pub fit : All (RowFits set) rows
  pub ascend : Ascends row_cmp rows

-- where what is left begins
abbrev pub offset : List ℕ → List ℕ → ℕ
offset bytes rest = length bytes - length rest

pub data FirstFault (bytes : List ℕ) : CertFault → Type 0 where
  -- they begin as the first version does
  of_version : (rest : List ℕ) → bytes ≡ old_magic ++ rest → FirstFault bytes Version
  -- they begin neither so nor as the certificates of a set do
  of_magic : ((rest : List ℕ) → bytes ≢ old_magic ++ rest) → ((set : Set) (rest : List ℕ) → bytes ≢ magic set ++ rest) → FirstFault bytes Magic
  -- the digest or the count does not end within them
  of_digest : (set : Set) (rest : List ℕ) → bytes ≡ magic set ++ rest → length rest < 32 → FirstFault bytes (Cut 8)
  of_count : (set : Set) (digest rest : List ℕ) → bytes ≡ magic set ++ (digest ++ rest) → length digest ≡ 32 → length rest < 4 → FirstFault bytes (Cut 40)
  -- fewer rows stand there than are announced, and what is left is a front of a row of the set
  of_cut : (set : Set) (digest rest : List ℕ) (count : ℕ) (rows : List Row) → Holds bytes set digest count rows rest → length rows < count
      → IsCutRow set rest → FirstFault bytes (Cut (offset bytes rest))
  -- and it neither is one nor begins with a row of the set
  of_byte : (set : Set) (digest rest : List ℕ) (count : ℕ) (rows : List Row) → Holds bytes set digest count rows rest → length rows < count
      → (BeginsWithRow set rest → ⊥) → (IsCutRow set rest → ⊥) → FirstFault bytes (Bad (offset bytes rest))
  -- and it begins with a row of the set that is not above the last one
  of_order : (set : Set) (digest rest more : List ℕ) (count : ℕ) (rows : List Row) (row : Row) → Holds bytes set digest count rows rest → length rows < count
      → rest ≡ row_bytes row ++ more → RowFits set row → (Ascends row_cmp (rows ++ row ∷ []) → ⊥) → FirstFault bytes (Order (offset bytes rest))
  -- all rows that are announced stand there, and bytes are left
  of_rest : (set : Set) (digest rest : List ℕ) (rows : List Row) → Holds bytes set digest (length rows) rows rest → rest ≢ [] → FirstFault bytes (Rest (offset bytes rest))
