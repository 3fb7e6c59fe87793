-- How bytes are read and kept. Behind each fact stands what code would answer that does otherwise.
use Rattle.std.specs.Prelude.{◌≡◌, ℕ, List, [], ◌∷◌, ◌++◌, take, codes, Some, None, Vec}
use Rattle.std.specs.Hash as fed
use Rattle.std.specs.declared.alloc.Global.{Global}
use Rattle.vet_base.specs.declared.name.Text.TheVariants.{Short, Long}
use Rattle.vet_base.specs.Numbers.{u2, u4, uleb}
use Rattle.vet_base.specs.Shared.{items_of}
use Rattle.vet_base.specs.Text.{bytes_of}

-- a text of 30 bytes, and one of 31
abbrev pub thirty : List ℕ
thirty = codes "abcdefghijklmnopqrstuvwxyz0123"

abbrev pub thirty_one : List ℕ
thirty_one = thirty ++ codes "4"

pub record KeepsBytes : Type 0 where
  -- two bytes go two on; where they go one on, the offset is 1
  pub two_bytes : u2 (1 ∷ 2 ∷ []) 0 ≡ Some (513, 2)
  -- each of four bytes counts at its place; with the middle ones exchanged they are 67,240,705
  pub four_bytes : u4 (1 ∷ 2 ∷ 3 ∷ 4 ∷ []) 0 ≡ Some (67305985, 4)
  -- a number has five bytes at most; where six are read, this is one
  pub five_bytes : uleb (128 ∷ 128 ∷ 128 ∷ 128 ∷ 128 ∷ 1 ∷ []) 0 ≡ None
  -- a name of 30 bytes that counts 29 of them is another, and so is one of 31 with storage for 30
  pub short_name : bytes_of (Short 29 thirty) ≡ thirty → ⊥
  pub long_name : (kept : Vec ℕ Global) → kept.items ≡ take 30 thirty_one → bytes_of (Long kept) ≡ thirty_one → ⊥
  -- a name feeds a hasher more than the number of its bytes
  pub hashed : fed.slice fed.u8 (codes "a") ≡ fed.usize 1 → ⊥
  -- a list without storage is no copy of one with an item
  pub no_storage : (x : ℕ) (xs : List ℕ) → items_of {X = ℕ} {Z = Global} {W = Global} None ≡ x ∷ xs → ⊥

abbrev pub BytesAreKept : Type 0
BytesAreKept = KeepsBytes
