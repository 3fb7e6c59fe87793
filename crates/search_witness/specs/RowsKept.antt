-- How rows are kept, numbers stand for rows here, and how a hasher goes on. Behind each fact stands what a slip would answer.
use Rattle.std.specs.Prelude.{◌≡◌, ◌<◌, ◌^◌, ◌++◌, ℕ, true, nat_eq, IsPermutation, List, [], ◌∷◌, length, Option, Some, None}
use Rattle.chained_rows.specs.declared.filing.Way.{Way}
use Rattle.chained_rows.specs.declared.filing.Way.TheVariants.{First, Second, Third}
use Rattle.chained_rows.specs.declared.word_hasher.WordHasher.{WordHasher}
use Rattle.chained_rows.specs.Chains.{IsGrown, GivesNext, found, last, left}
use Rattle.chained_rows.specs.Hashing.{start_of, step}

-- each row is filed under 5 in each way
abbrev pub under_five : Way → ℕ → Option ℕ
under_five way row = Some 5

abbrev pub always : Way → ℕ → Way
always way key = way

-- the rows under 5, and those that are left of a search that stands at a number
abbrev pub all_by : Way → List ℕ → List ℕ
all_by way rows = found nat_eq under_five (always way) rows 5

abbrev pub left_by : Way → List ℕ → ℕ → List ℕ
left_by way rows number = left nat_eq under_five (always way) rows 5 number

abbrev pub hasher : ℕ → WordHasher
hasher state = record { state = state; factor = 1 }

pub record KeepsRows : Type 0 where
  -- a row that is there is not new (else it is)
  pub known : (new : List ℕ) → IsGrown (7 ∷ []) 7 new → ⊥
  -- a row that was put is found by each way (else it is not filed by the first, the second or the third)
  pub first_way : (after : List ℕ) → GivesNext None (all_by First (7 ∷ [])) after → ⊥
  pub second_way : (after : List ℕ) → GivesNext None (all_by Second (7 ∷ [])) after → ⊥
  pub third_way : (after : List ℕ) → GivesNext None (all_by Third (7 ∷ [])) after → ⊥
  -- behind the last of three rows two are left (else one, by the link of another row)
  pub next_link : GivesNext (Some 9) (left_by First (7 ∷ 8 ∷ 9 ∷ []) 3) (left_by First (7 ∷ 8 ∷ 9 ∷ []) 1) → ⊥
  -- the last of 2^32 rows has a number that is not below that (else there may be so many)
  pub countable : (rows : List ℕ) → length rows ≡ 2 ^ 32 → last (λ _. true) rows < 2 ^ 32 → ⊥
  -- a row that is appended to none is there (else none is)
  pub appended : ◌≡◌ {A = List ℕ} [] ([] ++ 7 ∷ []) → ⊥
  -- a row that is there is among those in order (else the first is not)
  pub ordered : IsPermutation {X = ℕ} (7 ∷ []) [] → ⊥
  -- what was hashed before counts (else it is forgotten)
  pub remembered : step (hasher 1) 0 ≡ step (hasher 0) 0 → ⊥
  -- another seed begins otherwise (else it is dropped)
  pub seeded : start_of 1 ≡ start_of 0 → ⊥

abbrev pub RowsAreKept : Type 0
RowsAreKept = KeepsRows
