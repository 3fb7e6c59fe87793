-- Rows that are filed are found, and a hash goes on from what was hashed.
use Rattle.std.proofs.Common.{◌≡◌, ℕ, zero, suc, true, List, [], ◌∷◌, length, refl, sym, ap, ◌∙◌, inl, arith}
use Rattle.std.proofs.lemmas.List.Sorted.{length_permutation}
use Rattle.std.specs.Hash.{le_bytes}
use Rattle.std.specs.Hash.FoldHasher.{initial, write, folded_multiply, read_u32, read_u64, read_short}
use Rattle.chained_rows.specs.Chains.{last, moved_up}
use Rattle.chained_rows.specs.Hashing.{drawn}
use Rattle.search_witness.specs.RowsKept.{RowsAreKept}

one_more : (n : ℕ) → moved_up true n ≡ suc n
one_more zero = refl
one_more (suc n) = refl

-- where each row passes, the last has the number of the rows
last_of_all : (rows : List ℕ) → last (λ _. true) rows ≡ length rows
last_of_all [] = refl
last_of_all (row ∷ rows) = ap (moved_up true) (last_of_all rows) ∙ one_more (length rows)

-- what is drawn by the one seed, and by the other
of_zero : drawn 0 0 ≡ 4708350879702344126
unfolding le_bytes initial write folded_multiply read_u32 read_u64 read_short
of_zero = refl

of_one : drawn 1 0 ≡ 17609785557712512546
unfolding le_bytes initial write folded_multiply read_u32 read_u64 read_short
of_one = refl

other_draw : drawn 1 0 ≡ drawn 0 0 → ⊥
other_draw same = let numbers : 17609785557712512546 ≡ 4708350879702344126 = sym of_one ∙ same ∙ of_zero in let none : ⊥ = omega (arith, numbers) in none

pub rows_are_kept : RowsAreKept
rows_are_kept = record {
  known = λ new grown. grown.absent (inl refl);
  first_way = λ after next. let none : ⊥ = cc in none;
  second_way = λ after next. let none : ⊥ = cc in none;
  third_way = λ after next. let none : ⊥ = cc in none;
  next_link = λ next. let none : ⊥ = cc in none;
  countable = λ rows many less. let is = last_of_all rows in let none : ⊥ = omega (arith, is, many, less) in none;
  appended = λ same. let none : ⊥ = cc in none;
  ordered = λ same. let none_is_one = length_permutation {X = ℕ} (7 ∷ []) [] same in let none : ⊥ = omega (arith, none_is_one) in none;
  remembered = λ same. let none : ⊥ = cc in none;
  seeded = λ same. other_draw (ap (λ start. start.state) same);
}
