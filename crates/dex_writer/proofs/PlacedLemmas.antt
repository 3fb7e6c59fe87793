-- One more piece, and one more row.
use Rattle.std.proofs.Common.{◌≡◌, ℕ, ◌+◌, ◌<◌, List, [], ◌∷◌, ◌++◌, length, take, get_or, refl, sym, ap, ◌∙◌, append_assoc, length-append, arith}
use Rattle.std.specs.List.{flat_map}
use Rattle.std.proofs.lemmas.List.{append-nil, take_more}
use Rattle.std.proofs.lemmas.List.Concat.{flat_map-append}
use Rattle.dex_writer.specs.Bytes.{u4_bytes}
use Rattle.dex_writer.specs.Placed.{offsets_of, rows_of, pieces, placed_rows}

-- what is put behind a whole that stands already
put_behind : (old so_far one now new : List ℕ) → now ≡ old ++ so_far → new ≡ now ++ one → new ≡ old ++ (so_far ++ one)
put_behind old so_far one now new before grown = rw (grown, before) (append_assoc old so_far one)

flat_map-push : {X : Type 0} (piece : X → List ℕ) (xs : List X) (x : X) → flat_map piece (xs ++ x ∷ []) ≡ flat_map piece xs ++ piece x
flat_map-push piece xs x = flat_map-append piece xs (x ∷ []) ∙ ap (λ bytes. flat_map piece xs ++ bytes) (append-nil (piece x))

-- Pieces that say nothing of where they stand, and rows that know it.
module _ {X : Type 0} (piece : X → List ℕ) where
  further : (at : ℕ) (y : X) (xs : List X) → at + length (flat_map piece (y ∷ xs)) ≡ at + length (piece y) + length (flat_map piece xs)
  further at y xs = omega (arith, length-append (piece y) (flat_map piece xs))

  offsets_of-push : (at : ℕ) (xs : List X) (x : X) → offsets_of piece at (xs ++ x ∷ []) ≡ offsets_of piece at xs ++ (at + length (flat_map piece xs)) ∷ []
  offsets_of-push at [] x = let e : at + 0 ≡ at = omega arith in rw e refl
  offsets_of-push at (y ∷ xs) x = rw (further at y xs) (ap (λ offsets. at ∷ offsets) (offsets_of-push (at + length (piece y)) xs x))

  rows_of-push : (row : ℕ → X → List ℕ) (at : ℕ) (xs : List X) (x : X) → rows_of row piece at (xs ++ x ∷ []) ≡ rows_of row piece at xs ++ row (at + length (flat_map piece xs)) x
  rows_of-push row at [] x = let e : at + 0 ≡ at = omega arith in rw (append-nil (row at x), e) refl
  rows_of-push row at (y ∷ xs) x = rw (rows_of-push row (at + length (piece y)) xs x, further at y xs) (sym (append_assoc (row at y) _ _))

  -- a piece behind those that stand already
  pub part_step : (i : ℕ) (xs : List X) (x : X) (old now new : List ℕ) → i < length xs → x ≡ get_or xs i x
      → now ≡ old ++ flat_map piece (take i xs) → new ≡ now ++ piece x → new ≡ old ++ flat_map piece (take (i + 1) xs)
  part_step i xs x old now new lt item so_far one =
      rw (take_more xs i x lt, ← item, flat_map-push piece (take i xs) x) (put_behind old (flat_map piece (take i xs)) (piece x) now new so_far one)

  -- its offset
  pub offset_step : (at i place : ℕ) (xs : List X) (x : X) (old now new : List ℕ) → i < length xs → x ≡ get_or xs i x → place ≡ at + length (flat_map piece (take i xs))
      → now ≡ old ++ flat_map u4_bytes (offsets_of piece at (take i xs)) → new ≡ now ++ u4_bytes place → new ≡ old ++ flat_map u4_bytes (offsets_of piece at (take (i + 1) xs))
  offset_step at i place xs x old now new lt item here so_far one =
      let more : flat_map u4_bytes (offsets_of piece at (take i xs) ++ place ∷ []) ≡ flat_map u4_bytes (offsets_of piece at (take i xs)) ++ u4_bytes place = flat_map-push u4_bytes (offsets_of piece at (take i xs)) place in
      rw (take_more xs i x lt, ← item, offsets_of-push at (take i xs) x, ← here, more) (put_behind old (flat_map u4_bytes (offsets_of piece at (take i xs))) (u4_bytes place) now new so_far one)

  -- its row
  pub row_step : (row : ℕ → X → List ℕ) (at i place : ℕ) (xs : List X) (x : X) (old now new : List ℕ) → i < length xs → x ≡ get_or xs i x → place ≡ at + length (flat_map piece (take i xs))
      → now ≡ old ++ rows_of row piece at (take i xs) → new ≡ now ++ row place x → new ≡ old ++ rows_of row piece at (take (i + 1) xs)
  row_step row at i place xs x old now new lt item here so_far one =
      rw (take_more xs i x lt, ← item, rows_of-push row at (take i xs) x, ← here) (put_behind old (rows_of row piece at (take i xs)) (row place x) now new so_far one)

-- Pieces that say where parts of them stand, and their rows.
module _ {X : Type 0} (piece : ℕ → X → List ℕ) where
  beyond : (at : ℕ) (y : X) (xs : List X) → at + length (pieces piece at (y ∷ xs)) ≡ at + length (piece at y) + length (pieces piece (at + length (piece at y)) xs)
  beyond at y xs = omega (arith, length-append (piece at y) (pieces piece (at + length (piece at y)) xs))

  pieces-push : (at : ℕ) (xs : List X) (x : X) → pieces piece at (xs ++ x ∷ []) ≡ pieces piece at xs ++ piece (at + length (pieces piece at xs)) x
  pieces-push at [] x = let e : at + 0 ≡ at = omega arith in rw (append-nil (piece at x), e) refl
  pieces-push at (y ∷ xs) x = rw (pieces-push (at + length (piece at y)) xs x, beyond at y xs) (sym (append_assoc (piece at y) _ _))

  placed_rows-push : (row : ℕ → X → List ℕ) (at : ℕ) (xs : List X) (x : X) → placed_rows row piece at (xs ++ x ∷ []) ≡ placed_rows row piece at xs ++ row (at + length (pieces piece at xs)) x
  placed_rows-push row at [] x = let e : at + 0 ≡ at = omega arith in rw (append-nil (row at x), e) refl
  placed_rows-push row at (y ∷ xs) x = rw (placed_rows-push row (at + length (piece at y)) xs x, beyond at y xs) (sym (append_assoc (row at y) _ _))

  pub piece_step : (at i place : ℕ) (xs : List X) (x : X) (old now new : List ℕ) → i < length xs → x ≡ get_or xs i x → place ≡ at + length (pieces piece at (take i xs))
      → now ≡ old ++ pieces piece at (take i xs) → new ≡ now ++ piece place x → new ≡ old ++ pieces piece at (take (i + 1) xs)
  piece_step at i place xs x old now new lt item here so_far one =
      rw (take_more xs i x lt, ← item, pieces-push at (take i xs) x, ← here) (put_behind old (pieces piece at (take i xs)) (piece place x) now new so_far one)

  pub placed_step : (row : ℕ → X → List ℕ) (at i place : ℕ) (xs : List X) (x : X) (old now new : List ℕ) → i < length xs → x ≡ get_or xs i x → place ≡ at + length (pieces piece at (take i xs))
      → now ≡ old ++ placed_rows row piece at (take i xs) → new ≡ now ++ row place x → new ≡ old ++ placed_rows row piece at (take (i + 1) xs)
  placed_step row at i place xs x old now new lt item here so_far one =
      rw (take_more xs i x lt, ← item, placed_rows-push row at (take i xs) x, ← here) (put_behind old (placed_rows row piece at (take i xs)) (row place x) now new so_far one)

-- where the next piece stands
pub next_place : (at place : ℕ) (before old now : List ℕ) → at ≡ length old → now ≡ old ++ before → place ≡ length now → place ≡ at + length before
next_place at place before old now at-is now-is place-is = place-is ∙ ap length now-is ∙ length-append old before ∙ ap (λ (n : ℕ). n + length before) (sym at-is)
