-- Marks: what a change of one bit of one word leaves.
use Rattle.std.proofs.Common.{◌≡◌, ◌≢◌, ℕ, ◌+◌, ◌*◌, ◌/◌, ◌%◌, ◌<◌, true, false, ◌||◌, List, length, get_or, set, refl, sym, ◌∙◌, ap, inl, inr, arith, eq-eqb}
use Rattle.std.specs.Prelude.{◌==◌, ◌&&◌, not}
use Rattle.std.specs.Int.{bit_at}
use Rattle.std.proofs.lemmas.Bool.{cases_eq, cases_lt, ne_eqb}
use Rattle.std.proofs.lemmas.List.{get_or-set_same, get_or-set_other, get_or_past}
use Rattle.std.proofs.lemmas.Nat.Bits.{bit_at-zero}
use Rattle.app_model.specs.Marks.{is_marked}

-- the same place in the same word
same_place : (i j : ℕ) → j / 64 ≡ i / 64 → j % 64 ≡ i % 64 → j ≡ i
same_place i j word bit = omega arith

module _ (words : List ℕ) (i v : ℕ) (within : i / 64 < length words) where
  in_other_word : (j : ℕ) → j / 64 ≢ i / 64 → is_marked (set words (i / 64) v) j ≡ is_marked words j
  unfolding is_marked
  in_other_word j other = ap (λ w. bit_at w (j % 64) == 1) (get_or-set_other words (i / 64) (j / 64) v 0 other)

  in_the_word : (j : ℕ) → j / 64 ≡ i / 64 → is_marked (set words (i / 64) v) j ≡ (bit_at v (j % 64) == 1)
  unfolding is_marked
  in_the_word j same = ap (λ k. bit_at (get_or (set words (i / 64) v) k 0) (j % 64) == 1) same ∙ ap (λ w. bit_at w (j % 64) == 1) (get_or-set_same words (i / 64) v 0 within)

  as_before : (j : ℕ) → j / 64 ≡ i / 64 → bit_at v (j % 64) ≡ bit_at (get_or words (i / 64) 0) (j % 64) → (bit_at v (j % 64) == 1) ≡ is_marked words j
  unfolding is_marked
  as_before j same bit = ap (λ b. b == 1) bit ∙ ap (λ k. bit_at (get_or words k 0) (j % 64) == 1) (sym same)

  pub marked_by : bit_at v (i % 64) ≡ 1 → ((k : ℕ) → k ≢ i % 64 → bit_at v k ≡ bit_at (get_or words (i / 64) 0) k) → (j : ℕ) → is_marked (set words (i / 64) v) j ≡ ((j == i) || is_marked words j)
  marked_by here others j = elim (cases_eq (j / 64) (i / 64)) [
    | inr other ↦ in_other_word j other ∙ ap (λ b. b || is_marked words j) (sym (ne_eqb j i (λ same. other (ap (λ n. n / 64) same))))
    | inl word ↦ elim (cases_eq (j % 64) (i % 64)) [
      | inl bit ↦ in_the_word j word ∙ (ap (λ b. b == 1) (ap (λ k. bit_at v k) bit ∙ here) ∙ ap (λ b. b || is_marked words j) (sym (eq-eqb j i (same_place i j word bit))))
      | inr apart ↦ in_the_word j word ∙ (as_before j word (others (j % 64) apart) ∙ ap (λ b. b || is_marked words j) (sym (ne_eqb j i (λ same. apart (ap (λ n. n % 64) same)))))
    ]
  ]

  pub unmarked_by : bit_at v (i % 64) ≡ 0 → ((k : ℕ) → k < 64 → k ≢ i % 64 → bit_at v k ≡ bit_at (get_or words (i / 64) 0) k) → (j : ℕ) → is_marked (set words (i / 64) v) j ≡ (not (j == i) && is_marked words j)
  unmarked_by here others j = elim (cases_eq (j / 64) (i / 64)) [
    | inr other ↦ in_other_word j other ∙ ap (λ b. not b && is_marked words j) (sym (ne_eqb j i (λ same. other (ap (λ n. n / 64) same))))
    | inl word ↦ elim (cases_eq (j % 64) (i % 64)) [
      | inl bit ↦ in_the_word j word ∙ (ap (λ b. b == 1) (ap (λ k. bit_at v k) bit ∙ here) ∙ ap (λ b. not b && is_marked words j) (sym (eq-eqb j i (same_place i j word bit))))
      | inr apart ↦ in_the_word j word ∙ (as_before j word (others (j % 64) (omega arith) apart) ∙ ap (λ b. not b && is_marked words j) (sym (ne_eqb j i (λ same. apart (ap (λ n. n % 64) same)))))
    ]
  ]

unmarked_word : (words : List ℕ) (j : ℕ) → get_or words (j / 64) 0 ≡ 0 → is_marked words j ≡ false
unfolding is_marked
unmarked_word words j nothing = ap (λ w. bit_at w (j % 64) == 1) nothing ∙ ap (λ b. b == 1) (bit_at-zero (j % 64))

pub none_marked : (words : List ℕ) → ((k : ℕ) → k < length words → get_or words k 0 ≡ 0) → (j : ℕ) → is_marked words j ≡ false
none_marked words nothing j = elim (cases_lt (j / 64) (length words)) [
  | inl within ↦ unmarked_word words j (nothing (j / 64) within)
  | inr past ↦ unmarked_word words j (get_or_past words (j / 64) 0 past)
]

pub is_marked_at : (words : List ℕ) (at bit : ℕ) → bit < 64 → bit_at (get_or words at 0) bit ≡ 1 → is_marked words (at * 64 + bit) ≡ true
unfolding is_marked
is_marked_at words at bit within set =
    let word : (at * 64 + bit) / 64 ≡ at = omega arith in
    let place : (at * 64 + bit) % 64 ≡ bit = omega arith in
    rw (word, place, set)

pub has_mark : (words : List ℕ) (i : ℕ) → is_marked words i ≡ (bit_at (get_or words (i / 64) 0) (i % 64) == 1)
unfolding is_marked
has_mark words i = refl
