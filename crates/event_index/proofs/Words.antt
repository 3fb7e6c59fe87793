-- Bits of words: what a change of one word leaves, and what the words of two have together.
use Rattle.std.proofs.Common.{◌≡◌, ◌≢◌, ℕ, zero, suc, ◌+◌, ◌/◌, ◌%◌, ◌<◌, ◌≤◌, true, false, ◌||◌, List, length, replicate, get_or, set, max, refl, sym, subst, ◌∙◌, ap, inl, inr, arith, eq-eqb}
use Rattle.std.specs.Prelude.{◌==◌}
use Rattle.std.specs.Int.{bit_at}
use Rattle.std.specs.Int.RustNames.{bit_or}
use Rattle.std.proofs.lemmas.Bool.{cases_eq, cases_lt, ne_eqb}
use Rattle.std.proofs.lemmas.List.{get_or-set_same, get_or-set_other, get_or_past, get_or-replicate, length-replicate}
use Rattle.std.proofs.lemmas.Nat.Bits.{bit_at-zero, bit_at_or, bit_at-lt}
use Rattle.app_model.specs.Marks.{is_marked}

-- the same place in the same word
same_place : (i j : ℕ) → j / 64 ≡ i / 64 → j % 64 ≡ i % 64 → j ≡ i
same_place i j word bit = omega arith

module _ (words : List ℕ) (i v : ℕ) (within : i / 64 < length words) where
  in_other_word : (j : ℕ) → j / 64 ≢ i / 64 → is_marked (set words (i / 64) v) j ≡ is_marked words j
  unfolding is_marked
  in_other_word j other = ap (λ w. bit_at w (j % 64) == 1) (get_or-set_other words (i / 64) (j / 64) v 0 other)

  in_the_word : (j : ℕ) → j / 64 ≡ i / 64 → is_marked (set words (i / 64) v) j ≡ (bit_at v (j % 64) == 1)
  unfolding is_marked
  in_the_word j same = ap (λ k. bit_at (get_or (set words (i / 64) v) k 0) (j % 64) == 1) same ∙ ap (λ w. bit_at w (j % 64) == 1) (get_or-set_same words (i / 64) v 0 within)

  as_before : (j : ℕ) → j / 64 ≡ i / 64 → bit_at v (j % 64) ≡ bit_at (get_or words (i / 64) 0) (j % 64) → (bit_at v (j % 64) == 1) ≡ is_marked words j
  unfolding is_marked
  as_before j same bit = ap (λ b. b == 1) bit ∙ ap (λ k. bit_at (get_or words k 0) (j % 64) == 1) (sym same)

  pub marked_by : bit_at v (i % 64) ≡ 1 → ((k : ℕ) → k ≢ i % 64 → bit_at v k ≡ bit_at (get_or words (i / 64) 0) k) → (j : ℕ) → is_marked (set words (i / 64) v) j ≡ ((j == i) || is_marked words j)
  marked_by here others j = elim (cases_eq (j / 64) (i / 64)) [
    | inr other ↦ in_other_word j other ∙ ap (λ b. b || is_marked words j) (sym (ne_eqb j i (λ same. other (ap (λ n. n / 64) same))))
    | inl word ↦ elim (cases_eq (j % 64) (i % 64)) [
      | inl bit ↦ in_the_word j word ∙ (ap (λ b. b == 1) (ap (λ k. bit_at v k) bit ∙ here) ∙ ap (λ b. b || is_marked words j) (sym (eq-eqb j i (same_place i j word bit))))
      | inr apart ↦ in_the_word j word ∙ (as_before j word (others (j % 64) apart) ∙ ap (λ b. b || is_marked words j) (sym (ne_eqb j i (λ same. apart (ap (λ n. n % 64) same)))))
    ]
  ]

unmarked_word : (words : List ℕ) (j : ℕ) → get_or words (j / 64) 0 ≡ 0 → is_marked words j ≡ false
unfolding is_marked
unmarked_word words j nothing = ap (λ w. bit_at w (j % 64) == 1) nothing ∙ ap (λ b. b == 1) (bit_at-zero (j % 64))

pub none_marked : (count j : ℕ) → is_marked (replicate count 0) j ≡ false
none_marked count j = elim (cases_lt (j / 64) count) [
  | inl within ↦ unmarked_word (replicate count 0) j (get_or-replicate count (j / 64) 0 0 within)
  | inr past ↦ unmarked_word (replicate count 0) j (get_or_past (replicate count 0) (j / 64) 0 (subst (λ n. n ≤ j / 64) (sym (length-replicate count 0)) past))
]

pub mark_of : (words : List ℕ) (i : ℕ) → is_marked words i ≡ (bit_at (get_or words (i / 64) 0) (i % 64) == 1)
unfolding is_marked
mark_of words i = refl

pub has_no_word : (words : List ℕ) (i : ℕ) → length words ≤ i / 64 → is_marked words i ≡ false
has_no_word words i past = unmarked_word words i (get_or_past words (i / 64) 0 past)

-- the words of the two, up to a place
pub record JoinedUpTo (old other new : List ℕ) (at : ℕ) : Type 0 where
  pub long : length new ≡ length old
  pub front : (k : ℕ) → k < at → get_or new k 0 ≡ bit_or (get_or old k 0) (get_or other k 0)
  pub back : (k : ℕ) → at ≤ k → get_or new k 0 ≡ get_or old k 0

pub joined_none : (old other : List ℕ) → JoinedUpTo old other old 0
joined_none old other = record { long = refl; front = λ k below. absurd (omega arith); back = λ k beyond. refl }

pub joined_more : (old other new next : List ℕ) (at : ℕ) → at < length new → next ≡ set new at (bit_or (get_or new at 0) (get_or other at 0)) → length next ≡ length new → JoinedUpTo old other new at → JoinedUpTo old other next (at + 1)
joined_more old other new next at within is long joined = record {
  long = long ∙ joined.long;
  front = λ k below. elim (cases_eq k at) [
    | inl same ↦ ap (λ ws. get_or ws k 0) is ∙ (ap (λ n. get_or (set new at (bit_or (get_or new at 0) (get_or other at 0))) n 0) same
        ∙ (get_or-set_same new at (bit_or (get_or new at 0) (get_or other at 0)) 0 within
        ∙ (ap (λ w. bit_or w (get_or other at 0)) (joined.back at (omega arith)) ∙ ap (λ n. bit_or (get_or old n 0) (get_or other n 0)) (sym same))))
    | inr apart ↦ ap (λ ws. get_or ws k 0) is ∙ (get_or-set_other new at k (bit_or (get_or new at 0) (get_or other at 0)) 0 apart ∙ joined.front k (omega (arith, apart)))
  ];
  back = λ k beyond. ap (λ ws. get_or ws k 0) is ∙ (get_or-set_other new at k (bit_or (get_or new at 0) (get_or other at 0)) 0 (λ same. omega arith) ∙ joined.back k (omega arith));
}

greater_one : (a b : ℕ) → a < 2 → b < 2 → (max a b == 1) ≡ ((a == 1) || (b == 1))
greater_one zero zero few less = refl
greater_one zero (suc zero) few less = refl
greater_one (suc zero) zero few less = refl
greater_one (suc zero) (suc zero) few less = refl
greater_one (suc (suc a)) b few less = absurd (omega arith)
greater_one zero (suc (suc b)) few less = absurd (omega arith)
greater_one (suc zero) (suc (suc b)) few less = absurd (omega arith)

or_bits : (v w k : ℕ) → (bit_at (bit_or v w) k == 1) ≡ ((bit_at v k == 1) || (bit_at w k == 1))
or_bits v w k = ap (λ b. b == 1) (bit_at_or v w k) ∙ greater_one (bit_at v k) (bit_at w k) (bit_at-lt v k) (bit_at-lt w k)

pub joined_all : (old other new : List ℕ) (at : ℕ) → length other ≡ length old → length other ≤ at → JoinedUpTo old other new at → (j : ℕ) → is_marked new j ≡ (is_marked old j || is_marked other j)
unfolding is_marked
joined_all old other new at same past joined j = elim (cases_lt (j / 64) at) [
  | inl within ↦ ap (λ w. bit_at w (j % 64) == 1) (joined.front (j / 64) within) ∙ or_bits (get_or old (j / 64) 0) (get_or other (j / 64) 0) (j % 64)
  | inr beyond ↦
      let none_new : get_or new (j / 64) 0 ≡ 0 = get_or_past new (j / 64) 0 (let long = joined.long in omega arith) in
      let none_old : get_or old (j / 64) 0 ≡ 0 = get_or_past old (j / 64) 0 (omega arith) in
      let none_other : get_or other (j / 64) 0 ≡ 0 = get_or_past other (j / 64) 0 (omega arith) in
      unmarked new none_new ∙ sym (ap (λ b. b || (bit_at (get_or other (j / 64) 0) (j % 64) == 1)) (unmarked old none_old) ∙ unmarked other none_other)
]
  where
    unmarked : (words : List ℕ) → get_or words (j / 64) 0 ≡ 0 → (bit_at (get_or words (j / 64) 0) (j % 64) == 1) ≡ false
    unmarked words none = ap (λ w. bit_at w (j % 64) == 1) none ∙ ap (λ b. b == 1) (bit_at-zero (j % 64))
