-- The labels of words are their marked numbers below 256.
use Rattle.std.proofs.Common.{◌≡◌, ◌≢◌, ◌==◌, ◌⊎◌, inl, inr, ℕ, zero, suc, ◌+◌, ◌/◌, ◌%◌, ◌<◌, ◌≤◌, Bool, true, false, cond, ◌||◌, List, [], ◌∷◌, max, get_or, refl, sym, ap, ◌∙◌, arith, eqb-true, eq-eqb}
use Rattle.std.specs.Prelude.{◌↔◌, filter, slice_set}
use Rattle.std.proofs.lemmas.Bool.{or_cases, or_left, or_right}
use Rattle.vet_base.specs.Members.{In}
use Rattle.app_machine.specs.Summaries.{numbers_from}
use Rattle.app_model.specs.Marks.{is_marked}
use Rattle.event_index.proofs.Words.{mark_of, marked_by}
use Rattle.std.specs.Int.{bit_at}
use Rattle.std.specs.Int.RustNames.{bit_or}
use Rattle.std.proofs.lemmas.Nat.Bits.{bit_at-zero, bit_at_or, bit_at-lt}
use Rattle.played_machine.specs.Ordered.{ascending}
use Rattle.played_machine.proofs.Ordered.{false_true, in_filter, from_filter, in_ascending, from_ascending}
use Rattle.played_alike.proofs.Orders.{Rises, same_rising, rises_filter, rises_ascending}
use Rattle.runner_state.specs.declared.labels.Labels.{Labels}
use Rattle.runner_state.specs.Shown.{labels_of, numbers_below}

within_from : (s n i : ℕ) → In i (numbers_from s n) → (s ≤ i) × (i < s + n)
within_from s zero i h = absurd h
within_from s (suc n) i (inl same) = (omega (arith, same), omega (arith, same))
within_from s (suc n) i (inr h) = let later : (s + 1 ≤ i) × (i < s + 1 + n) = within_from (s + 1) n i h in (omega (arith, later.0), omega (arith, later.1))

in_numbers : (s n i : ℕ) → s ≤ i → i < s + n → In i (numbers_from s n)
in_numbers s zero i low high = absurd (omega (arith, low, high))
in_numbers s (suc n) i low high = by_first (i == s) refl (in_numbers (s + 1) n i)
  where
    by_first : (b : Bool) → (i == s) ≡ b → (s + 1 ≤ i → i < s + 1 + n → In i (numbers_from (s + 1) n)) → In i (s ∷ numbers_from (s + 1) n)
    by_first true e later = inl (eqb-true i s e)
    by_first false e later =
        let other : i ≡ s → ⊥ = λ same. false_true (sym e ∙ eq-eqb i s same) in
        inr (later (omega (arith, low, other)) (omega (arith, high)))

number_within : (n i : ℕ) → In i (numbers_below n) → i < n
unfolding numbers_below
number_within n i h = let both : (0 ≤ i) × (i < 0 + n) = within_from 0 n i h in omega (arith, both.1)

number_below : (n i : ℕ) → i < n → In i (numbers_below n)
unfolding numbers_below
number_below n i below = in_numbers 0 n i (omega arith) (omega (arith, below))

rises_from : (s n : ℕ) → Rises (numbers_from s n)
rises_from s zero = tt
rises_from s (suc n) = (λ y h. let both : (s + 1 ≤ y) × (y < s + 1 + n) = within_from (s + 1) n y h in omega (arith, both.0), rises_from (s + 1) n)

rises_below : (n : ℕ) → Rises (numbers_below n)
unfolding numbers_below
rises_below n = rises_from 0 n

module _ (labels : Labels) (l : ℕ) where
  pub label_in : l < 256 → is_marked labels.words l ≡ true → In l (labels_of labels)
  unfolding labels_of
  label_in below marked = in_filter (is_marked labels.words) (numbers_below 256) l (number_below 256 l below) marked

  pub label_of : In l (labels_of labels) → (l < 256) × (is_marked labels.words l ≡ true)
  unfolding labels_of
  label_of h =
      let kept = from_filter (is_marked labels.words) (numbers_below 256) l h in
      (number_within 256 l kept.0, kept.1)

rises_labels : (labels : Labels) → Rises (labels_of labels)
unfolding labels_of
rises_labels labels = rises_filter (is_marked labels.words) (numbers_below 256) (rises_below 256)

-- labels are the numbers that they have, ascending
pub labels_ascend : (labels : Labels) (xs : List ℕ) → ((l : ℕ) → In l (labels_of labels) → In l xs) → ((l : ℕ) → In l xs → In l (labels_of labels)) → labels_of labels ≡ ascending xs
labels_ascend labels xs to from = same_rising (labels_of labels) (ascending xs) (rises_labels labels) (rises_ascending xs) (λ l h. in_ascending xs l (to l h)) (λ l h. from l (from_ascending xs l h))

-- none
abbrev zeros : List ℕ
zeros = 0 ∷ 0 ∷ 0 ∷ 0 ∷ []

zero_word : (k : ℕ) → get_or zeros k 0 ≡ 0
zero_word zero = refl
zero_word (suc zero) = refl
zero_word (suc (suc zero)) = refl
zero_word (suc (suc (suc zero))) = refl
zero_word (suc (suc (suc (suc k)))) = refl

unmarked : (l : ℕ) → is_marked (0 ∷ 0 ∷ 0 ∷ 0 ∷ []) l ≡ false
unmarked l = mark_of (0 ∷ 0 ∷ 0 ∷ 0 ∷ []) l ∙ (ap (λ w. bit_at w (l % 64) == 1) (zero_word (l / 64)) ∙ ap (λ b. b == 1) (bit_at-zero (l % 64)))

none_kept : (p : ℕ → Bool) → ((l : ℕ) → p l ≡ false) → (xs : List ℕ) → filter p xs ≡ []
none_kept p none [] = refl
none_kept p none (x ∷ xs) = ap (λ b. cond b (x ∷ filter p xs) (filter p xs)) (none x) ∙ none_kept p none xs

pub no_labels : labels_of (record { words = 0 ∷ 0 ∷ 0 ∷ 0 ∷ [] }) ≡ []
unfolding labels_of
no_labels = none_kept (is_marked (0 ∷ 0 ∷ 0 ∷ 0 ∷ [])) unmarked (numbers_below 256)

-- one
pub one_in : (label v : ℕ) → label < 256 → bit_at v (label % 64) ≡ 1 → ((k : ℕ) → k ≢ label % 64 → bit_at v k ≡ bit_at 0 k) →
    (l : ℕ) → In l (labels_of (record { words = slice_set (0 ∷ 0 ∷ 0 ∷ 0 ∷ []) (label / 64) v })) ↔ (l ≡ label)
one_in label v below here others l = (to, from)
  where
    marked : is_marked (slice_set (0 ∷ 0 ∷ 0 ∷ 0 ∷ []) (label / 64) v) l ≡ ((l == label) || is_marked (0 ∷ 0 ∷ 0 ∷ 0 ∷ []) l)
    marked = marked_by (0 ∷ 0 ∷ 0 ∷ 0 ∷ []) label v (omega (arith, below)) here (λ k other. others k other ∙ sym (ap (λ w. bit_at w k) (zero_word (label / 64)))) l

    to : In l (labels_of (record { words = slice_set (0 ∷ 0 ∷ 0 ∷ 0 ∷ []) (label / 64) v })) → l ≡ label
    to h = elim (or_cases (l == label) (is_marked (0 ∷ 0 ∷ 0 ∷ 0 ∷ []) l) (sym marked ∙ (label_of (record { words = slice_set (0 ∷ 0 ∷ 0 ∷ 0 ∷ []) (label / 64) v }) l h).1)) [
      | inl same ↦ eqb-true l label same
      | inr none ↦ absurd (false_true (sym (unmarked l) ∙ none))
    ]

    from : l ≡ label → In l (labels_of (record { words = slice_set (0 ∷ 0 ∷ 0 ∷ 0 ∷ []) (label / 64) v }))
    from same = label_in (record { words = slice_set (0 ∷ 0 ∷ 0 ∷ 0 ∷ []) (label / 64) v }) l (omega (arith, same, below)) (marked ∙ or_left (l == label) (is_marked (0 ∷ 0 ∷ 0 ∷ 0 ∷ []) l) (eq-eqb l label same))

-- of two
greater_one : (a b : ℕ) → a < 2 → b < 2 → (max a b == 1) ≡ ((a == 1) || (b == 1))
greater_one zero zero few less = refl
greater_one zero (suc zero) few less = refl
greater_one (suc zero) zero few less = refl
greater_one (suc zero) (suc zero) few less = refl
greater_one (suc (suc a)) b few less = absurd (omega (arith, few))
greater_one zero (suc (suc b)) few less = absurd (omega (arith, less))
greater_one (suc zero) (suc (suc b)) few less = absurd (omega (arith, less))

abbrev pub joined_words : List ℕ → List ℕ → List ℕ
joined_words a b = bit_or (get_or a 0 0) (get_or b 0 0) ∷ bit_or (get_or a 1 0) (get_or b 1 0) ∷ bit_or (get_or a 2 0) (get_or b 2 0) ∷ bit_or (get_or a 3 0) (get_or b 3 0) ∷ []

joined_word : (a b : List ℕ) (k : ℕ) → k < 4 → get_or (joined_words a b) k 0 ≡ bit_or (get_or a k 0) (get_or b k 0)
joined_word a b zero below = refl
joined_word a b (suc zero) below = refl
joined_word a b (suc (suc zero)) below = refl
joined_word a b (suc (suc (suc zero))) below = refl
joined_word a b (suc (suc (suc (suc k)))) below = absurd (omega (arith, below))

joined_marks : (a b : List ℕ) (l : ℕ) → l < 256 → is_marked (joined_words a b) l ≡ (is_marked a l || is_marked b l)
joined_marks a b l below =
    mark_of (joined_words a b) l
    ∙ (ap (λ w. bit_at w (l % 64) == 1) (joined_word a b (l / 64) (omega (arith, below)))
    ∙ (ap (λ x. x == 1) (bit_at_or (get_or a (l / 64) 0) (get_or b (l / 64) 0) (l % 64))
    ∙ (greater_one (bit_at (get_or a (l / 64) 0) (l % 64)) (bit_at (get_or b (l / 64) 0) (l % 64)) (bit_at-lt (get_or a (l / 64) 0) (l % 64)) (bit_at-lt (get_or b (l / 64) 0) (l % 64))
    ∙ (ap (λ x. x || (bit_at (get_or b (l / 64) 0) (l % 64) == 1)) (sym (mark_of a l)) ∙ ap (λ x. is_marked a l || x) (sym (mark_of b l))))))

pub joined_in : (a b : Labels) (l : ℕ) → In l (labels_of (record { words = joined_words a.words b.words })) ↔ (In l (labels_of a) ⊎ In l (labels_of b))
joined_in a b l = (to, from)
  where
    to : In l (labels_of (record { words = joined_words a.words b.words })) → In l (labels_of a) ⊎ In l (labels_of b)
    to h =
        let is = label_of (record { words = joined_words a.words b.words }) l h in
        elim (or_cases (is_marked a.words l) (is_marked b.words l) (sym (joined_marks a.words b.words l is.0) ∙ is.1)) [
          | inl one ↦ inl (label_in a l is.0 one)
          | inr other ↦ inr (label_in b l is.0 other)
        ]

    from : In l (labels_of a) ⊎ In l (labels_of b) → In l (labels_of (record { words = joined_words a.words b.words }))
    from (inl one) = let is = label_of a l one in label_in (record { words = joined_words a.words b.words }) l is.0 (joined_marks a.words b.words l is.0 ∙ or_left (is_marked a.words l) (is_marked b.words l) is.1)
    from (inr other) = let is = label_of b l other in label_in (record { words = joined_words a.words b.words }) l is.0 (joined_marks a.words b.words l is.0 ∙ or_right (is_marked a.words l) (is_marked b.words l) is.1)

-- whether it is one
pub has_label : (labels : Labels) (l : ℕ) (answer : Bool) → l < 256 → answer ≡ (bit_at (get_or labels.words (l / 64) 0) (l % 64) == 1) → (answer ≡ true) ↔ In l (labels_of labels)
has_label labels l answer below is = (λ holds. label_in labels l below (mark_of labels.words l ∙ (sym is ∙ holds)), λ h. is ∙ (sym (mark_of labels.words l) ∙ (label_of labels l h).1))
