-- What a search by halves finds in a list that ascends, and what follows for a row and for a stretch.
use Rattle.std.proofs.Common.{IsTrue, ◌≡◌, ℕ, suc, ◌+◌, ◌-◌, ◌<◌, ◌≤◌, ◌↔◌, ◌⊎◌, Bool, true, false, List, [], ◌∷◌, length, get_or, AllPairs, Contains, refl, sym, ap, subst, ◌∙◌, inl, inr, arith, true≢false, length-drop, length-take, get_or-take, get_or-drop}
use Rattle.std.specs.List.{insert}
use Rattle.std.specs.Cmp.{IsTotalOrder}
use Rattle.std.specs.declared.cmp.Ordering.{Ordering}
use Rattle.std.specs.declared.cmp.Ordering.TheVariants.{Less, Equal, Greater}
use Rattle.std.proofs.lemmas.Bool.{cases_lt, false_from_ne_true}
use Rattle.std.proofs.lemmas.Cmp.{tied_itself}
use Rattle.std.proofs.lemmas.List.{get_or_default}
use Rattle.std.proofs.lemmas.List.Edits.{length-insert, get_or-insert_below, get_or-insert_at, get_or-insert_above, get_or-between, length-between}
use Rattle.std.proofs.lemmas.Map.Lookups.{CmpEqualImpliesEq}
use Rattle.vet_base.specs.Ascending.{Ascends}
use Rattle.vet_base.specs.Members.{In}
use Rattle.vet_base.proofs.Ascending.{ascends_pairs, ascends_from_pairs}
use Rattle.vet_base.proofs.Members.{in_iff_contains}
use Rattle.sorted_table.specs.Adding.{Added}
use Rattle.sorted_table.specs.Between.{Between}
use Rattle.sorted_table.specs.Bounds.{IsBound, counts, counted}
use Rattle.sorted_table.specs.Stretches.{Rises, IsRange}
use Rattle.vet_base.proofs.Orders.{turned, turned_back}

-- what is below a row that is counted is counted
abbrev pub Steady : {K : Type 0} → (K → K → Ordering) → (K → Bool) → Type 0
Steady {K} R test = (x y : K) → R x y ≡ Less → test y ≡ true → test x ≡ true

abbrev pub Is : {K : Type 0} → (K → Bool) → Bool → K → Type 0
Is test answer x = test x ≡ answer

steady_side : (inside : Bool) (a b : Ordering) → (b ≡ Less → a ≡ Less) → (a ≡ Greater → b ≡ Greater) → counts inside b ≡ true → counts inside a ≡ true
steady_side inside Less b f g h = refl
steady_side inside Equal Less f g h = let none : Equal ≡ Less = f refl in cc
steady_side inside Equal Equal f g h = h
steady_side inside Equal Greater f g h = cc
steady_side inside Greater Less f g h = let none : Greater ≡ Less = f refl in cc
steady_side inside Greater Equal f g h = let none : Equal ≡ Greater = g refl in cc
steady_side inside Greater Greater f g h = h

pub steady : {K : Type 0} {R : K → K → Ordering} {side : K → Ordering} → Rises R side → (inside : Bool) → Steady R (counted side inside)
steady {side = side} rises inside x y below h = let r = rises x y below in steady_side inside (side x) (side y) r.0 r.1 h

-- in a list that ascends the two ends of a search say all
pub bound_from_ends : {K : Type 0} {R : K → K → Ordering} → IsTotalOrder R → (test : K → Bool) → Steady R test → (rows : List K)
    → Ascends R rows → (n : ℕ) → Between (Is test true) (Is test false) rows n n → IsBound test rows n
bound_from_ends {K} {R} total test steady rows up n b = record { within = b.within; below = below; above = above }
  where
    pairs : AllPairs (λ x y. R x y ≡ Less) rows
    pairs = ascends_pairs R total rows up

    below_at : (m : ℕ) → suc m ≡ n → (k : ℕ) (d : K) → k < n → test (get_or rows k d) ≡ true
    below_at m e k d lt = elim (cases_lt k m) [
      | inl less ↦ steady (get_or rows k d) (get_or rows m d) (pairs k m d less (omega (arith, b.within))) (b.below m e d)
      | inr more ↦ let same : k ≡ m = omega arith in rw same (b.below m e d)
    ]

    below : (k : ℕ) (d : K) → k < n → test (get_or rows k d) ≡ true
    below k d lt = below_at (n - 1) (omega arith) k d lt

    above : (k : ℕ) (d : K) → n ≤ k → k < length rows → test (get_or rows k d) ≡ false
    above k d le lt = elim (cases_lt n k) [
      | inl less ↦ false_from_ne_true (test (get_or rows k d)) (λ yes. true≢false (sym (steady (get_or rows n d) (get_or rows k d) (pairs n k d less lt) yes) ∙ b.above (omega arith) d))
      | inr more ↦ let same : k ≡ n = omega arith in rw same (b.above (omega arith) d)
    ]

-- the side of what is not counted
greater_side : (a : Ordering) → counts true a ≡ false → a ≡ Greater
greater_side Less h = cc
greater_side Equal h = cc
greater_side Greater h = refl

module _ {K : Type 0} {R : K → K → Ordering} (o : IsTotalOrder R) where
  -- the side of a row that is counted
  counted_side : (a : Ordering) → counts true a ≡ true → (a ≡ Greater → ⊥)
  counted_side a h g = let e : counts true Greater ≡ true = ap (counts true) (sym g) ∙ h in true≢false (sym e)

  module _ (rows : List K) (up : Ascends R rows) (x : K) (n : ℕ) (b : IsBound (counted (λ y. R y x) true) rows n) where
    -- a row is there where it is the last of those that are not above it
    stands_before : Contains rows x → (0 < n) × (get_or rows (n - 1) x ≡ x)
    stands_before (k, lt, is) = elim (cases_lt k n) [
      | inl less ↦ (omega arith, at (n - 1) (omega arith) k lt is less)
      | inr more ↦ absurd (true≢false (sym (ap (counts true) (ap (λ z. R z x) is ∙ tied_itself o x)) ∙ b.above k x more lt))
    ]
      where
        at : (m : ℕ) → suc m ≡ n → (k : ℕ) → k < length rows → get_or rows k x ≡ x → k < n → get_or rows m x ≡ x
        at m e k lt is less = elim (cases_lt k m) [
          | inl lower ↦ absurd (counted_side (R (get_or rows m x) x) (b.below m x (omega arith)) (turned o x (get_or rows m x) (subst (λ z. R z (get_or rows m x) ≡ Less) is (ascends_pairs R o rows up k m x lower (omega (arith, b.within))))))
          | inr more ↦ let same : m ≡ k = omega arith in rw same is
        ]

    stands_there : (0 < n) × (get_or rows (n - 1) x ≡ x) → Contains rows x
    stands_there h = (n - 1, omega (arith, h.0, b.within), h.1)

    there_iff : ((0 < n) × (get_or rows (n - 1) x ≡ x)) ↔ In x rows
    there_iff = (λ h. (in_iff_contains x rows).1 (stands_there h), λ k. stands_before ((in_iff_contains x rows).0 k))

    -- what a look at that row says of the list that is seen
    pub has_iff : (now : List K) → rows ≡ now → (found : Bool) → IsTrue found ↔ ((0 < n) × (get_or rows (n - 1) x ≡ x)) → IsTrue found ↔ In x now
    has_iff now same found ends = subst (λ z. IsTrue found ↔ In x z) same (λ t. there_iff.0 (ends.0 t), λ k. ends.1 (there_iff.1 k))

    below_or_same : (y : K) → counts true (R y x) ≡ true → (R y x ≡ Equal → ⊥) → R y x ≡ Less
    below_or_same y h ne = go (R y x) refl
      where
        go : (a : Ordering) → R y x ≡ a → R y x ≡ Less
        go Less e = e
        go Equal e = absurd (ne e)
        go Greater e = absurd (counted_side (R y x) h e)

    -- a row that is not there goes in at the bound
    pub added : CmpEqualImpliesEq R → (((0 < n) × (get_or rows (n - 1) x ≡ x)) → ⊥) → Added R rows x (insert rows n x)
    added exact absent = record {
      place = n;
      within = b.within;
      is = refl;
      below = λ k d lt. let less : k < n = omega (arith, length-take n rows) in rw (get_or-take n rows k d less) (below_or_same (get_or rows k d) (b.below k d less) (λ tie. absent (stands_before (k, omega (arith, b.within), get_or_default rows k x d (omega (arith, b.within)) ∙ exact (get_or rows k d) x tie))));
      above = λ k d lt. rw (get_or-drop n rows k d) (turned_back o (get_or rows (n + k) d) x (greater_side (R (get_or rows (n + k) d) x) (b.above (n + k) d (omega arith) (omega (arith, length-drop n rows)))));
    }

  -- with the row added the list still ascends
  pub ascends_added : (old new : List K) (x : K) → Ascends R old → Added R old x new → Ascends R new
  ascends_added old new x up a = rw a.is (ascends_from_pairs R ys go)
    where
      pairs : AllPairs (λ x y. R x y ≡ Less) old
      pairs = ascends_pairs R o old up

      p : ℕ
      p = a.place

      ys : List K
      ys = insert old a.place x

      under : (k : ℕ) (d : K) → k < p → R (get_or old k d) x ≡ Less
      under k d less = subst (λ z. R z x ≡ Less) (get_or-take p old k d less) (a.below k d (omega (arith, length-take p old, a.within)))

      over : (k : ℕ) (d : K) → p ≤ k → k < length old → R x (get_or old k d) ≡ Less
      over k d le lt = let e : p + (k - p) ≡ k = omega arith in subst (λ z. R x (get_or old z d) ≡ Less) e (subst (λ z. R x z ≡ Less) (get_or-drop p old (k - p) d) (a.above (k - p) d (omega (arith, length-drop p old))))

      low : (k : ℕ) (d : K) → k < p → get_or ys k d ≡ get_or old k d
      low k d less = get_or-insert_below old p x d k less a.within

      high : (k : ℕ) (d : K) → p < k → get_or ys k d ≡ get_or old (k - 1) d
      high k d less = let e : k ≡ (k - 1) + 1 = omega arith in ap (λ z. get_or ys z d) e ∙ get_or-insert_above old p x d (k - 1) (omega arith) a.within

      mid : (k : ℕ) (d : K) → k ≡ p → get_or ys k d ≡ x
      mid k d e = ap (λ z. get_or ys z d) e ∙ get_or-insert_at old p x d a.within

      behind : (i j : ℕ) (d : K) → i < j → p < j → j ≤ length old → R (get_or ys i d) (get_or old (j - 1) d) ≡ Less
      behind i j d lt less within = elim (cases_lt i p) [
        | inl first ↦ rw (low i d first) (pairs i (j - 1) d (omega arith) (omega arith))
        | inr le ↦ elim (cases_lt p i) [
          | inl last ↦ rw (high i d last) (pairs (i - 1) (j - 1) d (omega arith) (omega arith))
          | inr same ↦ rw (mid i d (omega arith)) (over (j - 1) d (omega arith) (omega arith))
        ]
      ]

      go : AllPairs (λ x y. R x y ≡ Less) ys
      go i j d lt within = let most : j ≤ length old = omega (arith, length-insert old p x a.within) in elim (cases_lt j p) [
        | inl first ↦ rw (low i d (omega arith), low j d first) (pairs i j d lt (omega (arith, a.within)))
        | inr le ↦ elim (cases_lt p j) [
          | inl last ↦ rw (high j d last) (behind i j d lt last most)
          | inr same ↦ rw (mid j d (omega arith), low i d (omega arith)) (under i d (omega arith))
        ]
      ]

-- a row that was looked for and is not there goes in at its place
pub added_at : {K : Type 0} {R : K → K → Ordering} → IsTotalOrder R → CmpEqualImpliesEq R → (rows new : List K) → Ascends R rows
    → (x : K) (n : ℕ) → IsBound (counted (λ y. R y x) true) rows n → (found : Bool) → found ≡ false
    → (((0 < n) × (get_or rows (n - 1) x ≡ x)) → found ≡ true) → new ≡ insert rows n x → Added R rows x new
added_at {R = R} o exact rows new up x n b found missed hit is = subst (Added R rows x) (sym is) (added o rows up x n b exact (λ h. true≢false (sym (hit h) ∙ missed)))

-- from one bound to the other stand the rows of the stretch
pub range_from_bounds : {K : Type 0} (side : K → Ordering) (rows : List K) (from to : ℕ) → IsBound (counted side false) rows from
    → IsBound (counted side true) rows to → IsRange side rows from to
range_from_bounds {K} side rows from to b c = record {
  order = order (cases_lt to from);
  within = c.within;
  front = λ k d lt. let less : k < from = omega (arith, length-take from rows) in rw (get_or-take from rows k d less) (front (side (get_or rows k d)) (b.below k d less));
  inside = λ k d lt. let less : from + k < to = omega (arith, length-between rows from to c.within) in rw (get_or-between rows from to k d less) (inside (side (get_or rows (from + k) d)) (c.below (from + k) d less) (b.above (from + k) d (omega arith) (omega (arith, c.within))));
  behind = λ k d lt. rw (get_or-drop to rows k d) (greater_side (side (get_or rows (to + k) d)) (c.above (to + k) d (omega arith) (omega (arith, length-drop to rows))));
}
  where
    front : (a : Ordering) → counts false a ≡ true → a ≡ Less
    front Less h = refl
    front Equal h = cc
    front Greater h = cc

    inside : (a : Ordering) → counts true a ≡ true → counts false a ≡ false → a ≡ Equal
    inside Less h k = cc
    inside Equal h k = refl
    inside Greater h k = cc

    both : (a : Ordering) → counts false a ≡ true → counts true a ≡ false → ⊥
    both Less h k = cc
    both Equal h k = cc
    both Greater h k = cc

    first : (rows : List K) → from ≤ length rows → to < from → K
    first [] le lt = absurd (omega arith)
    first (x ∷ xs) le lt = x

    order : (to < from) ⊎ (from ≤ to) → from ≤ to
    order (inl lt) = let d = first rows b.within lt in absurd (both (side (get_or rows to d)) (b.below to d lt) (c.above to d (omega arith) (omega (arith, b.within))))
    order (inr le) = le
