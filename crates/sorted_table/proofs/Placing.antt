-- Where a row of a part stands among all rows.
use Rattle.std.proofs.Common.{◌≡◌, ℕ, zero, suc, ◌+◌, ◌-◌, ◌<◌, ◌≤◌, ◌↔◌, ◌⊎◌, Bool, true, false, List, [], ◌∷◌, length, get_or, take, refl, sym, ap, subst, ◌∙◌, inl, inr, arith, true≢false, length-append, le_refl}
use Rattle.std.specs.declared.cmp.Ordering.{Ordering}
use Rattle.std.proofs.lemmas.Bool.{cases_lt}
use Rattle.std.proofs.lemmas.List.Concat.{get_or-flat_map}
use Rattle.std.specs.Cmp.{IsTotalOrder}
use Rattle.vet_base.specs.Ascending.{Ascends}
use Rattle.vet_base.proofs.Ascending.{ascends_pairs, ascends_from_pairs}
use Rattle.sorted_table.specs.Between.{Between}
use Rattle.std.specs.Cmp.{nat_cmp_is}
use Rattle.std.specs.Ordering.{nat_cmp}
use Rattle.std.specs.declared.cmp.Ordering.TheVariants.{Less, Equal, Greater}
use Rattle.sorted_table.specs.Bounds.{IsBound, counts, counted}
use Rattle.sorted_table.specs.Parts.{rows_of, all_rows, Filled, before, place_of, IsSlot, IsKept, BeginsWith, IsPartOf, starts_of}
use Rattle.sorted_table.specs.declared.part.Part.{Part}
use Rattle.sorted_table.specs.declared.part.Slot.{Slot}
use Rattle.sorted_table.proofs.Counting.{Steady, bound_from_ends}

pub before_zero : {K : Type 0} (ps : List (Part K)) → before ps 0 ≡ 0
before_zero [] = refl
before_zero (p ∷ ps) = refl

-- the rows before the next part
pub before_next : {K : Type 0} (ps : List (Part K)) (i : ℕ) (e : Part K) → i < length ps
    → before ps (i + 1) ≡ before ps i + length (rows_of (get_or ps i e))
before_next [] i e lt = absurd (omega arith)
before_next (p ∷ ps) zero e lt = omega (arith, length-append (rows_of p) (all_rows (take 0 ps)), before_zero ps)
before_next (p ∷ ps) (suc i) e lt = let one : suc i + 1 ≡ suc (i + 1) = omega arith in ap (before (p ∷ ps)) one ∙ omega (arith, length-append (rows_of p) (all_rows (take (i + 1) ps)), length-append (rows_of p) (all_rows (take i ps)), before_next ps i e (omega arith))

pub before_within : {K : Type 0} (ps : List (Part K)) (i : ℕ) → before ps i ≤ length (all_rows ps)
before_within [] zero = omega arith
before_within [] (suc i) = omega arith
before_within (p ∷ ps) zero = omega arith
before_within (p ∷ ps) (suc i) = omega (arith, length-append (rows_of p) (all_rows (take i ps)), length-append (rows_of p) (all_rows ps), before_within ps i)

pub before_end : {K : Type 0} (ps : List (Part K)) (i : ℕ) → length ps ≤ i → before ps i ≡ length (all_rows ps)
before_end [] zero le = refl
before_end [] (suc i) le = refl
before_end (p ∷ ps) zero le = absurd (omega arith)
before_end (p ∷ ps) (suc i) le = omega (arith, length-append (rows_of p) (all_rows (take i ps)), length-append (rows_of p) (all_rows ps), before_end ps i (omega arith))

pub part_at : {K : Type 0} (ps : List (Part K)) (i : ℕ) → i < length ps → Part K
part_at [] i lt = absurd (omega arith)
part_at (p ∷ ps) i lt = p

-- a slot lies among all rows, or at their end
pub slot_within : {K : Type 0} (ps : List (Part K)) (i j : ℕ) (e : Part K) → i < length ps → j ≤ length (rows_of (get_or ps i e))
    → before ps i + j ≤ length (all_rows ps)
slot_within ps i j e lt le = omega (arith, before_next ps i e lt, before_within ps (i + 1))

-- the row at a place of a part
pub row_of_part : {K : Type 0} (ps : List (Part K)) (i j : ℕ) (e : Part K) (d : K) → i < length ps
    → j < length (rows_of (get_or ps i e)) → get_or (all_rows ps) (before ps i + j) d ≡ get_or (rows_of (get_or ps i e)) j d
row_of_part ps i j e d lt less = get_or-flat_map rows_of ps i j e d lt less

module _ {K : Type 0} (test : K → Bool) (ps : List (Part K)) (filled : Filled ps) (m : ℕ) (b : Between (BeginsWith test true) (BeginsWith test false) ps m m) (e : Part K) where
  -- the part that was found begins with a row that is counted, or is the first
  head_counted : 0 < m → (d : K) → test (get_or (rows_of (get_or ps (m - 1) e)) 0 d) ≡ true
  head_counted some d = b.below (m - 1) (omega arith) e d

  head_not : m < length ps → (d : K) → test (get_or (rows_of (get_or ps m e)) 0 d) ≡ false
  head_not lt d = b.above lt e d

  module _ (some : 0 < length ps) (place : ℕ) (c : IsBound test (rows_of (get_or ps (m - 1) e)) place) where
    there : m - 1 < length ps
    there = omega (arith, b.within)

    row_there : K
    row_there = go (rows_of (get_or ps (m - 1) e)) (filled (m - 1) e there).0
      where
        go : (rows : List K) → 0 < length rows → K
        go [] lt = absurd (omega arith)
        go (x ∷ xs) lt = x

    pub entered : 0 < m - 1 → 0 < place
    entered some = by (cases_lt 0 place)
      where
        by : (0 < place) ⊎ (place ≤ 0) → 0 < place
        by (inl lt) = lt
        by (inr le) = absurd (true≢false (sym (head_counted (omega arith) row_there) ∙ c.above 0 row_there le (filled (m - 1) e there).0))

    none_before : place ≤ 0 → m ≡ 0
    none_before le = by (cases_lt 0 m)
      where
        by : (0 < m) ⊎ (m ≤ 0) → m ≡ 0
        by (inl lt) = absurd (true≢false (sym (head_counted lt row_there) ∙ c.above 0 row_there le (filled (m - 1) e there).0))
        by (inr none) = omega arith

    below_slot : (k : ℕ) → suc k ≡ before ps (m - 1) + place → (d : K) → test (get_or (all_rows ps) k d) ≡ true
    below_slot k is d = by (cases_lt 0 place)
      where
        by : (0 < place) ⊎ (place ≤ 0) → test (get_or (all_rows ps) k d) ≡ true
        by (inl lt) = let at : k ≡ before ps (m - 1) + (place - 1) = omega arith in rw (at, row_of_part ps (m - 1) (place - 1) e d there (omega (arith, c.within))) (c.below (place - 1) d (omega arith))
        by (inr le) = let none = none_before le in let zero_before : before ps (m - 1) ≡ 0 = ap (λ z. before ps (z - 1)) none ∙ before_zero ps in absurd (omega arith)

    above_slot : before ps (m - 1) + place < length (all_rows ps) → (d : K) → test (get_or (all_rows ps) (before ps (m - 1) + place) d) ≡ false
    above_slot lt d = by (cases_lt place (length (rows_of (get_or ps (m - 1) e))))
      where
        next : place ≡ length (rows_of (get_or ps (m - 1) e)) → (0 < m) ⊎ (m ≤ 0) → (m < length ps) ⊎ (length ps ≤ m)
            → test (get_or (all_rows ps) (before ps (m - 1) + place) d) ≡ false
        next whole (inr none) q = let is : m - 1 ≡ m = omega arith in absurd (true≢false (sym (c.below 0 d (omega (arith, (filled (m - 1) e there).0))) ∙ subst (λ z. test (get_or (rows_of (get_or ps z e)) 0 d) ≡ false) (sym is) (head_not (omega (arith, there)) d)))
        next whole (inl more) (inl less) =
            let is : (m - 1) + 1 ≡ m = omega arith in
            let at : before ps (m - 1) + place ≡ before ps m + 0 = omega (arith, before_next ps (m - 1) e there, ap (before ps) is) in
            rw (at, row_of_part ps m 0 e d less (filled m e less).0) (head_not less d)
        next whole (inl more) (inr end) =
            let is : (m - 1) + 1 ≡ m = omega arith in
            absurd (omega (arith, before_next ps (m - 1) e there, ap (before ps) is, before_end ps m end))

        by : (place < length (rows_of (get_or ps (m - 1) e))) ⊎ (length (rows_of (get_or ps (m - 1) e)) ≤ place) → test (get_or (all_rows ps) (before ps (m - 1) + place) d) ≡ false
        by (inl less) = rw (row_of_part ps (m - 1) place e d there less) (c.above place d (le_refl place) less)
        by (inr le) = next (omega (arith, c.within)) (cases_lt 0 m) (cases_lt m (length ps))

    pub seek_bound : {R : K → K → Ordering} → IsTotalOrder R → Steady R test → Ascends R (all_rows ps)
        → IsBound test (all_rows ps) (before ps (m - 1) + place)
    seek_bound total steady up = bound_from_ends total test steady (all_rows ps) up (before ps (m - 1) + place) (record {
      order = omega arith;
      within = slot_within ps (m - 1) place e there c.within;
      below = below_slot;
      above = above_slot;
    })

-- a part of rows that ascend ascends
pub part_ascends : {K : Type 0} (R : K → K → Ordering) → IsTotalOrder R
    → (ps : List (Part K)) (i : ℕ) (e : Part K) (rows : List K) → i < length ps → rows ≡ rows_of (get_or ps i e)
    → Ascends R (all_rows ps) → Ascends R rows
part_ascends R total ps i e rows lt same up = let pairs = ascends_pairs R total (all_rows ps) up in subst (Ascends R) (sym same) (ascends_from_pairs R (rows_of (get_or ps i e)) (λ j k d less within.
    subst (λ z. R z (get_or (rows_of (get_or ps i e)) k d) ≡ Less) (row_of_part ps i j e d lt (omega arith))
    (subst (λ z. R (get_or (all_rows ps) (before ps i + j) d) z ≡ Less) (row_of_part ps i k e d lt within)
    (pairs (before ps i + j) (before ps i + k) d (omega arith) (omega (arith, before_next ps i e lt, before_within ps (i + 1)))))))

-- what the search over the parts and then in one of them finds
pub record Sought {K : Type 0} (test : K → Bool) (ps : List (Part K)) (i place : ℕ) : Type 0 where
  pub bound : IsBound test (all_rows ps) (before ps i + place)
  pub entered : 0 < i → 0 < place

pub sought : {K : Type 0} {R : K → K → Ordering} → IsTotalOrder R → (test : K → Bool) → Steady R test → (ps : List (Part K))
    → Filled ps → 0 < length ps → Ascends R (all_rows ps) → (m : ℕ)
    → Between (BeginsWith test true) (BeginsWith test false) ps m m → (i : ℕ) (e : Part K) (rows : List K) (place : ℕ) → i ≡ m - 1
    → rows ≡ rows_of (get_or ps i e) → IsBound test rows place → Sought test ps i place
sought {K} total test steady ps filled some up m b i e rows place at same c =
    subst (λ z. Sought test ps z place) (sym at) (record { bound = seek_bound test ps filled m b e some place found total steady up; entered = entered test ps filled m b e some place found })
  where
    found : IsBound test (rows_of (get_or ps (m - 1) e)) place
    found = subst (λ z. IsBound test z place) (same ∙ ap (λ z. rows_of (get_or ps z e)) at) c

-- the row before a slot is the row before the place in its part
pub last_iff : {K : Type 0} (ps : List (Part K)) (slot : Slot) (e : Part K) (rows : List K) (x : K) → IsSlot ps slot
    → (0 < slot.part → 0 < slot.place) → rows ≡ rows_of (get_or ps slot.part e) →
    ((0 < slot.place) × (get_or rows (slot.place - 1) x ≡ x)) ↔ ((0 < place_of ps slot) × (get_or (all_rows ps) (place_of ps slot - 1) x ≡ x))
last_iff {K} ps slot e rows x fits entered same = (λ h. (omega (arith, h.0), same_row h.0 ∙ h.1), λ h. (some h.0, sym (same_row (some h.0)) ∙ h.1))
  where
    same_row : 0 < slot.place → get_or (all_rows ps) (place_of ps slot - 1) x ≡ get_or rows (slot.place - 1) x
    same_row lt =
        let at : place_of ps slot - 1 ≡ before ps slot.part + (slot.place - 1) = omega arith in
        ap (λ z. get_or (all_rows ps) z x) at ∙ (row_of_part ps slot.part (slot.place - 1) e x fits.there (omega (arith, fits.within e)) ∙ ap (λ z. get_or z (slot.place - 1) x) (sym same))

    some : 0 < place_of ps slot → 0 < slot.place
    some lt = by (cases_lt 0 slot.part)
      where
        by : (0 < slot.part) ⊎ (slot.part ≤ 0) → 0 < slot.place
        by (inl later) = entered later
        by (inr first) = let none : slot.part ≡ 0 = omega arith in let zero_before : before ps slot.part ≡ 0 = ap (before ps) none ∙ before_zero ps in omega arith

pub length-starts_of : {K : Type 0} (n : ℕ) (ps : List (Part K)) → length (starts_of n ps) ≡ length ps
length-starts_of n [] = refl
length-starts_of n (p ∷ ps) = ap suc (length-starts_of (n + length (rows_of p)) ps)

pub get_or-starts_of : {K : Type 0} (n : ℕ) (ps : List (Part K)) (i d : ℕ) → i < length ps → get_or (starts_of n ps) i d ≡ n + before ps i
get_or-starts_of n [] i d lt = absurd (omega arith)
get_or-starts_of n (p ∷ ps) zero d lt = omega arith
get_or-starts_of n (p ∷ ps) (suc i) d lt = get_or-starts_of (n + length (rows_of p)) ps i d (omega arith) ∙ omega (arith, length-append (rows_of p) (all_rows (take i ps)))

-- the number of rows before a part, as it is kept
pub start_is : {K : Type 0} (ps : List (Part K)) (starts : List ℕ) (i d : ℕ) → IsKept ps starts → i < length ps → get_or starts i d ≡ before ps i
start_is ps starts i d kept lt = ap (λ z. get_or z i d) kept.numbers ∙ (get_or-starts_of 0 ps i d lt ∙ omega arith)

pub start_there : {K : Type 0} (ps : List (Part K)) (starts : List ℕ) (i : ℕ) → IsKept ps starts → i < length ps → i < length starts
start_there ps starts i kept lt = omega (arith, ap length kept.numbers, length-starts_of 0 ps)

before_less : {K : Type 0} (ps : List (Part K)) → Filled ps → (i j : ℕ) (e : Part K) → i < j → j < length ps → before ps i < before ps j
before_less ps filled i zero e lt within = absurd (omega arith)
before_less ps filled i (suc j) e lt within =
    let is : j + 1 ≡ suc j = omega arith in
    let step : before ps j < before ps (suc j) = omega (arith, before_next ps j e (omega arith), ap (before ps) is, (filled j e (omega arith)).0) in
    elim (cases_lt i j) [
      | inl less ↦ omega (arith, before_less ps filled i j e less (omega arith), step)
      | inr le ↦ let same : i ≡ j = omega arith in omega (arith, ap (before ps) same, step)
    ]

pub starts_ascend : {K : Type 0} (ps : List (Part K)) (starts : List ℕ) → IsKept ps starts → Ascends nat_cmp starts
starts_ascend ps starts kept = ascends_from_pairs nat_cmp starts (λ i j d lt within.
    let there : j < length ps = omega (arith, ap length kept.numbers, length-starts_of 0 ps) in
    rw (start_is ps starts i d kept (omega arith), start_is ps starts j d kept there) (sym (nat_cmp_is (before ps i) (before ps j) Less (before_less ps kept.filled i j (part_at ps j there) lt there))))

module _ (place : ℕ) where
  start_counted : (s : ℕ) → counts true (nat_cmp s place) ≡ true → s ≤ place
  start_counted s h = by (cases_lt place s)
    where
      by : (place < s) ⊎ (s ≤ place) → s ≤ place
      by (inl lt) = absurd (true≢false (sym h ∙ ap (counts true) (sym (nat_cmp_is s place Greater lt))))
      by (inr le) = le

  start_not : (s : ℕ) → counts true (nat_cmp s place) ≡ false → place < s
  start_not s h = by (cases_lt place s) (cases_lt s place)
    where
      by : (place < s) ⊎ (s ≤ place) → (s < place) ⊎ (place ≤ s) → place < s
      by (inl lt) q = lt
      by (inr le) (inl less) = absurd (true≢false (ap (counts true) (nat_cmp_is s place Less less) ∙ h))
      by (inr le) (inr ge) = absurd (true≢false (ap (counts true) (nat_cmp_is s place Equal (omega arith)) ∙ h))

  module _ {K : Type 0} (ps : List (Part K)) (starts : List ℕ) (kept : IsKept ps starts) (lt : place < length (all_rows ps)) (n : ℕ) (b : IsBound (counted (λ s. nat_cmp s place) true) starts n) where
    part_there : 0 < length ps
    part_there = by (cases_lt 0 (length ps))
      where
        by : (0 < length ps) ⊎ (length ps ≤ 0) → 0 < length ps
        by (inl some) = some
        by (inr none) = absurd (omega (arith, before_end ps 0 none, before_zero ps))

    pub part_counted : 0 < n
    part_counted = by (cases_lt 0 n)
      where
        by : (0 < n) ⊎ (n ≤ 0) → 0 < n
        by (inl some) = some
        by (inr none) = absurd (omega (arith, start_not (get_or starts 0 0) (b.above 0 0 none (start_there ps starts 0 kept part_there)), start_is ps starts 0 0 kept part_there, before_zero ps))

    within_parts : n ≤ length ps
    within_parts = omega (arith, b.within, ap length kept.numbers, length-starts_of 0 ps)

    pub part_found : IsPartOf ps place (n - 1)
    part_found = record {
      there = omega (arith, part_counted, within_parts);
      from = omega (arith, start_counted (get_or starts (n - 1) 0) (b.below (n - 1) 0 (omega (arith, part_counted))), start_is ps starts (n - 1) 0 kept (omega (arith, part_counted, within_parts)));
      to = λ e. by e (cases_lt n (length ps));
    }
      where
        by : (e : Part K) → (n < length ps) ⊎ (length ps ≤ n) → place < before ps (n - 1) + length (rows_of (get_or ps (n - 1) e))
        by e (inl less) =
            let is : (n - 1) + 1 ≡ n = omega (arith, part_counted) in
            omega (arith, before_next ps (n - 1) e (omega (arith, part_counted, within_parts)), ap (before ps) is, start_not (get_or starts n 0) (b.above n 0 (le_refl n) (start_there ps starts n kept less)), start_is ps starts n 0 kept less)
        by e (inr end) =
            let is : (n - 1) + 1 ≡ n = omega (arith, part_counted) in
            omega (arith, before_next ps (n - 1) e (omega (arith, part_counted, within_parts)), ap (before ps) is, before_end ps n end)

-- the row at a place is a row of its part
pub row_is : {K : Type 0} (ps : List (Part K)) (place i start : ℕ) (e : Part K) (x : K) → IsPartOf ps place i
    → start ≡ before ps i → x ≡ get_or (rows_of (get_or ps i e)) (place - start) x → x ≡ get_or (all_rows ps) place x
row_is ps place i start e x p is at =
    let split : before ps i + (place - before ps i) ≡ place = omega (arith, p.from) in
    at ∙ (ap (λ z. get_or (rows_of (get_or ps i e)) (place - z) x) is ∙ (sym (row_of_part ps i (place - before ps i) e x p.there (omega (arith, p.from, p.to e))) ∙ ap (λ z. get_or (all_rows ps) z x) split))
