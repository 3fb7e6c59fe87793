-- Places of items that pass a test.
use Rattle.std.proofs.Common.{◌≡◌, ℕ, zero, suc, ◌+◌, ◌<◌, Bool, true, false, cond, List, [], ◌∷◌, ◌++◌, length, take, get_or, set, Option, Some, None, option_map, find, filter, refl, sym, ap, subst, ◌∙◌, arith, append_assoc}
use Rattle.std.specs.List.{slice_get, cons_option}
use Rattle.std.specs.Option.{option_and_then, option_or}
use Rattle.std.proofs.lemmas.Option.{none-some, same_Some, slice_get-get_or}
use Rattle.std.proofs.lemmas.List.{take_more, length_push}
use Rattle.std.proofs.lemmas.List.Elements.{filter_map-append}
use Rattle.vet_base.specs.Members.{first_index}
use Rattle.vet_base.proofs.Firsts.{index_below}
use Rattle.case_rules.specs.declared.case.Case.{Case}
use Rattle.case_rules.specs.Cases.{amended}
use Rattle.case_keeper.specs.MemoryKeeper.{places_from, cases_at}

module _ {A : Type 0} (test : A → Bool) where
  -- what is found is what stands at the first index
  pub found_by_place : (xs : List A) → option_and_then (slice_get xs) (first_index test xs) ≡ find test xs
  found_by_place [] = refl
  found_by_place (x ∷ xs) = by_test (test x) (found_by_place xs)
    where
      next : (o : Option ℕ) → option_and_then (slice_get (x ∷ xs)) (option_map suc o) ≡ option_and_then (slice_get xs) o
      next None = refl
      next (Some i) = refl

      by_test : (b : Bool) → option_and_then (slice_get xs) (first_index test xs) ≡ find test xs
          → option_and_then (slice_get (x ∷ xs)) (cond b (Some 0) (option_map suc (first_index test xs)))
          ≡ cond b (Some x) (find test xs)
      by_test true later = refl
      by_test false later = next (first_index test xs) ∙ later

  -- what stands at the first index is found
  pub found_at : (xs : List A) (i : ℕ) (x : A) → first_index test xs ≡ Some i → x ≡ get_or xs i x
      → find test xs ≡ Some x
  found_at xs i x first read =
      sym (found_by_place xs) ∙ ap (option_and_then (slice_get xs)) first
      ∙ slice_get-get_or xs i x (index_below test xs i first) ∙ ap (λ (y : A). Some y) (sym read)

  -- a change of the first that passes is a write at its index
  pub amended_at : (f : A → A) (xs : List A) (i : ℕ) (x : A) → first_index test xs ≡ Some i → x ≡ get_or xs i x
      → set xs i (f x) ≡ amended test f xs
  amended_at f [] i x is read = absurd (none-some i is)
  amended_at f (y ∷ xs) i x is read = by_test (test y) (first_index test xs) (λ j. amended_at f xs j x) is
    where
      here : (j : ℕ) → 0 ≡ j → x ≡ get_or (y ∷ xs) j x → set (y ∷ xs) j (f x) ≡ f y ∷ xs
      here zero at r = ap (λ (z : A). f z ∷ xs) r
      here (suc j) at r = absurd (omega arith)

      behind : (k j : ℕ) → suc k ≡ j → (x ≡ get_or xs k x → set xs k (f x) ≡ amended test f xs)
          → x ≡ get_or (y ∷ xs) j x → set (y ∷ xs) j (f x) ≡ y ∷ amended test f xs
      behind k zero at later r = absurd (omega arith)
      behind k (suc j) at later r =
          let same : k ≡ j = omega arith in
          ap (λ (zs : List A). y ∷ zs)
          (subst (λ (n : ℕ). x ≡ get_or xs n x → set xs n (f x) ≡ amended test f xs) same later r)

      by_test : (b : Bool) (o : Option ℕ)
          → ((j : ℕ) → o ≡ Some j → x ≡ get_or xs j x → set xs j (f x) ≡ amended test f xs)
          → cond b (Some 0) (option_map suc o) ≡ Some i
          → set (y ∷ xs) i (f x) ≡ cond b (f y ∷ xs) (y ∷ amended test f xs)
      by_test true o later e = here i (same_Some 0 i e) read
      by_test false None later e = absurd (none-some i e)
      by_test false (Some k) later e = behind k i (same_Some (suc k) i e) (later k refl) read

  pub index_added : (xs : List A) (y : A)
      → first_index test (xs ++ y ∷ []) ≡ option_or (first_index test xs) (cond (test y) (Some (length xs)) None)
  index_added [] y = refl
  index_added (x ∷ xs) y = by_test (test x) (index_added xs y)
    where
      next : (o : Option ℕ) (t : Bool) → option_map suc (option_or o (cond t (Some (length xs)) None))
          ≡ option_or (option_map suc o) (cond t (Some (length (x ∷ xs))) None)
      next None true = refl
      next None false = refl
      next (Some i) t = refl

      by_test : (b : Bool) → first_index test (xs ++ y ∷ [])
          ≡ option_or (first_index test xs) (cond (test y) (Some (length xs)) None)
          → cond b (Some 0) (option_map suc (first_index test (xs ++ y ∷ [])))
          ≡ option_or (cond b (Some 0) (option_map suc (first_index test xs)))
          (cond (test y) (Some (length (x ∷ xs))) None)
      by_test true later = refl
      by_test false later = ap (option_map suc) later ∙ next (first_index test xs) (test y)

  -- a test that does not see a change finds the same index
  pub index_amended : (other : A → Bool) (f : A → A) (xs : List A) → ((x : A) → other (f x) ≡ other x)
      → first_index other (amended test f xs) ≡ first_index other xs
  index_amended other f [] unseen = refl
  index_amended other f (x ∷ xs) unseen = by_test (test x) (index_amended other f xs unseen)
    where
      by_test : (b : Bool) → first_index other (amended test f xs) ≡ first_index other xs
          → first_index other (cond b (f x ∷ xs) (x ∷ amended test f xs)) ≡ first_index other (x ∷ xs)
      by_test true later = ap (λ (t : Bool). cond t (Some 0) (option_map suc (first_index other xs))) (unseen x)
      by_test false later = ap (λ (o : Option ℕ). cond (other x) (Some 0) (option_map suc o)) later

pub places_added : (test : Case → Bool) (n : ℕ) (cases : List Case) (case : Case)
    → places_from n test (cases ++ case ∷ [])
    ≡ places_from n test cases ++ cond (test case) ((n + length cases) ∷ []) []
places_added test n [] case = let here : n ≡ n + length {A = Case} [] = omega arith in
    ap (λ (k : ℕ). cond (test case) (k ∷ []) []) here
places_added test n (c ∷ cases) case = by_test (test c) (places_added test (n + 1) cases case)
  where
    end : n + 1 + length cases ≡ n + length (c ∷ cases)
    end = omega arith

    by_test : (b : Bool) → places_from (n + 1) test (cases ++ case ∷ [])
        ≡ places_from (n + 1) test cases ++ cond (test case) ((n + 1 + length cases) ∷ []) []
        → cond b (n ∷ places_from (n + 1) test (cases ++ case ∷ [])) (places_from (n + 1) test (cases ++ case ∷ []))
        ≡ cond b (n ∷ places_from (n + 1) test cases) (places_from (n + 1) test cases)
        ++ cond (test case) ((n + length (c ∷ cases)) ∷ []) []
    by_test true later = ap (λ (zs : List ℕ). n ∷ zs) (later
        ∙ ap (λ (k : ℕ). places_from (n + 1) test cases ++ cond (test case) (k ∷ []) []) end)
    by_test false later = later ∙ ap (λ (k : ℕ). places_from (n + 1) test cases ++ cond (test case) (k ∷ []) []) end

pub places_amended : (test other : Case → Bool) (f : Case → Case) (n : ℕ) (cases : List Case)
    → ((case : Case) → other (f case) ≡ other case)
    → places_from n other (amended test f cases) ≡ places_from n other cases
places_amended test other f n [] unseen = refl
places_amended test other f n (c ∷ cases) unseen = by_test (test c) (places_amended test other f (n + 1) cases unseen)
  where
    by_test : (b : Bool) → places_from (n + 1) other (amended test f cases) ≡ places_from (n + 1) other cases
        → places_from n other (cond b (f c ∷ cases) (c ∷ amended test f cases)) ≡ places_from n other (c ∷ cases)
    by_test true later = ap (λ (t : Bool). cond t (n ∷ places_from (n + 1) other cases)
        (places_from (n + 1) other cases)) (unseen c)
    by_test false later = ap (λ (zs : List ℕ). cond (other c) (n ∷ zs) zs) later

middle : {A : Type 0} (xs : List A) (y : A) (zs : List A) → slice_get (xs ++ y ∷ zs) (length xs) ≡ Some y
middle [] y zs = refl
middle (x ∷ xs) y zs = middle xs y zs

placed_behind : (test : Case → Bool) (front cases : List Case) (n : ℕ) → n ≡ length front
    → cases_at (front ++ cases) (places_from n test cases) ≡ filter test cases
placed_behind test front [] n is = refl
placed_behind test front (c ∷ cases) n is =
    let longer : n + 1 ≡ length (front ++ c ∷ []) = omega (arith, length_push front c) in
    by_test (test c)
    (subst (λ (zs : List Case). cases_at zs (places_from (n + 1) test cases) ≡ filter test cases)
    (append_assoc front (c ∷ []) cases) (placed_behind test (front ++ c ∷ []) cases (n + 1) longer))
  where
    here : slice_get (front ++ c ∷ cases) n ≡ Some c
    here = subst (λ (k : ℕ). slice_get (front ++ c ∷ cases) k ≡ Some c) (sym is) (middle front c cases)

    by_test : (b : Bool) → cases_at (front ++ c ∷ cases) (places_from (n + 1) test cases) ≡ filter test cases
        → cases_at (front ++ c ∷ cases) (cond b (n ∷ places_from (n + 1) test cases)
        (places_from (n + 1) test cases)) ≡ cond b (c ∷ filter test cases) (filter test cases)
    by_test true rest = ap (λ (o : Option Case). cons_option o
        (cases_at (front ++ c ∷ cases) (places_from (n + 1) test cases))) here
        ∙ ap (λ (zs : List Case). c ∷ zs) rest
    by_test false rest = rest

-- the cases at the places of those that pass are those that pass
pub cases_at_places : (test : Case → Bool) (cases : List Case)
    → cases_at cases (places_from 0 test cases) ≡ filter test cases
cases_at_places test cases = placed_behind test [] cases 0 refl

-- one place more
pub cases_at_more : (cases : List Case) (places : List ℕ) (i : ℕ) → i < length places
    → cases_at cases (take (i + 1) places) ≡ cases_at cases (take i places) ++ cases_at cases (get_or places i 0 ∷ [])
cases_at_more cases places i within =
    ap (cases_at cases) (take_more places i 0 within)
    ∙ filter_map-append (slice_get cases) (take i places) (get_or places i 0 ∷ [])
