-- Handed places are looked at one after the other.
use Rattle.std.proofs.Common.{◌≡◌, ◌+◌, ◌-◌, ◌<◌, ◌≤◌, ◌⊎◌, ℕ, zero, suc, Bool, true, false, cond, List, [], ◌∷◌, ◌++◌, length, take, drop, get_or, Option, Some, None, slice_get, inl, inr, refl, sym, ap, ◌∙◌, subst, arith}
use Rattle.std.specs.Prelude.{filter}
use Rattle.std.proofs.lemmas.List.{append-nil, length-map, take-append-drop, take_all}
use Rattle.std.proofs.lemmas.List.Elements.{filter-append}
use Rattle.std.proofs.lemmas.Option.{slice_get-get_or, slice_get_within}
use Rattle.std.proofs.Math.Seq.{take-append_seam}
use Rattle.vet_base.specs.Members.{In}
use Rattle.vet_base.proofs.Fronts.{front_at, none_beyond}
use Rattle.vet_base.proofs.Lists.{slice_get-append}
use Rattle.vet_base.proofs.Members.{in_either}
use Rattle.app_machine.specs.declared.app.App.{App}
use Rattle.app_machine.specs.declared.lists.Lists.{Lists}
use Rattle.app_machine.specs.Heap.{Object}
use Rattle.app_machine.specs.Names.{Name}
use Rattle.played_machine.specs.Reading.{class_at, is_of_type}
use Rattle.played_growth.specs.Growth.{classes_of}
use Rattle.played_growth.proofs.Growing.{class_is}
use Rattle.runner_below.specs.Below.{AreOfFirst, below_among, if_below}

filter_same : {A : Type 0} (p q : A → Bool) (xs : List A) → ((x : A) → In x xs → p x ≡ q x) → filter p xs ≡ filter q xs
filter_same p q [] same = refl
filter_same p q (x ∷ xs) same =
    ap (λ b. cond b (x ∷ filter p xs) (filter p xs)) (same x (inl refl)) ∙ ap (λ ys. cond (q x) (x ∷ ys) ys) (filter_same p q xs (λ y h. same y (inr h)))

-- what stands past a list stands behind it
pub behind : {A : Type 0} (xs ys : List A) (i : ℕ) → length xs ≤ i → slice_get (xs ++ ys) i ≡ slice_get ys (i - length xs)
behind [] ys i past = let same : i ≡ i - 0 = omega arith in ap (slice_get ys) same
behind (x ∷ xs) ys zero past = absurd (omega (arith, past))
behind (x ∷ xs) ys (suc i) past = let same : i - length xs ≡ suc i - length (x ∷ xs) = omega arith in behind xs ys i (omega (arith, past)) ∙ ap (slice_get ys) same

pub inside : (xs ys : List Name) (i : ℕ) → i < length xs → slice_get (xs ++ ys) i ≡ slice_get xs i
inside xs ys i within =
    let there : slice_get xs i ≡ Some (get_or xs i []) = slice_get-get_or xs i [] within in
    slice_get-append xs ys i (get_or xs i []) there ∙ sym there

-- a class of the heap, and one behind it
module _ (heap : List Object) (fresh : List Name) (place : ℕ) where
  pub class_before : (class : Name) → Some class ≡ class_at heap place → Some class ≡ slice_get (classes_of heap ++ fresh) place
  class_before class is = sym (slice_get-append (classes_of heap) fresh place class (sym (is ∙ class_is heap place)))

  pub past_heap : (n : ℕ) → None ≡ class_at heap place → n ≡ length heap → n ≤ place
  past_heap n none long =
      let past : length (classes_of heap) ≤ place = none_beyond (classes_of heap) place (sym (none ∙ class_is heap place)) in
      let same : length (classes_of heap) ≡ length heap = length-map heap (λ (o : Object). o.class) in
      omega (arith, past, same, long)

  pub class_past : (n : ℕ) (o : Option Name) → None ≡ class_at heap place → n ≡ length heap → o ≡ slice_get fresh (place - n) → o ≡ slice_get (classes_of heap ++ fresh) place
  class_past n o none long is =
      let past : length (classes_of heap) ≤ place = none_beyond (classes_of heap) place (sym (none ∙ class_is heap place)) in
      let same : length (classes_of heap) ≡ length heap = length-map heap (λ (o : Object). o.class) in
      is ∙ (ap (λ m. slice_get fresh (place - m)) (long ∙ sym same) ∙ sym (behind (classes_of heap) fresh place past))

module _ (app : App) (lists : Lists) (kind : Name) where
  -- the definition over a heap
  pub below_is : (heap : List Object) (ps : List ℕ) → filter (λ p. is_of_type app lists kind (class_at heap p)) ps ≡ below_among app lists (classes_of heap) ps kind
  below_is heap ps =
      filter_same (λ p. is_of_type app lists kind (class_at heap p)) (λ p. is_of_type app lists kind (slice_get (classes_of heap) p)) ps
      (λ p h. ap (is_of_type app lists kind) (class_is heap p))

  pub not_below : (class : Option Name) (p : ℕ) (places : List ℕ) → is_of_type app lists kind class ≡ false → places ≡ places ++ if_below app lists kind class p
  not_below class p places fails = sym (ap (λ b. places ++ cond b (p ∷ []) []) fails ∙ append-nil places)

  pub is_below : (class : Option Name) (p : ℕ) (places : List ℕ) → is_of_type app lists kind class ≡ true → places ++ p ∷ [] ≡ places ++ if_below app lists kind class p
  is_below class p places holds = sym (ap (λ b. places ++ cond b (p ∷ []) []) holds)

  module _ (classes : List Name) where
    pub below_more : (handed : List ℕ) (i p : ℕ) → slice_get handed i ≡ Some p →
        below_among app lists classes (take (i + 1) handed) kind ≡ below_among app lists classes (take i handed) kind ++ if_below app lists kind (slice_get classes p) p
    below_more handed i p is =
        ap (λ ps. below_among app lists classes ps kind) (front_at handed i p is)
        ∙ filter-append (λ q. is_of_type app lists kind (slice_get classes q)) (take i handed) (p ∷ [])

    pub none_seen : (handed : List ℕ) → AreOfFirst app lists classes handed kind 0 []
    none_seen handed = record { within = omega arith; objects = λ p h. absurd h; below = refl }

    pub one_seen : (handed : List ℕ) (i p : ℕ) (class : Name) (places new : List ℕ) → slice_get handed i ≡ Some p → Some class ≡ slice_get classes p →
        new ≡ places ++ if_below app lists kind (Some class) p → AreOfFirst app lists classes handed kind i places → AreOfFirst app lists classes handed kind (i + 1) new
    one_seen handed i p class places new is of more so_far = record {
      within = (let lt : i < length handed = slice_get_within handed i p is in omega (arith, lt));
      objects = λ q h. by_part q (in_either q (take i handed) (p ∷ []) (subst (In q) (front_at handed i p is) h));
      below = more ∙ (ap (λ ps. ps ++ if_below app lists kind (Some class) p) so_far.below ∙ (ap (λ o. below_among app lists classes (take i handed) kind ++ if_below app lists kind o p) of ∙ sym (below_more handed i p is)));
    }
      where
        by_part : (q : ℕ) → In q (take i handed) ⊎ In q (p ∷ []) → q < length classes
        by_part q (inl before) = so_far.objects q before
        by_part q (inr (inl same)) = let lt : p < length classes = slice_get_within classes p class (sym of) in omega (arith, lt, same)
        by_part q (inr (inr none)) = absurd none

    pub all_seen : (handed : List ℕ) (i : ℕ) (places : List ℕ) → length handed ≤ i → AreOfFirst app lists classes handed kind i places → AreOfFirst app lists classes handed kind (length handed) places
    all_seen handed i places all so_far = let same : i ≡ length handed = omega (arith, all, so_far.within) in subst (λ n. AreOfFirst app lists classes handed kind n places) same so_far

    -- objects that are to come change nothing of what was seen
    same_behind : (fresh : List Name) (ps : List ℕ) → ((p : ℕ) → In p ps → p < length classes) → below_among app lists (classes ++ fresh) ps kind ≡ below_among app lists classes ps kind
    same_behind fresh ps objects =
        filter_same (λ p. is_of_type app lists kind (slice_get (classes ++ fresh) p)) (λ p. is_of_type app lists kind (slice_get classes p)) ps
        (λ p h. ap (is_of_type app lists kind) (inside classes fresh p (objects p h)))

    pub rest_begins : (fresh : List Name) (handed : List ℕ) (seen : ℕ) (places : List ℕ) → AreOfFirst app lists classes handed kind seen places → places ≡ below_among app lists (classes ++ fresh) (take seen handed) kind
    rest_begins fresh handed seen places so_far = so_far.below ∙ sym (same_behind fresh (take seen handed) so_far.objects)

    pub rest_ends : (fresh : List Name) (handed : List ℕ) (i : ℕ) (places : List ℕ) → length handed ≤ i → places ≡ below_among app lists (classes ++ fresh) (take i handed) kind → places ≡ below_among app lists (classes ++ fresh) handed kind
    rest_ends fresh handed i places all are = are ∙ ap (λ ps. below_among app lists (classes ++ fresh) ps kind) (take_all i handed all)

    -- what was seen stands in front of all
    pub front_kept : (fresh : List Name) (handed : List ℕ) (seen : ℕ) (places all : List ℕ) → AreOfFirst app lists classes handed kind seen places →
        all ≡ below_among app lists (classes ++ fresh) handed kind → take (length places) all ≡ places
    front_kept fresh handed seen places all so_far are =
        ap (take (length places)) (are ∙ (ap (λ ps. below_among app lists (classes ++ fresh) ps kind) (sym (take-append-drop seen handed))
        ∙ (filter-append (λ p. is_of_type app lists kind (slice_get (classes ++ fresh) p)) (take seen handed) (drop seen handed)
        ∙ ap (λ ps. ps ++ below_among app lists (classes ++ fresh) (drop seen handed) kind) (sym (rest_begins fresh handed seen places so_far)))))
        ∙ take-append_seam places (below_among app lists (classes ++ fresh) (drop seen handed) kind)

    pub seen_kept : (fresh : List Name) (handed : List ℕ) (seen kept : ℕ) (places all : List ℕ) → kept ≡ length places → AreOfFirst app lists classes handed kind seen places →
        all ≡ below_among app lists (classes ++ fresh) handed kind → AreOfFirst app lists classes handed kind seen (take kept all)
    seen_kept fresh handed seen kept places all is so_far are =
        subst (λ ps. AreOfFirst app lists classes handed kind seen ps) (sym (ap (λ n. take n all) is ∙ front_kept fresh handed seen places all so_far are)) so_far

-- one further place of the rest
pub rest_more : (app : App) (lists : Lists) (kind : Name) (all : List Name) (handed : List ℕ) (i p : ℕ) (places new : List ℕ) → slice_get handed i ≡ Some p →
    new ≡ places ++ if_below app lists kind (slice_get all p) p → places ≡ below_among app lists all (take i handed) kind → new ≡ below_among app lists all (take (i + 1) handed) kind
rest_more app lists kind all handed i p places new is more are =
    more ∙ (ap (λ ps. ps ++ if_below app lists kind (slice_get all p) p) are ∙ sym (below_more app lists kind all handed i p is))

pub none_below : (app : App) (lists : Lists) (kind : Name) (o : Option Name) (p : ℕ) (places : List ℕ) → None ≡ o → places ≡ places ++ if_below app lists kind o p
none_below app lists kind o p places none = sym (append-nil places) ∙ ap (λ c. places ++ if_below app lists kind c p) none
