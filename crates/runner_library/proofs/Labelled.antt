-- Arrivals of labels, one after the other, and labels that are joined.
use Rattle.std.proofs.Common.{◌≡◌, ℕ, zero, suc, ◌+◌, ◌<◌, ◌≤◌, Bool, true, false, cond, List, [], ◌∷◌, ◌++◌, map, take, length, get_or, flat_map, refl, sym, ap, ◌∙◌, arith, append_assoc}
use Rattle.std.specs.Prelude.{◌↔◌, filter}
use Rattle.std.proofs.lemmas.List.{map-append, append-nil, take_more, take_all}
use Rattle.vet_base.specs.Members.{In}
use Rattle.app_machine.specs.Heap.{Value, Object}
use Rattle.app_machine.specs.State.{value_or_blank}
use Rattle.app_machine.specs.State as state
use Rattle.app_machine.specs.Summaries.{numbers_from}
use Rattle.app_model.specs.Marks.{is_marked}
use Rattle.played_machine.specs.Reading.{reached}
use Rattle.runner_library.specs.declared.arriving.Sink.{Sink}
use Rattle.runner_library.specs.Over.{arrivals_at_each, arrivals_with, if_label}
use Rattle.runner_state.specs.declared.labels.Labels.{Labels}
use Rattle.runner_state.specs.Shown.{labels_of, numbers_below}
use Rattle.runner_state.proofs.Marks.{label_in, label_of}
use Rattle.runner_world.specs.declared.arrival.Arrival.{Arrival}
use Rattle.runner_world.specs.Shown.{arrival_of}

-- numbers in a row
numbers_end : (s n : ℕ) → numbers_from s (suc n) ≡ numbers_from s n ++ (s + n) ∷ []
numbers_end s zero = let same : s ≡ s + 0 = omega arith in ap (λ k. k ∷ []) same
numbers_end s (suc n) = let same : s + 1 + n ≡ s + suc n = omega arith in ap (λ ks. s ∷ ks) (numbers_end (s + 1) n ∙ ap (λ k. numbers_from (s + 1) n ++ k ∷ []) same)

filter_end : (p : ℕ → Bool) (xs : List ℕ) (x : ℕ) → filter p (xs ++ x ∷ []) ≡ filter p xs ++ cond (p x) (x ∷ []) []
filter_end p [] x = refl
filter_end p (y ∷ xs) x = by_test (p y) (filter_end p xs x)
  where
    by_test : (b : Bool) → filter p (xs ++ x ∷ []) ≡ filter p xs ++ cond (p x) (x ∷ []) [] → cond b (y ∷ filter p (xs ++ x ∷ [])) (filter p (xs ++ x ∷ [])) ≡ cond b (y ∷ filter p xs) (filter p xs) ++ cond (p x) (x ∷ []) []
    by_test true later = ap (λ ys. y ∷ ys) later
    by_test false later = later

-- the labels below a number
abbrev pub labels_until : Labels → ℕ → List ℕ
labels_until labels i = filter (is_marked labels.words) (numbers_from 0 i)

until_more : (labels : Labels) (i : ℕ) → labels_until labels (i + 1) ≡ labels_until labels i ++ if_label labels i
until_more labels i =
    let next : i + 1 ≡ suc i = omega arith in
    let last : 0 + i ≡ i = omega arith in
    ap (λ n. filter (is_marked labels.words) (numbers_from 0 n)) next
    ∙ (ap (filter (is_marked labels.words)) (numbers_end 0 i ∙ ap (λ k. numbers_from 0 i ++ k ∷ []) last) ∙ filter_end (is_marked labels.words) (numbers_from 0 i) i)

-- an arrival of a label
abbrev as_arrival : Sink → ℕ → state.Arrival
as_arrival sink l = record { label = l; sink = sink.category; method = sink.method; pc = sink.pc }

module _ (sink : Sink) (labels : Labels) (old : List Arrival) where
  -- those of the labels below i have been added
  abbrev pub HasArrived : List Arrival → ℕ → Type 0
  HasArrived new i = map arrival_of new ≡ map arrival_of old ++ arrivals_with sink (labels_until labels i)

  pub none_arrived : HasArrived old 0
  none_arrived = sym (append-nil (map arrival_of old))

  pub one_arrived : (new newer : List Arrival) (i : ℕ) → map arrival_of newer ≡ map arrival_of new ++ arrivals_with sink (if_label labels i) → HasArrived new i → HasArrived newer (i + 1)
  one_arrived new newer i more so_far =
      more
      ∙ (ap (λ xs. xs ++ arrivals_with sink (if_label labels i)) so_far
      ∙ (append_assoc (map arrival_of old) (arrivals_with sink (labels_until labels i)) (arrivals_with sink (if_label labels i))
      ∙ ap (λ xs. map arrival_of old ++ xs) (sym (map-append (as_arrival sink) (labels_until labels i) (if_label labels i)) ∙ ap (map (as_arrival sink)) (sym (until_more labels i)))))

  below_is : (i : ℕ) → labels_until labels i ≡ filter (is_marked labels.words) (numbers_below i)
  unfolding numbers_below
  below_is i = refl

  at_end : (i : ℕ) → i ≡ 256 → labels_until labels i ≡ labels_of labels
  unfolding labels_of
  at_end i last = below_is i ∙ ap (λ n. filter (is_marked labels.words) (numbers_below n)) last

  pub all_arrived : (new : List Arrival) (i : ℕ) → i ≡ 256 → HasArrived new i → map arrival_of new ≡ map arrival_of old ++ arrivals_with sink (labels_of labels)
  all_arrived new i last so_far = so_far ∙ ap (λ ls. map arrival_of old ++ arrivals_with sink ls) (at_end i last)

  -- one label
  marked_so : (l : ℕ) (answer : Bool) → l < 256 → (answer ≡ true) ↔ In l (labels_of labels) → is_marked labels.words l ≡ answer
  marked_so l true below is = (label_of labels l (is.0 refl)).1
  marked_so l false below is = by_mark (is_marked labels.words l) refl
    where
      by_mark : (b : Bool) → is_marked labels.words l ≡ b → b ≡ false
      by_mark true e = sym (is.1 (label_in labels l below e))
      by_mark false e = refl

  pub is_added : (new : List Arrival) (l : ℕ) (a : Arrival) (answer : Bool) → l < 256 → (answer ≡ true) ↔ In l (labels_of labels) → answer ≡ true → new ≡ old ++ a ∷ [] →
      arrival_of a ≡ as_arrival sink l → map arrival_of new ≡ map arrival_of old ++ arrivals_with sink (if_label labels l)
  is_added new l a answer below is holds more same =
      ap (map arrival_of) more
      ∙ (map-append arrival_of old (a ∷ [])
      ∙ (ap (λ x. map arrival_of old ++ x ∷ []) same
      ∙ ap (λ b. map arrival_of old ++ arrivals_with sink (cond b (l ∷ []) [])) (sym (marked_so l answer below is ∙ holds))))

  pub not_added : (l : ℕ) (answer : Bool) → l < 256 → (answer ≡ true) ↔ In l (labels_of labels) → answer ≡ false → map arrival_of old ≡ map arrival_of old ++ arrivals_with sink (if_label labels l)
  not_added l answer below is fails =
      sym (append-nil (map arrival_of old)) ∙ ap (λ b. map arrival_of old ++ arrivals_with sink (cond b (l ∷ []) [])) (sym (marked_so l answer below is ∙ fails))

-- positions
flat_end : {A B : Type 0} (f : A → List B) (xs : List A) (x : A) → flat_map f (xs ++ x ∷ []) ≡ flat_map f xs ++ f x
flat_end f [] x = append-nil (f x)
flat_end f (y ∷ xs) x = ap (λ ys. f y ++ ys) (flat_end f xs x) ∙ sym (append_assoc (f y) (flat_map f xs) (f x))

module _ (heap : List Object) (vs : List Value) (sink : Sink) (positions : List ℕ) (old : List Arrival) where
  abbrev pub HasCome : List Arrival → ℕ → Type 0
  HasCome new i = map arrival_of new ≡ map arrival_of old ++ arrivals_at_each heap vs sink (take i positions)

  pub none_come : HasCome old 0
  none_come = sym (append-nil (map arrival_of old))

  pub one_come : (new newer : List Arrival) (i : ℕ) (labels : Labels) (v : Value) → i < length positions → labels_of labels ≡ reached heap v → v ≡ value_or_blank vs (get_or positions i 0) →
      map arrival_of newer ≡ map arrival_of new ++ arrivals_with sink (labels_of labels) → HasCome new i → HasCome newer (i + 1)
  one_come new newer i labels v within reaches is more so_far =
      more
      ∙ (ap (λ xs. xs ++ arrivals_with sink (labels_of labels)) so_far
      ∙ (append_assoc (map arrival_of old) (arrivals_at_each heap vs sink (take i positions)) (arrivals_with sink (labels_of labels))
      ∙ ap (λ xs. map arrival_of old ++ xs)
      (ap (λ ls. arrivals_at_each heap vs sink (take i positions) ++ arrivals_with sink ls) (reaches ∙ ap (reached heap) is)
      ∙ (sym (flat_end (λ j. arrivals_with sink (reached heap (value_or_blank vs j))) (take i positions) (get_or positions i 0))
      ∙ ap (arrivals_at_each heap vs sink) (sym (take_more positions i 0 within))))))

  pub all_come : (new : List Arrival) (i : ℕ) → length positions ≤ i → HasCome new i → map arrival_of new ≡ map arrival_of old ++ arrivals_at_each heap vs sink positions
  all_come new i past so_far = so_far ∙ ap (λ ps. map arrival_of old ++ arrivals_at_each heap vs sink ps) (take_all i positions past)
