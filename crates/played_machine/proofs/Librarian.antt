-- A library call that is drawn is the machine's.
use Rattle.std.proofs.Common.{◌≡◌, ◌==◌, ◌⊎◌, inl, inr, ℕ, Bool, true, false, cond, List, [], ◌∷◌, ◌++◌, map, flat_map, length, Option, Some, None, slice_get, refl, sym, ap, ◌∙◌, subst, eq-eqb}
use Rattle.std.specs.Prelude.{◌↔◌, option_to_list}
use Rattle.std.proofs.lemmas.Option.{none-some}
use Rattle.vet_base.specs.Members.{In}
use Rattle.vet_base.proofs.Members.{in_front, in_back, in_either, in_flat, from_flat, in_map, from_map, in_slice_get, from_filter_map}
use Rattle.app_machine.specs.declared.app.App.{App}
use Rattle.app_machine.specs.declared.lists.Lists.{Lists}
use Rattle.app_machine.specs.declared.summary.Gives.{Gives}
use Rattle.app_machine.specs.declared.summary.Gives.TheVariants.{Blank, Same, Taken, Joined, Shared, Handed}
use Rattle.app_machine.specs.declared.summary.Summary.{Summary}
use Rattle.app_machine.specs.Calls.{hand}
use Rattle.app_machine.specs.Heap.{Value, Object, blank, labelled}
use Rattle.app_machine.specs.Library.{value_at, AtSink, Hands, shared_named, shared_class, MakesShared, all_there, is_there, is_made, Joins, AreJoined, joined_object, Results, of_void, as_blank, as_same, as_taken, as_shared, as_labels, as_object, Adds, by_put, by_store, by_copy, CallsLibrary, HasObject, was_handed, is_live, as_nothing, as_given_back}
use Rattle.app_machine.specs.Lookups.{elem_key}
use Rattle.app_machine.specs.Names.{Name, is_reference, is_void}
use Rattle.app_machine.specs.State.{write, shared_static, Arrival, World, Frame, object_at, new_object}
use Rattle.app_machine.specs.Summaries.{numbers_from}
use Rattle.app_model.specs.EventLaws.{EventsAreExact}
use Rattle.played_machine.specs.Drawing.{give, Draws, one_of}
use Rattle.played_machine.specs.Librarian.{hand_all, arrivals_at, arrivals_of, shared_there, with_shared, joined_labels, joined_value, given_result, result, element_at, copied, added, after_call, library_call, live_place, live_places, had, given_back}
use Rattle.played_machine.specs.Local.{got}
use Rattle.played_machine.specs.Ordered.{sorted}
use Rattle.played_machine.specs.Reading.{values_at, reached, class_at, handed_places, is_of_type}
use Rattle.played_machine.proofs.Called.{Named}
use Rattle.played_machine.proofs.Chosen.{gave, followed, one_drawn}
use Rattle.played_machine.proofs.Got.{gets_so}
use Rattle.played_machine.proofs.Ordered.{in_sorted, from_sorted, in_ascending, from_ascending, index_of, false_true, from_filter}
use Rattle.played_machine.proofs.Reached.{was_handed as was_handed_place, value_there, value_read, reached_so, reached_all, class_there}

-- the handed places
module _ (f : Frame) (p : ℕ) where
  -- the place is that of one of the registers
  pub record OfRegister (xs : List ℕ) : Type 0 where
    pub register : ℕ
    pub is_one : In register xs
    pub place : (f.registers register).place ≡ Some p

  hands_from : (xs handed : List ℕ) → In p (hand_all f xs handed) → In p handed ⊎ OfRegister xs
  hands_from [] handed h = inl h
  hands_from (x ∷ xs) handed h = by_rest (hands_from xs (hand (f.registers x).place handed) h)
    where
      by_place : (o : Option ℕ) → (f.registers x).place ≡ o → In p (hand o handed) → In p handed ⊎ OfRegister (x ∷ xs)
      by_place None is h = inl h
      by_place (Some q) is (inl same) = inr (record { register = x; is_one = inl refl; place = is ∙ ap (λ z. Some z) (sym same) })
      by_place (Some q) is (inr h) = inl h

      by_rest : In p (hand (f.registers x).place handed) ⊎ OfRegister xs → In p handed ⊎ OfRegister (x ∷ xs)
      by_rest (inl before) = by_place (f.registers x).place refl before
      by_rest (inr later) = inr (record { register = later.register; is_one = inr later.is_one; place = later.place })

  hands_old : (xs handed : List ℕ) → In p handed → In p (hand_all f xs handed)
  hands_old [] handed h = h
  hands_old (x ∷ xs) handed h = hands_old xs (hand (f.registers x).place handed) (by_place (f.registers x).place)
    where
      by_place : (o : Option ℕ) → In p (hand o handed)
      by_place None = h
      by_place (Some q) = inr h

  hands_new : (xs handed : List ℕ) (x : ℕ) → In x xs → (f.registers x).place ≡ Some p → In p (hand_all f xs handed)
  hands_new [] handed x at is = absurd at
  hands_new (y ∷ xs) handed x (inl same) is =
      hands_old xs (hand (f.registers y).place handed) (subst (λ o. In p (hand o handed)) (sym (ap (λ z. (f.registers z).place) (sym same) ∙ is)) (inl refl))
  hands_new (y ∷ xs) handed x (inr later) is = hands_new xs (hand (f.registers y).place handed) x later is

  of_position : (places : List ℕ) (at : ℕ) → (value_at f places at).place ≡ Some p → OfRegister places
  of_position places at is = by_slot (slice_get places at) refl is
    where
      by_slot : (o : Option ℕ) → slice_get places at ≡ o → (elim o as (λ (z : Option ℕ). Value) [ Some x ↦ f.registers x | None ↦ blank ]).place ≡ Some p → OfRegister places
      by_slot None there is = absurd (none-some p is)
      by_slot (Some x) there is = record { register = x; is_one = in_slice_get places at x there; place = is }

  to_position : (places : List ℕ) → OfRegister places → Hands f places p
  to_position places of =
      let found = index_of places of.register of.is_one in
      record { at = found.0; place = subst (λ (o : Option ℕ). (elim o as (λ (z : Option ℕ). Value) [ Some x ↦ f.registers x | None ↦ blank ]).place ≡ Some p) (sym found.1) of.place }

  pub handed_so : (places handed : List ℕ) → In p (hand_all f places handed) ↔ (In p handed ⊎ Hands f places p)
  handed_so places handed = (λ h. forth (hands_from places handed h), λ h. back h)
    where
      forth : In p handed ⊎ OfRegister places → In p handed ⊎ Hands f places p
      forth (inl old) = inl old
      forth (inr new) = inr (to_position places new)

      back : In p handed ⊎ Hands f places p → In p (hand_all f places handed)
      back (inl old) = hands_old places handed old
      back (inr new) = let of = of_position places new.at new.place in hands_new places handed of.register of.is_one of.place

-- the arrivals
module _ (heap : List Object) (f : Frame) (places : List ℕ) (row : Summary) (a : Arrival) where
  abbrev arrival : ℕ → ℕ → Arrival
  arrival sink l = record { label = l; sink = sink; method = f.method; pc = f.pc }

  at_position : (sink : ℕ) (is : List ℕ) (i : ℕ) → row.sink ≡ Some (sink, is) → In i is → In a (arrivals_at heap f places sink i) → AtSink heap f places row a
  at_position sink is i of_row at h =
      let found = from_map (arrival sink) (reached heap (value_at f places i)) a h in
      let walk = reached_so heap (value_at f places i) found.0 found.1 in
      subst (AtSink heap f places row) (sym found.2) (record { at = i; is_sink = (is, of_row, at); keys = walk.0; walk = walk.1; method = refl; pc = refl })

  arrivals_from : (o : Option (ℕ × List ℕ)) → row.sink ≡ o → In a (arrivals_of heap f places o) → AtSink heap f places row a
  arrivals_from None of_row h = absurd h
  arrivals_from (Some sink) of_row h =
      let found = from_flat (arrivals_at heap f places sink.0) (sorted sink.1) a h in
      at_position sink.0 sink.1 found.0 of_row (from_sorted sink.1 found.0 found.1) found.2

  same_arrival : AtSink heap f places row a → a ≡ arrival a.sink a.label
  same_arrival at = ap (λ m. record a { method = m }) at.method ∙ ap (λ pc. record a { method = f.method; pc = pc }) at.pc

  arrivals_in : AtSink heap f places row a → In a (arrivals_of heap f places row.sink)
  arrivals_in at =
      let is : List ℕ = at.is_sink.0 in
      subst (λ o. In a (arrivals_of heap f places o)) (sym at.is_sink.1)
      (in_flat (arrivals_at heap f places a.sink) (sorted is) at.at a (in_sorted is at.at at.is_sink.2)
      (subst (λ z. In z (arrivals_at heap f places a.sink at.at)) (sym (same_arrival at))
      (in_map (arrival a.sink) (reached heap (value_at f places at.at)) a.label (reached_all heap (value_at f places at.at) a.label at.keys at.walk))))

  pub arrivals_so : (before : List Arrival) → In a (before ++ arrivals_of heap f places row.sink) ↔ (In a before ⊎ AtSink heap f places row a)
  arrivals_so before = (λ h. forth (in_either a before (arrivals_of heap f places row.sink) h), λ h. back h)
    where
      forth : In a before ⊎ In a (arrivals_of heap f places row.sink) → In a before ⊎ AtSink heap f places row a
      forth (inl old) = inl old
      forth (inr new) = inr (arrivals_from row.sink refl new)

      back : In a before ⊎ AtSink heap f places row a → In a (before ++ arrivals_of heap f places row.sink)
      back (inl old) = in_front a before (arrivals_of heap f places row.sink) old
      back (inr new) = in_back a before (arrivals_of heap f places row.sink) (arrivals_in new)

-- the shared objects
module _ (app : App) (lists : Lists) where
  pub shared_so : (is : List ℕ) (heap : List Object) (statics : ℕ → Value) → Named lists is →
      MakesShared app lists is heap statics (with_shared app lists is heap statics).0 (with_shared app lists is heap statics).1
  shared_so [] heap statics named = all_there
  shared_so (i ∷ more) heap statics named = by_place (statics (shared_static app i)).place refl (shared_class lists i) refl (λ h s. shared_so more h s (λ j k. named j (inr k)))
    where
      by_place : (o : Option ℕ) → (statics (shared_static app i)).place ≡ o → (c : Option Name) → shared_class lists i ≡ c →
          ((h : List Object) (s : ℕ → Value) → MakesShared app lists more h s (with_shared app lists more h s).0 (with_shared app lists more h s).1) →
          MakesShared app lists (i ∷ more) heap statics
          (with_shared app lists more (shared_there o c (shared_static app i) heap statics).0 (shared_there o c (shared_static app i) heap statics).1).0
          (with_shared app lists more (shared_there o c (shared_static app i) heap statics).0 (shared_there o c (shared_static app i) heap statics).1).1
      by_place (Some p) is c e later = is_there is (later heap statics)
      by_place None is (Some class) e later = is_made is e (later (heap ++ new_object class ∷ []) (write statics (shared_static app i) (object_at (Some (length heap)))))
      by_place None is None e later = let n = named i (inl refl) in absurd (none-some n.0 (sym e ∙ n.1))

-- the result
module _ (app : App) (lists : Lists) (exact : EventsAreExact app lists) (w : World) (handed : List ℕ) (f : Frame) (places : List ℕ) (source : Option ℕ) (ret : Name) (statics : ℕ → Value) (heap : List Object) where
  of_source : (l : ℕ) (o : Option ℕ) → In l (option_to_list o) → o ≡ Some l
  of_source l None h = absurd h
  of_source l (Some k) (inl same) = ap (λ z. Some z) (sym same)
  of_source l (Some k) (inr h) = absurd h

  abbrev labels_of : ℕ → List ℕ
  labels_of i = reached w.heap (value_at f places i)

  joined_so : (from : List ℕ) → AreJoined w.heap f places from source (joined_labels w.heap f places from source)
  unfolding joined_labels
  joined_so from l = (λ h. forth (in_either l (option_to_list source) (flat_map labels_of from) (from_ascending (option_to_list source ++ flat_map labels_of from) l h)), λ h. in_ascending (option_to_list source ++ flat_map labels_of from) l (back h))
    where
      forth : In l (option_to_list source) ⊎ In l (flat_map labels_of from) → Joins w.heap f places from source l
      forth (inl own) = inl (of_source l source own)
      forth (inr more) = let found = from_flat labels_of from l more in let walk = reached_so w.heap (value_at f places found.0) l found.2 in inr (found.0, found.1, walk)

      back : Joins w.heap f places from source l → In l (option_to_list source ++ flat_map labels_of from)
      back (inl is) = in_front l (option_to_list source) (flat_map labels_of from) (subst (λ o. In l (option_to_list o)) (sym is) (inl refl))
      back (inr walk) = in_back l (option_to_list source) (flat_map labels_of from) (in_flat labels_of from walk.0 l walk.1 (reached_all w.heap (value_at f places walk.0) l walk.2.0 walk.2.1))

  abbrev ResultIs : Gives → List Object × Value → Type 0
  ResultIs gives given = Results app lists w handed f places source ret statics heap gives given.0 given.1

  as_given : (gives : Gives) (one given : List Object × Value) → ResultIs gives one → Draws (give one) given → ResultIs gives given
  as_given gives one given is d = subst (ResultIs gives) (sym (gave one given d)) is

  joined_result : is_void ret ≡ false → (from : List ℕ) → ResultIs (Joined from) (joined_value ret heap (joined_labels w.heap f places from source))
  joined_result some from = by_type (is_reference ret) refl
    where
      by_type : (b : Bool) → is_reference ret ≡ b → ResultIs (Joined from) (cond b (heap ++ joined_object ret (joined_labels w.heap f places from source) ∷ [], record { place = Some (length heap); labels = joined_labels w.heap f places from source }) (heap, labelled (joined_labels w.heap f places from source)))
      by_type true is = as_object some is (joined_so from)
      by_type false is = as_labels some is (joined_so from)

  -- an object that the library has
  is_had : (p : ℕ) → In p (handed_places handed ++ live_places app w) → HasObject w handed p
  is_had p h = elim (in_either p (handed_places handed) (live_places app w) h) [
    | inl old ↦ was_handed (was_handed_place handed p old)
    | inr live ↦ let found = from_filter_map (λ c. live_place (w.components c)) (numbers_from 0 (length app.components)) p live in by_state found.0 ((w.components found.0).state == 0) refl found.2
  ]
    where
      by_state : (c : ℕ) (b : Bool) → ((w.components c).state == 0) ≡ b → cond b None (w.components c).place ≡ Some p → HasObject w handed p
      by_state c true is gives = absurd (none-some p gives)
      by_state c false is gives = is_live c (λ zero_state. false_true (sym is ∙ eq-eqb (w.components c).state 0 zero_state)) gives

  of_place : is_reference ret ≡ true → (p : ℕ) → In p (had app lists w handed ret) → ResultIs Handed (heap, object_at (Some p))
  of_place reference p h =
      let kept = from_filter (λ p. is_of_type app lists ret (class_at w.heap p)) (handed_places handed ++ live_places app w) p h in
      by_class (class_at w.heap p) refl kept.1 (is_had p kept.0)
    where
      by_class : (o : Option Name) → class_at w.heap p ≡ o → is_of_type app lists ret o ≡ true → HasObject w handed p → ResultIs Handed (heap, object_at (Some p))
      by_class None is holds has = absurd (false_true holds)
      by_class (Some class) is holds has = as_given_back reference has (class_there w.heap p class is) ((exact.below class ret).0 holds)

  back_so : is_void ret ≡ false → (v : Value) → In v (given_back app lists w handed ret) → ResultIs Handed (heap, v)
  back_so some v (inl same) = subst (λ z. ResultIs Handed (heap, z)) (sym same) (as_nothing some)
  back_so some v (inr h) = by_type (is_reference ret) refl h
    where
      by_type : (b : Bool) → is_reference ret ≡ b → In v (cond b (map (λ p. object_at (Some p)) (had app lists w handed ret)) []) → ResultIs Handed (heap, v)
      by_type true reference h =
          let found = from_map (λ (p : ℕ). object_at (Some p)) (had app lists w handed ret) v h in
          subst (λ z. ResultIs Handed (heap, z)) (sym found.2) (of_place reference found.0 found.1)
      by_type false reference h = absurd h

  given_so : is_void ret ≡ false → (gives : Gives) (given : List Object × Value) → Draws (given_result app lists w handed f places source ret statics heap gives) given → ResultIs gives given
  given_so some Blank given d = as_given Blank (heap, blank) given (as_blank some) d
  given_so some (Same i) given d = as_given (Same i) (heap, value_at f places i) given (as_same some) d
  given_so some (Taken i) given d =
      let h = followed (got w.heap (value_at f places i) elem_key) (λ v. give (heap, v)) given d in
      as_given (Taken i) (heap, h.by) given (as_taken some (gets_so w.heap (value_at f places i) elem_key h.by h.drawn)) h.after
  given_so some (Shared i) given d = as_given (Shared i) (heap, statics (shared_static app i)) given (as_shared some) d
  given_so some (Joined from) given d = as_given (Joined from) (joined_value ret heap (joined_labels w.heap f places from source)) given (joined_result some from) d
  given_so some Handed given d =
      let h = followed (one_of (given_back app lists w handed ret)) (λ v. give (heap, v)) given d in
      as_given Handed (heap, h.by) given (back_so some h.by (one_drawn (given_back app lists w handed ret) h.by h.drawn)) h.after

  pub result_so : (gives : Gives) (given : List Object × Value) → Draws (result app lists w handed f places source ret statics heap gives) given → ResultIs gives given
  result_so gives given d = by_void (is_void ret) refl d
    where
      by_void : (b : Bool) → is_void ret ≡ b → Draws (cond b (give (heap, blank)) (given_result app lists w handed f places source ret statics heap gives)) given → ResultIs gives given
      by_void true is d = as_given gives (heap, blank) given (of_void is) d
      by_void false is d = given_so is gives given d

-- what is added
element_from : (o : Option ℕ) (v : Value) (a : ℕ × Value) → In a (element_at o v) → (p : ℕ) × (o ≡ Some p) × (a ≡ (p, v))
element_from None v a h = absurd h
element_from (Some p) v a (inl same) = (p, refl, same)
element_from (Some p) v a (inr h) = absurd h

in_element : (o : Option ℕ) (v : Value) (p : ℕ) → o ≡ Some p → In (p, v) (element_at o v)
in_element o v p is = subst (λ z. In (p, v) (element_at z v)) (sym is) (inl refl)

module _ (app : App) (before : List Object) (f : Frame) (places : List ℕ) (statics : ℕ → Value) (row : Summary) where
  abbrev put_adds : ℕ × ℕ → List (ℕ × Value)
  put_adds put = element_at (value_at f places put.1).place (value_at f places put.0)

  abbrev store_adds : ℕ × ℕ → List (ℕ × Value)
  store_adds store = element_at (statics (shared_static app store.1)).place (value_at f places store.0)

  abbrev copy_adds : ℕ × ℕ → List (ℕ × Value)
  copy_adds copy = copied before (value_at f places copy.0).place (value_at f places copy.1).place

  abbrev AddsThis : ℕ × Value → Type 0
  AddsThis = Adds app before f places statics row

  put_so : (a : ℕ × Value) → In a (flat_map put_adds row.puts) → AddsThis a
  put_so a h =
      let found = from_flat put_adds row.puts a h in
      let one = element_from (value_at f places found.0.1).place (value_at f places found.0.0) a found.2 in
      subst AddsThis (sym one.2) (by_put found.0.0 found.0.1 found.1 one.1)

  store_so : (a : ℕ × Value) → In a (flat_map store_adds row.stores) → AddsThis a
  store_so a h =
      let found = from_flat store_adds row.stores a h in
      let one = element_from (statics (shared_static app found.0.1)).place (value_at f places found.0.0) a found.2 in
      subst AddsThis (sym one.2) (by_store found.0.0 found.0.1 found.1 one.1)

  copy_so : (a : ℕ × Value) → In a (flat_map copy_adds row.copies) → AddsThis a
  copy_so a h = let found = from_flat copy_adds row.copies a h in by_place found.0 found.1 (value_at f places found.0.0).place refl found.2
    where
      by_place : (copy : ℕ × ℕ) → In copy row.copies → (o : Option ℕ) → (value_at f places copy.0).place ≡ o → In a (copied before o (value_at f places copy.1).place) → AddsThis a
      by_place copy at None is h = absurd h
      by_place copy at (Some q) is h =
          let found = from_flat (element_at (value_at f places copy.1).place) (values_at before q elem_key) a h in
          let one = element_from (value_at f places copy.1).place found.0 a found.2 in
          subst AddsThis (sym one.2) (by_copy copy.0 copy.1 q at is (value_there before q elem_key found.0 found.1) one.1)

  added_from : (a : ℕ × Value) → In a (added app before f places statics row) → AddsThis a
  unfolding added
  added_from a h = elim (in_either a (flat_map put_adds row.puts ++ flat_map store_adds row.stores) (flat_map copy_adds row.copies) h) [
    | inl first ↦ elim (in_either a (flat_map put_adds row.puts) (flat_map store_adds row.stores) first) [ inl put ↦ put_so a put | inr store ↦ store_so a store ]
    | inr copy ↦ copy_so a copy
  ]

  added_in : (a : ℕ × Value) → AddsThis a → In a (added app before f places statics row)
  unfolding added
  added_in a (by_put i j {p} at is) =
      in_front a (flat_map put_adds row.puts ++ flat_map store_adds row.stores) (flat_map copy_adds row.copies) (in_front a (flat_map put_adds row.puts) (flat_map store_adds row.stores)
      (in_flat put_adds row.puts (i, j) a at (in_element (value_at f places j).place (value_at f places i) p is)))
  added_in a (by_store i s {p} at is) =
      in_front a (flat_map put_adds row.puts ++ flat_map store_adds row.stores) (flat_map copy_adds row.copies) (in_back a (flat_map put_adds row.puts) (flat_map store_adds row.stores)
      (in_flat store_adds row.stores (i, s) a at (in_element (statics (shared_static app s)).place (value_at f places i) p is)))
  added_in a (by_copy i j q {p} {v} at from entry to) =
      in_back a (flat_map put_adds row.puts ++ flat_map store_adds row.stores) (flat_map copy_adds row.copies)
      (in_flat copy_adds row.copies (i, j) a at
      (subst (λ o. In a (copied before o (value_at f places j).place)) (sym from)
      (in_flat (element_at (value_at f places j).place) (values_at before q elem_key) v a (value_read before q elem_key v entry) (in_element (value_at f places j).place v p to))))

  pub added_so : (a : ℕ × Value) → In a (added app before f places statics row) ↔ AddsThis a
  added_so a = (added_from a, added_in a)

-- the call
pub library_so : (app : App) (lists : Lists) → EventsAreExact app lists → (w : World) (f : Frame) (places : List ℕ) (ret : Name) (row : Summary) → Named lists (shared_named row ret) →
    (done : World × Value) → Draws (library_call app lists w f places ret row) done → CallsLibrary app lists w f places ret row done.0 done.1
unfolding library_call
library_so app lists exact w f places ret row named done d =
    let shared : List Object × (ℕ → Value) = with_shared app lists (shared_named row ret) w.heap w.statics in
    let h = followed (result app lists w (hand_all f places w.handed) f places row.source ret shared.1 shared.0 row.gives) (λ (given : List Object × Value). give (after_call app w f places row shared.1 given.0, given.1)) done d in
    subst (λ (z : World × Value). CallsLibrary app lists w f places ret row z.0 z.1) (sym (gave (after_call app w f places row shared.1 h.by.0, h.by.1) done h.after)) (record {
      with_shared = shared.0;
      with_result = h.by.0;
      added = added app w.heap f places shared.1 row;
      handed = λ p. handed_so f p places w.handed;
      arrivals = λ a. arrivals_so w.heap f places row a w.arrivals;
      shared = shared_so app lists (shared_named row ret) w.heap w.statics named;
      results = result_so app lists exact w (hand_all f places w.handed) f places row.source ret shared.1 shared.0 row.gives h.by h.drawn;
      adds = added_so app w.heap f places shared.1 row;
      heap = refl;
      components = refl;
    })
