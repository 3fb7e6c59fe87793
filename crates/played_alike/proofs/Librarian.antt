-- Library calls of alike worlds and frames.
use Rattle.std.proofs.Common.{◌≡◌, ℕ, Bool, true, false, cond, List, [], ◌∷◌, ◌++◌, map, length, Option, Some, None, slice_get, refl, sym, ap, ◌∙◌, subst, filter, filter_map}
use Rattle.std.specs.Prelude.{option_to_list}
use Rattle.vet_base.proofs.Members.{flat_map_agree}
use Rattle.app_machine.specs.declared.app.App.{App}
use Rattle.app_machine.specs.declared.lists.Lists.{Lists}
use Rattle.app_machine.specs.declared.summary.Gives.{Gives}
use Rattle.app_machine.specs.declared.summary.Gives.TheVariants.{Blank, Same, Taken, Joined, Shared, Handed}
use Rattle.app_machine.specs.declared.summary.Summary.{Summary}
use Rattle.app_machine.specs.Calls.{hand}
use Rattle.app_machine.specs.Heap.{Value, Object, blank, labelled}
use Rattle.app_machine.specs.Library.{value_at, shared_named, shared_class, joined_object}
use Rattle.app_machine.specs.Lookups.{elem_key}
use Rattle.app_machine.specs.Names.{Name, is_reference, is_void}
use Rattle.app_machine.specs.State.{shared_static, Arrival, World, Frame, object_at, new_object, ComponentState}
use Rattle.app_machine.specs.Summaries.{numbers_from}
use Rattle.played_machine.specs.Drawing.{give, one_of}
use Rattle.played_machine.specs.Librarian.{hand_all, arrivals_at, arrivals_of, shared_there, with_shared, joined_labels, joined_value, given_result, result, element_at, elements_at, added_by_puts, added_by_stores, copied, added_by_copies, added, after_call, library_call, live_place, live_places, had, given_back}
use Rattle.played_machine.specs.Local.{got}
use Rattle.played_machine.specs.Ordered.{sorted, ascending}
use Rattle.played_machine.specs.Reading.{handed_places, reached, class_at, is_of_type}
use Rattle.played_alike.specs.Alike.{Pairwise, AlikeValue, AlikeObject, AlikeHeap, AlikeValues, AlikeFrame, AlikeWorld}
use Rattle.played_alike.proofs.Heaps.{alike_itself, alike_write, alike_values, same_reached, AlikeAdded, alike_add_all, alike_object, alike_more, same_class}
use Rattle.played_alike.proofs.Local.{alike_got}
use Rattle.played_alike.proofs.Orders.{put_once, handed_next}
use Rattle.played_alike.proofs.Pairs.{AlikeDrawings, pair_append, pair_length, pair_flat_map, pair_flat_two, alike_give, alike_if, alike_after, pair_same, alike_one}

-- what is handed
pub handed_one : (o q : Option ℕ) → o ≡ q → (one other : List ℕ) → handed_places one ≡ handed_places other → handed_places (hand o one) ≡ handed_places (hand q other)
handed_one o q same one other places = subst (λ z. handed_places (hand o one) ≡ handed_places (hand z other)) same (by_place o)
  where
    by_place : (z : Option ℕ) → handed_places (hand z one) ≡ handed_places (hand z other)
    by_place None = places
    by_place (Some p) = handed_next p one ∙ (ap (put_once p) places ∙ sym (handed_next p other))

module _ (f g : Frame) (frames : AlikeFrame f g) where
  same_hands : (xs one other : List ℕ) → handed_places one ≡ handed_places other → handed_places (hand_all f xs one) ≡ handed_places (hand_all g xs other)
  same_hands [] one other places = places
  same_hands (x ∷ xs) one other places =
      same_hands xs (hand (f.registers x).place one) (hand (g.registers x).place other) (handed_one (f.registers x).place (g.registers x).place (frames.registers x).place one other places)

  alike_at : (places : List ℕ) (i : ℕ) → AlikeValue (value_at f places i) (value_at g places i)
  alike_at places i = by_slot (slice_get places i)
    where
      by_slot : (o : Option ℕ) → AlikeValue (elim o as (λ (z : Option ℕ). Value) [ Some x ↦ f.registers x | None ↦ blank ]) (elim o as (λ (z : Option ℕ). Value) [ Some x ↦ g.registers x | None ↦ blank ])
      by_slot None = alike_itself blank
      by_slot (Some x) = frames.registers x

  -- what arrives
  module _ (heap heap' : List Object) (heaps : AlikeHeap heap heap') (places : List ℕ) where
    abbrev arriving : ℕ → ℕ → ℕ → List ℕ → List Arrival
    arriving sink method pc labels = map (λ l. record { label = l; sink = sink; method = method; pc = pc }) labels

    same_arrivals_at : (sink i : ℕ) → arrivals_at heap f places sink i ≡ arrivals_at heap' g places sink i
    same_arrivals_at sink i =
        ap (λ m. arriving sink m f.pc (reached heap (value_at f places i))) frames.method
        ∙ (ap (λ pc. arriving sink g.method pc (reached heap (value_at f places i))) frames.pc
        ∙ ap (λ ls. arriving sink g.method g.pc ls) (same_reached heap heap' heaps (value_at f places i) (value_at g places i) (alike_at places i)))

    same_arrivals : (sink : Option (ℕ × List ℕ)) → arrivals_of heap f places sink ≡ arrivals_of heap' g places sink
    same_arrivals None = refl
    same_arrivals (Some sink) = flat_map_agree (arrivals_at heap f places sink.0) (arrivals_at heap' g places sink.0) (sorted sink.1) (λ i h. same_arrivals_at sink.0 i)

    same_joined : (from : List ℕ) (source : Option ℕ) → joined_labels heap f places from source ≡ joined_labels heap' g places from source
    unfolding joined_labels
    same_joined from source =
        ap (λ ls. ascending (option_to_list source ++ ls)) (flat_map_agree (λ i. reached heap (value_at f places i)) (λ i. reached heap' (value_at g places i)) from (λ i h. same_reached heap heap' heaps (value_at f places i) (value_at g places i) (alike_at places i)))

    alike_elements_at : (o q : Option ℕ) → o ≡ q → Pairwise AlikeValue (elements_at heap o) (elements_at heap' q)
    alike_elements_at o q same = subst (λ z. Pairwise AlikeValue (elements_at heap o) (elements_at heap' z)) same (by_place o)
      where
        by_place : (z : Option ℕ) → Pairwise AlikeValue (elements_at heap z) (elements_at heap' z)
        by_place None = tt
        by_place (Some p) = alike_values heap heap' heaps p elem_key

-- the shared objects
abbrev pub AlikeShared : List Object × (ℕ → Value) → List Object × (ℕ → Value) → Type 0
AlikeShared a b = AlikeHeap a.0 b.0 × AlikeValues a.1 b.1

new_place : (heap heap' : List Object) → AlikeHeap heap heap' → AlikeValue (object_at (Some (length heap))) (object_at (Some (length heap')))
new_place heap heap' heaps = record { place = ap (λ n. Some n) (pair_length AlikeObject heap heap' heaps); labels = λ l. (λ h. h, λ h. h) }

alike_made : (o q : Option ℕ) → o ≡ q → (class : Option Name) (g : ℕ) (heap heap' : List Object) (statics statics' : ℕ → Value) → AlikeHeap heap heap' → AlikeValues statics statics' →
    AlikeShared (shared_there o class g heap statics) (shared_there q class g heap' statics')
alike_made o q same class g heap heap' statics statics' heaps values = subst (λ z. AlikeShared (shared_there o class g heap statics) (shared_there z class g heap' statics')) same (by_place o class)
  where
    by_place : (z : Option ℕ) (c : Option Name) → AlikeShared (shared_there z c g heap statics) (shared_there z c g heap' statics')
    by_place (Some p) c = (heaps, values)
    by_place None None = (heaps, values)
    by_place None (Some c) = (
      alike_more heap heap' (new_object c) (new_object c) heaps (alike_object (new_object c)),
      alike_write statics statics' g (object_at (Some (length heap))) (object_at (Some (length heap'))) values (new_place heap heap' heaps),
    )

alike_shared : (app : App) (lists : Lists) (is : List ℕ) (heap heap' : List Object) (statics statics' : ℕ → Value) → AlikeHeap heap heap' → AlikeValues statics statics' →
    AlikeShared (with_shared app lists is heap statics) (with_shared app lists is heap' statics')
alike_shared app lists [] heap heap' statics statics' heaps values = (heaps, values)
alike_shared app lists (i ∷ more) heap heap' statics statics' heaps values =
    let g : ℕ = shared_static app i in
    let one : List Object × (ℕ → Value) = shared_there (statics g).place (shared_class lists i) g heap statics in
    let other : List Object × (ℕ → Value) = shared_there (statics' g).place (shared_class lists i) g heap' statics' in
    let made : AlikeShared one other = alike_made (statics g).place (statics' g).place (values g).place (shared_class lists i) g heap heap' statics statics' heaps values in
    alike_shared app lists more one.0 other.0 one.1 other.1 made.0 made.1

-- the result
abbrev pub AlikeGiven : List Object × Value → List Object × Value → Type 0
AlikeGiven a b = AlikeHeap a.0 b.0 × AlikeValue a.1 b.1

alike_joined : (ret : Name) (heap heap' : List Object) → AlikeHeap heap heap' → (labels others : List ℕ) → labels ≡ others → AlikeGiven (joined_value ret heap labels) (joined_value ret heap' others)
alike_joined ret heap heap' heaps labels others same = subst (λ ls. AlikeGiven (joined_value ret heap labels) (joined_value ret heap' ls)) same (by_type (is_reference ret))
  where
    by_type : (b : Bool) → AlikeGiven (cond b (heap ++ joined_object ret labels ∷ [], record { place = Some (length heap); labels = labels }) (heap, labelled labels)) (cond b (heap' ++ joined_object ret labels ∷ [], record { place = Some (length heap'); labels = labels }) (heap', labelled labels))
    by_type true = (alike_more heap heap' (joined_object ret labels) (joined_object ret labels) heaps (alike_object (joined_object ret labels)), record { place = (new_place heap heap' heaps).place; labels = λ l. (λ h. h, λ h. h) })
    by_type false = (heaps, alike_itself (labelled labels))

module _ (app : App) (lists : Lists) (w u : World) (alike : AlikeWorld w u) (handed handed' : List ℕ) (hands : handed_places handed ≡ handed_places handed') (f g : Frame) (frames : AlikeFrame f g) (places : List ℕ) (source : Option ℕ) (ret : Name) (statics statics' : ℕ → Value) (values : AlikeValues statics statics') (heap heap' : List Object) (heaps : AlikeHeap heap heap') where
  same_live : live_places app w ≡ live_places app u
  same_live = ap (λ (cs : ℕ → ComponentState). filter_map (λ c. live_place (cs c)) (numbers_from 0 (length app.components))) alike.components

  same_had : had app lists w handed ret ≡ had app lists u handed' ret
  same_had =
      let classes : class_at w.heap ≡ class_at u.heap = λ i p. same_class w.heap u.heap alike.heap p i in
      ap (λ (cs : ℕ → Option Name). filter (λ p. is_of_type app lists ret (cs p)) (handed_places handed ++ live_places app w)) classes
      ∙ (ap (λ ps. filter (λ p. is_of_type app lists ret (class_at u.heap p)) (ps ++ live_places app w)) hands
      ∙ ap (λ ps. filter (λ p. is_of_type app lists ret (class_at u.heap p)) (handed_places handed' ++ ps)) same_live)

  alike_back : Pairwise AlikeValue (given_back app lists w handed ret) (given_back app lists u handed' ret)
  alike_back = subst (λ ps. Pairwise AlikeValue (given_back app lists w handed ret) (blank ∷ cond (is_reference ret) (map (λ p. object_at (Some p)) ps) [])) same_had (pair_same AlikeValue alike_itself (given_back app lists w handed ret))

  alike_given_result : (gives : Gives) → AlikeDrawings AlikeGiven (given_result app lists w handed f places source ret statics heap gives) (given_result app lists u handed' g places source ret statics' heap' gives)
  alike_given_result Blank = alike_give AlikeGiven _ _ (heaps, alike_itself blank)
  alike_given_result (Same i) = alike_give AlikeGiven _ _ (heaps, alike_at f g frames places i)
  alike_given_result (Taken i) =
      alike_after AlikeValue AlikeGiven (got w.heap (value_at f places i) elem_key) (got u.heap (value_at g places i) elem_key) (λ v. give (heap, v)) (λ v. give (heap', v))
      (alike_got w.heap u.heap alike.heap (value_at f places i) (value_at g places i) (alike_at f g frames places i) elem_key) (λ x y one. alike_give AlikeGiven (heap, x) (heap', y) (heaps, one))
  alike_given_result (Shared i) = alike_give AlikeGiven _ _ (heaps, values (shared_static app i))
  alike_given_result (Joined from) = alike_give AlikeGiven _ _ (alike_joined ret heap heap' heaps (joined_labels w.heap f places from source) (joined_labels u.heap g places from source) (same_joined f g frames w.heap u.heap alike.heap places from source))
  alike_given_result Handed =
      alike_after AlikeValue AlikeGiven (one_of (given_back app lists w handed ret)) (one_of (given_back app lists u handed' ret)) (λ v. give (heap, v)) (λ v. give (heap', v))
      (alike_one AlikeValue (given_back app lists w handed ret) (given_back app lists u handed' ret) alike_back) (λ x y one. alike_give AlikeGiven (heap, x) (heap', y) (heaps, one))

  alike_result : (gives : Gives) → AlikeDrawings AlikeGiven (result app lists w handed f places source ret statics heap gives) (result app lists u handed' g places source ret statics' heap' gives)
  alike_result gives = alike_if AlikeGiven (is_void ret) (give (heap, blank)) (give (heap', blank)) (given_result app lists w handed f places source ret statics heap gives) (given_result app lists u handed' g places source ret statics' heap' gives)
      (alike_give AlikeGiven (heap, blank) (heap', blank) (heaps, alike_itself blank)) (alike_given_result gives)

-- what is added
alike_element : (o q : Option ℕ) → o ≡ q → (v w : Value) → AlikeValue v w → Pairwise AlikeAdded (element_at o v) (element_at q w)
alike_element o q same v w value = subst (λ z. Pairwise AlikeAdded (element_at o v) (element_at z w)) same (by_place o)
  where
    by_place : (z : Option ℕ) → Pairwise AlikeAdded (element_at z v) (element_at z w)
    by_place None = tt
    by_place (Some p) = (record { place = refl; value = value }, tt)

module _ (app : App) (before before' : List Object) (befores : AlikeHeap before before') (f g : Frame) (frames : AlikeFrame f g) (places : List ℕ) (statics statics' : ℕ → Value) (values : AlikeValues statics statics') where
  alike_puts : (puts : List (ℕ × ℕ)) → Pairwise AlikeAdded (added_by_puts f places puts) (added_by_puts g places puts)
  alike_puts puts = pair_flat_map AlikeAdded (λ (put : ℕ × ℕ). element_at (value_at f places put.1).place (value_at f places put.0)) (λ (put : ℕ × ℕ). element_at (value_at g places put.1).place (value_at g places put.0))
      (λ put. alike_element (value_at f places put.1).place (value_at g places put.1).place (alike_at f g frames places put.1).place (value_at f places put.0) (value_at g places put.0) (alike_at f g frames places put.0)) puts

  alike_stores : (stores : List (ℕ × ℕ)) → Pairwise AlikeAdded (added_by_stores app f places statics stores) (added_by_stores app g places statics' stores)
  alike_stores stores = pair_flat_map AlikeAdded (λ (store : ℕ × ℕ). element_at (statics (shared_static app store.1)).place (value_at f places store.0)) (λ (store : ℕ × ℕ). element_at (statics' (shared_static app store.1)).place (value_at g places store.0))
      (λ store. alike_element (statics (shared_static app store.1)).place (statics' (shared_static app store.1)).place (values (shared_static app store.1)).place (value_at f places store.0) (value_at g places store.0) (alike_at f g frames places store.0)) stores

  alike_copied : (from from' to to' : Option ℕ) → from ≡ from' → to ≡ to' → Pairwise AlikeAdded (copied before from to) (copied before' from' to')
  alike_copied from from' to to' froms tos =
      pair_flat_two AlikeValue AlikeAdded (element_at to) (element_at to') (λ x y one. alike_element to to' tos x y one) (elements_at before from) (elements_at before' from') (alike_elements_at f g frames before before' befores places from from' froms)

  alike_copies : (copies : List (ℕ × ℕ)) → Pairwise AlikeAdded (added_by_copies before f places copies) (added_by_copies before' g places copies)
  alike_copies copies = pair_flat_map AlikeAdded (λ (copy : ℕ × ℕ). copied before (value_at f places copy.0).place (value_at f places copy.1).place) (λ (copy : ℕ × ℕ). copied before' (value_at g places copy.0).place (value_at g places copy.1).place)
      (λ copy. alike_copied (value_at f places copy.0).place (value_at g places copy.0).place (value_at f places copy.1).place (value_at g places copy.1).place (alike_at f g frames places copy.0).place (alike_at f g frames places copy.1).place) copies

  alike_added : (row : Summary) → Pairwise AlikeAdded (added app before f places statics row) (added app before' g places statics' row)
  unfolding added
  alike_added row =
      pair_append AlikeAdded (added_by_puts f places row.puts ++ added_by_stores app f places statics row.stores) (added_by_puts g places row.puts ++ added_by_stores app g places statics' row.stores) (added_by_copies before f places row.copies) (added_by_copies before' g places row.copies)
      (pair_append AlikeAdded (added_by_puts f places row.puts) (added_by_puts g places row.puts) (added_by_stores app f places statics row.stores) (added_by_stores app g places statics' row.stores) (alike_puts row.puts) (alike_stores row.stores))
      (alike_copies row.copies)

-- the call
abbrev pub AlikeCalled : World × Value → World × Value → Type 0
AlikeCalled a b = AlikeWorld a.0 b.0 × AlikeValue a.1 b.1

module _ (app : App) (lists : Lists) (w u : World) (alike : AlikeWorld w u) (f g : Frame) (frames : AlikeFrame f g) (places : List ℕ) where
  alike_call : (row : Summary) (statics statics' : ℕ → Value) → AlikeValues statics statics' → (heap heap' : List Object) → AlikeHeap heap heap' → AlikeWorld (after_call app w f places row statics heap) (after_call app u g places row statics' heap')
  alike_call row statics statics' values heap heap' heaps = record {
    heap = alike_add_all (added app w.heap f places statics row) (added app u.heap g places statics' row) heap heap' (alike_added app w.heap u.heap alike.heap f g frames places statics statics' values row) heaps;
    statics = values;
    components = alike.components;
    handed = same_hands f g frames places w.handed u.handed alike.handed;
    arrivals = ap (λ before. before ++ arrivals_of w.heap f places row.sink) alike.arrivals ∙ ap (λ new. u.arrivals ++ new) (same_arrivals f g frames w.heap u.heap alike.heap places row.sink);
  }

  pub alike_library : (ret : Name) (row : Summary) → AlikeDrawings AlikeCalled (library_call app lists w f places ret row) (library_call app lists u g places ret row)
  unfolding library_call
  alike_library ret row =
      let one : List Object × (ℕ → Value) = with_shared app lists (shared_named row ret) w.heap w.statics in
      let other : List Object × (ℕ → Value) = with_shared app lists (shared_named row ret) u.heap u.statics in
      let shared : AlikeShared one other = alike_shared app lists (shared_named row ret) w.heap u.heap w.statics u.statics alike.heap alike.statics in
      alike_after AlikeGiven AlikeCalled (result app lists w (hand_all f places w.handed) f places row.source ret one.1 one.0 row.gives) (result app lists u (hand_all g places u.handed) g places row.source ret other.1 other.0 row.gives)
      (λ (given : List Object × Value). give (after_call app w f places row one.1 given.0, given.1)) (λ (given : List Object × Value). give (after_call app u g places row other.1 given.0, given.1))
      (alike_result app lists w u alike (hand_all f places w.handed) (hand_all g places u.handed) (same_hands f g frames places w.handed u.handed alike.handed) f g frames places row.source ret one.1 other.1 shared.1 one.0 other.0 shared.0 row.gives)
      (λ x y given. alike_give AlikeCalled (after_call app w f places row one.1 x.0, x.1) (after_call app u g places row other.1 y.0, y.1) (alike_call row one.1 other.1 shared.1 x.0 y.0 given.0, given.1))
