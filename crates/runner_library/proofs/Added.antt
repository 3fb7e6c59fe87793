-- What is added to objects, one after the other.
use Rattle.std.proofs.Common.{◌≡◌, ◌⊎◌, inl, inr, ℕ, zero, suc, ◌+◌, ◌<◌, ◌≤◌, List, [], ◌∷◌, ◌++◌, map, take, length, get_or, flat_map, Option, Some, None, slice_get, refl, sym, ap, ◌∙◌, arith, append_assoc}
use Rattle.std.specs.Prelude.{option_to_list}
use Rattle.std.proofs.lemmas.Grind.{flat_map-append}
use Rattle.std.proofs.lemmas.List.{append-nil, map-append, take_more, take_all}
use Rattle.vet_base.proofs.Fronts.{none_beyond}
use Rattle.app_machine.specs.declared.app.App.{App}
use Rattle.app_machine.specs.Heap.{Value, Object, add_all, put_at}
use Rattle.app_machine.specs.Lookups.{elem_key}
use Rattle.app_machine.specs.State.{shared_static, value_or_blank}
use Rattle.played_machine.specs.Librarian.{copied, element_at, elements_at}
use Rattle.played_machine.specs.Reading.{values_at}
use Rattle.runner_library.specs.declared.adding.Added.{Added}
use Rattle.runner_library.specs.Over.{added_of, placed, puts_by}
use Rattle.runner_state.specs.declared.value.Held.{Held}
use Rattle.runner_state.specs.Shown.{value_of}

flat_end : {A B : Type 0} (f : A → List B) (xs : List A) (x : A) → flat_map f (xs ++ x ∷ []) ≡ flat_map f xs ++ f x
flat_end f [] x = append-nil (f x)
flat_end f (y ∷ xs) x = ap (λ ys. f y ++ ys) (flat_end f xs x) ∙ sym (append_assoc (f y) (flat_map f xs) (f x))

take_next : {A : Type 0} (xs : List A) (i : ℕ) → take (suc i) xs ≡ take i xs ++ option_to_list (slice_get xs i)
take_next [] zero = refl
take_next [] (suc i) = refl
take_next (x ∷ xs) zero = refl
take_next (x ∷ xs) (suc i) = ap (λ ys. x ∷ ys) (take_next xs i)

take_option : {A : Type 0} (xs : List A) (i : ℕ) → take (i + 1) xs ≡ take i xs ++ option_to_list (slice_get xs i)
take_option xs i = let next : i + 1 ≡ suc i = omega arith in ap (λ n. take n xs) next ∙ take_next xs i

pub add_both : (heap : List Object) (xs ys : List (ℕ × Value)) → add_all heap (xs ++ ys) ≡ add_all (add_all heap xs) ys
add_both heap [] ys = refl
add_both heap (x ∷ xs) ys = add_both (put_at heap x.0 elem_key x.1) xs ys

-- what a put, a store and a copy add
abbrev pub put_adds : List Value → ℕ × ℕ → List (ℕ × Value)
put_adds vs put = element_at (value_or_blank vs put.1).place (value_or_blank vs put.0)

abbrev pub store_adds : App → List Value → (ℕ → Value) → ℕ × ℕ → List (ℕ × Value)
store_adds app vs statics store = element_at (statics (shared_static app store.1)).place (value_or_blank vs store.0)

abbrev pub copy_lists : List Object → List Value → ℕ × ℕ → List (ℕ × Value)
copy_lists heap vs copy = copied heap (value_or_blank vs copy.0).place (value_or_blank vs copy.1).place

-- each item adds some
module _ {A : Type 0} (adds : A → List (ℕ × Value)) (items : List A) (old : List Object) where
  abbrev pub AreAdded : List Object → ℕ → Type 0
  AreAdded new i = new ≡ add_all old (flat_map adds (take i items))

  pub one_added : (new newer : List Object) (i : ℕ) (d : A) (more : List (ℕ × Value)) → i < length items → newer ≡ add_all new more → more ≡ adds (get_or items i d) → AreAdded new i → AreAdded newer (i + 1)
  one_added new newer i d more within made is so_far =
      made
      ∙ (ap (add_all new) is
      ∙ (ap (λ heap. add_all heap (adds (get_or items i d))) so_far
      ∙ (sym (add_both old (flat_map adds (take i items)) (adds (get_or items i d)))
      ∙ ap (add_all old) (sym (flat_end adds (take i items) (get_or items i d)) ∙ ap (flat_map adds) (sym (take_more items i d within))))))

  -- of an item that may be none
  pub some_added : (new newer : List Object) (i : ℕ) → newer ≡ add_all new (flat_map adds (option_to_list (slice_get items i))) → AreAdded new i → AreAdded newer (i + 1)
  some_added new newer i made so_far =
      made
      ∙ (ap (λ heap. add_all heap (flat_map adds (option_to_list (slice_get items i)))) so_far
      ∙ (sym (add_both old (flat_map adds (take i items)) (flat_map adds (option_to_list (slice_get items i))))
      ∙ ap (add_all old) (sym (flat_map-append adds (take i items) (option_to_list (slice_get items i))) ∙ ap (flat_map adds) (sym (take_option items i)))))

  pub all_added : (new : List Object) (i : ℕ) → length items ≤ i → AreAdded new i → new ≡ add_all old (flat_map adds items)
  all_added new i past so_far = so_far ∙ ap (λ xs. add_all old (flat_map adds xs)) (take_all i items past)

  pub none_more : (new : List Object) (i : ℕ) → None ≡ slice_get items i → AreAdded new i → new ≡ add_all old (flat_map adds items)
  none_more new i none so_far = all_added new i (none_beyond items i (sym none)) so_far

-- each item lists some
module _ {A B C : Type 0} (shows : C → B) (lists : A → List B) (items : List A) where
  abbrev pub AreListed : List C → ℕ → Type 0
  AreListed new i = map shows new ≡ flat_map lists (take i items)

  pub one_listed : (new newer : List C) (i : ℕ) (d : A) (more : List B) → i < length items → map shows newer ≡ map shows new ++ more → more ≡ lists (get_or items i d) → AreListed new i → AreListed newer (i + 1)
  one_listed new newer i d more within made is so_far =
      made
      ∙ (ap (λ ys. map shows new ++ ys) is
      ∙ (ap (λ ys. ys ++ lists (get_or items i d)) so_far
      ∙ (sym (flat_end lists (take i items) (get_or items i d)) ∙ ap (flat_map lists) (sym (take_more items i d within)))))

  pub all_listed : (new : List C) (i : ℕ) → length items ≤ i → AreListed new i → map shows new ≡ flat_map lists items
  all_listed new i past so_far = so_far ∙ ap (flat_map lists) (take_all i items past)

-- the elements of one object, for another
module _ (place : ℕ) (old : List Added) where
  abbrev pub AreFor : List Held → List Added → Type 0
  AreFor elements new = map added_of new ≡ map added_of old ++ map (placed place) (map value_of elements)

  pub for_none : AreFor [] old
  for_none = sym (append-nil (map added_of old))

  pub for_more : (elements : List Held) (i : ℕ) (d : Held) (new newer : List Added) → i < length elements → newer ≡ new ++ record { place = place; value = get_or elements i d } ∷ [] → AreFor (take i elements) new → AreFor (take (i + 1) elements) newer
  for_more elements i d new newer within more so_far =
      let v : Held = get_or elements i d in
      let one : Added = record { place = place; value = v } in
      ap (map added_of) more
      ∙ (map-append added_of new (one ∷ [])
      ∙ (ap (λ xs. xs ++ (place, value_of v) ∷ []) so_far
      ∙ (append_assoc (map added_of old) (map (placed place) (map value_of (take i elements))) ((place, value_of v) ∷ [])
      ∙ ap (λ xs. map added_of old ++ xs)
      (sym (map-append (placed place) (map value_of (take i elements)) (value_of v ∷ []))
      ∙ ap (map (placed place)) (sym (map-append value_of (take i elements) (v ∷ [])) ∙ ap (map value_of) (sym (take_more elements i d within)))))))

  pub for_all : (elements : List Held) (i : ℕ) (new : List Added) → length elements ≤ i → AreFor (take i elements) new → AreFor elements new
  for_all elements i new past so_far = so_far ∙ ap (λ es. map added_of old ++ map (placed place) (map value_of es)) (take_all i elements past)

-- what a copy lists
as_for : (q : ℕ) (vs : List Value) → flat_map (element_at (Some q)) vs ≡ map (placed q) vs
as_for q [] = refl
as_for q (v ∷ vs) = ap (λ xs. (q, v) ∷ xs) (as_for q vs)

pub copied_some : (heap : List Object) (p q : ℕ) (elements : List Held) (old new : List Added) → map value_of elements ≡ values_at heap p elem_key → AreFor q old elements new → map added_of new ≡ map added_of old ++ copied heap (Some p) (Some q)
copied_some heap p q elements old new are made = made ∙ ap (λ xs. map added_of old ++ xs) (ap (map (placed q)) are ∙ sym (as_for q (values_at heap p elem_key)))

nowhere : (vs : List Value) → flat_map (element_at None) vs ≡ []
nowhere [] = refl
nowhere (v ∷ vs) = nowhere vs

pub copied_none : (heap : List Object) (from to : Option ℕ) (old : List Added) → (from ≡ None) ⊎ (to ≡ None) → map added_of old ≡ map added_of old ++ copied heap from to
copied_none heap from to old none = sym (append-nil (map added_of old)) ∙ ap (λ xs. map added_of old ++ xs) (sym (by_none none))
  where
    by_none : (from ≡ None) ⊎ (to ≡ None) → copied heap from to ≡ []
    by_none (inl e) = ap (λ o. copied heap o to) e
    by_none (inr e) = ap (λ o. flat_map (element_at o) (elements_at heap from)) e ∙ nowhere (elements_at heap from)

-- all of these are added
module _ (all : List Added) (old : List Object) where
  pub copies_more : (new newer : List Object) (i : ℕ) (d : Added) → i < length all → newer ≡ put_at new (get_or all i d).place elem_key (value_of (get_or all i d).value) → new ≡ add_all old (map added_of (take i all)) → newer ≡ add_all old (map added_of (take (i + 1) all))
  copies_more new newer i d within more so_far =
      more
      ∙ (ap (λ heap. add_all heap (added_of (get_or all i d) ∷ [])) so_far
      ∙ (sym (add_both old (map added_of (take i all)) (added_of (get_or all i d) ∷ []))
      ∙ ap (add_all old) (sym (map-append added_of (take i all) (get_or all i d ∷ [])) ∙ ap (map added_of) (sym (take_more all i d within)))))

  pub copies_all : (new : List Object) (i : ℕ) → length all ≤ i → new ≡ add_all old (map added_of (take i all)) → new ≡ add_all old (map added_of all)
  copies_all new i past so_far = so_far ∙ ap (λ xs. add_all old (map added_of xs)) (take_all i all past)

-- one put
pub put_one : (heap new : List Object) (vs : List Value) (from to : ℕ) (target value : Value) → target ≡ value_or_blank vs to → value ≡ value_or_blank vs from → new ≡ add_all heap (element_at target.place value) → new ≡ add_all heap (puts_by vs ((from, to) ∷ []))
put_one heap new vs from to target value is same made =
    made
    ∙ (ap (λ (t : Value). add_all heap (element_at t.place value)) is
    ∙ (ap (λ v. add_all heap (element_at (value_or_blank vs to).place v)) same
    ∙ ap (add_all heap) (sym (append-nil (element_at (value_or_blank vs to).place (value_or_blank vs from))))))

-- one store
pub store_one : (app : App) (vs : List Value) (statics : ℕ → Value) (number from shared : ℕ) (target value : Value) → number ≡ shared_static app shared → target ≡ statics number → value ≡ value_or_blank vs from → element_at target.place value ≡ store_adds app vs statics (from, shared)
store_one app vs statics number from shared target value at is same =
    ap (λ (t : Value). element_at t.place value) (is ∙ ap statics at) ∙ ap (element_at (statics (shared_static app shared)).place) same

-- one copy
pub copy_one : (heap : List Object) (vs : List Value) (from to : ℕ) (source target : Value) → source ≡ value_or_blank vs from → target ≡ value_or_blank vs to → copied heap source.place target.place ≡ copy_lists heap vs (from, to)
copy_one heap vs from to source target is same =
    ap (λ (v : Value). copied heap v.place target.place) is ∙ ap (λ (v : Value). copied heap (value_or_blank vs from).place v.place) same
