-- How many readers are listed.
use Rattle.std.proofs.Common.{◌≡◌, ℕ, ◌+◌, ◌≤◌, true, false, cond, List, [], ◌∷◌, ◌++◌, length, map, Option, Some, None, slice_get, refl, sym, ap, subst, ◌∙◌, arith}
use Rattle.std.specs.Prelude.{fold, sum_by, is_some}
use Rattle.std.specs.BTreeMap.{BTreeMap, get, is_at, insert_entry}
use Rattle.std.specs.Map.{lookup}
use Rattle.std.specs.Ordering.{is_eq, match_ordering}
use Rattle.std.specs.declared.cmp.Ordering.{Ordering}
use Rattle.std.specs.declared.cmp.Ordering.TheVariants.{Less, Equal, Greater}
use Rattle.std.specs.declared.vec.Vec.{Vec}
use Rattle.std.proofs.lemmas.List.Sums.{sum_by-cons, sum_by_push}
use Rattle.std.proofs.lemmas.Option.{none-some}
use Rattle.app_machine.specs.declared.app.App.{App}
use Rattle.register_readers.specs.declared.places.Place.{Place}
use Rattle.register_readers.specs.contracts.places.PlaceOrd.TheImpl.{ghosts as place_order}
use Rattle.register_readers.specs.Bounds.{most_of_one, most_of_all}
use Rattle.register_readers.specs.Readings.{readers_from, count_listed, AreFew}
use Rattle.register_readers.specs.Found.{held, places_of, places_of_all, count_of, count_of_all, AreIndexed}
use Rattle.register_readers.proofs.Indexing.{method_told, method_untold, told_at, told_none}

-- a sum over what is made of each, and of equal terms
sum_made : {X Y : Type 0} (f : X → Y) (g : Y → ℕ) (a : ℕ) (xs : List X) → fold (λ s y. s + g y) a (map f xs) ≡ fold (λ s x. s + g (f x)) a xs
sum_made f g a [] = refl
sum_made f g a (x ∷ xs) = sum_made f g (a + g (f x)) xs

sum_same : {X : Type 0} (f g : X → ℕ) → ((x : X) → f x ≡ g x) → (a : ℕ) (xs : List X) → fold (λ s x. s + f x) a xs ≡ fold (λ s x. s + g x) a xs
sum_same f g same a [] = refl
sum_same f g same a (x ∷ xs) = ap (λ n. fold (λ s x. s + f x) (a + n) xs) (same x) ∙ sum_same f g same (a + g x) xs

module _ {A : Type 0} where
  abbrev own_count : Place × Vec ℕ A → ℕ
  own_count e = length e.1.items

  -- a place that is new adds its readers
  inserted : (es : List (Place × Vec ℕ A)) (place : Place) (own : Vec ℕ A) → lookup (is_at (place_order.cmp place)) es ≡ None →
      sum_by own_count (insert_entry place_order.cmp es place own) ≡ sum_by own_count es + length own.items
  inserted [] place own absent = refl
  inserted (e ∷ es) place own absent = by_order (inserted es place own) (place_order.cmp place e.0) absent
    where
      by_order : (lookup (is_at (place_order.cmp place)) es ≡ None → sum_by own_count (insert_entry place_order.cmp es place own) ≡ sum_by own_count es + length own.items) →
          (o : Ordering) → cond (is_eq o) (Some e.1) (lookup (is_at (place_order.cmp place)) es) ≡ None →
          sum_by own_count (match_ordering o ((place, own) ∷ e ∷ es) ((e.0, own) ∷ es) (e ∷ insert_entry place_order.cmp es place own))
          ≡ sum_by own_count (e ∷ es) + length own.items
      by_order behind Less none = let front = sum_by-cons own_count (place, own) (e ∷ es) in omega (arith, front)
      by_order behind Equal none = absurd (none-some e.1 (sym none))
      by_order behind Greater none =
          let new = sum_by-cons own_count e (insert_entry place_order.cmp es place own) in
          let old = sum_by-cons own_count e es in
          let rest = behind none in
          omega (arith, new, old, rest)

  pub counts_new : (old new : BTreeMap Place (Vec ℕ A)) (place : Place) (own : Vec ℕ A) → new.entries ≡ insert_entry place_order.cmp old.entries place own →
      is_some (get place_order.cmp old place) ≡ false → count_of new ≡ count_of old + length own.items
  counts_new old new place own is absent = ap (sum_by own_count) is ∙ inserted old.entries place own (none_there (get place_order.cmp old place) absent)
    where
      none_there : (o : Option (Vec ℕ A)) → is_some o ≡ false → o ≡ None
      none_there None none = refl
      none_there (Some v) none = let clash : true ≡ false = none in absurd cc

  -- a method more, and all
  pub counts_more : (methods : List (BTreeMap Place (Vec ℕ A))) (found : BTreeMap Place (Vec ℕ A)) (before after : ℕ) → count_of_all methods + before ≡ most_of_all →
      count_of found + after ≡ before → count_of_all (methods ++ found ∷ []) + after ≡ most_of_all
  counts_more methods found before after so_far one =
      let more : count_of_all (methods ++ found ∷ []) ≡ count_of_all methods + count_of found = sum_by_push count_of methods found in
      let sum : count_of_all methods + (count_of found + after) ≡ most_of_all = ap (λ n. count_of_all methods + n) one ∙ so_far in
      omega (arith, more, sum)

  pub counts_end : (methods : List (BTreeMap Place (Vec ℕ A))) (left : ℕ) → count_of_all methods + left ≡ most_of_all → count_of_all methods ≤ most_of_all
  counts_end methods left is = omega (arith, is)

  -- the lists that are told are as long
  as_many : (found : BTreeMap Place (Vec ℕ A)) → count_listed (places_of found) ≡ count_of found
  as_many found = sum_made (λ (e : Place × Vec ℕ A). (e.0, e.1.items)) (λ (e : Place × List ℕ). length e.1) 0 found.entries

  as_many_of_all : (methods : List (BTreeMap Place (Vec ℕ A))) → sum_by count_listed (places_of_all methods) ≡ count_of_all methods
  as_many_of_all methods = sum_made places_of count_listed 0 methods ∙ sum_same (λ m. count_listed (places_of m)) count_of as_many 0 methods

  pub are_few : (app : App) (methods : List (BTreeMap Place (Vec ℕ A))) → AreIndexed app methods → AreFew (record { app = app; methods = places_of_all methods })
  are_few app methods indexed = record { of_one = of_one; of_all = subst (λ n. n ≤ most_of_all) (sym (as_many_of_all methods)) indexed.few }
    where
      none_listed : length {A = ℕ} [] ≤ most_of_one
      none_listed = omega arith

      of_one : (method r pc : ℕ) → length (readers_from (record { app = app; methods = places_of_all methods }) method r pc) ≤ most_of_one
      of_one method r pc = by_method (slice_get methods method) refl
        where
          by_place : (found : BTreeMap Place (Vec ℕ A)) → slice_get methods method ≡ Some found → (h : Option (Vec ℕ A)) → held found r pc ≡ h →
              length (readers_from (record { app = app; methods = places_of_all methods }) method r pc) ≤ most_of_one
          by_place found there None absent = subst (λ xs. length xs ≤ most_of_one) (sym (method_told methods method found r pc there ∙ told_none found r pc absent)) none_listed
          by_place found there (Some own) is =
              subst (λ xs. length xs ≤ most_of_one) (sym (method_told methods method found r pc there ∙ told_at found r pc own is)) ((indexed.each method found there).right.few r pc own is)

          by_method : (o : Option (BTreeMap Place (Vec ℕ A))) → slice_get methods method ≡ o → length (readers_from (record { app = app; methods = places_of_all methods }) method r pc) ≤ most_of_one
          by_method None absent = subst (λ xs. length xs ≤ most_of_one) (sym (method_untold methods method r pc absent)) none_listed
          by_method (Some found) there = by_place found there (held found r pc) refl
