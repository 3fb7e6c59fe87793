-- Objects that are added to their rows.
use Rattle.std.proofs.Common.{◌≡◌, ◌⊎◌, inl, inr, ℕ, zero, suc, ◌+◌, ◌<◌, ◌≤◌, Bool, true, false, cond, List, [], ◌∷◌, ◌++◌, take, length, get_or, filter_map, Option, Some, None, option_map, slice_get, refl, sym, ap, subst, ◌∙◌, arith, append-nil, append_assoc, eq-eqb}
use Rattle.std.specs.Prelude.{option_to_list, slice_set}
use Rattle.std.specs.List.{cons_option}
use Rattle.std.specs.declared.vec.Vec.{Vec}
use Rattle.std.proofs.lemmas.Bool.{cases_eq, ne_eqb}
use Rattle.std.proofs.lemmas.List.{take_all, take_more, length_push}
use Rattle.std.proofs.lemmas.List.Elements.{filter_map-append}
use Rattle.std.proofs.lemmas.Option.{slice_get_read}
use Rattle.vet_base.specs.Members.{In}
use Rattle.vet_base.proofs.Members.{in_either}
use Rattle.app_machine.specs.declared.app.App.{App}
use Rattle.app_machine.specs.declared.lists.Lists.{Lists}
use Rattle.app_machine.specs.Names.{Name}
use Rattle.app_model.specs.EventBodies.{handed_callback}
use Rattle.event_index.specs.declared.comings.Coming.{Coming}
use Rattle.event_index.specs.Comings.{callback_run, coming_of, comings, first_comings}
use Rattle.runner_choices.proofs.Lists.{filter_map_next}
use Rattle.runner_handed.specs.declared.adding.Reached.{Reached}
use Rattle.runner_handed.specs.declared.menu.HandedMenu.{HandedMenu}
use Rattle.runner_handed.specs.Menu.{Fits, HasAll}
use Rattle.runner_handed.specs.Reached.{AddsEach, AddsOne, AreEmpty, LooksAt, if_of_row, items_of, kept_of, run_on, runs_on}

module _ {A : Type 0} where
  -- empty rows
  pub no_rows : (rows : List (Vec Reached A)) → rows ≡ [] → AreEmpty 0 rows
  no_rows rows is = record { long = ap length is; none = λ q. ap (λ (all : List (Vec Reached A)). kept_of all q) is }

  kept_push : (rows : List (Vec Reached A)) (row : Vec Reached A) → row.items ≡ [] → ((q : ℕ) → kept_of rows q ≡ []) → (q : ℕ) → kept_of (rows ++ row ∷ []) q ≡ []
  kept_push [] row is none zero = is
  kept_push [] row is none (suc q) = refl
  kept_push (x ∷ rows) row is none zero = none zero
  kept_push (x ∷ rows) row is none (suc q) = kept_push rows row is (λ k. none (suc k)) q

  pub one_row : (n : ℕ) (rows new : List (Vec Reached A)) (row : Vec Reached A) → row.items ≡ [] → new ≡ rows ++ row ∷ [] → AreEmpty n rows → AreEmpty (n + 1) new
  one_row n rows new row is more so_far = subst (λ (all : List (Vec Reached A)). AreEmpty (n + 1) all) (sym more) (record {
    long = length_push rows row ∙ ap (λ k. k + 1) so_far.long;
    none = kept_push rows row is so_far.none;
  })

  -- one row is changed
  kept_same : (rows : List (Vec Reached A)) (k : ℕ) (v : Vec Reached A) → k < length rows → kept_of (slice_set rows k v) k ≡ v.items
  kept_same [] k v within = absurd (omega (arith, within))
  kept_same (x ∷ rows) zero v within = refl
  kept_same (x ∷ rows) (suc k) v within = kept_same rows k v (omega (arith, within))

  kept_other : (rows : List (Vec Reached A)) (k : ℕ) (v : Vec Reached A) (q : ℕ) → (q ≡ k → ⊥) → kept_of (slice_set rows k v) q ≡ kept_of rows q
  kept_other [] k v q other = refl
  kept_other (x ∷ rows) zero v zero other = absurd (other refl)
  kept_other (x ∷ rows) zero v (suc q) other = refl
  kept_other (x ∷ rows) (suc k) v zero other = refl
  kept_other (x ∷ rows) (suc k) v (suc q) other = kept_other rows k v q (λ same. other (ap suc same))

  long_set : (rows : List (Vec Reached A)) (k : ℕ) (v : Vec Reached A) → length (slice_set rows k v) ≡ length rows
  long_set [] k v = refl
  long_set (x ∷ rows) zero v = refl
  long_set (x ∷ rows) (suc k) v = ap suc (long_set rows k v)

  module _ (rows : List (Vec Reached A)) (p : ℕ) (coming : Coming) where
    pub one_added : (row new : Vec Reached A) → coming.row < length rows → row ≡ get_or rows coming.row row → new.items ≡ row.items ++ record { place = p; body = coming.body } ∷ [] → AddsOne p coming rows (slice_set rows coming.row new)
    one_added row new within is more = record { long = long_set rows coming.row new; rows = λ q below. by_row q (cases_eq q coming.row) }
      where
        here : slice_get rows coming.row ≡ Some row
        here = slice_get_read rows (length rows) coming.row row refl within is

        by_row : (q : ℕ) → (q ≡ coming.row) ⊎ (q ≡ coming.row → ⊥) → kept_of (slice_set rows coming.row new) q ≡ kept_of rows q ++ option_to_list (if_of_row q p coming)
        by_row q (inl same) =
            ap (kept_of (slice_set rows coming.row new)) same
            ∙ (kept_same rows coming.row new within
            ∙ (more
            ∙ (ap (λ o. items_of o ++ record { place = p; body = coming.body } ∷ []) (sym here)
            ∙ (ap (λ k. kept_of rows k ++ record { place = p; body = coming.body } ∷ []) (sym same)
            ∙ ap (λ b. kept_of rows q ++ option_to_list (cond b (Some (record { place = p; body = coming.body })) None)) (sym (eq-eqb coming.row q (sym same)))))))
        by_row q (inr other) =
            kept_other rows coming.row new q other
            ∙ (sym (append-nil (kept_of rows q))
            ∙ ap (λ b. kept_of rows q ++ option_to_list (cond b (Some (record { place = p; body = coming.body })) None)) (sym (ne_eqb coming.row q (λ same. other (sym same)))))

    pub none_added : length rows ≤ coming.row → AddsOne p coming rows rows
    none_added past = record {
      long = refl;
      rows = λ q below. sym (append-nil (kept_of rows q)) ∙ ap (λ b. kept_of rows q ++ option_to_list (cond b (Some (record { place = p; body = coming.body })) None)) (sym (ne_eqb coming.row q (λ same. omega (arith, past, below, same))));
    }

  -- one callback after the other
  module _ (p : ℕ) (comings : List Coming) (old : List (Vec Reached A)) where
    pub none_of_them : AddsEach p (take 0 comings) old old
    none_of_them = record { long = refl; rows = λ q below. sym (append-nil (kept_of old q)) }

    pub one_of_them : (mid new : List (Vec Reached A)) (i : ℕ) (d : Coming) → i < length comings → AddsOne p (get_or comings i d) mid new → AddsEach p (take i comings) old mid → AddsEach p (take (i + 1) comings) old new
    one_of_them mid new i d within one so_far = record {
      long = one.long ∙ so_far.long;
      rows = λ q below.
          let below_mid : q < length mid = subst (λ n. q < n) (sym so_far.long) below in
          one.rows q below_mid
          ∙ (ap (λ xs. xs ++ option_to_list (if_of_row q p (get_or comings i d))) (so_far.rows q below)
          ∙ (append_assoc (kept_of old q) (filter_map (if_of_row q p) (take i comings)) (option_to_list (if_of_row q p (get_or comings i d)))
          ∙ ap (λ xs. kept_of old q ++ xs) (sym (filter_map_next (if_of_row q p) comings i d within))));
    }

    pub all_of_them : (new : List (Vec Reached A)) (i : ℕ) → length comings ≤ i → AddsEach p (take i comings) old new → AddsEach p comings old new
    all_of_them new i past so_far = subst (λ xs. AddsEach p xs old new) (take_all i comings past) so_far

-- the callbacks of a class, by row
module _ (app : App) (lists : Lists) (class : Name) (p : ℕ) where
  abbrev run : ℕ → Option ℕ
  run q = callback_run (handed_callback app lists q class)

  abbrev made : ℕ → Reached
  made body = record { place = p; body = body }

  other_row : (q n : ℕ) (o : Option ℕ) → (n ≡ q → ⊥) → filter_map (if_of_row q p) (coming_of n o) ≡ []
  other_row q n None other = refl
  other_row q n (Some body) other = ap (λ b. cons_option (cond b (Some (made body)) None) []) (ne_eqb n q other)

  own_row : (q : ℕ) (o : Option ℕ) → filter_map (if_of_row q p) (coming_of q o) ≡ option_to_list (option_map made o)
  own_row q None = refl
  own_row q (Some body) = ap (λ b. cons_option (cond b (Some (made body)) None) []) (eq-eqb q q refl)

  none_before : (q n : ℕ) → n ≤ q → filter_map (if_of_row q p) (first_comings app lists class n) ≡ []
  none_before q zero past = refl
  none_before q (suc n) past =
      filter_map-append (if_of_row q p) (first_comings app lists class n) (coming_of n (run n))
      ∙ (ap (λ xs. xs ++ filter_map (if_of_row q p) (coming_of n (run n))) (none_before q n (omega (arith, past)))
      ∙ other_row q n (run n) (λ same. omega (arith, past, same)))

  among : (q n : ℕ) → q < n → filter_map (if_of_row q p) (first_comings app lists class n) ≡ option_to_list (option_map made (run q))
  among q zero below = absurd (omega (arith, below))
  among q (suc n) below = elim (cases_eq q n) [
    | inl same ↦ filter_map-append (if_of_row q p) (first_comings app lists class n) (coming_of n (run n))
        ∙ (ap (λ xs. xs ++ filter_map (if_of_row q p) (coming_of n (run n))) (none_before q n (omega (arith, same)))
        ∙ (ap (λ k. filter_map (if_of_row q p) (coming_of k (run k))) (sym same) ∙ own_row q (run q)))
    | inr apart ↦ filter_map-append (if_of_row q p) (first_comings app lists class n) (coming_of n (run n))
        ∙ (ap (λ xs. filter_map (if_of_row q p) (first_comings app lists class n) ++ xs) (other_row q n (run n) (λ same. apart (sym same)))
        ∙ (append-nil (filter_map (if_of_row q p) (first_comings app lists class n)) ∙ among q n (omega (arith, below, apart))))
  ]

-- one more place
module _ {A : Type 0} (app : App) (lists : Lists) (classes : List Name) (p : ℕ) (old new : List (Vec Reached A)) where
  pub looked_at : (class : Name) (own : List Coming) → length old ≡ length lists.callbacks → slice_get classes p ≡ Some class → p < length classes → own ≡ comings app lists class → AddsEach p own old new → LooksAt app lists classes p old new true
  looked_at class own long is within are adds = record {
    long = adds.long;
    rows = λ q below.
        adds.rows q below
        ∙ ap (λ xs. kept_of old q ++ xs) (ap (filter_map (if_of_row q p)) are
        ∙ (among app lists class p q (length lists.callbacks) (subst (λ n. q < n) long below)
        ∙ ap (λ o. option_to_list (run_on app lists q p o)) (sym is)));
    object = λ agreed. within;
    absent = λ agreed. absurd (cc);
  }

pub none_looked_at : {A : Type 0} (app : App) (lists : Lists) (classes : List Name) (p : ℕ) (old : List (Vec Reached A)) → slice_get classes p ≡ None → LooksAt app lists classes p old old false
none_looked_at app lists classes p old is = record {
  long = refl;
  rows = λ q below. sym (append-nil (kept_of old q)) ∙ ap (λ o. kept_of old q ++ option_to_list (run_on app lists q p o)) (sym is);
  object = λ agreed. absurd (cc);
  absent = λ agreed. is;
}

-- place after place
pub record Looked {A : Type 0} (app : App) (lists : Lists) (classes : List Name) (handed : List ℕ) (rows : List (Vec Reached A)) (seen : ℕ) (whole : Bool) : Type 0 where
  pub long : length rows ≡ length lists.callbacks
  pub within : seen ≤ length handed
  pub rows_are : (q : ℕ) → q < length lists.callbacks → kept_of rows q ≡ runs_on app lists classes q (take seen handed)
  pub objects : whole ≡ true → (p : ℕ) → In p (take seen handed) → p < length classes

module _ (app : App) (lists : Lists) (classes : List Name) (handed : List ℕ) where
  pub looked_before : (menu : HandedMenu) → Fits app lists classes handed menu → menu.whole ≡ true → Looked app lists classes handed menu.rows.items menu.seen menu.whole
  looked_before menu fits whole = record {
    long = fits.long;
    within = (fits.first whole).within;
    rows_are = (fits.first whole).rows;
    objects = λ agreed. (fits.first whole).objects;
  }

  pub looked_further : {A : Type 0} (rows new : List (Vec Reached A)) (seen d : ℕ) (whole is_object now : Bool) → seen < length handed → LooksAt app lists classes (get_or handed seen d) rows new is_object →
      (now ≡ true → whole ≡ true) → (now ≡ true → is_object ≡ true) → Looked app lists classes handed rows seen whole → Looked app lists classes handed new (seen + 1) now
  looked_further rows new seen d whole is_object now within looks one other so_far = record {
    long = looks.long ∙ so_far.long;
    within = omega (arith, within);
    rows_are = λ q below.
        looks.rows q (subst (λ n. q < n) (sym so_far.long) below)
        ∙ (ap (λ xs. xs ++ option_to_list (run_on app lists q (get_or handed seen d) (slice_get classes (get_or handed seen d)))) (so_far.rows_are q below)
        ∙ sym (filter_map_next (λ p. run_on app lists q p (slice_get classes p)) handed seen d within));
    objects = λ agreed p there. by_place agreed p (in_either p (take seen handed) (get_or handed seen d ∷ []) (subst (λ xs. In p xs) (take_more handed seen d within) there));
  }
    where
      by_place : now ≡ true → (p : ℕ) → In p (take seen handed) ⊎ In p (get_or handed seen d ∷ []) → p < length classes
      by_place agreed p (inl before) = so_far.objects (one agreed) p before
      by_place agreed p (inr (inl same)) = subst (λ k. k < length classes) (sym same) (looks.object (other agreed))
      by_place agreed p (inr (inr no_one)) = absurd no_one

  pub fits_then : (menu : HandedMenu) → Looked app lists classes handed menu.rows.items menu.seen menu.whole → Fits app lists classes handed menu
  fits_then menu looked = record {
    long = looked.long;
    first = λ whole. record { within = looked.within; rows = looked.rows_are; objects = looked.objects whole };
  }

  pub has_all : (menu : HandedMenu) → length handed ≤ menu.seen → Looked app lists classes handed menu.rows.items menu.seen menu.whole → HasAll app lists classes handed menu
  has_all menu past looked = record {
    long = looked.long;
    rows = λ q below. looked.rows_are q below ∙ ap (runs_on app lists classes q) (take_all menu.seen handed past);
  }

  pub fits_new : (menu : HandedMenu) (count : ℕ) → AreEmpty count menu.rows.items → menu.seen ≡ 0 → count ≡ length lists.callbacks → Fits app lists classes handed menu
  fits_new menu count empty none is = record {
    long = empty.long ∙ is;
    first = λ whole. record {
      within = omega (arith, none);
      rows = λ q below. empty.none q ∙ ap (λ n. runs_on app lists classes q (take n handed)) (sym none);
      objects = λ p there. absurd (subst (λ n. In p (take n handed)) none there);
    };
  }
