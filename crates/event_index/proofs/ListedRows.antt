-- The rows of the classes of the lists, one behind the other, and by their names.
use Rattle.std.proofs.Common.{◌≡◌, ℕ, ◌+◌, ◌<◌, ◌≤◌, Bool, true, false, ◌||◌, List, [], ◌∷◌, ◌++◌, length, get_or, Option, Some, None, option_map, slice_get, refl, sym, ap, subst, ◌∙◌, ◌⊎◌, inl, inr, arith}
use Rattle.std.specs.HashMap.{get}
use Rattle.std.proofs.lemmas.Bool.{cases_eq}
use Rattle.std.proofs.lemmas.List.{length-append}
use Rattle.std.proofs.lemmas.Option.{slice_get_read, slice_get_within}
use Rattle.vet_base.specs.Members.{first_index}
use Rattle.vet_base.proofs.Lists.{slice_get-append, slice_get_push}
use Rattle.vet_base.proofs.Firsts.{index_found}
use Rattle.vet_base.proofs.Members.{found_passes}
use Rattle.vet_base.proofs.Texts.{same_equal}
use Rattle.app_machine.specs.declared.lists.LibClass.{LibClass}
use Rattle.app_machine.specs.declared.lists.Lists.{Lists}
use Rattle.app_machine.specs.Names.{Name, same_name}
use Rattle.app_machine.specs.Summaries.{listed_class, listed_above}
use Rattle.app_model.specs.Above.{is_among, is_listed_below}
use Rattle.app_index.proofs.ClassKeys.{at_number, find_at}
use Rattle.event_index.specs.contracts.keys.NameKeyPartialEq.TheImpl.{ghosts as key_eq}
use Rattle.event_index.specs.declared.keys.NameKey.{NameKey}
use Rattle.event_index.specs.declared.kinds.Kinds.{Kinds}
use Rattle.event_index.specs.declared.listed.Listed.{Listed}
use Rattle.event_index.specs.Kinds.{Adds, HasKinds}
use Rattle.event_index.specs.Listed.{HasRows, IsClassAt, IsListed, IsRowOf, is_named, listed_test}
use Rattle.event_index.proofs.Pushed.{read_there}
use Rattle.event_index.proofs.Rows.{adds_as, has_as}

-- the rows of the first so many classes
pub record RowsUpTo (kinds : Kinds) (classes : List LibClass) (rows : List (List ℕ)) (i : ℕ) : Type 0 where
  pub long : length rows ≡ i
  pub at : (j : ℕ) (c : LibClass) → j < i → slice_get classes j ≡ Some c → IsRowOf kinds c (slice_get rows j)

module _ (kinds : Kinds) (classes : List LibClass) where
  pub no_rows : RowsUpTo kinds classes [] 0
  no_rows = record { long = refl; at = λ j c below there. absurd (omega arith) }

  stays : (rows : List (List ℕ)) (row : List ℕ) (j : ℕ) (c : LibClass) (o : Option (List ℕ)) → slice_get rows j ≡ o → IsRowOf kinds c o → IsRowOf kinds c (slice_get (rows ++ row ∷ []) j)
  stays rows row j c None e is = absurd is
  stays rows row j c (Some own) e is = subst (IsRowOf kinds c) (sym (slice_get-append rows (row ∷ []) j own e)) is

  pub one_more_row : (rows : List (List ℕ)) (row : List ℕ) (i : ℕ) (class : LibClass) → i < length classes → class ≡ get_or classes i class → HasKinds kinds row (listed_test class) →
      RowsUpTo kinds classes rows i → RowsUpTo kinds classes (rows ++ row ∷ []) (i + 1)
  one_more_row rows row i class within is has so_far = record {
    long = length-append rows (row ∷ []) ∙ let long = so_far.long in omega arith;
    at = λ j c below there. by_place j c below there (last_or_before j below);
  }
    where
      last_or_before : (j : ℕ) → j < i + 1 → (j ≡ i) ⊎ (j < i)
      last_or_before j below = elim (cases_eq j i) [ inl same ↦ inl same | inr apart ↦ inr (omega (arith, apart)) ]

      by_place : (j : ℕ) (c : LibClass) → j < i + 1 → slice_get classes j ≡ Some c → (j ≡ i) ⊎ (j < i) → IsRowOf kinds c (slice_get (rows ++ row ∷ []) j)
      by_place j c below there (inr before) = stays rows row j c (slice_get rows j) refl (so_far.at j c before there)
      by_place j c below there (inl last) =
          let here : slice_get classes i ≡ Some c = ap (slice_get classes) (sym last) ∙ there in
          let same : class ≡ c = read_there classes i class c within is here in
          let place : length rows ≡ j = so_far.long ∙ sym last in
          subst (IsRowOf kinds c) (sym (ap (slice_get (rows ++ row ∷ [])) (sym place) ∙ slice_get_push rows row)) (subst (λ d. HasKinds kinds row (listed_test d)) same has)

  pub all_rows : (rows : List (List ℕ)) (i : ℕ) → length classes ≤ i → RowsUpTo kinds classes rows i → HasRows kinds classes rows
  all_rows rows i past so_far = record {
    at = λ j c there. so_far.at j c (let within : j < length classes = slice_get_within classes j c there in omega arith) there;
  }

module _ (listed : Listed) (is : IsListed listed) (key : NameKey) where
  abbrev classes : List LibClass
  classes = listed.lists.now.classes

  -- the listed class of the key's name is that at its number
  class_at : listed_class listed.lists.now key.name.now ≡ at_number classes (get key_eq.eq listed.numbers key)
  unfolding listed_class
  class_at = find_at (is_named key) classes ∙ ap (at_number classes) (sym (is.numbers.at key))

  pub no_class : get key_eq.eq listed.numbers key ≡ None → listed_class listed.lists.now key.name.now ≡ None
  no_class none = class_at ∙ ap (at_number classes) none

  pub class_found : (number : ℕ) → get key_eq.eq listed.numbers key ≡ Some number → IsClassAt listed key.name.now number
  class_found number has =
      let found = index_found (is_named key) classes number (sym (is.numbers.at key) ∙ has) in
      record { class = found.0; is = class_at ∙ (ap (at_number classes) has ∙ found.1); there = found.1 }

module _ (listed : Listed) (is : IsListed listed) (name : Name) where
  as_listed : (c : LibClass) → listed_class listed.lists.now name ≡ Some c → (type : Name) → listed_test c type ≡ is_listed_below listed.lists.now name type
  unfolding is_listed_below listed_above listed_class
  as_listed c there type =
      let named : c.name ≡ name = same_equal c.name name (found_passes (λ (d : LibClass). same_name d.name name) listed.lists.now.classes c there) in
      ap (λ n. same_name n type || is_among c.above type) named
      ∙ ap (λ (o : Option LibClass). same_name name type || is_among (elim o as (λ (o : Option LibClass). List Name) [ None ↦ [] | Some d ↦ d.above ]) type) (sym there)

  -- at the number of the name stands a row, which has just what the lists have above the name
  pub row_within : (number : ℕ) → IsClassAt listed name number → number < length listed.rows.items
  row_within number own = by_row (slice_get listed.rows.items number) refl (is.rows.at number own.class own.there)
    where
      by_row : (o : Option (List ℕ)) → slice_get listed.rows.items number ≡ o → IsRowOf listed.kinds own.class o → number < length listed.rows.items
      by_row None e never = absurd never
      by_row (Some row) e has = slice_get_within listed.rows.items number row e

  read_row : (number : ℕ) (row : List ℕ) → IsClassAt listed name number → slice_get listed.rows.items number ≡ Some row → HasKinds listed.kinds row (is_listed_below listed.lists.now name)
  read_row number row own there =
      has_as listed.kinds (listed_test own.class) (is_listed_below listed.lists.now name) row (λ q k given. as_listed own.class own.is q.name.now)
      (subst (IsRowOf listed.kinds own.class) there (is.rows.at number own.class own.there))

  pub row_is : (number : ℕ) (row : List ℕ) → IsClassAt listed name number → row ≡ get_or listed.rows.items number row → HasKinds listed.kinds row (is_listed_below listed.lists.now name)
  row_is number row own is_row = read_row number row own (slice_get_read listed.rows.items (length listed.rows.items) number row refl (row_within number own) is_row)

-- a name that the lists do not have
pub adds_itself : (listed : Listed) (name : Name) (old new : List ℕ) → listed_class listed.lists.now name ≡ None → Adds listed.kinds old new (same_name name) → Adds listed.kinds old new (is_listed_below listed.lists.now name)
unfolding is_listed_below listed_above is_among
adds_itself listed name old new none adds =
    adds_as listed.kinds (same_name name) (is_listed_below listed.lists.now name) old new
    (λ q k has. or_false (same_name name q.name.now) ∙ ap (λ (o : Option LibClass). same_name name q.name.now || is_among (elim o as (λ (o : Option LibClass). List Name) [ None ↦ [] | Some d ↦ d.above ]) q.name.now) (sym none))
    adds
  where
    or_false : (a : Bool) → a ≡ (a || false)
    or_false true = refl
    or_false false = refl
