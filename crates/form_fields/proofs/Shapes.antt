-- A search for an item that does not have the shape, and the items of an array by their place.
use Rattle.std.proofs.Common.{◌≡◌, ℕ, ◌+◌, ◌<◌, ◌≤◌, Bool, true, false, List, length, get_or, take, map, ap, sym, ◌∙◌, refl, Option, option_map, Bor, slice_get, option_copied}
use Rattle.std.proofs.lemmas.List.{take_all}
use Rattle.std.proofs.lemmas.List.Folds.{list_all-map, list_all_at, list_all_more}
use Rattle.std.specs.List.{list_all}
use Rattle.toml.specs.View.{view}
use Rattle.toml.specs.declared.value.Value.{Value}
use Rattle.toml.proofs.Views.{view_of_ref}
use Rattle.form_fields.specs.declared.shape.Shape.{Shape}
use Rattle.form_fields.specs.Shape.{has_shape, all_have, is_number, is_text, are_numbers, are_texts}
use Rattle.std.proofs.lemmas.Option.{slice_get-map}

abbrev pub sees : Shape → Value → Bool
sees s v = has_shape s (view v)

-- the first items have the shape
pub record Sees (s : Shape) (vs : List Value) (i : ℕ) : Type 0 where
  pub all : list_all (sees s) (take i vs) ≡ true

pub sees_none : (s : Shape) (vs : List Value) → Sees s vs 0
sees_none s vs = record { all = refl }

pub one_fails : (s : Shape) (vs : List Value) (i : ℕ) (v : Value) (b : Bool) → i < length vs → v ≡ get_or vs i v → b ≡ has_shape s (view v) → b ≡ false → false ≡ all_have s (map view vs)
unfolding all_have
one_fails s vs i v b lt item is none = sym (list_all-map (has_shape s) view vs ∙ list_all_at (sees s) vs i v lt (ap (sees s) (sym item) ∙ sym is ∙ none))

pub one_more : (s : Shape) (vs : List Value) (i : ℕ) (v : Value) (b : Bool) → i < length vs → v ≡ get_or vs i v → b ≡ has_shape s (view v) → b ≡ true → Sees s vs i → Sees s vs (i + 1)
one_more s vs i v b lt item is one before =
    let here : sees s (get_or vs i v) ≡ true = ap (sees s) (sym item) ∙ sym is ∙ one in
    let earlier : list_all (sees s) (take i vs) ≡ true = before.all in
    record { all = list_all_more (sees s) vs i v lt ∙ rw (earlier, here) refl }

pub all_do : (s : Shape) (vs : List Value) (i : ℕ) → length vs ≤ i → Sees s vs i → true ≡ all_have s (map view vs)
unfolding all_have
all_do s vs i le all = sym (list_all-map (has_shape s) view vs ∙ ap (list_all (sees s)) (sym (take_all i vs le)) ∙ all.all)

pub item_seen : (r : Option (Bor Value)) (vs : List Value) (i : ℕ) → option_copied r ≡ slice_get vs i → option_map (λ v. view v.now) r ≡ slice_get (map view vs) i
item_seen r vs i e = view_of_ref r ∙ ap (option_map view) e ∙ sym (slice_get-map view vs i)

-- a test of each item, through the view
pub numbers_seen : (b : Bool) (vs : List Value) → b ≡ list_all (λ v. is_number (view v)) vs → b ≡ are_numbers (map view vs)
unfolding are_numbers
numbers_seen b vs e = e ∙ sym (list_all-map (λ d. is_number d) view vs)

pub texts_seen : (b : Bool) (vs : List Value) → b ≡ list_all (λ v. is_text (view v)) vs → b ≡ are_texts (map view vs)
unfolding are_texts
texts_seen b vs e = e ∙ sym (list_all-map (λ d. is_text d) view vs)
