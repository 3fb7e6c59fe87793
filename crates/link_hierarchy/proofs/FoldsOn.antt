-- A loop that folds a list, or a list of each of its items, into a value.
use Rattle.std.proofs.Common.{◌≡◌, ℕ, ◌+◌, ◌<◌, ◌≤◌, List, [], ◌∷◌, length, drop, get_or, refl, sym, ap, ◌∙◌}
use Rattle.std.specs.Prelude.{fold, flat_map}
use Rattle.std.proofs.lemmas.List.{drop_all}
use Rattle.std.proofs.lemmas.List.Sums.{fold-append}
use Rattle.vet_base.proofs.Lists.{drop_read}

-- the value so far, and then the items from i on, make the whole
pub record FoldsOnto {A B : Type 0} (f : B → A → B) (items : List A) (i : ℕ) (value whole : B) : Type 0 where
  pub is : fold f value (drop i items) ≡ whole

pub onto_begins : {A B : Type 0} (f : B → A → B) (items : List A) (value : B) → FoldsOnto f items 0 value (fold f value items)
onto_begins f items value = record { is = refl }

pub onto_goes_on : {A B : Type 0} (f : B → A → B) (items : List A) (i : ℕ) (x : A) (value whole : B) → i < length items → x ≡ get_or items i x → FoldsOnto f items i value whole → FoldsOnto f items (i + 1) (f value x) whole
onto_goes_on f items i x value whole lt item so_far =
    let k : drop i items ≡ x ∷ drop (i + 1) items = drop_read items i x lt item in
    record { is = ap (fold f value) (sym k) ∙ so_far.is }

pub onto_is_done : {A B : Type 0} (f : B → A → B) (items : List A) (i : ℕ) (value whole : B) → length items ≤ i → FoldsOnto f items i value whole → value ≡ whole
onto_is_done f items i value whole le so_far =
    let k : drop i items ≡ [] = drop_all i items le in
    ap (fold f value) (sym k) ∙ so_far.is

-- the value so far, and then what the items from i on give, make the whole
pub record FoldsEach {A B C : Type 0} (f : B → C → B) (give : A → List C) (items : List A) (i : ℕ) (value whole : B) : Type 0 where
  pub is : fold f value (flat_map give (drop i items)) ≡ whole

pub each_begins : {A B C : Type 0} (f : B → C → B) (give : A → List C) (items : List A) (value : B) → FoldsEach f give items 0 value (fold f value (flat_map give items))
each_begins f give items value = record { is = refl }

pub each_goes_on : {A B C : Type 0} (f : B → C → B) (give : A → List C) (items : List A) (i : ℕ) (x : A) (value whole : B) → i < length items → x ≡ get_or items i x → FoldsEach f give items i value whole → FoldsEach f give items (i + 1) (fold f value (give x)) whole
each_goes_on f give items i x value whole lt item so_far =
    let k : drop i items ≡ x ∷ drop (i + 1) items = drop_read items i x lt item in
    record { is = sym (fold-append f value (give x) (flat_map give (drop (i + 1) items))) ∙ (ap (λ (xs : List _). fold f value (flat_map give xs)) (sym k) ∙ so_far.is) }

pub each_is_done : {A B C : Type 0} (f : B → C → B) (give : A → List C) (items : List A) (i : ℕ) (value whole : B) → length items ≤ i → FoldsEach f give items i value whole → value ≡ whole
each_is_done f give items i value whole le so_far =
    let k : drop i items ≡ [] = drop_all i items le in
    ap (λ (xs : List _). fold f value (flat_map give xs)) (sym k) ∙ so_far.is
