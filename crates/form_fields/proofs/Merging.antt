-- A loop that adds to some names those of a list that are not among them.
use Rattle.std.proofs.Common.{◌≡◌, ℕ, ◌+◌, ◌<◌, ◌≤◌, List, [], ◌∷◌, length, drop, get_or, add-one, refl, ap, sym, ◌∙◌}
use Rattle.std.proofs.lemmas.List.{drop_all}
use Rattle.std.proofs.Math.Seq.{drop-cons}
use Rattle.app_machine.specs.Names.{Name}
use Rattle.form_fields.specs.Once.{with_one, with_new}

-- of the names, the first `i` are added to `seen`, which gave `all`
pub record Merges (seen names : List Name) (i : ℕ) (all : List Name) : Type 0 where
  pub is : with_new all (drop i names) ≡ with_new seen names

pub merge_begins : (seen names : List Name) → Merges seen names 0 seen
merge_begins seen names = record { is = refl }

here : (names : List Name) (i : ℕ) (x : Name) → i < length names → x ≡ get_or names i x → drop i names ≡ x ∷ drop (i + 1) names
here names i x lt item = rw (drop-cons names i x, ← item, add-one) refl

pub merge_goes_on : (seen names : List Name) (i : ℕ) (all : List Name) (x : Name) (next : List Name) → i < length names → x ≡ get_or names i x → next ≡ with_one all x
    → Merges seen names i all → Merges seen names (i + 1) next
unfolding with_new
merge_goes_on seen names i all x next lt item one so_far =
    let step : with_new all (drop i names) ≡ with_new next (drop (i + 1) names) = rw (here names i x lt item, one) refl in
    record { is = sym step ∙ so_far.is }

pub merge_done : (seen names : List Name) (i : ℕ) (all : List Name) → length names ≤ i → Merges seen names i all → all ≡ with_new seen names
unfolding with_new
merge_done seen names i all le so_far = let k : drop i names ≡ [] = drop_all i names le in sym (ap (with_new all) k) ∙ so_far.is
