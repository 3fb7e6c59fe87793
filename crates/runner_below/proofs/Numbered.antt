-- Types by number, and what is kept of them.
use Rattle.std.proofs.Common.{◌≡◌, ◌<◌, ◌⊎◌, ℕ, zero, suc, List, [], ◌∷◌, ◌++◌, length, Some, slice_get, refl, sym, ap, ◌∙◌, subst, inl, inr, arith}
use Rattle.std.specs.Prelude.{slice_set}
use Rattle.std.specs.List.{All}
use Rattle.std.proofs.lemmas.List.Elements.{All-set}
use Rattle.std.proofs.lemmas.Option.{same_Some, slice_get_within}
use Rattle.vet_base.specs.Members.{In}
use Rattle.vet_base.proofs.Lists.{All-slice_get, slice_get_push}
use Rattle.vet_base.proofs.Members.{all_in, all_from_in, in_either}
use Rattle.app_machine.specs.declared.app.App.{App}
use Rattle.app_machine.specs.declared.lists.Lists.{Lists}
use Rattle.app_machine.specs.Names.{Name}
use Rattle.runner_below.specs.declared.below.Below.{Below}
use Rattle.runner_below.specs.declared.belows.Belows.{Belows}
use Rattle.runner_below.specs.Kept.{HasKind, IsBelow, places_of}

-- what was set is there
pub set_there : (xs : List Below) (n : ℕ) (b : Below) → n < length xs → slice_get (slice_set xs n b) n ≡ Some b
set_there [] n b within = absurd (omega (arith, within))
set_there (x ∷ xs) zero b within = refl
set_there (x ∷ xs) (suc n) b within = set_there xs n b (omega (arith, within))

module _ (app : App) (lists : Lists) (classes : List Name) (handed : List ℕ) where
  abbrev Fits : List Below → Type 0
  Fits all = All (IsBelow app lists classes handed) all

  pub none_kept : (all : List Below) → all ≡ [] → Fits all
  none_kept all none = subst Fits (sym none) (all_from_in (IsBelow app lists classes handed) [] (λ b h. absurd h))

  pub one_kept : (all new : List Below) (b : Below) → new ≡ all ++ b ∷ [] → IsBelow app lists classes handed b → Fits all → Fits new
  one_kept all new b more is are = subst Fits (sym more) (all_from_in (IsBelow app lists classes handed) (all ++ b ∷ []) (λ d h. by_part d (in_either d all (b ∷ []) h)))
    where
      by_part : (d : Below) → In d all ⊎ In d (b ∷ []) → IsBelow app lists classes handed d
      by_part d (inl old) = all_in (IsBelow app lists classes handed) all d are old
      by_part d (inr (inl same)) = subst (IsBelow app lists classes handed) (sym same) is
      by_part d (inr (inr none)) = absurd none

  pub kept_at : (all : List Below) (n : ℕ) (b : Below) → Fits all → slice_get all n ≡ Some b → IsBelow app lists classes handed b
  kept_at all n b are is = All-slice_get (IsBelow app lists classes handed) all n b are is

  pub set_kept : (all : List Below) (n : ℕ) (b : Below) → IsBelow app lists classes handed b → Fits all → Fits (slice_set all n b)
  set_kept all n b is are = All-set (IsBelow app lists classes handed) all n b is are

-- the number of a type that is new
pub one_numbered : (belows : Belows) (all : List Below) (b : Below) (n : ℕ) (kind : Name) → n ≡ length all → belows.all.items ≡ all ++ b ∷ [] → b.kind.now ≡ kind → HasKind belows kind n
one_numbered belows all b n kind last more is = record {
  below = b;
  there = ap (λ xs. slice_get xs n) more ∙ (ap (slice_get (all ++ b ∷ [])) last ∙ slice_get_push all b);
  is_kind = is;
}

-- the entry of a number
pub kind_at : (belows : Belows) (kind : Name) (n : ℕ) (b : Below) → HasKind belows kind n → slice_get belows.all.items n ≡ Some b → b.kind.now ≡ kind
kind_at belows kind n b has is = ap (λ (d : Below). d.kind.now) (same_Some b has.below (sym is ∙ has.there)) ∙ has.is_kind

pub number_within : (belows : Belows) (kind : Name) (n : ℕ) → HasKind belows kind n → n < length belows.all.items
number_within belows kind n has = slice_get_within belows.all.items n has.below has.there

pub places_set : (all : List Below) (n : ℕ) (b : Below) → n < length all → places_of (slice_get (slice_set all n b) n) ≡ b.places.items
places_set all n b within = ap places_of (set_there all n b within)
