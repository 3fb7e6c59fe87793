-- What is found of classes, in a table by their names.
use Rattle.std.proofs.Common.{◌≡◌, Bool, true, false, cond, List, [], Option, Some, None, IfSome, refl, sym, ◌∙◌, ap, subst}
use Rattle.std.specs.BTreeMap.{BTreeMap, get, is_at, Updates}
use Rattle.std.specs.Map.{lookup}
use Rattle.std.proofs.lemmas.Option.{same_Some}
use Rattle.app_machine.specs.declared.app.App.{App}
use Rattle.app_machine.specs.declared.app.Class.{Class}
use Rattle.app_machine.specs.Lookups.{class_named}
use Rattle.app_machine.specs.Names.{Name}
use Rattle.app_machine.specs.Sound.{name_order}
use Rattle.link_access.specs.Access.{Accesses}
use Rattle.vet_base.proofs.Texts.{tied_equal}
use Rattle.device_causes.specs.Hidden.{hidden_of}
use Rattle.device_causes.specs.Path.{AreTold}
use Rattle.link_listing.specs.Texts.{Triple}

module _ (app : App) (access : Accesses) where
  pub none_told : (table : BTreeMap Name (List Triple)) → table.entries ≡ [] → AreTold app access (get name_order table)
  none_told table none k own = subst (λ (o : Option (List Triple)). IfSome o (λ found. found ≡ hidden_of app access k)) (sym (nothing k)) tt
    where
      nothing : (k : Class) → get name_order table k.name ≡ None
      nothing k = ap (λ (es : List (Name × List Triple)). lookup (is_at (name_order k.name)) es) none

  pub told_more : (old new : BTreeMap Name (List Triple)) (name : Name) (found : List Triple) (k : Class) → name ≡ k.name → class_named app k.name ≡ Some k → found ≡ hidden_of app access k
      → Updates name_order old new name (Some found) → AreTold app access (get name_order old) → AreTold app access (get name_order new)
  told_more old new name found k called own is put so_far j own_j =
      subst (λ (o : Option (List Triple)). IfSome o (λ found. found ≡ hidden_of app access j)) (sym (put.0 j.name)) (by_test (is_at (name_order name) j.name) refl)
    where
      by_test : (b : Bool) → is_at (name_order name) j.name ≡ b → IfSome (cond b (Some found) (get name_order old j.name)) (λ found. found ≡ hidden_of app access j)
      by_test true at =
          let same : k.name ≡ j.name = sym called ∙ tied_equal name j.name at in
          let one : k ≡ j = same_Some k j (sym own ∙ ap (class_named app) same ∙ own_j) in
          is ∙ ap (hidden_of app access) one
      by_test false other = so_far j own_j

  pub as_told : (table : BTreeMap Name (List Triple)) (k : Class) (found : List Triple) → class_named app k.name ≡ Some k → Some found ≡ get name_order table k.name → AreTold app access (get name_order table) → found ≡ hidden_of app access k
  as_told table k found own there told =
      let P : Option (List Triple) → Type 0 = λ o. IfSome o (λ found. found ≡ hidden_of app access k) in
      subst P (sym there) (told k own)
