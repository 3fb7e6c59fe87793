-- What is kept serves later states.
use Rattle.std.proofs.Common.{◌≡◌, ℕ, zero, suc, ◌<◌, ◌≤◌, inl, inr, List, [], ◌∷◌, ◌++◌, take, length, filter_map, Option, slice_get, refl, sym, ap, subst, ◌∙◌, arith}
use Rattle.std.specs.List.{cons_option}
use Rattle.std.proofs.lemmas.List.{take-append-le, length-append}
use Rattle.vet_base.specs.Members.{In}
use Rattle.app_machine.specs.declared.app.App.{App}
use Rattle.app_machine.specs.declared.lists.Lists.{Lists}
use Rattle.app_machine.specs.Names.{Name}
use Rattle.runner_handed.specs.declared.menu.HandedMenu.{HandedMenu}
use Rattle.runner_handed.specs.Menu.{Fits, FitsFirst}
use Rattle.runner_handed.specs.Reached.{run_on, runs_on}

agree_on : {A C : Type 0} (f g : A → Option C) (xs : List A) → ((x : A) → In x xs → f x ≡ g x) → filter_map f xs ≡ filter_map g xs
agree_on f g [] alike = refl
agree_on f g (x ∷ xs) alike = ap (λ o. cons_option o (filter_map f xs)) (alike x (inl refl)) ∙ ap (cons_option (g x)) (agree_on f g xs (λ y there. alike y (inr there)))

in_front_of : {A : Type 0} (xs ys : List A) (i : ℕ) → i < length xs → slice_get (xs ++ ys) i ≡ slice_get xs i
in_front_of [] ys i within = absurd (omega (arith, within))
in_front_of (x ∷ xs) ys zero within = refl
in_front_of (x ∷ xs) ys (suc i) within = in_front_of xs ys i (omega (arith, within))

module _ (app : App) (lists : Lists) (classes new : List Name) (handed more : List ℕ) (menu : HandedMenu) where
  same_front : menu.seen ≤ length handed → take menu.seen (handed ++ more) ≡ take menu.seen handed
  same_front within = take-append-le menu.seen handed more within

  fits_first : FitsFirst app lists classes handed menu → FitsFirst app lists (classes ++ new) (handed ++ more) menu
  fits_first first = record {
    within = let long = length-append handed more in let within = first.within in omega (arith, long, within);
    rows = λ q below.
        first.rows q below
        ∙ (agree_on (λ p. run_on app lists q p (slice_get classes p)) (λ p. run_on app lists q p (slice_get (classes ++ new) p)) (take menu.seen handed) (λ p there. ap (run_on app lists q p) (sym (in_front_of classes new p (first.objects p there))))
        ∙ ap (runs_on app lists (classes ++ new) q) (sym (same_front first.within)));
    objects = λ p there.
        let long = length-append classes new in
        let here = first.objects p (subst (λ xs. In p xs) (same_front first.within) there) in
        omega (arith, long, here);
  }

  pub still_fits : Fits app lists classes handed menu → Fits app lists (classes ++ new) (handed ++ more) menu
  still_fits fits = record { long = fits.long; first = λ whole. fits_first (fits.first whole) }
