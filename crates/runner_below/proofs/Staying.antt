-- What is kept stays true while objects and handed places are added.
use Rattle.std.proofs.Common.{◌≡◌, ◌+◌, ◌<◌, ℕ, List, ◌++◌, length, take, sym, ap, ◌∙◌, subst, length-append, arith}
use Rattle.std.proofs.lemmas.List.{take-append-le}
use Rattle.vet_base.specs.Members.{In}
use Rattle.vet_base.proofs.Members.{all_in, all_from_in}
use Rattle.app_machine.specs.declared.app.App.{App}
use Rattle.app_machine.specs.declared.lists.Lists.{Lists}
use Rattle.app_machine.specs.Names.{Name}
use Rattle.played_growth.specs.Growth.{Extends}
use Rattle.runner_below.specs.declared.below.Below.{Below}
use Rattle.runner_below.specs.declared.belows.Belows.{Belows}
use Rattle.runner_below.specs.Below.{AreOfFirst, below_among}
use Rattle.runner_below.specs.Kept.{AreBelow, IsBelow}
use Rattle.runner_below.proofs.Looked.{rest_begins}

module _ (app : App) (lists : Lists) (kind : Name) (seen : ℕ) (places : List ℕ) where
  stays_behind : (classes fresh : List Name) (handed further : List ℕ) → AreOfFirst app lists classes handed kind seen places → AreOfFirst app lists (classes ++ fresh) (handed ++ further) kind seen places
  stays_behind classes fresh handed further are =
      let same : take seen (handed ++ further) ≡ take seen handed = take-append-le seen handed further are.within in
      record {
        within = (let long : length (handed ++ further) ≡ length handed + length further = length-append handed further in omega (arith, long, are.within));
        objects = λ p h. (let long : length (classes ++ fresh) ≡ length classes + length fresh = length-append classes fresh in let old : p < length classes = are.objects p (subst (In p) same h) in omega (arith, long, old));
        below = rest_begins app lists kind classes fresh handed seen places are ∙ ap (λ ps. below_among app lists (classes ++ fresh) ps kind) (sym same);
      }

  pub stays_first : (classes more : List Name) (handed further : List ℕ) → Extends classes more → Extends handed further → AreOfFirst app lists classes handed kind seen places → AreOfFirst app lists more further kind seen places
  stays_first classes more handed further objects new are =
      subst (λ cs. AreOfFirst app lists cs further kind seen places) (sym objects.1)
      (subst (λ ps. AreOfFirst app lists (classes ++ objects.0) ps kind seen places) (sym new.1) (stays_behind classes objects.0 handed new.0 are))

pub stay : (app : App) (lists : Lists) (classes more : List Name) (handed further : List ℕ) (belows : Belows) → Extends classes more → Extends handed further → AreBelow app lists classes handed belows → AreBelow app lists more further belows
stay app lists classes more handed further belows objects new are =
    all_from_in (IsBelow app lists more further) belows.all.items
    (λ (b : Below) h. stays_first app lists b.kind.now b.seen (take b.kept b.places.items) classes more handed further objects new (all_in (IsBelow app lists classes handed) belows.all.items b are h))
