-- A keeper that tells nothing takes each change, and tells nothing afterwards.
use Rattle.std.proofs.Common.{◌≡◌, List, Option, Some, None, Result, Ok, Err, refl, sym, ◌∙◌, subst}
use Rattle.std.proofs.lemmas.Option.{none-some}
use Rattle.case_keeper.specs.declared.keeper.KeepFault.{KeepFault}
use Rattle.case_keeper.specs.Keeper.{told_after}
use Rattle.case_rules.specs.declared.case.Case.{Case}
use Rattle.case_rules.specs.declared.reply.Change.{Change}
use Rattle.case_rules.specs.Docket.{Fits}

pub none_fits : (change : Change) (told : Option (List Case)) → told ≡ None → (cases : List Case) → told ≡ Some cases → Fits change cases
none_fits change told none cases some = absurd (none-some cases (sym none ∙ some))

pub none_after : (change : Change) (old now : Option (List Case)) (r : Result (Unit {0}) KeepFault) → old ≡ None → now ≡ told_after change old r → now ≡ None
none_after change old now r none is = is ∙ subst (λ o. told_after change o r ≡ None) (sym none) (by_result r)
  where
    by_result : (r : Result (Unit {0}) KeepFault) → told_after change None r ≡ None
    by_result (Ok x) = refl
    by_result (Err fault) = refl
