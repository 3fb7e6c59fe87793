-- Of the first set of an app the kept rules are those that the second has as they stand.
use Rattle.cell_rules.specs.KeptRules.{kept}
use Rattle.kept_rules.specs.OfApp.{IsTheAppsKept}

pub is_the_apps_kept : IsTheAppsKept
is_the_apps_kept app lists rule premises row = (
  λ h. kept h.by h.is h.other,
  λ k. elim k [ kept by is other ↦ record { by = by; is = is; other = other } ],
)
