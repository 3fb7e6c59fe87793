-- Rows that tell nothing by themselves add nothing to causes and findings.
use Rattle.std.proofs.Common.{◌≡◌, ◌++◌, ℕ, Bool, List, [], ◌∷◌, filter, filter_map, map, Option, Some, None, refl, sym, ap, subst, ◌∙◌}
use Rattle.app_machine.specs.declared.app.App.{App}
use Rattle.app_machine.specs.declared.lists.Lists.{Lists}
use Rattle.app_machine.specs.declared.papers.Declaration.{Declaration}
use Rattle.app_machine.specs.Safe.{no_summary, native, reflective}
use Rattle.app_flow.specs.InOrder.{tells}
use Rattle.fact_rows.specs.declared.row.Row.{Row}
use Rattle.fact_rows.specs.declared.row.Row.TheVariants.{Arrive, Unknown}
use Rattle.outcomes.specs.Ascending.{ascending}
use Rattle.outcomes.specs.declared.outcome.Cause.{Cause}
use Rattle.outcomes.specs.Causes.{causes_of, layout_classes, natives, no_summaries, place_of, providers, reflectives, unknown_places}
use Rattle.outcomes.specs.Findings.{arrival_of, arrivals_in, findings_of}
use Rattle.outcomes.specs.Within.{AreWithin}
use Rattle.vet_base.specs.Members.{In}
use Rattle.vet_base.proofs.Every.{from_filter}
use Rattle.flow_telling.specs.declared.told.Told.{Told}
use Rattle.flow_telling.specs.Told.{told_of}

same_places : (app : App) (cause : ℕ) (rows : List Row) → unknown_places app cause (filter tells rows) ≡ unknown_places app cause rows
unfolding unknown_places
same_places app cause [] = refl
same_places app cause (Unknown n other ∷ rows) = rw (same_places app cause rows) refl
same_places app cause (Arrive label sink n ∷ rows) = same_places app cause rows
same_places app cause (_ ∷ rows) = same_places app cause rows

same_arrivals : (rows : List Row) → arrivals_in (filter tells rows) ≡ arrivals_in rows
unfolding arrivals_in
same_arrivals [] = refl
same_arrivals (Unknown n other ∷ rows) = same_arrivals rows
same_arrivals (Arrive label sink n ∷ rows) = rw (same_arrivals rows) refl
same_arrivals (_ ∷ rows) = same_arrivals rows

same_causes : (app : App) (rows : List Row) → causes_of app (filter tells rows) ≡ causes_of app rows
unfolding causes_of no_summaries natives reflectives
same_causes app rows = rw (same_places app no_summary rows, same_places app native rows, same_places app reflective rows) refl

pub same_findings : (app : App) (lists : Lists) (declaration : Declaration) (rows : List Row) → findings_of app lists declaration (filter tells rows) ≡ findings_of app lists declaration rows
unfolding findings_of
same_findings app lists declaration rows = rw (same_arrivals rows) refl

pub told_by_telling : (app : App) (lists : Lists) (declaration : Declaration) (beside : List Cause) (rows telling : List Row) (t : Told) → telling ≡ filter tells rows →
    t ≡ told_of app lists declaration beside telling → t ≡ told_of app lists declaration beside rows
told_by_telling app lists declaration beside rows telling t is told =
    told
    ∙ ap (told_of app lists declaration beside) is
    ∙ (λ i. record { causes = same_causes app rows i ++ beside; findings = same_findings app lists declaration rows i })

pub telling_within : (app : App) (rows telling : List Row) → telling ≡ filter tells rows → AreWithin app rows → AreWithin app telling
telling_within app rows telling is within = subst (AreWithin app) (sym is) (λ row at. within row (from_filter tells row rows at).1)
