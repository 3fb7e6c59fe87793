-- Findings and causes compute.
use Rattle.std.proofs.Common.{List, [], ◌∷◌, refl, lit<}
use Rattle.std.specs.List.{AllByRecursion}
use Rattle.vet_base.proofs.Members.{each_in}
use Rattle.fact_rows.specs.declared.row.Row.{Row}
use Rattle.outcomes.specs.Within.{AreWithin, IsWithin}
use Rattle.outcomes.specs.Ascending.{ascending}
use Rattle.outcomes.specs.Causes.{causes_of, is_app_class, layout_classes, natives, no_summaries, providers, reflectives, unknown_places}
use Rattle.outcomes.specs.Findings.{arrivals_in, category, declares, finding_order, findings_of, names_pair}
use Rattle.outcomes.specs.Places.{place_in, place_order}
use Rattle.app_machine.specs.Names.{descriptor_of}
use Rattle.answer_witness.specs.Office.{office, office_with, office_lists}
use Rattle.answer_witness.specs.OutcomeFacts.{OutcomesAreTold, arrives, is_native, without_row}
use Rattle.answer_witness.proofs.Sound.{sound_office}

-- each row names the one method
abbrev rows : List Row
rows = arrives 0 1 ∷ arrives 0 2 ∷ arrives 1 2 ∷ without_row ∷ is_native ∷ []

of_method : AllByRecursion (IsWithin office) rows
unfolding office_with
of_method = (lit< tt, (lit< tt, (lit< tt, (lit< tt, (lit< tt, tt)))))

within : AreWithin office rows
within row h = each_in (IsWithin office) rows row of_method h

pub outcomes_are_told : OutcomesAreTold
unfolding office_with office_lists ascending causes_of is_app_class layout_classes natives no_summaries providers reflectives unknown_places arrivals_in category declares finding_order findings_of names_pair place_in place_order descriptor_of
outcomes_are_told = record { sound = sound_office; within = within; declared = refl; undeclared = refl; in_order = refl; causes = refl }
