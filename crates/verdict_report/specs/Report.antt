-- The text that says an outcome. Each line ends with a line feed.
use Rattle.std.specs.Prelude.{ℕ, List, ◌++◌, length, codes}
use Rattle.std.specs.List.{flat_map}
use Rattle.outcomes.specs.declared.outcome.Cause.{Cause}
use Rattle.outcomes.specs.declared.outcome.Cause.TheVariants.{NoSummary, Native, Reflective, Provider, LayoutClass, TooLarge, Hidden, InterfaceCode, PlatformClass, UnlistedClass, LibraryStatic, Click, NamedClass}
use Rattle.outcomes.specs.declared.outcome.Finding.{Finding}
use Rattle.verdict.specs.declared.outcome.Outcome.{Outcome}
use Rattle.verdict.specs.declared.outcome.Outcome.TheVariants.{Clear, Flagged, Undecided, Refused}
use Rattle.verdict.specs.declared.outcome.Part.{Part}
use Rattle.verdict.specs.declared.outcome.Reason.{Reason}
use Rattle.verdict_report.specs.Printed.{finding_line, place_line, class_line, method_line, counted_line}
use Rattle.verdict_report.specs.Reasons.{part_name, reason_text}

unfoldable pub cause_line : Cause → List ℕ
cause_line (NoSummary place) = place_line (codes "no summary: ") place
cause_line (Native place) = place_line (codes "native: ") place
cause_line (Reflective place) = place_line (codes "reflective: ") place
cause_line (Provider class) = class_line (codes "provider: ") class
cause_line (LayoutClass class) = class_line (codes "layout class: ") class
cause_line (TooLarge limit) = counted_line (codes "too large: ") limit
cause_line (Hidden method) = method_line (codes "hidden: ") method
cause_line (InterfaceCode method) = method_line (codes "interface code: ") method
cause_line (PlatformClass class) = class_line (codes "platform class: ") class
cause_line (UnlistedClass class) = class_line (codes "unlisted class: ") class
cause_line (LibraryStatic place) = place_line (codes "library static: ") place
cause_line (Click method) = method_line (codes "click: ") method
cause_line (NamedClass class) = class_line (codes "named class: ") class

unfoldable pub cause_lines : List Cause → List ℕ
cause_lines causes = flat_map cause_line causes

unfoldable pub finding_lines : List Finding → List ℕ
finding_lines findings = flat_map finding_line findings

unfoldable pub clear_text : List ℕ
clear_text = codes "clear\n"

-- a line with the number of findings, and a line for each
unfoldable pub flagged_text : List Finding → List ℕ
flagged_text findings = counted_line (codes "flagged ") (length findings) ++ finding_lines findings

-- a line with the number of causes alone, a line for each, and the findings
unfoldable pub undecided_text : List Cause → List Finding → List ℕ
undecided_text causes findings = counted_line (codes "undecided ") (length causes) ++ cause_lines causes ++ finding_lines findings

unfoldable pub refused_text : Part → Reason → List ℕ
refused_text part reason = codes "refused " ++ part_name part ++ codes ": " ++ reason_text reason ++ codes "\n"

abbrev pub report_text : Outcome → List ℕ
report_text Clear = clear_text
report_text (Flagged findings) = flagged_text findings
report_text (Undecided causes findings) = undecided_text causes findings
report_text (Refused part reason) = refused_text part reason
