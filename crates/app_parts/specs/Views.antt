-- What a row or a default says of a call, part by part.
use Rattle.std.specs.Prelude.{◌==◌, ℕ, Bool, false, List}
use Rattle.std.specs.List.{list_any}
use Rattle.app_machine.specs.declared.call.MethodRef.{MethodRef}
use Rattle.app_machine.specs.declared.summary.Gives.{Gives}
use Rattle.app_machine.specs.declared.summary.Gives.TheVariants as gives
use Rattle.app_machine.specs.declared.summary.Summary.{Summary}
use Rattle.app_machine.specs.Summaries.{default_summary}
use Rattle.app_machine.specs.State.{holds}
use Rattle.app_parts.specs.declared.summary_view.SummaryView.{SummaryView}
use Rattle.app_parts.specs.declared.summary_view.SummaryView.TheVariants as view
use Rattle.app_parts.specs.declared.summary_view.CallResult.{CallResult}
use Rattle.app_parts.specs.declared.summary_view.CallResult.TheVariants as result

-- what the lists say of a call of the method, a default written out
abbrev pub shown_summary : SummaryView → MethodRef → Bool → Summary
shown_summary (view.Row row) at is_static = row.now
shown_summary (view.Default word) at is_static = default_summary word at is_static

-- the result, without the positions that a joined one comes from
abbrev pub call_result : Gives → CallResult
call_result gives.Blank = result.Blank
call_result (gives.Same i) = result.Same i
call_result (gives.Taken i) = result.Taken i
call_result (gives.Joined from) = result.Joined
call_result (gives.Shared g) = result.Shared g
call_result gives.Handed = result.Handed

-- whether the result is joined from the position
abbrev pub joined_from : Gives → ℕ → Bool
joined_from (gives.Joined from) i = holds from i
joined_from other i = false

-- whether one of the puts is of the value of the position, and whether one is into its object
abbrev pub puts_from : List (ℕ × ℕ) → ℕ → Bool
puts_from puts i = list_any (λ (put : ℕ × ℕ). put.0 == i) puts

abbrev pub puts_into : List (ℕ × ℕ) → ℕ → Bool
puts_into puts i = list_any (λ (put : ℕ × ℕ). put.1 == i) puts
