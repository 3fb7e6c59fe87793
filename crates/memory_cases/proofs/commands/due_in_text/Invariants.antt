use denote.Text.{Utf8}
use denote.Shadow.{shadow}
use Rattle.case_rules.specs.Docket.{IsDocket}
use Rattle.memory_cases.proofs.commands.due_in_text.Given as goal

abbrev pub invariant-loop-line : goal.invariant-loop-line
invariant-loop-line g l = shadow (Utf8 l.title) × IsDocket l.keeper.cases
