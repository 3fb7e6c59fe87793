use Rattle.case_rules.specs.Docket.{IsDocket}
use Rattle.memory_cases.proofs.commands.timing.each_timed.Given as goal

abbrev pub invariant-loop-line : goal.invariant-loop-line
invariant-loop-line l = IsDocket l.keeper.cases
