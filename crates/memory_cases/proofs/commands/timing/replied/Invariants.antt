use Rattle.case_rules.specs.Docket.{IsDocket}
use Rattle.memory_cases.proofs.commands.timing.replied.Given as goal

abbrev pub invariant-loop-turn : goal.invariant-loop-turn
invariant-loop-turn l = IsDocket l.keeper.cases
