-- Where results are read. Code as compilers write it reads one right behind the step that gave it.
use Rattle.std.specs.Prelude.{ℕ, Bool, true, false, List, cond}
use Rattle.std.specs.List.{list_any}
use Rattle.app_machine.specs.declared.method.Step.{Step}
use Rattle.app_machine.specs.declared.app.App.{App}
use Rattle.app_machine.specs.State.{result_register, holds}
use Rattle.register_readers.specs.Asked.{given_to}
use Rattle.register_readers.specs.Searched.{is_read_at}

-- whether a step at one of the addresses reads the result
abbrev pub any_reads : App → ℕ → List ℕ → Bool
any_reads app method pcs = list_any (is_read_at app method result_register) pcs

-- whether the result is read in a handler of the step, or behind the step though it gives none
abbrev pub is_late : App → ℕ → Step → Bool
is_late app method step = cond (any_reads app method step.catches) true (cond (holds (given_to step.act) result_register) false (any_reads app method step.next))

abbrev pub any_late : App → ℕ → List Step → Bool
any_late app method steps = list_any (is_late app method) steps
