-- What is so of the keeper that has the cases.
use Rattle.kept_cases.specs.declared.kept.KeptCases.{KeptCases}
use Rattle.kept_cases.specs.declared.kept.KeptCases.TheVariants.{Tables, Journal}

abbrev pub of_kept : {T J X : Type 0} → (T → X) → (J → X) → KeptCases T J → X
of_kept of_tables of_journal (Tables keeper) = of_tables keeper
of_kept of_tables of_journal (Journal keeper) = of_journal keeper
