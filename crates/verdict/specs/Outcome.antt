-- The outcome of causes and findings, what it tells of them, and the status that says it.
use Rattle.std.specs.Prelude.{ℕ, List, [], ◌∷◌}
use Rattle.outcomes.specs.declared.outcome.Cause.{Cause}
use Rattle.outcomes.specs.declared.outcome.Finding.{Finding}
use Rattle.verdict.specs.declared.outcome.Outcome.{Outcome}
use Rattle.verdict.specs.declared.outcome.Outcome.TheVariants.{Clear, Flagged, Undecided, Refused}

-- undecided where there is a cause, else flagged where there is a finding, else clear
abbrev pub outcome_of : List Cause → List Finding → Outcome
outcome_of [] [] = Clear
outcome_of [] (f ∷ fs) = Flagged (f ∷ fs)
outcome_of (c ∷ cs) fs = Undecided (c ∷ cs) fs

-- the causes and the findings that an outcome tells
abbrev pub causes_in : Outcome → List Cause
causes_in (Undecided cs fs) = cs
causes_in _ = []

abbrev pub findings_in : Outcome → List Finding
findings_in (Flagged fs) = fs
findings_in (Undecided cs fs) = fs
findings_in _ = []

abbrev pub status_of : Outcome → ℕ
status_of Clear = 0
status_of (Flagged fs) = 1
status_of (Undecided cs fs) = 2
status_of (Refused part reason) = 3
