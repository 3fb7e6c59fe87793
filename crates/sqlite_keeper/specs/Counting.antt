-- How a keeper over a database counts its refusals.
use Rattle.std.specs.Prelude.{ℕ, ◌+◌, min, List, Option, None, Result, Ok, Err}
use Rattle.case_rules.specs.declared.case.Case.{Case}
use Rattle.case_keeper.specs.declared.keeper.KeepFault.{KeepFault}
use Rattle.case_keeper.specs.declared.keeper.KeepFault.TheVariants.{Failed, Memory}

-- what such a keeper tells of its cases: nothing
abbrev pub untold : Option (List Case)
untold = None

-- the count after a call: one more where it failed, up to 2^64 - 1, and else as before
abbrev pub counted : {X : Type 0} → ℕ → Result X KeepFault → ℕ
counted before (Ok x) = before
counted before (Err Failed) = min (before + 1) 18446744073709551615
counted before (Err Memory) = before
