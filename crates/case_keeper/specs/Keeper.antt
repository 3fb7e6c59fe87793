-- What a keeper tells, and when it fails.
use Rattle.std.specs.Prelude.{◌≡◌, ◌≤◌, ℕ, List, Option, Some, Result, Ok, Err, IfOk, find}
use Rattle.std.specs.Option.{option_map}
use Rattle.vet_base.specs.Outside.{HasRisen}
use Rattle.case_rules.specs.declared.case.Case.{Case}
use Rattle.case_rules.specs.declared.case.Entry.{Entry}
use Rattle.case_rules.specs.declared.reply.Change.{Change}
use Rattle.case_rules.specs.Cases.{after, is_named}
use Rattle.case_keeper.specs.declared.keeper.KeepFault.{KeepFault}
use Rattle.case_keeper.specs.declared.keeper.KeepFault.TheVariants.{Failed, Memory}

-- where the cases are told, an answer is what they show
abbrev pub Tells : {X : Type 0} → (List Case → X) → Option (List Case) → Result X KeepFault → Type 0
Tells shows told r = (cases : List Case) → told ≡ Some cases → IfOk r (λ x. x ≡ shows cases)

-- the entries of the case of this name, where there is one
abbrev pub history_of : List ℕ → List ℕ → List Case → Option (List Entry)
history_of party reference cases = option_map (λ case. case.entries) (find (is_named party reference) cases)

-- the cases after a call that was to make the change
abbrev pub told_after : {X : Type 0} → Change → Option (List Case) → Result X KeepFault → Option (List Case)
told_after change told (Ok x) = option_map (after change) told
told_after change told (Err fault) = told

-- `Failed` comes only where the count rose; any other answer leaves it as it was. It never falls.
abbrev pub KeepCause : {X : Type 0} → ℕ → ℕ → Result X KeepFault → Type 0
KeepCause before now (Ok x) = now ≡ before
KeepCause before now (Err Failed) = HasRisen before now × (before ≤ now)
KeepCause before now (Err Memory) = now ≡ before
