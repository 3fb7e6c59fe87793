-- What a memo keeps.
use Rattle.std.specs.Prelude.{List}
use Rattle.vet_base.specs.Members.{In}
use Rattle.case_rules.specs.declared.case.Content.{Content}
use Rattle.case_rules.specs.Desk.{Judgement}
use Rattle.desk_serving.specs.Obeying.{judgement_of}
use Rattle.judged_ahead.specs.declared.found.Found.{Found}

-- Each of them is what its content comes to.
abbrev pub AreFound : (Content → Judgement → Type 0) → List Found → Type 0
AreFound finds found = (f : Found) → In f found → finds f.content (judgement_of f.judged)
