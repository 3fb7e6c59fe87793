-- A submission whose reply was lost is one case.
use Rattle.std.proofs.Common.{ℕ, List, [], ◌∷◌}
use Rattle.std.proofs.Math.Bool.{or-true}
use Rattle.case_rules.specs.declared.case.Content.{Content}
use Rattle.case_rules.specs.Desk.{Judgement}
use Rattle.client_law.specs.Tried.{is_accepted}
use Rattle.desk_serving.specs.declared.serving.Served.TheVariants.{Replied}
use Rattle.client_witness.specs.OneCase.{OneCase}

pub one_case : (finds : Content → Judgement → Type 0) (edition : List ℕ) → OneCase finds edition
one_case finds edition law office party token reference content request from to lost read found role tried =
    let once = law office party token reference content request from to (lost ∷ Replied 201 ∷ []) read found role tried in
    (once.0, once.1 (or-true (is_accepted lost)))
