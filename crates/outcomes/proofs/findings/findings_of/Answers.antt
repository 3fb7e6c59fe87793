use Rattle.std.proofs.Common.{◌≡◌, List, map, ◌∙◌, ap, subst}
use Rattle.std.specs.Prelude.{IfOk}
use Rattle.outcomes.specs.declared.outcome.Finding.{Finding}
use Rattle.outcomes.specs.Spots.{Found, finding_at}
use Rattle.outcomes.proofs.Found.{findings_in_order}
use Rattle.outcomes.proofs.findings.findings_of.Goals as goal

pub returns : goal.returns
returns c =
    let P : List Finding → Type 0 = λ findings. IfOk c.findings_from.result (λ v. v.items ≡ findings) in
    let listed = ap (λ (found : List Found). map (finding_at c.args.app.now) found) c.in_ok-listed.ensures in
    subst P (listed ∙ findings_in_order c.args.app.now c.args.lists.now c.args.declaration.now c.requires.sound c.args.rows.now c.requires.within) c.findings_from.ensures
