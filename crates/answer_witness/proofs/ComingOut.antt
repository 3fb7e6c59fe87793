-- Outcomes compute, and rows are good or have a defect.
use Rattle.std.proofs.Common.{◌≡◌, ◌≢◌, ◌+◌, ◌++◌, ℕ, List, [], ◌∷◌, length, Option, Some, None, refl, ap, arith}
use Rattle.std.proofs.lemmas.List.{length-append}
use Rattle.app_flow.specs.Defect.{OneDefect}
use Rattle.app_flow.specs.declared.flow.Flow.TheVariants as flows
use Rattle.app_machine.specs.declared.app.App.{App}
use Rattle.app_machine.specs.declared.lists.Lists.{Lists}
use Rattle.app_machine.specs.declared.papers.Declaration.{Declaration}
use Rattle.cert_checker.specs.declared.defect.TableDefect.{TableDefect}
use Rattle.fact_rows.specs.declared.row.Row.{Row}
use Rattle.flow_analyses.specs.declared.Analysis.TheVariants.{Cells}
use Rattle.outcomes.specs.declared.outcome.Cause.{Cause}
use Rattle.outcomes.specs.Causes.{causes_too_large}
use Rattle.verdict.specs.declared.outcome.Judged.{Judged}
use Rattle.verdict.specs.declared.outcome.Outcome.TheVariants.{Undecided}
use Rattle.verdict.specs.declared.outcome.Rechecked.{Rechecked}
use Rattle.verdict.specs.declared.outcome.Rechecked.TheVariants.{By, Defect, Refused, Unasked}
use Rattle.verdict.specs.Outcome.{causes_in}
use Rattle.verdict.specs.Recheck.{RechecksTo}
use Rattle.verdict.specs.Verdict.{judged_by}
use Rattle.answer_witness.specs.VerdictFacts.{AppsComeOut}

-- one more is not as many
one_more : (cs : List Cause) (c : Cause) → cs ++ c ∷ [] ≡ cs → ⊥
one_more cs c same =
    let counted : length (cs ++ c ∷ []) ≡ length cs = ap (λ (xs : List Cause). length xs) same in
    let more : length (cs ++ c ∷ []) ≡ length cs + 1 = length-append cs (c ∷ []) in
    let none : ⊥ = omega (arith, counted, more) in none

large : (app : App) (lists : Lists) (declaration : Declaration) (c : Cause) (limit : ℕ)
    → judged_by app lists declaration (c ∷ []) (flows.TooLarge limit) ≡ record { outcome = Undecided (causes_too_large app limit) []; table = None } → ⊥
large app lists declaration c limit same = one_more (causes_too_large app limit) c (ap (λ (j : Judged). causes_in j.outcome) same)

unasked : (app : App) (lists : Lists) (declaration : Declaration) (rows : List Row) (r : Rechecked) → RechecksTo app lists None declaration [] Cells rows r → r ≢ Unasked → ⊥
unasked app lists declaration rows (Refused part reason) to other = to
unasked app lists declaration rows Unasked to other = other refl
unasked app lists declaration rows (Defect defect) to other = to.0
unasked app lists declaration rows (By outcome) to other = to.0

not_both : (d : TableDefect) → let found : Option TableDefect = Some d in found ≡ None → ⊥
not_both d same = cc

pub apps_come_out : OneDefect → AppsComeOut
apps_come_out law app lists declaration rows beside found defect = record {
  flagged = refl;
  undecided = refl;
  large = large app lists declaration beside;
  no_defect = λ large analysis good has. not_both defect (law analysis app lists rows (Some defect) None has.1 good);
  not_clear = λ large analysis has to. not_both defect (law analysis app lists rows (Some defect) None has to.1);
  unasked = unasked app lists declaration rows;
  asked = λ to. to tt;
}
