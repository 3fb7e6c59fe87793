-- What is called clear under lists stays safe by them, where only verdicts are added.
use Rattle.std.proofs.Common.{◌≡◌, ℕ, List, [], ◌∷◌, ◌++◌, map, sym, subst}
use Rattle.std.specs.List.{AllByRecursion}
use Rattle.sha2.specs.Sha256.{sha256}
use Rattle.case_rules.specs.declared.case.Case.{Case}
use Rattle.case_rules.specs.declared.case.Content.{Content}
use Rattle.case_rules.specs.declared.case.Decision.{Decision}
use Rattle.case_rules.specs.declared.case.Entry.{Entry}
use Rattle.case_rules.specs.declared.case.OutcomeWord.TheVariants.{Clear}
use Rattle.verdict.specs.Verdict.{IsSafeApp}
use Rattle.desk_service.specs.Adding.{IsVerdict, decisions_on, IsDecided, IsDecidedOn, AddsOnly}
use Rattle.desk_service.specs.Judging.{parts_of}
use Rattle.desk_service.specs.Safety.{IsSafeEntry, IsSafeCase, AreSafe, CommandsStaySafe, RunsStaySafe}
use Rattle.desk_service.proofs.Grows.{all_append, decision_in}
use Rattle.desk_service.proofs.Grows.{commands as commands_add, runs as runs_add}

module _ (lists : List ℕ) where
  abbrev IsSafe : Content → Decision → Type 0
  IsSafe content d = d.lists ≡ sha256 lists → d.outcome ≡ Clear → IsSafeApp (parts_of lists content)

  of_entries : (content : Content) (entries : List Entry) → AllByRecursion (IsSafeEntry lists content) entries
      → AllByRecursion (IsSafe content) (map decision_in entries)
  of_entries content [] all = tt
  of_entries content (e ∷ entries) all = (all.0, of_entries content entries all.1)

  to_entries : (content : Content) (entries : List Entry) → AllByRecursion (IsSafe content) (map decision_in entries)
      → AllByRecursion (IsSafeEntry lists content) entries
  to_entries content [] all = tt
  to_entries content (e ∷ entries) all = (all.0, to_entries content entries all.1)

  of_verdicts : (content : Content) (ds : List Decision) → AllByRecursion (IsVerdict lists content) ds
      → AllByRecursion (IsSafe content) ds
  of_verdicts content [] all = tt
  of_verdicts content (d ∷ ds) all = (λ same clear. all.0.found.safe clear, of_verdicts content ds all.1)

  safe_on : (a b : Case) → IsDecidedOn (IsVerdict lists) a b → IsSafeCase lists a → IsSafeCase lists b
  safe_on a b later safe =
      let more = all_append (IsSafe a.content) (decisions_on a) later.added (of_entries a.content a.entries safe)
      (of_verdicts a.content later.added later.are) in
      to_entries b.content b.entries
      (subst (λ (ds : List Decision). AllByRecursion (IsSafe b.content) ds) (sym later.decisions)
      (subst (λ (content : Content). AllByRecursion (IsSafe content) (decisions_on a ++ later.added)) (sym later.content) more))

  all_safe : (cases : List Case) → AllByRecursion (IsDecided (IsVerdict lists)) cases → AreSafe lists cases
  all_safe [] all = tt
  all_safe (c ∷ cases) all =
      (to_entries c.content c.entries (of_verdicts c.content (decisions_on c) all.0), all_safe cases all.1)

  stay : (cases then : List Case) → AddsOnly (IsVerdict lists) cases then → AreSafe lists cases → AreSafe lists then
  stay [] then adds safe = all_safe then adds
  stay (c ∷ cases) [] adds safe = absurd adds
  stay (c ∷ cases) (d ∷ then) adds safe = (safe_on c d adds.0 safe.0, stay cases then adds.1 safe.1)

pub commands : CommandsStaySafe
commands lists session command before now reply same obeys cases then told_before told_now safe =
    stay lists cases then
    (commands_add lists session command before now reply same obeys cases then told_before told_now) safe

pub runs : RunsStaySafe
runs lists office today most entry exit result is cases then told told_now safe =
    stay lists cases then (runs_add lists office today most entry exit result is cases then told told_now) safe
