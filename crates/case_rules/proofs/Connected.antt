-- What a run of the desk makes of the cases, and how often it finds the store failed.
use Rattle.std.proofs.Common.{◌≡◌, ◌≤◌, ◌<◌, ℕ, ◌+◌, List, [], ◌∷◌, Option, Some, None, refl, ap, ◌∙◌, arith}
use Rattle.vet_base.specs.Outside.{HasRisen}
use Rattle.case_rules.specs.declared.case.Case.{Case}
use Rattle.case_rules.specs.Desk.{Turn, cases_after, replies_to}
use Rattle.case_rules.specs.Runs.{Standing, Answer, ToCommand, ToOther, StoreFailed, NoMemory, Ending, Replied, CutOff, Ended, Unread, Unanswered, Connection, IsDeskRun, AnswerCause, EndingCause, carried_out, cases_by, turns_with, turns_of, replies_with, replies_in, failures_by, failures_at, failures_in}

-- one connection, and then the commands that follow
cases_next : (o : Option Turn) (turns : List Turn) (cases : List Case)
    → cases_after turns (cases_by o cases) ≡ cases_after (turns_with o turns) cases
cases_next None turns cases = refl
cases_next (Some turn) turns cases = refl

replies_next : (o : Option Turn) (turns : List Turn) (cases : List Case)
    → replies_with o cases (replies_to turns (cases_by o cases)) ≡ replies_to (turns_with o turns) cases
replies_next None turns cases = refl
replies_next (Some turn) turns cases = refl

pub cases_of_run : (entry exit : Standing) (connections : List Connection) → IsDeskRun entry connections exit
    → exit.cases ≡ cases_after (turns_of connections) entry.cases
cases_of_run entry exit [] run = run.cases
cases_of_run entry exit (c ∷ connections) run =
    let o = carried_out c.ending in
    cases_of_run c.after exit connections run.2
    ∙ ap (cases_after (turns_of connections)) (run.1.cases ∙ ap (cases_by o) run.0.cases)
    ∙ cases_next o (turns_of connections) entry.cases

pub replies_of_run : (entry exit : Standing) (connections : List Connection) → IsDeskRun entry connections exit
    → replies_in connections ≡ replies_to (turns_of connections) entry.cases
replies_of_run entry exit [] run = refl
replies_of_run entry exit (c ∷ connections) run =
    let o = carried_out c.ending in
    ap (replies_with o c.before.cases)
    (replies_of_run c.after exit connections run.2 ∙ ap (replies_to (turns_of connections)) run.1.cases)
    ∙ ap (λ (cases : List Case). replies_with o cases (replies_to (turns_of connections)
    (cases_by o cases))) run.0.cases
    ∙ replies_next o (turns_of connections) entry.cases

-- a count below the greatest that rose is one higher at least
rose : (before after : ℕ) → HasRisen before after → after < 18446744073709551615 → before + 1 ≤ after
rose before after risen below = omega (arith, risen)

by_answer : (before after : Standing) (answer : Answer) → AnswerCause before after answer
    → before.keeper ≤ after.keeper → after.keeper < 18446744073709551615
    → before.keeper + failures_by answer ≤ after.keeper
by_answer before after (ToCommand turn) cause stays below = omega arith
by_answer before after ToOther cause stays below = omega arith
by_answer before after StoreFailed cause stays below = rose before.keeper after.keeper cause below
by_answer before after NoMemory cause stays below = omega arith

by_ending : (before after : Standing) (ending : Ending) → EndingCause before after ending
    → before.keeper ≤ after.keeper → after.keeper < 18446744073709551615
    → before.keeper + failures_at ending ≤ after.keeper
by_ending before after (Replied answer) cause stays below = by_answer before after answer cause stays below
by_ending before after (CutOff answer) cause stays below = by_answer before after answer cause.0 stays below
by_ending before after Ended cause stays below = omega arith
by_ending before after Unread cause stays below = omega arith
by_ending before after (Unanswered turn) cause stays below = omega arith

pub failures_of_run : (entry exit : Standing) (connections : List Connection) → IsDeskRun entry connections exit
    → exit.keeper < 18446744073709551615 → entry.keeper + failures_in connections ≤ exit.keeper
failures_of_run entry exit [] run below = omega (arith, run.keeper)
failures_of_run entry exit (c ∷ connections) run below =
    let later : c.after.keeper + failures_in connections ≤ exit.keeper =
    failures_of_run c.after exit connections run.2 below in
    let here : c.before.keeper + failures_at c.ending ≤ c.after.keeper =
    by_ending c.before c.after c.ending run.1.cause run.1.keeper (omega arith) in
    let start : c.before.keeper ≡ entry.keeper = run.0.keeper in
    omega arith
