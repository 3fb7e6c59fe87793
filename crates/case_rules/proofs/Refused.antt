-- A command that is refused changes nothing.
use Rattle.std.proofs.Common.{◌≡◌, List, Result, Ok, Err, refl, sym, ap, ◌∙◌}
use Rattle.case_rules.specs.declared.case.Case.{Case}
use Rattle.case_rules.specs.declared.reply.Refusal.{Refusal}
use Rattle.case_rules.specs.declared.reply.Reply.{Reply}
use Rattle.case_rules.specs.declared.reply.Reply.TheVariants as replies
use Rattle.case_rules.specs.declared.reply.Plan.{Plan}
use Rattle.case_rules.specs.declared.reply.Plan.TheVariants.{Say, Do, Judge}
use Rattle.case_rules.specs.Rules.{answered, told}
use Rattle.case_rules.specs.Desk.{Turn, speaks_of, view_of, decision_by, carried, step, reply_to, cases_then}
use Rattle.case_rules.proofs.Effects.{effect}

-- what the desk does by the answer of the rules
pub step_by : (turn : Turn) (cases : List Case) (answer : Result Plan Refusal)
    → answered turn.session turn.command (view_of turn.session turn.command cases) ≡ answer
    → step turn cases ≡ carried (speaks_of turn.session turn.command) (decision_by turn.session turn.judgement)
    (told answer) cases
step_by turn cases answer is = ap (λ (a : Result Plan Refusal).
    carried (speaks_of turn.session turn.command) (decision_by turn.session turn.judgement) (told a) cases) is

kept_by : (turn : Turn) (cases : List Case) (answer : Result Plan Refusal) (refusal : Refusal)
    → answered turn.session turn.command (view_of turn.session turn.command cases) ≡ answer
    → reply_to turn cases ≡ replies.No refusal → cases_then turn cases ≡ cases
kept_by turn cases (Err other) refusal is says = ap (λ (s : Reply × List Case). s.1) (step_by turn cases (Err other) is)
kept_by turn cases (Ok (Say reply)) refusal is says =
    ap (λ (s : Reply × List Case). s.1) (step_by turn cases (Ok (Say reply)) is)
kept_by turn cases (Ok (Do change reply)) refusal is says =
    let done = effect turn.session turn.command cases (Do change reply) is in
    absurd (done.not_refused refusal
    (sym (ap (λ (s : Reply × List Case). s.0) (step_by turn cases (Ok (Do change reply)) is)) ∙ says))
kept_by turn cases (Ok (Judge case)) refusal is says =
    let said = sym (ap (λ (s : Reply × List Case). s.0) (step_by turn cases (Ok (Judge case)) is)) ∙ says in absurd cc

pub refused_kept : (turn : Turn) (cases : List Case) (refusal : Refusal) → reply_to turn cases ≡ replies.No refusal
    → cases_then turn cases ≡ cases
refused_kept turn cases refusal says =
    kept_by turn cases (answered turn.session turn.command
    (view_of turn.session turn.command cases)) refusal refl says
