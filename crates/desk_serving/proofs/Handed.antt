-- What the rules say by a case without its content: the same, and a case that is shown has none.
use Rattle.std.proofs.Common.{◌≡◌, ◌⊎◌, ℕ, Bool, true, false, List, Option, Some, None, Result, Ok, Err, refl, sym, ap, subst, ◌∙◌, inl, inr}
use Rattle.std.specs.Option.{option_map}
use Rattle.case_rules.specs.declared.case.Case.{Case}
use Rattle.case_rules.specs.declared.case.Content.{Content}
use Rattle.case_rules.specs.declared.case.RulingWord.{RulingWord}
use Rattle.case_rules.specs.declared.command.Command.{Command}
use Rattle.case_rules.specs.declared.command.Command.TheVariants as commands
use Rattle.case_rules.specs.declared.command.View.{View}
use Rattle.case_rules.specs.declared.reply.Refusal.{Refusal}
use Rattle.case_rules.specs.declared.reply.Refusal.TheVariants.{WrongRole, NoCase, NotDecided}
use Rattle.case_rules.specs.declared.reply.Reply.{Reply}
use Rattle.case_rules.specs.declared.reply.Reply.TheVariants as replies
use Rattle.case_rules.specs.declared.reply.Plan.{Plan}
use Rattle.case_rules.specs.declared.reply.Plan.TheVariants.{Say, Do, Judge}
use Rattle.case_rules.specs.Cases.{last}
use Rattle.case_rules.specs.Rules.{Session, ◌>>=◌, allow, known, is_developer, show, report, appeal, rule, answered, told, planned}
use Rattle.case_rules.specs.Desk.{Judgement, plan_over, view_of}
use Rattle.case_rules.specs.Docket.{Shows}
use Rattle.case_rules.proofs.Planned.{shown_alike}
use Rattle.case_rules.proofs.Inverted.{submit_plans, decide_plans, appeal_plans, review_plans, rule_plans}
use Rattle.store_office.specs.declared.party.Party.{Party}
use Rattle.store_office.specs.declared.party.Role.{Role}
use Rattle.case_keeper.specs.Viewing.{ShowsFor, without_content}
use Rattle.desk_http.specs.declared.asked.Asked.{Asked}
use Rattle.desk_http.specs.declared.asked.HttpFault.{HttpFault}
use Rattle.desk_http.specs.declared.reply.Answer.{Answer}
use Rattle.desk_answers.specs.Answers.{answer_of}
use Rattle.desk_serving.specs.declared.responding.Due.{Due}
use Rattle.desk_serving.specs.declared.responding.Due.TheVariants.{Command as ToCommand, Other as ToOther, StoreFailed, NoMemory, Nothing}
use Rattle.desk_serving.specs.Obeying.{HandsOn, handed, handed_plan}
use Rattle.desk_serving.specs.Responding.{Setting, session_in, IsCommand, CarriesOut, Responds, SaysReply}

-- No rule but one looks at the content of a case that is there, or shows the case.
report_bare : (party : Party) (found : Option Case)
    → report party (option_map without_content found) ≡ report party found
unfolding report
report_bare party None = refl
report_bare party (Some case) = refl

appeal_bare : (party : Party) (days day : ℕ) (reference text : List ℕ) (found : Option Case)
    → appeal party days day reference text (option_map without_content found)
    ≡ appeal party days day reference text found
unfolding appeal
appeal_bare party days day reference text None = refl
appeal_bare party days day reference text (Some case) = refl

rule_bare : (party : Party) (day : ℕ) (developer reference : List ℕ) (word : RulingWord) (found : Option Case)
    → rule party day developer reference word (option_map without_content found)
    ≡ rule party day developer reference word found
unfolding rule
rule_bare party day developer reference word None = refl
rule_bare party day developer reference word (Some case) = refl

abbrev shown_if : Bool → Option Case → Result Plan Refusal
shown_if may found = do
  _ ← allow may WrongRole
  case ← known found NoCase
  Ok (Say (replies.Shown case))

shown_if_bare : (may : Bool) (found : Option Case)
    → told (shown_if may (option_map without_content found)) ≡ handed_plan (told (shown_if may found))
shown_if_bare true None = refl
shown_if_bare true (Some case) = refl
shown_if_bare false found = refl

show_bare : (party : Party) (found : Option Case)
    → told (show party (option_map without_content found)) ≡ handed_plan (told (show party found))
unfolding show
show_bare party found = shown_if_bare (is_developer party.role) found

abbrev IsWhole : Plan → Type 0
IsWhole plan = handed_plan plan ≡ plan

-- Where each plan of a rule is handed on whole, its answer is.
whole : (answer : Result Plan Refusal) → ((plan : Plan) → answer ≡ Ok plan → IsWhole plan)
    → told answer ≡ handed_plan (told answer)
whole (Err refusal) plans = refl
whole (Ok plan) plans = sym (plans plan refl)

-- A report is no case that is shown.
abbrev IsAsIs : Result Plan Refusal → Type 0
IsAsIs answer = told answer ≡ handed_plan (told answer)

allowed : (may : Bool) (refusal : Refusal) (f : Unit {0} → Result Plan Refusal) → IsAsIs (f tt)
    → IsAsIs (allow may refusal >>= f)
allowed true refusal f as_is = as_is
allowed false refusal f as_is = refl

if_known : {A : Type 0} (found : Option A) (refusal : Refusal) (f : A → Result Plan Refusal)
    → ((x : A) → IsAsIs (f x)) → IsAsIs (known found refusal >>= f)
if_known None refusal f as_is = refl
if_known (Some x) refusal f as_is = as_is x

whole_report : (party : Party) (found : Option Case) → IsAsIs (report party found)
unfolding report
whole_report party found = allowed (is_developer party.role) WrongRole _
    (if_known found NoCase _ (λ case. if_known (last case.entries) NotDecided _ (λ entry. refl)))

whole_submit : (session : Session) (reference : List ℕ) (content : Content) (view : View) (plan : Plan)
    → answered session (commands.Submit reference content) view ≡ Ok plan → IsWhole plan
whole_submit session reference content view plan e = elim (submit_plans _ _ _ _ _ plan e).1 [
  | inl kept ↦ subst IsWhole (sym kept.says) refl
  | inr adds ↦ subst IsWhole (sym adds.does) refl
]

-- By what a keeper shows for a command the plan is the desk's own, with its reply as it is handed on.
pub handed_over : (session : Session) (command : Command) (view : View) (cases : List Case)
    → ShowsFor session command view cases
    → planned session command view ≡ handed_plan (plan_over session command cases)
handed_over session (commands.Submit reference content) view cases shows =
    let command = commands.Submit reference content in
    ap told (shown_alike session command view cases shows)
    ∙ whole (answered session command (view_of session command cases))
    (whole_submit session reference content (view_of session command cases))
handed_over session commands.Decide view cases shows =
    ap told (shown_alike session commands.Decide view cases shows)
    ∙ whole (answered session commands.Decide (view_of session commands.Decide cases))
    (λ plan e. subst IsWhole (sym (decide_plans _ _ plan e).judges) refl)
handed_over session (commands.Show reference) view cases shows =
    ap (λ (found : Option Case). told (show session.party found)) shows
    ∙ show_bare session.party (view_of session (commands.Show reference) cases).found
handed_over session (commands.Report reference) view cases shows =
    let found = (view_of session (commands.Report reference) cases).found in
    ap told (ap (report session.party) shows ∙ report_bare session.party found) ∙ whole_report session.party found
handed_over session (commands.Appeal reference text) view cases shows =
    let found = (view_of session (commands.Appeal reference text) cases).found in
    let rules = appeal session.party session.appeal_days session.day reference text in
    ap told (ap rules shows ∙ appeal_bare session.party session.appeal_days session.day reference text found)
    ∙ whole (rules found) (λ plan e. subst IsWhole (sym (appeal_plans _ _ _ _ _ _ plan e).does) refl)
handed_over session (commands.Review developer reference) view cases shows =
    let command = commands.Review developer reference in
    ap told (shown_alike session command view cases shows)
    ∙ whole (answered session command (view_of session command cases))
    (λ plan e. subst IsWhole (sym (review_plans _ _ _ plan e).judges) refl)
handed_over session (commands.Rule developer reference word) view cases shows =
    let found = (view_of session (commands.Rule developer reference word) cases).found in
    let rules = rule session.party session.day developer reference word in
    ap told (ap rules shows ∙ rule_bare session.party session.day developer reference word found)
    ∙ whole (rules found) (λ plan e. subst IsWhole (sym (rule_plans _ _ _ _ _ _ plan e).does) refl)
handed_over session commands.List view cases shows = ap told (shown_alike session commands.List view cases shows)

-- What a party is told of a reply does not show content.
handed_answer : (role : Role) (reply : Reply) → answer_of role (handed reply) ≡ answer_of role reply
handed_answer role (replies.Added reference) = refl
handed_answer role (replies.Kept reference state) = refl
handed_answer role (replies.Decided developer reference outcome) = refl
handed_answer role (replies.Shown case) = refl
handed_answer role (replies.Text report) = refl
handed_answer role (replies.Appealed reference) = refl
handed_answer role (replies.Ruled developer reference word) = refl
handed_answer role (replies.Lines lines) = refl
handed_answer role (replies.No refusal) = refl

-- So what is due to a request is by the machine's own reply.
module _ (finds : Content → Judgement → Type 0) (setting : Setting) (request : Result Asked HttpFault)
    (party : Party) (command : Command) where
  responds_by : (before after : Option (List Case)) (reply : Reply) (answer : Answer)
      → IsCommand setting.office request party command
      → HandsOn finds (session_in setting party) command before after reply
      → answer ≡ answer_of party.role reply → Responds finds setting before after request (ToCommand answer)
  responds_by None after reply answer is hands says =
      (party, reply, record { command = command; is = is; obeys = hands }, says)
  responds_by (Some cases) after reply answer is hands says = (
    party,
    hands.0,
    record { command = command; is = is; obeys = hands.2 },
    says ∙ ap (answer_of party.role) hands.1 ∙ handed_answer party.role hands.0,
  )

  responds_nothing : (before after : Option (List Case)) (reply : Reply)
      → IsCommand setting.office request party command
      → HandsOn finds (session_in setting party) command before after reply
      → Responds finds setting before after request Nothing
  responds_nothing None after reply is hands =
      inr (party, reply, record { command = command; is = is; obeys = hands })
  responds_nothing (Some cases) after reply is hands =
      inr (party, hands.0, record { command = command; is = is; obeys = hands.2 })

  pub responds_if : (before after : Option (List Case)) (reply : Reply) (due : Due)
      → IsCommand setting.office request party command
      → HandsOn finds (session_in setting party) command before after reply
      → SaysReply party.role reply due → Responds finds setting before after request due
  responds_if before after reply (ToCommand answer) is hands says = responds_by before after reply answer is hands says
  responds_if before after reply (ToOther answer) is hands says = absurd says
  responds_if before after reply (StoreFailed answer) is hands says = absurd says
  responds_if before after reply (NoMemory answer) is hands says = absurd says
  responds_if before after reply Nothing is hands says = responds_nothing before after reply is hands
