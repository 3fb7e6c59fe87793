-- What becomes of a command at a desk whose keeper tells its cases.
use Rattle.std.specs.Prelude.{◌≡◌, ◌≤◌, ℕ, List, Option, Some, None}
use Rattle.case_rules.specs.declared.case.Case.{Case}
use Rattle.case_rules.specs.declared.case.Content.{Content}
use Rattle.case_rules.specs.declared.command.Command.{Command}
use Rattle.case_rules.specs.declared.reply.Reply.{Reply}
use Rattle.case_rules.specs.declared.reply.Reply.TheVariants as replies
use Rattle.case_rules.specs.declared.reply.Plan.{Plan}
use Rattle.case_rules.specs.declared.reply.Plan.TheVariants.{Say, Do, Judge}
use Rattle.case_rules.specs.Rules.{Session}
use Rattle.std.specs.Option.{option_map}
use Rattle.case_rules.specs.Cases.{after as changed_by}
use Rattle.case_rules.specs.Plans.{settled}
use Rattle.case_rules.specs.Desk.{Judgement, Turn, plan_over, reply_to, cases_then, decision_by}
use Rattle.case_rules.specs.Docket.{IsDocket}
use Rattle.case_keeper.specs.Viewing.{without_content}
use Rattle.desk_serving.specs.declared.judge.Judged.{Judged}

abbrev pub judgement_of : Judged → Judgement
judgement_of judged = record { outcome = judged.outcome; report = judged.report }

-- The cases that are told are a docket.
abbrev pub TellsDocket : Option (List Case) → Type 0
TellsDocket None = Unit {0}
TellsDocket (Some cases) = IsDocket cases

-- Where a case is judged, it is found to be so.
abbrev pub FindsIn : (Content → Judgement → Type 0) → Plan → Judgement → Type 0
FindsIn finds (Say reply) judgement = Unit {0}
FindsIn finds (Do change reply) judgement = Unit {0}
FindsIn finds (Judge case) judgement = finds case.content judgement

-- the command in its session, with what judging gave
abbrev pub turn_in : Session → Judgement → Command → Turn
turn_in session judgement command = record { session = session; judgement = judgement; command = command }

-- Reply and cases are the machine's, with what judging the content gives.
pub record IsObeyed (finds : Content → Judgement → Type 0) (turn : Turn) (cases : List Case)
    (after : Option (List Case)) (reply : Reply) : Type 0 where
  pub found : FindsIn finds (plan_over turn.session turn.command cases) turn.judgement
  pub reply_is : reply ≡ reply_to turn cases
  pub after_is : after ≡ Some (cases_then turn cases)

-- Where the cases are told, the command was carried out as the machine says.
abbrev pub Obeys : (Content → Judgement → Type 0) → Session → Command → Option (List Case) → Option (List Case) → Reply
    → Type 0
Obeys finds session command None after reply = after ≡ None
Obeys finds session command (Some cases) after reply =
    (judgement : Judgement) × IsObeyed finds (turn_in session judgement command) cases after reply

-- a reply as it is handed on: of a case that is shown all but its content
abbrev pub handed : Reply → Reply
handed (replies.Added reference) = replies.Added reference
handed (replies.Kept reference state) = replies.Kept reference state
handed (replies.Decided developer reference outcome) = replies.Decided developer reference outcome
handed (replies.Shown case) = replies.Shown (without_content case)
handed (replies.Text report) = replies.Text report
handed (replies.Appealed reference) = replies.Appealed reference
handed (replies.Ruled developer reference word) = replies.Ruled developer reference word
handed (replies.Lines lines) = replies.Lines lines
handed (replies.No refusal) = replies.No refusal

-- Where the cases are told, the command was carried out as the machine says, and its reply is handed on.
abbrev pub HandsOn : (Content → Judgement → Type 0) → Session → Command → Option (List Case) → Option (List Case)
    → Reply → Type 0
HandsOn finds session command None after reply = after ≡ None
HandsOn finds session command (Some cases) after reply =
    (whole : Reply) × (reply ≡ handed whole) × Obeys finds session command (Some cases) after whole

-- a plan with its reply as it is handed on
abbrev pub handed_plan : Plan → Plan
handed_plan (Say reply) = Say (handed reply)
handed_plan (Do change reply) = Do change (handed reply)
handed_plan (Judge case) = Judge case

-- A case was judged, and the decision on it kept.
pub record IsSettled (finds : Content → Judgement → Type 0) (session : Session) (case : Case)
    (before after : Option (List Case)) (reply : Reply) : Type 0 where
  pub judgement : Judgement
  pub found : finds case.content judgement
  pub reply_is : reply ≡ (settled case (decision_by session judgement)).1
  pub after_is : after ≡ option_map (changed_by (settled case (decision_by session judgement)).0) before
