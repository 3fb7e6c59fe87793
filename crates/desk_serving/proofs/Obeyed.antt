-- What becomes of a command: by each plan, and of the docket.
use Rattle.std.proofs.Common.{◌≡◌, ℕ, List, [], ◌∷◌, Option, Some, None, Result, Ok, Err, IfOk, IfErr, refl, sym, ap, subst, ◌∙◌}
use Rattle.std.specs.Option.{option_map}
use Rattle.case_rules.specs.declared.case.Case.{Case}
use Rattle.case_rules.specs.declared.case.Content.{Content}
use Rattle.case_rules.specs.declared.case.OutcomeWord.TheVariants.{Clear}
use Rattle.case_rules.specs.declared.command.Command.{Command}
use Rattle.case_rules.specs.declared.reply.Reply.{Reply}
use Rattle.case_rules.specs.declared.reply.Change.{Change}
use Rattle.case_rules.specs.declared.reply.Plan.{Plan}
use Rattle.case_rules.specs.declared.reply.Plan.TheVariants.{Say, Do, Judge}
use Rattle.case_rules.specs.Cases.{after}
use Rattle.case_rules.specs.Rules.{Session, answered}
use Rattle.case_rules.specs.Desk.{Judgement, Turn, decision_by, view_of, plan_over, desk, cases_after}
use Rattle.case_rules.specs.Docket.{IsDocket, Fits}
use Rattle.case_rules.specs.Plans.{IsPlanFor, settled}
use Rattle.case_rules.proofs.Planned.{plan_for}
use Rattle.case_keeper.specs.declared.keeper.KeepFault.{KeepFault}
use Rattle.case_keeper.specs.Keeper.{told_after}
use Rattle.desk_serving.specs.Obeying.{TellsDocket, FindsIn, HandsOn, IsSettled, Obeys, handed, handed_plan, turn_in}

-- the plan is the desk's, with its reply as it is handed on
abbrev pub IsOver : Session → Command → Option (List Case) → Plan → Type 0
IsOver session command before plan =
    (cases : List Case) → before ≡ Some cases → plan ≡ handed_plan (plan_over session command cases)

-- Following the desk's own plan does what the desk does.
does : (session : Session) (command : Command) (judgement : Judgement) (cases : List Case) → IsDocket cases
    → IsPlanFor session judgement command cases (plan_over session command cases)
does session command judgement cases docket =
    plan_for session judgement command cases (answered session command (view_of session command cases)) docket refl

any_judgement : Judgement
any_judgement = record { outcome = Clear; report = [] }

-- what is so of a plan whose reply is handed on
same_said : (reply other : Reply) → Say reply ≡ Say other → reply ≡ other
same_said reply other e = cc

same_done : (change made : Change) (reply other : Reply) → Do change reply ≡ Do made other
    → (change ≡ made) × (reply ≡ other)
same_done change made reply other e = (cc, cc)

say_from : (plan : Plan) (reply : Reply) → Say reply ≡ handed_plan plan
    → (whole : Reply) × (plan ≡ Say whole) × (reply ≡ handed whole)
say_from (Say whole) reply e = (whole, refl, same_said reply (handed whole) e)
say_from (Do change other) reply e = let both : Say reply ≡ Do change (handed other) = e in absurd cc
say_from (Judge case) reply e = let both : Say reply ≡ Judge case = e in absurd cc

do_from : (plan : Plan) (change : Change) (reply : Reply) → Do change reply ≡ handed_plan plan
    → (whole : Reply) × (plan ≡ Do change whole) × (reply ≡ handed whole)
do_from (Say other) change reply e = let both : Do change reply ≡ Say (handed other) = e in absurd cc
do_from (Do made whole) change reply e =
    let same = same_done change made reply (handed whole) e in
    (whole, ap (λ (c : Change). Do c whole) (sym same.0), same.1)
do_from (Judge case) change reply e = let both : Do change reply ≡ Judge case = e in absurd cc

judge_from : (plan : Plan) (case : Case) → Judge case ≡ handed_plan plan → plan ≡ Judge case
judge_from (Say other) case e = let both : Judge case ≡ Say (handed other) = e in absurd cc
judge_from (Do made other) case e = let both : Judge case ≡ Do made (handed other) = e in absurd cc
judge_from (Judge found) case e = sym e

-- reply and cases are those of the desk
obeyed_so : (finds : Content → Judgement → Type 0) (session : Session) (command : Command) (cases later : List Case)
    (now : Option (List Case)) (judgement : Judgement) (whole : Reply)
    → FindsIn finds (plan_over session command cases) judgement
    → desk session judgement command cases ≡ (whole, later) → now ≡ Some later
    → Obeys finds session command (Some cases) now whole
obeyed_so finds session command cases later now judgement whole found is same = (
  judgement,
  record {
    found = found;
    reply_is = sym (ap (λ (s : Reply × List Case). s.0) is);
    after_is = same ∙ sym (ap (λ (s : Reply × List Case). Some s.1) is);
  },
)

pub said : (finds : Content → Judgement → Type 0) (session : Session) (command : Command)
    (before now : Option (List Case)) (reply : Reply) → TellsDocket before
    → IsOver session command before (Say reply) → now ≡ before
    → HandsOn finds session command before now reply
said finds session command None now reply docket over same = same
said finds session command (Some cases) now reply docket over same =
    let plan = plan_over session command cases in
    let from = say_from plan reply (over cases refl) in
    let is = subst (IsPlanFor session any_judgement command cases) from.1
    (does session command any_judgement cases docket) in
    let found = subst (λ (p : Plan). FindsIn finds p any_judgement) (sym from.1) tt in
    (from.0, from.2, obeyed_so finds session command cases cases now any_judgement from.0 found is same)

done : (finds : Content → Judgement → Type 0) (session : Session) (command : Command)
    (before now : Option (List Case)) (change : Change) (reply : Reply) → TellsDocket before
    → IsOver session command before (Do change reply) → now ≡ option_map (after change) before
    → HandsOn finds session command before now reply
done finds session command None now change reply docket over changed = changed
done finds session command (Some cases) now change reply docket over changed =
    let plan = plan_over session command cases in
    let from = do_from plan change reply (over cases refl) in
    let is = subst (IsPlanFor session any_judgement command cases) from.1
    (does session command any_judgement cases docket) in
    let found = subst (λ (p : Plan). FindsIn finds p any_judgement) (sym from.1) tt in (
      from.0,
      from.2,
      obeyed_so finds session command cases (after change cases) now any_judgement from.0 found is.0.desk changed,
    )

judged : (finds : Content → Judgement → Type 0) (session : Session) (command : Command)
    (before now : Option (List Case)) (case : Case) (reply : Reply) → TellsDocket before
    → IsOver session command before (Judge case) → IsSettled finds session case before now reply
    → HandsOn finds session command before now reply
judged finds session command None now case reply docket over settles = settles.after_is
judged finds session command (Some cases) now case reply docket over settles =
    let plan = plan_over session command cases in
    let judgement = settles.judgement in
    let from = judge_from plan case (over cases refl) in
    let made = settled case (decision_by session judgement) in
    let is = subst (IsPlanFor session judgement command cases) from (does session command judgement cases docket) in
    let found = subst (λ (p : Plan). FindsIn finds p judgement) (sym from) settles.found in (
      made.1,
      settles.reply_is,
      obeyed_so finds session command cases (after made.0 cases) now judgement made.1 found is.does.desk settles.after_is,
    )

-- a change of a plan fits
pub fits : (session : Session) (command : Command) (before : Option (List Case)) (change : Change) (reply : Reply)
    → TellsDocket before → IsOver session command before (Do change reply) → (cases : List Case) → before ≡ Some cases
    → Fits change cases
fits session command before change reply docket over cases is =
    let from = do_from (plan_over session command cases) change reply (over cases is) in
    (subst (IsPlanFor session any_judgement command cases) from.1
    (does session command any_judgement cases (subst TellsDocket is docket))).0.fits

-- the decision on a case that is to be judged fits
pub settled_fits : (session : Session) (command : Command) (before : Option (List Case)) (case : Case)
    → TellsDocket before → IsOver session command before (Judge case)
    → (judgement : Judgement) (cases : List Case) → before ≡ Some cases
    → Fits (settled case (decision_by session judgement)).0 cases
settled_fits session command before case docket over judgement cases is =
    let from = judge_from (plan_over session command cases) case (over cases is) in
    (subst (IsPlanFor session judgement command cases) from
    (does session command judgement cases (subst TellsDocket is docket))).does.fits

-- the law of lists of commands
abbrev pub DocketsStay : Type 0
DocketsStay = (turns : List Turn) (cases : List Case) → IsDocket cases → IsDocket (cases_after turns cases)

docket_by : DocketsStay → (finds : Content → Judgement → Type 0) (session : Session) (command : Command)
    (before now : Option (List Case)) (reply : Reply) → TellsDocket before
    → HandsOn finds session command before now reply → TellsDocket now
docket_by law finds session command None now reply docket hands = subst TellsDocket (sym hands) tt
docket_by law finds session command (Some cases) now reply docket hands =
    let obeys = hands.2 in
    subst TellsDocket (sym obeys.1.after_is) (law (turn_in session obeys.0 command ∷ []) cases docket)

pub docket_then : DocketsStay → (finds : Content → Judgement → Type 0) (session : Session) (command : Command)
    (before now : Option (List Case)) (r : Result Reply KeepFault) → TellsDocket before
    → IfOk r (λ reply. HandsOn finds session command before now reply) → IfErr r (λ fault. now ≡ before)
    → TellsDocket now
docket_then law finds session command before now (Ok reply) docket hands err =
    docket_by law finds session command before now reply docket hands
docket_then law finds session command before now (Err fault) docket hands err = subst TellsDocket (sym err) docket

pub done_if : (finds : Content → Judgement → Type 0) (session : Session) (command : Command)
    (before middle now : Option (List Case)) (change : Change) (reply : Reply) (r : Result Reply KeepFault)
    → TellsDocket before
    → IsOver session command before (Do change reply)
    → middle ≡ before → IfOk r (λ x. x ≡ reply) → now ≡ told_after change middle r
    → IfOk r (λ x. HandsOn finds session command before now x)
done_if finds session command before middle now change reply (Ok x) docket over same is told =
    subst (λ (y : Reply). HandsOn finds session command before now y) (sym is)
    (done finds session command before now change reply docket over (told ∙ ap (option_map (after change)) same))
done_if finds session command before middle now change reply (Err fault) docket over same is told = tt

pub judged_if : (finds : Content → Judgement → Type 0) (session : Session) (command : Command)
    (before middle now : Option (List Case)) (case : Case) (r : Result Reply KeepFault) → TellsDocket before
    → IsOver session command before (Judge case) → middle ≡ before
    → IfOk r (λ x. IsSettled finds session case middle now x)
    → IfOk r (λ x. HandsOn finds session command before now x)
judged_if finds session command before middle now case (Ok x) docket over same settles =
    judged finds session command before now case x docket over
    (subst (λ (m : Option (List Case)). IsSettled finds session case m now x) same settles)
judged_if finds session command before middle now case (Err fault) docket over same settles = tt
