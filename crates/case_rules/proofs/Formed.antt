-- References and texts keep their form, whatever commands of that form are carried out.
use Rattle.std.proofs.Common.{◌≡◌, Bool, true, false, cond, List, [], ◌∷◌, ◌++◌, Result, Ok, Err, refl, sym, subst}
use Rattle.std.specs.List.{AllByRecursion}
use Rattle.case_rules.specs.declared.case.Case.{Case}
use Rattle.case_rules.specs.declared.case.Entry.{Entry}
use Rattle.case_rules.specs.declared.command.Command.{Command}
use Rattle.case_rules.specs.declared.reply.Refusal.{Refusal}
use Rattle.case_rules.specs.declared.reply.Change.{Change}
use Rattle.case_rules.specs.declared.reply.Change.TheVariants as changes
use Rattle.case_rules.specs.declared.reply.Plan.{Plan}
use Rattle.case_rules.specs.declared.reply.Plan.TheVariants.{Say, Do, Judge}
use Rattle.case_rules.specs.Cases.{is_named, amended, after, change_last, entry_of, with_entry, with_appeal, with_ruling, appeal_entry, rule_entry}
use Rattle.case_rules.specs.Rules.{Session, answered, told}
use Rattle.case_rules.specs.Desk.{Judgement, Turn, speaks_of, view_of, decision_by, carried, cases_then, cases_after}
use Rattle.case_rules.specs.Docket.{Fits, IsFormed, IsFormedEntry, IsFormedCase, AreFormedCases}
use Rattle.case_rules.specs.Laws.{AreFormed}
use Rattle.case_rules.proofs.Dockets.{IsFormedChange}
use Rattle.case_rules.proofs.Effects.{effect}

entry_more : (entries : List Entry) (entry : Entry) → AllByRecursion IsFormedEntry entries → IsFormedEntry entry
    → AllByRecursion IsFormedEntry (entries ++ entry ∷ [])
entry_more [] entry all is = (is, tt)
entry_more (e ∷ entries) entry all is = (all.0, entry_more entries entry all.1 is)

last_changed : (f : Entry → Entry) (entries : List Entry) → AllByRecursion IsFormedEntry entries
    → ((entry : Entry) → IsFormedEntry entry → IsFormedEntry (f entry))
    → AllByRecursion IsFormedEntry (change_last f entries)
last_changed f [] all each = tt
last_changed f (e ∷ []) all each = (each e all.0, tt)
last_changed f (e ∷ next ∷ entries) all each = (all.0, last_changed f (next ∷ entries) all.1 each)

cases_amended : (test : Case → Bool) (f : Case → Case) (cases : List Case) → AreFormedCases cases
    → ((case : Case) → IsFormedCase case → IsFormedCase (f case)) → AreFormedCases (amended test f cases)
cases_amended test f [] all each = tt
cases_amended test f (c ∷ cases) all each = by_test (test c) (cases_amended test f cases all.1 each)
  where
    by_test : (b : Bool) → AreFormedCases (amended test f cases)
        → AreFormedCases (cond b (f c ∷ cases) (c ∷ amended test f cases))
    by_test true later = (each c all.0, all.1)
    by_test false later = (all.0, later)

case_more : (cases : List Case) (case : Case) → AreFormedCases cases → IsFormedCase case
    → AreFormedCases (cases ++ case ∷ [])
case_more [] case all is = (is, tt)
case_more (c ∷ cases) case all is = (all.0, case_more cases case all.1 is)

forms_after : (change : Change) (cases : List Case) → AreFormedCases cases → Fits change cases → IsFormedChange change
    → AreFormedCases (after change cases)
forms_after (changes.Add case) cases all fits formed =
    case_more cases case all (record {
      reference = formed;
      texts = subst (AllByRecursion IsFormedEntry) (sym fits.1) tt;
    })
forms_after (changes.Decide party reference decision) cases all fits formed =
    cases_amended (is_named party reference) (with_entry decision) cases all
    (λ case is. record {
      reference = is.reference;
      texts = entry_more case.entries (entry_of decision) is.texts tt;
    })
forms_after (changes.Appeal party reference appeal) cases all fits formed =
    cases_amended (is_named party reference) (with_appeal appeal) cases all
    (λ case is. record {
      reference = is.reference;
      texts = last_changed (appeal_entry appeal) case.entries is.texts (λ entry old. formed);
    })
forms_after (changes.Rule party reference ruling) cases all fits formed =
    cases_amended (is_named party reference) (with_ruling ruling) cases all
    (λ case is. record {
      reference = is.reference;
      texts = last_changed (rule_entry ruling) case.entries is.texts (λ entry old. old);
    })

forms_by : (session : Session) (judgement : Judgement) (command : Command) (cases : List Case)
    (answer : Result Plan Refusal) → IsFormed command → AreFormedCases cases
    → answered session command (view_of session command cases) ≡ answer
    → AreFormedCases (carried (speaks_of session command) (decision_by session judgement) (told answer) cases).1
forms_by session judgement command cases (Err refusal) formed all is = all
forms_by session judgement command cases (Ok (Say reply)) formed all is = all
forms_by session judgement command cases (Ok (Do change reply)) formed all is =
    let done = effect session command cases (Do change reply) is in
    forms_after change cases all done.fits (done.formed formed)
forms_by session judgement command cases (Ok (Judge case)) formed all is =
    cases_amended (speaks_of session command) (with_entry (decision_by session judgement)) cases all
    (λ c old. record {
      reference = old.reference;
      texts = entry_more c.entries (entry_of (decision_by session judgement)) old.texts tt;
    })

pub forms_stay : (turns : List Turn) (cases : List Case) → AreFormed turns → AreFormedCases cases
    → AreFormedCases (cases_after turns cases)
forms_stay [] cases formed all = all
forms_stay (turn ∷ turns) cases formed all =
    forms_stay turns (cases_then turn cases) formed.1
    (forms_by turn.session turn.judgement turn.command cases
    (answered turn.session turn.command (view_of turn.session turn.command cases)) formed.0 all refl)
