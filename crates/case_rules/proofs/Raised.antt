-- Cases from before there were editions are treated as they were.
use Rattle.std.proofs.Common.{◌≡◌, ◌==◌, ℕ, ◌+◌, Bool, true, false, cond, ◌&&◌, is_some, is_none, not, nat_lt, nat_le, List, [], ◌∷◌, ◌++◌, Option, Some, None, length, find, filter, map, count_by, fold, option_map, Result, Ok, refl, sym, ap, subst, ◌∙◌}
use Rattle.std.specs.List.{AllByRecursion}
use Rattle.std.proofs.lemmas.Bool.{cond-true, cond-false, false≢true}
use Rattle.std.proofs.lemmas.List.{map-append}
use Rattle.std.specs.BTreeMap.{insert_entry}
use Rattle.case_rules.specs.declared.case.Case.{Case}
use Rattle.case_rules.specs.declared.case.Content.{Content}
use Rattle.case_rules.specs.declared.case.Entry.{Entry}
use Rattle.case_rules.specs.declared.case.Decision.{Decision}
use Rattle.case_rules.specs.declared.case.Appeal.{Appeal}
use Rattle.case_rules.specs.declared.case.Ruling.{Ruling}
use Rattle.case_rules.specs.declared.case.Line.{Line}
use Rattle.case_rules.specs.declared.case.State.{State}
use Rattle.case_rules.specs.declared.case.RulingWord.{RulingWord}
use Rattle.store_office.specs.declared.party.Party.{Party}
use Rattle.store_office.specs.declared.party.Role.{Role}
use Rattle.store_office.specs.declared.party.Role.TheVariants.{Developer, Reviewer}
use Rattle.case_rules.specs.declared.command.Command.{Command}
use Rattle.case_rules.specs.declared.command.Command.TheVariants as commands
use Rattle.case_rules.specs.declared.reply.Refusal.{Refusal}
use Rattle.case_rules.specs.declared.reply.Refusal.TheVariants.{WrongRole, NoCase, OtherContent, TooManyOpen, NothingQueued, NotDecided, NoAppealFor, AppealedAlready, TooLate, NoAppeal, RuledAlready, SameReviewer}
use Rattle.case_rules.specs.declared.reply.Reply.{Reply}
use Rattle.case_rules.specs.declared.reply.Reply.TheVariants as replies
use Rattle.case_rules.specs.declared.reply.Plan.{Plan}
use Rattle.case_rules.specs.Cases.{same, same_content, is_of, is_named, is_queued, is_open_by, has_open_appeal, state_by, state_of, last, change_last, amended, queued_of, put_in_order, lines_of, line_of, name_cmp, with_entry, with_appeal, with_ruling, appeal_entry, rule_entry, entry_of}
use Rattle.case_rules.specs.Rules.{Session, ◌>>=◌, allow, known, is_developer, is_reviewer, is_appealable, submit, submit_anew, decide, show, report, appeal, rule, told}
use Rattle.case_rules.specs.Desk.{Judgement, speaks_of, decision_by, carried, listed, desk}
use Rattle.case_rules.specs.Earlier.{EarlierCase, IsEarlierCase, IsEarlierCommand, ShownEarlier, Plainly, raised, raised_entries, raised_reply, is_called, is_own, is_waiting, awaits_ruling, state_with, earlier_state, place_in_order, earlier_lines, earlier_listed, waiting_of, decide_case, appeal_case, rule_case, Answer, submit_to, told_earlier, earlier_desk}

-- one test on cases as they were, and the same on raised ones
abbrev Agrees : (Case → Bool) → (EarlierCase → Bool) → Type 0
Agrees new old = (case : EarlierCase) → IsEarlierCase case → new (raised case) ≡ old case

abbrev AreEarlier : List EarlierCase → Type 0
AreEarlier cases = AllByRecursion IsEarlierCase cases

found_raised : (new : Case → Bool) (old : EarlierCase → Bool) (cases : List EarlierCase) → Agrees new old
    → AreEarlier cases → find new (map raised cases) ≡ option_map raised (find old cases)
found_raised new old [] agrees all = refl
found_raised new old (c ∷ cases) agrees all = by_test (old c) refl (found_raised new old cases agrees all.1)
  where
    by_test : (b : Bool) → b ≡ old c → find new (map raised cases) ≡ option_map raised (find old cases)
        → find new (map raised (c ∷ cases)) ≡ option_map raised (cond b (Some c) (find old cases))
    by_test true is later = cond-true (new (raised c)) (Some (raised c)) (find new (map raised cases))
        (agrees c all.0 ∙ sym is)
    by_test false is later = cond-false (new (raised c)) (Some (raised c)) (find new (map raised cases))
        (agrees c all.0 ∙ sym is) ∙ later

filter_raised : (new : Case → Bool) (old : EarlierCase → Bool) (cases : List EarlierCase) → Agrees new old
    → AreEarlier cases → filter new (map raised cases) ≡ map raised (filter old cases)
filter_raised new old [] agrees all = refl
filter_raised new old (c ∷ cases) agrees all = by_test (old c) refl (filter_raised new old cases agrees all.1)
  where
    by_test : (b : Bool) → b ≡ old c → filter new (map raised cases) ≡ map raised (filter old cases)
        → filter new (map raised (c ∷ cases)) ≡ map raised (cond b (c ∷ filter old cases) (filter old cases))
    by_test true is later = cond-true (new (raised c)) (raised c ∷ filter new (map raised cases))
        (filter new (map raised cases)) (agrees c all.0 ∙ sym is) ∙ ap (λ (zs : List Case). raised c ∷ zs) later
    by_test false is later = cond-false (new (raised c)) (raised c ∷ filter new (map raised cases))
        (filter new (map raised cases)) (agrees c all.0 ∙ sym is) ∙ later

amended_raised : (new : Case → Bool) (old : EarlierCase → Bool) (f : Case → Case) (g : EarlierCase → EarlierCase)
    (cases : List EarlierCase) → Agrees new old → AreEarlier cases
    → ((case : EarlierCase) → IsEarlierCase case → old case ≡ true → f (raised case) ≡ raised (g case))
    → amended new f (map raised cases) ≡ map raised (amended old g cases)
amended_raised new old f g [] agrees all each = refl
amended_raised new old f g (c ∷ cases) agrees all each =
    by_test (old c) refl (amended_raised new old f g cases agrees all.1 each)
  where
    by_test : (b : Bool) → b ≡ old c → amended new f (map raised cases) ≡ map raised (amended old g cases)
        → amended new f (map raised (c ∷ cases)) ≡ map raised (cond b (g c ∷ cases) (c ∷ amended old g cases))
    by_test true is later =
        cond-true (new (raised c)) (f (raised c) ∷ map raised cases) (raised c ∷ amended new f (map raised cases))
        (agrees c all.0 ∙ sym is)
        ∙ ap (λ (z : Case). z ∷ map raised cases) (each c all.0 (sym is))
    by_test false is later =
        cond-false (new (raised c)) (f (raised c) ∷ map raised cases) (raised c ∷ amended new f (map raised cases))
        (agrees c all.0 ∙ sym is)
        ∙ ap (λ (zs : List Case). raised c ∷ zs) later

waiting_raised : (decision : Option Decision) (appeal : Option Appeal) (ruling : Option Ruling)
    → (length (raised_entries decision appeal ruling) == 0) ≡ is_none decision
waiting_raised None appeal ruling = refl
waiting_raised (Some decision) appeal ruling = refl

waits : Agrees is_queued is_waiting
waits case is = waiting_raised case.decision case.appeal case.ruling

open_raised : (decision : Option Decision) (appeal : Option Appeal) (ruling : Option Ruling)
    → (is_none decision ≡ true → appeal ≡ None)
    → is_open_by (last (raised_entries decision appeal ruling)) ≡ (is_some appeal && is_none ruling)
open_raised None appeal ruling none =
    subst (λ (o : Option Appeal). false ≡ (is_some o && is_none ruling)) (sym (none refl)) refl
open_raised (Some decision) appeal ruling none = refl

awaits : Agrees has_open_appeal awaits_ruling
awaits case is = open_raised case.decision case.appeal case.ruling is.appeal

stage_raised : (decision : Option Decision) (appeal : Option Appeal) (ruling : Option Ruling)
    → state_by (last (raised_entries decision appeal ruling)) ≡ state_with decision appeal ruling
stage_raised None appeal ruling = refl
stage_raised (Some decision) appeal ruling = refl

state_raised : (case : EarlierCase) → state_of (raised case) ≡ earlier_state case
state_raised case = stage_raised case.decision case.appeal case.ruling

called : (party reference : List ℕ) → Agrees (is_named party reference) (is_called party reference)
called party reference case is = refl

placed_raised : (placed : List ((List ℕ × List ℕ) × State)) (cases : List EarlierCase)
    → fold put_in_order placed (map raised cases) ≡ fold place_in_order placed cases
placed_raised placed [] = refl
placed_raised placed (c ∷ cases) =
    ap (λ (s : State). fold put_in_order (insert_entry name_cmp placed (c.party, c.reference) s) (map raised cases))
    (state_raised c)
    ∙ placed_raised (place_in_order placed c) cases

lines_raised : (cases : List EarlierCase) → lines_of (map raised cases) ≡ earlier_lines cases
lines_raised cases = ap (map line_of) (placed_raised [] cases)

counted_raised : (n : ℕ) (cases : List EarlierCase)
    → fold (λ (a : ℕ) (c : Case). a + cond (is_queued c) 1 0) n (map raised cases)
    ≡ fold (λ (a : ℕ) (c : EarlierCase). a + cond (is_waiting c) 1 0) n cases
counted_raised n [] = refl
counted_raised n (c ∷ cases) =
    ap (λ (t : Bool). fold (λ (a : ℕ) (d : Case). a + cond (is_queued d) 1 0) (n + cond t 1 0) (map raised cases))
    (waiting_raised c.decision c.appeal c.ruling)
    ∙ counted_raised (n + cond (is_waiting c) 1 0) cases

queued_raised : (party : List ℕ) (cases : List EarlierCase) → AreEarlier cases
    → queued_of party (map raised cases) ≡ waiting_of party cases
queued_raised party cases all =
    ap (count_by is_queued) (filter_raised (is_of party) (is_own party) cases (λ case is. refl) all)
    ∙ counted_raised 0 (filter (is_own party) cases)

listed_raised : (role : Role) (party : List ℕ) (cases : List EarlierCase) → AreEarlier cases
    → listed role party (map raised cases) ≡ earlier_listed role party cases
listed_raised Developer party cases all =
    ap lines_of (filter_raised (is_of party) (is_own party) cases (λ case is. refl) all)
    ∙ lines_raised (filter (is_own party) cases)
listed_raised Reviewer party cases all =
    ap lines_of (filter_raised has_open_appeal awaits_ruling cases awaits all)
    ∙ lines_raised (filter awaits_ruling cases)

-- the changes
with_entries : EarlierCase → List Entry → Case
with_entries case entries = record {
  party = case.party;
  reference = case.reference;
  content = case.content;
  entries = entries;
}

decided_entries : (old : Option Decision) (appeal : Option Appeal) (ruling : Option Ruling) (decision : Decision)
    → is_none old ≡ true → appeal ≡ None → ruling ≡ None
    → raised_entries old appeal ruling ++ entry_of decision ∷ [] ≡ raised_entries (Some decision) appeal ruling
decided_entries None appeal ruling decision waiting no_appeal no_ruling =
    sym (ap (λ (o : Option Appeal). raised_entries (Some decision) o ruling) no_appeal
    ∙ ap (λ (o : Option Ruling). raised_entries (Some decision) None o) no_ruling)
decided_entries (Some old) appeal ruling decision waiting no_appeal no_ruling = absurd (false≢true waiting)

decided_raised : (decision : Decision) (case : EarlierCase) → IsEarlierCase case → is_waiting case ≡ true
    → with_entry decision (raised case) ≡ raised (decide_case decision case)
unfolding with_entries
decided_raised decision case is waiting =
    let no_appeal = is.appeal waiting in
    ap (with_entries case) (decided_entries case.decision case.appeal case.ruling decision waiting no_appeal
    (is.ruling (ap is_none no_appeal)))

appealed_entries : (decision : Option Decision) (old : Option Appeal) (ruling : Option Ruling) (appeal : Appeal)
    → change_last (appeal_entry appeal) (raised_entries decision old ruling)
    ≡ raised_entries decision (Some appeal) ruling
appealed_entries None old ruling appeal = refl
appealed_entries (Some decision) old ruling appeal = refl

appealed_raised : (appeal : Appeal) (case : EarlierCase)
    → with_appeal appeal (raised case) ≡ raised (appeal_case appeal case)
unfolding with_entries
appealed_raised appeal case = ap (with_entries case) (appealed_entries case.decision case.appeal case.ruling appeal)

ruled_entries : (decision : Option Decision) (appeal : Option Appeal) (old : Option Ruling) (ruling : Ruling)
    → change_last (rule_entry ruling) (raised_entries decision appeal old)
    ≡ raised_entries decision appeal (Some ruling)
ruled_entries None appeal old ruling = refl
ruled_entries (Some decision) appeal old ruling = refl

ruled_raised : (ruling : Ruling) (case : EarlierCase)
    → with_ruling ruling (raised case) ≡ raised (rule_case ruling case)
unfolding with_entries
ruled_raised ruling case = ap (with_entries case) (ruled_entries case.decision case.appeal case.ruling ruling)

abbrev raise : Answer → Reply × List Case
raise answer = (raised_reply answer.0, map raised answer.1)

-- a plan for raised cases does what the old machine did
record Matches (test : Case → Bool) (decision : Decision) (cases : List EarlierCase) (new : Result Plan Refusal)
    (old : Result Answer Refusal) : Type 0 where
  is : carried test decision (told new) (map raised cases) ≡ raise (told_earlier old cases)

module _ (test : Case → Bool) (decision : Decision) (cases : List EarlierCase) where
  allow_both : (b : Bool) (refusal : Refusal) (f : Unit {0} → Result Plan Refusal)
      (g : Unit {0} → Result Answer Refusal)
      → Matches test decision cases (f tt) (g tt)
      → Matches test decision cases (allow b refusal >>= f) (allow b refusal >>= g)
  allow_both true refusal f g then' = then'
  allow_both false refusal f g then' = record { is = refl }

  known_both : (o : Option EarlierCase) (refusal : Refusal) (f : Case → Result Plan Refusal)
      (g : EarlierCase → Result Answer Refusal)
      → ((case : EarlierCase) → Matches test decision cases (f (raised case)) (g case))
      → Matches test decision cases (known (option_map raised o) refusal >>= f) (known o refusal >>= g)
  known_both None refusal f g each = record { is = refl }
  known_both (Some case) refusal f g each = each case

  entry_both : (o : Option Decision) (appeal : Option Appeal) (ruling : Option Ruling) (refusal : Refusal)
      (f : Entry → Result Plan Refusal) (g : Decision → Result Answer Refusal)
      → ((d : Decision) → Matches test decision cases (f
      (record { decision = d; appeal = appeal; ruling = ruling })) (g d))
      → Matches test decision cases (known (last (raised_entries o appeal ruling)) refusal >>= f)
      (known o refusal >>= g)
  entry_both None appeal ruling refusal f g each = record { is = refl }
  entry_both (Some d) appeal ruling refusal f g each = each d

  anew_both : (party : Party) (reference : List ℕ) (content : Content) (found : Option EarlierCase)
      → Matches test decision cases (submit_anew party reference content (option_map raised found)
      (waiting_of party.name cases)) (submit_to party reference content found cases)
  anew_both party reference content (Some case) =
      allow_both (same_content case.content content) OtherContent _ _
      (record { is = ap (λ (s : State). (replies.Kept reference s, map raised cases)) (state_raised case) })
  anew_both party reference content None =
      allow_both (nat_lt (waiting_of party.name cases) 1000)
      (TooManyOpen 1000) _ _
      (record { is = ap (λ (zs : List Case). (replies.Added reference, zs)) (sym (map-append raised cases _)) })

  submit_both : (party : Party) (reference : List ℕ) (content : Content) (found : Option EarlierCase)
      → Matches test decision cases (submit party reference content (option_map raised found)
      (waiting_of party.name cases))
      (allow (is_developer party.role) WrongRole >>= λ _. submit_to party reference content found cases)
  unfolding submit
  submit_both party reference content found =
      allow_both (is_developer party.role) WrongRole _ _ (anew_both party reference content found)

  show_both : (party : Party) (found : Option EarlierCase)
      → Matches test decision cases (show party (option_map raised found))
      (allow (is_developer party.role) WrongRole >>= λ _. known found NoCase >>= λ case.
      Ok (ShownEarlier case, cases))
  unfolding show
  show_both party found = allow_both (is_developer party.role) WrongRole _ _
      (known_both found NoCase _ _ (λ case. record { is = refl }))

  report_both : (party : Party) (found : Option EarlierCase)
      → Matches test decision cases (report party (option_map raised found))
      (allow (is_developer party.role) WrongRole >>= λ _. known found NoCase >>= λ case.
      known case.decision NotDecided >>= λ d. Ok (Plainly (replies.Text d.report), cases))
  unfolding report
  report_both party found = allow_both (is_developer party.role) WrongRole _ _ (known_both found NoCase _ _ (λ case.
      entry_both case.decision case.appeal case.ruling NotDecided _ _ (λ d. record { is = refl })))

  appeal_both : (party : Party) (appeal_days day : ℕ) (reference text : List ℕ) (found : Option EarlierCase)
      → AreEarlier cases
      → Matches test decision cases (appeal party appeal_days day reference text (option_map raised found))
      (allow (is_developer party.role) WrongRole >>= λ _. known found NoCase >>= λ case. known case.decision NotDecided
      >>= λ d. allow (is_appealable d.outcome) (NoAppealFor d.outcome) >>= λ _.
      allow (is_none case.appeal) AppealedAlready
      >>= λ _. allow (nat_le day (d.day + appeal_days)) (TooLate (d.day + appeal_days))
      >>= λ _. Ok (
        Plainly (replies.Appealed reference),
        amended (is_called party.name reference) (appeal_case (record { day = day; text = text })) cases,
      ))
  unfolding appeal
  appeal_both party appeal_days day reference text found all =
      allow_both (is_developer party.role) WrongRole _ _ (known_both found NoCase _ _ (λ case.
      entry_both case.decision case.appeal case.ruling NotDecided _ _ (λ d.
      allow_both (is_appealable d.outcome)
      (NoAppealFor d.outcome) _ _ (allow_both (is_none case.appeal) AppealedAlready _ _
      (allow_both (nat_le day (d.day + appeal_days)) (TooLate (d.day + appeal_days)) _ _ (record {
        is = ap (λ (zs : List Case). (replies.Appealed reference, zs))
            (amended_raised (is_named party.name reference) (is_called party.name reference)
            (with_appeal (record { day = day; text = text }))
            (appeal_case (record { day = day; text = text })) cases
            (called party.name reference) all (λ c is test. appealed_raised (record { day = day; text = text }) c));
      }))))))

  rule_both : (party : Party) (day : ℕ) (developer reference : List ℕ) (word : RulingWord)
      (found : Option EarlierCase) → AreEarlier cases
      → Matches test decision cases (rule party day developer reference word (option_map raised found))
      (allow (is_reviewer party.role) WrongRole >>= λ _. known found NoCase >>= λ case. known case.decision NoAppeal
      >>= λ d. allow (is_some case.appeal) NoAppeal >>= λ _. allow (is_none case.ruling) RuledAlready
      >>= λ _. allow (not (same d.reviewer party.name)) SameReviewer
      >>= λ _. Ok (
        Plainly (replies.Ruled developer reference word),
        amended (is_called developer reference)
            (rule_case (record { reviewer = party.name; day = day; word = word })) cases,
      ))
  unfolding rule
  rule_both party day developer reference word found all =
      allow_both (is_reviewer party.role) WrongRole _ _ (known_both found NoCase _ _ (λ case.
      entry_both case.decision case.appeal case.ruling NoAppeal _ _ (λ d.
      allow_both (is_some case.appeal) NoAppeal _ _ (allow_both (is_none case.ruling) RuledAlready _ _
      (allow_both (not (same d.reviewer party.name)) SameReviewer _ _ (record {
        is = ap (λ (zs : List Case). (replies.Ruled developer reference word, zs))
            (amended_raised (is_named developer reference) (is_called developer reference)
            (with_ruling (record { reviewer = party.name; day = day; word = word }))
            (rule_case (record { reviewer = party.name; day = day; word = word })) cases
            (called developer reference) all
            (λ c is test. ruled_raised (record { reviewer = party.name; day = day; word = word }) c));
      }))))))

decide_both : (decision : Decision) (cases : List EarlierCase) (party : Party) (first : Option EarlierCase)
    → AreEarlier cases
    → Matches is_queued decision cases (decide party (option_map raised first))
    (allow (is_reviewer party.role) WrongRole >>= λ _. known first NothingQueued
    >>= λ case. Ok (
      Plainly (replies.Decided case.party case.reference decision.outcome),
      amended is_waiting (decide_case decision) cases,
    ))
unfolding decide
decide_both decision cases party first all =
    allow_both is_queued decision cases (is_reviewer party.role) WrongRole _ _
    (known_both is_queued decision cases first NothingQueued _ _ (λ case. record {
      is = ap (λ (zs : List Case). (replies.Decided case.party case.reference decision.outcome, zs))
          (amended_raised is_queued is_waiting (with_entry decision)
          (decide_case decision) cases waits all (decided_raised decision));
    }))

pub treated_as_before : (session : Session) (judgement : Judgement) (command : Command) (cases : List EarlierCase)
    → IsEarlierCommand command → AreEarlier cases
    → desk session judgement command (map raised cases)
    ≡ (
      raised_reply (earlier_desk session judgement command cases).0,
      map raised (earlier_desk session judgement command cases).1,
    )
treated_as_before session judgement (commands.Submit reference content) cases earlier all =
    let name = session.party.name in
    let run : Result Plan Refusal → Reply × List Case =
    λ a. carried (speaks_of session (commands.Submit reference content)) (decision_by session judgement)
    (told a) (map raised cases) in
    ap (λ (found : Option Case). run (submit session.party reference content found
    (queued_of name (map raised cases))))
    (found_raised (is_named name reference) (is_called name reference) cases (called name reference) all)
    ∙ ap (λ (queued : ℕ). run (submit session.party reference content
    (option_map raised (find (is_called name reference) cases)) queued)) (queued_raised name cases all)
    ∙ (submit_both (speaks_of session (commands.Submit reference content))
    (decision_by session judgement) cases session.party reference content
    (find (is_called name reference) cases)).is
treated_as_before session judgement commands.Decide cases earlier all =
    ap (λ (first : Option Case). carried is_queued (decision_by session judgement)
    (told (decide session.party first)) (map raised cases)) (found_raised is_queued is_waiting cases waits all)
    ∙ (decide_both (decision_by session judgement) cases session.party (find is_waiting cases) all).is
treated_as_before session judgement (commands.Show reference) cases earlier all =
    let name = session.party.name in
    ap (λ (found : Option Case). carried (is_named name reference) (decision_by session judgement)
    (told (show session.party found)) (map raised cases))
    (found_raised (is_named name reference) (is_called name reference) cases (called name reference) all)
    ∙ (show_both (is_named name reference)
    (decision_by session judgement) cases session.party (find (is_called name reference) cases)).is
treated_as_before session judgement (commands.Report reference) cases earlier all =
    let name = session.party.name in
    ap (λ (found : Option Case). carried (is_named name reference) (decision_by session judgement)
    (told (report session.party found)) (map raised cases))
    (found_raised (is_named name reference) (is_called name reference) cases (called name reference) all)
    ∙ (report_both (is_named name reference)
    (decision_by session judgement) cases session.party (find (is_called name reference) cases)).is
treated_as_before session judgement (commands.Appeal reference text) cases earlier all =
    let name = session.party.name in
    ap (λ (found : Option Case). carried (is_named name reference) (decision_by session judgement)
    (told (appeal session.party session.appeal_days session.day reference text found)) (map raised cases))
    (found_raised (is_named name reference) (is_called name reference) cases (called name reference) all)
    ∙ (appeal_both (is_named name reference)
    (decision_by session judgement) cases session.party session.appeal_days session.day reference text
    (find (is_called name reference) cases) all).is
treated_as_before session judgement (commands.Review developer reference) cases earlier all = absurd earlier
treated_as_before session judgement (commands.Rule developer reference word) cases earlier all =
    ap (λ (found : Option Case). carried (is_named developer reference) (decision_by session judgement)
    (told (rule session.party session.day developer reference word found)) (map raised cases))
    (found_raised (is_named developer reference) (is_called developer reference) cases (called developer reference) all)
    ∙ (rule_both (is_named developer reference)
    (decision_by session judgement) cases session.party session.day developer reference word
    (find (is_called developer reference) cases) all).is
treated_as_before session judgement commands.List cases earlier all =
    ap (λ (lines : List Line). (replies.Lines lines, map raised cases))
    (listed_raised session.party.role session.party.name cases all)
