-- What a command, and connections one after the other, add to the cases: over whatever is found by one who judges.
use Rattle.std.proofs.Common.{◌≡◌, ℕ, Bool, true, false, cond, List, [], ◌∷◌, ◌++◌, map, Option, Some, None, find, Result, Ok, Err, refl, sym, ap, subst, ◌∙◌, inl, inr}
use Rattle.std.specs.List.{AllByRecursion}
use Rattle.std.proofs.lemmas.List.{append-nil, append_assoc}
use Rattle.std.proofs.lemmas.Option.{none-some, same_Some}
use Rattle.sha2.specs.Sha256.{sha256}
use Rattle.desk_links.specs.declared.door.DoorFault.{DoorFault}
use Rattle.case_rules.specs.declared.case.Case.{Case}
use Rattle.case_rules.specs.declared.case.Content.{Content}
use Rattle.case_rules.specs.declared.case.Entry.{Entry}
use Rattle.case_rules.specs.declared.case.Decision.{Decision}
use Rattle.case_rules.specs.declared.case.Appeal.{Appeal}
use Rattle.case_rules.specs.declared.case.Ruling.{Ruling}
use Rattle.case_rules.specs.declared.command.Command.{Command}
use Rattle.case_rules.specs.declared.reply.Refusal.{Refusal}
use Rattle.case_rules.specs.declared.reply.Reply.{Reply}
use Rattle.case_rules.specs.declared.reply.Change.{Change}
use Rattle.case_rules.specs.declared.reply.Change.TheVariants as changes
use Rattle.case_rules.specs.declared.reply.Plan.{Plan}
use Rattle.case_rules.specs.declared.reply.Plan.TheVariants.{Say, Do, Judge}
use Rattle.case_rules.specs.Cases.{is_named, amended, after, change_last, with_entry, with_appeal, with_ruling, appeal_entry, rule_entry, entry_of}
use Rattle.case_rules.specs.Docket.{Fits}
use Rattle.case_rules.specs.Plans.{AddsNoDecision}
use Rattle.case_rules.specs.Rules.{Session, answered, told}
use Rattle.case_rules.specs.Desk.{Judgement, Turn, speaks_of, view_of, plan_over, decision_by, carried, cases_then}
use Rattle.case_rules.specs.Runs.{Standing, Ending, Replied, CutOff, Ended, Unread, Unanswered, ToCommand, ToOther, StoreFailed, NoMemory, carried_out, cases_by}
use Rattle.case_rules.proofs.Effects.{effect}
use Rattle.store_office.specs.declared.office.Office.{Office}
use Rattle.desk_http.specs.declared.asked.Asked.{Asked}
use Rattle.desk_http.specs.declared.asked.HttpFault.{HttpFault}
use Rattle.desk_serving.specs.declared.serving.Served.{Served}
use Rattle.desk_serving.specs.Obeying.{FindsIn, Obeys}
use Rattle.desk_serving.specs.Responding.{setting_of}
use Rattle.desk_serving.specs.Serving.{Outside, IsTurnOf, IsEnd, IsKept}
use Rattle.desk_serving.specs.Run.{Takes, begins, goes_on, Stops, Runs}
use Rattle.desk_service.specs.Judging.{FindsBy}
use Rattle.desk_service.specs.Adding.{IsVerdict, decisions_on, IsDecided, IsDecidedOn, AddsOnly, CommandsAddVerdicts, RunsAddVerdicts}

pub all_append : {A : Type 0} (P : A → Type 0) (xs ys : List A) → AllByRecursion P xs → AllByRecursion P ys
    → AllByRecursion P (xs ++ ys)
all_append P [] ys all more = more
all_append P (x ∷ xs) ys all more = (all.0, all_append P xs ys all.1 more)

abbrev pub decision_in : Entry → Decision
decision_in entry = entry.decision

-- an entry that is changed keeps its decision
kept_decisions : (f : Entry → Entry) → ((e : Entry) → (f e).decision ≡ e.decision) → (entries : List Entry)
    → map decision_in (change_last f entries) ≡ map decision_in entries
kept_decisions f keeps [] = refl
kept_decisions f keeps (e ∷ []) = ap (λ (d : Decision). d ∷ []) (keeps e)
kept_decisions f keeps (e ∷ next ∷ entries) =
    ap (λ (ds : List Decision). e.decision ∷ ds) (kept_decisions f keeps (next ∷ entries))

one_decision_more : (entries : List Entry) (d : Decision)
    → map decision_in (entries ++ entry_of d ∷ []) ≡ map decision_in entries ++ d ∷ []
one_decision_more [] d = refl
one_decision_more (e ∷ entries) d = ap (λ (ds : List Decision). e.decision ∷ ds) (one_decision_more entries d)

module _ (Is : Content → Decision → Type 0) where
  -- one case
  same_decisions : (before after : Case) → after.party ≡ before.party → after.reference ≡ before.reference
      → after.content ≡ before.content → decisions_on after ≡ decisions_on before → IsDecidedOn Is before after
  same_decisions before after party reference content same = record {
    party = party;
    reference = reference;
    content = content;
    added = [];
    decisions = same ∙ sym (append-nil (decisions_on before));
    are = tt;
  }

  as_it_was : (case : Case) → IsDecidedOn Is case case
  as_it_was case = same_decisions case case refl refl refl refl

  and_later : (a b c : Case) → IsDecidedOn Is a b → IsDecidedOn Is b c → IsDecidedOn Is a c
  and_later a b c first second = record {
    party = second.party ∙ first.party;
    reference = second.reference ∙ first.reference;
    content = second.content ∙ first.content;
    added = first.added ++ second.added;
    decisions = second.decisions ∙ ap (λ (ds : List Decision). ds ++ second.added) first.decisions
        ∙ append_assoc (decisions_on a) first.added second.added;
    are = all_append (Is a.content) first.added second.added first.are
        (subst (λ (content : Content). AllByRecursion (Is content) second.added) first.content second.are);
  }

  still_decided : (a b : Case) → IsDecidedOn Is a b → IsDecided Is a → IsDecided Is b
  still_decided a b later are =
      subst (λ (ds : List Decision). AllByRecursion (Is b.content) ds) (sym later.decisions)
      (subst (λ (content : Content). AllByRecursion (Is content) (decisions_on a ++ later.added)) (sym later.content)
      (all_append (Is a.content) (decisions_on a) later.added are later.are))

  appealed : (appeal : Appeal) (case : Case) → IsDecidedOn Is case (with_appeal appeal case)
  appealed appeal case =
      same_decisions case (with_appeal appeal case) refl refl refl (kept_decisions (appeal_entry appeal) (λ e. refl) case.entries)

  ruled : (ruling : Ruling) (case : Case) → IsDecidedOn Is case (with_ruling ruling case)
  ruled ruling case =
      same_decisions case (with_ruling ruling case) refl refl refl (kept_decisions (rule_entry ruling) (λ e. refl) case.entries)

  decided : (decision : Decision) (case : Case) → Is case.content decision → IsDecidedOn Is case (with_entry decision case)
  decided decision case is = record {
    party = refl;
    reference = refl;
    content = refl;
    added = decision ∷ [];
    decisions = one_decision_more case.entries decision;
    are = (is, tt);
  }

  -- all cases
  all_decided : (cases then : List Case) → AllByRecursion (IsDecided Is) cases → AddsOnly Is cases then
      → AllByRecursion (IsDecided Is) then
  all_decided [] then all adds = adds
  all_decided (c ∷ cases) [] all adds = absurd adds
  all_decided (c ∷ cases) (d ∷ then) all adds = (still_decided c d adds.0 all.0, all_decided cases then all.1 adds.1)

  adds_on : (a b c : List Case) → AddsOnly Is a b → AddsOnly Is b c → AddsOnly Is a c
  adds_on [] b c first second = all_decided b c first second
  adds_on (x ∷ a) [] c first second = absurd first
  adds_on (x ∷ a) (y ∷ b) [] first second = absurd second
  adds_on (x ∷ a) (y ∷ b) (z ∷ c) first second = (and_later x y z first.0 second.0, adds_on a b c first.1 second.1)

  adds_none : (cases : List Case) → AddsOnly Is cases cases
  adds_none [] = tt
  adds_none (c ∷ cases) = (as_it_was c, adds_none cases)

  adds_new : (cases : List Case) (case : Case) → IsDecided Is case → AddsOnly Is cases (cases ++ case ∷ [])
  adds_new [] case is = (is, tt)
  adds_new (c ∷ cases) case is = (as_it_was c, adds_new cases case is)

  -- the first case that passes the test is changed
  adds_amended : (test : Case → Bool) (f : Case → Case) (cases : List Case)
      → ((c : Case) → find test cases ≡ Some c → IsDecidedOn Is c (f c)) → AddsOnly Is cases (amended test f cases)
  adds_amended test f [] later = tt
  adds_amended test f (x ∷ xs) later = by_test (test x) later (λ there. adds_amended test f xs there)
    where
      by_test : (b : Bool) → ((z : Case) → cond b (Some x) (find test xs) ≡ Some z → IsDecidedOn Is z (f z))
          → (((z : Case) → find test xs ≡ Some z → IsDecidedOn Is z (f z)) → AddsOnly Is xs (amended test f xs))
          → AddsOnly Is (x ∷ xs) (cond b (f x ∷ xs) (x ∷ amended test f xs))
      by_test true here later = (here x refl, adds_none xs)
      by_test false here later = (as_it_was x, later here)

  changed : (change : Change) (cases : List Case) → AddsNoDecision change → Fits change cases
      → AddsOnly Is cases (after change cases)
  changed (changes.Add case) cases adds fits =
      adds_new cases case
      (subst (λ (es : List Entry). AllByRecursion (Is case.content) (map decision_in es)) (sym fits.1) tt)
  changed (changes.Decide party reference decision) cases adds fits = absurd adds
  changed (changes.Appeal party reference appeal) cases adds fits =
      adds_amended (is_named party reference) (with_appeal appeal) cases (λ case found. appealed appeal case)
  changed (changes.Rule party reference ruling) cases adds fits =
      adds_amended (is_named party reference) (with_ruling ruling) cases (λ case found. ruled ruling case)

  -- where what is found, decided in a session under this edition, is such a decision
  module _ (edition : List ℕ) (finds : Content → Judgement → Type 0)
      (sound : (content : Content) (session : Session) (judgement : Judgement) → session.edition ≡ edition
      → finds content judgement → Is content (decision_by session judgement)) where
    by_answer : (session : Session) (judgement : Judgement) (command : Command) (cases : List Case)
        (answer : Result Plan Refusal) → session.edition ≡ edition
        → answered session command (view_of session command cases) ≡ answer
        → FindsIn finds (told answer) judgement
        → AddsOnly Is cases (carried (speaks_of session command) (decision_by session judgement) (told answer) cases).1
    by_answer session judgement command cases (Err refusal) under is found = adds_none cases
    by_answer session judgement command cases (Ok (Say reply)) under is found = adds_none cases
    by_answer session judgement command cases (Ok (Do change reply)) under is found =
        let done = effect session command cases (Do change reply) is in
        changed change cases done.adds_no_decision done.fits
    by_answer session judgement command cases (Ok (Judge case)) under is found =
        let judged = effect session command cases (Judge case) is in
        let decision : Decision = decision_by session judgement in
        adds_amended (speaks_of session command) (with_entry decision) cases
        (λ c here. decided decision c
        (subst (λ (z : Case). Is z.content decision) (same_Some case c (sym judged.found ∙ here))
        (sound case.content session judgement under found)))

    -- one command
    step : (turn : Turn) (cases : List Case) → turn.session.edition ≡ edition
        → FindsIn finds (plan_over turn.session turn.command cases) turn.judgement → AddsOnly Is cases (cases_then turn cases)
    step turn cases under found = by_answer turn.session turn.judgement turn.command cases _ under refl found

    pub obeyed : (session : Session) (command : Command) (before now : Option (List Case)) (reply : Reply)
        → session.edition ≡ edition → Obeys finds session command before now reply
        → (cases then : List Case) → before ≡ Some cases → now ≡ Some then → AddsOnly Is cases then
    obeyed session command None now reply under obeys cases then told_before told_now = absurd (none-some cases told_before)
    obeyed session command (Some known) now reply under obeys cases then told_before told_now =
        let turn : Turn = record { session = session; judgement = obeys.0; command = command } in
        let after_is : cases_then turn known ≡ then = same_Some (cases_then turn known) then (sym obeys.1.after_is ∙ told_now) in
        subst (λ (cs : List Case). AddsOnly Is cs then) (same_Some known cases told_before)
        (subst (AddsOnly Is known) after_is (step turn known under obeys.1.found))

    -- one connection
    module _ (office : Office) (day : ℕ) (cases : List Case) (request : Result Asked HttpFault) where
      by_turn : (turn : Turn) → IsTurnOf finds (setting_of office edition day) cases request turn
          → AddsOnly Is cases (cases_then turn cases)
      by_turn turn is = step turn cases (ap (λ (s : Session). s.edition) is.session) is.found

      ended : (ending : Ending) (written : List ℕ) (said : Served)
          → IsEnd finds (setting_of office edition day) cases request ending written said
          → AddsOnly Is cases (cases_by (carried_out ending) cases)
      ended (Replied (ToCommand turn)) written said is = by_turn turn is.1.0
      ended (Replied ToOther) written said is = adds_none cases
      ended (Replied StoreFailed) written said is = adds_none cases
      ended (Replied NoMemory) written said is = adds_none cases
      ended (CutOff (ToCommand turn)) written said is = by_turn turn is.2.0
      ended (CutOff ToOther) written said is = adds_none cases
      ended (CutOff StoreFailed) written said is = adds_none cases
      ended (CutOff NoMemory) written said is = adds_none cases
      ended Ended written said is = adds_none cases
      ended Unread written said is = adds_none cases
      ended (Unanswered (Some turn)) written said is = by_turn turn is.0
      ended (Unanswered None) written said is = adds_none cases

    kept : (office : Office) (day : ℕ) (before now : Standing) (request : Result Asked HttpFault) (written : List ℕ)
        (said : Served) → IsKept finds (setting_of office edition day) before now request written said
        → AddsOnly Is before.cases now.cases
    kept office day before now request written said is =
        subst (AddsOnly Is before.cases) (sym is.connection.cases)
        (ended office day before.cases request is.ending written said is.ends)

    -- connections, one after the other
    record IsAfter (cases : List Case) (after : Outside) : Type 0 where
      then : List Case
      cases_are : after.cases ≡ Some then
      adds : AddsOnly Is cases then

    taken : (office : Office) (today : Option ℕ) (entry : Outside) (n : ℕ) (after : Outside) (cases : List Case)
        → Takes finds office edition today entry n after → entry.cases ≡ Some cases → IsAfter cases after
    taken office today entry n after cases begins told =
        record { then = cases; cases_are = told; adds = adds_none cases }
    taken office today entry n after cases (goes_on k before mid next said takes passes came serves) told =
        let m = taken office today entry k before cases takes told in
        let s = serves.kept m.then (passes.cases ∙ m.cases_are) in
        record {
          then = s.0;
          cases_are = s.1;
          adds = adds_on cases m.then s.0 m.adds (kept office serves.day _ _ serves.request serves.written said s.2);
        }

    stopped : (most n : ℕ) (last exit : Outside) (result : Result ℕ DoorFault) → Stops most n last exit result
        → exit.cases ≡ last.cases
    stopped most n last exit (Ok count) stops = elim stops.1 [
      | inl whole ↦ ap (λ (o : Outside). o.cases) whole.1
      | inr fewer ↦ fewer.1.cases
    ]
    stopped most n last exit (Err fault) stops = stops.1.cases

    pub run : (office : Office) (today : Option ℕ) (most : ℕ) (entry exit : Outside) (result : Result ℕ DoorFault)
        → Runs finds office edition today most entry exit result
        → (cases then : List Case) → entry.cases ≡ Some cases → exit.cases ≡ Some then → AddsOnly Is cases then
    run office today most entry exit result runs cases then told told_now =
        let m = taken office today entry runs.n runs.last cases runs.takes told in
        let same : m.then ≡ then = same_Some m.then then
        (sym m.cases_are ∙ (sym (stopped most runs.n runs.last exit result runs.stops) ∙ told_now)) in
        subst (AddsOnly Is cases) same m.adds

-- what is found by lists, decided under their edition, is a verdict by them
verdict : (lists : List ℕ) (content : Content) (session : Session) (judgement : Judgement) → session.edition ≡ sha256 lists
    → FindsBy lists content judgement → IsVerdict lists content (decision_by session judgement)
verdict lists content session judgement under found = record { edition = under; found = found }

pub commands : CommandsAddVerdicts
commands lists session command before now reply under obeys cases then told_before told_now =
    obeyed (IsVerdict lists) (sha256 lists) (FindsBy lists) (verdict lists) session command before now reply under obeys
    cases then told_before told_now

pub runs : RunsAddVerdicts
runs lists office today most entry exit result is cases then told told_now =
    run (IsVerdict lists) (sha256 lists) (FindsBy lists) (verdict lists) office today most entry exit result is
    cases then told told_now
