-- What a developer sees comes from the own cases.
use Rattle.std.proofs.Common.{◌≡◌, ◌≢◌, ℕ, Bool, true, false, cond, List, [], ◌∷◌, ◌++◌, Option, Some, find, count_by, Result, Ok, Err, refl, sym, ap, subst, ◌∙◌, inl, inr}
use Rattle.std.proofs.lemmas.Bool.{cond-true, cond-false, and_left, and_parts, false≢true, false_from_ne_true}
use Rattle.std.proofs.lemmas.List.Elements.{filter-append}
use Rattle.vet_base.proofs.Texts.{same_equal, same_itself}
use Rattle.case_rules.specs.declared.case.Case.{Case}
use Rattle.case_rules.specs.declared.case.Line.{Line}
use Rattle.store_office.specs.declared.party.Party.{Party}
use Rattle.store_office.specs.declared.party.Role.{Role}
use Rattle.store_office.specs.declared.party.Role.TheVariants.{Developer}
use Rattle.case_rules.specs.declared.case.RulingWord.{RulingWord}
use Rattle.case_rules.specs.declared.command.Command.{Command}
use Rattle.case_rules.specs.declared.command.Command.TheVariants as commands
use Rattle.case_rules.specs.declared.command.View.{View}
use Rattle.case_rules.specs.declared.reply.Refusal.{Refusal}
use Rattle.case_rules.specs.declared.reply.Refusal.TheVariants.{WrongRole}
use Rattle.case_rules.specs.declared.reply.Reply.{Reply}
use Rattle.case_rules.specs.declared.reply.Reply.TheVariants as replies
use Rattle.case_rules.specs.declared.reply.Change.{Change}
use Rattle.case_rules.specs.declared.reply.Change.TheVariants as changes
use Rattle.case_rules.specs.declared.reply.Plan.{Plan}
use Rattle.case_rules.specs.declared.reply.Plan.TheVariants.{Say, Do, Judge}
use Rattle.case_rules.specs.Cases.{same, is_of, is_named, is_queued, rows_of, queued_of, lines_of, amended, after, with_appeal}
use Rattle.case_rules.specs.Rules.{Session, is_reviewer, submit, decide, show, report, appeal, review, rule, answered}
use Rattle.case_rules.specs.Desk.{Turn, view_of, listed, reply_to, cases_then, replies_to, cases_after}
use Rattle.case_rules.specs.Laws.{IsBy, IsByAnother, AllBy, AllByOthers}
use Rattle.case_rules.proofs.Inverted.{submit_plans, decide_plans, show_plans, report_plans, appeal_plans, review_plans, rule_plans}
use Rattle.case_rules.proofs.Refused.{step_by}

-- a case of the developer is found among the own ones
find_own : (party reference : List ℕ) (cases : List Case)
    → find (is_named party reference) cases ≡ find (is_named party reference) (rows_of party cases)
find_own party reference [] = refl
find_own party reference (c ∷ cases) = by_party (is_of party c) refl (find_own party reference cases)
  where
    by_party : (b : Bool) → b ≡ is_of party c
        → find (is_named party reference) cases ≡ find (is_named party reference) (rows_of party cases)
        → find (is_named party reference) (c ∷ cases)
        ≡ find (is_named party reference) (cond b (c ∷ rows_of party cases) (rows_of party cases))
    by_party true own later = ap (λ (o : Option Case). cond (is_named party reference c) (Some c) o) later
    by_party false other later =
        cond-false (is_named party reference c) (Some c) (find (is_named party reference) cases)
        (and_left (is_of party c) (same c.reference reference) (sym other)) ∙ later

-- a change of a case of the developer is one among the own ones
amended_own : (party reference : List ℕ) (f : Case → Case) (cases : List Case)
    → ((case : Case) → (f case).party ≡ case.party)
    → rows_of party (amended (is_named party reference) f cases)
    ≡ amended (is_named party reference) f (rows_of party cases)
amended_own party reference f [] kept = refl
amended_own party reference f (c ∷ cases) kept =
    by_party (is_of party c) refl (amended_own party reference f cases kept)
  where
    own : is_of party c ≡ true → is_of party (f c) ≡ true
    own is = ap (λ (x : List ℕ). same x party) (kept c) ∙ is

    by_name : (t : Bool) → is_of party c ≡ true
        → rows_of party (amended (is_named party reference) f cases)
        ≡ amended (is_named party reference) f (rows_of party cases)
        → rows_of party (cond t (f c ∷ cases) (c ∷ amended (is_named party reference) f cases))
        ≡ cond t (f c ∷ rows_of party cases) (c ∷ amended (is_named party reference) f (rows_of party cases))
    by_name true is later = cond-true (is_of party (f c)) (f c ∷ rows_of party cases) (rows_of party cases) (own is)
    by_name false is later =
        cond-true (is_of party c) (c ∷ rows_of party (amended (is_named party reference) f cases))
        (rows_of party (amended (is_named party reference) f cases)) is
        ∙ ap (λ (zs : List Case). c ∷ zs) later

    by_party : (b : Bool) → b ≡ is_of party c
        → rows_of party (amended (is_named party reference) f cases)
        ≡ amended (is_named party reference) f (rows_of party cases)
        → rows_of party (amended (is_named party reference) f (c ∷ cases))
        ≡ amended (is_named party reference) f (cond b (c ∷ rows_of party cases) (rows_of party cases))
    by_party true is later = by_name (is_named party reference c) (sym is) later
    by_party false is later =
        ap (rows_of party) (cond-false (is_named party reference c) (f c ∷ cases)
        (c ∷ amended (is_named party reference) f cases)
        (and_left (is_of party c) (same c.reference reference) (sym is)))
        ∙ cond-false (is_of party c) (c ∷ rows_of party (amended (is_named party reference) f cases))
        (rows_of party (amended (is_named party reference) f cases)) (sym is)
        ∙ later

-- a change of a case of another developer is none of the own ones
amended_other : (party other reference : List ℕ) (f : Case → Case) (cases : List Case)
    → ((case : Case) → (f case).party ≡ case.party) → other ≢ party
    → rows_of party (amended (is_named other reference) f cases) ≡ rows_of party cases
amended_other party other reference f [] kept apart = refl
amended_other party other reference f (c ∷ cases) kept apart =
    by_name (is_named other reference c) refl (amended_other party other reference f cases kept apart)
  where
    not_own : is_named other reference c ≡ true → (x : List ℕ) → x ≡ c.party → same x party ≡ false
    not_own named x is = false_from_ne_true (same x party) (λ own.
        let theirs : c.party ≡ other = same_equal c.party other
        (and_parts (same c.party other) (same c.reference reference) named).0 in
        apart (sym theirs ∙ sym is ∙ same_equal x party own))

    by_name : (t : Bool) → t ≡ is_named other reference c
        → rows_of party (amended (is_named other reference) f cases) ≡ rows_of party cases
        → rows_of party (cond t (f c ∷ cases) (c ∷ amended (is_named other reference) f cases))
        ≡ rows_of party (c ∷ cases)
    by_name true named later =
        cond-false (is_of party (f c)) (f c ∷ rows_of party cases) (rows_of party cases)
        (not_own (sym named) (f c).party (kept c))
        ∙ sym (cond-false (is_of party c) (c ∷ rows_of party cases) (rows_of party cases)
        (not_own (sym named) c.party refl))
    by_name false differs later = ap (λ (zs : List Case). cond (is_of party c) (c ∷ zs) zs) later

-- a developer may not do what a reviewer does
refused_by : (role : Role) → role ≡ Developer → is_reviewer role ≡ true → ⊥
refused_by role is reviewer = false≢true (sym (ap is_reviewer is) ∙ reviewer)

decide_refused : (party : Party) (first : Option Case) → party.role ≡ Developer → decide party first ≡ Err WrongRole
unfolding decide
decide_refused party first role = rw role refl

review_refused : (party : Party) (edition : List ℕ) (found : Option Case) → party.role ≡ Developer
    → review party edition found ≡ Err WrongRole
unfolding review
review_refused party edition found role = rw role refl

rule_refused : (party : Party) (day : ℕ) (developer reference : List ℕ) (word : RulingWord) (found : Option Case)
    → party.role ≡ Developer → rule party day developer reference word found ≡ Err WrongRole
unfolding rule
rule_refused party day developer reference word found role = rw role refl

-- equal own cases, equal answers
answers_alike : (session : Session) (command : Command) (cases others : List Case) → session.party.role ≡ Developer
    → rows_of session.party.name cases ≡ rows_of session.party.name others
    → answered session command (view_of session command cases)
    ≡ answered session command (view_of session command others)
answers_alike session (commands.Submit reference content) cases others role rows =
    ap (λ (found : Option Case). submit session.party reference content found (queued_of session.party.name cases))
    (found_alike session.party.name reference cases others rows)
    ∙ ap (λ (own : List Case). submit session.party reference content
    (find (is_named session.party.name reference) others) (count_by is_queued own)) rows
  where
    found_alike : (party reference : List ℕ) (cases others : List Case) → rows_of party cases ≡ rows_of party others
        → find (is_named party reference) cases ≡ find (is_named party reference) others
    found_alike party reference cases others rows = find_own party reference cases
        ∙ ap (find (is_named party reference)) rows ∙ sym (find_own party reference others)
answers_alike session commands.Decide cases others role rows =
    decide_refused session.party (find is_queued cases) role
    ∙ sym (decide_refused session.party (find is_queued others) role)
answers_alike session (commands.Show reference) cases others role rows =
    ap (λ (found : Option Case). show session.party found)
    (find_own session.party.name reference cases ∙ ap (find (is_named session.party.name reference)) rows
    ∙ sym (find_own session.party.name reference others))
answers_alike session (commands.Report reference) cases others role rows =
    ap (λ (found : Option Case). report session.party found)
    (find_own session.party.name reference cases ∙ ap (find (is_named session.party.name reference)) rows
    ∙ sym (find_own session.party.name reference others))
answers_alike session (commands.Appeal reference text) cases others role rows =
    ap (λ (found : Option Case). appeal session.party session.appeal_days session.day reference text found)
    (find_own session.party.name reference cases ∙ ap (find (is_named session.party.name reference)) rows
    ∙ sym (find_own session.party.name reference others))
answers_alike session (commands.Review developer reference) cases others role rows =
    review_refused session.party session.edition (find (is_named developer reference) cases) role
    ∙ sym (review_refused session.party session.edition (find (is_named developer reference) others) role)
answers_alike session (commands.Rule developer reference word) cases others role rows =
    rule_refused session.party session.day developer reference word (find (is_named developer reference) cases) role
    ∙ sym (rule_refused session.party session.day developer reference word
    (find (is_named developer reference) others) role)
answers_alike session commands.List cases others role rows =
    ap (λ (lines : List Line). Ok (Say (replies.Lines lines)))
    (subst (λ (r : Role). listed r session.party.name cases ≡ listed r session.party.name others) (sym role)
    (ap lines_of rows))

-- what a developer's plan changes is of that developer
abbrev IsOwnChange : List ℕ → Change → Type 0
IsOwnChange party (changes.Add case) = case.party ≡ party
IsOwnChange party (changes.Decide developer reference decision) = ⊥
IsOwnChange party (changes.Appeal developer reference appeal) = developer ≡ party
IsOwnChange party (changes.Rule developer reference ruling) = ⊥

abbrev IsOwnPlan : List ℕ → Plan → Type 0
IsOwnPlan party (Say reply) = Unit {0}
IsOwnPlan party (Do change reply) = IsOwnChange party change
IsOwnPlan party (Judge case) = ⊥

own_plan : (session : Session) (command : Command) (view : View) (plan : Plan) → session.party.role ≡ Developer
    → answered session command view ≡ Ok plan → IsOwnPlan session.party.name plan
own_plan session (commands.Submit reference content) view plan role e =
    let P : Plan → Type 0 = IsOwnPlan session.party.name in
    elim (submit_plans _ _ _ _ _ plan e).1 [
      | inl kept ↦ subst P (sym kept.says) tt
      | inr adds ↦
          subst P (sym adds.does) refl
    ]
own_plan session commands.Decide view plan role e =
    absurd (refused_by session.party.role role (decide_plans _ _ plan e).role)
own_plan session (commands.Show reference) view plan role e =
    subst (IsOwnPlan session.party.name) (sym (show_plans _ _ plan e).says) tt
own_plan session (commands.Report reference) view plan role e =
    subst (IsOwnPlan session.party.name) (sym (report_plans _ _ plan e).says) tt
own_plan session (commands.Appeal reference text) view plan role e =
    subst (IsOwnPlan session.party.name) (sym (appeal_plans _ _ _ _ _ _ plan e).does) refl
own_plan session (commands.Review developer reference) view plan role e =
    absurd (refused_by session.party.role role (review_plans _ _ _ plan e).role)
own_plan session (commands.Rule developer reference word) view plan role e =
    absurd (refused_by session.party.role role (rule_plans _ _ _ _ _ _ plan e).role)
own_plan session commands.List view plan role e = let says : plan ≡ Say (replies.Lines view.lines) = cc in
    subst (IsOwnPlan session.party.name) (sym says) tt

rows_after : (party : List ℕ) (change : Change) (cases : List Case) → IsOwnChange party change
    → rows_of party (after change cases) ≡ after change (rows_of party cases)
rows_after party (changes.Add case) cases own =
    filter-append (is_of party) cases (case ∷ [])
    ∙ ap (λ (zs : List Case). rows_of party cases ++ zs)
    (cond-true (is_of party case) (case ∷ []) [] (ap (λ (x : List ℕ). same x party) own ∙ same_itself party))
rows_after party (changes.Decide developer reference decision) cases own = absurd own
rows_after party (changes.Appeal developer reference appeal) cases own =
    subst (λ (d : List ℕ). rows_of party (amended (is_named d reference) (with_appeal appeal) cases)
    ≡ amended (is_named d reference) (with_appeal appeal) (rows_of party cases)) (sym own)
    (amended_own party reference (with_appeal appeal) cases (λ _. refl))
rows_after party (changes.Rule developer reference ruling) cases own = absurd own

rows_stay : (party other : List ℕ) (change : Change) (cases : List Case) → other ≢ party → IsOwnChange other change
    → rows_of party (after change cases) ≡ rows_of party cases
rows_stay party other (changes.Add case) cases apart own =
    filter-append (is_of party) cases (case ∷ [])
    ∙ ap (λ (zs : List Case). rows_of party cases ++ zs)
    (cond-false (is_of party case) (case ∷ []) [] (false_from_ne_true (is_of party case)
    (λ is. apart (sym own ∙ same_equal case.party party is))))
    ∙ append_none (rows_of party cases)
  where
    append_none : (zs : List Case) → zs ++ [] ≡ zs
    append_none [] = refl
    append_none (z ∷ zs) = ap (λ (ys : List Case). z ∷ ys) (append_none zs)
rows_stay party other (changes.Decide developer reference decision) cases apart own = absurd own
rows_stay party other (changes.Appeal developer reference appeal) cases apart own =
    amended_other party developer reference (with_appeal appeal) cases (λ _. refl) (λ is. apart (sym own ∙ is))
rows_stay party other (changes.Rule developer reference ruling) cases apart own = absurd own

record Alike (party : List ℕ) (turn : Turn) (cases others : List Case) : Type 0 where
  reply : reply_to turn cases ≡ reply_to turn others
  rows : rows_of party (cases_then turn cases) ≡ rows_of party (cases_then turn others)

alike_by : (turn : Turn) (cases others : List Case) (answer : Result Plan Refusal) → turn.session.party.role ≡ Developer
    → answered turn.session turn.command (view_of turn.session turn.command cases) ≡ answer
    → answered turn.session turn.command (view_of turn.session turn.command others) ≡ answer
    → rows_of turn.session.party.name cases ≡ rows_of turn.session.party.name others
    → Alike turn.session.party.name turn cases others
alike_by turn cases others (Err refusal) role is it rows =
    let a = step_by turn cases (Err refusal) is in let b = step_by turn others (Err refusal) it in
    record {
      reply = ap (λ (s : Reply × List Case). s.0) a ∙ sym (ap (λ (s : Reply × List Case). s.0) b);
      rows = ap (λ (s : Reply × List Case). rows_of turn.session.party.name s.1) a ∙ rows
          ∙ sym (ap (λ (s : Reply × List Case). rows_of turn.session.party.name s.1) b);
    }
alike_by turn cases others (Ok (Say reply)) role is it rows =
    let a = step_by turn cases (Ok (Say reply)) is in let b = step_by turn others (Ok (Say reply)) it in
    record {
      reply = ap (λ (s : Reply × List Case). s.0) a ∙ sym (ap (λ (s : Reply × List Case). s.0) b);
      rows = ap (λ (s : Reply × List Case). rows_of turn.session.party.name s.1) a ∙ rows
          ∙ sym (ap (λ (s : Reply × List Case). rows_of turn.session.party.name s.1) b);
    }
alike_by turn cases others (Ok (Do change reply)) role is it rows =
    let a = step_by turn cases (Ok (Do change reply)) is in let b = step_by turn others (Ok (Do change reply)) it in
    let own = own_plan turn.session turn.command (view_of turn.session turn.command cases) (Do change reply) role is in
    record {
      reply = ap (λ (s : Reply × List Case). s.0) a ∙ sym (ap (λ (s : Reply × List Case). s.0) b);
      rows = ap (λ (s : Reply × List Case). rows_of turn.session.party.name s.1) a
          ∙ rows_after turn.session.party.name change cases own ∙ ap (after change) rows
          ∙ sym (rows_after turn.session.party.name change others own)
          ∙ sym (ap (λ (s : Reply × List Case). rows_of turn.session.party.name s.1) b);
    }
alike_by turn cases others (Ok (Judge case)) role is it rows =
    absurd (own_plan turn.session turn.command (view_of turn.session turn.command cases) (Judge case) role is)

alike : (party : List ℕ) (turn : Turn) (cases others : List Case) → IsBy party turn
    → rows_of party cases ≡ rows_of party others → Alike party turn cases others
alike party turn cases others by rows =
    subst (λ (p : List ℕ). Alike p turn cases others) by.name
    (alike_by turn cases others (answered turn.session turn.command (view_of turn.session turn.command others)) by.role
    (answers_alike turn.session turn.command cases others by.role own) refl own)
  where
    own : rows_of turn.session.party.name cases ≡ rows_of turn.session.party.name others
    own = subst (λ (p : List ℕ). rows_of p cases ≡ rows_of p others) (sym by.name) rows

pub same_replies : (party : List ℕ) (turns : List Turn) (cases others : List Case) → AllBy party turns
    → rows_of party cases ≡ rows_of party others
    → replies_to turns cases ≡ replies_to turns others
same_replies party [] cases others by rows = refl
same_replies party (turn ∷ turns) cases others by rows =
    let now = alike party turn cases others by.0 rows in
    ap (λ (r : Reply). r ∷ replies_to turns (cases_then turn cases)) now.reply
    ∙ ap (λ (rs : List Reply). reply_to turn others ∷ rs)
    (same_replies party turns (cases_then turn cases) (cases_then turn others) by.1 now.rows)

stays_by : (party : List ℕ) (turn : Turn) (cases : List Case) (answer : Result Plan Refusal) → IsByAnother party turn
    → answered turn.session turn.command (view_of turn.session turn.command cases) ≡ answer
    → rows_of party (cases_then turn cases) ≡ rows_of party cases
stays_by party turn cases (Err refusal) by is =
    ap (λ (s : Reply × List Case). rows_of party s.1) (step_by turn cases (Err refusal) is)
stays_by party turn cases (Ok (Say reply)) by is =
    ap (λ (s : Reply × List Case). rows_of party s.1) (step_by turn cases (Ok (Say reply)) is)
stays_by party turn cases (Ok (Do change reply)) by is =
    ap (λ (s : Reply × List Case). rows_of party s.1) (step_by turn cases (Ok (Do change reply)) is)
    ∙ rows_stay party turn.session.party.name change cases by.name
    (own_plan turn.session turn.command (view_of turn.session turn.command cases) (Do change reply) by.role is)
stays_by party turn cases (Ok (Judge case)) by is =
    absurd (own_plan turn.session turn.command (view_of turn.session turn.command cases) (Judge case) by.role is)

pub others_leave : (party : List ℕ) (turns : List Turn) (cases : List Case) → AllByOthers party turns
    → rows_of party (cases_after turns cases) ≡ rows_of party cases
others_leave party [] cases by = refl
others_leave party (turn ∷ turns) cases by =
    others_leave party turns (cases_then turn cases) by.1
    ∙ stays_by party turn cases (answered turn.session turn.command (view_of turn.session turn.command cases)) by.0 refl
