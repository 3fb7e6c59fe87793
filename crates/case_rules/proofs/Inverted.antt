-- What a rule found where it gave a plan.
use Rattle.std.proofs.Common.{◌≡◌, ◌⊎◌, ℕ, Bool, true, false, not, is_some, is_none, nat_lt, nat_le, List, Option, Some, None, Result, Ok, refl, inl, inr}
use Rattle.std.proofs.lemmas.Bool.{not-true}
use Rattle.vet_base.proofs.Options.{none_from_is_none}
use Rattle.case_rules.specs.declared.case.Case.{Case}
use Rattle.case_rules.specs.declared.case.Content.{Content}
use Rattle.case_rules.specs.declared.case.Entry.{Entry}
use Rattle.case_rules.specs.declared.case.RulingWord.{RulingWord}
use Rattle.store_office.specs.declared.party.Party.{Party}
use Rattle.case_rules.specs.declared.reply.Refusal.{Refusal}
use Rattle.case_rules.specs.declared.reply.Refusal.TheVariants.{WrongRole, NoCase, OtherContent, TooManyOpen, NothingQueued, NotDecided, SameEdition, AppealOpen, NoAppealFor, AppealedAlready, TooLate, NoAppeal, RuledAlready, SameReviewer}
use Rattle.case_rules.specs.declared.reply.Reply.{Reply}
use Rattle.case_rules.specs.declared.reply.Reply.TheVariants as replies
use Rattle.case_rules.specs.declared.reply.Change.TheVariants as changes
use Rattle.case_rules.specs.declared.reply.Plan.{Plan}
use Rattle.case_rules.specs.declared.reply.Plan.TheVariants.{Say, Do, Judge}
use Rattle.case_rules.specs.Cases.{same, same_content, last, state_of, is_open, has_edition, new_case}
use Rattle.case_rules.specs.Rules.{◌>>=◌, allow, known, is_developer, is_reviewer, is_appealable, last_day, submit, submit_anew, decide, show, report, appeal, appeal_against, review, rule, rule_on}

allow_ok : {B : Type 0} (b : Bool) (refusal : Refusal) (f : Unit {0} → Result B Refusal) (y : B)
    → (allow b refusal >>= f) ≡ Ok y → (b ≡ true) × (f tt ≡ Ok y)
allow_ok true refusal f y e = (refl, e)
allow_ok false refusal f y e = absurd cc

known_ok : {A B : Type 0} (o : Option A) (refusal : Refusal) (f : A → Result B Refusal) (y : B)
    → (known o refusal >>= f) ≡ Ok y → (x : A) × ((o ≡ Some x) × (f x ≡ Ok y))
known_ok None refusal f y e = absurd cc
known_ok (Some x) refusal f y e = (x, (refl, e))

abbrev answer : Plan → Result Plan Refusal
answer plan = Ok plan

same_plan : (p q : Plan) → answer p ≡ answer q → q ≡ p
same_plan p q e = cc

pub record Keeps (reference : List ℕ) (content : Content) (found : Option Case) (plan : Plan) : Type 0 where
  pub case : Case
  pub is : found ≡ Some case
  pub bytes : same_content case.content content ≡ true
  pub says : plan ≡ Say (replies.Kept reference (state_of case))

pub record Adds (party : Party) (reference : List ℕ) (content : Content) (found : Option Case)
    (plan : Plan) : Type 0 where
  pub is : found ≡ None
  pub does : plan ≡ Do (changes.Add (new_case party.name reference content)) (replies.Added reference)

anew_plans : (party : Party) (reference : List ℕ) (content : Content) (found : Option Case) (queued : ℕ) (plan : Plan)
    → submit_anew party reference content found queued ≡ Ok plan
    → Keeps reference content found plan ⊎ Adds party reference content found plan
anew_plans party reference content (Some case) queued plan e =
    let a = allow_ok (same_content case.content content) OtherContent _ plan e in
    inl (record { case = case; is = refl; bytes = a.0; says = same_plan _ _ a.1 })
anew_plans party reference content None queued plan e =
    let a = allow_ok (nat_lt queued 1000) (TooManyOpen 1000) _ plan e in
    inr (record { is = refl; does = same_plan _ _ a.1 })

pub submit_plans : (party : Party) (reference : List ℕ) (content : Content) (found : Option Case) (queued : ℕ)
    (plan : Plan)
    → submit party reference content found queued ≡ Ok plan
    → (is_developer party.role ≡ true) × (Keeps reference content found plan ⊎ Adds party reference content found plan)
unfolding submit
submit_plans party reference content found queued plan e =
    let a = allow_ok (is_developer party.role) WrongRole _ plan e in
    (a.0, anew_plans party reference content found queued plan a.1)

pub record Decides (party : Party) (first : Option Case) (plan : Plan) : Type 0 where
  pub role : is_reviewer party.role ≡ true
  pub case : Case
  pub is : first ≡ Some case
  pub judges : plan ≡ Judge case

pub decide_plans : (party : Party) (first : Option Case) (plan : Plan) → decide party first ≡ Ok plan
    → Decides party first plan
unfolding decide
decide_plans party first plan e =
    let a = allow_ok (is_reviewer party.role) WrongRole _ plan e in
    let found = known_ok first NothingQueued _ plan a.1 in
    record { role = a.0; case = found.0; is = found.1.0; judges = same_plan _ _ found.1.1 }

pub record Says (party : Party) (plan : Plan) : Type 0 where
  pub role : is_developer party.role ≡ true
  pub reply : Reply
  pub says : plan ≡ Say reply

pub show_plans : (party : Party) (found : Option Case) (plan : Plan) → show party found ≡ Ok plan → Says party plan
unfolding show
show_plans party found plan e =
    let a = allow_ok (is_developer party.role) WrongRole _ plan e in
    let case = known_ok found NoCase _ plan a.1 in
    record { role = a.0; reply = replies.Shown case.0; says = same_plan _ _ case.1.1 }

pub report_plans : (party : Party) (found : Option Case) (plan : Plan) → report party found ≡ Ok plan → Says party plan
unfolding report
report_plans party found plan e =
    let a = allow_ok (is_developer party.role) WrongRole _ plan e in
    let case = known_ok found NoCase _ plan a.1 in
    let entry = known_ok (last case.0.entries) NotDecided _ plan case.1.1 in
    record { role = a.0; reply = replies.Text entry.0.decision.report; says = same_plan _ _ entry.1.1 }

pub record Appeals (party : Party) (day : ℕ) (reference text : List ℕ) (found : Option Case)
    (plan : Plan) : Type 0 where
  pub role : is_developer party.role ≡ true
  pub case : Case
  pub is : found ≡ Some case
  pub entry : Entry
  pub ends : last case.entries ≡ Some entry
  pub first : entry.appeal ≡ None
  pub does : plan ≡ Do (changes.Appeal party.name reference (record { day = day; text = text }))
      (replies.Appealed reference)

against_plans : (party : Party) (appeal_days day : ℕ) (reference text : List ℕ) (entry : Entry) (plan : Plan)
    → appeal_against party appeal_days day reference text entry ≡ Ok plan
    → (is_none entry.appeal ≡ true)
    × (plan ≡ Do (changes.Appeal party.name reference (record { day = day; text = text }))
    (replies.Appealed reference))
against_plans party appeal_days day reference text entry plan e =
    let taken = allow_ok (is_appealable entry.decision.outcome) (NoAppealFor entry.decision.outcome) _ plan e in
    let first = allow_ok (is_none entry.appeal) AppealedAlready _ plan taken.1 in
    let in_time = allow_ok (nat_le day (last_day appeal_days entry))
    (TooLate (last_day appeal_days entry)) _ plan first.1 in
    (first.0, same_plan _ _ in_time.1)

pub appeal_plans : (party : Party) (appeal_days day : ℕ) (reference text : List ℕ) (found : Option Case) (plan : Plan)
    → appeal party appeal_days day reference text found ≡ Ok plan → Appeals party day reference text found plan
unfolding appeal
appeal_plans party appeal_days day reference text found plan e =
    let a = allow_ok (is_developer party.role) WrongRole _ plan e in
    let case = known_ok found NoCase _ plan a.1 in
    let entry = known_ok (last case.0.entries) NotDecided _ plan case.1.1 in
    let taken = against_plans party appeal_days day reference text entry.0 plan entry.1.1 in
    record {
      role = a.0;
      case = case.0;
      is = case.1.0;
      entry = entry.0;
      ends = entry.1.0;
      first = none_from_is_none entry.0.appeal taken.0;
      does = taken.1;
    }

pub record Reviews (party : Party) (edition : List ℕ) (found : Option Case) (plan : Plan) : Type 0 where
  pub role : is_reviewer party.role ≡ true
  pub case : Case
  pub is : found ≡ Some case
  pub entry : Entry
  pub ends : last case.entries ≡ Some entry
  pub fresh : has_edition edition case ≡ false
  pub closed : is_open entry ≡ false
  pub judges : plan ≡ Judge case

pub review_plans : (party : Party) (edition : List ℕ) (found : Option Case) (plan : Plan)
    → review party edition found ≡ Ok plan → Reviews party edition found plan
unfolding review
review_plans party edition found plan e =
    let a = allow_ok (is_reviewer party.role) WrongRole _ plan e in
    let case = known_ok found NoCase _ plan a.1 in
    let entry = known_ok (last case.0.entries) NotDecided _ plan case.1.1 in
    let fresh = allow_ok (not (has_edition edition case.0)) SameEdition _ plan entry.1.1 in
    let closed = allow_ok (not (is_open entry.0)) AppealOpen _ plan fresh.1 in
    record {
      role = a.0;
      case = case.0;
      is = case.1.0;
      entry = entry.0;
      ends = entry.1.0;
      fresh = not-true (has_edition edition case.0) fresh.0;
      closed = not-true (is_open entry.0) closed.0;
      judges = same_plan _ _ closed.1;
    }

pub record RulesOn (party : Party) (day : ℕ) (developer reference : List ℕ) (word : RulingWord)
    (found : Option Case) (plan : Plan) : Type 0 where
  pub role : is_reviewer party.role ≡ true
  pub case : Case
  pub is : found ≡ Some case
  pub entry : Entry
  pub ends : last case.entries ≡ Some entry
  pub appealed : is_some entry.appeal ≡ true
  pub first : is_none entry.ruling ≡ true
  pub does : plan ≡ Do (changes.Rule developer reference (record { reviewer = party.name; day = day; word = word }))
      (replies.Ruled developer reference word)

on_plans : (party : Party) (day : ℕ) (developer reference : List ℕ) (word : RulingWord) (entry : Entry) (plan : Plan)
    → rule_on party day developer reference word entry ≡ Ok plan
    → (is_some entry.appeal ≡ true) × (is_none entry.ruling ≡ true)
    × (plan ≡ Do (changes.Rule developer reference (record { reviewer = party.name; day = day; word = word }))
    (replies.Ruled developer reference word))
on_plans party day developer reference word entry plan e =
    let appealed = allow_ok (is_some entry.appeal) NoAppeal _ plan e in
    let first = allow_ok (is_none entry.ruling) RuledAlready _ plan appealed.1 in
    let other = allow_ok (not (same entry.decision.reviewer party.name)) SameReviewer _ plan first.1 in
    (appealed.0, first.0, same_plan _ _ other.1)

pub rule_plans : (party : Party) (day : ℕ) (developer reference : List ℕ) (word : RulingWord) (found : Option Case)
    (plan : Plan)
    → rule party day developer reference word found ≡ Ok plan → RulesOn party day developer reference word found plan
unfolding rule
rule_plans party day developer reference word found plan e =
    let a = allow_ok (is_reviewer party.role) WrongRole _ plan e in
    let case = known_ok found NoCase _ plan a.1 in
    let entry = known_ok (last case.0.entries) NoAppeal _ plan case.1.1 in
    let taken = on_plans party day developer reference word entry.0 plan entry.1.1 in
    record {
      role = a.0;
      case = case.0;
      is = case.1.0;
      entry = entry.0;
      ends = entry.1.0;
      appealed = taken.0;
      first = taken.1;
      does = taken.2;
    }
