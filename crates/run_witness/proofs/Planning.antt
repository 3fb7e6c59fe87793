-- What a command is answered, by the tests of its rule in their order.
use Rattle.std.proofs.Common.{◌≡◌, ◌<◌, ◌≤◌, ℕ, Bool, true, false, not, is_some, is_none, nat_lt, nat_le, ◌&&◌, List, Option, Some, None, Result, Err, refl, ap, ◌∙◌}
use Rattle.std.proofs.lemmas.Bool.{and_parts, le-ltb, lt-leb}
use Rattle.std.specs.Prelude.{nat_eq}
use Rattle.std.specs.Cmp.Lexicographic.{pointwise}
use Rattle.vet_base.proofs.Texts.{same_equal, same_itself, all_equal}
use Rattle.case_rules.specs.declared.case.Appeal.{Appeal}
use Rattle.case_rules.specs.declared.case.Case.{Case}
use Rattle.case_rules.specs.declared.case.Content.{Content}
use Rattle.case_rules.specs.declared.case.Entry.{Entry}
use Rattle.case_rules.specs.declared.case.Ruling.{Ruling}
use Rattle.case_rules.specs.declared.case.RulingWord.{RulingWord}
use Rattle.case_rules.specs.declared.command.Command.TheVariants.{Submit, Appeal as AppealTo, Review, Rule}
use Rattle.case_rules.specs.declared.command.View.{View}
use Rattle.case_rules.specs.declared.reply.Plan.{Plan}
use Rattle.case_rules.specs.declared.reply.Refusal.{Refusal}
use Rattle.case_rules.specs.declared.reply.Refusal.TheVariants.{WrongRole, NoCase, TooManyOpen, NotDecided, NoAppealFor, NoAppeal, AppealedAlready, TooLate, RuledAlready, SameReviewer}
use Rattle.case_rules.specs.Cases.{same, same_content, last}
use Rattle.store_office.specs.declared.party.Role.{Role}
use Rattle.store_office.specs.declared.party.Role.TheVariants.{Developer, Reviewer}
use Rattle.case_rules.specs.Rules.{◌>>=◌, allow, told, known, Session, is_developer, is_reviewer, is_appealable, last_day, submit, submit_anew, appeal, appeal_against, review, rule, rule_on}
use Rattle.run_witness.specs.Plans.{IsRefused, ByDeveloper, ByReviewer, ShowsLast, PlanTells, PlansTell}

allow_true : {B : Type 0} (b : Bool) (refusal : Refusal) (f : Unit {0} → Result B Refusal) → b ≡ true → (allow b refusal >>= f) ≡ f tt
allow_true true refusal f is = refl
allow_true false refusal f is = absurd cc

allow_false : {B : Type 0} (b : Bool) (refusal : Refusal) (f : Unit {0} → Result B Refusal) → b ≡ false → (allow b refusal >>= f) ≡ Err refusal
allow_false true refusal f is = absurd cc
allow_false false refusal f is = refl

known_some : {A B : Type 0} (o : Option A) (refusal : Refusal) (f : A → Result B Refusal) (x : A) → o ≡ Some x → (known o refusal >>= f) ≡ f x
known_some None refusal f x is = absurd cc
known_some (Some y) refusal f x is = let same_is : y ≡ x = cc in ap f same_is

not_below : (n : ℕ) → 1000 ≤ n → nat_lt n 1000 ≡ false
not_below n most = le-ltb n 1000 most

not_within : (n m : ℕ) → m < n → nat_le n m ≡ false
not_within n m late = lt-leb n m late

no_reviewer : (role : Role) → is_developer role ≡ true → is_reviewer role ≡ false
no_reviewer Developer is = refl
no_reviewer Reviewer is = absurd cc

-- the files are those of another content
made : (manifest layouts declaration : List ℕ) (dex : List (List ℕ)) → Content
made manifest layouts declaration dex = record { manifest = manifest; layouts = layouts; declaration = declaration; dex = dex }

own_bytes : (a b : Content) → same_content a b ≡ true → a ≡ b
unfolding made
own_bytes a b is =
    let all = and_parts (same a.manifest b.manifest && same a.layouts b.layouts && same a.declaration b.declaration) (pointwise (pointwise nat_eq) a.dex b.dex) is in
    let texts = and_parts (same a.manifest b.manifest && same a.layouts b.layouts) (same a.declaration b.declaration) all.0 in
    let forms = and_parts (same a.manifest b.manifest) (same a.layouts b.layouts) texts.0 in
    ap (λ (x : List ℕ). made x a.layouts a.declaration a.dex) (same_equal a.manifest b.manifest forms.0)
    ∙ ap (λ (x : List ℕ). made b.manifest x a.declaration a.dex) (same_equal a.layouts b.layouts forms.1)
    ∙ ap (λ (x : List ℕ). made b.manifest b.layouts x a.dex) (same_equal a.declaration b.declaration texts.1)
    ∙ ap (λ (x : List (List ℕ)). made b.manifest b.layouts b.declaration x) (all_equal a.dex b.dex all.1)

module _ (session : Session) (view : View) (entry : Entry) (held : Appeal) (developer reference : List ℕ) (content : Content) (text : List ℕ) (word : RulingWord) where
  a_thousand : ByDeveloper session → view.found ≡ None → 1000 ≤ view.queued → IsRefused session (Submit reference content) view (TooManyOpen 1000)
  unfolding submit
  a_thousand by none many =
      let role : submit session.party reference content view.found view.queued ≡ submit_anew session.party reference content view.found view.queued =
      allow_true (is_developer session.party.role) WrongRole _ by in
      let anew = ap (λ (found : Option Case). submit_anew session.party reference content found view.queued) none in
      ap told (role ∙ anew ∙ allow_false (nat_lt view.queued 1000) (TooManyOpen 1000) _ (not_below view.queued many))

  -- what an appeal against the last decision is answered
  appeal_by : Case → Result Plan Refusal
  appeal_by case = known (last case.entries) NotDecided >>= appeal_against session.party session.appeal_days session.day reference text

  to_appeal : ByDeveloper session → (shows : ShowsLast view entry)
      → appeal session.party session.appeal_days session.day reference text view.found ≡ appeal_against session.party session.appeal_days session.day reference text entry
  unfolding appeal appeal_by
  to_appeal by shows =
      let role : appeal session.party session.appeal_days session.day reference text view.found ≡ (known view.found NoCase >>= appeal_by) =
      allow_true (is_developer session.party.role) WrongRole _ by in
      role ∙ known_some view.found NoCase appeal_by shows.case shows.found ∙ known_some (last shows.case.entries) NotDecided _ entry shows.entry_is

  in_time : ByDeveloper session → ShowsLast view entry → is_appealable entry.decision.outcome ≡ true → entry.appeal ≡ None → last_day session.appeal_days entry < session.day
      → IsRefused session (AppealTo reference text) view (TooLate (last_day session.appeal_days entry))
  in_time by shows appealable none late =
      ap told (to_appeal by shows
      ∙ allow_true (is_appealable entry.decision.outcome) (NoAppealFor entry.decision.outcome) _ appealable
      ∙ allow_true (is_none entry.appeal) AppealedAlready _ (ap is_none none)
      ∙ allow_false (nat_le session.day (last_day session.appeal_days entry)) (TooLate (last_day session.appeal_days entry)) _ (not_within session.day (last_day session.appeal_days entry) late))

  one_appeal : ByDeveloper session → ShowsLast view entry → is_appealable entry.decision.outcome ≡ true → entry.appeal ≡ Some held
      → IsRefused session (AppealTo reference text) view AppealedAlready
  one_appeal by shows appealable has =
      ap told (to_appeal by shows
      ∙ allow_true (is_appealable entry.decision.outcome) (NoAppealFor entry.decision.outcome) _ appealable
      ∙ allow_false (is_none entry.appeal) AppealedAlready _ (ap is_none has))

  -- what a ruling on the last decision is answered
  rule_by : Case → Result Plan Refusal
  rule_by case = known (last case.entries) NoAppeal >>= rule_on session.party session.day developer reference word

  to_rule : ByReviewer session → (shows : ShowsLast view entry)
      → rule session.party session.day developer reference word view.found ≡ rule_on session.party session.day developer reference word entry
  unfolding rule rule_by
  to_rule by shows =
      let role : rule session.party session.day developer reference word view.found ≡ (known view.found NoCase >>= rule_by) =
      allow_true (is_reviewer session.party.role) WrongRole _ by in
      role ∙ known_some view.found NoCase rule_by shows.case shows.found ∙ known_some (last shows.case.entries) NoAppeal _ entry shows.entry_is

  one_ruling : (ruling : Ruling) → ByReviewer session → ShowsLast view entry → entry.appeal ≡ Some held → entry.ruling ≡ Some ruling
      → IsRefused session (Rule developer reference word) view RuledAlready
  one_ruling ruling by shows has ruled =
      ap told (to_rule by shows ∙ allow_true (is_some entry.appeal) NoAppeal _ (ap is_some has) ∙ allow_false (is_none entry.ruling) RuledAlready _ (ap is_none ruled))

  another_reviewer : ByReviewer session → ShowsLast view entry → entry.appeal ≡ Some held → entry.ruling ≡ None → entry.decision.reviewer ≡ session.party.name
      → IsRefused session (Rule developer reference word) view SameReviewer
  another_reviewer by shows has unruled own =
      let is_own : same entry.decision.reviewer session.party.name ≡ true = ap (λ (name : List ℕ). same name session.party.name) own ∙ same_itself session.party.name in
      ap told (to_rule by shows
      ∙ allow_true (is_some entry.appeal) NoAppeal _ (ap is_some has)
      ∙ allow_true (is_none entry.ruling) RuledAlready _ (ap is_none unruled)
      ∙ allow_false (not (same entry.decision.reviewer session.party.name)) SameReviewer _ (ap not is_own))

  own_role : ByDeveloper session → IsRefused session (Review developer reference) view WrongRole
  unfolding review
  own_role by = ap told (allow_false (is_reviewer session.party.role) WrongRole _ (no_reviewer session.party.role by))

  plan_tells : PlanTells session view entry held developer reference content text word
  plan_tells = record {
    a_thousand = a_thousand;
    in_time = in_time;
    one_appeal = one_appeal;
    one_ruling = one_ruling;
    another_reviewer = another_reviewer;
    own_role = own_role;
    own_bytes = own_bytes content;
  }

pub plans_tell : PlansTell
plans_tell = plan_tells
