-- What one connection makes of what the desk has of the developer.
use Rattle.std.proofs.Common.{◌≡◌, ℕ, ◌⊎◌, ◌==◌, ◌||◌, true, false, List, [], ◌∷◌, ◌++◌, take, Option, Some, None, Result, Ok, Err, refl, ap, sym, subst, ◌∙◌, inl, inr}
use Rattle.store_office.specs.declared.office.Office.{Office}
use Rattle.store_office.specs.declared.party.Party.{Party}
use Rattle.store_office.specs.declared.party.Role.{Role}
use Rattle.case_rules.specs.declared.case.Case.{Case}
use Rattle.case_rules.specs.declared.case.Content.{Content}
use Rattle.case_rules.specs.declared.command.Command.TheVariants as commands
use Rattle.case_rules.specs.declared.reply.Refusal.{Refusal}
use Rattle.case_rules.specs.declared.reply.Refusal.TheVariants as refusals
use Rattle.case_rules.specs.declared.reply.Reply.{Reply}
use Rattle.case_rules.specs.Cases.{new_case}
use Rattle.case_rules.specs.Rules.{is_developer}
use Rattle.case_rules.specs.Desk.{Judgement, Turn, reply_to, cases_then}
use Rattle.case_rules.specs.Runs.{Ending, Replied, CutOff, Ended as ended, Unread, Unanswered, ToCommand, ToOther, StoreFailed, NoMemory, carried_out, cases_by}
use Rattle.desk_http.specs.declared.asked.Asked.{Asked}
use Rattle.desk_http.specs.declared.asked.HttpFault.{HttpFault}
use Rattle.desk_http.specs.declared.asked.HttpFault.TheVariants as faults
use Rattle.desk_http.specs.declared.reply.Answer.{Answer}
use Rattle.desk_http.specs.Requests.{Answers}
use Rattle.desk_answers.specs.Texts.{refusal_status}
use Rattle.desk_answers.specs.Answers.{answer_of, answer_to_fault}
use Rattle.desk_routes.specs.declared.command.Turn.TheVariants as turns
use Rattle.desk_routes.specs.Turns.{party_of}
use Rattle.desk_serving.specs.declared.serving.Served.{Served}
use Rattle.desk_serving.specs.declared.serving.Served.TheVariants as served
use Rattle.desk_serving.specs.Responding.{setting_of, IsOther}
use Rattle.desk_serving.specs.Serving.{IsTurnOf, IsEnd}
use Rattle.client_http.specs.ReadAs.{IsReadAs}
use Rattle.client_law.specs.Tried.{HandedIn, held_of, IsAmong, IsAnothers, is_accepted}
use Rattle.client_law.proofs.Fronts.{turn_of_front}
use Rattle.client_law.proofs.Held.{HasReference, held_with, among_last, missed_has_none}
use Rattle.client_law.proofs.Submits.{Submits, refused, kept, added, submits, another_leaves}

-- as before; or with one more, of a reference that was not there
abbrev pub Grows : HandedIn → List HandedIn → List HandedIn → Type 0
Grows x before after = (after ≡ before) ⊎ ((HasReference x.0 before → ⊥) × (after ≡ before ++ x ∷ []))

pub record Visited (x : HandedIn) (before after : List HandedIn) (said : Served) : Type 0 where
  pub grows : Grows x before after
  pub accepted : is_accepted said ≡ true → IsAmong x after

not_accepted : (x : HandedIn) (before after : List HandedIn) (said : Served) → after ≡ before → is_accepted said ≡ false → Visited x before after said
not_accepted x before after said same declined = record { grows = inl same; accepted = λ yes. absurd (let clash : true ≡ false = sym yes ∙ declined in cc) }

refusal_is_none : (refusal : Refusal) → ((refusal_status refusal == 200) || (refusal_status refusal == 201)) ≡ false
refusal_is_none refusals.WrongRole = refl
refusal_is_none refusals.NoCase = refl
refusal_is_none refusals.OtherContent = refl
refusal_is_none (refusals.TooManyOpen limit) = refl
refusal_is_none refusals.NothingQueued = refl
refusal_is_none refusals.NotDecided = refl
refusal_is_none refusals.SameEdition = refl
refusal_is_none refusals.AppealOpen = refl
refusal_is_none (refusals.NoAppealFor outcome) = refl
refusal_is_none refusals.AppealedAlready = refl
refusal_is_none (refusals.TooLate day) = refl
refusal_is_none refusals.NoAppeal = refl
refusal_is_none refusals.RuledAlready = refl
refusal_is_none refusals.SameReviewer = refl

status_of : (a b : Answer) → Some a ≡ Some b → ((a.status == 200) || (a.status == 201)) ≡ false → ((b.status == 200) || (b.status == 201)) ≡ false
status_of a b is declined = let same : a ≡ b = cc in subst (λ (x : Answer). ((x.status == 200) || (x.status == 201)) ≡ false) same declined

fault_is_none : (fault : HttpFault) (answer : Answer) → answer_to_fault fault ≡ Some answer → ((answer.status == 200) || (answer.status == 201)) ≡ false
fault_is_none faults.Ended answer is = absurd (let clash : None ≡ Some answer = is in cc)
fault_is_none faults.ReadFault answer is = absurd (let clash : None ≡ Some answer = is in cc)
fault_is_none faults.Bad answer is = status_of _ answer is refl
fault_is_none faults.NoLength answer is = status_of _ answer is refl
fault_is_none faults.TooLong answer is = status_of _ answer is refl
fault_is_none faults.BigHead answer is = status_of _ answer is refl
fault_is_none faults.Memory answer is = status_of _ answer is refl

-- what a submission makes, where it is carried out
submitted : (party reference : List ℕ) (content : Content) (cases after : List Case) (reply : Reply) (role : Role) (said : Served)
    → Submits party reference content cases after reply → (is_accepted said ≡ true → said ≡ served.Replied (answer_of role reply).status)
    → Visited (reference, content) (held_of party cases) (held_of party after) said
submitted party reference content cases after reply role said (refused refusal is same) says =
    record {
      grows = inl (ap (held_of party) same);
      accepted = λ yes.
          let said_is = says yes in
          let status : is_accepted said ≡ false = ap is_accepted (said_is ∙ ap (λ (r : Reply). served.Replied (answer_of role r).status) is) ∙ refusal_is_none refusal in
          absurd (let clash : true ≡ false = sym yes ∙ status in cc);
    }
submitted party reference content cases after reply role said (kept same among) says =
    record { grows = inl (ap (held_of party) same); accepted = λ yes. subst (λ (zs : List Case). IsAmong (reference, content) (held_of party zs)) (sym same) among }
submitted party reference content cases after reply role said (added none is) says =
    let more = ap (held_of party) is ∙ held_with party (new_case party reference content) cases refl in
    record {
      grows = inr (missed_has_none party reference cases none, more);
      accepted = λ yes. subst (IsAmong (reference, content)) (sym more) (among_last (reference, content) (held_of party cases));
    }

module _ (finds : Content → Judgement → Type 0) (edition : List ℕ) (day : ℕ) (office : Office) (party : Party) (token reference : List ℕ) (content : Content) (request : List ℕ)
    (read : IsReadAs token reference content request) (found : party_of office (Some token) ≡ Some party) (role : is_developer party.role ≡ true) (n : ℕ) where
  -- the turn of such a connection is the submission
  our_turn : (cases : List Case) (r : Result Asked HttpFault) (turn : Turn) → Answers (take n request) r → IsTurnOf finds (setting_of office edition day) cases r turn
      → (turn.session.party ≡ party) × (turn.command ≡ commands.Submit reference content)
  our_turn cases (Ok asked) turn answers is =
      let due = turn_of_front token reference content request n office party asked read found role answers in
      let one : turns.Run turn.session.party turn.command ≡ turns.Run party (commands.Submit reference content) = sym is.command ∙ due in
      let who : turn.session.party ≡ party = cc in
      let what : turn.command ≡ commands.Submit reference content = cc in
      (who, what)
  our_turn cases (Err fault) turn answers is = absurd is.command

  carried : (cases after : List Case) (r : Result Asked HttpFault) (turn : Turn) (said : Served) → Answers (take n request) r → IsTurnOf finds (setting_of office edition day) cases r turn
      → after ≡ cases_then turn cases → (is_accepted said ≡ true → said ≡ served.Replied (answer_of turn.session.party.role (reply_to turn cases)).status)
      → Visited (reference, content) (held_of party.name cases) (held_of party.name after) said
  carried cases after r turn said answers is then says =
      let ours = our_turn cases r turn answers is in
      let does = submits turn reference content cases ours.1 in
      let mine = submitted turn.session.party.name reference content cases (cases_then turn cases) (reply_to turn cases) turn.session.party.role said does says in
      let named = subst (λ (p : Party). Visited (reference, content) (held_of p.name cases) (held_of p.name (cases_then turn cases)) said) ours.0 mine in
      subst (λ (zs : List Case). Visited (reference, content) (held_of party.name cases) (held_of party.name zs) said) (sym then) named

  other_is_none : (r : Result Asked HttpFault) (answer : Answer) → Answers (take n request) r → IsOther office r answer → is_accepted (served.Replied answer.status) ≡ false
  other_is_none (Ok asked) answer answers other =
      let due = turn_of_front token reference content request n office party asked read found role answers in
      absurd (let clash : turns.Answer answer ≡ turns.Run party (commands.Submit reference content) = sym other ∙ due in cc)
  other_is_none (Err fault) answer answers other = fault_is_none fault answer other

  same_as : (cases after : List Case) (said : Served) → after ≡ cases → is_accepted said ≡ false → Visited (reference, content) (held_of party.name cases) (held_of party.name after) said
  same_as cases after said is declined = not_accepted (reference, content) (held_of party.name cases) (held_of party.name after) said (ap (held_of party.name) is) declined

  pub by_ending : (cases after : List Case) (r : Result Asked HttpFault) (ending : Ending) (written : List ℕ) (said : Served)
      → Answers (take n request) r → after ≡ cases_by (carried_out ending) cases → IsEnd finds (setting_of office edition day) cases r ending written said
      → Visited (reference, content) (held_of party.name cases) (held_of party.name after) said
  by_ending cases after r (Replied (ToCommand turn)) written said answers then ends =
      carried cases after r turn said answers ends.1.0 then (λ yes. ends.3 ∙ ap (λ (a : Answer). served.Replied a.status) ends.1.1)
  by_ending cases after r (Replied ToOther) written said answers then ends =
      same_as cases after said then (ap is_accepted ends.3 ∙ other_is_none r ends.0 answers ends.1)
  by_ending cases after r (Replied StoreFailed) written said answers then ends =
      same_as cases after said then (ap is_accepted (ends.3 ∙ ap (λ (a : Answer). served.Replied a.status) ends.1))
  by_ending cases after r (Replied NoMemory) written said answers then ends =
      same_as cases after said then (ap is_accepted (ends.3 ∙ ap (λ (a : Answer). served.Replied a.status) ends.1))
  by_ending cases after r (CutOff (ToCommand turn)) written said answers then ends =
      carried cases after r turn said answers ends.2.0 then (λ yes. absurd (let clash : true ≡ false = sym yes ∙ ap is_accepted ends.4 in cc))
  by_ending cases after r (CutOff ToOther) written said answers then ends = same_as cases after said then (ap is_accepted ends.4)
  by_ending cases after r (CutOff StoreFailed) written said answers then ends = same_as cases after said then (ap is_accepted ends.4)
  by_ending cases after r (CutOff NoMemory) written said answers then ends = same_as cases after said then (ap is_accepted ends.4)
  by_ending cases after r ended written said answers then ends = same_as cases after said then (ap is_accepted ends.2)
  by_ending cases after r Unread written said answers then ends = same_as cases after said then (ap is_accepted ends.2)
  by_ending cases after r (Unanswered None) written said answers then ends = same_as cases after said then (ap is_accepted ends.2)
  by_ending cases after r (Unanswered (Some turn)) written said answers then ends =
      carried cases after r turn said answers ends.0 then (λ yes. absurd (let clash : true ≡ false = sym yes ∙ ap is_accepted ends.2 in cc))

-- what another's connection leaves
pub by_another : (party : List ℕ) (cases after : List Case) (turn : Option Turn) → after ≡ cases_by turn cases → IsAnothers party turn → held_of party after ≡ held_of party cases
by_another party cases after None then apart = ap (held_of party) then
by_another party cases after (Some turn) then apart = ap (held_of party) then ∙ another_leaves party turn cases apart
