-- One connection, by what was due and what was written: over the cases, over the link, and whatever is told.
use Rattle.std.proofs.Common.{◌≡◌, ◌≤◌, ◌⊎◌, ℕ, List, [], take, Option, Some, None, IfSome, Result, Ok, Err, refl, sym, ap, subst, ◌∙◌, inl, inr, arith}
use Rattle.std.specs.Option.{option_map}
use Rattle.std.proofs.lemmas.List.{append-nil}
use Rattle.vet_base.specs.Outside.{HasRisen}
use Rattle.desk_links.specs.Links.{Told, without_first, with_written}
use Rattle.case_rules.specs.declared.case.Case.{Case}
use Rattle.case_rules.specs.declared.case.Content.{Content}
use Rattle.store_office.specs.declared.party.Party.{Party}
use Rattle.case_rules.specs.declared.reply.Reply.{Reply}
use Rattle.case_rules.specs.Desk.{Judgement, Turn, reply_to, cases_then}
use Rattle.store_office.specs.declared.office.Office.{Office}
use Rattle.case_rules.specs.Runs.{Replied, CutOff, Ended, Unread, Unanswered, ToCommand, ToOther, StoreFailed, NoMemory, AnswerCause, command_of, cases_by}
use Rattle.case_rules.specs.Runs.{Answer as RunAnswer}
use Rattle.desk_http.specs.declared.asked.Asked.{Asked}
use Rattle.desk_http.specs.declared.asked.HttpFault.{HttpFault}
use Rattle.desk_http.specs.declared.asked.HttpFault.TheVariants as faults
use Rattle.desk_http.specs.declared.reply.Answer.{Answer}
use Rattle.desk_http.specs.Came.{TakesSome}
use Rattle.desk_http.specs.Requests.{Answers}
use Rattle.desk_http.specs.Replies.{Wrote}
use Rattle.desk_serving.specs.declared.responding.Due.{Due}
use Rattle.desk_serving.specs.declared.responding.Due.TheVariants as dues
use Rattle.desk_serving.specs.declared.serving.Served.{Served}
use Rattle.desk_serving.specs.declared.serving.Served.TheVariants as served
use Rattle.desk_serving.specs.Obeying.{turn_in}
use Rattle.desk_serving.specs.Responding.{Setting, setting_of, session_in, CarriesOut, Responds, RaisesStore, answer_in}
use Rattle.desk_serving.specs.Sending.{IsSentOf, ServesRequest, unasked}
use Rattle.desk_answers.specs.Answers.{answer_of}
use Rattle.desk_serving.specs.Serving.{IsTurnOf, IsAnswer, IsMaybeTurn, IsKept, IsTalked, Outside, outside, standing, MayAnswer, to_command, to_other, to_failure, to_want, MayEnd, Serves, bytes_of}

-- what was written of an answer, if any, by what is said of the connection
abbrev IsPut : Option Answer → List ℕ → Served → Type 0
IsPut (Some answer) written (served.Replied status) = (written ≡ bytes_of answer) × (status ≡ answer.status)
IsPut (Some answer) written served.Ended = ⊥
IsPut (Some answer) written served.ReadFault = ⊥
IsPut (Some answer) written served.WriteFault = (n : ℕ) × (written ≡ take n (bytes_of answer))
IsPut (Some answer) written served.Memory = written ≡ []
IsPut None written said = (written ≡ []) × (said ≡ served.Memory)

-- the bytes that were written
record Put (middle now : Option Told) (answer : Option Answer) (said : Served) : Type 0 where
  written : List ℕ
  link : now ≡ option_map (with_written written) middle
  is : IsPut answer written said

-- nothing written is no bytes written
wrote_none : (middle now : Option Told) → now ≡ middle → now ≡ option_map (with_written []) middle
wrote_none None now same = same
wrote_none (Some t) now same = same ∙ ap (λ (w : List ℕ). Some (record t { written = w })) (sym (append-nil t.written))

wrote : (middle now : Option Told) (bytes : List ℕ) → Wrote middle now bytes → now ≡ option_map (with_written bytes) middle
unfolding Wrote
wrote middle now bytes is = is

put : (middle now : Option Told) (answer : Option Answer) (said : Served) → IsSentOf middle now answer said
    → Put middle now answer said
put middle now (Some answer) (served.Replied status) sent =
    record { written = bytes_of answer; link = wrote middle now (bytes_of answer) sent.0; is = (refl, sent.1) }
put middle now (Some answer) served.Ended sent = absurd sent
put middle now (Some answer) served.ReadFault sent = absurd sent
put middle now (Some answer) served.WriteFault sent = record {
  written = take sent.0 (bytes_of answer);
  link = wrote middle now (take sent.0 (bytes_of answer)) sent.1;
  is = (sent.0, refl);
}
put middle now (Some answer) served.Memory sent = record { written = []; link = wrote_none middle now sent; is = refl }
put middle now None said sent = record { written = []; link = wrote_none middle now sent.0; is = (refl, sent.1) }

-- over the link: these bytes were taken from it, and those written
over_link : (old middle now : Option Told) (request : Result Asked HttpFault) (written : List ℕ) (talk : Told) → old ≡ Some talk
    → IfSome old (λ t. Answers t.coming request) → TakesSome old middle → now ≡ option_map (with_written written) middle
    → IsTalked talk now request written
over_link old middle now request written talk is bytes takes link = record {
  of_bytes = subst (λ (z : Option Told). IfSome z (λ t. Answers t.coming request)) is bytes;
  taken = takes.0;
  link = link ∙ ap (option_map (with_written written)) (takes.1 ∙ ap (option_map (without_first takes.0)) is);
}

-- the counts did not fall, and rose where the answer was cut off
record Counts (before after : Outside) (said : Served) : Type 0 where
  store : before.store_faults ≤ after.store_faults
  link : before.link_faults ≤ after.link_faults
  cut : said ≡ served.WriteFault → HasRisen before.link_faults after.link_faults

maybe_turn : (finds : Content → Judgement → Type 0) (setting : Setting) (cases : List Case)
    (request : Result Asked HttpFault) (sent : RunAnswer) (answer : Answer)
    → IsAnswer finds setting cases request sent answer
    → IsMaybeTurn finds setting cases request (command_of sent)
maybe_turn finds setting cases request (ToCommand turn) answer is = is.0
maybe_turn finds setting cases request ToOther answer is = tt
maybe_turn finds setting cases request StoreFailed answer is = tt
maybe_turn finds setting cases request NoMemory answer is = tt

-- over the cases
by_answer : (finds : Content → Judgement → Type 0) (setting : Setting) (cases then : List Case) (before after : Outside)
    (request : Result Asked HttpFault) (sent : RunAnswer) (answer : Answer) (written : List ℕ) (said : Served)
    → IsAnswer finds setting cases request sent answer
    → then ≡ cases_by (command_of sent) cases → AnswerCause (standing cases before) (standing then after) sent
    → Counts before after said → IsPut (Some answer) written said
    → IsKept finds setting (standing cases before) (standing then after) request written said
by_answer finds setting cases then before after request sent answer written (served.Replied status) is same cause counts put = record {
  ending = Replied sent;
  connection = record { cases = same; keeper = counts.store; link = counts.link; cause = cause };
  ends = (answer, is, put.0, ap served.Replied put.1);
}
by_answer finds setting cases then before after request sent answer written served.Ended is same cause counts put = absurd put
by_answer finds setting cases then before after request sent answer written served.ReadFault is same cause counts put = absurd put
by_answer finds setting cases then before after request sent answer written served.WriteFault is same cause counts put = record {
  ending = CutOff sent;
  connection = record { cases = same; keeper = counts.store; link = counts.link; cause = (cause, counts.cut refl) };
  ends = (answer, put.0, is, put.1, refl);
}
by_answer finds setting cases then before after request sent answer written served.Memory is same cause counts put = record {
  ending = Unanswered (command_of sent);
  connection = record { cases = same; keeper = counts.store; link = counts.link; cause = tt };
  ends = (maybe_turn finds setting cases request sent answer is, put, refl);
}

-- a command that was carried out, as a turn
record Carried (finds : Content → Judgement → Type 0) (setting : Setting) (cases : List Case)
    (after : Option (List Case)) (request : Result Asked HttpFault) (party : Party) (reply : Reply) : Type 0 where
  turn : Turn
  is : IsTurnOf finds setting cases request turn
  party_is : turn.session.party ≡ party
  reply_is : reply ≡ reply_to turn cases
  cases_are : after ≡ Some (cases_then turn cases)

carried : (finds : Content → Judgement → Type 0) (setting : Setting) (cases : List Case) (after : Option (List Case))
    (request : Result Asked HttpFault) (party : Party) (reply : Reply)
    → CarriesOut finds setting (Some cases) after request party reply
    → Carried finds setting cases after request party reply
carried finds setting cases after request party reply out = record {
  turn = turn_in (session_in setting party) out.obeys.0 out.command;
  is = record { command = out.is; session = refl; found = out.obeys.1.found };
  party_is = refl;
  reply_is = out.obeys.1.reply_is;
  cases_are = out.obeys.1.after_is;
}

-- one connection over the cases that are told
abbrev KeptAt : (Content → Judgement → Type 0) → Setting → List Case → Outside → Outside → Result Asked HttpFault → List ℕ
    → Served → Type 0
KeptAt finds setting cases before after request written said = (then : List Case) × (after.cases ≡ Some then)
    × IsKept finds setting (standing cases before) (standing then after) request written said

by_due : (finds : Content → Judgement → Type 0) (setting : Setting) (cases : List Case) (before after : Outside)
    (request : Result Asked HttpFault) (due : Due) (written : List ℕ) (said : Served)
    → Responds finds setting (Some cases) after.cases request due
    → RaisesStore before.store_faults after.store_faults due
    → Counts before after said → IsPut (answer_in due) written said
    → KeptAt finds setting cases before after request written said
by_due finds setting cases before after request (dues.Command answer) written said responds raises counts put =
    let c = carried finds setting cases after.cases request responds.0 responds.1 responds.2 in (
      cases_then c.turn cases,
      c.cases_are,
      by_answer finds setting cases _ before after request (ToCommand c.turn) answer written said (
        c.is,
        responds.3 ∙ ap (answer_of responds.0.role) c.reply_is
            ∙ ap (λ (p : Party). answer_of p.role (reply_to c.turn cases)) (sym c.party_is),
      ) refl tt counts put,
    )
by_due finds setting cases before after request (dues.Other answer) written said responds raises counts put = (
  cases,
  responds.1,
  by_answer finds setting cases _ before after request ToOther answer written said responds.0 refl tt counts put,
)
by_due finds setting cases before after request (dues.StoreFailed answer) written said responds raises counts put = (
  cases,
  responds.1,
  by_answer finds setting cases _ before after request StoreFailed answer written said responds.0 refl raises counts put,
)
by_due finds setting cases before after request (dues.NoMemory answer) written said responds raises counts put = (
  cases,
  responds.1,
  by_answer finds setting cases _ before after request NoMemory answer written said responds.0 refl tt counts put,
)
by_due finds setting cases before after request dues.Nothing written said responds raises counts put =
    elim responds [
      | inl same ↦ (
        cases,
        same,
        record {
          ending = Unanswered None;
          connection = record { cases = refl; keeper = counts.store; link = counts.link; cause = tt };
          ends = (tt, put.0, put.1);
        },
      )
      | inr out ↦
          let c = carried finds setting cases after.cases request out.0 out.1 out.2 in (
            cases_then c.turn cases,
            c.cases_are,
            record {
              ending = Unanswered (Some c.turn);
              connection = record { cases = refl; keeper = counts.store; link = counts.link; cause = tt };
              ends = (c.is, put.0, put.1);
            },
          )
    ]

-- whatever is told
ends_with : (office : Office) (request : Result Asked HttpFault) (before after : Outside) (answer : Answer) (written : List ℕ)
    (said : Served) → MayAnswer office request before after answer
    → (said ≡ served.WriteFault → HasRisen before.link_faults after.link_faults) → IsPut (Some answer) written said
    → MayEnd office request before after written said
ends_with office request before after answer written (served.Replied status) may cut put = (answer, may, put.0, put.1)
ends_with office request before after answer written served.Ended may cut put = absurd put
ends_with office request before after answer written served.ReadFault may cut put = absurd put
ends_with office request before after answer written served.WriteFault may cut put = (answer, put.0, may, put.1, cut refl)
ends_with office request before after answer written served.Memory may cut put = put

may_end : (finds : Content → Judgement → Type 0) (setting : Setting) (before after : Outside)
    (request : Result Asked HttpFault) (due : Due) (written : List ℕ) (said : Served)
    → Responds finds setting before.cases after.cases request due
    → RaisesStore before.store_faults after.store_faults due
    → (said ≡ served.WriteFault → HasRisen before.link_faults after.link_faults) → IsPut (answer_in due) written said
    → MayEnd setting.office request before after written said
may_end finds setting before after request (dues.Command answer) written said responds raises cut put =
    ends_with setting.office request before after answer written said
    (to_command responds.0 responds.2.command responds.1 responds.2.is responds.3) cut put
may_end finds setting before after request (dues.Other answer) written said responds raises cut put =
    ends_with setting.office request before after answer written said (to_other responds.0) cut put
may_end finds setting before after request (dues.StoreFailed answer) written said responds raises cut put =
    ends_with setting.office request before after answer written said (to_failure responds.0 raises) cut put
may_end finds setting before after request (dues.NoMemory answer) written said responds raises cut put =
    ends_with setting.office request before after answer written said (to_want responds.0) cut put
may_end finds setting before after request dues.Nothing written said responds raises cut put =
    let At : Served → Type 0 = λ s. MayEnd setting.office request before after written s in
    subst At (sym put.1) put.0

-- the day of a clock that was not asked, where it tells one
abbrev day_of : Option ℕ → ℕ
day_of None = 0
day_of (Some day) = day

is_day : (today : Option ℕ) → IfSome today (λ d. day_of today ≡ d)
is_day None = tt
is_day (Some day) = refl

-- which it is where nothing was asked
early : (request : Result Asked HttpFault) (said : Served) → unasked request ≡ Some said
    → ((request ≡ Err faults.Ended) × (said ≡ served.Ended))
    ⊎ ((request ≡ Err faults.ReadFault) × (said ≡ served.ReadFault))
early (Ok asked) said is = absurd cc
early (Err faults.Ended) said is = inl (refl, cc)
early (Err faults.ReadFault) said is = inr (refl, cc)
early (Err faults.Bad) said is = absurd cc
early (Err faults.NoLength) said is = absurd cc
early (Err faults.TooLong) said is = absurd cc
early (Err faults.BigHead) said is = absurd cc
early (Err faults.Memory) said is = absurd cc

kept_unasked : (finds : Content → Judgement → Type 0) (setting : Setting) (cases : List Case) (before after : Outside)
    (request : Result Asked HttpFault) (said : Served) → before.store_faults ≤ after.store_faults
    → before.link_faults ≤ after.link_faults
    → (request ≡ Err faults.ReadFault → HasRisen before.link_faults after.link_faults)
    → ((request ≡ Err faults.Ended) × (said ≡ served.Ended)) ⊎ ((request ≡ Err faults.ReadFault) × (said ≡ served.ReadFault))
    → IsKept finds setting (standing cases before) (standing cases after) request [] said
kept_unasked finds setting cases before after request said store link cause (inl was) = record {
  ending = Ended;
  connection = record { cases = refl; keeper = store; link = link; cause = tt };
  ends = (was.0, refl, was.1);
}
kept_unasked finds setting cases before after request said store link cause (inr was) = record {
  ending = Unread;
  connection = record { cases = refl; keeper = store; link = link; cause = cause was.0 };
  ends = (was.0, refl, was.1);
}

-- nothing was asked: the connection ended, or the link failed
pub not_asked : (finds : Content → Judgement → Type 0) (office : Office) (edition : List ℕ) (today : Option ℕ)
    (before after : Outside) (request : Result Asked HttpFault) (said : Served) → unasked request ≡ Some said
    → IfSome before.talk (λ talk. Answers talk.coming request) → TakesSome before.talk after.talk
    → after.cases ≡ before.cases → before.store_faults ≤ after.store_faults → before.link_faults ≤ after.link_faults
    → (request ≡ Err faults.ReadFault → HasRisen before.link_faults after.link_faults)
    → Serves finds office edition today before after said
not_asked finds office edition today before after request said is bytes takes same store link cause =
    let May : Served → Type 0 = λ s. MayEnd office request before after [] s in
    record {
      day = day_of today;
      of_clock = is_day today;
      request = request;
      written = [];
      ends = elim (early request said is) [
        | inl was ↦ subst May (sym was.1) (was.0, refl)
        | inr was ↦ subst May (sym was.1) (was.0, refl, cause was.0)
      ];
      store_never_falls = store;
      link_never_falls = link;
      kept = λ cases told. (
        cases,
        same ∙ told,
        kept_unasked finds (setting_of office edition (day_of today)) cases before after
            request said store link cause (early request said is),
      );
      talked = λ talk talks.
          over_link before.talk after.talk after.talk request [] talk talks bytes takes (wrote_none after.talk after.talk refl);
    }

-- a count that rises goes on from one that did not fall
rises_on : (before middle after : ℕ) → before ≤ middle → HasRisen middle after → HasRisen before after
rises_on before middle after falls rises = omega (arith, falls, rises)

-- what was asked was served, on this day
pub asked : (finds : Content → Judgement → Type 0) (office : Office) (edition : List ℕ) (today : Option ℕ) (day : ℕ)
    (before after : Outside) (middle : Option Told) (faults : ℕ) (request : Result Asked HttpFault) (said : Served)
    → IfSome before.talk (λ talk. Answers talk.coming request) → TakesSome before.talk middle
    → before.link_faults ≤ faults
    → IfSome today (λ d. day ≡ d)
    → ServesRequest finds (setting_of office edition day) (outside before.cases before.store_faults middle faults) after request said
    → Serves finds office edition today before after said
asked finds office edition today day before after middle faults request said bytes takes link is s =
    let p = put middle after.talk (answer_in s.due) said s.sent in
    let counts : Counts before after said = record {
      store = s.store_never_falls;
      link = omega (arith, link, s.link_never_falls);
      cut = λ was. rises_on before.link_faults faults after.link_faults link (s.cut was);
    } in
    record {
      day = day;
      of_clock = is;
      request = request;
      written = p.written;
      ends = may_end finds (setting_of office edition day) before after request s.due p.written said s.responds s.store counts.cut p.is;
      store_never_falls = counts.store;
      link_never_falls = counts.link;
      kept = λ cases told.
          by_due finds (setting_of office edition day) cases before after request s.due p.written said
          (subst (λ (z : Option (List Case)). Responds finds (setting_of office edition day) z after.cases request s.due) told s.responds)
          s.store counts p.is;
      talked = λ talk talks. over_link before.talk middle after.talk request p.written talk talks bytes takes p.link;
    }
