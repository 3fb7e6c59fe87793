-- How a connection ends, by what was written and by what became of the cases.
use Rattle.std.proofs.Common.{◌≡◌, ◌⊎◌, inl, inr, ℕ, ◌<◌, ◌+◌, Bool, true, false, not, List, [], ◌∷◌, ◌++◌, drop, map, length, Option, Some, None, Result, Ok, Err, refl, ap, sym, subst, ◌∙◌, arith, lit<, codes}
use Rattle.std.specs.Prelude.{min, if◌then◌else◌, is_some, is_none, nat_lt, nat_le}
use Rattle.std.specs.Fmt.{digits}
use Rattle.std.specs.List.{AllByRecursion}
use Rattle.std.specs.Char.{encode_utf8}
use Rattle.std.proofs.lemmas.Option.{none-some, same_Some}
use Rattle.case_rules.specs.declared.case.Case.{Case}
use Rattle.case_rules.specs.declared.case.Content.{Content}
use Rattle.case_rules.specs.declared.case.Decision.{Decision}
use Rattle.case_rules.specs.declared.case.Entry.{Entry}
use Rattle.case_rules.specs.declared.case.Line.{Line}
use Rattle.case_rules.specs.declared.case.RulingWord.{RulingWord}
use Rattle.case_rules.specs.declared.case.State.TheVariants.{Appealed}
use Rattle.case_rules.specs.declared.command.Command.{Command}
use Rattle.case_rules.specs.declared.command.Command.TheVariants as commands
use Rattle.case_rules.specs.declared.command.View.{View}
use Rattle.case_rules.specs.declared.reply.Change.TheVariants as changes
use Rattle.case_rules.specs.declared.reply.Plan.{Plan}
use Rattle.case_rules.specs.declared.reply.Plan.TheVariants.{Say, Do, Judge}
use Rattle.case_rules.specs.declared.reply.Refusal.{Refusal}
use Rattle.case_rules.specs.declared.reply.Refusal.TheVariants as refusals
use Rattle.case_rules.specs.declared.reply.Reply.{Reply}
use Rattle.case_rules.specs.declared.reply.Reply.TheVariants as replies
use Rattle.case_rules.specs.Cases.{with_entry, with_appeal, with_ruling, is_named, is_open, has_edition, last, same, same_content, state_of, new_case}
use Rattle.case_rules.specs.Desk.{Turn, carried, cases_then, reply_to, decision_by, plan_over, speaks_of, view_of}
use Rattle.case_rules.specs.Rules.{Session, session_of, ◌>>=◌, allow, known, told, answered, is_developer, is_reviewer, is_appealable, last_day, appeal_against, rule_on, submit, decide, show, report, appeal, review, rule}
use Rattle.case_rules.specs.Runs.{Ending, Replied, CutOff, Ended as ended, Unread, Unanswered, ToCommand, ToOther, StoreFailed, NoMemory, carried_out, cases_by}
use Rattle.case_rules.specs.Runs.{Answer as RunAnswer}
use Rattle.desk_answers.specs.Answers.{error_answer, answer_of, answer_to_fault}
use Rattle.desk_answers.specs.Bodies.{error_body, state_body, named_json, lines_body}
use Rattle.desk_answers.specs.Json.{latin1}
use Rattle.desk_answers.specs.Texts.{refusal_status, refusal_text, bad_request, length_required, body_too_long, head_too_long, no_memory, store_failed}
use Rattle.desk_answers.specs.Words.{state_word}
use Rattle.desk_http.specs.declared.asked.Asked.{Asked}
use Rattle.desk_http.specs.declared.asked.HttpFault.{HttpFault}
use Rattle.desk_http.specs.declared.asked.HttpFault.TheVariants as faults
use Rattle.desk_http.specs.declared.reply.Answer.{Answer}
use Rattle.desk_http.specs.Fields.{content_length}
use Rattle.desk_http.specs.Replies.{type_of, version, content_type, connection, close, colon, space, crlf, status_line, field, reply_head, reply_bytes}
use Rattle.desk_links.specs.Links.{Talk, Told, with_written, without_first, ended_with}
use Rattle.desk_routes.specs.declared.command.Turn.TheVariants as turns
use Rattle.desk_routes.specs.Faults.{status_of, text_of}
use Rattle.desk_routes.specs.Turns.{party_of, run_of, turn_by}
use Rattle.desk_routes.proofs.Due.{is_due}
use Rattle.desk_serving.specs.declared.serving.Served.{Served}
use Rattle.desk_serving.specs.declared.serving.Served.TheVariants as served
use Rattle.desk_serving.specs.Responding.{Setting, setting_of, IsCommand, IsOther}
use Rattle.desk_serving.specs.Run.{Exchange, IsAnswered}
use Rattle.desk_serving.specs.Serving.{IsTurnOf, IsAnswer, IsEnd, MayEnd, Outside, Serves, bytes_of}
use Rattle.json.specs.Print.{escape, escape_byte}
use Rattle.store_office.specs.Office.{has_token}
use Rattle.store_office.specs.declared.office.Office.{Office}
use Rattle.store_office.specs.declared.party.Party.{Party}
use Rattle.store_office.specs.declared.party.Role.{Role}
use Rattle.store_office.specs.declared.party.Role.TheVariants.{Reviewer}
use Rattle.run_witness.specs.Commands.{bob, queued, anything}
use Rattle.run_witness.specs.Connections.{bobs_office, appealed, Writes, KeeperTells, LinkTells, ConnectionsEnd}

abbrev first : List ℕ → ℕ
first [] = 0
first (b ∷ bytes) = b

abbrev byte_at : ℕ → List ℕ → ℕ
byte_at n text = first (drop n text)

below : (n m : ℕ) → n < m → n ≡ m → ⊥
below n m less same = omega (arith, less, same)

-- what holds of a plan where the tests before it are passed, and of every refusal
module _ (P : Result Plan Refusal → Type 0) (refused : (refusal : Refusal) → P (Err refusal)) where
  allowed : (b : Bool) (refusal : Refusal) (next : Unit {0} → Result Plan Refusal) → P (next tt) → P (allow b refusal >>= next)
  allowed true refusal next h = h
  allowed false refusal next h = refused refusal

  there : {A : Type 0} (x : Option A) (refusal : Refusal) (next : A → Result Plan Refusal) → ((y : A) → P (next y)) → P (known x refusal >>= next)
  there None refusal next h = refused refusal
  there (Some y) refusal next h = h y

-- the reply that a case was added
abbrev is_added : Reply → Bool
is_added (replies.Added reference) = true
is_added (replies.Kept reference state) = false
is_added (replies.Decided developer reference outcome) = false
is_added (replies.Shown case) = false
is_added (replies.Text text) = false
is_added (replies.Appealed reference) = false
is_added (replies.Ruled developer reference ruling) = false
is_added (replies.Lines lines) = false
is_added (replies.No refusal) = false

-- A plan that is no judging adds no decision, and says that a case was added only where one is.
abbrev Adds : Plan → Type 0
Adds (Say reply) = is_added reply ≡ false
Adds (Do (changes.Add case) reply) = Unit {0}
Adds (Do (changes.Decide party reference decision) reply) = ⊥
Adds (Do (changes.Appeal party reference appeal) reply) = is_added reply ≡ false
Adds (Do (changes.Rule party reference ruling) reply) = is_added reply ≡ false
Adds (Judge case) = Unit {0}

abbrev AddsIn : Result Plan Refusal → Type 0
AddsIn answer = Adds (told answer)

no_plan : (refusal : Refusal) → AddsIn (Err refusal)
no_plan refusal = refl

two_tests : (a b : Bool) (x y : Refusal) (plan : Plan) → Adds plan → AddsIn (allow a x >>= λ _. allow b y >>= λ _. Ok plan)
two_tests true b x y plan h = allowed AddsIn no_plan b y (λ _. Ok plan) h
two_tests false b x y plan h = refl

three_tests : (a b c : Bool) (x y z : Refusal) (plan : Plan) → Adds plan
    → AddsIn (allow a x >>= λ _. allow b y >>= λ _. allow c z >>= λ _. Ok plan)
three_tests true b c x y z plan h = two_tests b c y z plan h
three_tests false b c x y z plan h = refl

at_case : (b : Bool) (found : Option Case) (none : Refusal) (next : Case → Result Plan Refusal) → ((case : Case) → AddsIn (next case))
    → AddsIn (allow b refusals.WrongRole >>= λ _. known found none >>= λ case. next case)
at_case true found none next h = there AddsIn no_plan found none next h
at_case false found none next h = refl

at_entry : (b : Bool) (found : Option Case) (none : Refusal) (next : Case → Entry → Result Plan Refusal)
    → ((case : Case) (entry : Entry) → AddsIn (next case entry))
    → AddsIn (allow b refusals.WrongRole >>= λ _. known found refusals.NoCase >>= λ case. known (last case.entries) none >>= λ entry. next case entry)
at_entry b found none next h =
    at_case b found refusals.NoCase (λ case. known (last case.entries) none >>= λ entry. next case entry)
    (λ case. there AddsIn no_plan (last case.entries) none (next case) (h case))

adds_submitted : (party : Party) (reference : List ℕ) (content : Content) (found : Option Case) (count : ℕ) → AddsIn (submit party reference content found count)
unfolding submit
adds_submitted party reference content (Some case) count =
    two_tests (is_developer party.role) (same_content case.content content) refusals.WrongRole refusals.OtherContent
    (Say (replies.Kept reference (state_of case))) refl
adds_submitted party reference content None count =
    two_tests (is_developer party.role) (nat_lt count 1000) refusals.WrongRole (refusals.TooManyOpen 1000)
    (Do (changes.Add (new_case party.name reference content)) (replies.Added reference)) tt

adds : (session : Session) (command : Command) (view : View) → AddsIn (answered session command view)
unfolding decide show report appeal review rule
adds session (commands.Submit reference content) view = adds_submitted session.party reference content view.found view.queued
adds session commands.Decide view =
    at_case (is_reviewer session.party.role) view.first refusals.NothingQueued (λ case. Ok (Judge case)) (λ case. tt)
adds session (commands.Show reference) view =
    at_case (is_developer session.party.role) view.found refusals.NoCase (λ case. Ok (Say (replies.Shown case))) (λ case. refl)
adds session (commands.Report reference) view =
    at_entry (is_developer session.party.role) view.found refusals.NotDecided (λ case entry. Ok (Say (replies.Text entry.decision.report)))
    (λ case entry. refl)
adds session (commands.Appeal reference text) view =
    at_entry (is_developer session.party.role) view.found refusals.NotDecided
    (λ case entry. appeal_against session.party session.appeal_days session.day reference text entry)
    (λ case entry. three_tests (is_appealable entry.decision.outcome) (is_none entry.appeal) (nat_le session.day (last_day session.appeal_days entry))
    (refusals.NoAppealFor entry.decision.outcome) refusals.AppealedAlready (refusals.TooLate (last_day session.appeal_days entry))
    (Do (changes.Appeal session.party.name reference (record { day = session.day; text = text })) (replies.Appealed reference)) refl)
adds session (commands.Review developer reference) view =
    at_entry (is_reviewer session.party.role) view.found refusals.NotDecided
    (λ case entry. allow (not (has_edition session.edition case)) refusals.SameEdition >>= λ _. allow (not (is_open entry)) refusals.AppealOpen >>= λ _. Ok (Judge case))
    (λ case entry. two_tests (not (has_edition session.edition case)) (not (is_open entry)) refusals.SameEdition refusals.AppealOpen (Judge case) tt)
adds session (commands.Rule developer reference word) view =
    at_entry (is_reviewer session.party.role) view.found refusals.NoAppeal
    (λ case entry. rule_on session.party session.day developer reference word entry)
    (λ case entry. three_tests (is_some entry.appeal) (is_none entry.ruling) (not (same entry.decision.reviewer session.party.name))
    refusals.NoAppeal refusals.RuledAlready refusals.SameReviewer
    (Do (changes.Rule developer reference (record { reviewer = session.party.name; day = session.day; word = word })) (replies.Ruled developer reference word)) refl)
adds session commands.List view = refl

-- the day of the decision on the first case, and 0 where there is none
abbrev day_in : List Entry → ℕ
day_in [] = 0
day_in (e ∷ entries) = e.decision.day

abbrev day_of : List Case → ℕ
day_of [] = 0
day_of (c ∷ cases) = day_in c.entries

abbrev Stays : ℕ → List Case → Type 0
Stays day cases = (day_of cases ≡ 0) ⊎ (day_of cases ≡ day)

stays_either : (day : ℕ) (b : Bool) (changed : Case) → Stays day (changed ∷ []) → Stays day (if b then changed ∷ [] else queued ∷ [])
stays_either day true changed h = h
stays_either day false changed h = inl refl

stays : (test : Case → Bool) (decision : Decision) (plan : Plan) → Adds plan → Stays decision.day (carried test decision plan (queued ∷ [])).1
stays test decision (Say reply) h = inl refl
stays test decision (Do (changes.Add case) reply) h = inl refl
stays test decision (Do (changes.Decide party reference other) reply) h = absurd h
stays test decision (Do (changes.Appeal party reference appeal) reply) h =
    stays_either decision.day (is_named party reference queued) (with_appeal appeal queued) (inl refl)
stays test decision (Do (changes.Rule party reference ruling) reply) h =
    stays_either decision.day (is_named party reference queued) (with_ruling ruling queued) (inl refl)
stays test decision (Judge case) h = stays_either decision.day (test queued) (with_entry decision queued) (inr refl)

turn_stays : (turn : Turn) → Stays turn.session.day (cases_then turn (queued ∷ []))
turn_stays turn =
    stays (speaks_of turn.session turn.command) (decision_by turn.session turn.judgement) (plan_over turn.session turn.command (queued ∷ []))
    (adds turn.session turn.command (view_of turn.session turn.command (queued ∷ [])))

module _ (setting : Setting) (request : Result Asked HttpFault) where
  turn_on_day : (turn : Turn) → IsTurnOf anything setting (queued ∷ []) request turn → Stays setting.day (cases_then turn (queued ∷ []))
  turn_on_day turn is =
      subst (λ (day : ℕ). Stays day (cases_then turn (queued ∷ []))) (ap (λ (s : Session). s.day) is.session) (turn_stays turn)

  ends_on_day : (ending : Ending) (written : List ℕ) (said : Served) → IsEnd anything setting (queued ∷ []) request ending written said
      → Stays setting.day (cases_by (carried_out ending) (queued ∷ []))
  ends_on_day (Replied (ToCommand turn)) written said e = turn_on_day turn e.1.0
  ends_on_day (Replied ToOther) written said e = inl refl
  ends_on_day (Replied StoreFailed) written said e = inl refl
  ends_on_day (Replied NoMemory) written said e = inl refl
  ends_on_day (CutOff (ToCommand turn)) written said e = turn_on_day turn e.2.0
  ends_on_day (CutOff ToOther) written said e = inl refl
  ends_on_day (CutOff StoreFailed) written said e = inl refl
  ends_on_day (CutOff NoMemory) written said e = inl refl
  ends_on_day ended written said e = inl refl
  ends_on_day Unread written said e = inl refl
  ends_on_day (Unanswered (Some turn)) written said e = turn_on_day turn e.0
  ends_on_day (Unanswered None) written said e = inl refl

first_day : (day n : ℕ) → day ≡ 100 → n ≡ 1 → (n ≡ 0) ⊎ (n ≡ day) → ⊥
first_day day n today is (inl none) = omega (arith, is, none)
first_day day n today is (inr same) = omega (arith, today, is, same)

-- what was replied
record Sent (setting : Setting) (cases : List Case) (request : Result Asked HttpFault) (written : List ℕ) (status : ℕ) : Type 0 where
  sent : RunAnswer
  answer : Answer
  is : IsAnswer anything setting cases request sent answer
  bytes : written ≡ bytes_of answer
  said : status ≡ answer.status

same_status : (n m : ℕ) → served.Replied n ≡ served.Replied m → n ≡ m
same_status n m same = cc

replied : (setting : Setting) (cases : List Case) (request : Result Asked HttpFault) (ending : Ending) (written : List ℕ) (status : ℕ)
    → IsEnd anything setting cases request ending written (served.Replied status) → Sent setting cases request written status
replied setting cases request (Replied sent) written status e =
    record { sent = sent; answer = e.0; is = e.1; bytes = e.2; said = same_status status e.0.status e.3 }
replied setting cases request (CutOff sent) written status e = let clash = e.4 in absurd cc
replied setting cases request ended written status e = let clash = e.2 in absurd cc
replied setting cases request Unread written status e = let clash = e.2 in absurd cc
replied setting cases request (Unanswered turn) written status e = let clash = e.2 in absurd cc

-- what was written, of the answer
record Wrote (setting : Setting) (cases : List Case) (bytes : List ℕ) (status : ℕ) : Type 0 where
  request : Result Asked HttpFault
  sent : Sent setting cases request bytes status

written_is : (office : Office) (edition : List ℕ) (today : Option ℕ) (before after : Outside) (bytes : List ℕ) (said : Served)
    → Writes before after bytes → (serves : Serves anything office edition today before after said) → serves.written ≡ bytes
written_is office edition today before after bytes said writes serves =
    let t = serves.talked writes.talk writes.talk_is in
    let now : writes.then ≡ with_written serves.written (without_first t.taken writes.talk) = same_Some _ _ (sym writes.then_is ∙ t.link) in
    sym (ap (λ (t : Told). t.written) now ∙ ap (λ (w : List ℕ). w ++ serves.written) writes.none) ∙ writes.all

-- over the cases as well
wrote : (office : Office) (edition : List ℕ) (before after : Outside) (cases : List Case) (bytes : List ℕ) (status : ℕ)
    → before.cases ≡ Some cases → Writes before after bytes → Serves anything office edition None before after (served.Replied status)
    → (day : ℕ) × Wrote (setting_of office edition day) cases bytes status
wrote office edition before after cases bytes status told writes serves =
    let kept = (serves.kept cases told).2 in
    let setting = setting_of office edition serves.day in
    let sent = replied setting cases serves.request kept.ending serves.written status kept.ends in
    let all = written_is office edition None before after bytes (served.Replied status) writes serves in
    (serves.day, record { request = serves.request; sent = subst (λ (w : List ℕ). Sent setting cases serves.request w status) all sent })

-- the answer of which these bytes are
record Answered (bytes : List ℕ) (status : ℕ) : Type 0 where
  answer : Answer
  bytes_are : bytes ≡ bytes_of answer
  status_is : status ≡ answer.status

answer_by : (office : Office) (edition : List ℕ) (before after : Outside) (bytes : List ℕ) (status : ℕ)
    → Writes before after bytes → Serves anything office edition None before after (served.Replied status) → Answered bytes status
answer_by office edition before after bytes status writes serves =
    let all = written_is office edition None before after bytes (served.Replied status) writes serves in
    record { answer = serves.ends.0; bytes_are = sym all ∙ serves.ends.2; status_is = serves.ends.3 }

own_status : (is_text : Bool) (body : List ℕ) (answer : Answer) → 200 ≡ answer.status → reply_bytes 404 is_text body ≡ bytes_of answer → ⊥
unfolding version status_line reply_head digits
own_status is_text body answer said same =
    let at : reply_bytes 404 is_text body ≡ reply_bytes 200 answer.is_text answer.body =
    same ∙ ap (λ (n : ℕ). reply_bytes n answer.is_text answer.body) (sym said) in
    below 50 52 (lit< tt) (sym (ap (byte_at 9) at))

whole : (answer : Answer) → codes "HTTP/" ≡ bytes_of answer → ⊥
unfolding version status_line reply_head
whole answer same = below 0 49 (lit< tt) (ap (byte_at 5) same)

-- the line of the case with an appeal
abbrev line : Line
line = record { party = codes "ada"; reference = codes "a1"; state = Appealed }

-- by bob, over the case with an appeal, every command but one is refused
abbrev IsList : Result Plan Refusal → Type 0
IsList answer = ((refusal : Refusal) × (told answer ≡ Say (replies.No refusal))) ⊎ (told answer ≡ Say (replies.Lines (line ∷ [])))

is_refused : (refusal : Refusal) → IsList (Err refusal)
is_refused refusal = inl (refusal, refl)

reviewed : (edition : List ℕ) (b : Bool) → IsList (review bob edition (if b then Some appealed else None))
unfolding review
reviewed edition true = allowed IsList is_refused (not (has_edition edition appealed)) _ _ (is_refused refusals.AppealOpen)
reviewed edition false = is_refused refusals.NoCase

ruled : (day : ℕ) (developer reference : List ℕ) (word : RulingWord) (b : Bool) → IsList (rule bob day developer reference word (if b then Some appealed else None))
unfolding rule
ruled day developer reference word true = is_refused refusals.SameReviewer
ruled day developer reference word false = is_refused refusals.NoCase

lists : (session : Session) → session.party ≡ bob → (command : Command) → IsList (answered (session_of bob session.appeal_days session.day session.edition) command (view_of (session_of bob session.appeal_days session.day session.edition) command (appealed ∷ [])))
unfolding submit decide show report appeal
lists session is (commands.Submit reference content) = is_refused refusals.WrongRole
lists session is commands.Decide = is_refused refusals.NothingQueued
lists session is (commands.Show reference) = is_refused refusals.WrongRole
lists session is (commands.Report reference) = is_refused refusals.WrongRole
lists session is (commands.Appeal reference text) = is_refused refusals.WrongRole
lists session is (commands.Review developer reference) = reviewed session.edition (is_named developer reference appealed)
lists session is (commands.Rule developer reference word) = ruled session.day developer reference word (is_named developer reference appealed)
lists session is commands.List = inr refl

-- the reply to bob
replies_bob : (turn : Turn) → turn.session.party ≡ bob → ((refusal : Refusal) × (reply_to turn (appealed ∷ []) ≡ replies.No refusal)) ⊎ (reply_to turn (appealed ∷ []) ≡ replies.Lines (line ∷ []))
replies_bob turn is =
    of_plan (plan_over turn.session turn.command (appealed ∷ []))
    (subst (λ (s : Session). IsList (answered s turn.command (view_of s turn.command (appealed ∷ [])))) same (lists turn.session is turn.command))
  where
    same : session_of bob turn.session.appeal_days turn.session.day turn.session.edition ≡ turn.session
    same = ap (λ (party : Party). session_of party turn.session.appeal_days turn.session.day turn.session.edition) (sym is)

    ReplyBy : Plan → Reply
    ReplyBy plan = (carried (speaks_of turn.session turn.command) (decision_by turn.session turn.judgement) plan (appealed ∷ [])).0

    of_plan : (plan : Plan) → ((refusal : Refusal) × (plan ≡ Say (replies.No refusal))) ⊎ (plan ≡ Say (replies.Lines (line ∷ [])))
        → ((refusal : Refusal) × (ReplyBy plan ≡ replies.No refusal)) ⊎ (ReplyBy plan ≡ replies.Lines (line ∷ []))
    of_plan plan (inl h) = inl (h.0, ap ReplyBy h.1)
    of_plan plan (inr h) = inr (ap ReplyBy h)

-- the last byte but one of a text
abbrev scan : ℕ → ℕ → List ℕ → ℕ
scan a b [] = a
scan a b (x ∷ bytes) = scan b x bytes

scan_end : (bytes : List ℕ) (a b p q : ℕ) → scan a b ((bytes ++ p ∷ []) ++ q ∷ []) ≡ p
scan_end [] a b p q = refl
scan_end (x ∷ bytes) a b p q = scan_end bytes b x p q

scan_behind : (bytes rest : List ℕ) (p : ℕ) → ((a b : ℕ) → scan a b rest ≡ p) → (a b : ℕ) → scan a b (bytes ++ rest) ≡ p
scan_behind [] rest p h a b = h a b
scan_behind (x ∷ bytes) rest p h a b = scan_behind bytes rest p h b x

-- an error ends with a quotation mark and a brace
error_end : (status : ℕ) (text : List ℕ) → scan 0 0 (bytes_of (error_answer status text)) ≡ 34
unfolding error_body
error_end status text =
    let ends : List ℕ = ((34 ∷ escape (latin1 text)) ++ 34 ∷ []) ++ 125 ∷ [] in
    scan_behind (reply_head status false (length (error_body text))) (error_body text) 34
    (scan_behind (codes "{\"error\":") ends 34 (λ a b. scan_end (34 ∷ escape (latin1 text)) a b 34 125)) 0 0

abbrev IsError : Answer → Type 0
IsError answer = (status : ℕ) × (text : List ℕ) × (answer ≡ error_answer status text)

-- a command at bob's office is bob's
found_bob : (b : Bool) (party : Party) → (if b then Some bob else None) ≡ Some party → party ≡ bob
found_bob true party is = sym (same_Some bob party is)
found_bob false party is = absurd (none-some party is)

token_bob : (token : Option (List ℕ)) (party : Party) → party_of bobs_office token ≡ Some party → party ≡ bob
token_bob None party is = absurd (none-some party is)
token_bob (Some t) party is = found_bob (has_token t bob) party is

of_result : {F : Type 0} (Q : Result (Party × Command) F → Type 0) → ((run : Party × Command) → Q (Ok run)) → ((fault : F) → Q (Err fault))
    → (r : Result (Party × Command) F) → Q r
of_result Q ok err (Ok run) = ok run
of_result Q ok err (Err fault) = err fault

same_run : (run : Party × Command) (party : Party) (command : Command) → turns.Run run.0 run.1 ≡ turns.Run party command → run ≡ (party, command)
same_run run party command is =
    let p : run.0 ≡ party = cc in
    let c : run.1 ≡ command = cc in
    ap (λ (x : Party). (x, run.1)) p ∙ ap (λ (x : Command). (party, x)) c

no_run : (answer : Answer) (party : Party) (command : Command) → turns.Answer answer ≡ turns.Run party command → ⊥
no_run answer party command is = cc

same_answer : (a b : Answer) → turns.Answer a ≡ turns.Answer b → b ≡ a
same_answer a b is = cc

by_bob : (request : Result Asked HttpFault) (party : Party) (command : Command) → IsCommand bobs_office request party command → party ≡ bob
by_bob (Ok asked) party command is =
    let ran =
    of_result (λ r. turn_by r ≡ turns.Run party command → r ≡ Ok (party, command))
    (λ run is. ap (λ (x : Party × Command). Ok x) (same_run run party command is))
    (λ fault is. absurd (no_run _ party command is))
    (run_of asked.post asked.path asked.token asked.body.items bobs_office) is in
    token_bob asked.token party (is_due asked.post asked.path asked.token asked.body.items bobs_office party command ran).0
by_bob (Err fault) party command is = absurd is

unasked : (fault : HttpFault) (answer : Answer) → answer_to_fault fault ≡ Some answer → IsError answer
unasked faults.Ended answer is = absurd (none-some answer is)
unasked faults.ReadFault answer is = absurd (none-some answer is)
unasked faults.Bad answer is = (400, bad_request, sym (same_Some _ _ is))
unasked faults.NoLength answer is = (411, length_required, sym (same_Some _ _ is))
unasked faults.TooLong answer is = (413, body_too_long, sym (same_Some _ _ is))
unasked faults.BigHead answer is = (431, head_too_long, sym (same_Some _ _ is))
unasked faults.Memory answer is = (507, no_memory, sym (same_Some _ _ is))

-- what is answered to what is no command is an error
other : (office : Office) (request : Result Asked HttpFault) (answer : Answer) → IsOther office request answer → IsError answer
other office (Ok asked) answer is =
    of_result (λ r. turn_by r ≡ turns.Answer answer → IsError answer)
    (λ run is. absurd (no_run answer run.0 run.1 (sym is)))
    (λ fault is. (status_of fault, text_of fault, same_answer _ answer is))
    (run_of asked.post asked.path asked.token asked.body.items office) is
other office (Err fault) answer is = unasked fault answer is

-- what a developer would be told
abbrev told_developer : List ℕ
told_developer = reply_bytes 200 false (codes "{\"cases\":[{\"reference\":\"a1\",\"state\":\"appealed\"}]}")

listed : told_developer ≡ bytes_of (answer_of Reviewer (replies.Lines (line ∷ []))) → ⊥
unfolding content_length type_of version content_type connection close colon space crlf status_line field reply_head digits state_body named_json lines_body state_word latin1 escape_byte encode_utf8
listed same = below 52 54 (lit< tt) (ap (byte_at 65) same)

no_error : (answer : Answer) → IsError answer → told_developer ≡ bytes_of answer → ⊥
unfolding content_length type_of version content_type connection close colon space crlf status_line field reply_head digits
no_error answer is same =
    below 34 93 (lit< tt) (sym (ap (scan 0 0) (same ∙ ap bytes_of is.2) ∙ error_end is.0 is.1))

answers_bob : (reply : Reply) (answer : Answer) → answer ≡ answer_of Reviewer reply → told_developer ≡ bytes_of answer
    → ((refusal : Refusal) × (reply ≡ replies.No refusal)) ⊎ (reply ≡ replies.Lines (line ∷ [])) → ⊥
answers_bob reply answer is same (inl h) =
    no_error answer (refusal_status h.0, refusal_text h.0, is ∙ ap (answer_of Reviewer) h.1) same
answers_bob reply answer is same (inr h) = listed (same ∙ ap bytes_of (is ∙ ap (answer_of Reviewer) h))

own_role : (setting : Setting) → setting.office ≡ bobs_office → (request : Result Asked HttpFault) (sent : RunAnswer) (answer : Answer)
    → IsAnswer anything setting (appealed ∷ []) request sent answer → told_developer ≡ bytes_of answer → ⊥
own_role setting at request (ToCommand turn) answer is same =
    let party : turn.session.party ≡ bob =
    by_bob request turn.session.party turn.command (subst (λ (office : Office). IsCommand office request turn.session.party turn.command) at is.0.command) in
    let told : answer ≡ answer_of Reviewer (reply_to turn (appealed ∷ [])) =
    is.1 ∙ ap (λ (p : Party). answer_of p.role (reply_to turn (appealed ∷ []))) party in
    answers_bob (reply_to turn (appealed ∷ [])) answer told same (replies_bob turn party)
own_role setting at request ToOther answer is same = no_error answer (other setting.office request answer is) same
own_role setting at request StoreFailed answer is same = no_error answer (503, store_failed, is) same
own_role setting at request NoMemory answer is same = no_error answer (507, no_memory, is) same

-- no bytes but a front
no_front : (bytes : List ℕ) → codes "HTTP/" ≡ bytes → bytes ≡ [] → ⊥
no_front bytes is none = below 0 72 (lit< tt) (sym (ap (byte_at 0) (is ∙ none)))

front_by : (office : Office) (request : Result Asked HttpFault) (entry exit : Outside) (written : List ℕ) (said : Served)
    → exit.link_faults ≡ 0 → codes "HTTP/" ≡ written → MayEnd office request entry exit written said → ⊥
front_by office request entry exit written (served.Replied status) none is ends = whole ends.0 (is ∙ ends.2)
front_by office request entry exit written served.Ended none is ends = no_front written is ends.1
front_by office request entry exit written served.ReadFault none is ends = no_front written is ends.1
front_by office request entry exit written served.WriteFault none is ends = let risen = ends.4 in omega (arith, none, risen)
front_by office request entry exit written served.Memory none is ends = no_front written is ends

abbrev talk_in : Exchange → Talk
talk_in exchange = exchange.talk

abbrev first_talk : Talk → List Talk → Talk
first_talk other [] = other
first_talk other (t ∷ talks) = t

-- nothing was written but what may be answered
front_in : (office : Office) (entry exit : Outside) (coming : List ℕ) (exchanges : List Exchange) → exit.link_faults ≡ 0
    → (record { coming = coming; written = codes "HTTP/" }) ∷ [] ≡ map talk_in exchanges
    → AllByRecursion (IsAnswered office entry exit) exchanges → ⊥
front_in office entry exit coming [] none is all = let short : 1 ≡ 0 = ap (λ (ts : List Talk). length ts) is in omega (arith, short)
front_in office entry exit coming (e ∷ exchanges) none is all =
    let other : Talk = record { coming = coming; written = codes "HTTP/" } in
    front_by office all.0.request entry exit e.talk.written all.0.said none
    (ap (λ (ts : List Talk). (first_talk other ts).written) is) all.0.ends

-- a reply with 201 is that a case was added
refused_status : (refusal : Refusal) → refusal_status refusal ≡ 201 → ⊥
refused_status refusals.WrongRole is = below 201 403 (lit< tt) (sym is)
refused_status refusals.NoCase is = below 201 404 (lit< tt) (sym is)
refused_status refusals.OtherContent is = below 201 409 (lit< tt) (sym is)
refused_status (refusals.TooManyOpen limit) is = below 201 409 (lit< tt) (sym is)
refused_status refusals.NothingQueued is = below 201 409 (lit< tt) (sym is)
refused_status refusals.NotDecided is = below 201 409 (lit< tt) (sym is)
refused_status refusals.SameEdition is = below 201 409 (lit< tt) (sym is)
refused_status refusals.AppealOpen is = below 201 409 (lit< tt) (sym is)
refused_status (refusals.NoAppealFor outcome) is = below 201 409 (lit< tt) (sym is)
refused_status refusals.AppealedAlready is = below 201 409 (lit< tt) (sym is)
refused_status (refusals.TooLate day) is = below 201 409 (lit< tt) (sym is)
refused_status refusals.NoAppeal is = below 201 409 (lit< tt) (sym is)
refused_status refusals.RuledAlready is = below 201 409 (lit< tt) (sym is)
refused_status refusals.SameReviewer is = below 201 403 (lit< tt) (sym is)

added_by : (role : Role) (reply : Reply) → (answer_of role reply).status ≡ 201 → is_added reply ≡ true
added_by role (replies.Added reference) is = refl
added_by role (replies.Kept reference state) is = absurd (below 200 201 (lit< tt) is)
added_by role (replies.Decided developer reference outcome) is = absurd (below 200 201 (lit< tt) is)
added_by role (replies.Shown case) is = absurd (below 200 201 (lit< tt) is)
added_by role (replies.Text text) is = absurd (below 200 201 (lit< tt) is)
added_by role (replies.Appealed reference) is = absurd (below 200 201 (lit< tt) is)
added_by role (replies.Ruled developer reference ruling) is = absurd (below 200 201 (lit< tt) is)
added_by role (replies.Lines lines) is = absurd (below 200 201 (lit< tt) is)
added_by role (replies.No refusal) is = absurd (refused_status refusal is)

not_added : (reply : Reply) → is_added reply ≡ true → is_added reply ≡ false → ⊥
not_added reply is other = let clash : true ≡ false = sym is ∙ other in cc

case_more : (cases : List Case) (case : Case) → length (cases ++ case ∷ []) ≡ length cases + 1
case_more [] case = refl
case_more (c ∷ cases) case = omega (arith, case_more cases case)

-- then the cases are others
adds_one : (test : Case → Bool) (decision : Decision) (plan : Plan) (cases : List Case) → Adds plan
    → is_added (carried test decision plan cases).0 ≡ true → (carried test decision plan cases).1 ≡ cases → ⊥
adds_one test decision (Say reply) cases h is same = not_added reply is h
adds_one test decision (Do (changes.Add case) reply) cases h is same =
    let longer = ap (λ (cs : List Case). length cs) same in
    let one = case_more cases case in
    omega (arith, longer, one)
adds_one test decision (Do (changes.Decide party reference other) reply) cases h is same = absurd h
adds_one test decision (Do (changes.Appeal party reference appeal) reply) cases h is same = not_added reply is h
adds_one test decision (Do (changes.Rule party reference ruling) reply) cases h is same = not_added reply is h
adds_one test decision (Judge case) cases h is same = let clash : false ≡ true = is in cc

turn_adds : (turn : Turn) (cases : List Case) → (answer_of turn.session.party.role (reply_to turn cases)).status ≡ 201
    → cases_then turn cases ≡ cases → ⊥
turn_adds turn cases is same =
    adds_one (speaks_of turn.session turn.command) (decision_by turn.session turn.judgement) (plan_over turn.session turn.command cases) cases
    (adds turn.session turn.command (view_of turn.session turn.command cases))
    (added_by turn.session.party.role (reply_to turn cases) is) same

-- what is answered to what is no command is answered to none
no_command : (office : Office) (request : Result Asked HttpFault) (answer : Answer) (party : Party) (command : Command)
    → IsOther office request answer → IsCommand office request party command → ⊥
no_command office (Ok asked) answer party command other is = no_run answer party command (sym other ∙ is)
no_command office (Err fault) answer party command other is = is

module _ (setting : Setting) (cases : List Case) (request : Result Asked HttpFault) (written : List ℕ) (party : Party) (command : Command)
    (is : IsCommand setting.office request party command) where
  -- a command to which 201 is said has changed the cases
  acknowledges : (ending : Ending) → IsEnd anything setting cases request ending written (served.Replied 201)
      → cases_by (carried_out ending) cases ≡ cases → ⊥
  acknowledges (Replied (ToCommand turn)) e same =
      turn_adds turn cases (sym (ap (λ (a : Answer). a.status) e.1.1) ∙ sym (same_status 201 e.0.status e.3)) same
  acknowledges (Replied ToOther) e same = no_command setting.office request e.0 party command e.1 is
  acknowledges (Replied StoreFailed) e same =
      below 201 503 (lit< tt) (same_status 201 e.0.status e.3 ∙ ap (λ (a : Answer). a.status) e.1)
  acknowledges (Replied NoMemory) e same =
      below 201 507 (lit< tt) (same_status 201 e.0.status e.3 ∙ ap (λ (a : Answer). a.status) e.1)
  acknowledges (CutOff sent) e same = let clash = e.4 in cc
  acknowledges ended e same = let clash = e.2 in cc
  acknowledges Unread e same = let clash = e.2 in cc
  acknowledges (Unanswered turn) e same = let clash = e.2 in cc

keeper_tells : KeeperTells
keeper_tells = record {
  own_day = λ office edition before after d said told kept day serves.
      let h = serves.kept (queued ∷ []) told in
      let cases : with_entry d queued ∷ [] ≡ cases_by (carried_out h.2.ending) (queued ∷ []) =
      same_Some _ _ (sym kept ∙ h.1) ∙ h.2.connection.cases in
      let setting = setting_of office edition serves.day in
      let stays = ends_on_day setting serves.request h.2.ending serves.written said h.2.ends in
      first_day serves.day d.day serves.of_clock day (subst (λ (cs : List Case). Stays serves.day cs) (sym cases) stays);
  acknowledged = λ office edition before after cases party command told now serves is.
      let h = serves.kept cases told in
      acknowledges (setting_of office edition serves.day) cases serves.request serves.written party command is h.2.ending h.2.ends
      (sym h.2.connection.cases ∙ same_Some _ _ (sym h.1 ∙ now));
}

link_tells : LinkTells
link_tells = record {
  own_status = λ office edition before after is_text body writes serves.
      let h = answer_by office edition before after (reply_bytes 404 is_text body) 200 writes serves in
      own_status is_text body h.answer h.status_is h.bytes_are;
  whole = λ office edition before after status writes serves.
      let h = answer_by office edition before after (codes "HTTP/") status writes serves in whole h.answer h.bytes_are;
  front = λ office entry exit none one holds.
      let h = holds one.talk one.talk_is in
      let same : h.1 ≡ one.then = same_Some _ _ (sym h.2 ∙ one.then_is) in
      let talks : map talk_in h.0 ≡ ended_with h.1 =
      sym (h.3.over ∙ ap (λ (ts : List Talk). ts ++ map talk_in h.0) one.none) in
      front_in office entry exit one.coming h.0 none (sym (talks ∙ ap ended_with same ∙ one.one)) h.3.answered;
  none_taken = λ entry talk told one counts.
      let none : 0 ≡ min 1 (length talk.left) = counts talk told in
      below 0 1 (lit< tt) (none ∙ ap (λ (n : ℕ). min 1 n) one);
}

pub connections_end : ConnectionsEnd
connections_end = record {
  keeper = keeper_tells;
  link = link_tells;
  own_role = λ edition before after told writes serves.
      let h = wrote bobs_office edition before after (appealed ∷ []) told_developer 200 told writes serves in
      let s = h.1.sent in
      own_role (setting_of bobs_office edition h.0) refl h.1.request s.sent s.answer s.is s.bytes;
  not_asked = λ none. none-some served.Ended (sym none);
  not_risen = λ risen. omega (arith, risen);
}
