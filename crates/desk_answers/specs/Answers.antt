-- What the desk tells a party: status, whether it is plain text, and body.
use Rattle.std.specs.Prelude.{ℕ, List, Option, Some, None, true, false}
use Rattle.case_rules.specs.declared.case.State.TheVariants.{Queued, Appealed}
use Rattle.store_office.specs.declared.party.Role.{Role}
use Rattle.case_rules.specs.declared.reply.Reply.{Reply}
use Rattle.case_rules.specs.declared.reply.Reply.TheVariants as replies
use Rattle.desk_http.specs.declared.asked.HttpFault.{HttpFault}
use Rattle.desk_http.specs.declared.asked.HttpFault.TheVariants.{Ended, ReadFault, Bad, NoLength, TooLong, BigHead, Memory}
use Rattle.desk_http.specs.declared.reply.Answer.{Answer}
use Rattle.desk_answers.specs.Bodies.{error_body, state_body, decided_body, ruled_body, shown_body, lines_body}
use Rattle.desk_answers.specs.Texts.{refusal_status, refusal_text, bad_request, length_required, body_too_long, head_too_long, no_memory, store_failed}

-- an answer with a body of JSON
abbrev pub json_answer : ℕ → List ℕ → Answer
json_answer status body = record { status = status; is_text = false; body = body }

-- an answer with plain text
abbrev pub text_answer : List ℕ → Answer
text_answer text = record { status = 200; is_text = true; body = text }

-- why nothing was done
abbrev pub error_answer : ℕ → List ℕ → Answer
error_answer status text = json_answer status (error_body text)

-- A party in this role is told of a reply: 201 where a case was added, the text of a refusal with its status, else 200.
abbrev pub answer_of : Role → Reply → Answer
answer_of role (replies.Added reference) = json_answer 201 (state_body reference Queued)
answer_of role (replies.Kept reference state) = json_answer 200 (state_body reference state)
answer_of role (replies.Decided developer reference outcome) = json_answer 200 (decided_body developer reference outcome)
answer_of role (replies.Shown case) = json_answer 200 (shown_body case)
answer_of role (replies.Text report) = text_answer report
answer_of role (replies.Appealed reference) = json_answer 200 (state_body reference Appealed)
answer_of role (replies.Ruled developer reference ruling) = json_answer 200 (ruled_body developer reference ruling)
answer_of role (replies.Lines lines) = json_answer 200 (lines_body role lines)
answer_of role (replies.No refusal) = error_answer (refusal_status refusal) (refusal_text refusal)

-- what the one who sent no request is told (RFC 9110, sections 15.5.1, 15.5.12 and 15.5.14; RFC 6585, section 5;
-- RFC 4918, section 11.5): nothing where the connection ended or failed
abbrev pub answer_to_fault : HttpFault → Option Answer
answer_to_fault Ended = None
answer_to_fault ReadFault = None
answer_to_fault Bad = Some (error_answer 400 bad_request)
answer_to_fault NoLength = Some (error_answer 411 length_required)
answer_to_fault TooLong = Some (error_answer 413 body_too_long)
answer_to_fault BigHead = Some (error_answer 431 head_too_long)
answer_to_fault Memory = Some (error_answer 507 no_memory)
