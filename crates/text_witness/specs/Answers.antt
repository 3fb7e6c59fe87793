-- What the desk tells of some replies, each answer whole. Behind each fact stands what a slip would tell.
use Rattle.std.specs.Prelude.{◌≡◌, ℕ, Bool, true, false, List, [], ◌∷◌, ◌++◌, Some, None, codes, replicate}
use Rattle.case_rules.specs.declared.case.Appeal.{Appeal}
use Rattle.case_rules.specs.declared.case.Case.{Case}
use Rattle.case_rules.specs.declared.case.Decision.{Decision}
use Rattle.case_rules.specs.declared.case.Entry.{Entry}
use Rattle.case_rules.specs.declared.case.Line.{Line}
use Rattle.case_rules.specs.declared.case.OutcomeWord.{OutcomeWord}
use Rattle.case_rules.specs.declared.case.OutcomeWord.TheVariants.{Clear, Flagged, Undecided}
use Rattle.case_rules.specs.declared.case.State.TheVariants.{Queued}
use Rattle.case_rules.specs.declared.reply.Refusal.TheVariants.{WrongRole, TooManyOpen}
use Rattle.case_rules.specs.declared.reply.Reply.{Reply}
use Rattle.case_rules.specs.declared.reply.Reply.TheVariants.{Added, Kept, Decided, Shown, Text, Appealed, Ruled, Lines, No}
use Rattle.desk_answers.specs.Answers.{answer_of, answer_to_fault}
use Rattle.desk_http.specs.declared.asked.HttpFault.TheVariants.{Memory}
use Rattle.desk_http.specs.declared.reply.Answer.{Answer}
use Rattle.store_office.specs.declared.party.Role.TheVariants.{Developer, Reviewer}

-- an answer with a body of JSON, and one with plain text
abbrev pub told : ℕ → List ℕ → Answer
told status body = record { status = status; is_text = false; body = body }

abbrev pub shown : List ℕ → Answer
shown text = record { status = 200; is_text = true; body = text }

abbrev pub is_list : Reply → Bool
is_list (Added reference) = false
is_list (Kept reference state) = false
is_list (Decided developer reference outcome) = false
is_list (Shown case) = false
is_list (Text report) = false
is_list (Appealed reference) = false
is_list (Ruled developer reference ruling) = false
is_list (Lines lines) = true
is_list (No refusal) = false

-- a case in a list
abbrev pub line : Line
line = record { party = codes "ada"; reference = codes "a1"; state = Queued }

-- a case that was decided on day 3, and again on day 5 with an appeal on day 7
abbrev pub decided_on : ℕ → OutcomeWord → Decision
decided_on day outcome = record { outcome = outcome; report = []; lists = replicate 32 0; reviewer = codes "bob"; day = day }

abbrev pub appeal : Appeal
appeal = record { day = 7; text = codes "no" }

abbrev pub first_entry : Entry
first_entry = record { decision = decided_on 3 Undecided; appeal = None; ruling = None }

abbrev pub last_entry : Entry
last_entry = record { decision = decided_on 5 Flagged; appeal = Some appeal; ruling = None }

abbrev pub appealed : Case
appealed = record {
  party = codes "ada";
  reference = codes "a1";
  content = record { manifest = []; layouts = []; declaration = []; dex = [] };
  entries = first_entry ∷ last_entry ∷ [];
}

pub record AnswersTell : Type 0 where
  -- a limit that was met is told as it is, behind a comma (else without it, as 65, or as another refusal)
  pub too_many : answer_of Developer (No (TooManyOpen 64)) ≡ told 409 (codes "{\"error\":\"too many open cases, limit 64\"}")
  -- what a party may not do is forbidden (else it would be told as not found)
  pub forbidden : answer_of Developer (No WrongRole) ≡ told 403 (codes "{\"error\":\"wrong role\"}")
  -- a list of one's own has no developer (else each line would begin with one)
  pub own_list : answer_of Developer (Lines (line ∷ [])) ≡ told 200 (codes "{\"cases\":[{\"reference\":\"a1\",\"state\":\"queued\"}]}")
  -- a reviewer's list has the developers, with keys in byte order (else the reference would come first)
  pub full_list : answer_of Reviewer (Lines (line ∷ [])) ≡ told 200 (codes "{\"cases\":[{\"developer\":\"ada\",\"reference\":\"a1\",\"state\":\"queued\"}]}")
  -- a case that was there is told as one that was kept (else with 201, as a new one)
  pub kept : answer_of Developer (Kept (codes "a1") Queued) ≡ told 200 (codes "{\"reference\":\"a1\",\"state\":\"queued\"}")
  -- a byte from 128 on is the character of its number, in two bytes (else it would be left out)
  pub high_byte : answer_of Developer (Kept (233 ∷ []) Queued) ≡ told 200 (codes "{\"reference\":\"" ++ 195 ∷ 169 ∷ codes "\",\"state\":\"queued\"}")
  -- in a name what JSON escapes is escaped, and any other byte is the character of its number (else all would stand as they are)
  pub odd_name : answer_of Reviewer (Decided (34 ∷ 92 ∷ 10 ∷ 31 ∷ 127 ∷ 128 ∷ 233 ∷ 255 ∷ []) (codes "r1") Clear) ≡ told 200 (codes "{\"developer\":\""
      ++ 92 ∷ 34 ∷ 92 ∷ 92 ∷ 92 ∷ 110 ∷ 92 ∷ 117 ∷ 48 ∷ 48 ∷ 49 ∷ 102 ∷ 127 ∷ 194 ∷ 128 ∷ 195 ∷ 169 ∷ 195 ∷ 191 ∷ codes "\",\"outcome\":\"clear\",\"reference\":\"r1\"}")
  -- a report is plain text, and its own bytes (else it would be told as JSON)
  pub report : answer_of Reviewer (Text (codes "clear\n\"" ++ 255 ∷ 0 ∷ [])) ≡ shown (codes "clear\n\"" ++ 255 ∷ 0 ∷ [])
  -- each outcome has its own word (else the two would be exchanged)
  pub flagged : answer_of Reviewer (Decided (codes "ada") (codes "a1") Flagged) ≡ told 200 (codes "{\"developer\":\"ada\",\"outcome\":\"flagged\",\"reference\":\"a1\"}")
  pub undecided : answer_of Reviewer (Decided (codes "ada") (codes "a1") Undecided) ≡ told 200 (codes "{\"developer\":\"ada\",\"outcome\":\"undecided\",\"reference\":\"a1\"}")
  -- the day of an appeal is its own, against the last entry (else null, as the first entry has none, or 5, the day of the decision)
  pub appeal_day : answer_of Developer (Shown appealed) ≡ told 200 (codes "{\"appeal\":7,\"decided\":5,\"editions\":2,\"outcome\":\"flagged\",\"reference\":\"a1\",\"ruling\":null,\"state\":\"appealed\"}")
  -- what is told of anything but a list is the same for both (else a developer's case would be told otherwise to a reviewer)
  pub alike : (reply : Reply) → is_list reply ≡ false → answer_of Developer reply ≡ answer_of Reviewer reply
  -- want of memory is told as such (else with 503, as a store that failed)
  pub want_of_memory : answer_to_fault Memory ≡ Some (told 507 (codes "{\"error\":\"no memory\"}"))
