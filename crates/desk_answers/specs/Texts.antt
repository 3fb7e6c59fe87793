-- Why nothing was done: the status (RFC 9110, section 15) and the text of each refusal, and of each fault of a head.
use Rattle.std.specs.Prelude.{ℕ, List, ◌++◌, codes, decimal, Option, Some, None}
use Rattle.case_rules.specs.declared.reply.Refusal.{Refusal}
use Rattle.case_rules.specs.declared.reply.Refusal.TheVariants.{WrongRole, NoCase, OtherContent, TooManyOpen, NothingQueued, NotDecided, SameEdition, AppealOpen, NoAppealFor, AppealedAlready, TooLate, NoAppeal, RuledAlready, SameReviewer}
use Rattle.desk_http.specs.declared.asked.HttpFault.{HttpFault}
use Rattle.desk_http.specs.declared.asked.HttpFault.TheVariants.{Ended, ReadFault, Bad, NoLength, TooLong, BigHead, Memory}
use Rattle.desk_answers.specs.Words.{outcome_word}

-- 403 where the party may not do it, 404 where there is no such case, and 409 where the case or its developer is in the
-- way
abbrev pub refusal_status : Refusal → ℕ
refusal_status WrongRole = 403
refusal_status NoCase = 404
refusal_status OtherContent = 409
refusal_status (TooManyOpen limit) = 409
refusal_status NothingQueued = 409
refusal_status NotDecided = 409
refusal_status SameEdition = 409
refusal_status AppealOpen = 409
refusal_status (NoAppealFor outcome) = 409
refusal_status AppealedAlready = 409
refusal_status (TooLate last_day) = 409
refusal_status NoAppeal = 409
refusal_status RuledAlready = 409
refusal_status SameReviewer = 403

unfoldable pub refusal_text : Refusal → List ℕ
refusal_text WrongRole = codes "wrong role"
refusal_text NoCase = codes "no such case"
refusal_text OtherContent = codes "other content under this reference"
refusal_text (TooManyOpen limit) = codes "too many open cases, limit " ++ decimal limit
refusal_text NothingQueued = codes "nothing queued"
refusal_text NotDecided = codes "not decided"
refusal_text SameEdition = codes "decided under these lists"
refusal_text AppealOpen = codes "appeal open"
refusal_text (NoAppealFor outcome) = codes "no appeal for " ++ outcome_word outcome
refusal_text AppealedAlready = codes "appealed already"
refusal_text (TooLate last_day) = codes "too late, last day " ++ decimal last_day
refusal_text NoAppeal = codes "no appeal"
refusal_text RuledAlready = codes "ruled already"
refusal_text SameReviewer = codes "same reviewer"

unfoldable pub bad_request : List ℕ
bad_request = codes "bad request"

unfoldable pub length_required : List ℕ
length_required = codes "length required"

unfoldable pub body_too_long : List ℕ
body_too_long = codes "body too long"

unfoldable pub head_too_long : List ℕ
head_too_long = codes "head too long"

unfoldable pub no_memory : List ℕ
no_memory = codes "no memory"

unfoldable pub store_failed : List ℕ
store_failed = codes "store failed"
