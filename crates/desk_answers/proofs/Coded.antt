-- The status of each answer is a code of HTTP.
use Rattle.std.proofs.Common.{◌≡◌, ℕ, arith, sym, subst}
use Rattle.http.specs.StatusCode.{IsStatusCode}
use Rattle.store_office.specs.declared.party.Role.{Role}
use Rattle.case_rules.specs.declared.reply.Refusal.{Refusal}
use Rattle.case_rules.specs.declared.reply.Refusal.TheVariants.{WrongRole, NoCase, OtherContent, TooManyOpen, NothingQueued, NotDecided, SameEdition, AppealOpen, NoAppealFor, AppealedAlready, TooLate, NoAppeal, RuledAlready, SameReviewer}
use Rattle.case_rules.specs.declared.reply.Reply.{Reply}
use Rattle.case_rules.specs.declared.reply.Reply.TheVariants as replies
use Rattle.desk_http.specs.declared.reply.Answer.{Answer}
use Rattle.desk_answers.specs.Answers.{answer_of}
use Rattle.desk_answers.specs.Texts.{refusal_status}

refusal_coded : (refusal : Refusal) → IsStatusCode (refusal_status refusal)
refusal_coded WrongRole = (omega arith, omega arith)
refusal_coded NoCase = (omega arith, omega arith)
refusal_coded OtherContent = (omega arith, omega arith)
refusal_coded (TooManyOpen limit) = (omega arith, omega arith)
refusal_coded NothingQueued = (omega arith, omega arith)
refusal_coded NotDecided = (omega arith, omega arith)
refusal_coded SameEdition = (omega arith, omega arith)
refusal_coded AppealOpen = (omega arith, omega arith)
refusal_coded (NoAppealFor outcome) = (omega arith, omega arith)
refusal_coded AppealedAlready = (omega arith, omega arith)
refusal_coded (TooLate last_day) = (omega arith, omega arith)
refusal_coded NoAppeal = (omega arith, omega arith)
refusal_coded RuledAlready = (omega arith, omega arith)
refusal_coded SameReviewer = (omega arith, omega arith)

reply_coded : (role : Role) (reply : Reply) → IsStatusCode (answer_of role reply).status
reply_coded role (replies.Added reference) = (omega arith, omega arith)
reply_coded role (replies.Kept reference state) = (omega arith, omega arith)
reply_coded role (replies.Decided developer reference outcome) = (omega arith, omega arith)
reply_coded role (replies.Shown case) = (omega arith, omega arith)
reply_coded role (replies.Text report) = (omega arith, omega arith)
reply_coded role (replies.Appealed reference) = (omega arith, omega arith)
reply_coded role (replies.Ruled developer reference ruling) = (omega arith, omega arith)
reply_coded role (replies.Lines lines) = (omega arith, omega arith)
reply_coded role (replies.No refusal) = refusal_coded refusal

pub answer_coded : (role : Role) (reply : Reply) (answer : Answer) → answer ≡ answer_of role reply
    → IsStatusCode answer.status
answer_coded role reply answer is =
    subst (λ (a : Answer). IsStatusCode a.status) (sym is) (reply_coded role reply)
