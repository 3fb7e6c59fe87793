-- The facts hold by what the definitions say.
use Rattle.std.proofs.Common.{◌≡◌, false, refl}
use Rattle.case_rules.specs.declared.reply.Reply.{Reply}
use Rattle.case_rules.specs.declared.reply.Reply.TheVariants as replies
use Rattle.store_office.specs.declared.party.Role.TheVariants.{Developer, Reviewer}
use Rattle.std.specs.Char.{encode_utf8}
use Rattle.std.specs.Fmt.{digits}
use Rattle.cert_report.specs.Refusal.{fault_text, digests_text, row_text, reason_text, refusal_text as refusal_line}
use Rattle.cert_rows.specs.Spelling.{ctx_bytes, site_bytes, field_bytes, row_bytes}
use Rattle.desk_answers.specs.Answers.{answer_of}
use Rattle.desk_answers.specs.Bodies.{error_body, state_body, decided_body, shown_json, named_json, lines_body}
use Rattle.desk_answers.specs.Json.{latin1}
use Rattle.desk_answers.specs.Texts.{refusal_text, no_memory}
use Rattle.desk_answers.specs.Words.{state_word, outcome_word}
use Rattle.desk_words.specs.Numbers.{digits as number_digits, number, positive}
use Rattle.desk_words.specs.Serve.{count_of, database_name, is_serve}
use Rattle.desk_words.specs.Words.{is_check, is_certify, is_recheck, is_make, is_file_name, workers, seed_of, size_of}
use Rattle.hex.specs.Hex.{encode_with}
use Rattle.json.specs.Print.{escape_byte}
use Rattle.text_witness.specs.Answers.{AnswersTell, is_list}
use Rattle.text_witness.specs.Refusals.{RefusalsTell}
use Rattle.text_witness.specs.Tokens.{TokensTell}
use Rattle.text_witness.specs.Words.{WordsTell}

pub words_tell : WordsTell
unfolding is_serve is_check is_certify is_recheck is_make is_file_name workers seed_of size_of count_of positive number number_digits database_name
words_tell = record { one_worker = refl; no_leading_zero = refl; some_workers = refl; greatest_seed = refl; no_greater_seed = refl; serve_is_serve = refl; cases_are_in = refl }

pub tokens_tell : TokensTell
tokens_tell = record { own_token = refl; not_by_name = refl; not_by_front = refl; another_behind = refl; longest = refl; no_longer = refl }

told_alike : (reply : Reply) → is_list reply ≡ false → answer_of Developer reply ≡ answer_of Reviewer reply
told_alike (replies.Added reference) h = refl
told_alike (replies.Kept reference state) h = refl
told_alike (replies.Decided developer reference outcome) h = refl
told_alike (replies.Shown case) h = refl
told_alike (replies.Text report) h = refl
told_alike (replies.Appealed reference) h = refl
told_alike (replies.Ruled developer reference ruling) h = refl
told_alike (replies.Lines lines) h = absurd cc
told_alike (replies.No refusal) h = refl

pub answers_tell : AnswersTell
unfolding encode_utf8 error_body state_body decided_body shown_json named_json lines_body latin1 refusal_text no_memory state_word outcome_word escape_byte digits
answers_tell = record {
  too_many = refl;
  forbidden = refl;
  own_list = refl;
  full_list = refl;
  kept = refl;
  high_byte = refl;
  odd_name = refl;
  report = refl;
  flagged = refl;
  undecided = refl;
  appeal_day = refl;
  alike = told_alike;
  want_of_memory = refl;
}

pub refusals_tell : RefusalsTell
unfolding refusal_line reason_text fault_text digests_text row_text row_bytes field_bytes site_bytes ctx_bytes encode_with digits
refusals_tell = record { rest = refl; digests = refl; stranger = refl; strange_end = refl; no_cause = refl }
