-- The facts hold by what the definitions say.
use Rattle.std.proofs.Common.{◌≡◌, ℕ, suc, List, [], ◌∷◌, length, Option, Some, None, refl, ap, arith, lit<}
use Rattle.desk_links.specs.Links.{Told}
use Rattle.std.specs.Fmt.{digits}
use Rattle.base64.proofs.OnLiterals.{base64_on_literals}
use Rattle.desk_answers.specs.Bodies.{error_body}
use Rattle.desk_answers.specs.Json.{latin1}
use Rattle.desk_http.specs.Fields.{content_length, transfer_encoding, has_name, is_length}
use Rattle.desk_http.specs.Replies.{type_of, version, content_type, connection, close, colon, space, crlf, status_line, field, reply_head}
use Rattle.desk_routes.specs.Bodies.{json_of, text_at, name_at, list_at, decoded, dex_at, uphold, overturn, word_at, submission, appeal, review, ruling}
use Rattle.desk_routes.specs.Faults.{key_of, text_of}
use Rattle.desk_routes.specs.Routes.{cases, decisions, reviews, rulings, case_front, report_end, appeal_end}
use Rattle.desk_routes.specs.Turns.{command_for, run_of}
use Rattle.json.specs.Print.{escape_byte}
use Rattle.serde_json.proofs.OnLiterals.{serde_json_on_literals}
use Rattle.std.specs.Char.{encode_utf8}
use Rattle.std.specs.Str.{is_utf8, chars}
use Rattle.http_witness.specs.Calls.{CallsOwe}
use Rattle.http_witness.specs.Fields.{FieldsTell}
use Rattle.http_witness.specs.Links.{LinksTell}
use Rattle.http_witness.specs.Replies.{RepliesTell}
use Rattle.http_witness.specs.Turns.{TurnsTell}

pub turns_tell : TurnsTell
unfolding encode_utf8 is_utf8 chars escape_byte error_body latin1 serde_json_on_literals base64_on_literals json_of text_at name_at list_at decoded dex_at uphold overturn word_at submission appeal review ruling key_of text_of cases decisions reviews rulings case_front report_end appeal_end command_for run_of
turns_tell = record {
  decides = refl;
  decides_not = refl;
  no_method = refl;
  own_token = refl;
  no_longer_token = refl;
  no_token = refl;
  slash_behind = refl;
  empty_reference = refl;
  reviews = refl;
  no_name = refl;
  upholds = refl;
  overturns = refl;
  submitted = refl;
  too_many = refl;
  no_base64 = refl;
  manifest_first = refl;
  layouts_missing = refl;
}

pub fields_tell : FieldsTell
unfolding content_length transfer_encoding has_name is_length
fields_tell = record { coded = refl; one = refl; two = refl; signed = refl; longest = refl; too_long = refl }

-- what was written, where it is told
abbrev written_by : Option Told → List ℕ
written_by None = []
written_by (Some t) = t.written

pub replies_tell : RepliesTell
unfolding content_length type_of version content_type connection close colon space crlf status_line field reply_head digits
replies_tell = record {
  text = refl;
  json = refl;
  text_not_found = refl;
  whole_body = refl;
  nothing_written = λ h. let clash : 72 ∷ [] ≡ [] = ap written_by h in cc;
  not_risen = λ h. omega (arith, h);
}

-- the conversations that are left, where they are told
abbrev left_by : Option Told → List (List ℕ)
left_by None = []
left_by (Some t) = t.left

pub links_tell : LinksTell
links_tell = record {
  kept = refl;
  begun = refl;
  once = λ h. let one : 1 ≡ length h.1 = ap length (ap left_by h.3) in
      let none : 1 ≡ suc (length h.1) = ap length h.2 in omega (arith, one, none);
  dialled = refl;
  missed = refl;
  failure = refl;
  taken_by_none = refl;
  succeeds = refl;
  piece = refl;
  read = refl;
  written = refl;
  second = refl;
  day = λ h. let clash : 0 ≡ 5 = h in cc;
}

pub calls_owe : CallsOwe
calls_owe = record {
  one_at_least = λ h. let some = h.some (lit< tt) in omega (arith, some);
  no_more = λ h. omega (arith, h);
}
