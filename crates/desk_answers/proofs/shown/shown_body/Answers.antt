use Rattle.std.proofs.Common.{◌≡◌, ℕ, List, Option, ap, ◌∙◌}
use Rattle.std.specs.Option.{option_copied}
use Rattle.desk_answers.specs.Bodies.{appeal_day, decided_day, outcome_in, ruling_in, shown_json}
use Rattle.desk_answers.specs.Words.{state_word}
use Rattle.desk_answers.proofs.Adding.{wrote, and_then, printed}
use Rattle.desk_answers.proofs.Printed.{shown_printed}
use Rattle.desk_answers.proofs.shown.shown_body.Goals as goal

same_shown : {a a' b b' : Option ℕ} {e e' : ℕ} {o o' r r' : Option (List ℕ)} {n n' s s' : List ℕ}
    → a ≡ a' → b ≡ b' → e ≡ e' → o ≡ o' → n ≡ n' → r ≡ r' → s ≡ s' → shown_json a b e o n r s ≡ shown_json a' b' e' o' n' r' s'
same_shown ea eb ee eo en er es = cc

pub returns : goal.returns
returns c =
    printed _ _ c.new-body.result _ _ (c.new-body.ensures.before ∙ c.new.ensures.items) c.new-body.ensures.tokens
    (and_then
    (and_then
    (and_then
    (and_then
    (and_then
    (and_then
    (and_then
    (and_then (wrote c.in_ok-begin_object.ensures) c.in_ok-put_number_or_null.ensures)
    c.in_ok-put_number_or_null-2.ensures)
    c.in_ok-put_count.ensures)
    c.in_ok-put_word_or_null.ensures)
    c.in_ok-put_text.ensures)
    c.in_ok-put_word_or_null-2.ensures)
    c.in_ok-put_word.ensures)
    (wrote c.in_ok-end_object.ensures))
    c.into_inner.ensures.items
    (shown_printed c.appeal_day.result c.decided_day.result c.len.result (option_copied c.outcome_in.result) c.as_bytes.result.now
    (option_copied c.ruling_in.result) c.state_word.result.now)
    ∙ same_shown (c.appeal_day.ensures ∙ ap appeal_day c.last_entry-entry.ensures)
    (c.decided_day.ensures ∙ ap decided_day c.last_entry-entry.ensures) c.len.ensures
    (c.outcome_in.ensures ∙ ap outcome_in c.last_entry-entry.ensures) c.as_bytes.ensures
    (c.ruling_in.ensures ∙ ap ruling_in c.last_entry-entry.ensures)
    (c.state_word.ensures ∙ ap state_word c.state.ensures)
