use Rattle.desk_answers.specs.Tokens.{named_tokens}
use Rattle.desk_answers.proofs.Adding.{wrote, and_then, and_last}
use Rattle.desk_answers.proofs.lines.put_named.Goals as goal

pub returns : goal.returns
unfolding named_tokens
returns c =
    and_last c.end_object.result
    (and_then
    (and_then (and_then (wrote c.in_ok-begin_object.ensures) (rw c.as_bytes.ensures at c.in_ok-put_text.ensures))
    (rw c.as_bytes-2.ensures at c.in_ok-put_text-2.ensures))
    (rw c.state_word.ensures at c.in_ok-put_word.ensures))
    c.end_object.ensures
