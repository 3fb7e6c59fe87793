use Rattle.desk_answers.specs.Tokens.{state_tokens}
use Rattle.desk_answers.proofs.Adding.{wrote, and_then, and_last}
use Rattle.desk_answers.proofs.put.put_state.Goals as goal

pub returns : goal.returns
unfolding state_tokens
returns c =
    and_last c.end_object.result
    (and_then (and_then (wrote c.in_ok-begin_object.ensures) c.in_ok-put_text.ensures)
    (rw c.state_word.ensures at c.in_ok-put_word.ensures))
    c.end_object.ensures
