use Rattle.std.proofs.Common.{◌∙◌, ap, length, Ok, rules}
use Rattle.client_replies.proofs.Room.{complete_is_short, partial_is_none, error_is_none}
use Rattle.client_replies.proofs.head.parts_of.Goals as goal

pub returns-then-spans-bytes-clause-bad : goal.returns-then-spans-bytes-clause-bad
returns-then-spans-bytes-clause-bad c is head whole =
    complete_is_short c.args.bytes.now c.parse_response.new.headers c.parse_response.result c.in-Ok-Complete.spans head
    c.parse_response.ensures.complete (c.in-Ok-Complete.is ∙ ap Ok c.in-Ok-Complete.field-0-is) c.if-spans-bytes.true whole

pub returns-in-Ok-Partial-clause-bad : goal.returns-in-Ok-Partial-clause-bad
returns-in-Ok-Partial-clause-bad c is head whole =
    partial_is_none c.args.bytes.now (length c.as_mut_slice.result.now) c.parse_response.new.headers c.parse_response.result head
    c.parse_response.ensures.found (search rules) (c.in-Ok-Partial.is ∙ ap Ok c.in-Ok-Partial.field-0-is) whole

pub returns-in-Err-clause-bad : goal.returns-in-Err-clause-bad
returns-in-Err-clause-bad c is head whole =
    error_is_none c.args.bytes.now (length c.as_mut_slice.result.now) c.parse_response.new.headers c.parse_response.result c.in-Err.field-0 head
    c.parse_response.ensures.found (search rules) c.in-Err.is whole
