use Rattle.std.proofs.Common.{◌≡◌, ◌+◌, ◌-◌, ◌*◌, ◌<◌, length, get_or, subst, sym, ◌∙◌, arith}
use Rattle.desk_http.proofs.Digits.{Reads, reads_more, number_fits, some_bytes}
use Rattle.client_replies.proofs.Numbers.{whole_number, no_number, empty_is_no_number, long_is_no_number}
use Rattle.client_replies.proofs.fields.number_in.Goals as goal
use Rattle.client_replies.proofs.fields.number_in.Goals.{then-is_empty-via-then-is_empty, then-is_empty-via-else-is_empty+then-value-gt10}

pub returns-then-is_empty : goal.returns-then-is_empty
returns-then-is_empty c =
    elim c.then-is_empty.branch [
      | then-is_empty-via-then-is_empty w ↦ sym (empty_is_no_number c.args.value.now (sym c.is_empty.ensures ∙ w.if-is_empty.true))
      | then-is_empty-via-else-is_empty+then-value-gt10 w ↦ sym (long_is_no_number c.args.value.now w.if-value-gt10.true)
    ]

pub returns-then-not-is_ascii_digit : goal.returns-then-not-is_ascii_digit
returns-then-not-is_ascii_digit c =
    sym (no_number c.args.value.now c.loop-digit.digit-index c.loop-digit-test.true (sym c.is_ascii_digit.ensures.value ∙ c.if-not-is_ascii_digit.true))

pub overflow_mul-number : goal.overflow_mul-number
overflow_mul-number c =
    let small : c.loop-digit.number < 10000000000 = number_fits c.args.value.now c.loop-digit.digit-index c.loop-digit.number (omega arith) (omega arith) c.loop-digit.invariant in
    omega arith

pub overflow_add-number : goal.overflow_add-number
overflow_add-number c =
    let small : c.loop-digit.number < 10000000000 = number_fits c.args.value.now c.loop-digit.digit-index c.loop-digit.number (omega arith) (omega arith) c.loop-digit.invariant in
    omega arith

pub loop-digit-preserved : goal.loop-digit-preserved
loop-digit-preserved c =
    let digit = get_or c.args.value.now c.loop-digit.digit-index 0 in
    let from : c.from.result ≡ digit - 48 = c.from.ensures in
    subst (λ d. Reads c.args.value.now (c.loop-digit.digit-index + 1) (c.loop-digit.number * 10 + d)) (sym from)
    (reads_more c.args.value.now c.loop-digit.digit-index c.loop-digit.number c.loop-digit-test.true (sym c.is_ascii_digit.ensures.value ∙ c.if-not-is_ascii_digit.false) c.loop-digit.invariant)

pub returns : goal.returns
returns c =
    let value = c.args.value.now in
    let some : 0 < length value = some_bytes value (sym c.is_empty.ensures ∙ c.if-is_empty.false) in
    let over : c.loop-digit.digit-index ≡ length value = omega arith in
    sym (whole_number value c.loop-digit.number some (omega arith) (subst (λ i. Reads value i c.loop-digit.number) over c.loop-digit.invariant))
