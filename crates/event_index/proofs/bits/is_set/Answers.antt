use Rattle.std.proofs.Common.{sym, ◌∙◌}
use Rattle.event_index.proofs.Words.{mark_of}
use Rattle.event_index.proofs.bits.is_set.Goals as goal

pub returns-then-at-words : goal.returns-then-at-words
returns-then-at-words c = c.has_bit.ensures ∙ sym (mark_of c.args.words.now c.args.number)
