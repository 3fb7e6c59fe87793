use Rattle.std.proofs.Common.{sym, ◌∙◌}
use Rattle.register_readers.proofs.Indexing.{told_at, told_none}
use Rattle.register_readers.proofs.register_readers.readers_at.Goals as goal

pub returns-in-None : goal.returns-in-None
returns-in-None c = sym (told_none c.args.found.now c.args.register c.args.pc (sym c.in-None.ensures.value))

pub returns-in-Some : goal.returns-in-Some
returns-in-Some c = c.as_slice.ensures.value ∙ sym (told_at c.args.found.now c.args.register c.args.pc c.in-Some.readers.now (sym c.in-Some.ensures.value))
