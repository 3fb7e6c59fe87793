use Rattle.std.proofs.Common.{w64, arith, rules}
use Rattle.std.proofs.lemmas.Nat.Bits.{bit_at-trailing_zeros}
use Rattle.app_model.proofs.lookups.marks.lowest_bit.Goals as goal

pub returns-clause-set : goal.returns-clause-set
returns-clause-set c = search (rules, bit_at-trailing_zeros w64 c.args.word c.requires (omega arith))
