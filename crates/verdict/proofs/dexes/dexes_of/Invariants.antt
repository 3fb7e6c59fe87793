use Rattle.std.proofs.Common.{take}
use Rattle.std.specs.Prelude.{All}
use Rattle.dex_reader.specs.Sound.{SoundDex}
use Rattle.verdict.specs.Refuses.{AreDex}
use Rattle.verdict.proofs.dexes.dexes_of.Given as goal

abbrev pub invariant-loop-i : goal.invariant-loop-i
invariant-loop-i l = AreDex (take l.i l.parts.dex) l.dexes.items × All SoundDex l.dexes.items
