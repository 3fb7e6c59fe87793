use Rattle.std.proofs.lemmas.List.Elements.{All-push}
use Rattle.dex_reader.specs.Sound.{SoundDex}
use Rattle.verdict.proofs.dexes.dexes_of.Goals as goal

pub loop-i-preserved : goal.loop-i-preserved
loop-i-preserved c = rw c.in_ok-push.ensures.items (rw c.deref.ensures.value at c.in_ok-dex.ensures.ok, All-push SoundDex _ _ c.loop-i.invariant.1 c.in_ok-dex.ensures.sound)
