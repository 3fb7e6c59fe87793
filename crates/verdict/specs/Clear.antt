-- That clear is a theorem, whoever came to it.
use Rattle.app_machine.specs.Sound.{SoundApp}
use Rattle.app_machine.specs.SoundLists.{SoundLists}
use Rattle.verdict.specs.declared.linking.Linked.{Linked}
use Rattle.verdict.specs.declared.outcome.Outcome.TheVariants.{Clear}
use Rattle.verdict.specs.declared.parts.Parts.{Parts}
use Rattle.verdict.specs.Linked.{IsLinked}
use Rattle.verdict.specs.Verdict.{Verdict, IsSafeApp}

-- Parts of which the verdict is clear make a safe app, where they were linked to a sound one, by sound lists.
abbrev pub ClearIsSafe : Type 0
ClearIsSafe = (parts : Parts) (linked : Linked) → IsLinked parts linked → SoundApp linked.app → SoundLists linked.papers.lists → Verdict parts Clear → IsSafeApp parts
