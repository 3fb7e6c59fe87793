use Rattle.std.proofs.Common.{◌≡◌, ◌++◌, take}
use Rattle.story_report.specs.StoryText.{lines_text}
use Rattle.story_report.proofs.telling.put_lines.Given as goal

abbrev pub invariant-loop-place : goal.invariant-loop-place
invariant-loop-place l = l.text.items ≡ l.initial.text.items ++ lines_text 1 (take l.place l.lines)
