use Rattle.std.proofs.Common.{◌≡◌, ◌++◌, take}
use Rattle.story_report.specs.StoryText.{stories_text}
use Rattle.story_report.proofs.telling.put_stories.Given as goal

abbrev pub invariant-loop-story : goal.invariant-loop-story
invariant-loop-story l = l.text.items ≡ l.initial.text.items ++ stories_text (take l.story-index l.stories)
