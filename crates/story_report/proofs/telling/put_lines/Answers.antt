use Rattle.std.proofs.Common.{◌≡◌, ◌++◌, ◌+◌, List, ℕ, take, append_assoc, sym, ap, ◌∙◌}
use Rattle.story_report.specs.StoryText.{line_text, lines_text}
use Rattle.story_report.proofs.Lines.{lines_more}
use Rattle.story_report.proofs.telling.put_lines.Goals as goal

pub loop-place-preserved : goal.loop-place-preserved
loop-place-preserved c =
    let lines = c.args.lines.now in
    let place = c.loop-place.place in
    let line = c.line_at-line.result in
    let old = c.args.text.now.items in
    let more : lines_text 1 (take (place + 1) lines) ≡ lines_text 1 (take place lines) ++ line_text (place + 1) line = lines_more lines place line c.loop-place-test.true c.line_at-line.ensures in
    c.in_ok-put_line.ensures
    ∙ ap (λ (t : List ℕ). t ++ line_text (place + 1) line) c.loop-place.invariant
    ∙ append_assoc old (lines_text 1 (take place lines)) (line_text (place + 1) line)
    ∙ sym (ap (λ (t : List ℕ). old ++ t) more)
