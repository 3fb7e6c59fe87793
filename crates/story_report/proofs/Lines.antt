-- One line more.
use Rattle.std.proofs.Common.{◌≡◌, ℕ, suc, ◌+◌, ◌<◌, List, [], ◌∷◌, ◌++◌, length, take, get_or, append-nil, append_assoc, refl, sym, ap, ◌∙◌, arith}
use Rattle.std.proofs.lemmas.List.{take_more, length-take-le}
use Rattle.flow_story.specs.declared.line.StoryLine.{StoryLine}
use Rattle.story_report.specs.StoryText.{line_text, lines_text}

lines_push : (n : ℕ) (lines : List StoryLine) (line : StoryLine) → lines_text n (lines ++ line ∷ []) ≡ lines_text n lines ++ line_text (n + length lines) line
lines_push n [] line =
    let same : n + 0 ≡ n = omega arith in
    append-nil (line_text n line) ∙ ap (λ (k : ℕ). line_text k line) (sym same)
lines_push n (first ∷ lines) line =
    let same : suc n + length lines ≡ n + suc (length lines) = omega arith in
    ap (λ (t : List ℕ). line_text n first ++ t) (lines_push (suc n) lines line ∙ ap (λ (k : ℕ). lines_text (suc n) lines ++ line_text k line) same)
    ∙ sym (append_assoc (line_text n first) (lines_text (suc n) lines) (line_text (n + suc (length lines)) line))

pub lines_more : (lines : List StoryLine) (place : ℕ) (line : StoryLine) → place < length lines → line ≡ get_or lines place line →
    lines_text 1 (take (place + 1) lines) ≡ lines_text 1 (take place lines) ++ line_text (place + 1) line
lines_more lines place line below is =
    let more : take (place + 1) lines ≡ take place lines ++ line ∷ [] = take_more lines place line below ∙ ap (λ (x : StoryLine). take place lines ++ x ∷ []) (sym is) in
    let len : length (take place lines) ≡ place = length-take-le place lines (omega (arith, below)) in
    let same : 1 + length (take place lines) ≡ place + 1 = omega (arith, len) in
    ap (lines_text 1) more ∙ lines_push 1 (take place lines) line ∙ ap (λ (k : ℕ). lines_text 1 (take place lines) ++ line_text k line) same
