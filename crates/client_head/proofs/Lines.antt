-- The bytes of a head line by line, and as the grammar writes them.
use Rattle.std.proofs.Common.{◌≡◌, ℕ, List, [], ◌∷◌, ◌++◌, append_assoc, append-nil}

-- four lines with their ends, and an empty line but for its line feed
abbrev pub lines_to_feed : List ℕ → List ℕ → List ℕ → List ℕ → List ℕ
lines_to_feed a b c d = a ++ 13 ∷ 10 ∷ (b ++ 13 ∷ 10 ∷ (c ++ 13 ∷ 10 ∷ (d ++ 13 ∷ 10 ∷ 13 ∷ [])))

-- a name and a value
abbrev pub line_of : List ℕ → List ℕ → List ℕ
line_of name value = (name ++ 58 ∷ 32 ∷ []) ++ value

pub by_lines : (a h i t u c d : List ℕ)
    → ((((a ++ 13 ∷ 10 ∷ []) ++ (line_of h i ++ 13 ∷ 10 ∷ [])) ++ (line_of t u ++ 13 ∷ 10 ∷ [])) ++ (line_of c d ++ 13 ∷ 10 ∷ [])) ++ 13 ∷ 10 ∷ []
    ≡ lines_to_feed a (line_of h i) (line_of t u) (line_of c d) ++ 10 ∷ []
by_lines a h i t u c d = simp append_assoc

-- three fields in a row, with what stands between a name and its value, and behind each line
regrouped : (a h i t u c d between end : List ℕ)
    → (a ++ end) ++ ((((h ++ (between ++ i)) ++ end) ++ (((t ++ (between ++ u)) ++ end) ++ (((c ++ (between ++ d)) ++ end) ++ []))) ++ end)
    ≡ ((((a ++ end) ++ (((h ++ between) ++ i) ++ end)) ++ (((t ++ between) ++ u) ++ end)) ++ (((c ++ between) ++ d) ++ end)) ++ end
regrouped a h i t u c d between end = simp (append_assoc, append-nil)

pub by_grammar : (a h i t u c d : List ℕ)
    → (a ++ 13 ∷ 10 ∷ []) ++ ((((h ++ 58 ∷ 32 ∷ i) ++ 13 ∷ 10 ∷ []) ++ (((t ++ 58 ∷ 32 ∷ u) ++ 13 ∷ 10 ∷ []) ++ (((c ++ 58 ∷ 32 ∷ d) ++ 13 ∷ 10 ∷ []) ++ []))) ++ 13 ∷ 10 ∷ [])
    ≡ ((((a ++ 13 ∷ 10 ∷ []) ++ (line_of h i ++ 13 ∷ 10 ∷ [])) ++ (line_of t u ++ 13 ∷ 10 ∷ [])) ++ (line_of c d ++ 13 ∷ 10 ∷ [])) ++ 13 ∷ 10 ∷ []
by_grammar a h i t u c d = regrouped a h i t u c d (58 ∷ 32 ∷ []) (13 ∷ 10 ∷ [])
