-- Which lines are right, and which is the first that is not.
use Rattle.std.proofs.Common.{◌≡◌, ◌≢◌, ◌<◌, ℕ, zero, suc, List, [], ◌∷◌, take, Some, slice_get, refl, sym, subst, ◌∙◌, inl, inr, arith, lit<}
use Rattle.std.proofs.lemmas.Option.{none-some, same_Some}
use Rattle.vet_base.specs.Members.{In, IsAt}
use Rattle.fact_rows.specs.declared.row.Row.{Row}
use Rattle.flow_story.specs.declared.line.Numbers.TheVariants.{None, One, Two, Three}
use Rattle.flow_story.specs.declared.line.StoryLine.{StoryLine}
use Rattle.flow_story.specs.Looking.{Gives, rows_named}
use Rattle.flow_story.specs.Stories.{IsRight, a_start, by_rule, AreRight, IsUsed, listed}
use Rattle.flow_story.proofs.Reading.{told_or_given}
use Rattle.story_witness.specs.StoryFacts.{start, other, aside, last, Begins, Follows, moves, joins, line, begin, moved, Faulty, StoriesTell}

abbrev Right : List StoryLine → StoryLine → Type 0
Right before l = IsRight Follows Begins before l

begin_right : (before : List StoryLine) → Right before begin
begin_right before = a_start refl

moved_right : (rest : List StoryLine) → Right (begin ∷ rest) moved
moved_right rest = by_rule (start ∷ []) refl (λ e. absurd cc) moves

-- the line that stands at a place
at : (lines : List StoryLine) (place : ℕ) (l found : StoryLine) → slice_get lines place ≡ Some l → Right (take place lines) l → IsAt lines place found → Right (take place lines) found
at lines place l found is right there = subst (Right (take place lines)) (same_Some l found (sym is ∙ there.there)) right

-- the first line is right, and the first two
one_right : (rest : List StoryLine) → AreRight Follows Begins 1 (begin ∷ rest)
one_right rest zero below l there = at (begin ∷ rest) 0 begin l refl (begin_right []) there
one_right rest (suc place) below l there = absurd (omega (arith, below))

two_right : (rest : List StoryLine) → AreRight Follows Begins 2 (begin ∷ moved ∷ rest)
two_right rest zero below l there = at (begin ∷ moved ∷ rest) 0 begin l refl (begin_right []) there
two_right rest (suc zero) below l there = at (begin ∷ moved ∷ rest) 1 moved l refl (moved_right []) there
two_right rest (suc (suc place)) below l there = absurd (omega (arith, below))

none_right : (lines : List StoryLine) → AreRight Follows Begins 0 lines
none_right lines place below = absurd (omega (arith, below))

-- a line with a rule other than 0 is right only by it
wrong_by : (before : List StoryLine) (l : StoryLine) → l.rule ≢ 0 → (Gives Follows l (rows_named before l.premises) → ⊥) → Right before l → ⊥
wrong_by before l rule none right = elim (told_or_given Follows Begins before l right) [ inl told ↦ rule told.0 | inr given ↦ none given ]

not_given : (rows : List Row) → Follows 3 rows last → ⊥
not_given rows f = elim f [ ]

not_by : (rows : List Row) → Follows 4 rows other → ⊥
not_by rows f = elim f [ ]

not_by_last : (rows : List Row) → Follows 255 rows other → ⊥
not_by_last rows f = elim f [ ]

not_by_none : (rows : List Row) (row : Row) → Follows 0 rows row → ⊥
not_by_none rows row f = elim f [ ]

not_turned : Follows 8 (other ∷ start ∷ []) last → ⊥
not_turned f = elim f [ ]

not_three : Follows 8 (start ∷ other ∷ start ∷ []) last → ⊥
not_three f = elim f [ ]

no_start_right : Right [] (line 0 None other) → ⊥
no_start_right right = elim (told_or_given Follows Begins [] (line 0 None other) right) [
  | inl told ↦ let e : other ≡ start = told.1.1 in absurd cc
  | inr given ↦ absurd given
]

premised_right : Right (begin ∷ []) (line 0 (One 1) start) → ⊥
premised_right right = elim (told_or_given Follows Begins (begin ∷ []) (line 0 (One 1) start) right) [
  | inl told ↦ let e : One 1 ≡ None = told.1.0 in absurd cc
  | inr given ↦ not_by_none (start ∷ []) start given
]

bad_at_two : (l : StoryLine) (rest : List StoryLine) → (Right (begin ∷ []) l → ⊥) → Faulty (begin ∷ l ∷ rest) 2
bad_at_two l rest wrong = record { place = 1; counted = refl; line = l; there = record { there = refl }; wrong = wrong; before = one_right (l ∷ rest) }

bad_at_three : (l : StoryLine) (rest : List StoryLine) → (Right (begin ∷ moved ∷ []) l → ⊥) → Faulty (begin ∷ moved ∷ l ∷ rest) 3
bad_at_three l rest wrong = record { place = 2; counted = refl; line = l; there = record { there = refl }; wrong = wrong; before = two_right (l ∷ rest) }

not_given_right : Right (begin ∷ []) (line 3 (One 1) last) → ⊥
not_given_right = wrong_by (begin ∷ []) (line 3 (One 1) last) (λ e. absurd cc) (not_given (start ∷ []))

-- the story
abbrev story : List StoryLine
story = begin ∷ moved ∷ line 8 (Two 1 2) last ∷ []

story_right : AreRight Follows Begins 3 story
story_right zero below l there = at story 0 begin l refl (begin_right []) there
story_right (suc zero) below l there = at story 1 moved l refl (moved_right []) there
story_right (suc (suc zero)) below l there = at story 2 (line 8 (Two 1 2) last) l refl (by_rule (start ∷ other ∷ []) refl (λ e. absurd cc) joins) there
story_right (suc (suc (suc place))) below l there = absurd (omega (arith, below))

story_used : (place : ℕ) → suc place < 3 → IsUsed story place
story_used zero below = record { later = 1; behind = lit< tt; line = moved; there = record { there = refl }; names = inl refl }
story_used (suc zero) below = record { later = 2; behind = lit< tt; line = line 8 (Two 1 2) last; there = record { there = refl }; names = inr (inl refl) }
story_used (suc (suc place)) below = absurd (omega (arith, below))

story_apart : (In start (other ∷ last ∷ []) → ⊥) × ((In other (last ∷ []) → ⊥) × ((In last [] → ⊥) × Unit {0}))
story_apart = (
  λ i. elim i [ inl e ↦ absurd cc | inr j ↦ elim j [ inl e ↦ absurd cc | inr none ↦ none ] ],
  (
    λ i. elim i [ inl e ↦ absurd cc | inr none ↦ none ],
    (λ none. none, tt),
  ),
)

-- a line that is not used
not_used : IsUsed (begin ∷ moved ∷ line 4 (One 1) aside ∷ line 8 (Two 1 2) last ∷ []) 2 → ⊥
not_used u = by_place u.later u.line u.behind u.there.there u.names
  where
    by_place : (later : ℕ) (l : StoryLine) → 2 < later → slice_get (begin ∷ moved ∷ line 4 (One 1) aside ∷ line 8 (Two 1 2) last ∷ []) later ≡ Some l → In 3 (listed l.premises) → ⊥
    by_place zero l below is names = absurd (omega (arith, below))
    by_place (suc zero) l below is names = absurd (omega (arith, below))
    by_place (suc (suc zero)) l below is names = absurd (omega (arith, below))
    by_place (suc (suc (suc zero))) l below is names =
        let named : In 3 (1 ∷ 2 ∷ []) = subst (λ (z : StoryLine). In 3 (listed z.premises)) (sym (same_Some (line 8 (Two 1 2) last) l is)) names in
        elim named [ inl e ↦ absurd (omega (arith, e)) | inr more ↦ elim more [ inl e ↦ absurd (omega (arith, e)) | inr none ↦ none ] ]
    by_place (suc (suc (suc (suc later)))) l below is names = absurd (none-some l is)

pub stories_tell : StoriesTell
stories_tell = record {
  tells = record {
    story = record { some = λ e. absurd cc; right = story_right };
    ends = record { front = begin ∷ moved ∷ []; last = line 8 (Two 1 2) last; is = refl; tells = refl };
    apart = story_apart;
    used = story_used;
  };
  empty = refl;
  no_start = record { place = 0; counted = refl; line = line 0 None other; there = record { there = refl }; wrong = no_start_right; before = none_right (line 0 None other ∷ []) };
  not_given = bad_at_two (line 3 (One 1) last) [] not_given_right;
  other_rule = bad_at_two (line 4 (One 1) other) [] (wrong_by (begin ∷ []) (line 4 (One 1) other) (λ e. absurd cc) (not_by (start ∷ [])));
  no_rule = bad_at_two (line 255 (One 1) other) [] (wrong_by (begin ∷ []) (line 255 (One 1) other) (λ e. absurd cc) (not_by_last (start ∷ [])));
  itself = bad_at_two (line 3 (One 2) other) [] (wrong_by (begin ∷ []) (line 3 (One 2) other) (λ e. absurd cc) (λ none. none));
  later = bad_at_two (line 8 (Two 1 3) last) (moved ∷ []) (wrong_by (begin ∷ []) (line 8 (Two 1 3) last) (λ e. absurd cc) (λ none. none));
  before_all = bad_at_two (line 3 (One 0) other) [] (wrong_by (begin ∷ []) (line 3 (One 0) other) (λ e. absurd cc) (λ none. none));
  beyond_all = bad_at_two (line 3 (One 4294967295) other) [] (wrong_by (begin ∷ []) (line 3 (One 4294967295) other) (λ e. absurd cc) (λ none. none));
  premised = bad_at_two (line 0 (One 1) start) [] premised_right;
  ordered = bad_at_three (line 8 (Two 2 1) last) [] (wrong_by (begin ∷ moved ∷ []) (line 8 (Two 2 1) last) (λ e. absurd cc) not_turned);
  one_more = bad_at_three (line 8 (Three 1 2 1) last) [] (wrong_by (begin ∷ moved ∷ []) (line 8 (Three 1 2 1) last) (λ e. absurd cc) not_three);
  to_the_end = λ story. not_given_right (story.right 1 (lit< tt) (line 3 (One 1) last) (record { there = refl }));
  unused = λ tells. not_used (tells.used 2 (lit< tt));
  twice = λ tells. tells.apart.0 (inl refl);
}
