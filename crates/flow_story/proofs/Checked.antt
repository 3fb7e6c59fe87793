-- Lines that are gone through one by one.
use Rattle.std.proofs.Common.{◌≡◌, ℕ, suc, ◌+◌, ◌<◌, ◌≤◌, List, [], ◌∷◌, length, take, Some, slice_get, add-one, refl, sym, ap, subst, ◌∙◌, inl, inr, arith}
use Rattle.std.proofs.lemmas.Bool.Decides.{leb_tells}
use Rattle.std.proofs.lemmas.Option.{same_Some, slice_get_within, slice_get_read}
use Rattle.vet_base.specs.Members.{In}
use Rattle.vet_base.proofs.Lists.{element_at}
use Rattle.fact_rows.specs.declared.row.Row.{Row}
use Rattle.flow_story.specs.declared.line.StoryLine.{StoryLine}
use Rattle.flow_story.specs.declared.checking.StoryFault.{StoryFault}
use Rattle.flow_story.specs.declared.checking.StoryFault.TheVariants.{Empty, BadLine}
use Rattle.flow_story.specs.Stories.{IsRight, IsRightAt, AreRight, IsStory, IsFirstBad, IsFirstFault}

-- a row that stands at none of the places before the end
abbrev pub IsNotBefore : List Row → Row → ℕ → Type 0
IsNotBefore rows row end = (place : ℕ) → place < end → slice_get rows place ≡ Some row → ⊥

pub not_at_next : (rows : List Row) (row : Row) (end : ℕ) → IsNotBefore rows row end → (slice_get rows end ≡ Some row → ⊥) → IsNotBefore rows row (end + 1)
not_at_next rows row end before here place below is = elim (leb_tells (place + 1) end) [
  | inl less ↦ before place (omega (arith, less.1)) is
  | inr last ↦ let same : place ≡ end = omega (arith, last.1, below) in here (sym (ap (slice_get rows) same) ∙ is)
]

place_of : (x : Row) (xs : List Row) → In x xs → (place : ℕ) × (slice_get xs place ≡ Some x)
place_of x [] at = absurd at
place_of x (y ∷ ys) (inl same) = (0, ap (λ z. Some z) (sym same))
place_of x (y ∷ ys) (inr later) = let at = place_of x ys later in (suc at.0, at.1)

pub stands_nowhere : (rows : List Row) (row : Row) (end : ℕ) → length rows ≤ end → IsNotBefore rows row end → In row rows → ⊥
stands_nowhere rows row end all before at =
    let p = place_of row rows at in
    let below : p.0 < length rows = slice_get_within rows p.0 row p.1 in
    before p.0 (omega (arith, all, below)) p.1

module _ (Rule : ℕ → List Row → Row → Type 0) (Start : Row → Type 0) (lines : List StoryLine) where
  -- the line that stands at a place
  pub right_there : (place : ℕ) (line : StoryLine) → slice_get lines place ≡ Some line → IsRight Rule Start (take place lines) line → IsRightAt Rule Start lines place
  right_there place line is right other at = subst (IsRight Rule Start (take place lines)) (same_Some line other (sym is ∙ at.there)) right

  pub right_next : (place : ℕ) → AreRight Rule Start place lines → IsRightAt Rule Start lines place → AreRight Rule Start (place + 1) lines
  right_next place before here other below = elim (leb_tells (other + 1) place) [
    | inl less ↦ before other (omega (arith, less.1))
    | inr last ↦ let same : place ≡ other = omega (arith, last.1, below) in subst (IsRightAt Rule Start lines) same here
  ]

  pub right_to_the_end : (place : ℕ) → length lines ≤ place → AreRight Rule Start place lines → AreRight Rule Start (length lines) lines
  right_to_the_end place all before other below = before other (omega (arith, all, below))

  pub first_bad_is : (place : ℕ) → place < length lines → (IsRightAt Rule Start lines place → ⊥) → AreRight Rule Start place lines → IsFirstBad Rule Start lines (place + 1)
  first_bad_is place below wrong before =
      let x = element_at lines place below in
      let at : slice_get lines place ≡ Some x.0 = slice_get_read lines (length lines) place x.0 refl below x.1 in
      record {
        place = place;
        counted = add-one place;
        line = x.0;
        there = record { there = at };
        wrong = λ right. wrong (right_there place x.0 at right);
        before = before;
      }

  -- lines with a fault are no story
  pub no_story : (fault : StoryFault) → IsFirstFault Rule Start lines fault → IsStory Rule Start lines → ⊥
  no_story Empty empty story = story.some empty
  no_story (BadLine number) bad story =
      bad.wrong (story.right bad.place (slice_get_within lines bad.place bad.line bad.there.there) bad.line bad.there)
