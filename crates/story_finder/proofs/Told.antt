-- The story of a row, cut out of a trail.
use Rattle.std.proofs.Common.{◌≡◌, ◌≢◌, ℕ, zero, suc, ◌<◌, ◌≤◌, ◌^◌, List, length, filter_map, refl, sym, ap, subst, ◌∙◌, arith}
use Rattle.std.proofs.lemmas.Option.{slice_get_within}
use Rattle.vet_base.specs.Members.{In}
use Rattle.fact_rows.specs.declared.row.Row.{Row}
use Rattle.flow_story.specs.declared.line.StoryLine.{StoryLine}
use Rattle.flow_story.specs.Stories.{TellsOf}
use Rattle.flow_trail.specs.Trails.{Came, IsTrail, lines_of, number_in}
use Rattle.flow_trail.proofs.Coming.{has_number, line_numbered}
use Rattle.story_finder.specs.Cutting.{AreBefore, AreNeeded}
use Rattle.story_finder.specs.Retelling.{retold}
use Rattle.story_finder.proofs.Before.{right_before}
use Rattle.story_finder.proofs.Renumbering.{few_retold, few_told, is_told}

module _ (Rule : ℕ → List Row → Row → Type 0) (Start : Row → Type 0) (came : Came) (trail : IsTrail Rule Start came.rows came) where
  -- what has no number is none of the rows
  pub no_row : (row : Row) → number_in came row ≡ 0 → In row came.rows → ⊥
  no_row row none there =
      let n = has_number came trail.counts row (trail.every row there) in
      let e : 0 ≡ suc n.0 = sym none ∙ n.1 in
      omega (arith, e)

  -- premises stand before
  pub before : AreBefore (lines_of came)
  before = right_before Rule Start (lines_of came) trail.right

  pub there : (row : Row) → number_in came row ≢ 0 → number_in came row ≤ length (lines_of came)
  there row some = by_number (number_in came row) refl some
    where
      by_number : (n : ℕ) → number_in came row ≡ n → n ≢ 0 → n ≤ length (lines_of came)
      by_number zero is some = absurd (some refl)
      by_number (suc n) is some = let l = line_numbered came trail.counts row n is in let within : n < length (lines_of came) = slice_get_within (lines_of came) n l.0 l.1.0 in omega (arith, within)

  pub tells : (row : Row) (goal : ℕ) (numbers : List ℕ) (lines : List StoryLine) → goal ≡ number_in came row → goal ≢ 0 → AreNeeded (lines_of came) goal numbers →
      lines ≡ filter_map (retold (lines_of came) numbers) numbers → TellsOf Rule Start row lines
  tells row zero numbers lines is some needed told = absurd (some refl)
  tells row (suc n) numbers lines is some needed told =
      let l = line_numbered came trail.counts row n (sym is) in
      subst (TellsOf Rule Start row) (sym told) (is_told Rule Start came trail.counts trail.right (suc n) numbers needed row l.0 l.1.0 l.1.1)

  pub few_numbers : (goal : ℕ) (numbers : List ℕ) → goal < 2 ^ 32 → AreNeeded (lines_of came) goal numbers → length numbers < 2 ^ 32
  few_numbers goal numbers fits needed = let upto : length numbers ≤ goal = few_told Rule Start came trail.counts trail.right goal numbers needed in omega (arith, upto, fits)

  pub few_lines : (goal : ℕ) (numbers : List ℕ) (lines : List StoryLine) → goal < 2 ^ 32 → AreNeeded (lines_of came) goal numbers → lines ≡ filter_map (retold (lines_of came) numbers) numbers → length lines < 2 ^ 32
  few_lines goal numbers lines fits needed told =
      let upto : length numbers ≤ goal = few_told Rule Start came trail.counts trail.right goal numbers needed in
      let same : length lines ≡ length numbers = ap length told ∙ few_retold Rule Start came trail.counts trail.right goal numbers needed in
      omega (arith, upto, same, fits)

-- a trail of rows is one of its own rows
pub own_rows : (Rule : ℕ → List Row → Row → Type 0) (Start : Row → Type 0) (rows : List Row) (came : Came) → IsTrail Rule Start rows came → IsTrail Rule Start came.rows came
own_rows Rule Start rows came trail = subst (λ z. IsTrail Rule Start z came) (sym trail.of) trail
