-- A rule by which one row follows from another, and what no search by it ends with. Behind each fact stands what a slip would
-- answer.
use Rattle.std.specs.Prelude.{◌≡◌, ℕ, List, [], ◌∷◌, min, max}
use Rattle.fact_rows.specs.declared.row.Row.{Row}
use Rattle.fact_rows.specs.declared.row.Row.TheVariants.{Live}
use Rattle.taint_solver.specs.declared.worklist.Solved.TheVariants.{Whole, TooLarge}
use Rattle.taint_solver.specs.Solving.{IsSolution, TellsWhichOne}
use Rattle.worker_board.specs.declared.mark.Mark.{Mark}
use Rattle.worker_board.specs.Closing.{AreWorkedOff}
use Rattle.worker_board.specs.Marks.{IsWithin}
use Rattle.worker_board.specs.Schedules.{ArePostable}

-- a component that is absent
abbrev pub start : Row
start = Live 0 0

abbrev pub next : Row
next = Live 0 1

abbrev pub Begins : Row → Type 0
Begins row = row ≡ start

-- from it follows that it may be in the next state
pub data Follows : ℕ → List Row → Row → Type 0 where
  comes_next : Follows 1 (start ∷ []) next

-- nothing follows
abbrev pub Nothing : ℕ → List Row → Row → Type 0
Nothing rule premises row = ⊥

-- the place of the start, in a table of it alone
abbrev pub first_place : Mark
first_place = record { from = 0; to = 1 }

pub record Ends : Type 0 where
  -- a table without what follows is not whole (else where nothing or not the last row is worked off, where what was found is not
  -- added or counts as worked off, and where workers end at the limit)
  pub whole : (limit : ℕ) → IsSolution Follows Begins limit (start ∷ []) Whole → ⊥
  -- as many rows as the limit are not too many (else they are)
  pub at_limit : TellsWhichOne Nothing Begins 1 (TooLarge 1) → ⊥
  -- a worker that handed nothing in did not work the start off, with room for a row (else it finds nothing, or ends at the limit)
  pub worked_off : AreWorkedOff Follows (start ∷ []) [] 1 (IsWithin first_place) → ⊥
  -- a row of the table is not handed in (else it is taken for one that is missing, or added to what was found)
  pub posted : ArePostable Follows Begins (start ∷ []) (start ∷ []) → ⊥
  -- of four workers four work, and no fewer than 1 and no more than 16 (else one, and as many as before)
  pub crew : min (max 4 1) 16 ≡ 1 → ⊥

abbrev pub SearchesEnd : Type 0
SearchesEnd = Ends
