-- What holds of the methods that were decoded so far.
use Rattle.std.specs.Prelude.{ℕ, ◌+◌, ◌≤◌, List, [], ◌∷◌, length}
use Rattle.dex_code.specs.Find.{Ascend}
use Rattle.vet_base.specs.Members.{In}
use Rattle.link_code.specs.declared.coded.Coded.{Coded}

-- how many lines these have
abbrev pub lines_in : List Coded → ℕ
lines_in [] = 0
lines_in (c ∷ cs) = length c.decoded.lines + lines_in cs

-- the lines of each stand in order, and there are no more of them than units
pub record SoFar (coded : List Coded) (units : ℕ) : Type 0 where
  pub order : (c : Coded) → In c coded → Ascend c.decoded.lines
  pub few : lines_in coded ≤ units
