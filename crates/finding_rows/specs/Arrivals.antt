-- The row that tells a finding.
use Rattle.std.specs.Prelude.{◌≡◌, ◌<◌, ℕ, true, List, [], ◌∷◌, Some}
use Rattle.app_machine.specs.declared.app.App.{App}
use Rattle.app_machine.specs.declared.lists.Lists.{Lists}
use Rattle.app_machine.specs.declared.papers.Declaration.{Declaration}
use Rattle.app_machine.specs.State.{Arrival}
use Rattle.fact_rows.specs.declared.row.Row.{Row}
use Rattle.outcomes.specs.declared.outcome.Finding.{Finding}
use Rattle.outcomes.specs.Findings.{arrival_of, finding_of, is_undeclared}
use Rattle.vet_base.specs.Members.{IsAt}

module _ (app : App) (lists : Lists) (declaration : Declaration) where
  -- the row is an arrival of a pair that is not declared, and the finding is of that pair at that place
  pub record Tells (finding : Finding) (row : Row) : Type 0 where
    pub arrival : Arrival
    pub arrives : arrival_of row ≡ Some arrival
    pub undeclared : is_undeclared lists declaration arrival ≡ true
    pub named : finding_of app lists arrival ≡ finding

  -- the row is the first of these that tells the finding
  pub record IsFirstArrival (rows : List Row) (finding : Finding) (row : Row) : Type 0 where
    pub place : ℕ
    pub there : IsAt rows place row
    pub tells : Tells finding row
    pub before : (earlier : ℕ) (other : Row) → earlier < place → IsAt rows earlier other → Tells finding other → ⊥

  -- for each finding, in their order, the first row that tells it
  abbrev pub AreFirstArrivals : List Row → List Finding → List Row → Type 0
  AreFirstArrivals rows [] [] = Unit {0}
  AreFirstArrivals rows (finding ∷ findings) (row ∷ others) = IsFirstArrival rows finding row × AreFirstArrivals rows findings others
  AreFirstArrivals rows _ _ = ⊥
