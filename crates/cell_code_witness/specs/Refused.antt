-- Lists of conclusions that are not what the rules of steps of the second set give with a row.
use Rattle.std.specs.Prelude.{◌≢◌, ℕ, List, [], ◌∷◌}
use Rattle.vet_base.specs.declared.key_id.KeyId.{KeyId}
use Rattle.app_machine.specs.declared.method.Act.TheVariants.{Move, Get, Put}
use Rattle.app_machine.specs.declared.lists.Lists.{Lists}
use Rattle.app_machine.specs.declared.app.App.{App}
use Rattle.vet_base.specs.Members.{In}
use Rattle.fact_rows.specs.declared.context.Node.{Node}
use Rattle.fact_rows.specs.declared.site.Site.{Site}
use Rattle.fact_rows.specs.declared.row.Row.{Row}
use Rattle.fact_rows.specs.declared.row.Row.TheVariants.{Reached, Points, Label, Back, CellLabel, Holds}
use Rattle.flow_rules.specs.Nodes.{at_pc, Acts, GoesOn}
use Rattle.rule_ground.specs.declared.conclusion.Conclusion.{Conclusion}
use Rattle.rule_ground.specs.Given.{of_one, of_two, concludes}
use Rattle.rule_ground.specs.Exact.{IsJust}
use Rattle.rule_ground.specs.Hits.{Among}
use Rattle.cell_rules.specs.Making.{made_at}
use Rattle.cell_rules.specs.Reading.{ReadAt}
use Rattle.cell_step_rules.specs.CellStepGiven.{StepRule}

module _ (app : App) (lists : Lists) where
  -- the list is not what the rules give with the row from these rows
  abbrev pub IsRefused : List Row → Row → List Conclusion → Type 0
  IsRefused rows row given = IsJust (StepRule app lists) (Among rows) row given → ⊥

  pub record AreRefused : Type 0 where
    -- a put of a labelled value into an object, from the object and from the value
    pub no_put_on_object : {n : Node} {o x l : ℕ} {k : KeyId} {s : Site} →
        Acts app n (Put o k x) →
        IsRefused (Points n o s ∷ Label n x l ∷ []) (Points n o s) []
    pub no_put_of_value : {n : Node} {o x l : ℕ} {k : KeyId} {s : Site} →
        Acts app n (Put o k x) →
        IsRefused (Points n o s ∷ Label n x l ∷ []) (Label n x l) []
    -- what is reached from an object by its own cell, and by an object that it holds, from either side
    pub no_reach : {k : KeyId} {l : ℕ} {s : Site} → IsRefused (CellLabel s k l ∷ []) (CellLabel s k l) []
    pub no_climb : {k : KeyId} {l : ℕ} {s t : Site} → IsRefused (Holds t l ∷ Back t k s ∷ []) (Holds t l) []
    pub no_climb_by_holder : {k : KeyId} {l : ℕ} {s t : Site} → IsRefused (Holds t l ∷ Back t k s ∷ []) (Back t k s) []
    -- a put under another key than its own, and a get of what stands under another
    pub put_elsewhere : {n : Node} {o x l : ℕ} {j k : KeyId} {s : Site} →
        Acts app n (Put o k x) →
        j ≢ k →
        IsRefused (Points n o s ∷ Label n x l ∷ []) (Points n o s)
        (concludes 8 (of_two (Points n o s) (Label n x l)) (CellLabel s j l) ∷ [])
    pub got_elsewhere : {n : Node} {o d u l : ℕ} {ds : List ℕ} {j k : KeyId} {s : Site} →
        Acts app n (Get ds o k) →
        j ≢ k →
        IsRefused (Points n o s ∷ CellLabel s j l ∷ []) (Points n o s)
        (concludes 7 (of_two (Points n o s) (CellLabel s j l)) (Label (at_pc n u) d l) ∷ [])
    -- a new object that is told apart otherwise than by what makes it: finer, or coarser
    pub made_otherwise : {n : Node} {d v : ℕ} {s : Site} →
        s ≢ made_at app n →
        IsRefused (Reached n ∷ []) (Reached n) (concludes 5 (of_one (Reached n)) (Points (at_pc n v) d s) ∷ [])
    -- what is moved stands at one step alone, of two that read the register
    pub one_reader : {n : Node} {d x pc u v : ℕ} {ds : List ℕ} {s : Site} →
        Acts app n (Move ds x) →
        In d ds →
        GoesOn app n pc →
        ReadAt app n.by.method d pc v →
        u ≢ v →
        IsRefused (Points n x s ∷ []) (Points n x s)
        (concludes 3 (of_one (Points n x s)) (Points (at_pc n u) d s) ∷ [])

abbrev pub WrongListsAreRefused : Type 0
WrongListsAreRefused = (app : App) (lists : Lists) → AreRefused app lists
