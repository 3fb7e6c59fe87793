-- What is listed of a row follows by the rules of library calls of the second set.
use Rattle.std.proofs.Common.{◌≡◌, ◌==◌, List, [], ◌∷◌, Option, Some, None, flat_map, refl, sym, subst}
use Rattle.std.specs.List.{AllByRecursion}
use Rattle.vet_base.specs.Members.{In}
use Rattle.vet_base.proofs.Every.{each_append, each_where}
use Rattle.app_machine.specs.declared.lists.Lists.{Lists}
use Rattle.app_machine.specs.declared.lists.SummaryId.{SummaryId}
use Rattle.app_machine.specs.declared.app.App.{App}
use Rattle.fact_rows.specs.declared.context.Node.{Node}
use Rattle.fact_rows.specs.declared.site.Site.{Site}
use Rattle.fact_rows.specs.declared.row.Row.{Row}
use Rattle.fact_rows.specs.declared.row.Row.TheVariants.{Points, Label, Cell, CellLabel, Holds, Uses}
use Rattle.rule_ground.specs.declared.conclusion.Conclusion.{Conclusion}
use Rattle.rule_ground.specs.declared.key.Key.{Key}
use Rattle.rule_ground.specs.declared.key.Key.TheVariants.{PointsTo, UsesAt}
use Rattle.rule_ground.specs.Exact.{IsSound}
use Rattle.rule_ground.specs.Given.{rows_in}
use Rattle.rule_ground.specs.Hits.{IsHits}
use Rattle.rule_ground.specs.Listing.{at_hit, of_hits}
use Rattle.library_ground.specs.declared.pins.Pins.{Pins}
use Rattle.library_ground.specs.CallRow.{CallRow, call_row}
use Rattle.library_ground.specs.Pinned.{AreThere}
use Rattle.library_ground.specs.Stands.{of_row, stands}
use Rattle.library_heap_rules.specs.LibraryGiven.{no_pins, value_pin, object_pin, cell_pin}
use Rattle.register_readers.specs.Readings.{Readings}
use Rattle.cell_rules.specs.LibraryRules.{LibraryRule}
use Rattle.cell_ground.specs.Ready.{Ready}
use Rattle.cell_library_value_rules.specs.CellPinned.{IsPinnedBy}
use Rattle.cell_library_value_rules.specs.CellValueGiven.{value_gives}
use Rattle.cell_library_value_rules.specs.exact.CellValueSound.{value_sound}
use Rattle.cell_library_rules.specs.CellHeapGiven.{heap_gives}
use Rattle.cell_library_rules.specs.CellLibraryGiven.{call_gives, used_gives, user_gives, holder_gives, pointer_gives, said_gives, cell_library_given}
use Rattle.cell_library_rules.specs.exact.CellHeapSound.{heap_sound}

each_as : (P Q : Conclusion → Type 0) → ((c : Conclusion) → P c → Q c) → (cs : List Conclusion) → AllByRecursion P cs → AllByRecursion Q cs
each_as P Q f [] h = tt
each_as P Q f (c ∷ cs) h = (f c h.0, each_as P Q f cs h.1)

module _ (app : App) (readings : Readings) (lists : Lists) (ready : Ready app readings) (has : Row → Type 0) (hits : Key → List Row)
    (law : (k : Key) → IsHits has k (hits k)) where
  abbrev Sound : Row → Conclusion → Type 0
  Sound row = IsSound (LibraryRule app lists) has row

  -- of a use, where each conclusion with the known premises has the row among them
  module _ (row : Row) (pins : Pins) (known : AreThere has pins) (n : Node) (u : SummaryId) (there : has (Uses n u))
      (with_row : (c : Conclusion) → IsPinnedBy app lists has n u pins c → In row (rows_in c.premises)) where
    as_sound : (c : Conclusion) → IsPinnedBy app lists has n u pins c → Sound row c
    as_sound c h = record { by = h.by; known = h.known; uses = with_row c h }

    used_sound : (o : Option CallRow) → call_row app lists n u ≡ o → AllByRecursion (Sound row) (used_gives app readings hits pins o)
    used_sound None e = tt
    used_sound (Some c) e =
        let r = stands app lists n u c e in
        let P : Conclusion → Type 0 = IsPinnedBy app lists has n u pins in
        let own : CallRow = of_row app lists n u r.0 in
        subst (λ z. AllByRecursion (Sound row) (call_gives app readings hits pins z)) (sym r.1)
        (each_as P (Sound row) as_sound (call_gives app readings hits pins own)
        (each_append P (value_gives app readings hits pins own) (heap_gives hits pins own)
        (value_sound app readings lists ready has hits law n u r.0 pins there known) (heap_sound app lists has hits law n u r.0 pins there known)))

    user_sound : AllByRecursion (Sound row) (user_gives app readings lists hits pins (Uses n u))
    user_sound = used_sound (call_row app lists n u) refl

  free_there : AreThere has no_pins
  free_there = record { value = tt; object = tt; cell = tt }

  value_there : {row : Row} → has row → AreThere has (value_pin row)
  value_there p = record { value = p; object = tt; cell = tt }

  object_there : {row : Row} → has row → AreThere has (object_pin row)
  object_there p = record { value = tt; object = p; cell = tt }

  cell_there : {row said : Row} → has row → has said → AreThere has (cell_pin row said)
  cell_there p q = record { value = p; object = tt; cell = q }

  -- of each use at a node
  value_uses : (row : Row) (n : Node) → has row → AllByRecursion (Sound row) (flat_map (user_gives app readings lists hits (value_pin row)) (hits (UsesAt n)))
  value_uses row n p = of_hits has hits law (Sound row) (UsesAt n) (user_gives app readings lists hits (value_pin row)) (λ used i.
      let w = (law (UsesAt n)).under used i in
      (Uses n w.0, w.1, user_sound row (value_pin row) (value_there p) n w.0 (at_hit has hits law _ used _ i w.1) (λ c h. h.value)))

  holder_uses : (row : Row) (n : Node) → has row → AllByRecursion (Sound row) (flat_map (holder_gives app readings lists hits row) (hits (UsesAt n)))
  holder_uses row n p = of_hits has hits law (Sound row) (UsesAt n) (holder_gives app readings lists hits row) (λ used i.
      let w = (law (UsesAt n)).under used i in
      let there : has (Uses n w.0) = at_hit has hits law _ used _ i w.1 in (
        Uses n w.0,
        w.1,
        each_append (Sound row) (user_gives app readings lists hits (value_pin row) (Uses n w.0)) (user_gives app readings lists hits (object_pin row) (Uses n w.0))
            (user_sound row (value_pin row) (value_there p) n w.0 there (λ c h. h.value))
            (user_sound row (object_pin row) (object_there p) n w.0 there (λ c h. h.object)),
      ))

  said_uses : (row said : Row) (n : Node) → has row → has said →
      AllByRecursion (Sound said) (flat_map (user_gives app readings lists hits (cell_pin row said)) (hits (UsesAt n)))
  said_uses row said n p q = of_hits has hits law (Sound said) (UsesAt n) (user_gives app readings lists hits (cell_pin row said)) (λ used i.
      let w = (law (UsesAt n)).under used i in
      (Uses n w.0, w.1, user_sound said (cell_pin row said) (cell_there p q) n w.0 (at_hit has hits law _ used _ i w.1) (λ c h. h.cell)))

  -- of what is said of an object, at each register that holds it
  said_sound : (s : Site) (said : Row) → has said → AllByRecursion (Sound said) (said_gives app readings lists hits s said)
  said_sound s said p = of_hits has hits law (Sound said) (PointsTo s) (pointer_gives app readings lists hits said) (λ row i.
      let w = (law (PointsTo s)).under row i in
      (Points w.0 w.1.0 s, w.1.1, said_uses (Points w.0 w.1.0 s) said w.0 (at_hit has hits law _ row _ i w.1.1) p))

  pub library_sound : (row : Row) → has row → AllByRecursion (Sound row) (cell_library_given app readings lists hits row)
  library_sound (Uses n u) p = used_sound (Uses n u) no_pins free_there n u p (λ c h. h.uses) (call_row app lists n u) refl
  library_sound (Points n x s) p = holder_uses (Points n x s) n p
  library_sound (Label n x l) p = value_uses (Label n x l) n p
  library_sound (Cell s k t) p =
      each_where (Sound (Cell s k t)) (k.0 == 0) (said_gives app readings lists hits s (Cell s k t)) (λ e. said_sound s (Cell s k t) p)
  library_sound (CellLabel s k l) p =
      each_where (Sound (CellLabel s k l)) (k.0 == 0) (said_gives app readings lists hits s (CellLabel s k l)) (λ e. said_sound s (CellLabel s k l) p)
  library_sound (Holds s l) p = said_sound s (Holds s l) p
  library_sound _ p = tt
