-- What a row gives by the rules of steps and of the heap of the second set, as a list of conclusions.
use Rattle.std.specs.Prelude.{◌==◌, ◌&&◌, ◌⊎◌, ℕ, List, [], ◌∷◌, ◌++◌, Option, Some, None, cond, flat_map}
use Rattle.vet_base.specs.declared.key_id.KeyId.{KeyId}
use Rattle.app_machine.specs.declared.method.Act.{Act}
use Rattle.app_machine.specs.declared.method.Act.TheVariants as act
use Rattle.app_machine.specs.declared.method.Step.{Step}
use Rattle.app_machine.specs.declared.lists.Lists.{Lists}
use Rattle.app_machine.specs.declared.app.App.{App}
use Rattle.app_machine.specs.Lookups.{elem_key}
use Rattle.app_machine.specs.Summaries.{static_source}
use Rattle.app_machine.specs.State.{result_register, exception_register, holds}
use Rattle.fact_rows.specs.declared.context.Node.{Node}
use Rattle.fact_rows.specs.declared.site.Site.{Site}
use Rattle.fact_rows.specs.declared.row.Row.{Row}
use Rattle.fact_rows.specs.declared.row.Row.TheVariants as fact
use Rattle.flow_rules.specs.LocalRules.{returning, throwing}
use Rattle.rule_ground.specs.declared.conclusion.Conclusion.{Conclusion}
use Rattle.rule_ground.specs.declared.key.Key.{Key}
use Rattle.rule_ground.specs.declared.key.Key.TheVariants.{PointsAt, PointsTo, CellsOf, BacksOf, StaticPointsOf, ReachedAt, LabelsAt, StaticLabelsOf, CellLabelsOf, HoldsOf}
use Rattle.rule_ground.specs.Given.{of_one, of_two, concludes}
use Rattle.app_index.specs.declared.static_readers.Reader.{Reader}
use Rattle.app_index.specs.Readers.{readers_of}
use Rattle.register_readers.specs.Readings.{Readings}
use Rattle.cell_rules.specs.LocalRules.{LocalRule}
use Rattle.cell_rules.specs.HeapRules.{HeapRule}
use Rattle.cell_rules.specs.Making.{made_at}
use Rattle.cell_ground.specs.declared.content.Content.{Content}
use Rattle.cell_ground.specs.declared.content.Content.TheVariants.{Object, Label}
use Rattle.cell_ground.specs.Coming.{held, held_static, stored, coming, coming_to_all}
use Rattle.cell_ground.specs.Steps.{step_here}

-- the rules of steps and of the heap
abbrev pub StepRule : App → Lists → ℕ → List Row → Row → Type 0
StepRule app lists rule premises x = LocalRule app lists rule premises x ⊎ HeapRule rule premises x

-- 8, from the object: the labels of the value's register.
abbrev pub put_on_gives : Node → KeyId → ℕ → Site → Row → List Conclusion
put_on_gives n k r s (fact.Label m x l) = concludes 8 (of_two (fact.Points n r s) (fact.Label m x l)) (fact.CellLabel s k l) ∷ []
put_on_gives n k r s _ = []

-- 8, from the value: each object of the put's register.
abbrev pub put_gives : Node → KeyId → ℕ → ℕ → Row → List Conclusion
put_gives n k r l (fact.Points m o s) = concludes 8 (of_two (fact.Points m o s) (fact.Label n r l)) (fact.CellLabel s k l) ∷ []
put_gives n k r l _ = []

abbrev pub puts : (Key → List Row) → Act → Node → ℕ → ℕ → List Conclusion
puts hits (act.Put o k x) n r l = cond (x == r) (flat_map (put_gives n k r l) (hits (PointsAt n o))) []
puts hits _ n r l = []

-- 14. A label in a cell is reached from the object; what is reached from an object is reached from what holds it.
abbrev pub holding : Site → KeyId → ℕ → Conclusion
holding s k l = concludes 14 (of_one (fact.CellLabel s k l)) (fact.Holds s l)

abbrev pub lifts : Site → ℕ → Row → List Conclusion
lifts t l (fact.Back u k s) = concludes 14 (of_two (fact.Holds t l) (fact.Back u k s)) (fact.Holds s l) ∷ []
lifts t l _ = []

abbrev pub holds_on : (Key → List Row) → Site → ℕ → List Conclusion
holds_on hits t l = flat_map (lifts t l) (hits (BacksOf t))

abbrev pub holder_gives : Site → KeyId → Site → Row → List Conclusion
holder_gives t k s (fact.Holds u l) = concludes 14 (of_two (fact.Holds u l) (fact.Back t k s)) (fact.Holds s l) ∷ []
holder_gives t k s _ = []

abbrev pub back_on : (Key → List Row) → Site → KeyId → Site → List Conclusion
back_on hits t k s = flat_map (holder_gives t k s) (hits (HoldsOf t))

-- What a label gives alone, out of the registers.
abbrev pub label_gives : Node → ℕ → ℕ → ℕ → Row → Conclusion
label_gives n r l rule x = concludes rule (of_one (fact.Label n r l)) x

-- 6, 10, 11, 12. A label goes into a filled array, into a static, or out of the activation.
abbrev pub label_leaves : App → Act → Node → ℕ → ℕ → List Conclusion
label_leaves app (act.Fill xs class) n r l = cond (holds xs r) (label_gives n r l 6 (fact.CellLabel (made_at app n) elem_key l) ∷ []) []
label_leaves app (act.PutStatic g x) n r l = cond (x == r) (label_gives n r l 10 (fact.StaticLabel g l) ∷ []) []
label_leaves app (act.Throw x) n r l = cond (x == r) (label_gives n r l 11 (fact.ExitLabel n.by throwing l) ∷ []) []
label_leaves app (act.Return (Some x)) n r l = cond (x == r) (label_gives n r l 12 (fact.ExitLabel n.by returning l) ∷ []) []
label_leaves app _ n r l = []

module _ (readings : Readings) where
  -- 9. What a static gives to a reader.
  abbrev pub reads : Act → List ℕ → Node → ℕ → Content → List Conclusion
  reads (act.GetStatic ds f) next n g v = cond (f == g) (coming_to_all readings 9 (of_two (fact.Reached n) (held_static v g)) v n ds next) []
  reads _ next n g v = []

  abbrev pub reads_on : Option Step → Node → ℕ → Content → List Conclusion
  reads_on None n g v = []
  reads_on (Some step) n g v = reads step.act step.next n g v

  abbrev pub static_gives : Act → List ℕ → Node → Row → List Conclusion
  static_gives act next n (fact.StaticPoints g s) = reads act next n g (Object s)
  static_gives act next n (fact.StaticLabel g l) = reads act next n g (Label l)
  static_gives act next n _ = []

  -- 9, from the reader, and what the lists label.
  abbrev pub statics_read : (Key → List Row) → Act → List ℕ → Node → List Conclusion
  statics_read hits (act.GetStatic ds g) next n =
      flat_map (static_gives (act.GetStatic ds g) next n) (hits (StaticPointsOf g)) ++ flat_map (static_gives (act.GetStatic ds g) next n) (hits (StaticLabelsOf g))
  statics_read hits _ next n = []

  abbrev pub source_gives : Option ℕ → List ℕ → List ℕ → Node → List Conclusion
  source_gives None ds next n = []
  source_gives (Some l) ds next n = coming_to_all readings 9 (of_one (fact.Reached n)) (Label l) n ds next

  -- 3, 11. What a register holds is passed on, whatever it is.
  abbrev pub passes : Act → List ℕ → List ℕ → Node → ℕ → Content → List Conclusion
  passes (act.Move ds x) next catches n r v = cond (x == r) (coming_to_all readings 3 (of_one (held v n r)) v n ds next) []
  passes (act.TakeResult ds) next catches n r v = cond (r == result_register) (coming_to_all readings 3 (of_one (held v n r)) v n ds next) []
  passes (act.TakeException d) next catches n r v = cond (r == exception_register) (coming readings 3 (of_one (held v n r)) v n d next) []
  passes (act.Throw x) next catches n r v = cond (x == r) (coming readings 11 (of_one (held v n r)) v n exception_register catches) []
  passes _ next catches n r v = []

  -- 7. What the object holds under the key, and the labels there.
  abbrev pub got_content : List ℕ → List ℕ → Node → ℕ → Site → Row → Content → List Conclusion
  got_content ds next n r s cell v = coming_to_all readings 7 (of_two (fact.Points n r s) cell) v n ds next

  abbrev pub got_gives : List ℕ → List ℕ → Node → ℕ → Site → Row → List Conclusion
  got_gives ds next n r s (fact.Cell u k t) = got_content ds next n r s (fact.Cell u k t) (Object t)
  got_gives ds next n r s (fact.CellLabel u k l) = got_content ds next n r s (fact.CellLabel u k l) (Label l)
  got_gives ds next n r s _ = []

  -- 7, from the cell: each register that may hold the object.
  abbrev pub gets : Act → List ℕ → Node → ℕ → Site → Site → KeyId → Content → List Conclusion
  gets (act.Get ds o j) next n r u s k v = cond (o == r && j.0 == k.0) (coming_to_all readings 7 (of_two (fact.Points n r u) (stored v s k)) v n ds next) []
  gets _ next n r u s k v = []

  abbrev pub gets_on : Option Step → Node → ℕ → Site → Site → KeyId → Content → List Conclusion
  gets_on None n r u s k v = []
  gets_on (Some step) n r u s k v = gets step.act step.next n r u s k v

  -- 4, 5. A label comes to what is joined, and to a new array of that size.
  abbrev pub label_comes : Act → List ℕ → Node → ℕ → ℕ → List Conclusion
  label_comes (act.Join ds xs) next n r l = cond (holds xs r) (coming_to_all readings 4 (of_one (fact.Label n r l)) (Label l) n ds next) []
  label_comes (act.New d class (Some x)) next n r l = cond (x == r) (coming readings 5 (of_one (fact.Label n r l)) (Label l) n d next) []
  label_comes _ next n r l = []

module _ (app : App) (readings : Readings) where
  -- 5. What is made here.
  abbrev pub made : Act → List ℕ → Node → List Conclusion
  made (act.New d class size) next n = coming readings 5 (of_one (fact.Reached n)) (Object (made_at app n)) n d next
  made (act.Fill xs class) next n = coming readings 5 (of_one (fact.Reached n)) (Object (made_at app n)) n result_register next
  made _ next n = []

  -- 9, from the static: each step that reads it, and each node there.
  abbrev pub reader_gives : ℕ → Content → Row → List Conclusion
  reader_gives g v (fact.Reached n) = reads_on readings (step_here app n) n g v
  reader_gives g v _ = []

  abbrev pub reader_takes : (Key → List Row) → ℕ → Content → Reader → List Conclusion
  reader_takes hits g v reader = flat_map (reader_gives g v) (hits (ReachedAt reader.method reader.pc))

  abbrev pub static_on : (Key → List Row) → ℕ → Content → List Conclusion
  static_on hits g v = flat_map (reader_takes hits g v) (readers_of app g)

  abbrev pub sourced : Lists → Act → List ℕ → Node → List Conclusion
  sourced lists (act.GetStatic ds g) next n = source_gives readings (static_source app lists g) ds next n
  sourced lists _ next n = []

  abbrev pub reached_on : Lists → Option Step → (Key → List Row) → Node → List Conclusion
  reached_on lists None hits n = []
  reached_on lists (Some step) hits n = made step.act step.next n ++ (statics_read readings hits step.act step.next n ++ sourced lists step.act step.next n)

  -- 6, 7, 8. What an object gives.
  abbrev pub object_gives : (Key → List Row) → Act → List ℕ → Node → ℕ → Site → List Conclusion
  object_gives hits (act.Fill xs class) next n r s = cond (holds xs r) (concludes 6 (of_one (fact.Points n r s)) (fact.Cell (made_at app n) elem_key s) ∷ []) []
  object_gives hits (act.Get ds o k) next n r s =
      cond (o == r) (flat_map (got_gives readings ds next n r s) (hits (CellsOf s k)) ++ flat_map (got_gives readings ds next n r s) (hits (CellLabelsOf s k))) []
  object_gives hits (act.Put o k x) next n r s = cond (o == r) (flat_map (put_on_gives n k r s) (hits (LabelsAt n x))) []
  object_gives hits _ next n r s = []

  abbrev pub points_on : Option Step → (Key → List Row) → Node → ℕ → Site → List Conclusion
  points_on None hits n r s = []
  points_on (Some step) hits n r s = passes readings step.act step.next step.catches n r (Object s) ++ object_gives hits step.act step.next n r s

  abbrev pub label_leads : Option Step → Node → ℕ → ℕ → List Conclusion
  label_leads None n r l = []
  label_leads (Some step) n r l =
      passes readings step.act step.next step.catches n r (Label l) ++ (label_comes readings step.act step.next n r l ++ label_leaves app step.act n r l)

  -- the same with 8 as the value that is put
  abbrev pub label_on : Option Step → (Key → List Row) → Node → ℕ → ℕ → List Conclusion
  label_on None hits n r l = []
  label_on (Some step) hits n r l = label_leads (Some step) n r l ++ puts hits step.act n r l

  abbrev pub getter_gives : Site → KeyId → Content → Row → List Conclusion
  getter_gives s k v (fact.Points n r u) = gets_on readings (step_here app n) n r u s k v
  getter_gives s k v _ = []

  abbrev pub cell_on : (Key → List Row) → Site → KeyId → Content → List Conclusion
  cell_on hits s k v = flat_map (getter_gives s k v) (hits (PointsTo s))

  abbrev pub cell_step_given : Lists → (Key → List Row) → Row → List Conclusion
  cell_step_given lists hits (fact.Reached n) = reached_on lists (step_here app n) hits n
  cell_step_given lists hits (fact.Points n r s) = points_on (step_here app n) hits n r s
  cell_step_given lists hits (fact.Label n r l) = label_on (step_here app n) hits n r l
  cell_step_given lists hits (fact.Cell s k t) = cell_on hits s k (Object t)
  cell_step_given lists hits (fact.CellLabel s k l) = holding s k l ∷ cell_on hits s k (Label l)
  cell_step_given lists hits (fact.StaticPoints g s) = static_on hits g (Object s)
  cell_step_given lists hits (fact.StaticLabel g l) = static_on hits g (Label l)
  cell_step_given lists hits (fact.Holds t l) = holds_on hits t l
  cell_step_given lists hits (fact.Back t k s) = back_on hits t k s
  cell_step_given lists hits _ = []

  -- 9 is led by the node that is reached, 7 and 8 by the object's register, 14 by what is reached
  abbrev pub cell_step_leads : Lists → (Key → List Row) → Row → List Conclusion
  cell_step_leads lists hits (fact.Reached n) = reached_on lists (step_here app n) hits n
  cell_step_leads lists hits (fact.Points n r s) = points_on (step_here app n) hits n r s
  cell_step_leads lists hits (fact.Label n r l) = label_leads (step_here app n) n r l
  cell_step_leads lists hits (fact.CellLabel s k l) = holding s k l ∷ []
  cell_step_leads lists hits (fact.Holds t l) = holds_on hits t l
  cell_step_leads lists hits _ = []
