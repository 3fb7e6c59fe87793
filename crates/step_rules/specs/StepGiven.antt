-- What a row gives by the rules of steps, as a list of conclusions.
use Rattle.std.specs.Prelude.{◌==◌, ◌&&◌, ℕ, Bool, List, [], ◌∷◌, ◌++◌, length, Option, Some, None, cond, map, flat_map}
use Rattle.vet_base.specs.declared.key_id.KeyId.{KeyId}
use Rattle.access_path.specs.declared.path.Path.{Path}
use Rattle.access_path.specs.Paths.{keys_of, cut, rest, empty_path}
use Rattle.app_machine.specs.declared.method.Act.{Act}
use Rattle.app_machine.specs.declared.method.Act.TheVariants as act
use Rattle.app_machine.specs.declared.method.Step.{Step}
use Rattle.app_machine.specs.declared.lists.Lists.{Lists}
use Rattle.app_machine.specs.declared.app.App.{App}
use Rattle.app_machine.specs.Lookups.{step_at, elem_key}
use Rattle.app_machine.specs.Summaries.{static_source}
use Rattle.app_machine.specs.Local.{writes}
use Rattle.app_machine.specs.State.{result_register, exception_register, holds}
use Rattle.fact_rows.specs.declared.context.Node.{Node}
use Rattle.fact_rows.specs.declared.site.Site.{Site}
use Rattle.fact_rows.specs.declared.site.Site.TheVariants.{At}
use Rattle.fact_rows.specs.declared.row.Row.{Row}
use Rattle.fact_rows.specs.declared.row.Row.TheVariants.{Reached, Points, Taint, Cell, Back, StaticPoints, StaticTaint}
use Rattle.flow_rules.specs.Nodes.{at_pc}
use Rattle.flow_rules.specs.LocalRules.{returning, throwing}
use Rattle.rule_ground.specs.declared.conclusion.Conclusion.{Conclusion}
use Rattle.rule_ground.specs.declared.content.Content.{Content}
use Rattle.rule_ground.specs.declared.content.Content.TheVariants.{Object, Label}
use Rattle.rule_ground.specs.declared.key.Key.{Key}
use Rattle.rule_ground.specs.declared.key.Key.TheVariants.{PointsAt, TaintsAt, PointsTo, CellsOf, StaticPointsOf, StaticTaintsOf, ReachedAt}
use Rattle.rule_ground.specs.Given.{of_one, of_two, concludes, held, held_static, leaves, stored, at_each, to_all}
use Rattle.app_index.specs.declared.static_readers.Reader.{Reader}
use Rattle.app_index.specs.Readers.{readers_of}

-- the step at a node
abbrev pub step_here : App → Node → Option Step
step_here app n = step_at app n.by.method n.pc

-- 1. Control goes on.
abbrev pub goes_on : List ℕ → Node → List Conclusion
goes_on pcs n = map (λ pc. concludes 1 (of_one (Reached n)) (Reached (at_pc n pc))) pcs

-- 5. What is made here.
abbrev pub made : Act → List ℕ → Node → List Conclusion
made (act.New d class size) next n = at_each 5 (of_one (Reached n)) (Object (At n)) n d next
made (act.Fill xs class) next n = at_each 5 (of_one (Reached n)) (Object (At n)) n result_register next
made _ next n = []

-- 9. What a static gives to a reader, and to each reader that is found.
abbrev pub reads : Act → List ℕ → Node → ℕ → Content → List Conclusion
reads (act.GetStatic ds f) next n g v = cond (f == g) (to_all 9 (of_two (Reached n) (held_static v g)) v n ds next) []
reads _ next n g v = []

abbrev pub reads_on : Option Step → Node → ℕ → Content → List Conclusion
reads_on None n g v = []
reads_on (Some step) n g v = reads step.act step.next n g v

abbrev pub reader_gives : App → ℕ → Content → Row → List Conclusion
reader_gives app g v (Reached n) = reads_on (step_here app n) n g v
reader_gives app g v _ = []

-- the same of the nodes at each step that reads the static
abbrev pub reader_takes : App → (Key → List Row) → ℕ → Content → Reader → List Conclusion
reader_takes app hits g v reader = flat_map (reader_gives app g v) (hits (ReachedAt reader.method reader.pc))

abbrev pub static_on : App → (Key → List Row) → ℕ → Content → List Conclusion
static_on app hits g v = flat_map (reader_takes app hits g v) (readers_of app g)

abbrev pub static_gives : Act → List ℕ → Node → Row → List Conclusion
static_gives act next n (StaticPoints g s) = reads act next n g (Object s)
static_gives act next n (StaticTaint g p l) = reads act next n g (Label p l)
static_gives act next n _ = []

-- 9, from the reader.
abbrev pub statics_read : (Key → List Row) → Act → List ℕ → Node → List Conclusion
statics_read hits (act.GetStatic ds g) next n =
    flat_map (static_gives (act.GetStatic ds g) next n) (hits (StaticPointsOf g)) ++ flat_map (static_gives (act.GetStatic ds g) next n)
    (hits (StaticTaintsOf g))
statics_read hits _ next n = []

-- 9. What the lists label.
abbrev pub source_gives : Option ℕ → List ℕ → List ℕ → Node → List Conclusion
source_gives None ds next n = []
source_gives (Some l) ds next n = to_all 9 (of_one (Reached n)) (Label empty_path l) n ds next

abbrev pub sourced : App → Lists → Act → List ℕ → Node → List Conclusion
sourced app lists (act.GetStatic ds g) next n = source_gives (static_source app lists g) ds next n
sourced app lists _ next n = []

abbrev pub statics_got : App → Lists → (Key → List Row) → Act → List ℕ → Node → List Conclusion
statics_got app lists hits a next n = statics_read hits a next n ++ sourced app lists a next n

abbrev pub reached_on : App → Lists → Option Step → (Key → List Row) → Node → List Conclusion
reached_on app lists None hits n = []
reached_on app lists (Some step) hits n =
    goes_on step.next n ++ (goes_on step.catches n ++ (made step.act step.next n ++ statics_got app lists hits step.act step.next n))

-- 2. A register keeps what it holds.
abbrev pub keeps : Step → Node → ℕ → Content → List Conclusion
keeps step n r v =
    cond (writes step.act r) [] (at_each 2 (of_one (held v n r)) v n r step.next) ++ cond (r == exception_register) []
    (at_each 2 (of_one (held v n r)) v n r step.catches)

-- 11. It is thrown: out of the activation, and to each handler.
abbrev pub thrown : List ℕ → Node → ℕ → Content → List Conclusion
thrown catches n r v = concludes 11 (of_one (held v n r)) (leaves v n.by throwing) ∷ at_each 11 (of_one (held v n r)) v n exception_register catches

-- 3, 10, 11, 12. It is passed on.
abbrev pub passes : Act → List ℕ → List ℕ → Node → ℕ → Content → List Conclusion
passes (act.Move ds x) next catches n r v = cond (x == r) (to_all 3 (of_one (held v n r)) v n ds next) []
passes (act.TakeResult ds) next catches n r v = cond (r == result_register) (to_all 3 (of_one (held v n r)) v n ds next) []
passes (act.TakeException d) next catches n r v = cond (r == exception_register) (at_each 3 (of_one (held v n r)) v n d next) []
passes (act.PutStatic g x) next catches n r v = cond (x == r) (concludes 10 (of_one (held v n r)) (held_static v g) ∷ []) []
passes (act.Throw x) next catches n r v = cond (x == r) (thrown catches n r v) []
passes (act.Return (Some x)) next catches n r v = cond (x == r) (concludes 12 (of_one (held v n r)) (leaves v n.by returning) ∷ []) []
passes _ next catches n r v = []

-- 8, from the value: each object of the register is one that holds it.
abbrev pub put_gives : Node → KeyId → ℕ → Content → Row → List Conclusion
put_gives n k r v (Points m o s) = concludes 8 (of_two (Points m o s) (held v n r)) (stored v n s k) ∷ []
put_gives n k r v _ = []

abbrev pub puts : (Key → List Row) → Act → Node → ℕ → Content → List Conclusion
puts hits (act.Put o k x) n r v = cond (x == r) (flat_map (put_gives n k r v) (hits (PointsAt n o))) []
puts hits _ n r v = []

-- what either kind of content gives alone
abbrev pub content_alone : Step → Node → ℕ → Content → List Conclusion
content_alone step n r v = keeps step n r v ++ passes step.act step.next step.catches n r v

-- 8, from the object: what the value's register holds.
abbrev pub put_on_gives : Node → KeyId → ℕ → Site → Row → List Conclusion
put_on_gives n k r s (Points m x t) = concludes 8 (of_two (Points n r s) (Points m x t)) (Cell s k t) ∷ []
put_on_gives n k r s (Taint m x p l) = concludes 8 (of_two (Points n r s) (Taint m x p l)) (stored (Label p l) n s k) ∷ []
put_on_gives n k r s _ = []

-- 7. What the object holds under the key.
abbrev pub got_gives : List ℕ → List ℕ → Node → ℕ → Site → Row → List Conclusion
got_gives ds next n r s (Cell u k t) = to_all 7 (of_two (Points n r s) (Cell u k t)) (Object t) n ds next
got_gives ds next n r s _ = []

-- 6, 7, 8. What an object gives alone.
abbrev pub object_gives : (Key → List Row) → Act → List ℕ → Node → ℕ → Site → List Conclusion
object_gives hits (act.Fill xs class) next n r s = cond (holds xs r) (concludes 6 (of_one (Points n r s)) (Cell (At n) elem_key s) ∷ []) []
object_gives hits (act.Get ds o k) next n r s = cond (o == r) (flat_map (got_gives ds next n r s) (hits (CellsOf s k))) []
object_gives hits (act.Put o k x) next n r s =
    cond (o == r) (flat_map (put_on_gives n k r s) (hits (PointsAt n x)) ++ flat_map (put_on_gives n k r s) (hits (TaintsAt n x))) []
object_gives hits _ next n r s = []

abbrev pub points_lead : Option Step → (Key → List Row) → Node → ℕ → Site → List Conclusion
points_lead None hits n r s = []
points_lead (Some step) hits n r s = content_alone step n r (Object s) ++ object_gives hits step.act step.next n r s

-- the same with 8 as the value that is put
abbrev pub points_on : Option Step → (Key → List Row) → Node → ℕ → Site → List Conclusion
points_on None hits n r s = []
points_on (Some step) hits n r s = points_lead (Some step) hits n r s ++ puts hits step.act n r (Object s)

-- whether there are no keys
abbrev pub is_bare : Path → Bool
is_bare p = length (keys_of p) == 0

-- 4, 5, 6, 7. What a label gives alone.
abbrev pub rest_gives : Option Path → List ℕ → List ℕ → Node → ℕ → Path → ℕ → List Conclusion
rest_gives None ds next n r p l = []
rest_gives (Some q) ds next n r p l = to_all 7 (of_one (Taint n r p l)) (Label q l) n ds next

abbrev pub size_gives : ℕ → ℕ → List ℕ → Node → ℕ → Path → ℕ → List Conclusion
size_gives x d next n r p l = cond (x == r && is_bare p) (at_each 5 (of_one (Taint n r p l)) (Label empty_path l) n d next) []

abbrev pub label_gives : Act → List ℕ → Node → ℕ → Path → ℕ → List Conclusion
label_gives (act.Join ds xs) next n r p l = cond (holds xs r && is_bare p) (to_all 4 (of_one (Taint n r p l)) (Label empty_path l) n ds next) []
label_gives (act.New d class (Some x)) next n r p l = size_gives x d next n r p l
label_gives (act.Fill xs class) next n r p l = cond (holds xs r) (at_each 6 (of_one (Taint n r p l)) (Label (cut elem_key p) l) n result_register next) []
label_gives (act.Get ds o k) next n r p l = cond (o == r) (rest_gives (rest p k) ds next n r p l) []
label_gives _ next n r p l = []

abbrev pub taint_leads : Option Step → Node → ℕ → Path → ℕ → List Conclusion
taint_leads None n r p l = []
taint_leads (Some step) n r p l = content_alone step n r (Label p l) ++ label_gives step.act step.next n r p l

-- the same with 8 as the value that is put
abbrev pub taint_on : Option Step → (Key → List Row) → Node → ℕ → Path → ℕ → List Conclusion
taint_on None hits n r p l = []
taint_on (Some step) hits n r p l = taint_leads (Some step) n r p l ++ puts hits step.act n r (Label p l)

-- 7, from the cell: each register that may hold the object.
abbrev pub gets : Act → List ℕ → Node → ℕ → Site → KeyId → Site → List Conclusion
gets (act.Get ds o j) next n r s k t = cond (o == r && j.0 == k.0) (to_all 7 (of_two (Points n r s) (Cell s k t)) (Object t) n ds next) []
gets _ next n r s k t = []

abbrev pub gets_on : Option Step → Node → ℕ → Site → KeyId → Site → List Conclusion
gets_on None n r s k t = []
gets_on (Some step) n r s k t = gets step.act step.next n r s k t

abbrev pub getter_gives : App → Site → KeyId → Site → Row → List Conclusion
getter_gives app s k t (Points n r u) = gets_on (step_here app n) n r s k t
getter_gives app s k t _ = []

-- 7, 13. What a cell gives.
abbrev pub back_gives : Site → KeyId → Site → Conclusion
back_gives s k t = concludes 13 (of_one (Cell s k t)) (Back t k s)

abbrev pub cell_gives : App → (Key → List Row) → Site → KeyId → Site → List Conclusion
cell_gives app hits s k t = back_gives s k t ∷ flat_map (getter_gives app s k t) (hits (PointsTo s))

abbrev pub step_given : App → Lists → (Key → List Row) → Row → List Conclusion
step_given app lists hits (Reached n) = reached_on app lists (step_here app n) hits n
step_given app lists hits (Points n r s) = points_on (step_here app n) hits n r s
step_given app lists hits (Taint n r p l) = taint_on (step_here app n) hits n r p l
step_given app lists hits (Cell s k t) = cell_gives app hits s k t
step_given app lists hits (StaticPoints g s) = static_on app hits g (Object s)
step_given app lists hits (StaticTaint g p l) = static_on app hits g (Label p l)
step_given app lists hits _ = []

-- 9 is led by the node that is reached, 7 and 8 by the object's register
abbrev pub step_leads : App → Lists → (Key → List Row) → Row → List Conclusion
step_leads app lists hits (Reached n) = reached_on app lists (step_here app n) hits n
step_leads app lists hits (Points n r s) = points_lead (step_here app n) hits n r s
step_leads app lists hits (Taint n r p l) = taint_leads (step_here app n) n r p l
step_leads app lists hits (Cell s k t) = back_gives s k t ∷ []
step_leads app lists hits _ = []
