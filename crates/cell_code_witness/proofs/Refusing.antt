-- The rules give what the lists leave out, and do not give what they have.
use Rattle.std.proofs.Common.{◌≡◌, ◌≢◌, ℕ, List, [], ◌∷◌, refl, sym, ap, ◌∙◌, inl, inr, arith}
use Rattle.vet_base.specs.declared.key_id.KeyId.{KeyId}
use Rattle.app_machine.specs.declared.method.Act.TheVariants.{Move, Get, Put}
use Rattle.app_machine.specs.declared.lists.Lists.{Lists}
use Rattle.app_machine.specs.declared.app.App.{App}
use Rattle.vet_base.specs.Members.{In}
use Rattle.fact_rows.specs.declared.context.Node.{Node}
use Rattle.fact_rows.specs.declared.site.Site.{Site}
use Rattle.fact_rows.specs.declared.row.Row.{Row}
use Rattle.fact_rows.specs.declared.row.Row.TheVariants.{Reached, Points, Label, Back, CellLabel, Holds}
use Rattle.flow_rules.specs.Nodes.{at_pc, Acts, GoesOn}
use Rattle.flow_rules.specs.Rules.{Each}
use Rattle.rule_ground.specs.declared.conclusion.Conclusion.{Conclusion}
use Rattle.rule_ground.specs.Given.{of_one, of_two, concludes}
use Rattle.rule_ground.specs.Exact.{IsListed}
use Rattle.rule_ground.specs.Hits.{Among}
use Rattle.cell_rules.specs.LocalRules.{LocalRule, move_points, new_points, fill_points, get_label, put_label}
use Rattle.cell_rules.specs.HeapRules.{HeapRule, cell_holds, lift_holds}
use Rattle.cell_rules.specs.Making.{made_at}
use Rattle.cell_rules.specs.Reading.{ReadAt}
use Rattle.cell_step_rules.specs.CellStepGiven.{StepRule}
use Rattle.cell_code_witness.specs.Refused.{IsRefused, AreRefused, WrongListsAreRefused}

heap_rule_is : {rule : ℕ} {premises : List Row} {row : Row} → HeapRule rule premises row → rule ≡ 14
heap_rule_is cell_holds = refl
heap_rule_is lift_holds = refl

-- where the row of a register stands
abbrev pc_of : Row → ℕ
pc_of (Points n r s) = n.pc
pc_of row = 0

only_one : (c : Conclusion) (rule : ℕ) (premises : List Row) (x : Row) → IsListed (c ∷ []) rule premises x → c.row ≡ x
only_one c rule premises x (d, inl same, says) = ap (λ (e : Conclusion). e.row) (sym same) ∙ says.row_is
only_one c rule premises x (d, inr none, says) = absurd none

module _ (app : App) (lists : Lists) where
  -- the empty list leaves out what follows
  empty : (rows : List Row) (row : Row) {rule : ℕ} {premises : List Row} {x : Row} → StepRule app lists rule premises x →
      Each (Among rows) premises → In row premises → IsRefused app lists rows row []
  empty rows row {rule} {premises} {x} by known uses just = (just.complete rule premises x (record { by = by; known = known; uses = uses })).1

  -- the one that the list has is another than what follows
  another : (rows : List Row) (row : Row) (c : Conclusion) {rule : ℕ} {premises : List Row} {x : Row} → StepRule app lists rule premises x →
      Each (Among rows) premises → In row premises → (pc_of c.row ≡ pc_of x → ⊥) → IsRefused app lists rows row (c ∷ [])
  another rows row c {rule} {premises} {x} by known uses other just =
      other (ap pc_of (only_one c rule premises x (just.complete rule premises x (record { by = by; known = known; uses = uses }))))

  -- a put and a get name their own keys
  abbrev PutBy : List Row → Row → Type 0
  PutBy (Points n o s ∷ Label m x l ∷ []) (CellLabel t k h) = Acts app n (Put o k x)
  PutBy premises row = Unit {0}

  put_names : {rule : ℕ} {premises : List Row} {row : Row} → LocalRule app lists rule premises row → PutBy premises row
  put_names (put_label acts) = acts
  put_names other = tt

  record Gets (n : Node) (o : ℕ) (k : KeyId) : Type 0 where
    targets : List ℕ
    acts : Acts app n (Get targets o k)

  abbrev GetBy : List Row → Row → Type 0
  GetBy (Points n o s ∷ CellLabel t k l ∷ []) (Label m d h) = Gets n o k
  GetBy premises row = Unit {0}

  get_names : {rule : ℕ} {premises : List Row} {row : Row} → LocalRule app lists rule premises row → GetBy premises row
  get_names (get_label d {ds = ds} acts is_one goes read) = record { targets = ds; acts = acts }
  get_names other = tt

  put_key : {n : Node} {o x l : ℕ} {j k : KeyId} {s : Site} → Acts app n (Put o k x) → j ≢ k →
      StepRule app lists 8 (Points n o s ∷ Label n x l ∷ []) (CellLabel s j l) → ⊥
  put_key {n = n} {o = o} {x = x} {j = j} {k = k} acts other (inl rule) =
      let own : Acts app n (Put o j x) = put_names rule in
      let same : j ≡ k = cc in
      other same
  put_key acts other (inr rule) = let none = heap_rule_is rule in absurd (omega arith)

  get_key : {n : Node} {o d u l : ℕ} {ds : List ℕ} {j k : KeyId} {s : Site} → Acts app n (Get ds o k) → j ≢ k →
      StepRule app lists 7 (Points n o s ∷ CellLabel s j l ∷ []) (Label (at_pc n u) d l) → ⊥
  get_key {n = n} {o = o} {j = j} {k = k} acts other (inl rule) =
      let own : Gets n o j = get_names rule in
      let there : Acts app n (Get own.targets o j) = own.acts in
      let same : j ≡ k = cc in
      other same
  get_key acts other (inr rule) = let none = heap_rule_is rule in absurd (omega arith)

  no_put_on_object : {n : Node} {o x l : ℕ} {k : KeyId} {s : Site} → Acts app n (Put o k x) →
      IsRefused app lists (Points n o s ∷ Label n x l ∷ []) (Points n o s) []
  no_put_on_object {n = n} {o = o} {x = x} {l = l} {s = s} acts =
      empty (Points n o s ∷ Label n x l ∷ []) (Points n o s) (inl (put_label {l = l} {s = s} acts)) (inl refl, (inr (inl refl), tt)) (inl refl)

  no_put_of_value : {n : Node} {o x l : ℕ} {k : KeyId} {s : Site} → Acts app n (Put o k x) →
      IsRefused app lists (Points n o s ∷ Label n x l ∷ []) (Label n x l) []
  no_put_of_value {n = n} {o = o} {x = x} {l = l} {s = s} acts =
      empty (Points n o s ∷ Label n x l ∷ []) (Label n x l) (inl (put_label {l = l} {s = s} acts)) (inl refl, (inr (inl refl), tt)) (inr (inl refl))

  no_reach : {k : KeyId} {l : ℕ} {s : Site} → IsRefused app lists (CellLabel s k l ∷ []) (CellLabel s k l) []
  no_reach {k = k} {l = l} {s = s} =
      empty (CellLabel s k l ∷ []) (CellLabel s k l) (inr (cell_holds {k = k} {l = l} {s = s})) (inl refl, tt) (inl refl)

  no_climb : {k : KeyId} {l : ℕ} {s t : Site} → IsRefused app lists (Holds t l ∷ Back t k s ∷ []) (Holds t l) []
  no_climb {k = k} {l = l} {s = s} {t = t} =
      empty (Holds t l ∷ Back t k s ∷ []) (Holds t l) (inr (lift_holds {k = k} {l = l} {s = s} {t = t})) (inl refl, (inr (inl refl), tt)) (inl refl)

  no_climb_by_holder : {k : KeyId} {l : ℕ} {s t : Site} → IsRefused app lists (Holds t l ∷ Back t k s ∷ []) (Back t k s) []
  no_climb_by_holder {k = k} {l = l} {s = s} {t = t} =
      empty (Holds t l ∷ Back t k s ∷ []) (Back t k s) (inr (lift_holds {k = k} {l = l} {s = s} {t = t})) (inl refl, (inr (inl refl), tt)) (inr (inl refl))

  put_elsewhere : {n : Node} {o x l : ℕ} {j k : KeyId} {s : Site} → Acts app n (Put o k x) → j ≢ k →
      IsRefused app lists (Points n o s ∷ Label n x l ∷ []) (Points n o s) (concludes 8 (of_two (Points n o s) (Label n x l)) (CellLabel s j l) ∷ [])
  put_elsewhere {n = n} {o = o} {x = x} {l = l} {j = j} {s = s} acts other just =
      put_key {s = s} acts other (just.sound (concludes 8 (of_two (Points n o s) (Label n x l)) (CellLabel s j l)) (inl refl)).by

  got_elsewhere : {n : Node} {o d u l : ℕ} {ds : List ℕ} {j k : KeyId} {s : Site} → Acts app n (Get ds o k) → j ≢ k →
      IsRefused app lists (Points n o s ∷ CellLabel s j l ∷ []) (Points n o s) (concludes 7 (of_two (Points n o s) (CellLabel s j l)) (Label (at_pc n u) d l) ∷ [])
  got_elsewhere {n = n} {o = o} {d = d} {u = u} {l = l} {j = j} {s = s} acts other just =
      get_key {d = d} {u = u} {s = s} acts other (just.sound (concludes 7 (of_two (Points n o s) (CellLabel s j l)) (Label (at_pc n u) d l)) (inl refl)).by

  one_reader : {n : Node} {d x pc u v : ℕ} {ds : List ℕ} {s : Site} → Acts app n (Move ds x) → In d ds → GoesOn app n pc →
      ReadAt app n.by.method d pc v → u ≢ v →
      IsRefused app lists (Points n x s ∷ []) (Points n x s) (concludes 3 (of_one (Points n x s)) (Points (at_pc n u) d s) ∷ [])
  one_reader {n = n} {d = d} {x = x} {u = u} {s = s} acts is_one goes read other =
      another (Points n x s ∷ []) (Points n x s) (concludes 3 (of_one (Points n x s)) (Points (at_pc n u) d s))
      (inl (move_points d {s = s} acts is_one goes read)) (inl refl, tt) (inl refl) other

  -- the site of what a step makes that is reached
  abbrev MadeBy : Row → List Row → Type 0
  MadeBy (Points m d s) (Reached n ∷ []) = s ≡ made_at app n
  MadeBy row premises = Unit {0}

  step_makes : {rule : ℕ} {premises : List Row} {row : Row} → LocalRule app lists rule premises row → MadeBy row premises
  step_makes (new_points acts goes read) = refl
  step_makes (fill_points acts goes read) = refl
  step_makes other = tt

  made_otherwise : {n : Node} {d v : ℕ} {s : Site} → s ≢ made_at app n →
      IsRefused app lists (Reached n ∷ []) (Reached n) (concludes 5 (of_one (Reached n)) (Points (at_pc n v) d s) ∷ [])
  made_otherwise {n = n} {d = d} {v = v} {s = s} other just =
      by_either (just.sound (concludes 5 (of_one (Reached n)) (Points (at_pc n v) d s)) (inl refl)).by
    where
      by_either : StepRule app lists 5 (Reached n ∷ []) (Points (at_pc n v) d s) → ⊥
      by_either (inl rule) = other (step_makes rule)
      by_either (inr rule) = let none = heap_rule_is rule in absurd (omega arith)

  are_refused : AreRefused app lists
  are_refused = record {
    no_put_on_object = no_put_on_object;
    no_put_of_value = no_put_of_value;
    no_reach = no_reach;
    no_climb = no_climb;
    no_climb_by_holder = no_climb_by_holder;
    put_elsewhere = put_elsewhere;
    got_elsewhere = got_elsewhere;
    made_otherwise = made_otherwise;
    one_reader = one_reader;
  }

pub wrong_lists_are_refused : WrongListsAreRefused
wrong_lists_are_refused = are_refused
