-- What is concluded where a body begins is just what begins with it by the second set.
use Rattle.std.proofs.Common.{◌≡◌, ◌==◌, ◌<◌, ◌+◌, ◌-◌, ◌||◌, ℕ, zero, suc, Bool, true, false, IsTrue, List, [], ◌∷◌, Option, Some, None, cond, slice_get, flat_map, eqb-true, refl, sym, ap, subst, ◌∙◌, inl, inr, arith}
use Rattle.std.specs.List.{AllByRecursion}
use Rattle.std.proofs.lemmas.Bool.{ne_eqb}
use Rattle.vet_base.specs.Members.{In}
use Rattle.vet_base.proofs.Members.{in_front, in_back, in_flat}
use Rattle.vet_base.proofs.Every.{each_append, each_flat, each_where, each_unless, in_where, in_unless}
use Rattle.app_machine.specs.declared.method.Method.{Method}
use Rattle.app_machine.specs.declared.app.App.{App}
use Rattle.app_machine.specs.Names.{Name, is_reference}
use Rattle.app_machine.specs.Lookups.{elem_key, HasCode}
use Rattle.app_machine.specs.Events.{layout, parameter_type}
use Rattle.fact_rows.specs.declared.context.Node.{Node}
use Rattle.fact_rows.specs.declared.site.Site.TheVariants.{Param}
use Rattle.fact_rows.specs.declared.row.Row.{Row}
use Rattle.fact_rows.specs.declared.row.Row.TheVariants as fact
use Rattle.flow_rules.specs.Nodes.{activation_in, EventRegister, ArgumentRegister}
use Rattle.flow_rules.specs.EventRules.{ReferenceParameter}
use Rattle.cell_rules.specs.EventRules.{BeginsWith, begin_points, begin_label, begin_element}
use Rattle.cell_rules.specs.Reading.{ReadAt, node_in}
use Rattle.register_readers.specs.Readings.{Readings, readers_from}
use Rattle.rule_ground.specs.declared.conclusion.Conclusion.{Conclusion}
use Rattle.rule_ground.specs.Below.{for_below, each_below, in_below}
use Rattle.rule_ground.specs.Listing.{itself}
use Rattle.begin_rules.specs.declared.parameters.Start.{Start}
use Rattle.begin_rules.specs.BeginGiven.{first_of, says, is_object}
use Rattle.cell_ground.specs.declared.content.Content.{Content}
use Rattle.cell_ground.specs.declared.content.Content.TheVariants.{Object, Label}
use Rattle.cell_ground.specs.Coming.{held}
use Rattle.cell_ground.specs.ComingListed.{coming_sound, in_coming}
use Rattle.cell_ground.specs.Ready.{Ready, listed_argument, listed_position}
use Rattle.cell_begin_rules.specs.CellBeginGiven.{comes, by_source, in_register, at_position, at_index, element, with_code, begins_as, begins, receives_as, receives, enters}

object_type : (o : Option Name) → is_object o ≡ true → (type : Name) × (o ≡ Some type) × IsTrue (is_reference type)
object_type None h = absurd cc
object_type (Some type) h = (type, refl, h)

module _ (app : App) (readings : Readings) (ready : Ready app readings) (start : Start) where
  -- the node at which a register is read in the body
  abbrev at : ℕ → Node
  at u = node_in (activation_in start.ctx start.body) u

  -- what comes to a register
  comes_sound : (P : Conclusion → Type 0) (z : ℕ) (v : Content) → ((u : ℕ) → ReadAt app start.body z 0 u → P (says start (held v (at u) z))) → AllByRecursion P (comes readings start z v)
  comes_sound P z v h =
      coming_sound app readings ready P start.rule start.premises v (first_of start) (0 ∷ []) z (λ pc u i read. elim i [
        | inl same ↦ h u (subst (λ p. ReadAt app start.body z p u) same read)
        | inr none ↦ absurd none
      ])

  in_comes : (z u : ℕ) (v : Content) → In u (readers_from readings start.body z 0) → In (says start (held v (at u) z)) (comes readings start z v)
  in_comes z u v i = in_coming readings start.rule start.premises v (first_of start) (0 ∷ []) z 0 u (inl refl) i

  module _ (sources : List (ℕ × ℕ)) where
    abbrev Begin : Row → Type 0
    Begin = BeginsWith app start.ctx start.body sources

    module _ (P : Conclusion → Type 0) (h : (row : Row) → Begin row → P (says start row)) where
      parameter : (m : Method) → slice_get app.methods start.body ≡ Some m → (i : ℕ) → (t : is_object (parameter_type m.at.proto.params i) ≡ true) →
          ReferenceParameter app start.body i ((object_type (parameter_type m.at.proto.params i) t).0)
      parameter m e i t = let o = object_type (parameter_type m.at.proto.params i) t in record { method = m; there = e; is_type = o.1; reference = o.2 }

      register_sound : (m : Method) → slice_get app.methods start.body ≡ Some m → (i z : ℕ) → EventRegister app start.body i z →
          AllByRecursion P (in_register readings start sources z i (is_object (parameter_type m.at.proto.params i)))
      register_sound m e i z r =
          let b = is_object (parameter_type m.at.proto.params i) in
          let own = comes readings start z (Object (Param start.ctx i)) in
          each_append P (cond b own []) (flat_map (by_source readings start z i) sources)
          (each_where P b own (λ t. comes_sound P z (Object (Param start.ctx i)) (λ u read. h (fact.Points (at u) z (Param start.ctx i)) (begin_points r (parameter m e i t) read))))
          (each_flat P (by_source readings start z i) sources (λ source k. each_where P (source.0 == i) (comes readings start z (Label source.1)) (λ t.
          comes_sound P z (Label source.1) (λ u read. h (fact.Label (at u) z source.1) (begin_label r (subst (λ w. In (w, source.1) sources) (eqb-true source.0 i t) k) read)))))

      code_sound : (m : Method) → slice_get app.methods start.body ≡ Some m → m.is_native ≡ false → AllByRecursion P (with_code readings start sources m)
      code_sound m e f =
          each_append P (for_below (at_index readings start sources m) m.ins) (flat_map (element readings start m.at.proto.params) sources)
          (each_below P (at_index readings start sources m) m.ins (λ index lt. on index lt (slice_get (layout m.at.proto.params) index) refl))
          (each_flat P (element readings start m.at.proto.params) sources (λ source k.
          each_where P (is_object (parameter_type m.at.proto.params source.0)) (says start (fact.CellLabel (Param start.ctx source.0) elem_key source.1) ∷ []) (λ t.
          (h (fact.CellLabel (Param start.ctx source.0) elem_key source.1) (begin_element (record { there = e; code = f }) (parameter m e source.0 t) k), tt))))
        where
          on : (index : ℕ) → index < m.ins → (p : Option ℕ) → slice_get (layout m.at.proto.params) index ≡ p →
              AllByRecursion P (at_position readings start sources m.at.proto.params ((m.registers - m.ins) + index) p)
          on index lt None k = tt
          on index lt (Some i) k = register_sound m e i ((m.registers - m.ins) + index) (record {
            method = m;
            has = record { there = e; code = f };
            index = index;
            is_at = record { there = k };
            below = lt;
            is = refl;
          })

      method_sound : (o : Option Method) → slice_get app.methods start.body ≡ o → AllByRecursion P (begins_as readings start sources o)
      method_sound None e = tt
      method_sound (Some m) e = each_unless P m.is_native (with_code readings start sources m) (λ f. code_sound m e f)

      pub begins_sound : AllByRecursion P (begins app readings start sources)
      begins_sound = method_sound (slice_get app.methods start.body) refl

    coded : (m : Method) → HasCode app start.body m → (row : Row) → In (says start row) (with_code readings start sources m) → In (says start row) (begins app readings start sources)
    coded m code row i =
        let k = says start row in
        subst (λ o. In k (begins_as readings start sources o)) (sym code.there)
        (in_unless k m.is_native (with_code readings start sources m) code.code i)

    at_register : (i z : ℕ) (r : EventRegister app start.body i z) (row : Row) →
        In (says start row) (in_register readings start sources z i (is_object (parameter_type r.method.at.proto.params i))) →
        In (says start row) (begins app readings start sources)
    at_register i z r row k =
        let m = r.method in
        let d = says start row in
        let params = m.at.proto.params in
        coded m r.has row
        (in_front d (for_below (at_index readings start sources m) m.ins) (flat_map (element readings start params) sources)
        (in_below d (at_index readings start sources m) r.index m.ins r.below
        (subst (λ o. In d (at_position readings start sources params ((m.registers - m.ins) + r.index) o)) (sym r.is_at.there)
        (subst (λ w. In d (in_register readings start sources w i (is_object (parameter_type params i)))) r.is k))))

    object_at : (m : Method) → slice_get app.methods start.body ≡ Some m → (i : ℕ) (type : Name) → ReferenceParameter app start.body i type → is_object (parameter_type m.at.proto.params i) ≡ true
    object_at m there i type p =
        let same : p.method ≡ m = let a = p.there in cc in
        ap (λ (m : Method). is_object (parameter_type m.at.proto.params i)) (sym same) ∙ (ap is_object p.is_type ∙ p.reference)

    pub begins_complete : (row : Row) → Begin row → In (says start row) (begins app readings start sources)
    begins_complete row (begin_points {i = i} {z = z} {u = u} {type = type} r p read) =
        let b = is_object (parameter_type r.method.at.proto.params i) in
        let d = says start (fact.Points (at u) z (Param start.ctx i)) in
        let own = comes readings start z (Object (Param start.ctx i)) in
        at_register i z r (fact.Points (at u) z (Param start.ctx i))
        (in_front d (cond b own []) (flat_map (by_source readings start z i) sources)
        (in_where d b own (object_at r.method r.has.there i type p)
        (in_comes z u (Object (Param start.ctx i)) (listed_position app readings ready start.body i z u r read))))
    begins_complete row (begin_label {i = i} {z = z} {l = l} {u = u} r there read) =
        let b = is_object (parameter_type r.method.at.proto.params i) in
        let d = says start (fact.Label (at u) z l) in
        at_register i z r (fact.Label (at u) z l)
        (in_back d (cond b (comes readings start z (Object (Param start.ctx i))) []) (flat_map (by_source readings start z i) sources)
        (in_flat (by_source readings start z i) sources (i, l) d there
        (in_where d (i == i) (comes readings start z (Label l)) (itself i) (in_comes z u (Label l) (listed_position app readings ready start.body i z u r read)))))
    begins_complete row (begin_element {m = m} {i = i} {l = l} {type = type} code p there) =
        let d = says start (fact.CellLabel (Param start.ctx i) elem_key l) in
        coded m code (fact.CellLabel (Param start.ctx i) elem_key l)
        (in_back d (for_below (at_index readings start sources m) m.ins) (flat_map (element readings start m.at.proto.params) sources)
        (in_flat (element readings start m.at.proto.params) sources (i, l) d there
        (in_where d (is_object (parameter_type m.at.proto.params i)) (d ∷ []) (object_at m code.there i type p) (inl refl))))

  -- the receiver, where the body has code and a first argument
  module _ (v : Content) where
    module _ (P : Conclusion → Type 0) (h : (z u : ℕ) → ArgumentRegister app start.body 0 z → ReadAt app start.body z 0 u → P (says start (held v (at u) z))) where
      argument : (m : Method) → slice_get app.methods start.body ≡ Some m → m.is_native || m.ins == 0 ≡ false → ArgumentRegister app start.body 0 (m.registers - m.ins)
      argument m e f = record {
        method = m;
        has = record { there = e; code = (neither m.is_native (m.ins == 0) f).0 };
        below = some m.ins (neither m.is_native (m.ins == 0) f).1;
        is = omega arith;
      }
        where
          neither : (a b : Bool) → a || b ≡ false → (a ≡ false) × (b ≡ false)
          neither true b e = absurd cc
          neither false b e = (refl, e)

          some : (k : ℕ) → k == 0 ≡ false → 0 < k
          some zero none = absurd cc
          some (suc k) none = omega arith

      receives_by : (o : Option Method) → slice_get app.methods start.body ≡ o → AllByRecursion P (receives_as readings start v o)
      receives_by None e = tt
      receives_by (Some m) e = each_unless P (m.is_native || m.ins == 0) (comes readings start (m.registers - m.ins) v)
          (λ f. comes_sound P (m.registers - m.ins) v (λ u read. h (m.registers - m.ins) u (argument m e f) read))

      pub receives_sound : AllByRecursion P (receives app readings start v)
      receives_sound = receives_by (slice_get app.methods start.body) refl

    pub receives_complete : (z u : ℕ) → ArgumentRegister app start.body 0 z → ReadAt app start.body z 0 u → In (says start (held v (at u) z)) (receives app readings start v)
    receives_complete z u r read =
        let m = r.method in
        let d = says start (held v (at u) z) in
        let here : z ≡ m.registers - m.ins = let is = r.is in omega arith in
        subst (λ o. In d (receives_as readings start v o)) (sym r.has.there)
        (in_unless d (m.is_native || m.ins == 0) (comes readings start (m.registers - m.ins) v) (has_one m.is_native m.ins r.has.code r.below)
        (subst (λ w. In d (comes readings start w v)) here (in_comes z u v (listed_argument app readings ready start.body 0 z u r read))))
      where
        has_one : (b : Bool) (k : ℕ) → b ≡ false → 0 < k → b || k == 0 ≡ false
        has_one true k e lt = absurd cc
        has_one false k e lt = ne_eqb k 0 (λ (none : k ≡ 0). omega arith)

  -- What is concluded where a body is entered, and that all of it is.
  module _ (sources : List (ℕ × ℕ)) (v : Content) where
    pub enters_sound : (P : Conclusion → Type 0) → ((row : Row) → BeginsWith app start.ctx start.body sources row → P (says start row)) →
        ((z u : ℕ) → ArgumentRegister app start.body 0 z → ReadAt app start.body z 0 u → P (says start (held v (at u) z))) →
        AllByRecursion P (enters app readings start sources v)
    enters_sound P h k =
        each_append P (begins app readings start sources) (receives app readings start v) (begins_sound sources P h) (receives_sound v P k)

    pub is_begun : (row : Row) → BeginsWith app start.ctx start.body sources row → In (says start row) (enters app readings start sources v)
    is_begun row b = in_front (says start row) (begins app readings start sources) (receives app readings start v) (begins_complete sources row b)

    pub is_received : (z u : ℕ) → ArgumentRegister app start.body 0 z → ReadAt app start.body z 0 u →
        In (says start (held v (at u) z)) (enters app readings start sources v)
    is_received z u r read =
        in_back (says start (held v (at u) z)) (begins app readings start sources) (receives app readings start v) (receives_complete v z u r read)
