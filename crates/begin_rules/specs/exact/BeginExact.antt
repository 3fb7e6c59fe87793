-- What is concluded where a body begins is just what begins with it.
use Rattle.std.proofs.Common.{◌≡◌, ◌==◌, ◌<◌, ◌+◌, ◌-◌, ◌||◌, ℕ, zero, suc, Bool, true, false, IsTrue, List, [], ◌∷◌, Option, Some, None, cond, slice_get, flat_map, eqb-true, refl, sym, ap, subst, ◌∙◌, inl, inr, arith}
use Rattle.std.specs.List.{AllByRecursion}
use Rattle.std.proofs.lemmas.Bool.{or_cases, or_left, or_right, ne_eqb}
use Rattle.vet_base.specs.Members.{In}
use Rattle.vet_base.proofs.Members.{in_front, in_back, in_flat}
use Rattle.vet_base.proofs.Every.{each_append, each_flat, each_where, each_unless, in_where, in_unless}
use Rattle.access_path.specs.declared.path.Path.{Path}
use Rattle.access_path.specs.Paths.{cut, empty_path}
use Rattle.app_machine.specs.declared.method.Method.{Method}
use Rattle.app_machine.specs.declared.app.App.{App}
use Rattle.app_machine.specs.Names.{Name, is_reference}
use Rattle.app_machine.specs.Lookups.{elem_key, HasCode}
use Rattle.app_machine.specs.Events.{layout, parameter_type}
use Rattle.app_machine.specs.Safe.{native}
use Rattle.fact_rows.specs.declared.context.Node.{Node}
use Rattle.fact_rows.specs.declared.site.Site.{Site}
use Rattle.fact_rows.specs.declared.site.Site.TheVariants.{Param}
use Rattle.fact_rows.specs.declared.row.Row.{Row}
use Rattle.fact_rows.specs.declared.row.Row.TheVariants.{Reached, Points, Taint, Unknown}
use Rattle.flow_rules.specs.Nodes.{EventRegister, ArgumentRegister}
use Rattle.flow_rules.specs.EventRules.{Begins, ReferenceParameter, begin_reached, begin_points, begin_taint, begin_element, begin_receiver_element, begin_native}
use Rattle.rule_ground.specs.declared.conclusion.Conclusion.{Conclusion}
use Rattle.rule_ground.specs.declared.content.Content.{Content}
use Rattle.rule_ground.specs.declared.content.Content.TheVariants.{Object, Label}
use Rattle.rule_ground.specs.Below.{each_below, in_below}
use Rattle.rule_ground.specs.Given.{held}
use Rattle.rule_ground.specs.Listing.{itself}
use Rattle.begin_rules.specs.declared.parameters.Start.{Start}
use Rattle.begin_rules.specs.BeginGiven.{first_of, says, is_object, by_source, in_register, at_position, at_index, with_code, begins_as, begins, receives_as, receives, enters}

object_type : (o : Option Name) → is_object o ≡ true → (type : Name) × (o ≡ Some type) × IsTrue (is_reference type)
object_type None h = absurd cc
object_type (Some type) h = (type, refl, h)

module _ (app : App) (start : Start) where
  abbrev n : Node
  n = first_of start

  module _ (sources : List (ℕ × ℕ)) where
    abbrev Begin : Row → Type 0
    Begin = Begins app start.ctx start.body sources

    module _ (P : Conclusion → Type 0) (h : (row : Row) → Begin row → P (says start row)) where
      register_sound : (m : Method) → slice_get app.methods start.body ≡ Some m → (i z : ℕ) → EventRegister app start.body i z →
          AllByRecursion P (in_register start sources z i (is_object (parameter_type m.at.proto.params i)))
      register_sound m e i z r =
          let b = is_object (parameter_type m.at.proto.params i) in
          each_append P (cond b (says start (Points n z (Param start.ctx i)) ∷ []) []) (flat_map (by_source start z i b) sources)
          (each_where P b (says start (Points n z (Param start.ctx i)) ∷ []) (λ t. (h (Points n z (Param start.ctx i)) (begin_points r (parameter t)), tt)))
          (each_flat P (by_source start z i b) sources (λ source k. each_where P (source.0 == i)
          (says start (Taint n z empty_path source.1) ∷ cond (i == 0 || b) (says start (Taint n z (cut elem_key empty_path) source.1) ∷ []) []) (λ t.
          let there : In (i, source.1) sources = subst (λ w. In (w, source.1) sources) (eqb-true source.0 i t) k in (
            h (Taint n z empty_path source.1) (begin_taint r there),
            each_where P (i == 0 || b) (says start (Taint n z (cut elem_key empty_path) source.1) ∷ []) (λ q. (
              h (Taint n z (cut elem_key empty_path) source.1) (elim (or_cases (i == 0) b q) [
                | inl first ↦
                    begin_receiver_element (subst (λ w. EventRegister app start.body w z) (eqb-true i 0 first) r)
                    (subst (λ w. In (w, source.1) sources) (eqb-true i 0 first) there)
                | inr object ↦ begin_element r (parameter object) there
              ]),
              tt,
            )),
          ))))
        where
          parameter : (t : is_object (parameter_type m.at.proto.params i) ≡ true) → ReferenceParameter app start.body i ((object_type (parameter_type m.at.proto.params i) t).0)
          parameter t = let o = object_type (parameter_type m.at.proto.params i) t in record { method = m; there = e; is_type = o.1; reference = o.2 }

      code_sound : (m : Method) → slice_get app.methods start.body ≡ Some m → m.is_native ≡ false → AllByRecursion P (with_code start sources m)
      code_sound m e f = (
        h (Reached n) (begin_reached (record { there = e; code = f })),
        each_below P (at_index start sources m) m.ins (λ index lt. on index lt (slice_get (layout m.at.proto.params) index) refl),
      )
        where
          on : (index : ℕ) → index < m.ins → (p : Option ℕ) → slice_get (layout m.at.proto.params) index ≡ p →
              AllByRecursion P (at_position start sources m.at.proto.params ((m.registers - m.ins) + index) p)
          on index lt None k = tt
          on index lt (Some i) k = register_sound m e i ((m.registers - m.ins) + index) (record {
            method = m;
            has = record { there = e; code = f };
            index = index;
            is_at = record { there = k };
            below = lt;
            is = refl;
          })

      by_code : (m : Method) → slice_get app.methods start.body ≡ Some m → (b : Bool) → m.is_native ≡ b →
          AllByRecursion P (cond b (says start (Unknown n native) ∷ []) (with_code start sources m))
      by_code m e true f = (h (Unknown n native) (begin_native (record { method = m; there = e; native = f })), tt)
      by_code m e false f = code_sound m e f

      method_sound : (o : Option Method) → slice_get app.methods start.body ≡ o → AllByRecursion P (begins_as start sources o)
      method_sound None e = tt
      method_sound (Some m) e = by_code m e m.is_native refl

      pub begins_sound : AllByRecursion P (begins app start sources)
      begins_sound = method_sound (slice_get app.methods start.body) refl

    coded : (m : Method) → HasCode app start.body m → (row : Row) → In (says start row) (with_code start sources m) → In (says start row) (begins app start sources)
    coded m code row i =
        let k = says start row in
        subst (λ o. In k (begins_as start sources o)) (sym code.there)
        (subst (λ b. In k (cond b (says start (Unknown n native) ∷ []) (with_code start sources m))) (sym code.code) i)

    at_register : (i z : ℕ) (r : EventRegister app start.body i z) (row : Row) →
        In (says start row) (in_register start sources z i (is_object (parameter_type r.method.at.proto.params i))) →
        In (says start row) (begins app start sources)
    at_register i z r row k =
        let m = r.method in
        let d = says start row in
        let params = m.at.proto.params in
        coded m r.has row (inr (in_below d (at_index start sources m) r.index m.ins r.below
        (subst (λ o. In d (at_position start sources params ((m.registers - m.ins) + r.index) o)) (sym r.is_at.there)
        (subst (λ w. In d (in_register start sources w i (is_object (parameter_type params i)))) r.is k))))

    object_at : (i z : ℕ) (r : EventRegister app start.body i z) (type : Name) → ReferenceParameter app start.body i type →
        is_object (parameter_type r.method.at.proto.params i) ≡ true
    object_at i z r type p =
        let same : p.method ≡ r.method = let a = p.there in let b = r.has.there in cc in
        ap (λ (m : Method). is_object (parameter_type m.at.proto.params i)) (sym same) ∙ (ap is_object p.is_type ∙ p.reference)

    by_label : (i z l : ℕ) (b : Bool) (row : Row) → In (i, l) sources → In (says start row) (by_source start z i b (i, l)) →
        In (says start row) (in_register start sources z i b)
    by_label i z l b row there k =
        in_back (says start row) (cond b (says start (Points n z (Param start.ctx i)) ∷ []) []) (flat_map (by_source start z i b) sources)
        (in_flat (by_source start z i b) sources (i, l) (says start row) there k)

    element : (i z l : ℕ) (b : Bool) → i == 0 || b ≡ true → In (says start (Taint n z (cut elem_key empty_path) l)) (by_source start z i b (i, l))
    element i z l b t =
        let d = says start (Taint n z (cut elem_key empty_path) l) in
        let plain = says start (Taint n z empty_path l) in
        in_where d (i == i) (plain ∷ cond (i == 0 || b) (d ∷ []) []) (itself i) (inr (in_where d (i == 0 || b) (d ∷ []) t (inl refl)))

    pub begins_complete : (row : Row) → Begin row → In (says start row) (begins app start sources)
    begins_complete row (begin_reached {m = m} code) = coded m code (Reached n) (inl refl)
    begins_complete row (begin_points {i = i} {z = z} {type = type} r p) =
        let b = is_object (parameter_type r.method.at.proto.params i) in
        let d = says start (Points n z (Param start.ctx i)) in
        at_register i z r (Points n z (Param start.ctx i))
        (in_front d (cond b (d ∷ []) []) (flat_map (by_source start z i b) sources) (in_where d b (d ∷ []) (object_at i z r type p) (inl refl)))
    begins_complete row (begin_taint {i = i} {z = z} {l = l} r there) =
        let b = is_object (parameter_type r.method.at.proto.params i) in
        let d = says start (Taint n z empty_path l) in
        at_register i z r (Taint n z empty_path l) (by_label i z l b (Taint n z empty_path l) there
        (in_where d (i == i) (d ∷ cond (i == 0 || b) (says start (Taint n z (cut elem_key empty_path) l) ∷ []) []) (itself i) (inl refl)))
    begins_complete row (begin_element {i = i} {z = z} {l = l} {type = type} r p there) =
        let b = is_object (parameter_type r.method.at.proto.params i) in
        at_register i z r (Taint n z (cut elem_key empty_path) l) (by_label i z l b (Taint n z (cut elem_key empty_path) l) there
        (element i z l b (or_right (i == 0) b (object_at i z r type p))))
    begins_complete row (begin_receiver_element {z = z} {l = l} r there) =
        let b = is_object (parameter_type r.method.at.proto.params 0) in
        at_register 0 z r (Taint n z (cut elem_key empty_path) l) (by_label 0 z l b (Taint n z (cut elem_key empty_path) l) there
        (element 0 z l b (or_left (0 == 0) b (itself 0))))
    begins_complete row (begin_native x) =
        let d = says start (Unknown n native) in
        subst (λ o. In d (begins_as start sources o)) (sym x.there)
        (subst (λ b. In d (cond b (d ∷ []) (with_code start sources x.method))) (sym x.native) (inl refl))

  -- the receiver, where the body has code and a first argument
  module _ (v : Content) where
    module _ (P : Conclusion → Type 0) (h : (z : ℕ) → ArgumentRegister app start.body 0 z → P (says start (held v n z))) where
      argument : (m : Method) → slice_get app.methods start.body ≡ Some m → m.is_native || m.ins == 0 ≡ false → ArgumentRegister app start.body 0 (m.registers - m.ins)
      argument m e f = record {
        method = m;
        has = record { there = e; code = (neither m.is_native (m.ins == 0) f).0 };
        below = some m.ins (neither m.is_native (m.ins == 0) f).1;
        is = omega arith;
      }
        where
          neither : (a b : Bool) → a || b ≡ false → (a ≡ false) × (b ≡ false)
          neither true b e = absurd cc
          neither false b e = (refl, e)

          some : (k : ℕ) → k == 0 ≡ false → 0 < k
          some zero none = absurd cc
          some (suc k) none = omega arith

      receives_by : (o : Option Method) → slice_get app.methods start.body ≡ o → AllByRecursion P (receives_as start v o)
      receives_by None e = tt
      receives_by (Some m) e = each_unless P (m.is_native || m.ins == 0) (says start (held v n (m.registers - m.ins)) ∷ [])
          (λ f. (h (m.registers - m.ins) (argument m e f), tt))

      pub receives_sound : AllByRecursion P (receives app start v)
      receives_sound = receives_by (slice_get app.methods start.body) refl

    pub receives_complete : (z : ℕ) → ArgumentRegister app start.body 0 z → In (says start (held v n z)) (receives app start v)
    receives_complete z r =
        let m = r.method in
        let at : ℕ → Conclusion = λ w. says start (held v n w) in
        let here : z ≡ m.registers - m.ins = let is = r.is in omega arith in
        subst (λ o. In (at z) (receives_as start v o)) (sym r.has.there)
        (in_unless (at z) (m.is_native || m.ins == 0) (at (m.registers - m.ins) ∷ []) (has_one m.is_native m.ins r.has.code r.below)
        (inl (ap at here)))
      where
        has_one : (b : Bool) (k : ℕ) → b ≡ false → 0 < k → b || k == 0 ≡ false
        has_one true k e lt = absurd cc
        has_one false k e lt = ne_eqb k 0 (λ (none : k ≡ 0). omega arith)

-- What is concluded where a body is entered, and that all of it is.
module _ (app : App) (start : Start) (sources : List (ℕ × ℕ)) where
  pub object_sound : (P : Conclusion → Type 0) (s : Site) → ((row : Row) → Begins app start.ctx start.body sources row → P (says start row)) →
      ((z : ℕ) → ArgumentRegister app start.body 0 z → P (says start (Points (first_of start) z s))) →
      AllByRecursion P (enters app start sources (Object s))
  object_sound P s h k =
      each_append P (begins app start sources) (receives app start (Object s))
      (begins_sound app start sources P h) (receives_sound app start (Object s) P k)

  pub label_sound : (P : Conclusion → Type 0) (p : Path) (l : ℕ) →
      ((z : ℕ) → ArgumentRegister app start.body 0 z → P (says start (Taint (first_of start) z p l))) →
      AllByRecursion P (enters app start sources (Label p l))
  label_sound P p l k = receives_sound app start (Label p l) P k

  pub object_begins : (s : Site) (row : Row) → Begins app start.ctx start.body sources row → In (says start row) (enters app start sources (Object s))
  object_begins s row b =
      in_front (says start row) (begins app start sources) (receives app start (Object s)) (begins_complete app start sources row b)

  pub is_received : (v : Content) (z : ℕ) → ArgumentRegister app start.body 0 z →
      In (says start (held v (first_of start) z)) (enters app start sources v)
  is_received (Object s) z r =
      in_back (says start (held (Object s) (first_of start) z)) (begins app start sources) (receives app start (Object s))
      (receives_complete app start (Object s) z r)
  is_received (Label p l) z r = receives_complete app start (Label p l) z r
