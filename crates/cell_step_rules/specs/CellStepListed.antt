-- What each rule of steps concludes is listed with its premises, and what rows lead is part of what they give.
use Rattle.std.proofs.Common.{◌≡◌, ◌==◌, ◌&&◌, ℕ, true, List, [], ◌∷◌, ◌++◌, Option, Some, None, flat_map, refl, sym, ap, subst, ◌∙◌, inl, inr}
use Rattle.std.proofs.lemmas.Bool.{and_from}
use Rattle.vet_base.specs.declared.key_id.KeyId.{KeyId}
use Rattle.app_machine.specs.declared.method.Act.{Act}
use Rattle.app_machine.specs.declared.method.Act.TheVariants as act
use Rattle.app_machine.specs.declared.method.Step.{Step}
use Rattle.app_machine.specs.declared.lists.Lists.{Lists}
use Rattle.app_machine.specs.declared.app.App.{App}
use Rattle.vet_base.specs.Members.{In}
use Rattle.app_machine.specs.Summaries.{static_source}
use Rattle.app_machine.specs.State.{result_register, exception_register}
use Rattle.fact_rows.specs.declared.context.Node.{Node}
use Rattle.fact_rows.specs.declared.site.Site.{Site}
use Rattle.fact_rows.specs.declared.row.Row.{Row}
use Rattle.fact_rows.specs.declared.row.Row.TheVariants as fact
use Rattle.flow_rules.specs.Nodes.{at_pc, Acts, GoesOn, CaughtAt}
use Rattle.rule_ground.specs.declared.conclusion.Conclusion.{Conclusion}
use Rattle.rule_ground.specs.declared.key.Key.{Key}
use Rattle.rule_ground.specs.declared.key.Key.TheVariants.{PointsAt, PointsTo, CellsOf, BacksOf, StaticPointsOf, ReachedAt, LabelsAt, StaticLabelsOf, CellLabelsOf, HoldsOf}
use Rattle.rule_ground.specs.Given.{of_one, of_two, concludes}
use Rattle.rule_ground.specs.Hits.{IsHits}
use Rattle.rule_ground.specs.Exact.{IsListed}
use Rattle.rule_ground.specs.Leading.{listed_in}
use Rattle.rule_ground.specs.Listing.{here, itself, found}
use Rattle.vet_base.proofs.Members.{in_front, in_back, in_flat}
use Rattle.vet_base.proofs.Every.{in_where}
use Rattle.app_index.specs.Readers.{is_read, reader, readers_of}
use Rattle.app_index.specs.ReaderLaws.{is_reader}
use Rattle.register_readers.specs.Readings.{Readings}
use Rattle.cell_rules.specs.Making.{made_at}
use Rattle.cell_rules.specs.Reading.{ReadAt}
use Rattle.cell_ground.specs.declared.content.Content.{Content}
use Rattle.cell_ground.specs.declared.content.Content.TheVariants.{Object, Label}
use Rattle.cell_ground.specs.Coming.{held, held_static, stored, coming, coming_to_all}
use Rattle.cell_ground.specs.ComingListed.{in_coming, in_coming_all}
use Rattle.cell_ground.specs.Ready.{Ready, listed_behind, listed_caught}
use Rattle.cell_ground.specs.Steps.{step_here, next_in, catch_in, step_stands}
use Rattle.cell_step_rules.specs.CellStepGiven.{put_on_gives, put_gives, puts, lifts, holder_gives, reads, reads_on, static_gives, statics_read, source_gives, passes, got_content, got_gives, gets, gets_on, label_comes, made, reader_gives, reader_takes, static_on, sourced, reached_on, object_gives, points_on, label_leaves, label_leads, label_on, getter_gives, cell_on, cell_step_given, cell_step_leads}

module _ (app : App) (readings : Readings) (ready : Ready app readings) (lists : Lists) (has : Row → Type 0) (hits : Key → List Row) (law : (k : Key) → IsHits has k (hits k)) where
  abbrev given : Row → List Conclusion
  given row = cell_step_given app readings lists hits row

  abbrev led : Row → List Conclusion
  led row = cell_step_leads app readings lists hits row

  -- what rows lead is part of what they give
  label_given : (n : Node) (r l : ℕ) (o : Option Step) (c : Conclusion) → In c (label_leads app readings o n r l) → In c (label_on app readings o hits n r l)
  label_given n r l None c i = absurd i
  label_given n r l (Some step) c i = in_front c (label_leads app readings (Some step) n r l) (puts hits step.act n r l) i

  pub led_given : (row : Row) (c : Conclusion) → In c (led row) → In c (given row)
  led_given (fact.Reached n) c i = i
  led_given (fact.Points n r s) c i = i
  led_given (fact.Label n r l) c i = label_given n r l (step_here app n) c i
  led_given (fact.CellLabel s k l) c (inl same) = inl same
  led_given (fact.CellLabel s k l) c (inr none) = absurd none
  led_given (fact.Holds t l) c i = i
  led_given _ c i = absurd i

  pub more : (row : Row) {rule : ℕ} {premises : List Row} {x : Row} → IsListed (led row) rule premises x → IsListed (given row) rule premises x
  more row h = listed_in (led row) (given row) (led_given row) h

  -- a conclusion of the step at the node, for each kind of row
  at_reached : (n : Node) (step : Step) → step_here app n ≡ Some step → (c : Conclusion) →
      In c (reached_on app readings lists (Some step) hits n) → In c (led (fact.Reached n))
  at_reached n step there c i = subst (λ o. In c (reached_on app readings lists o hits n)) (sym there) i

  at_content : (v : Content) (n : Node) (r : ℕ) (step : Step) → step_here app n ≡ Some step → (c : Conclusion) →
      In c (passes readings step.act step.next step.catches n r v) → In c (led (held v n r))
  at_content (Object s) n r step there c i =
      subst (λ o. In c (points_on app readings o hits n r s)) (sym there)
      (in_front c (passes readings step.act step.next step.catches n r (Object s)) (object_gives app readings hits step.act step.next n r s) i)
  at_content (Label l) n r step there c i =
      subst (λ o. In c (label_leads app readings o n r l)) (sym there)
      (in_front c (passes readings step.act step.next step.catches n r (Label l)) (label_comes readings step.act step.next n r l ++ label_leaves app step.act n r l) i)

  at_object : (n : Node) (r : ℕ) (s : Site) (a : Act) (h : Acts app n a) (c : Conclusion) →
      In c (object_gives app readings hits a h.step.next n r s) → In c (led (fact.Points n r s))
  at_object n r s a h c i =
      subst (λ o. In c (points_on app readings o hits n r s)) (sym h.there)
      (in_back c (passes readings h.step.act h.step.next h.step.catches n r (Object s)) (object_gives app readings hits h.step.act h.step.next n r s)
      (subst (λ z. In c (object_gives app readings hits z h.step.next n r s)) (sym h.same) i))

  at_label : (n : Node) (r l : ℕ) (step : Step) → step_here app n ≡ Some step → (c : Conclusion) →
      In c (label_comes readings step.act step.next n r l ++ label_leaves app step.act n r l) → In c (led (fact.Label n r l))
  at_label n r l step there c i =
      subst (λ o. In c (label_leads app readings o n r l)) (sym there)
      (in_back c (passes readings step.act step.next step.catches n r (Label l)) (label_comes readings step.act step.next n r l ++ label_leaves app step.act n r l) i)

  -- 4, 5
  pub come : (n : Node) (r l : ℕ) (a : Act) (h : Acts app n a) (rule : ℕ) (x : Row) →
      In (concludes rule (of_one (fact.Label n r l)) x) (label_comes readings a h.step.next n r l) →
      IsListed (led (fact.Label n r l)) rule (fact.Label n r l ∷ []) x
  come n r l a h rule x i =
      let c = concludes rule (of_one (fact.Label n r l)) x in
      here led (fact.Label n r l) rule (of_one (fact.Label n r l)) x
      (at_label n r l h.step h.there c (in_front c (label_comes readings h.step.act h.step.next n r l) (label_leaves app h.step.act n r l)
      (subst (λ z. In c (label_comes readings z h.step.next n r l)) (sym h.same) i)))

  -- 6, 10, 11, 12
  pub leave : (n : Node) (r l : ℕ) (a : Act) (h : Acts app n a) (rule : ℕ) (x : Row) →
      In (concludes rule (of_one (fact.Label n r l)) x) (label_leaves app a n r l) →
      IsListed (led (fact.Label n r l)) rule (fact.Label n r l ∷ []) x
  leave n r l a h rule x i =
      let c = concludes rule (of_one (fact.Label n r l)) x in
      here led (fact.Label n r l) rule (of_one (fact.Label n r l)) x
      (at_label n r l h.step h.there c (in_back c (label_comes readings h.step.act h.step.next n r l) (label_leaves app h.step.act n r l)
      (subst (λ z. In c (label_leaves app z n r l)) (sym h.same) i)))

  -- 6
  pub filled : (n : Node) (r : ℕ) (s : Site) (a : Act) (h : Acts app n a) (rule : ℕ) (x : Row) →
      In (concludes rule (of_one (fact.Points n r s)) x) (object_gives app readings hits a h.step.next n r s) →
      IsListed (led (fact.Points n r s)) rule (fact.Points n r s ∷ []) x
  filled n r s a h rule x i =
      here led (fact.Points n r s) rule (of_one (fact.Points n r s)) x (at_object n r s a h (concludes rule (of_one (fact.Points n r s)) x) i)

  -- 3, 11
  passed : (v : Content) (n : Node) (r : ℕ) (a : Act) (h : Acts app n a) (rule : ℕ) (x : Row) →
      In (concludes rule (of_one (held v n r)) x) (passes readings a h.step.next h.step.catches n r v) →
      IsListed (led (held v n r)) rule (held v n r ∷ []) x
  passed v n r a h rule x i =
      let c = concludes rule (of_one (held v n r)) x in
      here led (held v n r) rule (of_one (held v n r)) x
      (at_content v n r h.step h.there c (subst (λ z. In c (passes readings z h.step.next h.step.catches n r v)) (sym h.same) i))

  pub moved : (v : Content) (n : Node) (pc x d u : ℕ) (ds : List ℕ) → Acts app n (act.Move ds x) → In d ds → GoesOn app n pc →
      ReadAt app n.by.method d pc u → IsListed (led (held v n x)) 3 (held v n x ∷ []) (held v (at_pc n u) d)
  moved v n pc x d u ds h i g w =
      passed v n x (act.Move ds x) h 3 (held v (at_pc n u) d)
      (in_where _ (x == x) (coming_to_all readings 3 (of_one (held v n x)) v n ds h.step.next) (itself x)
      (in_coming_all readings 3 (of_one (held v n x)) v n h.step.next ds d pc u i (next_in app n h g) (listed_behind app readings ready n (act.Move ds x) d pc u h i g w)))

  pub resulted : (v : Content) (n : Node) (pc d u : ℕ) (ds : List ℕ) → Acts app n (act.TakeResult ds) → In d ds → GoesOn app n pc →
      ReadAt app n.by.method d pc u → IsListed (led (held v n result_register)) 3 (held v n result_register ∷ []) (held v (at_pc n u) d)
  resulted v n pc d u ds h i g w =
      passed v n result_register (act.TakeResult ds) h 3 (held v (at_pc n u) d)
      (in_coming_all readings 3 (of_one (held v n result_register)) v n h.step.next ds d pc u i (next_in app n h g) (listed_behind app readings ready n (act.TakeResult ds) d pc u h i g w))

  pub excepted : (v : Content) (n : Node) (pc d u : ℕ) → Acts app n (act.TakeException d) → GoesOn app n pc →
      ReadAt app n.by.method d pc u → IsListed (led (held v n exception_register)) 3 (held v n exception_register ∷ []) (held v (at_pc n u) d)
  excepted v n pc d u h g w =
      passed v n exception_register (act.TakeException d) h 3 (held v (at_pc n u) d)
      (in_coming readings 3 (of_one (held v n exception_register)) v n h.step.next d pc u (next_in app n h g) (listed_behind app readings ready n (act.TakeException d) d pc u h (inl refl) g w))

  pub threw : (v : Content) (n : Node) (pc x u : ℕ) → Acts app n (act.Throw x) → CaughtAt app n pc → ReadAt app n.by.method exception_register pc u →
      IsListed (led (held v n x)) 11 (held v n x ∷ []) (held v (at_pc n u) exception_register)
  threw v n pc x u h g w =
      passed v n x (act.Throw x) h 11 (held v (at_pc n u) exception_register)
      (in_where _ (x == x) (coming readings 11 (of_one (held v n x)) v n exception_register h.step.catches) (itself x)
      (in_coming readings 11 (of_one (held v n x)) v n h.step.catches exception_register pc u (catch_in app n h g) (listed_caught app readings ready n pc u g w)))

  -- 8
  pub put_value : (n : Node) (o x l : ℕ) (k : KeyId) (s : Site) → Acts app n (act.Put o k x) → has (fact.Points n o s) →
      IsListed (given (fact.Label n x l)) 8 (fact.Points n o s ∷ fact.Label n x l ∷ []) (fact.CellLabel s k l)
  put_value n o x l k s h p =
      let c = concludes 8 (of_two (fact.Points n o s) (fact.Label n x l)) (fact.CellLabel s k l) in
      let f : Row → List Conclusion = put_gives n k x l in
      here given (fact.Label n x l) 8 (of_two (fact.Points n o s) (fact.Label n x l)) (fact.CellLabel s k l)
      (subst (λ z. In c (label_on app readings z hits n x l)) (sym h.there)
      (in_back c (label_leads app readings (Some h.step) n x l) (puts hits h.step.act n x l)
      (subst (λ z. In c (puts hits z n x l)) (sym h.same)
      (in_where c (x == x) (flat_map f (hits (PointsAt n o))) (itself x) (found has hits law (PointsAt n o) f (fact.Points n o s) c p (s, refl) (inl refl))))))

  pub put_object : (n : Node) (o x l : ℕ) (k : KeyId) (s : Site) → Acts app n (act.Put o k x) → has (fact.Label n x l) →
      IsListed (led (fact.Points n o s)) 8 (fact.Points n o s ∷ fact.Label n x l ∷ []) (fact.CellLabel s k l)
  put_object n o x l k s h p =
      let c = concludes 8 (of_two (fact.Points n o s) (fact.Label n x l)) (fact.CellLabel s k l) in
      let f : Row → List Conclusion = put_on_gives n k o s in
      here led (fact.Points n o s) 8 (of_two (fact.Points n o s) (fact.Label n x l)) (fact.CellLabel s k l)
      (at_object n o s (act.Put o k x) h c
      (in_where c (o == o) (flat_map f (hits (LabelsAt n x))) (itself o) (found has hits law (LabelsAt n x) f (fact.Label n x l) c p (l, refl) (inl refl))))

  -- 7
  in_cells : (v : Content) (ds next : List ℕ) (n : Node) (o : ℕ) (k : KeyId) (s : Site) (c : Conclusion) → has (stored v s k) →
      In c (got_content readings ds next n o s (stored v s k) v) →
      In c (flat_map (got_gives readings ds next n o s) (hits (CellsOf s k)) ++ flat_map (got_gives readings ds next n o s) (hits (CellLabelsOf s k)))
  in_cells (Object t) ds next n o k s c p i =
      let f : Row → List Conclusion = got_gives readings ds next n o s in
      in_front c (flat_map f (hits (CellsOf s k))) (flat_map f (hits (CellLabelsOf s k))) (found has hits law (CellsOf s k) f (fact.Cell s k t) c p (t, refl) i)
  in_cells (Label l) ds next n o k s c p i =
      let f : Row → List Conclusion = got_gives readings ds next n o s in
      in_back c (flat_map f (hits (CellsOf s k))) (flat_map f (hits (CellLabelsOf s k))) (found has hits law (CellLabelsOf s k) f (fact.CellLabel s k l) c p (l, refl) i)

  got_by : (v : Content) (n : Node) (pc o d u : ℕ) (ds : List ℕ) (k : KeyId) (s : Site) (h : Acts app n (act.Get ds o k)) → In d ds →
      GoesOn app n pc → ReadAt app n.by.method d pc u →
      In (concludes 7 (of_two (fact.Points n o s) (stored v s k)) (held v (at_pc n u) d)) (got_content readings ds h.step.next n o s (stored v s k) v)
  got_by v n pc o d u ds k s h i g w =
      in_coming_all readings 7 (of_two (fact.Points n o s) (stored v s k)) v n h.step.next ds d pc u i (next_in app n h g) (listed_behind app readings ready n (act.Get ds o k) d pc u h i g w)

  pub got_object : (v : Content) (n : Node) (pc o d u : ℕ) (ds : List ℕ) (k : KeyId) (s : Site) → Acts app n (act.Get ds o k) → In d ds →
      GoesOn app n pc → ReadAt app n.by.method d pc u → has (stored v s k) →
      IsListed (led (fact.Points n o s)) 7 (fact.Points n o s ∷ stored v s k ∷ []) (held v (at_pc n u) d)
  got_object v n pc o d u ds k s h i g w p =
      let c = concludes 7 (of_two (fact.Points n o s) (stored v s k)) (held v (at_pc n u) d) in
      let f : Row → List Conclusion = got_gives readings ds h.step.next n o s in
      here led (fact.Points n o s) 7 (of_two (fact.Points n o s) (stored v s k)) (held v (at_pc n u) d)
      (at_object n o s (act.Get ds o k) h c (in_where c (o == o) (flat_map f (hits (CellsOf s k)) ++ flat_map f (hits (CellLabelsOf s k))) (itself o)
      (in_cells v ds h.step.next n o k s c p (got_by v n pc o d u ds k s h i g w))))

  at_cell : (v : Content) (s : Site) (k : KeyId) (c : Conclusion) → In c (cell_on app readings hits s k v) → In c (given (stored v s k))
  at_cell (Object t) s k c i = i
  at_cell (Label l) s k c i = inr i

  pub got_cell : (v : Content) (n : Node) (pc o d u : ℕ) (ds : List ℕ) (k : KeyId) (s : Site) → Acts app n (act.Get ds o k) → In d ds →
      GoesOn app n pc → ReadAt app n.by.method d pc u → has (fact.Points n o s) →
      IsListed (given (stored v s k)) 7 (fact.Points n o s ∷ stored v s k ∷ []) (held v (at_pc n u) d)
  got_cell v n pc o d u ds k s h i g w p =
      let c = concludes 7 (of_two (fact.Points n o s) (stored v s k)) (held v (at_pc n u) d) in
      let f : Row → List Conclusion = getter_gives app readings s k v in
      here given (stored v s k) 7 (of_two (fact.Points n o s) (stored v s k)) (held v (at_pc n u) d)
      (at_cell v s k c (found has hits law (PointsTo s) f (fact.Points n o s) c p (n, (o, refl))
      (subst (λ z. In c (gets_on readings z n o s s k v)) (sym h.there) (subst (λ z. In c (gets readings z h.step.next n o s s k v)) (sym h.same)
      (in_where c (o == o && k.0 == k.0) (coming_to_all readings 7 (of_two (fact.Points n o s) (stored v s k)) v n ds h.step.next)
      (and_from (o == o) (k.0 == k.0) (itself o) (itself k.0))
      (got_by v n pc o d u ds k s h i g w))))))

  -- 9
  read_by : (v : Content) (n : Node) (pc g d u : ℕ) (ds : List ℕ) (h : Acts app n (act.GetStatic ds g)) → In d ds → GoesOn app n pc →
      ReadAt app n.by.method d pc u →
      In (concludes 9 (of_two (fact.Reached n) (held_static v g)) (held v (at_pc n u) d)) (reads readings (act.GetStatic ds g) h.step.next n g v)
  read_by v n pc g d u ds h i k w =
      in_where _ (g == g) (coming_to_all readings 9 (of_two (fact.Reached n) (held_static v g)) v n ds h.step.next) (itself g)
      (in_coming_all readings 9 (of_two (fact.Reached n) (held_static v g)) v n h.step.next ds d pc u i (next_in app n h k) (listed_behind app readings ready n (act.GetStatic ds g) d pc u h i k w))

  static_read : (v : Content) (n : Node) (g : ℕ) (ds next : List ℕ) (c : Conclusion) → has (held_static v g) →
      In c (reads readings (act.GetStatic ds g) next n g v) → In c (statics_read readings hits (act.GetStatic ds g) next n)
  static_read (Object s) n g ds next c p i =
      let f : Row → List Conclusion = static_gives readings (act.GetStatic ds g) next n in
      in_front c (flat_map f (hits (StaticPointsOf g))) (flat_map f (hits (StaticLabelsOf g))) (found has hits law (StaticPointsOf g) f (fact.StaticPoints g s) c p (s, refl) i)
  static_read (Label l) n g ds next c p i =
      let f : Row → List Conclusion = static_gives readings (act.GetStatic ds g) next n in
      in_back c (flat_map f (hits (StaticPointsOf g))) (flat_map f (hits (StaticLabelsOf g))) (found has hits law (StaticLabelsOf g) f (fact.StaticLabel g l) c p (l, refl) i)

  -- behind what is made at the node
  at_statics : (n : Node) (a : Act) (h : Acts app n a) (c : Conclusion) →
      In c (statics_read readings hits a h.step.next n ++ sourced app readings lists a h.step.next n) → In c (led (fact.Reached n))
  at_statics n a h c i =
      at_reached n h.step h.there c (in_back c (made app readings h.step.act h.step.next n) (statics_read readings hits h.step.act h.step.next n ++ sourced app readings lists h.step.act h.step.next n)
      (subst (λ z. In c (statics_read readings hits z h.step.next n ++ sourced app readings lists z h.step.next n)) (sym h.same) i))

  pub read_reached : (v : Content) (n : Node) (pc g d u : ℕ) (ds : List ℕ) → Acts app n (act.GetStatic ds g) → In d ds → GoesOn app n pc →
      ReadAt app n.by.method d pc u → has (held_static v g) →
      IsListed (led (fact.Reached n)) 9 (fact.Reached n ∷ held_static v g ∷ []) (held v (at_pc n u) d)
  read_reached v n pc g d u ds h i k w p =
      let c = concludes 9 (of_two (fact.Reached n) (held_static v g)) (held v (at_pc n u) d) in
      let a : Act = act.GetStatic ds g in
      here led (fact.Reached n) 9 (of_two (fact.Reached n) (held_static v g)) (held v (at_pc n u) d)
      (at_statics n a h c (in_front c (statics_read readings hits a h.step.next n) (sourced app readings lists a h.step.next n)
      (static_read v n g ds h.step.next c p (read_by v n pc g d u ds h i k w))))

  pub source_read : (n : Node) (pc g l d u : ℕ) (ds : List ℕ) → Acts app n (act.GetStatic ds g) → In d ds → static_source app lists g ≡ Some l →
      GoesOn app n pc → ReadAt app n.by.method d pc u → IsListed (led (fact.Reached n)) 9 (fact.Reached n ∷ []) (fact.Label (at_pc n u) d l)
  source_read n pc g l d u ds h i is k w =
      let c = concludes 9 (of_one (fact.Reached n)) (fact.Label (at_pc n u) d l) in
      let a : Act = act.GetStatic ds g in
      here led (fact.Reached n) 9 (of_one (fact.Reached n)) (fact.Label (at_pc n u) d l)
      (at_statics n a h c (in_back c (statics_read readings hits a h.step.next n) (sourced app readings lists a h.step.next n)
      (subst (λ o. In c (source_gives readings o ds h.step.next n)) (sym is)
      (in_coming_all readings 9 (of_one (fact.Reached n)) (Label l) n h.step.next ds d pc u i (next_in app n h k) (listed_behind app readings ready n a d pc u h i k w)))))

  at_static : (v : Content) (g : ℕ) (c : Conclusion) → In c (static_on app readings hits g v) → In c (given (held_static v g))
  at_static (Object s) g c i = i
  at_static (Label l) g c i = i

  pub read_static : (v : Content) (n : Node) (pc g d u : ℕ) (ds : List ℕ) → Acts app n (act.GetStatic ds g) → In d ds → GoesOn app n pc →
      ReadAt app n.by.method d pc u → has (fact.Reached n) →
      IsListed (given (held_static v g)) 9 (fact.Reached n ∷ held_static v g ∷ []) (held v (at_pc n u) d)
  read_static v n pc g d u ds h i k w p =
      let c = concludes 9 (of_two (fact.Reached n) (held_static v g)) (held v (at_pc n u) d) in
      let at = step_stands app n h.step h.there in
      let reads_it : is_read h.step.act g ≡ true = ap (λ a. is_read a g) h.same ∙ itself g in
      here given (held_static v g) 9 (of_two (fact.Reached n) (held_static v g)) (held v (at_pc n u) d)
      (at_static v g c
      (in_flat (reader_takes app readings hits g v) (readers_of app g) (reader n.by.method h.step) c (is_reader app g n.by.method at.method h.step at.there at.is_step reads_it)
      (found has hits law (ReachedAt n.by.method h.step.pc) (reader_gives app readings g v) (fact.Reached n) c p (n, (refl, (sym at.same_pc, refl)))
      (subst (λ z. In c (reads_on readings z n g v)) (sym h.there) (subst (λ z. In c (reads readings z h.step.next n g v)) (sym h.same) (read_by v n pc g d u ds h i k w))))))

  -- 5
  pub made_here : (n : Node) (r u : ℕ) (a : Act) (h : Acts app n a) →
      In (concludes 5 (of_one (fact.Reached n)) (fact.Points (at_pc n u) r (made_at app n))) (made app readings a h.step.next n) →
      IsListed (led (fact.Reached n)) 5 (fact.Reached n ∷ []) (fact.Points (at_pc n u) r (made_at app n))
  made_here n r u a h i =
      let c = concludes 5 (of_one (fact.Reached n)) (fact.Points (at_pc n u) r (made_at app n)) in
      here led (fact.Reached n) 5 (of_one (fact.Reached n)) (fact.Points (at_pc n u) r (made_at app n))
      (at_reached n h.step h.there c (in_front c (made app readings h.step.act h.step.next n) (statics_read readings hits h.step.act h.step.next n ++ sourced app readings lists h.step.act h.step.next n)
      (subst (λ z. In c (made app readings z h.step.next n)) (sym h.same) i)))

  -- 14
  pub lifted : (t : Site) (k : KeyId) (s : Site) (l : ℕ) → has (fact.Back t k s) →
      IsListed (led (fact.Holds t l)) 14 (fact.Holds t l ∷ fact.Back t k s ∷ []) (fact.Holds s l)
  lifted t k s l p =
      let c = concludes 14 (of_two (fact.Holds t l) (fact.Back t k s)) (fact.Holds s l) in
      here led (fact.Holds t l) 14 (of_two (fact.Holds t l) (fact.Back t k s)) (fact.Holds s l)
      (found has hits law (BacksOf t) (lifts t l) (fact.Back t k s) c p (k, (s, refl)) (inl refl))

  pub lifted_back : (t : Site) (k : KeyId) (s : Site) (l : ℕ) → has (fact.Holds t l) →
      IsListed (given (fact.Back t k s)) 14 (fact.Holds t l ∷ fact.Back t k s ∷ []) (fact.Holds s l)
  lifted_back t k s l p =
      let c = concludes 14 (of_two (fact.Holds t l) (fact.Back t k s)) (fact.Holds s l) in
      here given (fact.Back t k s) 14 (of_two (fact.Holds t l) (fact.Back t k s)) (fact.Holds s l)
      (found has hits law (HoldsOf t) (holder_gives t k s) (fact.Holds t l) c p (l, refl) (inl refl))
