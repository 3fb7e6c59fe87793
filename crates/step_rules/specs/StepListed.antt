-- What each rule of steps concludes is listed with its premises, and what rows lead is part of what they give.
use Rattle.std.proofs.Common.{◌≡◌, ◌==◌, ℕ, true, ◌&&◌, List, [], ◌∷◌, ◌++◌, Option, Some, None, cond, length, find, flat_map, slice_get, IsFalse, refl, sym, ap, subst, ◌∙◌, inl, inr}
use Rattle.std.proofs.lemmas.Bool.{and_from, eqb-true}
use Rattle.vet_base.specs.declared.key_id.KeyId.{KeyId}
use Rattle.access_path.specs.declared.path.Path.{Path}
use Rattle.access_path.specs.Paths.{keys_of, cut, empty_path}
use Rattle.app_machine.specs.declared.method.Act.{Act}
use Rattle.app_machine.specs.declared.method.Act.TheVariants as act
use Rattle.app_machine.specs.declared.method.Method.{Method}
use Rattle.app_machine.specs.declared.method.Step.{Step}
use Rattle.app_machine.specs.declared.lists.Lists.{Lists}
use Rattle.app_machine.specs.declared.app.App.{App}
use Rattle.vet_base.specs.Members.{In}
use Rattle.app_machine.specs.Lookups.{step_at}
use Rattle.app_machine.specs.Summaries.{static_source}
use Rattle.app_machine.specs.Local.{writes}
use Rattle.app_machine.specs.State.{result_register, exception_register}
use Rattle.fact_rows.specs.declared.context.Node.{Node}
use Rattle.fact_rows.specs.declared.site.Site.{Site}
use Rattle.fact_rows.specs.declared.site.Site.TheVariants.{At}
use Rattle.fact_rows.specs.declared.row.Row.{Row}
use Rattle.fact_rows.specs.declared.row.Row.TheVariants.{Reached, Points, Taint, Cell, StaticPoints, StaticTaint, Effect}
use Rattle.flow_rules.specs.Nodes.{at_pc, Acts, GoesOn, CaughtAt}
use Rattle.flow_rules.specs.LocalRules.{returning, throwing}
use Rattle.rule_ground.specs.declared.conclusion.Conclusion.{Conclusion}
use Rattle.rule_ground.specs.declared.content.Content.{Content}
use Rattle.rule_ground.specs.declared.content.Content.TheVariants.{Object, Label}
use Rattle.rule_ground.specs.declared.key.Key.{Key}
use Rattle.rule_ground.specs.declared.key.Key.TheVariants.{PointsAt, TaintsAt, PointsTo, CellsOf, StaticPointsOf, StaticTaintsOf, ReachedAt}
use Rattle.rule_ground.specs.Given.{of_one, of_two, concludes, held, held_static, leaves, stored, at_each, to_all}
use Rattle.rule_ground.specs.Hits.{IsHits}
use Rattle.rule_ground.specs.Exact.{IsListed}
use Rattle.rule_ground.specs.Leading.{listed_in}
use Rattle.vet_base.proofs.Members.{in_front, in_back, in_flat, in_found, found_passes}
use Rattle.vet_base.proofs.Every.{in_where, in_unless}
use Rattle.app_index.specs.Readers.{is_read, reader, readers_of}
use Rattle.app_index.specs.ReaderLaws.{is_reader}
use Rattle.rule_ground.specs.Listing.{here, in_each, in_all, itself, found}
use Rattle.step_rules.specs.StepGiven.{step_here, step_leads, points_lead, taint_leads, goes_on, made, reads, reads_on, reader_gives, reader_takes, static_on, static_gives, statics_read, source_gives, sourced, statics_got, reached_on, keeps, thrown, passes, put_gives, puts, content_alone, put_on_gives, got_gives, object_gives, points_on, is_bare, label_gives, taint_on, gets, gets_on, getter_gives, step_given}
use Rattle.step_rules.specs.Lifted.{next_in, catch_in}

pub bare_of : (p : Path) → keys_of p ≡ [] → is_bare p ≡ true
bare_of p e = ap (λ (ks : List KeyId). length ks == 0) e

-- the step at a node is one of the node's method
record StepStands (app : App) (n : Node) (step : Step) : Type 0 where
  method : Method
  there : slice_get app.methods n.by.method ≡ Some method
  is_step : In step method.steps
  same_pc : step.pc ≡ n.pc

step_stands : (app : App) (n : Node) (step : Step) → step_here app n ≡ Some step → StepStands app n step
unfolding step_at
step_stands app n step h = of_method (slice_get app.methods n.by.method) refl h
  where
    of_method : (o : Option Method) → slice_get app.methods n.by.method ≡ o →
        elim o [ None ↦ None | Some m ↦ find (λ (s : Step). s.pc == n.pc) m.steps ] ≡ Some step → StepStands app n step
    of_method None e k = absurd cc
    of_method (Some m) e k =
        record { method = m; there = e; is_step = in_found (λ (s : Step). s.pc == n.pc) m.steps step k; same_pc = eqb-true step.pc n.pc (found_passes (λ (s : Step). s.pc == n.pc) m.steps step k) }

module _ (app : App) (lists : Lists) (has : Row → Type 0) (hits : Key → List Row) (law : (k : Key) → IsHits has k (hits k)) where
  abbrev given : Row → List Conclusion
  given row = step_given app lists hits row

  abbrev led : Row → List Conclusion
  led row = step_leads app lists hits row

  -- what rows lead is part of what they give
  points_given : (n : Node) (r : ℕ) (s : Site) (o : Option Step) (c : Conclusion) → In c (points_lead o hits n r s) → In c (points_on o hits n r s)
  points_given n r s None c i = absurd i
  points_given n r s (Some step) c i = in_front c (points_lead (Some step) hits n r s) (puts hits step.act n r (Object s)) i

  taint_given : (n : Node) (r : ℕ) (p : Path) (l : ℕ) (o : Option Step) (c : Conclusion) → In c (taint_leads o n r p l) → In c (taint_on o hits n r p l)
  taint_given n r p l None c i = absurd i
  taint_given n r p l (Some step) c i = in_front c (taint_leads (Some step) n r p l) (puts hits step.act n r (Label p l)) i

  pub led_given : (row : Row) (c : Conclusion) → In c (led row) → In c (given row)
  led_given (Reached n) c i = i
  led_given (Points n r s) c i = points_given n r s (step_here app n) c i
  led_given (Taint n r p l) c i = taint_given n r p l (step_here app n) c i
  led_given (Cell s k t) c (inl same) = inl same
  led_given (Cell s k t) c (inr none) = absurd none
  led_given _ c i = absurd i

  pub more : (row : Row) {rule : ℕ} {premises : List Row} {x : Row} → IsListed (led row) rule premises x → IsListed (given row) rule premises x
  more row h = listed_in (led row) (given row) (led_given row) h

  -- a conclusion of the step at the node, for each kind of row
  pub at_reached : (n : Node) (step : Step) → step_here app n ≡ Some step → (c : Conclusion) → In c (reached_on app lists (Some step) hits n) → In c (led (Reached n))
  at_reached n step there c i = subst (λ o. In c (reached_on app lists o hits n)) (sym there) i

  at_content : (v : Content) (n : Node) (r : ℕ) (step : Step) → step_here app n ≡ Some step → (c : Conclusion) →
      In c (content_alone step n r v) → In c (led (held v n r))
  at_content (Object s) n r step there c i =
      subst (λ o. In c (points_lead o hits n r s)) (sym there)
      (in_front c (content_alone step n r (Object s)) (object_gives hits step.act step.next n r s) i)
  at_content (Label p l) n r step there c i =
      subst (λ o. In c (taint_leads o n r p l)) (sym there)
      (in_front c (content_alone step n r (Label p l)) (label_gives step.act step.next n r p l) i)

  pub at_object : (n : Node) (r : ℕ) (s : Site) (a : Act) (h : Acts app n a) (c : Conclusion) →
      In c (object_gives hits a h.step.next n r s) → In c (led (Points n r s))
  at_object n r s a h c i =
      subst (λ o. In c (points_lead o hits n r s)) (sym h.there)
      (in_back c (content_alone h.step n r (Object s)) (object_gives hits h.step.act h.step.next n r s) (subst (λ z. In c (object_gives hits z h.step.next n r s)) (sym h.same) i))

  pub at_label : (n : Node) (r : ℕ) (p : Path) (l : ℕ) (a : Act) (h : Acts app n a) (c : Conclusion) →
      In c (label_gives a h.step.next n r p l) → In c (led (Taint n r p l))
  at_label n r p l a h c i =
      subst (λ o. In c (taint_leads o n r p l)) (sym h.there)
      (in_back c (content_alone h.step n r (Label p l)) (label_gives h.step.act h.step.next n r p l) (subst (λ z. In c (label_gives z h.step.next n r p l)) (sym h.same) i))

  at_put : (v : Content) (n : Node) (r : ℕ) (a : Act) (h : Acts app n a) (c : Conclusion) → In c (puts hits a n r v) → In c (given (held v n r))
  at_put (Object s) n r a h c i =
      subst (λ o. In c (points_on o hits n r s)) (sym h.there)
      (in_back c (points_lead (Some h.step) hits n r s) (puts hits h.step.act n r (Object s)) (subst (λ z. In c (puts hits z n r (Object s))) (sym h.same) i))
  at_put (Label p l) n r a h c i =
      subst (λ o. In c (taint_on o hits n r p l)) (sym h.there)
      (in_back c (taint_leads (Some h.step) n r p l) (puts hits h.step.act n r (Label p l)) (subst (λ z. In c (puts hits z n r (Label p l))) (sym h.same) i))

  -- 2
  pub kept : (v : Content) (n : Node) (pc r : ℕ) (a : Act) → Acts app n a → IsFalse (writes a r) → GoesOn app n pc →
      IsListed (led (held v n r)) 2 (held v n r ∷ []) (held v (at_pc n pc) r)
  kept v n pc r a h w g =
      let c = concludes 2 (of_one (held v n r)) (held v (at_pc n pc) r) in
      let f : List ℕ → List Conclusion = at_each 2 (of_one (held v n r)) v n r in
      here led (held v n r) 2 (of_one (held v n r)) (held v (at_pc n pc) r)
      (at_content v n r h.step h.there c (in_front c (keeps h.step n r v) (passes h.step.act h.step.next h.step.catches n r v)
      (in_front c (cond (writes h.step.act r) [] (f h.step.next)) (cond (r == exception_register) [] (f h.step.catches))
      (in_unless c (writes h.step.act r) (f h.step.next) (ap (λ z. writes z r) h.same ∙ w) (in_each 2 (of_one (held v n r)) v n h.step.next r pc (next_in app n h g))))))

  pub caught : (v : Content) (n : Node) (pc r : ℕ) → IsFalse (r == exception_register) → CaughtAt app n pc →
      IsListed (led (held v n r)) 2 (held v n r ∷ []) (held v (at_pc n pc) r)
  caught v n pc r w g =
      let c = concludes 2 (of_one (held v n r)) (held v (at_pc n pc) r) in
      let f : List ℕ → List Conclusion = at_each 2 (of_one (held v n r)) v n r in
      here led (held v n r) 2 (of_one (held v n r)) (held v (at_pc n pc) r)
      (at_content v n r g.step g.there c (in_front c (keeps g.step n r v) (passes g.step.act g.step.next g.step.catches n r v)
      (in_back c (cond (writes g.step.act r) [] (f g.step.next)) (cond (r == exception_register) [] (f g.step.catches))
      (in_unless c (r == exception_register) (f g.step.catches) w (in_each 2 (of_one (held v n r)) v n g.step.catches r pc g.catch)))))

  -- 3, 10, 11, 12
  passed : (v : Content) (n : Node) (r : ℕ) (a : Act) (h : Acts app n a) (rule : ℕ) (x : Row) →
      In (concludes rule (of_one (held v n r)) x) (passes a h.step.next h.step.catches n r v) →
      IsListed (led (held v n r)) rule (held v n r ∷ []) x
  passed v n r a h rule x i =
      let c = concludes rule (of_one (held v n r)) x in
      here led (held v n r) rule (of_one (held v n r)) x
      (at_content v n r h.step h.there c (in_back c (keeps h.step n r v) (passes h.step.act h.step.next h.step.catches n r v)
      (subst (λ z. In c (passes z h.step.next h.step.catches n r v)) (sym h.same) i)))

  pub moved : (v : Content) (n : Node) (pc x d : ℕ) (ds : List ℕ) → Acts app n (act.Move ds x) → In d ds → GoesOn app n pc →
      IsListed (led (held v n x)) 3 (held v n x ∷ []) (held v (at_pc n pc) d)
  moved v n pc x d ds h i g =
      passed v n x (act.Move ds x) h 3 (held v (at_pc n pc) d)
      (in_where _ (x == x) (to_all 3 (of_one (held v n x)) v n ds h.step.next) (itself x) (in_all 3 (of_one (held v n x)) v n h.step.next ds d pc i (next_in app n h g)))

  pub resulted : (v : Content) (n : Node) (pc d : ℕ) (ds : List ℕ) → Acts app n (act.TakeResult ds) → In d ds → GoesOn app n pc →
      IsListed (led (held v n result_register)) 3 (held v n result_register ∷ []) (held v (at_pc n pc) d)
  resulted v n pc d ds h i g =
      passed v n result_register (act.TakeResult ds) h 3 (held v (at_pc n pc) d)
      (in_all 3 (of_one (held v n result_register)) v n h.step.next ds d pc i (next_in app n h g))

  pub excepted : (v : Content) (n : Node) (pc d : ℕ) → Acts app n (act.TakeException d) → GoesOn app n pc →
      IsListed (led (held v n exception_register)) 3 (held v n exception_register ∷ []) (held v (at_pc n pc) d)
  excepted v n pc d h g =
      passed v n exception_register (act.TakeException d) h 3 (held v (at_pc n pc) d)
      (in_each 3 (of_one (held v n exception_register)) v n h.step.next d pc (next_in app n h g))

  pub to_static : (v : Content) (n : Node) (g x : ℕ) → Acts app n (act.PutStatic g x) → IsListed (led (held v n x)) 10 (held v n x ∷ []) (held_static v g)
  to_static v n g x h =
      passed v n x (act.PutStatic g x) h 10 (held_static v g)
      (in_where _ (x == x) (concludes 10 (of_one (held v n x)) (held_static v g) ∷ []) (itself x) (inl refl))

  pub threw : (v : Content) (n : Node) (pc x : ℕ) → Acts app n (act.Throw x) → CaughtAt app n pc →
      IsListed (led (held v n x)) 11 (held v n x ∷ []) (held v (at_pc n pc) exception_register)
  threw v n pc x h g =
      passed v n x (act.Throw x) h 11 (held v (at_pc n pc) exception_register)
      (in_where _ (x == x) (thrown h.step.catches n x v) (itself x) (inr (in_each 11 (of_one (held v n x)) v n h.step.catches exception_register pc (catch_in app n h g))))

  pub threw_out : (v : Content) (n : Node) (x : ℕ) → Acts app n (act.Throw x) → IsListed (led (held v n x)) 11 (held v n x ∷ []) (leaves v n.by throwing)
  threw_out v n x h = passed v n x (act.Throw x) h 11 (leaves v n.by throwing) (in_where _ (x == x) (thrown h.step.catches n x v) (itself x) (inl refl))

  pub returned : (v : Content) (n : Node) (x : ℕ) → Acts app n (act.Return (Some x)) → IsListed (led (held v n x)) 12 (held v n x ∷ []) (leaves v n.by returning)
  returned v n x h =
      passed v n x (act.Return (Some x)) h 12 (leaves v n.by returning)
      (in_where _ (x == x) (concludes 12 (of_one (held v n x)) (leaves v n.by returning) ∷ []) (itself x) (inl refl))

  -- 8
  pub put_value : (v : Content) (n : Node) (o x : ℕ) (k : KeyId) (s : Site) → Acts app n (act.Put o k x) → has (Points n o s) →
      IsListed (given (held v n x)) 8 (Points n o s ∷ held v n x ∷ []) (stored v n s k)
  put_value v n o x k s h p =
      let c = concludes 8 (of_two (Points n o s) (held v n x)) (stored v n s k) in
      let a : Act = act.Put o k x in
      let f : Row → List Conclusion = put_gives n k x v in
      here given (held v n x) 8 (of_two (Points n o s) (held v n x)) (stored v n s k)
      (at_put v n x a h c
      (in_where c (x == x) (flat_map f (hits (PointsAt n o))) (itself x) (found has hits law (PointsAt n o) f (Points n o s) c p (s, refl) (inl refl))))

  pub put_points : (n : Node) (o x : ℕ) (k : KeyId) (s t : Site) → Acts app n (act.Put o k x) → has (Points n x t) →
      IsListed (led (Points n o s)) 8 (Points n o s ∷ Points n x t ∷ []) (Cell s k t)
  put_points n o x k s t h p =
      let c = concludes 8 (of_two (Points n o s) (Points n x t)) (Cell s k t) in
      let f : Row → List Conclusion = put_on_gives n k o s in
      here led (Points n o s) 8 (of_two (Points n o s) (Points n x t)) (Cell s k t)
      (at_object n o s (act.Put o k x) h c (in_where c (o == o) (flat_map f (hits (PointsAt n x)) ++ flat_map f (hits (TaintsAt n x))) (itself o)
      (in_front c (flat_map f (hits (PointsAt n x))) (flat_map f (hits (TaintsAt n x))) (found has hits law (PointsAt n x) f (Points n x t) c p (t, refl) (inl refl)))))

  pub put_taint : (n : Node) (o x : ℕ) (k : KeyId) (s : Site) (q : Path) (l : ℕ) → Acts app n (act.Put o k x) → has (Taint n x q l) →
      IsListed (led (Points n o s)) 8 (Points n o s ∷ Taint n x q l ∷ []) (Effect n s (cut k q) l)
  put_taint n o x k s q l h p =
      let c = concludes 8 (of_two (Points n o s) (Taint n x q l)) (Effect n s (cut k q) l) in
      let f : Row → List Conclusion = put_on_gives n k o s in
      here led (Points n o s) 8 (of_two (Points n o s) (Taint n x q l)) (Effect n s (cut k q) l)
      (at_object n o s (act.Put o k x) h c (in_where c (o == o) (flat_map f (hits (PointsAt n x)) ++ flat_map f (hits (TaintsAt n x))) (itself o)
      (in_back c (flat_map f (hits (PointsAt n x))) (flat_map f (hits (TaintsAt n x))) (found has hits law (TaintsAt n x) f (Taint n x q l) c p (q, (l, refl)) (inl refl)))))

  -- 7
  pub got_object : (n : Node) (pc o d : ℕ) (ds : List ℕ) (k : KeyId) (s t : Site) → Acts app n (act.Get ds o k) → In d ds →
      GoesOn app n pc → has (Cell s k t) → IsListed (led (Points n o s)) 7 (Points n o s ∷ Cell s k t ∷ []) (Points (at_pc n pc) d t)
  got_object n pc o d ds k s t h i g p =
      let c = concludes 7 (of_two (Points n o s) (Cell s k t)) (Points (at_pc n pc) d t) in
      let f : Row → List Conclusion = got_gives ds h.step.next n o s in
      here led (Points n o s) 7 (of_two (Points n o s) (Cell s k t)) (Points (at_pc n pc) d t)
      (at_object n o s (act.Get ds o k) h c (in_where c (o == o) (flat_map f (hits (CellsOf s k))) (itself o)
      (found has hits law (CellsOf s k) f (Cell s k t) c p (t, refl) (in_all 7 (of_two (Points n o s) (Cell s k t)) (Object t) n h.step.next ds d pc i (next_in app n h g)))))

  pub got_cell : (n : Node) (pc o d : ℕ) (ds : List ℕ) (k : KeyId) (s t : Site) → Acts app n (act.Get ds o k) → In d ds → GoesOn app n pc →
      has (Points n o s) → IsListed (given (Cell s k t)) 7 (Points n o s ∷ Cell s k t ∷ []) (Points (at_pc n pc) d t)
  got_cell n pc o d ds k s t h i g p =
      let c = concludes 7 (of_two (Points n o s) (Cell s k t)) (Points (at_pc n pc) d t) in
      let f : Row → List Conclusion = getter_gives app s k t in
      here given (Cell s k t) 7 (of_two (Points n o s) (Cell s k t)) (Points (at_pc n pc) d t)
      (inr (found has hits law (PointsTo s) f (Points n o s) c p (n, (o, refl))
      (subst (λ z. In c (gets_on z n o s k t)) (sym h.there) (subst (λ z. In c (gets z h.step.next n o s k t)) (sym h.same)
      (in_where c (o == o && k.0 == k.0) (to_all 7 (of_two (Points n o s) (Cell s k t)) (Object t) n ds h.step.next)
      (and_from (o == o) (k.0 == k.0) (itself o) (itself k.0))
      (in_all 7 (of_two (Points n o s) (Cell s k t)) (Object t) n h.step.next ds d pc i (next_in app n h g)))))))

  -- 9
  read_by : (v : Content) (n : Node) (pc g d : ℕ) (ds : List ℕ) (h : Acts app n (act.GetStatic ds g)) → In d ds → GoesOn app n pc →
      In (concludes 9 (of_two (Reached n) (held_static v g)) (held v (at_pc n pc) d)) (reads (act.GetStatic ds g) h.step.next n g v)
  read_by v n pc g d ds h i k =
      in_where _ (g == g) (to_all 9 (of_two (Reached n) (held_static v g)) v n ds h.step.next) (itself g)
      (in_all 9 (of_two (Reached n) (held_static v g)) v n h.step.next ds d pc i (next_in app n h k))

  static_read : (v : Content) (n : Node) (g : ℕ) (h : (ds : List ℕ) × Acts app n (act.GetStatic ds g)) (c : Conclusion) →
      has (held_static v g) → In c (reads (act.GetStatic h.0 g) h.1.step.next n g v) →
      In c (statics_read hits (act.GetStatic h.0 g) h.1.step.next n)
  static_read (Object s) n g h c p i =
      let f : Row → List Conclusion = static_gives (act.GetStatic h.0 g) h.1.step.next n in
      in_front c (flat_map f (hits (StaticPointsOf g))) (flat_map f (hits (StaticTaintsOf g)))
      (found has hits law (StaticPointsOf g) f (StaticPoints g s) c p (s, refl) i)
  static_read (Label q l) n g h c p i =
      let f : Row → List Conclusion = static_gives (act.GetStatic h.0 g) h.1.step.next n in
      in_back c (flat_map f (hits (StaticPointsOf g))) (flat_map f (hits (StaticTaintsOf g)))
      (found has hits law (StaticTaintsOf g) f (StaticTaint g q l) c p (q, (l, refl)) i)

  pub read_reached : (v : Content) (n : Node) (pc g d : ℕ) (ds : List ℕ) → Acts app n (act.GetStatic ds g) → In d ds → GoesOn app n pc →
      has (held_static v g) → IsListed (led (Reached n)) 9 (Reached n ∷ held_static v g ∷ []) (held v (at_pc n pc) d)
  read_reached v n pc g d ds h i k p =
      let c = concludes 9 (of_two (Reached n) (held_static v g)) (held v (at_pc n pc) d) in
      here led (Reached n) 9 (of_two (Reached n) (held_static v g)) (held v (at_pc n pc) d)
      (at_reached n h.step h.there c (in_back c (goes_on h.step.next n) (goes_on h.step.catches n ++ (made h.step.act h.step.next n ++ statics_got app lists hits h.step.act h.step.next n))
      (in_back c (goes_on h.step.catches n) (made h.step.act h.step.next n ++ statics_got app lists hits h.step.act h.step.next n)
      (in_back c (made h.step.act h.step.next n) (statics_got app lists hits h.step.act h.step.next n)
      (in_front c (statics_read hits h.step.act h.step.next n) (sourced app lists h.step.act h.step.next n)
      (subst (λ z. In c (statics_read hits z h.step.next n)) (sym h.same) (static_read v n g (ds, h) c p (read_by v n pc g d ds h i k))))))))

  pub source_read : (n : Node) (pc g l d : ℕ) (ds : List ℕ) → Acts app n (act.GetStatic ds g) → In d ds → static_source app lists g ≡ Some l →
      GoesOn app n pc → IsListed (led (Reached n)) 9 (Reached n ∷ []) (Taint (at_pc n pc) d empty_path l)
  source_read n pc g l d ds h i is k =
      let c = concludes 9 (of_one (Reached n)) (Taint (at_pc n pc) d empty_path l) in
      here led (Reached n) 9 (of_one (Reached n)) (Taint (at_pc n pc) d empty_path l)
      (at_reached n h.step h.there c (in_back c (goes_on h.step.next n) (goes_on h.step.catches n ++ (made h.step.act h.step.next n ++ statics_got app lists hits h.step.act h.step.next n))
      (in_back c (goes_on h.step.catches n) (made h.step.act h.step.next n ++ statics_got app lists hits h.step.act h.step.next n)
      (in_back c (made h.step.act h.step.next n) (statics_got app lists hits h.step.act h.step.next n)
      (in_back c (statics_read hits h.step.act h.step.next n) (sourced app lists h.step.act h.step.next n)
      (subst (λ z. In c (sourced app lists z h.step.next n)) (sym h.same)
      (subst (λ o. In c (source_gives o ds h.step.next n)) (sym is)
      (in_all 9 (of_one (Reached n)) (Label empty_path l) n h.step.next ds d pc i (next_in app n h k)))))))))

  at_static : (v : Content) (g : ℕ) (c : Conclusion) → In c (static_on app hits g v) → In c (given (held_static v g))
  at_static (Object s) g c i = i
  at_static (Label q l) g c i = i

  pub read_static : (v : Content) (n : Node) (pc g d : ℕ) (ds : List ℕ) → Acts app n (act.GetStatic ds g) → In d ds → GoesOn app n pc →
      has (Reached n) → IsListed (given (held_static v g)) 9 (Reached n ∷ held_static v g ∷ []) (held v (at_pc n pc) d)
  read_static v n pc g d ds h i k p =
      let c = concludes 9 (of_two (Reached n) (held_static v g)) (held v (at_pc n pc) d) in
      let at = step_stands app n h.step h.there in
      let reads_it : is_read h.step.act g ≡ true = ap (λ a. is_read a g) h.same ∙ itself g in
      here given (held_static v g) 9 (of_two (Reached n) (held_static v g)) (held v (at_pc n pc) d)
      (at_static v g c
      (in_flat (reader_takes app hits g v) (readers_of app g) (reader n.by.method h.step) c (is_reader app g n.by.method at.method h.step at.there at.is_step reads_it)
      (found has hits law (ReachedAt n.by.method h.step.pc) (reader_gives app g v) (Reached n) c p (n, (refl, (sym at.same_pc, refl)))
      (subst (λ z. In c (reads_on z n g v)) (sym h.there) (subst (λ z. In c (reads z h.step.next n g v)) (sym h.same) (read_by v n pc g d ds h i k))))))

  -- 5
  pub made_here : (n : Node) (pc r : ℕ) (a : Act) (h : Acts app n a) →
      In (concludes 5 (of_one (Reached n)) (Points (at_pc n pc) r (At n))) (made a h.step.next n) →
      IsListed (led (Reached n)) 5 (Reached n ∷ []) (Points (at_pc n pc) r (At n))
  made_here n pc r a h i =
      let c = concludes 5 (of_one (Reached n)) (Points (at_pc n pc) r (At n)) in
      here led (Reached n) 5 (of_one (Reached n)) (Points (at_pc n pc) r (At n))
      (at_reached n h.step h.there c (in_back c (goes_on h.step.next n) (goes_on h.step.catches n ++ (made h.step.act h.step.next n ++ statics_got app lists hits h.step.act h.step.next n))
      (in_back c (goes_on h.step.catches n) (made h.step.act h.step.next n ++ statics_got app lists hits h.step.act h.step.next n)
      (in_front c (made h.step.act h.step.next n) (statics_got app lists hits h.step.act h.step.next n) (subst (λ z. In c (made z h.step.next n)) (sym h.same) i)))))
