-- Each step of the running frame within its method keeps what is known.
use Rattle.std.proofs.Common.{◌≡◌, ℕ, ◌<◌, List, [], ◌∷◌, ◌++◌, length, inl, inr, Option, Some, None, refl, ap, sym, ◌∙◌, subst, arith}
use Rattle.std.specs.Prelude.{option_to_list}
use Rattle.vet_base.specs.declared.key_id.KeyId.{KeyId}
use Rattle.access_path.specs.Laws.{PathLaws}
use Rattle.access_path.specs.declared.path.Path.{Path}
use Rattle.access_path.specs.Paths.{cut, rest, empty_path}
use Rattle.app_machine.specs.declared.method.Step.{Step}
use Rattle.app_machine.specs.declared.method.Act.{Act}
use Rattle.app_machine.specs.declared.method.Act.TheVariants.{Join, Move, New, Fill, Get, Put, GetStatic, PutStatic, TakeResult, TakeException}
use Rattle.app_machine.specs.declared.app.App.{App}
use Rattle.app_machine.specs.declared.lists.Lists.{Lists}
use Rattle.vet_base.specs.Members.{In}
use Rattle.app_machine.specs.Names.{Name}
use Rattle.app_machine.specs.Lookups.{elem_key, step_at, ActAt, Goes}
use Rattle.app_machine.specs.Summaries.{static_source}
use Rattle.app_machine.specs.Heap.{Value, Object, blank, labelled, Reaches, put_at, put_to, Gets, entry_of, no_element, no_entry}
use Rattle.app_machine.specs.State.{result_register, exception_register, write, write_all, World, Frame, object_at, new_object}
use Rattle.app_machine.specs.Local.{AreOwnLabels, AreElements, Local, skips, goes, blanks, moves, takes_result, takes_exception, joins, makes, fills, gets, puts, gets_static, puts_static}
use Rattle.app_machine.specs.Sound.{SoundApp}
use Rattle.fact_rows.specs.declared.context.Ctx.{Ctx}
use Rattle.fact_rows.specs.declared.context.Node.{Node}
use Rattle.fact_rows.specs.declared.site.Site.{Site}
use Rattle.fact_rows.specs.declared.site.Site.TheVariants.{At}
use Rattle.fact_rows.specs.declared.row.Row.{Row}
use Rattle.fact_rows.specs.declared.row.Row.TheVariants.{Points, Cell, Effect}
use Rattle.flow_rules.specs.Nodes.{at_pc, Acts}
use Rattle.flow_rules.specs.Sites.{class_made, site_class, SiteClass}
use Rattle.flow_rules.specs.LocalRules.{move_points, move_taint, result_points, result_taint, exception_points, exception_taint, join_taint, new_points, new_taint, fill_points, fill_cell, fill_taint, get_points, get_taint, put_cell, put_effect, get_static_points, get_static_taint, get_static_source, put_static_points, put_static_taint}
use Rattle.flow_rules.specs.Rules.{Closed}
use Rattle.flow_proof.proofs.HeapLaws.{EntryAt-put, ClassAt-put, IsPut, length-put_at}
use Rattle.flow_proof.proofs.Fitting.{Fits, HeapFits, Covered, Changed, PutFits, fits_map, blank_fits, placeless_fits, labelled_fits}
use Rattle.flow_proof.proofs.Growing.{NewFits, new_fits, walk_before}
use Rattle.flow_proof.proofs.Sounding.{put_static_below}
use Rattle.flow_proof.proofs.Knowing.{node_of, Taints, SharedOnly, StaticFits, Running, Runs, Known, written}
use Rattle.flow_proof.proofs.Lasting.{loc, lift_at, running_after, pending_of, running_grown, goes_plain, goes_writing, goes_writing_all}

-- the site of what a step makes has the class of it
pub class_at : {app : App} {lists : Lists} {n : Node} {act : Act} {class : Name} → Acts app n act → class_made act ≡ Some class →
    SiteClass app lists (At n) class
unfolding site_class
class_at {app} {lists} {n} {act} {class} acts made = record { is_class = by_step (step_at app n.by.method n.pc) acts.step acts.there acts.same }
  where
    by_step : (o : Option Step) (step : Step) → o ≡ Some step → step.act ≡ act →
        (elim o [ None ↦ None | Some step ↦ class_made step.act ]) ≡ Some class
    by_step o step got same = rw got (rw same made)

module _ (app : App) (lists : Lists) (has : Row → Type 0) where
  -- a write to a static
  pub running_writing : {w : World} {site : ℕ → Site} {c : Ctx} {f : Frame} {fs : List Frame} {taints : ℕ → Path → ℕ → Type 0} (g : ℕ) (v : Value) →
      Running app lists has w site c f fs taints → StaticFits app has w.heap site g v →
      Running app lists has (record w { statics = write w.statics g v }) site c f fs taints
  running_writing {w} {site} g v known new = record {
    reached = known.reached;
    world = record {
      heap = known.world.heap;
      statics = written (StaticFits app has w.heap site) w.statics g v new (λ j _. known.world.statics j);
      arrivals = known.world.arrivals;
      live = known.world.live;
      absent = known.world.absent;
      components = known.world.components;
      handed = known.world.handed;
    };
    registers = known.registers;
    event = known.event;
    waits = known.waits;
  }

  -- What a get gives is known where the rows of the register give rows of the destination.
  pub gets_fit : PathLaws →
      {heap : List Object} {site : ℕ → Site} {k : KeyId} {v w : Value} {P P' : Site → Type 0} {T T' : Path → ℕ → Type 0} →
      HeapFits app lists has heap site → ((s t : Site) → P s → has (Cell s k t) → P' t) →
      ((p q : Path) (l : ℕ) → T p l → rest p k ≡ Some q → T' q l) → Fits heap site v P T → Gets heap v k w → Fits heap site w P' T'
  gets_fit laws heap_fits points_rule taint_rule fits (no_element _) = blank_fits _ _ _ _
  gets_fit laws heap_fits points_rule taint_rule fits (no_entry _) = blank_fits _ _ _ _
  gets_fit laws {heap} {site} {k} {v} {w} {P} {P'} {T} {T'} heap_fits points_rule taint_rule fits (entry_of {p = p} there found) = record {
    within = λ t e. heap_fits.within p k w t found e;
    pointed = λ t e. points_rule _ _ (fits.pointed p there) (heap_fits.cell p k w t found e);
    tainted = λ ks label h. rest_of ks label (fits.tainted (k ∷ ks) label (p, there, (w, found, h)));
  }
    where
      rest_of : (ks : List KeyId) (label : ℕ) → Covered T (k ∷ ks) label → Covered T' ks label
      rest_of ks label t =
          let r = laws.rest k t.path ks t.covers in
          record { path = r.0; covers = r.2; row = taint_rule _ _ label t.row r.1 }

module _ (app : App) (lists : Lists) (has : Row → Type 0) (closed : Closed app lists has) (laws : PathLaws) (sound : SoundApp app) where
  known_move : {w : World} {site : ℕ → Site} {c : Ctx} {f : Frame} {fs : List Frame} {pc x : ℕ} {ds : List ℕ} →
      Runs app lists has w site c f fs → ActAt app f.method f.pc (Move ds x) → Goes app f.method f.pc pc →
      Known app lists has w (record f { pc = pc; registers = write_all f.registers ds (f.registers x) } ∷ fs)
  known_move {c = c} {f = f} {x = x} {ds = ds} known act next =
      goes_writing_all app lists has closed laws (pending_of app lists has closed laws known) act next ds (f.registers x) (λ _ other. other)
      (λ d is_one. fits_map (λ _ h. loc app lists has closed laws (move_points {n = node_of c f} d act is_one next) (h, tt)) (λ _ _ h. loc app lists has closed laws (move_taint {n = node_of c f} d act is_one next) (h, tt)) (known.registers x))

  known_take_result : {w : World} {site : ℕ → Site} {c : Ctx} {f : Frame} {fs : List Frame} {pc : ℕ} {ds : List ℕ} →
      Runs app lists has w site c f fs → ActAt app f.method f.pc (TakeResult ds) → Goes app f.method f.pc pc →
      Known app lists has w (record f { pc = pc; registers = write_all f.registers ds (f.registers result_register) } ∷ fs)
  known_take_result {c = c} {f = f} {ds = ds} known act next =
      goes_writing_all app lists has closed laws (pending_of app lists has closed laws known) act next ds (f.registers result_register) (λ _ other. other)
      (λ d is_one. fits_map (λ _ h. loc app lists has closed laws (result_points {n = node_of c f} d act is_one next) (h, tt)) (λ _ _ h. loc app lists has closed laws (result_taint {n = node_of c f} d act is_one next) (h, tt)) (known.registers result_register))

  known_take_exception : {w : World} {site : ℕ → Site} {c : Ctx} {f : Frame} {fs : List Frame} {pc d : ℕ} → Runs app lists has w site c f fs →
      ActAt app f.method f.pc (TakeException d) → Goes app f.method f.pc pc →
      Known app lists has w (record f { pc = pc; registers = write f.registers d (f.registers exception_register) } ∷ fs)
  known_take_exception {c = c} {f = f} {d = d} known act next =
      goes_writing app lists has closed laws (pending_of app lists has closed laws known) act next d (f.registers exception_register) (λ _ other. other)
      (fits_map (λ _ h. loc app lists has closed laws (exception_points {n = node_of c f} act next) (h, tt)) (λ _ _ h. loc app lists has closed laws (exception_taint {n = node_of c f} act next) (h, tt)) (known.registers exception_register))

  known_get_static : {w : World} {site : ℕ → Site} {c : Ctx} {f : Frame} {fs : List Frame} {pc g : ℕ} {ds : List ℕ} →
      Runs app lists has w site c f fs → ActAt app f.method f.pc (GetStatic ds g) → Goes app f.method f.pc pc →
      Known app lists has w (record f { pc = pc; registers = write_all f.registers ds (record { place = (w.statics g).place; labels = option_to_list (static_source app lists g) ++ (w.statics g).labels }) } ∷ fs)
  known_get_static {w} {site} {c} {f} {fs} {pc} {g} {ds} known act next =
      goes_writing_all app lists has closed laws (pending_of app lists has closed laws known) act next ds (record { place = (w.statics g).place; labels = option_to_list (static_source app lists g) ++ (w.statics g).labels }) (λ _ other. other)
      (λ d is_one. labelled_fits {v = w.statics g} (option_to_list (static_source app lists g)) (λ l h. source d is_one (static_source app lists g) refl l h)
      (fits_map (λ _ h. loc app lists has closed laws (get_static_points {n = node_of c f} d act is_one next) (known.reached, (h.0, tt))) (λ _ _ h. loc app lists has closed laws (get_static_taint {n = node_of c f} d act is_one next) (known.reached, (h, tt))) (known.world.statics g)))
    where
      source : (d : ℕ) → In d ds → (o : Option ℕ) → static_source app lists g ≡ o → (l : ℕ) → In l (option_to_list o) → Covered (Taints has (at_pc (node_of c f) pc) d) [] l
      source d is_one None is l h = absurd h
      source d is_one (Some k) is l (inr none) = absurd none
      source d is_one (Some k) is l (inl same) =
          record { path = empty_path; covers = laws.empty; row = loc app lists has closed laws (get_static_source {n = node_of c f} d act is_one (is ∙ ap (λ x. Some x) (sym same)) next) (known.reached, tt) }

  known_join : {w : World} {site : ℕ → Site} {c : Ctx} {f : Frame} {fs : List Frame} {pc : ℕ} {ds xs : List ℕ} (labels : List ℕ) →
      Runs app lists has w site c f fs → ActAt app f.method f.pc (Join ds xs) → Goes app f.method f.pc pc → AreOwnLabels f xs labels →
      Known app lists has w (record f { pc = pc; registers = write_all f.registers ds (labelled labels) } ∷ fs)
  known_join {w} {site} {c} {f} {fs} {pc} {ds} {xs} labels known act next which =
      goes_writing_all app lists has closed laws (pending_of app lists has closed laws known) act next ds (labelled labels) (λ _ other. other)
      (λ d is_one. placeless_fits _ _ labels _ _ (λ l h. own d is_one l ((which l).0 h)))
    where
      own : (d : ℕ) → In d ds → (l : ℕ) → (x : ℕ) × In x xs × In l (f.registers x).labels → Covered (Taints has (at_pc (node_of c f) pc) d) [] l
      own d is_one l (x, is_source, label) =
          let t = (known.registers x).tainted [] l label in
          record { path = empty_path; covers = laws.empty; row = loc app lists has closed laws (join_taint {n = node_of c f} d x act is_one is_source (laws.without_keys t.path t.covers) next) (t.row, tt) }

  -- a static of the app is no shared object's
  not_shared : {g : ℕ} {s : Site} → g < length app.statics → SharedOnly app g s
  not_shared below = λ i same. absurd (omega arith)

  known_put_static : {w : World} {site : ℕ → Site} {c : Ctx} {f : Frame} {fs : List Frame} {pc g x : ℕ} → Runs app lists has w site c f fs →
      ActAt app f.method f.pc (PutStatic g x) → Goes app f.method f.pc pc →
      Known app lists has (record w { statics = write w.statics g (f.registers x) }) (record f { pc = pc } ∷ fs)
  known_put_static {c = c} {f = f} {g = g} {x = x} known act next = goes_plain app lists has closed laws
      (running_writing app lists has g (f.registers x) (pending_of app lists has closed laws known)
      (fits_map (λ s h. (loc app lists has closed laws (put_static_points {n = node_of c f} act) (h, tt), not_shared (put_static_below sound act))) (λ _ _ h. loc app lists has closed laws (put_static_taint {n = node_of c f} act) (h, tt)) (known.registers x)))
      act next (λ _. refl)

  known_get : {w : World} {site : ℕ → Site} {c : Ctx} {f : Frame} {fs : List Frame} {pc o : ℕ} {ds : List ℕ} {k : KeyId} {v : Value} →
      Runs app lists has w site c f fs → ActAt app f.method f.pc (Get ds o k) → Goes app f.method f.pc pc → Gets w.heap (f.registers o) k v →
      Known app lists has w (record f { pc = pc; registers = write_all f.registers ds v } ∷ fs)
  known_get {c = c} {f = f} {o = o} {ds = ds} {v = v} known act next given =
      goes_writing_all app lists has closed laws (pending_of app lists has closed laws known) act next ds v (λ _ other. other)
      (λ d is_one. gets_fit app lists has laws known.world.heap
      (λ s t points cell. loc app lists has closed laws (get_points {n = node_of c f} d act is_one next) (points, (cell, tt)))
      (λ p q l taint cut_off. loc app lists has closed laws (get_taint {n = node_of c f} d act is_one cut_off next) (taint, tt))
      (known.registers o) given)

  put_changed : {w : World} {site : ℕ → Site} {c : Ctx} {f : Frame} {fs : List Frame} {o x p : ℕ} {k : KeyId} →
      Runs app lists has w site c f fs → ActAt app f.method f.pc (Put o k x) → (f.registers o).place ≡ Some p →
      Changed has (λ s q l. has (Effect (node_of c f) s q l)) site w.heap (put_at w.heap p k (f.registers x))
  put_changed {w} {site} {c} {f} {fs} {o} {x} {p} {k} known act there = record {
    same_length = length-put_at w.heap p k (f.registers x);
    same_class = λ q d h. ClassAt-put w.heap p k (f.registers x) q d h;
    entries = λ q j v h. elim (EntryAt-put w.heap p k (f.registers x) q j v h) [ inl put ↦ inr (new q j v put) | inr old ↦ inl old ];
    lift = lift_at app lists has closed laws (node_of c f);
  }
    where
      points : has (Points (node_of c f) o (site p))
      points = (known.registers o).pointed p there

      put_fits : PutFits has (λ s q l. has (Effect (node_of c f) s q l)) w.heap site p k (f.registers x)
      put_fits = record {
        within = (known.registers x).within;
        cell = λ t e. loc app lists has closed laws (put_cell {n = node_of c f} act) (points, ((known.registers x).pointed t e, tt));
        covered = λ ks l walk. let t = (known.registers x).tainted ks l walk in
            record { path = cut k t.path; covers = laws.cut k t.path ks t.covers; row = loc app lists has closed laws (put_effect {n = node_of c f} act) (points, (t.row, tt)) };
      }

      new : (q : ℕ) (j : KeyId) (v : Value) → IsPut p k (f.registers x) q j v →
          PutFits has (λ s q l. has (Effect (node_of c f) s q l)) w.heap site q j v
      new q j v put = rw (put.place, put.key, put.value) put_fits

  known_put : {w : World} {site : ℕ → Site} {c : Ctx} {f : Frame} {fs : List Frame} {pc o x : ℕ} {k : KeyId} →
      Runs app lists has w site c f fs → ActAt app f.method f.pc (Put o k x) → Goes app f.method f.pc pc →
      Known app lists has (record w { heap = put_to w.heap (f.registers o).place k (f.registers x) }) (record f { pc = pc } ∷ fs)
  known_put {w} {site} {c} {f} {fs} {pc} {o} {x} {k} known act next = go (f.registers o).place refl
    where
      go : (place : Option ℕ) → (f.registers o).place ≡ place →
          Known app lists has (record w { heap = put_to w.heap place k (f.registers x) }) (record f { pc = pc } ∷ fs)
      go None e = goes_plain app lists has closed laws (pending_of app lists has closed laws known) act next (λ _. refl)
      go (Some p) e =
          goes_plain app lists has closed laws (running_after app lists has closed laws known (put_changed known act e)) act next (λ _. refl)

  known_new : {w : World} {site : ℕ → Site} {c : Ctx} {f : Frame} {fs : List Frame} {pc d : ℕ} {class : Name} {size : Option ℕ} (labels : List ℕ) →
      Runs app lists has w site c f fs → ActAt app f.method f.pc (New d class size) → Goes app f.method f.pc pc → AreOwnLabels f (option_to_list size) labels →
      Known app lists has (record w { heap = w.heap ++ new_object class ∷ [] }) (record f { pc = pc; registers = write f.registers d (record { place = Some (length w.heap); labels = labels }) } ∷ fs)
  known_new {w} {site} {c} {f} {fs} {pc} {d} {class} {size} labels known act next which =
      goes_writing app lists has closed laws (pending_of app lists has closed laws (running_grown app lists has closed laws known no_entries)) act next d (record { place = Some (length w.heap); labels = labels }) (λ _ other. other)
      (new_fits w.heap site (At (node_of c f)) (new_object class) labels _ (Taints has (at_pc (node_of c f) pc) d) (loc app lists has closed laws (new_points {n = node_of c f} act next) (known.reached, tt)) (λ l h. own size act l ((which l).0 h)) (λ k v h. absurd h))
    where
      no_entries : NewFits app lists has w.heap site (At (node_of c f)) (new_object class)
      no_entries = record { within = λ _ _ _ h _. absurd h; cell = λ _ _ _ h _. absurd h; class = class_at act refl }

      own : (size : Option ℕ) → ActAt app f.method f.pc (New d class size) → (l : ℕ) → (x : ℕ) × In x (option_to_list size) × In l (f.registers x).labels → Covered (Taints has (at_pc (node_of c f) pc) d) [] l
      own None act l (x, is_size, label) = absurd is_size
      own (Some y) act l (x, inr none, label) = absurd none
      own (Some y) act l (x, inl same, label) =
          let t = (known.registers y).tainted [] l (subst (λ z. In l (f.registers z).labels) same label) in
          record { path = empty_path; covers = laws.empty; row = loc app lists has closed laws (new_taint {n = node_of c f} act (laws.without_keys t.path t.covers) next) (t.row, tt) }

  known_fill : {w : World} {site : ℕ → Site} {c : Ctx} {f : Frame} {fs : List Frame} {pc : ℕ} {class : Name} {xs : List ℕ} (entries : List (KeyId × Value)) →
      Runs app lists has w site c f fs → ActAt app f.method f.pc (Fill xs class) → Goes app f.method f.pc pc → AreElements f xs entries →
      Known app lists has (record w { heap = w.heap ++ record { class = class; entries = entries } ∷ [] }) (record f { pc = pc; registers = write f.registers result_register (object_at (Some (length w.heap))) } ∷ fs)
  known_fill {w} {site} {c} {f} {fs} {pc} {class} {xs} entries known act next which =
      goes_writing app lists has closed laws (pending_of app lists has closed laws (running_grown app lists has closed laws known entries_fit)) act next result_register (object_at (Some (length w.heap))) (λ _ other. other)
      (new_fits w.heap site (At (node_of c f)) made [] _ (Taints has (at_pc (node_of c f) pc) result_register) (loc app lists has closed laws (fill_points {n = node_of c f} act next) (known.reached, tt)) (λ l h. absurd h) (λ k v h. walks k v ((which (k, v)).0 h)))
    where
      made : Object
      made = record { class = class; entries = entries }

      value_is : (k : KeyId) (v : Value) (x : ℕ) → ◌≡◌ {A = KeyId × Value} (k, v) (elem_key, f.registers x) → v ≡ f.registers x
      value_is k v x e = ap (λ (y : KeyId × Value). y.1) e

      within : (k : KeyId) (v : Value) (t : ℕ) → (x : ℕ) × In x xs × ◌≡◌ {A = KeyId × Value} (k, v) (elem_key, f.registers x) →
          v.place ≡ Some t → t < length w.heap
      within k v t (x, is_source, e) there = (known.registers x).within t (ap (λ (y : Value). y.place) (sym (value_is k v x e)) ∙ there)

      cell : (k : KeyId) (v : Value) (t : ℕ) → (x : ℕ) × In x xs × ◌≡◌ {A = KeyId × Value} (k, v) (elem_key, f.registers x) →
          v.place ≡ Some t → has (Cell (At (node_of c f)) k (site t))
      cell k v t (x, is_source, e) there =
          rw (ap (λ (y : KeyId × Value). y.0) e) (loc app lists has closed laws (fill_cell {n = node_of c f} x act is_source) ((known.registers x).pointed t (ap (λ (y : Value). y.place) (sym (value_is k v x e)) ∙ there), tt))

      entries_fit : NewFits app lists has w.heap site (At (node_of c f)) (record { class = class; entries = entries })
      entries_fit =
          record { within = λ k v t h there. within k v t ((which (k, v)).0 h) there; cell = λ k v t h there. cell k v t ((which (k, v)).0 h) there; class = class_at act refl }

      walks : (k : KeyId) (v : Value) → (x : ℕ) × In x xs × ◌≡◌ {A = KeyId × Value} (k, v) (elem_key, f.registers x) →
          (ks : List KeyId) (l : ℕ) → Reaches (w.heap ++ made ∷ []) v ks l →
          Covered (Taints has (at_pc (node_of c f) pc) result_register) (k ∷ ks) l
      walks k v (x, is_source, e) ks l walk =
          let old =
          walk_before app lists has site w.heap made known.world.heap ks (f.registers x) l (known.registers x).within (subst (λ y. Reaches (w.heap ++ made ∷ []) y ks l) (value_is k v x e) walk) in
          let t = (known.registers x).tainted ks l old in
          rw (ap (λ (y : KeyId × Value). y.0) e) (filled ks l t)
        where
          filled : (ks : List KeyId) (l : ℕ) → Covered (Taints has (node_of c f) x) ks l →
              Covered (Taints has (at_pc (node_of c f) pc) result_register) (elem_key ∷ ks) l
          filled ks l t =
              record { path = cut elem_key t.path; covers = laws.cut elem_key t.path ks t.covers; row = loc app lists has closed laws (fill_taint {n = node_of c f} x act is_source next) (t.row, tt) }

  pub known_local : {w : World} {f : Frame} {new : World} {g : Frame} {site : ℕ → Site} {c : Ctx} {fs : List Frame} →
      Runs app lists has w site c f fs → Local app lists w f new g → Known app lists has new (g ∷ fs)
  known_local known (skips act next) = goes_plain app lists has closed laws (pending_of app lists has closed laws known) act next (λ _. refl)
  known_local known (goes act next) = goes_plain app lists has closed laws (pending_of app lists has closed laws known) act next (λ _. refl)
  known_local known (blanks {ds = ds} act next) =
      goes_writing_all app lists has closed laws (pending_of app lists has closed laws known) act next ds blank (λ _ other. other) (λ _ _. blank_fits _ _ _ _)
  known_local known (moves act next) = known_move known act next
  known_local known (takes_result act next) = known_take_result known act next
  known_local known (takes_exception act next) = known_take_exception known act next
  known_local known (joins labels act next which) = known_join labels known act next which
  known_local known (makes labels act next which) = known_new labels known act next which
  known_local known (fills entries act next which) = known_fill entries known act next which
  known_local known (gets act next given) = known_get known act next given
  known_local known (puts act next) = known_put known act next
  known_local known (gets_static act next) = known_get_static known act next
  known_local known (puts_static act next) = known_put_static known act next
