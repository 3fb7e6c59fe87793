-- Each step of the running frame within its method keeps what is known.
use Rattle.std.proofs.Common.{◌≡◌, ℕ, ◌<◌, List, [], ◌∷◌, ◌++◌, length, inl, inr, Option, Some, None, refl, ap, sym, ◌∙◌, subst, arith}
use Rattle.std.specs.Prelude.{option_to_list}
use Rattle.vet_base.specs.declared.key_id.KeyId.{KeyId}
use Rattle.app_machine.specs.declared.method.Act.TheVariants.{Join, Move, New, Fill, Get, Put, GetStatic, PutStatic, TakeResult, TakeException}
use Rattle.app_machine.specs.declared.app.App.{App}
use Rattle.app_machine.specs.declared.lists.Lists.{Lists}
use Rattle.vet_base.specs.Members.{In}
use Rattle.app_machine.specs.Names.{Name}
use Rattle.app_machine.specs.Lookups.{elem_key, ActAt, Goes}
use Rattle.app_machine.specs.Summaries.{static_source}
use Rattle.app_machine.specs.Heap.{Value, blank, labelled, put_at, put_to, Gets}
use Rattle.app_machine.specs.State.{result_register, exception_register, write, write_all, World, Frame, object_at, new_object}
use Rattle.app_machine.specs.Local.{AreOwnLabels, AreElements, Local, skips, goes, blanks, moves, takes_result, takes_exception, joins, makes, fills, gets, puts, gets_static, puts_static}
use Rattle.app_machine.specs.Sound.{SoundApp}
use Rattle.fact_rows.specs.declared.context.Ctx.{Ctx}
use Rattle.fact_rows.specs.declared.site.Site.{Site}
use Rattle.fact_rows.specs.declared.row.Row.{Row}
use Rattle.fact_rows.specs.declared.row.Row.TheVariants.{Points, Label}
use Rattle.cell_rules.specs.Making.{made_at}
use Rattle.cell_rules.specs.Reading.{ReadAt}
use Rattle.flow_rules.specs.Nodes.{at_pc}
use Rattle.flow_rules.specs.LocalRules.{put_cell, put_static_points}
use Rattle.cell_rules.specs.LocalRules.{move_points, move_label, result_points, result_label, exception_points, exception_label, join_label, new_points, new_label, fill_points, fill_cell, fill_label, get_points, get_label, put_label, get_static_points, get_static_label, get_static_source, put_static_label}
use Rattle.cell_rules.specs.Rules.{Closed}
use Rattle.flow_proof.proofs.HeapLaws.{EntryAt-put, ClassAt-put, IsPut, length-put_at}
use Rattle.flow_proof.proofs.Sounding.{put_static_below}
use Rattle.flow_proof.proofs.Knowing.{node_of}
use Rattle.cell_proof.proofs.Fitting.{CellFits, Changed, NewFits, fits_map, new_fits, blank_fits, placeless_fits, labelled_fits, gets_fit}
use Rattle.cell_proof.proofs.Knowing.{NotShared, Runs, Known, fits_here}
use Rattle.cell_proof.proofs.Making.{made_class}
use Rattle.cell_proof.proofs.Lasting.{kept_local, loc, running_changed, running_grown, running_writing, goes_plain, goes_writing, goes_writing_all}

module _ (app : App) (lists : Lists) (has : Row → Type 0) (closed : Closed app lists has) (sound : SoundApp app) where
  known_move : {w : World} {site : ℕ → Site} {c : Ctx} {f : Frame} {fs : List Frame} {pc x : ℕ} {ds : List ℕ} → Runs app lists has w site c f fs →
      ActAt app f.method f.pc (Move ds x) → Goes app f.method f.pc pc →
      Known app lists has w (record f { pc = pc; registers = write_all f.registers ds (f.registers x) } ∷ fs)
  known_move {c = c} {f = f} {x = x} {ds = ds} known act next =
      goes_writing_all app lists has closed known act next ds (f.registers x) (λ _ other. other)
      (λ d is_one. fits_map (λ _ h u read. loc app lists has closed (move_points {n = node_of c f} d act is_one next read) (h, tt)) (λ _ h u read. loc app lists has closed (move_label {n = node_of c f} d act is_one next read) (h, tt)) (fits_here app has {n = node_of c f} act (inl refl) (known.registers x)))

  known_take_result : {w : World} {site : ℕ → Site} {c : Ctx} {f : Frame} {fs : List Frame} {pc : ℕ} {ds : List ℕ} →
      Runs app lists has w site c f fs → ActAt app f.method f.pc (TakeResult ds) → Goes app f.method f.pc pc →
      Known app lists has w (record f { pc = pc; registers = write_all f.registers ds (f.registers result_register) } ∷ fs)
  known_take_result {c = c} {f = f} {ds = ds} known act next =
      goes_writing_all app lists has closed known act next ds (f.registers result_register) (λ _ other. other)
      (λ d is_one. fits_map (λ _ h u read. loc app lists has closed (result_points {n = node_of c f} d act is_one next read) (h, tt)) (λ _ h u read. loc app lists has closed (result_label {n = node_of c f} d act is_one next read) (h, tt)) (fits_here app has {n = node_of c f} act (inl refl) (known.registers result_register)))

  known_take_exception : {w : World} {site : ℕ → Site} {c : Ctx} {f : Frame} {fs : List Frame} {pc d : ℕ} → Runs app lists has w site c f fs →
      ActAt app f.method f.pc (TakeException d) → Goes app f.method f.pc pc →
      Known app lists has w (record f { pc = pc; registers = write f.registers d (f.registers exception_register) } ∷ fs)
  known_take_exception {c = c} {f = f} {d = d} known act next =
      goes_writing app lists has closed known act next d (f.registers exception_register) (λ _ other. other)
      (fits_map (λ _ h u read. loc app lists has closed (exception_points {n = node_of c f} act next read) (h, tt)) (λ _ h u read. loc app lists has closed (exception_label {n = node_of c f} act next read) (h, tt)) (fits_here app has {n = node_of c f} act (inl refl) (known.registers exception_register)))

  known_get_static : {w : World} {site : ℕ → Site} {c : Ctx} {f : Frame} {fs : List Frame} {pc g : ℕ} {ds : List ℕ} →
      Runs app lists has w site c f fs → ActAt app f.method f.pc (GetStatic ds g) → Goes app f.method f.pc pc →
      Known app lists has w (record f { pc = pc; registers = write_all f.registers ds (record { place = (w.statics g).place; labels = option_to_list (static_source app lists g) ++ (w.statics g).labels }) } ∷ fs)
  known_get_static {w} {site} {c} {f} {fs} {pc} {g} {ds} known act next =
      goes_writing_all app lists has closed known act next ds (record { place = (w.statics g).place; labels = option_to_list (static_source app lists g) ++ (w.statics g).labels }) (λ _ other. other)
      (λ d is_one. labelled_fits {v = w.statics g} (option_to_list (static_source app lists g)) (λ l h u read. source d is_one u read (static_source app lists g) refl l h)
      (fits_map (λ _ h u read. loc app lists has closed (get_static_points {n = node_of c f} d act is_one next read) (known.reached, (h.0, tt))) (λ _ h u read. loc app lists has closed (get_static_label {n = node_of c f} d act is_one next read) (known.reached, (h.0, tt))) (known.world.statics g)))
    where
      source : (d : ℕ) → In d ds → (u : ℕ) → ReadAt app f.method d pc u → (o : Option ℕ) → static_source app lists g ≡ o → (l : ℕ) →
          In l (option_to_list o) → has (Label (at_pc (node_of c f) u) d l)
      source d is_one u read None is l h = absurd h
      source d is_one u read (Some k) is l (inr none) = absurd none
      source d is_one u read (Some k) is l (inl same) =
          loc app lists has closed (get_static_source {n = node_of c f} d act is_one (is ∙ ap (λ x. Some x) (sym same)) next read) (known.reached, tt)

  known_join : {w : World} {site : ℕ → Site} {c : Ctx} {f : Frame} {fs : List Frame} {pc : ℕ} {ds xs : List ℕ} (labels : List ℕ) →
      Runs app lists has w site c f fs → ActAt app f.method f.pc (Join ds xs) → Goes app f.method f.pc pc → AreOwnLabels f xs labels →
      Known app lists has w (record f { pc = pc; registers = write_all f.registers ds (labelled labels) } ∷ fs)
  known_join {w} {site} {c} {f} {fs} {pc} {ds} {xs} labels known act next which =
      goes_writing_all app lists has closed known act next ds (labelled labels) (λ _ other. other)
      (λ d is_one. placeless_fits _ _ labels _ _ (λ l h u read. own d is_one l u read ((which l).0 h)))
    where
      own : (d : ℕ) → In d ds → (l u : ℕ) → ReadAt app f.method d pc u → (x : ℕ) × In x xs × In l (f.registers x).labels →
          has (Label (at_pc (node_of c f) u) d l)
      own d is_one l u read (x, is_source, label) =
          loc app lists has closed (join_label {n = node_of c f} d x act is_one is_source next read) ((fits_here app has {n = node_of c f} act is_source (known.registers x)).labels l label, tt)

  -- a static of the app is no shared object's
  not_shared : {g : ℕ} → g < length app.statics → NotShared app g
  not_shared below = λ i same. omega arith

  known_put_static : {w : World} {site : ℕ → Site} {c : Ctx} {f : Frame} {fs : List Frame} {pc g x : ℕ} → Runs app lists has w site c f fs →
      ActAt app f.method f.pc (PutStatic g x) → Goes app f.method f.pc pc →
      Known app lists has (record w { statics = write w.statics g (f.registers x) }) (record f { pc = pc } ∷ fs)
  known_put_static {c = c} {f = f} {g = g} {x = x} known act next = goes_plain app lists has closed
      (running_writing app lists has closed g (f.registers x) known
      (fits_map (λ s h. (kept_local app lists has closed (put_static_points {n = node_of c f} act) tt refl (h, tt), λ i same. absurd (not_shared (put_static_below sound act) i same))) (λ _ h. (loc app lists has closed (put_static_label {n = node_of c f} act) (h, tt), not_shared (put_static_below sound act))) (fits_here app has {n = node_of c f} act (inl refl) (known.registers x))))
      act next (λ _. refl)

  known_get : {w : World} {site : ℕ → Site} {c : Ctx} {f : Frame} {fs : List Frame} {pc o : ℕ} {ds : List ℕ} {k : KeyId} {v : Value} →
      Runs app lists has w site c f fs → ActAt app f.method f.pc (Get ds o k) → Goes app f.method f.pc pc → Gets w.heap (f.registers o) k v →
      Known app lists has w (record f { pc = pc; registers = write_all f.registers ds v } ∷ fs)
  known_get {c = c} {f = f} {o = o} {ds = ds} {v = v} known act next given =
      goes_writing_all app lists has closed known act next ds v (λ _ other. other)
      (λ d is_one. gets_fit app lists has known.world.heap
      (λ s t points cell u read. loc app lists has closed (get_points {n = node_of c f} d act is_one next read) (points, (cell, tt)))
      (λ s l points own u read. loc app lists has closed (get_label {n = node_of c f} d act is_one next read) (points, (own, tt)))
      (fits_here app has {n = node_of c f} act (inl refl) (known.registers o)) given)

  put_changed : {w : World} {site : ℕ → Site} {c : Ctx} {f : Frame} {fs : List Frame} {o x p : ℕ} {k : KeyId} → Runs app lists has w site c f fs →
      ActAt app f.method f.pc (Put o k x) → (f.registers o).place ≡ Some p → Changed has site w.heap (put_at w.heap p k (f.registers x))
  put_changed {w} {site} {c} {f} {fs} {o} {x} {p} {k} known act there = record {
    same_length = length-put_at w.heap p k (f.registers x);
    same_class = λ q d h. ClassAt-put w.heap p k (f.registers x) q d h;
    entries = λ q j v h. elim (EntryAt-put w.heap p k (f.registers x) q j v h) [ inl put ↦ inr (new q j v put) | inr old ↦ inl old ];
  }
    where
      points : has (Points (node_of c f) o (site p))
      points = (fits_here app has {n = node_of c f} act (inl refl) (known.registers o)).pointed p there

      put_fits : CellFits has (length w.heap) site (site p) k (f.registers x)
      put_fits =
          fits_map (λ t h. kept_local app lists has closed (put_cell {n = node_of c f} act) tt refl (points, (h, tt))) (λ l h. loc app lists has closed (put_label {n = node_of c f} act) (points, (h, tt))) (fits_here app has {n = node_of c f} act (inr (inl refl)) (known.registers x))

      new : (q : ℕ) (j : KeyId) (v : Value) → IsPut p k (f.registers x) q j v → CellFits has (length w.heap) site (site q) j v
      new q j v put = rw (put.place, put.key, put.value) put_fits

  known_put : {w : World} {site : ℕ → Site} {c : Ctx} {f : Frame} {fs : List Frame} {pc o x : ℕ} {k : KeyId} → Runs app lists has w site c f fs →
      ActAt app f.method f.pc (Put o k x) → Goes app f.method f.pc pc →
      Known app lists has (record w { heap = put_to w.heap (f.registers o).place k (f.registers x) }) (record f { pc = pc } ∷ fs)
  known_put {w} {site} {c} {f} {fs} {pc} {o} {x} {k} known act next = go (f.registers o).place refl
    where
      go : (place : Option ℕ) → (f.registers o).place ≡ place →
          Known app lists has (record w { heap = put_to w.heap place k (f.registers x) }) (record f { pc = pc } ∷ fs)
      go None e = goes_plain app lists has closed known act next (λ _. refl)
      go (Some p) e = goes_plain app lists has closed (running_changed app lists has closed known (put_changed known act e)) act next (λ _. refl)

  known_new : {w : World} {site : ℕ → Site} {c : Ctx} {f : Frame} {fs : List Frame} {pc d : ℕ} {class : Name} {size : Option ℕ} (own : List ℕ) →
      Runs app lists has w site c f fs → ActAt app f.method f.pc (New d class size) → Goes app f.method f.pc pc →
      AreOwnLabels f (option_to_list size) own →
      Known app lists has (record w { heap = w.heap ++ new_object class ∷ [] }) (record f { pc = pc; registers = write f.registers d (record { place = Some (length w.heap); labels = own }) } ∷ fs)
  known_new {w} {site} {c} {f} {fs} {pc} {d} {class} {size} own known act next which =
      goes_writing app lists has closed (running_grown app lists has closed known no_entries) act next d (record { place = Some (length w.heap); labels = own }) (λ _ other. other)
      (new_fits w.heap site (made_at app (node_of c f)) (new_object class) own _ _ (λ u read. loc app lists has closed (new_points {n = node_of c f} act next read) (known.reached, tt))
      (λ l h u read. let from = (which l).0 h in of_size l u read size act from.0 from.1 from.2))
    where
      no_entries : NewFits app lists has (length w.heap) site (made_at app (node_of c f)) (new_object class)
      no_entries = record { entries = λ _ _ h. absurd h; class = made_class (node_of c f) act refl }

      of_size : (l u : ℕ) → ReadAt app f.method d pc u → (size : Option ℕ) → ActAt app f.method f.pc (New d class size) → (x : ℕ) →
          In x (option_to_list size) → In l (f.registers x).labels → has (Label (at_pc (node_of c f) u) d l)
      of_size l u read None act x none label = absurd none
      of_size l u read (Some y) act x (inr none) label = absurd none
      of_size l u read (Some y) act x (inl same) label =
          let at_x : ActAt app f.method f.pc (New d class (Some x)) = subst (λ z. ActAt app f.method f.pc (New d class (Some z))) (sym same) act in
          loc app lists has closed (new_label {n = node_of c f} at_x next read) ((fits_here app has {n = node_of c f} at_x (inl refl) (known.registers x)).labels l label, tt)

  known_fill : {w : World} {site : ℕ → Site} {c : Ctx} {f : Frame} {fs : List Frame} {pc : ℕ} {class : Name} {xs : List ℕ} (entries : List (KeyId × Value)) →
      Runs app lists has w site c f fs → ActAt app f.method f.pc (Fill xs class) → Goes app f.method f.pc pc → AreElements f xs entries →
      Known app lists has (record w { heap = w.heap ++ record { class = class; entries = entries } ∷ [] }) (record f { pc = pc; registers = write f.registers result_register (object_at (Some (length w.heap))) } ∷ fs)
  known_fill {w} {site} {c} {f} {fs} {pc} {class} {xs} entries known act next which =
      goes_writing app lists has closed (running_grown app lists has closed known entries_fit) act next result_register (object_at (Some (length w.heap))) (λ _ other. other)
      (new_fits w.heap site (made_at app (node_of c f)) (record { class = class; entries = entries }) [] _ _ (λ u read. loc app lists has closed (fill_points {n = node_of c f} act next read) (known.reached, tt)) (λ l h. absurd h))
    where
      element : (k : KeyId) (v : Value) → (x : ℕ) × In x xs × ◌≡◌ {A = KeyId × Value} (k, v) (elem_key, f.registers x) →
          CellFits has (length w.heap) site (made_at app (node_of c f)) k v
      element k v (x, is_source, e) = rw (ap (λ (y : KeyId × Value). y.0) e, ap (λ (y : KeyId × Value). y.1) e)
          (fits_map (λ t h. loc app lists has closed (fill_cell {n = node_of c f} x act is_source) (h, tt)) (λ l h. loc app lists has closed (fill_label {n = node_of c f} x act is_source) (h, tt)) (fits_here app has {n = node_of c f} act is_source (known.registers x)))

      entries_fit : NewFits app lists has (length w.heap) site (made_at app (node_of c f)) (record { class = class; entries = entries })
      entries_fit = record { entries = λ k v h. element k v ((which (k, v)).0 h); class = made_class (node_of c f) act refl }

  pub known_local : {w : World} {f : Frame} {new : World} {g : Frame} {site : ℕ → Site} {c : Ctx} {fs : List Frame} →
      Runs app lists has w site c f fs → Local app lists w f new g → Known app lists has new (g ∷ fs)
  known_local known (skips act next) = goes_plain app lists has closed known act next (λ _. refl)
  known_local known (goes act next) = goes_plain app lists has closed known act next (λ _. refl)
  known_local known (blanks {ds = ds} act next) =
      goes_writing_all app lists has closed known act next ds blank (λ _ other. other) (λ _ _. blank_fits _ _ _ _)
  known_local known (moves act next) = known_move known act next
  known_local known (takes_result act next) = known_take_result known act next
  known_local known (takes_exception act next) = known_take_exception known act next
  known_local known (joins labels act next which) = known_join labels known act next which
  known_local known (makes own act next which) = known_new own known act next which
  known_local known (fills entries act next which) = known_fill entries known act next which
  known_local known (gets act next given) = known_get known act next given
  known_local known (puts act next) = known_put known act next
  known_local known (gets_static act next) = known_get_static known act next
  known_local known (puts_static act next) = known_put_static known act next
