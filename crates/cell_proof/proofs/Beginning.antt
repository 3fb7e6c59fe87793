-- The body of an event begins with known parameters, and its end hands its result to the library.
use Rattle.std.proofs.Common.{◌≡◌, ℕ, zero, suc, ◌+◌, ◌-◌, ◌<◌, List, [], ◌∷◌, length, Bool, false, inl, inr, Option, Some, None, refl, ap, sym, ◌∙◌, subst, arith}
use Rattle.std.proofs.lemmas.Option.{same_Some}
use Rattle.std.specs.Prelude.{slice_get, map}
use Rattle.vet_base.specs.declared.key_id.KeyId.{KeyId}
use Rattle.app_machine.specs.declared.method.Method.{Method}
use Rattle.app_machine.specs.declared.method.Act.TheVariants.{Return}
use Rattle.app_machine.specs.declared.lists.Lists.{Lists}
use Rattle.app_machine.specs.declared.app.App.{App}
use Rattle.vet_base.specs.Members.{In}
use Rattle.app_machine.specs.Names.{Name}
use Rattle.app_machine.specs.Lookups.{ActAt, HasCode}
use Rattle.app_machine.specs.Heap.{Value, Object}
use Rattle.app_machine.specs.State.{World, Frame, object_at}
use Rattle.app_machine.specs.Calls.{returned, hand}
use Rattle.app_machine.specs.Events.{layout, labels_at, labelled_element, Parameter, is_blank, is_fresh, is_given, Parameters, no_more, one_more, MayInitialise, parameter_type}
use Rattle.app_machine.specs.Run.{frame_of}
use Rattle.fact_rows.specs.declared.context.Ctx.{Ctx}
use Rattle.fact_rows.specs.declared.context.Ctx.TheVariants as ctx
use Rattle.fact_rows.specs.declared.context.Activation.{Activation}
use Rattle.fact_rows.specs.declared.site.Site.{Site}
use Rattle.fact_rows.specs.declared.site.Site.TheVariants.{Param}
use Rattle.fact_rows.specs.Contexts.{IsEvent, event_types}
use Rattle.flow_rules.specs.Nodes.{activation_in, entry, ArgumentRegister, EventRegister}
use Rattle.flow_rules.specs.LocalRules.{return_points}
use Rattle.flow_rules.specs.EventRules.{begin_reached, exit_handed}
use Rattle.fact_rows.specs.declared.row.Row.{Row}
use Rattle.fact_rows.specs.declared.row.Row.TheVariants.{Reached, Points, Label}
use Rattle.cell_rules.specs.Reading.{ReadAt, node_in}
use Rattle.cell_rules.specs.EventRules.{BeginsWith, begin_points, begin_label, begin_element, handed_parameter}
use Rattle.flow_rules.specs.Rules.{Starts}
use Rattle.cell_rules.specs.Rules.{Closed}
use Rattle.flow_proof.proofs.Growing.{with_site}
use Rattle.flow_proof.proofs.Framing.{entered_fits}
use Rattle.flow_proof.proofs.Beginning.{source_of, layout_at, mapped_at, parameter_site, reference_parameter}
use Rattle.flow_proof.proofs.Knowing.{node_of}
use Rattle.cell_proof.proofs.Fitting.{Fits, CellFits, fits_map, blank_fits, placeless_fits, NewFits, new_fits, fits_grown}
use Rattle.cell_proof.proofs.Knowing.{RegisterFits, HandedFits, handed_of, fits_here, WorldFits, Waits, none_waits, Runs, Known, idle, running}
use Rattle.cell_proof.proofs.Lasting.{kept_local, kept_event, evt, world_grown}
use Rattle.cell_proof.proofs.Eventing.{Begun, initialiser_rows}

-- a value with a place and labels of its own
with_labels : {size : ℕ} {site : ℕ → Site} {place : Option ℕ} {P : Site → Type 0} {L L' : ℕ → Type 0} (labels : List ℕ) →
    Fits size site (object_at place) P L' → ((l : ℕ) → In l labels → L l) → Fits size site (record { place = place; labels = labels }) P L
with_labels labels fits own = record { within = fits.within; pointed = fits.pointed; labels = own }

module _ (app : App) (lists : Lists) (has : Row → Type 0) (closed : Closed app lists has) where
  -- the rows behind the entry know the value of a position
  abbrev PositionFits : ℕ → (ℕ → Site) → Ctx → ℕ → ℕ → Value → Type 0
  PositionFits size site k body i v =
      Fits size site v (λ s. (z u : ℕ) → EventRegister app body i z → ReadAt app body z 0 u → has (Points (node_in (activation_in k body) u) z s)) (λ l. (z u : ℕ) → EventRegister app body i z → ReadAt app body z 0 u → has (Label (node_in (activation_in k body) u) z l))

  -- All parameters are known, and what was known of values is known still.
  record ParametersKnown (new : World) (k : Ctx) (body i : ℕ) (types : List Name) (value : ℕ → Value) (site : ℕ → Site) (heap heap' : List Object) : Type 1 where
    sites : ℕ → Site
    world : WorldFits app lists has (record new { heap = heap' }) sites
    stays : (v : Value) (P : Site → Type 0) (L : ℕ → Type 0) → Fits (length heap) site v P L → Fits (length heap') sites v P L
    values : (j : ℕ) (type : Name) → slice_get types j ≡ Some type → PositionFits (length heap') sites k body (i + j) (value (i + j))

  module _ (new : World) (k : Ctx) (body : ℕ) (m : Method) (code : HasCode app body m) (sources : List (ℕ × ℕ)) (is_event : IsEvent k) (reached : has (Reached (entry (activation_in k body)))) (rows : (row : Row) → BeginsWith app k body sources row → has row) (types : event_types app lists k ≡ m.at.proto.params) where
    own_label : (i l : ℕ) → In l (labels_at sources i) → (z u : ℕ) → EventRegister app body i z → ReadAt app body z 0 u →
        has (Label (node_in (activation_in k body) u) z l)
    own_label i l h z u at read = rows _ (begin_label at (source_of sources i l h) read)

    -- one parameter
    record ParameterKnown (i : ℕ) (value : Value) (site : ℕ → Site) (heap heap' : List Object) : Type 1 where
      sites : ℕ → Site
      world : WorldFits app lists has (record new { heap = heap' }) sites
      stays : (v : Value) (P : Site → Type 0) (L : ℕ → Type 0) → Fits (length heap) site v P L → Fits (length heap') sites v P L
      fits : PositionFits (length heap') sites k body i value

    parameter_known : {i : ℕ} {type : Name} {heap heap' : List Object} {value : Value} {site : ℕ → Site} →
        parameter_type m.at.proto.params i ≡ Some type → WorldFits app lists has (record new { heap = heap }) site →
        Parameter app lists new.handed (labels_at sources i) type heap value heap' → ParameterKnown i value site heap heap'
    parameter_known {i} {type} {heap} {heap'} {value} {site} is_type fits is_blank = record {
      sites = site;
      world = fits;
      stays = λ v P L old. old;
      fits = placeless_fits (length heap) site (labels_at sources i) _ _ (λ l h. own_label i l h);
    }
    parameter_known {i} {type} {heap} {heap'} {value} {site} is_type fits (is_fresh reference) = record {
      sites = with_site site (length heap) (Param k i);
      world = world_grown app lists has closed fits new_one;
      stays = λ v P L old. fits_grown heap made (Param k i) old;
      fits = new_fits heap site (Param k i) made (labels_at sources i) _ _
          (λ z u at read. rows _ (begin_points at (reference_parameter code i type is_type reference) read))
          (λ l h. own_label i l h);
    }
      where
        made : Object
        made = record { class = type; entries = labelled_element (labels_at sources i) }

        element : (labels : List ℕ) → ((l : ℕ) → In l labels → In {A = ℕ × ℕ} (i, l) sources) → (key : KeyId) (v : Value) →
            In {A = KeyId × Value} (key, v) (labelled_element labels) → CellFits has (length heap) site (Param k i) key v
        element [] listed key v h = absurd h
        element (x ∷ xs) listed key v (inr none) = absurd none
        element (x ∷ xs) listed key v (inl same) = rw (ap (λ (y : KeyId × Value). y.0) same, ap (λ (y : KeyId × Value). y.1) same)
            (placeless_fits _ _ (x ∷ xs) _ _ (λ l h. rows _ (begin_element code (reference_parameter code i type is_type reference) (listed l h))))

        new_one : NewFits app lists has (length heap) site (Param k i) (record { class = type; entries = labelled_element (labels_at sources i) })
        new_one =
            record { entries = λ key v h. element (labels_at sources i) (λ l h. source_of sources i l h) key v h; class = parameter_site app lists k m types i type is_type reference }
    parameter_known {i} {type} {heap} {heap'} {value} {site} is_type fits (is_given {p = p} {class = class} reference is_one of_class below) = record {
      sites = site;
      world = fits;
      stays = λ v P L old. old;
      fits = record {
        within = (fits.handed p is_one).within;
        pointed = λ j e z u at read. subst (λ x. has (Points (node_in (activation_in k body) u) z (site x))) (same_Some _ _ e)
            (evt app lists has closed (handed_parameter {b = activation_in k body} is_event at (reference_parameter code i type is_type reference) (fits.heap.class p class of_class) below read) (reached, ((fits.handed p is_one).pointed p refl, tt)));
        labels = λ l h. own_label i l h;
      };
    }

    parameters_known : {value : ℕ → Value} {i : ℕ} {ts : List Name} {heap heap' : List Object} (site : ℕ → Site) →
        ((j : ℕ) (type : Name) → slice_get ts j ≡ Some type → parameter_type m.at.proto.params (i + j) ≡ Some type) →
        WorldFits app lists has (record new { heap = heap }) site → Parameters app lists new.handed sources value i ts heap heap' →
        ParametersKnown new k body i ts value site heap heap'
    parameters_known site typed fits no_more =
        record { sites = site; world = fits; stays = λ v P L old. old; values = λ j type e. absurd (let none : ⊥ = cc in none) }
    parameters_known {value} {i} {ts} {heap} {heap'} site typed fits (one_more {type = type} {types = types} {heap1 = heap1} first more) =
        let here = parameter_known (at_zero type refl) fits first in
        let others = parameters_known here.sites at_next here.world more in
        record {
          sites = others.sites;
          world = others.world;
          stays = λ v P L old. others.stays v P L (here.stays v P L old);
          values = values others.sites others.values (others.stays _ _ _ here.fits);
        }
      where
        at_zero : (t : Name) → ◌≡◌ {A = Option Name} (Some type) (Some t) → parameter_type m.at.proto.params i ≡ Some t
        at_zero t e = let same : i + 0 ≡ i = omega arith in subst (λ x. parameter_type m.at.proto.params x ≡ Some t) same (typed 0 t e)

        at_next : (j : ℕ) (t : Name) → slice_get types j ≡ Some t → parameter_type m.at.proto.params ((i + 1) + j) ≡ Some t
        at_next j t e =
            let same : i + suc j ≡ (i + 1) + j = omega arith in
            subst (λ x. parameter_type m.at.proto.params x ≡ Some t) same (typed (suc j) t e)

        values : (sites : ℕ → Site) →
            ((j : ℕ) (t : Name) → slice_get types j ≡ Some t → PositionFits (length heap') sites k body ((i + 1) + j) (value ((i + 1) + j))) →
            PositionFits (length heap') sites k body i (value i) → (j : ℕ) (t : Name) → slice_get (type ∷ types) j ≡ Some t →
            PositionFits (length heap') sites k body (i + j) (value (i + j))
        values sites later first zero t e =
            let same : i ≡ i + 0 = omega arith in
            subst (λ x. PositionFits (length heap') sites k body x (value x)) same first
        values sites later first (suc j) t e =
            let same : (i + 1) + j ≡ i + suc j = omega arith in
            subst (λ x. PositionFits (length heap') sites k body x (value x)) same (later j t e)

  -- A body begins with its receiver and parameters.
  pub known_begin : {new : World} {site : ℕ → Site} {place : Option ℕ} {sources : List (ℕ × ℕ)} {k : Ctx} {body : ℕ} {m : Method} {value : ℕ → Value} {heap : List Object} →
      WorldFits app lists has new site → Begun app lists has new site place sources k body → HasCode app body m →
      value 0 ≡ record { place = place; labels = labels_at sources 0 } →
      Parameters app lists new.handed sources value 1 m.at.proto.params new.heap heap →
      Known app lists has (record new { heap = heap }) (frame_of body m (map value (layout m.at.proto.params)) false ∷ [])
  known_begin {new} {site} {place} {sources} {k} {body} {m} {value} {heap} fits begun code receiver parameters = running known.sites k (record {
    reached = reached;
    world = known.world;
    registers = entered_fits (RegisterFits app has (entry (activation_in k body)) (length heap) known.sites) m (map value (layout m.at.proto.params)) (λ r. blank_fits _ _ _ _) passed;
    bottom = activation_in k body;
    is_event = begun.is_event;
    waits = none_waits refl;
  })
    where
      reached : has (Reached (entry (activation_in k body)))
      reached = begun.kept_rows _ (begin_reached code) tt

      typed : (j : ℕ) (type : Name) → slice_get m.at.proto.params j ≡ Some type → parameter_type m.at.proto.params (1 + j) ≡ Some type
      typed j type e = let same : suc j ≡ 1 + j = omega arith in subst (λ x. parameter_type m.at.proto.params x ≡ Some type) same e

      known : ParametersKnown new k body 1 m.at.proto.params value site new.heap heap
      known = parameters_known new k body m code sources begun.is_event reached begun.rows (begun.types m code.there) site typed fits parameters

      at_receiver : PositionFits (length heap) known.sites k body 0 (value 0)
      at_receiver = rw receiver (with_labels (labels_at sources 0)
          (fits_map (λ s h z u at read. h z u (of_receiver z at) read) (λ l none. none) (known.stays _ _ _ begun.receiver))
          (λ l h. own_label new k body m code sources begun.is_event reached begun.rows (begun.types m code.there) 0 l h))
        where
          of_receiver : (z : ℕ) → EventRegister app body 0 z → ArgumentRegister app body 0 z
          of_receiver z at = elim (layout_at at.method.at.proto.params at.index 0 at.is_at.there) [
            | inl first ↦ let index = first.1 in let below = at.below in record { method = at.method; has = at.has; below = omega arith; is = at.is ∙ ap (λ x. (at.method.registers - at.method.ins) + x) index }
            | inr later ↦ let same = later.is in absurd (omega arith)
          ]

      at_position : (index position : ℕ) → slice_get (layout m.at.proto.params) index ≡ Some position →
          PositionFits (length heap) known.sites k body position (value position)
      at_position index position e = elim (layout_at m.at.proto.params index position e) [
        | inl first ↦ subst (λ x. PositionFits (length heap) known.sites k body x (value x)) (sym first.0) at_receiver
        | inr later ↦ subst (λ x. PositionFits (length heap) known.sites k body x (value x)) (sym later.is) (known.values later.index later.type later.there)
      ]

      passed : (i z : ℕ) (v : Value) → slice_get (map value (layout m.at.proto.params)) i ≡ Some v → i < m.ins → z ≡ (m.registers - m.ins) + i →
          RegisterFits app has (entry (activation_in k body)) (length heap) known.sites z v
      passed i z v e below is =
          let at = mapped_at value (layout m.at.proto.params) i v e in
          let register : EventRegister app body at.0 z = record { method = m; has = code; index = i; is_at = record { there = at.1 }; below = below; is = is } in
          subst (λ x. RegisterFits app has (entry (activation_in k body)) (length heap) known.sites z x) (sym at.2) (fits_map (λ s h u read. h z u register read) (λ l h u read. h z u register read) (at_position i at.0 at.1))

  -- An initialiser begins without arguments.
  pub known_begin_initialiser : ((row : Row) → Starts app row → has row) → {w : World} {site : ℕ → Site} {body : ℕ} {m : Method} →
      WorldFits app lists has w site → MayInitialise app w body → HasCode app body m → Known app lists has w (frame_of body m [] false ∷ [])
  known_begin_initialiser starts {w} {site} {body} {m} fits may code = running site (ctx.Init may.c) (record {
    reached = initialiser_rows app lists has closed starts fits may _ (begin_reached code) tt;
    world = fits;
    registers = entered_fits (RegisterFits app has (entry (activation_in (ctx.Init may.c) body)) (length w.heap) site) m [] (λ r. blank_fits _ _ _ _) (λ i z v e below is. absurd (let none : ⊥ = cc in none));
    bottom = activation_in (ctx.Init may.c) body;
    is_event = tt;
    waits = none_waits refl;
  })

  -- The result of a bottom frame is handed.
  at_bottom_of : {bottom : Activation} {size : ℕ} {site : ℕ → Site} {b : Activation} {i : Bool} → Waits app has bottom size site b i [] → b ≡ bottom
  at_bottom_of (none_waits e) = e

  pub known_end : {w : World} {site : ℕ → Site} {c : Ctx} {f : Frame} {x : Option ℕ} → Runs app lists has w site c f [] →
      ActAt app f.method f.pc (Return x) → Known app lists has (record w { handed = hand (returned f x).place w.handed }) []
  known_end {w} {site} {c} {f} {x} known act = idle site (record {
    heap = known.world.heap;
    statics = known.world.statics;
    arrivals = known.world.arrivals;
    live = known.world.live;
    components = known.world.components;
    handed = handed x act;
  })
    where
      is_event : IsEvent c
      is_event = subst (λ (b : Activation). IsEvent b.ctx) (sym (at_bottom_of known.waits)) known.is_event

      handed_place : (x p : ℕ) → ActAt app f.method f.pc (Return (Some x)) → (f.registers x).place ≡ Some p → HandedFits has (length w.heap) site p
      handed_place x p act there = handed_of has p (fits_here app has {n = node_of c f} act (inl refl) (known.registers x)) there
          (λ s h. kept_event app lists has closed (exit_handed {b = activation_in c f.method} is_event) tt refl (kept_local app lists has closed (return_points {n = node_of c f} act) tt refl (h, tt), tt))

      with_place : (x : ℕ) → ActAt app f.method f.pc (Return (Some x)) → (place : Option ℕ) → (f.registers x).place ≡ place → (p : ℕ) →
          In p (hand place w.handed) → HandedFits has (length w.heap) site p
      with_place x act None e p h = known.world.handed p h
      with_place x act (Some y) e p (inl same) = handed_place x p act (e ∙ ap (λ j. Some j) (sym same))
      with_place x act (Some y) e p (inr h) = known.world.handed p h

      handed : (x : Option ℕ) → ActAt app f.method f.pc (Return x) → (p : ℕ) → In p (hand (returned f x).place w.handed) →
          HandedFits has (length w.heap) site p
      handed None act p h = known.world.handed p h
      handed (Some x) act p h = with_place x act (f.registers x).place refl p h
