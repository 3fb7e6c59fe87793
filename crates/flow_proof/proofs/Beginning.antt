-- The body of an event begins with known parameters, and its end hands its result to the library.
use Rattle.std.proofs.Common.{◌≡◌, ◌==◌, ℕ, zero, suc, ◌+◌, ◌-◌, ◌<◌, List, [], ◌∷◌, ◌++◌, length, Bool, true, false, cond, ◌⊎◌, inl, inr, Option, Some, None, refl, ap, sym, ◌∙◌, subst, arith}
use Rattle.std.proofs.lemmas.Bool.{eqb-true}
use Rattle.std.specs.Prelude.{IsTrue, slice_get, map}
use Rattle.std.specs.List.{cons_option}
use Rattle.std.proofs.lemmas.Option.{none-some, same_Some}
use Rattle.vet_base.specs.declared.key_id.KeyId.{KeyId}
use Rattle.access_path.specs.Laws.{PathLaws}
use Rattle.access_path.specs.declared.path.Path.{Path}
use Rattle.access_path.specs.Paths.{cut, empty_path}
use Rattle.app_machine.specs.declared.method.Method.{Method}
use Rattle.app_machine.specs.declared.method.Act.TheVariants.{Return}
use Rattle.app_machine.specs.declared.lists.Lists.{Lists}
use Rattle.app_machine.specs.declared.app.App.{App}
use Rattle.vet_base.specs.Members.{In}
use Rattle.app_machine.specs.Names.{Name, is_reference, is_wide}
use Rattle.app_machine.specs.Lookups.{elem_key, ActAt, HasCode}
use Rattle.app_machine.specs.Heap.{Value, Object, Reaches}
use Rattle.app_machine.specs.State.{World, Frame, object_at}
use Rattle.app_machine.specs.Calls.{returned, hand}
use Rattle.app_machine.specs.Events.{layout_from, layout, labels_at, labelled_element, Parameter, is_blank, is_fresh, is_given, Parameters, no_more, one_more, MayInitialise, parameter_type}
use Rattle.app_machine.specs.Run.{frame_of}
use Rattle.fact_rows.specs.declared.context.Ctx.{Ctx}
use Rattle.fact_rows.specs.declared.context.Ctx.TheVariants as ctx
use Rattle.fact_rows.specs.declared.context.Activation.{Activation}
use Rattle.fact_rows.specs.declared.site.Site.{Site}
use Rattle.fact_rows.specs.declared.site.Site.TheVariants.{Param}
use Rattle.fact_rows.specs.declared.row.Row.{Row}
use Rattle.fact_rows.specs.declared.row.Row.TheVariants.{Reached, Points, Taint}
use Rattle.fact_rows.specs.Contexts.{IsEvent, event_types}
use Rattle.flow_rules.specs.Nodes.{activation_in, entry, ArgumentRegister, EventRegister}
use Rattle.flow_rules.specs.Sites.{reference_type, site_class, SiteClass}
use Rattle.flow_rules.specs.LocalRules.{return_points, return_taint}
use Rattle.flow_rules.specs.EventRules.{ReferenceParameter, Begins, begin_reached, begin_points, begin_taint, begin_element, handed_parameter, handed_parameter_taint, exit_handed, exit_handed_taint}
use Rattle.flow_rules.specs.Rules.{Starts, Closed}
use Rattle.flow_proof.proofs.Fitting.{Fits, Covered, fits_map, blank_fits, placeless_fits}
use Rattle.flow_proof.proofs.Growing.{with_site, NewFits, new_fits, fits_grown}
use Rattle.flow_proof.proofs.Knowing.{node_of, RegisterFits, HandedFits, handed_of, WorldFits, Waits, none_waits, Runs, Known, idle, running}
use Rattle.flow_proof.proofs.Lasting.{loc, evt, world_grown}
use Rattle.flow_proof.proofs.Framing.{entered_fits}
use Rattle.flow_proof.proofs.Eventing.{Begun, initialiser_rows, initialiser_owns}

-- a label of a position is one of its sources
pub source_of : (sources : List (ℕ × ℕ)) (i l : ℕ) → In l (labels_at sources i) → In {A = ℕ × ℕ} (i, l) sources
source_of [] i l h = absurd h
source_of (s ∷ sources) i l h = go (s.0 == i) refl (source_of sources i l) h
  where
    go : (b : Bool) → (s.0 == i) ≡ b → (In l (labels_at sources i) → In {A = ℕ × ℕ} (i, l) sources) →
        In l (cons_option (cond b (Some s.1) None) (labels_at sources i)) → In {A = ℕ × ℕ} (i, l) (s ∷ sources)
    go true e later (inl same) = inl (let index : s.0 ≡ i = eqb-true s.0 i e in rw (sym index, same) refl)
    go true e later (inr h) = inr (later h)
    go false e later h = inr (later h)

-- a value with a place and labels of its own
with_labels : {heap : List Object} {site : ℕ → Site} {place : Option ℕ} {P : Site → Type 0} {T : Path → ℕ → Type 0} (labels : List ℕ) →
    Fits heap site (object_at place) P T → ((l : ℕ) → In l labels → Covered T [] l) →
    Fits heap site (record { place = place; labels = labels }) P T
with_labels labels fits own = record {
  within = fits.within;
  pointed = fits.pointed;
  tainted = elim [ [] ↦ λ l h. own l h | k ∷ ks ↦ λ l h. fits.tainted (k ∷ ks) l h ];
}

-- the type of a parameter of an event
pub record TypeAt (types : List Name) (i position : ℕ) : Type 0 where
  pub index : ℕ
  pub type : Name
  pub there : slice_get types index ≡ Some type
  pub is : position ≡ i + index

type_at : (types : List Name) (i k position : ℕ) → slice_get (layout_from i types) k ≡ Some position → TypeAt types i position
type_at [] i k position e = absurd (let none : ⊥ = cc in none)
type_at (type ∷ types) i k position e = by_width (is_wide type) (type_at types (i + 1)) e
  where
    first : ◌≡◌ {A = Option ℕ} (Some i) (Some position) → TypeAt (type ∷ types) i position
    first e = let same = same_Some _ _ e in record { index = 0; type = type; there = refl; is = omega arith }

    next : TypeAt types (i + 1) position → TypeAt (type ∷ types) i position
    next later = let same = later.is in record { index = suc later.index; type = later.type; there = later.there; is = omega arith }

    by_width : (b : Bool) → ((k position : ℕ) → slice_get (layout_from (i + 1) types) k ≡ Some position → TypeAt types (i + 1) position) →
        slice_get (cond b (i ∷ i ∷ layout_from (i + 1) types) (i ∷ layout_from (i + 1) types)) k ≡ Some position →
        TypeAt (type ∷ types) i position
    by_width true more e = wide k e
      where
        wide : (k : ℕ) → slice_get (i ∷ i ∷ layout_from (i + 1) types) k ≡ Some position → TypeAt (type ∷ types) i position
        wide zero e = first e
        wide (suc zero) e = first e
        wide (suc (suc k)) e = next (more k position e)
    by_width false more e = narrow k e
      where
        narrow : (k : ℕ) → slice_get (i ∷ layout_from (i + 1) types) k ≡ Some position → TypeAt (type ∷ types) i position
        narrow zero e = first e
        narrow (suc k) e = next (more k position e)

-- what stands in the layout is the receiver or a parameter
pub layout_at : (types : List Name) (k position : ℕ) → slice_get (layout types) k ≡ Some position → ((position ≡ 0) × (k ≡ 0)) ⊎ TypeAt types 1 position
unfolding layout
layout_at types zero position e = inl (sym (same_Some _ _ e), refl)
layout_at types (suc k) position e = inr (type_at types 1 k position e)

pub mapped_at : (value : ℕ → Value) (positions : List ℕ) (k : ℕ) (v : Value) → slice_get (map value positions) k ≡ Some v →
    (position : ℕ) × (slice_get positions k ≡ Some position) × (v ≡ value position)
mapped_at value [] k v e = absurd (let none : ⊥ = cc in none)
mapped_at value (x ∷ xs) zero v e = (x, refl, let same : v ≡ value x = cc in same)
mapped_at value (x ∷ xs) (suc k) v e = mapped_at value xs k v e

-- the site of a parameter of an event has its type
pub parameter_site : (app : App) (lists : Lists) (k : Ctx) (m : Method) → event_types app lists k ≡ m.at.proto.params → (i : ℕ) (type : Name) →
    parameter_type m.at.proto.params i ≡ Some type → IsTrue (is_reference type) → SiteClass app lists (Param k i) type
unfolding site_class
parameter_site app lists k m types i type is_type reference = record { is_class = of_types (event_types app lists k) types }
  where
    referred : (b : Bool) → b ≡ true → cond b (Some type) None ≡ Some type
    referred b e = rw e refl

    of_types : (ts : List Name) → ts ≡ m.at.proto.params → reference_type (parameter_type ts i) ≡ Some type
    of_types ts e = rw (e, is_type) (referred (is_reference type) reference)

pub reference_parameter : {app : App} {body : ℕ} {m : Method} → HasCode app body m → (i : ℕ) (type : Name) →
    parameter_type m.at.proto.params i ≡ Some type → IsTrue (is_reference type) → ReferenceParameter app body i type
reference_parameter {m = m} code i type is_type reference = record { method = m; there = code.there; is_type = is_type; reference = reference }

module _ (app : App) (lists : Lists) (has : Row → Type 0) (closed : Closed app lists has) (laws : PathLaws) where
  -- the rows at the entry know the value of a position
  abbrev PositionFits : List Object → (ℕ → Site) → Ctx → ℕ → ℕ → Value → Type 0
  PositionFits heap site k body i v =
      Fits heap site v (λ s. (z : ℕ) → EventRegister app body i z → has (Points (entry (activation_in k body)) z s)) (λ q l. (z : ℕ) → EventRegister app body i z → has (Taint (entry (activation_in k body)) z q l))

  -- All parameters are known, and what was known of values is known still.
  record ParametersKnown (new : World) (k : Ctx) (body i : ℕ) (types : List Name) (value : ℕ → Value) (site : ℕ → Site) (heap heap' : List Object) : Type 1 where
    sites : ℕ → Site
    world : WorldFits app lists has (record new { heap = heap' }) sites
    stays : (v : Value) (P : Site → Type 0) (T : Path → ℕ → Type 0) → Fits heap site v P T → Fits heap' sites v P T
    values : (j : ℕ) (type : Name) → slice_get types j ≡ Some type → PositionFits heap' sites k body (i + j) (value (i + j))

  module _ (new : World) (k : Ctx) (body : ℕ) (m : Method) (code : HasCode app body m) (sources : List (ℕ × ℕ)) (is_event : IsEvent k) (rows : (row : Row) → Begins app k body sources row → has row) (types : event_types app lists k ≡ m.at.proto.params) where
    own_label : (i l : ℕ) → In l (labels_at sources i) →
        Covered (λ q l. (z : ℕ) → EventRegister app body i z → has (Taint (entry (activation_in k body)) z q l)) [] l
    own_label i l h = record { path = empty_path; covers = laws.empty; row = λ z at. rows _ (begin_taint at (source_of sources i l h)) }

    -- one parameter
    record ParameterKnown (i : ℕ) (value : Value) (site : ℕ → Site) (heap heap' : List Object) : Type 1 where
      sites : ℕ → Site
      world : WorldFits app lists has (record new { heap = heap' }) sites
      stays : (v : Value) (P : Site → Type 0) (T : Path → ℕ → Type 0) → Fits heap site v P T → Fits heap' sites v P T
      fits : PositionFits heap' sites k body i value

    parameter_known : {i : ℕ} {type : Name} {heap heap' : List Object} {value : Value} {site : ℕ → Site} →
        parameter_type m.at.proto.params i ≡ Some type → WorldFits app lists has (record new { heap = heap }) site →
        Parameter app lists new.handed (labels_at sources i) type heap value heap' → ParameterKnown i value site heap heap'
    parameter_known {i} {type} {heap} {heap'} {value} {site} is_type fits is_blank = record {
      sites = site;
      world = fits;
      stays = λ v P T old. old;
      fits = placeless_fits heap site (labels_at sources i) _ _ (λ l h. own_label i l h);
    }
    parameter_known {i} {type} {heap} {heap'} {value} {site} is_type fits (is_fresh reference) = record {
      sites = with_site site (length heap) (Param k i);
      world = world_grown app lists has closed laws fits new_one;
      stays = λ v P T old. fits_grown made (Param k i) fits.heap old;
      fits = new_fits heap site (Param k i) made (labels_at sources i) _ _
          (λ z at. rows _ (begin_points at (reference_parameter code i type is_type reference)))
          (λ l h. own_label i l h)
          (λ key v h ks l walk. element (labels_at sources i) (λ l h. source_of sources i l h) key v h ks l walk);
    }
      where
        made : Object
        made = record { class = type; entries = labelled_element (labels_at sources i) }

        no_place : {A : Type 0} (labels : List ℕ) (key : KeyId) (v : Value) (t : ℕ) →
            In {A = KeyId × Value} (key, v) (labelled_element labels) → v.place ≡ Some t → A
        no_place [] key v t h e = absurd h
        no_place (l ∷ ls) key v t (inl same) e = absurd (none-some t (ap (λ (y : KeyId × Value). y.1.place) (sym same) ∙ e))
        no_place (l ∷ ls) key v t (inr none) e = absurd none

        new_one : NewFits app lists has heap site (Param k i) (record { class = type; entries = labelled_element (labels_at sources i) })
        new_one = record {
          within = λ key v t h e. no_place (labels_at sources i) key v t h e;
          cell = λ key v t h e. no_place (labels_at sources i) key v t h e;
          class = parameter_site app lists k m types i type is_type reference;
        }

        element : (labels : List ℕ) → ((l : ℕ) → In l labels → In {A = ℕ × ℕ} (i, l) sources) → (key : KeyId) (v : Value) →
            In {A = KeyId × Value} (key, v) (labelled_element labels) → (ks : List KeyId) (l : ℕ) → Reaches (heap ++ made ∷ []) v ks l →
            Covered (λ q l. (z : ℕ) → EventRegister app body i z → has (Taint (entry (activation_in k body)) z q l)) (key ∷ ks) l
        element [] listed key v h ks l walk = absurd h
        element (x ∷ xs) listed key v h (j ∷ ks) l walk = no_place (x ∷ xs) key v walk.0 h walk.1
        element (x ∷ xs) listed key v (inr none) [] l walk = absurd none
        element (x ∷ xs) listed key v (inl same) [] l walk =
            rw (ap (λ (y : KeyId × Value). y.0) same) (held (subst (λ (y : KeyId × Value). In l y.1.labels) same walk))
          where
            held : In l (x ∷ xs) →
                Covered (λ q l. (z : ℕ) → EventRegister app body i z → has (Taint (entry (activation_in k body)) z q l)) (elem_key ∷ []) l
            held h =
                record { path = cut elem_key empty_path; covers = laws.cut elem_key empty_path [] laws.empty; row = λ z at. rows _ (begin_element at (reference_parameter code i type is_type reference) (listed l h)) }
    parameter_known {i} {type} {heap} {heap'} {value} {site} is_type fits (is_given {p = p} {class = class} reference is_one of_class below) = record {
      sites = site;
      world = fits;
      stays = λ v P T old. old;
      fits = with_labels (labels_at sources i)
          (fits_map
          (λ s same z at. rw same (evt app lists has closed laws (handed_parameter {b = activation_in k body} is_event at (reference_parameter code i type is_type reference) of_site below) (reached, (h.row, tt))))
          (λ q l t z at. evt app lists has closed laws (handed_parameter_taint {b = activation_in k body} is_event at (reference_parameter code i type is_type reference) of_site below) (reached, (h.row, (t, tt))))
          h.fits)
          (λ l h. own_label i l h);
    }
      where
        h : HandedFits has heap site p
        h = fits.handed p is_one

        of_site : SiteClass app lists h.of class
        of_site = subst (λ s. SiteClass app lists s class) (h.fits.pointed p refl) (fits.heap.class p class of_class)

        reached : has (Reached (entry (activation_in k body)))
        reached = rows _ (begin_reached code)

    parameters_known : {value : ℕ → Value} {i : ℕ} {ts : List Name} {heap heap' : List Object} (site : ℕ → Site) →
        ((j : ℕ) (type : Name) → slice_get ts j ≡ Some type → parameter_type m.at.proto.params (i + j) ≡ Some type) →
        WorldFits app lists has (record new { heap = heap }) site → Parameters app lists new.handed sources value i ts heap heap' →
        ParametersKnown new k body i ts value site heap heap'
    parameters_known site typed fits no_more =
        record { sites = site; world = fits; stays = λ v P T old. old; values = λ j type e. absurd (let none : ⊥ = cc in none) }
    parameters_known {value} {i} {ts} {heap} {heap'} site typed fits (one_more {type = type} {types = types} {heap1 = heap1} first more) =
        let here = parameter_known (at_zero type refl) fits first in
        let others = parameters_known here.sites at_next here.world more in
        record {
          sites = others.sites;
          world = others.world;
          stays = λ v P T old. others.stays v P T (here.stays v P T old);
          values = values others.sites others.values (others.stays _ _ _ here.fits);
        }
      where
        at_zero : (t : Name) → ◌≡◌ {A = Option Name} (Some type) (Some t) → parameter_type m.at.proto.params i ≡ Some t
        at_zero t e = let same : i + 0 ≡ i = omega arith in subst (λ x. parameter_type m.at.proto.params x ≡ Some t) same (typed 0 t e)

        at_next : (j : ℕ) (t : Name) → slice_get types j ≡ Some t → parameter_type m.at.proto.params ((i + 1) + j) ≡ Some t
        at_next j t e = let same : i + suc j ≡ (i + 1) + j = omega arith in subst (λ x. parameter_type m.at.proto.params x ≡ Some t) same (typed (suc j) t e)

        values : (sites : ℕ → Site) →
            ((j : ℕ) (t : Name) → slice_get types j ≡ Some t → PositionFits heap' sites k body ((i + 1) + j) (value ((i + 1) + j))) →
            PositionFits heap' sites k body i (value i) → (j : ℕ) (t : Name) → slice_get (type ∷ types) j ≡ Some t →
            PositionFits heap' sites k body (i + j) (value (i + j))
        values sites later first zero t e = let same : i ≡ i + 0 = omega arith in subst (λ x. PositionFits heap' sites k body x (value x)) same first
        values sites later first (suc j) t e = let same : (i + 1) + j ≡ i + suc j = omega arith in subst (λ x. PositionFits heap' sites k body x (value x)) same (later j t e)

  -- A body begins with its receiver and parameters.
  pub known_begin : {new : World} {site : ℕ → Site} {place : Option ℕ} {sources : List (ℕ × ℕ)} {k : Ctx} {body : ℕ} {m : Method} {value : ℕ → Value} {heap : List Object} →
      WorldFits app lists has new site → Begun app lists has new site place sources k body → HasCode app body m →
      value 0 ≡ record { place = place; labels = labels_at sources 0 } →
      Parameters app lists new.handed sources value 1 m.at.proto.params new.heap heap →
      Known app lists has (record new { heap = heap }) (frame_of body m (map value (layout m.at.proto.params)) false ∷ [])
  known_begin {new} {site} {place} {sources} {k} {body} {m} {value} {heap} fits begun code receiver parameters = running known.sites k (record {
    reached = begun.rows _ (begin_reached code);
    world = known.world;
    registers =
        entered_fits (RegisterFits has (entry (activation_in k body)) heap known.sites) m (map value (layout m.at.proto.params)) (λ r. blank_fits _ _ _ _) passed;
    event = record { bottom = activation_in k body; is_event = begun.is_event; owns = begun.owns };
    waits = none_waits refl;
  })
    where
      typed : (j : ℕ) (type : Name) → slice_get m.at.proto.params j ≡ Some type → parameter_type m.at.proto.params (1 + j) ≡ Some type
      typed j type e = let same : suc j ≡ 1 + j = omega arith in subst (λ x. parameter_type m.at.proto.params x ≡ Some type) same e

      known : ParametersKnown new k body 1 m.at.proto.params value site new.heap heap
      known = parameters_known new k body m code sources begun.is_event begun.rows (begun.types m code.there) site typed fits parameters

      at_receiver : PositionFits heap known.sites k body 0 (value 0)
      at_receiver = rw receiver (with_labels (labels_at sources 0)
          (fits_map (λ s h z at. h z (of_receiver z at)) (λ q l h z at. h z (of_receiver z at)) (known.stays _ _ _ begun.receiver))
          (λ l h. own_label new k body m code sources begun.is_event begun.rows (begun.types m code.there) 0 l h))
        where
          of_receiver : (z : ℕ) → EventRegister app body 0 z → ArgumentRegister app body 0 z
          of_receiver z at = elim (layout_at at.method.at.proto.params at.index 0 at.is_at.there) [
            | inl first ↦ let index = first.1 in let below = at.below in record { method = at.method; has = at.has; below = omega arith; is = at.is ∙ ap (λ x. (at.method.registers - at.method.ins) + x) index }
            | inr later ↦ let same = later.is in absurd (omega arith)
          ]

      at_position : (index position : ℕ) → slice_get (layout m.at.proto.params) index ≡ Some position →
          PositionFits heap known.sites k body position (value position)
      at_position index position e = elim (layout_at m.at.proto.params index position e) [
        | inl first ↦ subst (λ x. PositionFits heap known.sites k body x (value x)) (sym first.0) at_receiver
        | inr later ↦ subst (λ x. PositionFits heap known.sites k body x (value x)) (sym later.is) (known.values later.index later.type later.there)
      ]

      passed : (i z : ℕ) (v : Value) → slice_get (map value (layout m.at.proto.params)) i ≡ Some v → i < m.ins →
          z ≡ (m.registers - m.ins) + i → RegisterFits has (entry (activation_in k body)) heap known.sites z v
      passed i z v e below is =
          let at = mapped_at value (layout m.at.proto.params) i v e in
          let register : EventRegister app body at.0 z =
          record { method = m; has = code; index = i; is_at = record { there = at.1 }; below = below; is = is } in
          subst (λ x. RegisterFits has (entry (activation_in k body)) heap known.sites z x) (sym at.2) (fits_map (λ s h. h z register) (λ q l h. h z register) (at_position i at.0 at.1))

  -- An initialiser begins without arguments.
  pub known_begin_initialiser : ((row : Row) → Starts app row → has row) → {w : World} {site : ℕ → Site} {body : ℕ} {m : Method} →
      WorldFits app lists has w site → MayInitialise app w body → HasCode app body m → Known app lists has w (frame_of body m [] false ∷ [])
  known_begin_initialiser starts {w} {site} {body} {m} fits may code = running site (ctx.Init may.c) (record {
    reached = initialiser_rows app lists has closed laws starts fits may _ (begin_reached code);
    world = fits;
    registers =
        entered_fits (RegisterFits has (entry (activation_in (ctx.Init may.c) body)) w.heap site) m [] (λ r. blank_fits _ _ _ _) (λ i z v e below is. absurd (let none : ⊥ = cc in none));
    event =
        record { bottom = activation_in (ctx.Init may.c) body; is_event = tt; owns = initialiser_owns app lists has closed laws starts fits may.c };
    waits = none_waits refl;
  })

  -- The result of a bottom frame is handed.
  at_bottom_of : {bottom : Activation} {heap : List Object} {site : ℕ → Site} {b : Activation} {i : Bool} →
      Waits app has bottom heap site b i [] → b ≡ bottom
  at_bottom_of (none_waits e) = e

  pub known_end : {w : World} {site : ℕ → Site} {c : Ctx} {f : Frame} {x : Option ℕ} → Runs app lists has w site c f [] →
      ActAt app f.method f.pc (Return x) → Known app lists has (record w { handed = hand (returned f x).place w.handed }) []
  known_end {w} {site} {c} {f} {x} known act = idle site (record {
    heap = known.world.heap;
    statics = known.world.statics;
    arrivals = known.world.arrivals;
    live = known.world.live;
    absent = known.world.absent;
    components = known.world.components;
    handed = handed x act;
  })
    where
      is_event : IsEvent c
      is_event = subst (λ (b : Activation). IsEvent b.ctx) (sym (at_bottom_of known.waits)) known.event.is_event

      handed_place : (x p : ℕ) → ActAt app f.method f.pc (Return (Some x)) → (f.registers x).place ≡ Some p → HandedFits has w.heap site p
      handed_place x p act there = handed_of p (known.registers x) there
          (λ s h. evt app lists has closed laws (exit_handed {b = activation_in c f.method} is_event) (loc app lists has closed laws (return_points {n = node_of c f} act) (h, tt), tt))
          (λ s q l h t. evt app lists has closed laws (exit_handed_taint {b = activation_in c f.method} is_event) (loc app lists has closed laws (return_points {n = node_of c f} act) (h, tt), (loc app lists has closed laws (return_taint {n = node_of c f} act) (t, tt), tt)))

      with_place : (x : ℕ) → ActAt app f.method f.pc (Return (Some x)) → (place : Option ℕ) → (f.registers x).place ≡ place → (p : ℕ) →
          In p (hand place w.handed) → HandedFits has w.heap site p
      with_place x act None e p h = known.world.handed p h
      with_place x act (Some y) e p (inl same) = handed_place x p act (e ∙ ap (λ j. Some j) (sym same))
      with_place x act (Some y) e p (inr h) = known.world.handed p h

      handed : (x : Option ℕ) → ActAt app f.method f.pc (Return x) → (p : ℕ) → In p (hand (returned f x).place w.handed) →
          HandedFits has w.heap site p
      handed None act p h = known.world.handed p h
      handed (Some x) act p h = with_place x act (f.registers x).place refl p h
