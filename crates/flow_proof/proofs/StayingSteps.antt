-- What the rules of steps and effects give of rows in the app is in the app.
use Rattle.std.proofs.Common.{◌≡◌, ℕ, ◌&&◌, List, Some, None, slice_get, inl, inr, refl, subst, arith, ◌<◌, length}
use Rattle.std.proofs.lemmas.Option.{none-some, slice_get_within}
use Rattle.access_path.specs.Laws.{PathLaws}
use Rattle.app_machine.specs.declared.lists.Lists.{Lists}
use Rattle.app_machine.specs.declared.lists.StaticRow.{StaticRow}
use Rattle.app_machine.specs.declared.app.App.{App}
use Rattle.app_machine.specs.Names.{Name, same_name}
use Rattle.app_machine.specs.LifeEvents.{LifeEvent, life_events}
use Rattle.app_machine.specs.Events.{LifeEventAt}
use Rattle.app_machine.specs.Sound.{SoundApp}
use Rattle.app_machine.specs.SoundLists.{SoundStatic, SoundLists}
use Rattle.app_machine.specs.Summaries.{listed_static, source_of, static_source}
use Rattle.std.specs.Prelude.{Option, IfSome}
use Rattle.vet_base.specs.Members.{In}
use Rattle.vet_base.proofs.Members.{in_found, all_in, in_front, in_map, in_slice_get}
use Rattle.fact_rows.specs.declared.row.Row.{Row}
use Rattle.fact_rows.specs.InApp.{is_result, is_exception, by_new, by_fill, StateIn, InApp}
use Rattle.flow_rules.specs.LocalRules as step
use Rattle.flow_rules.specs.EffectRules as effect
use Rattle.flow_rules.specs.Rules.{Each}
use Rattle.flow_proof.proofs.Sounding.{put_static_below}
use Rattle.flow_proof.proofs.Places.{next_in, caught_in, register_at, named_register, elem_in, put_key, cut_in, rest_in, empty_in, app_static}

pub component_of : {app : App} {c e : ℕ} {class : Name} {life : LifeEvent} {body : Option ℕ} → LifeEventAt app c e class life body →
    c < length app.components
component_of {app} {c} at = slice_get_within app.components c at.component at.there.there

-- the state to which an event leads is one of its component
pub state_after : {app : App} {c e : ℕ} {class : Name} {life : LifeEvent} {body : Option ℕ} → LifeEventAt app c e class life body →
    StateIn app c life.to
state_after {e = e} {life = life} at = record {
  component = at.component;
  there = at.there;
  is_state =
      inr (in_map (λ (l : LifeEvent). l.to) (life_events at.component.kind) life (in_slice_get (life_events at.component.kind) e life at.is_event.there));
}

-- the label that the lists give a static is one of their categories
pub source_listed : (app : App) (lists : Lists) (g l : ℕ) → SoundLists lists → static_source app lists g ≡ Some l → l < length lists.categories
unfolding static_source listed_static
source_listed app lists g l sound is = by_field (slice_get app.statics g) is
  where
    by_row : (o : Option StaticRow) → ((s : StaticRow) → o ≡ Some s → In s lists.statics) → source_of o ≡ Some l → l < length lists.categories
    by_row None there e = absurd (none-some l e)
    by_row (Some s) there e = subst (λ o. IfSome o (λ category. category < length lists.categories)) e (all_in (SoundStatic (length lists.categories)) lists.statics s sound.statics (there s refl)).source

    by_field : (o : Option (Name × Name × Name)) → (elim o [ None ↦ None | Some field ↦ source_of (listed_static lists field) ]) ≡ Some l → l < length lists.categories
    by_field None e = absurd (none-some l e)
    by_field (Some field) e =
        by_row (listed_static lists field) (λ s is. in_found (λ (s : StaticRow). same_name s.class field.0 && (same_name s.name field.1 && same_name s.kind field.2)) lists.statics s is) e

module _ (app : App) (lists : Lists) (sound : SoundApp app) (laws : PathLaws) where
  pub local_in : SoundLists lists → {number : ℕ} {premises : List Row} {row : Row} → step.LocalRule app lists number premises row → Each (InApp app lists) premises →
      InApp app lists row
  local_in listed (step.reach_next goes) h = (next_in sound h.0.0 goes, tt)
  local_in listed (step.reach_caught caught) h = (caught_in sound h.0.0 caught, tt)
  local_in listed (step.keep_points acts other goes) h = (next_in sound h.0.0 goes, (register_at sound h.0.1.0, (h.0.1.1.0, tt)))
  local_in listed (step.keep_taint acts other goes) h = (next_in sound h.0.0 goes, (register_at sound h.0.1.0, (h.0.1.1.0, (h.0.1.1.1.0, tt))))
  local_in listed (step.keep_points_caught other caught) h = (caught_in sound h.0.0 caught, (register_at sound h.0.1.0, (h.0.1.1.0, tt)))
  local_in listed (step.keep_taint_caught other caught) h = (caught_in sound h.0.0 caught, (register_at sound h.0.1.0, (h.0.1.1.0, (h.0.1.1.1.0, tt))))
  local_in listed (step.move_points d acts is_one goes) h = (next_in sound h.0.0 goes, (named_register sound acts (inr is_one), (h.0.1.1.0, tt)))
  local_in listed (step.move_taint d acts is_one goes) h =
      (next_in sound h.0.0 goes, (named_register sound acts (inr is_one), (h.0.1.1.0, (h.0.1.1.1.0, tt))))
  local_in listed (step.result_points d acts is_one goes) h = (next_in sound h.0.0 goes, (named_register sound acts is_one, (h.0.1.1.0, tt)))
  local_in listed (step.result_taint d acts is_one goes) h = (next_in sound h.0.0 goes, (named_register sound acts is_one, (h.0.1.1.0, (h.0.1.1.1.0, tt))))
  local_in listed (step.exception_points acts goes) h = (next_in sound h.0.0 goes, (named_register sound acts (inl refl), (h.0.1.1.0, tt)))
  local_in listed (step.exception_taint acts goes) h = (next_in sound h.0.0 goes, (named_register sound acts (inl refl), (h.0.1.1.0, (h.0.1.1.1.0, tt))))
  local_in listed (step.join_taint d x {ds = ds} {xs = xs} acts is_one is_source without_keys goes) h =
      (next_in sound h.0.0 goes, (named_register sound acts (in_front d ds xs is_one), (empty_in app, (h.0.1.1.1.0, tt))))
  local_in listed (step.new_points acts goes) h = (next_in sound h.0.0 goes, (named_register sound acts (inl refl), ((h.0.0, by_new acts), tt)))
  local_in listed (step.new_taint acts without_keys goes) h = (next_in sound h.0.0 goes, (named_register sound acts (inl refl), (empty_in app, (h.0.1.1.1.0, tt))))
  local_in listed (step.fill_points acts goes) h = (next_in sound h.0.0 goes, (is_result refl, ((h.0.0, by_fill acts), tt)))
  local_in listed (step.fill_cell x acts is_source) h = ((h.0.0, by_fill acts), (elem_in sound, (h.0.1.1.0, tt)))
  local_in listed (step.fill_taint x acts is_source goes) h =
      (next_in sound h.0.0 goes, (is_result refl, (cut_in app laws _ _ (elem_in sound) h.0.1.1.0, (h.0.1.1.1.0, tt))))
  local_in listed (step.get_points d acts is_one goes) h = (next_in sound h.0.0 goes, (named_register sound acts (inr is_one), (h.1.0.1.1.0, tt)))
  local_in listed (step.get_taint d acts is_one left goes) h =
      (next_in sound h.0.0 goes, (named_register sound acts (inr is_one), (rest_in app laws _ _ _ left h.0.1.1.0, (h.0.1.1.1.0, tt))))
  local_in listed (step.put_cell {n = n} acts) h = (h.0.1.1.0, (put_key sound n acts, (h.1.0.1.1.0, tt)))
  local_in listed (step.put_effect {n = n} acts) h = (h.0.0, (h.0.1.1.0, (cut_in app laws _ _ (put_key sound n acts) h.1.0.1.1.0, (h.1.0.1.1.1.0, tt))))
  local_in listed (step.get_static_points d acts is_one goes) h = (next_in sound h.0.0 goes, (named_register sound acts is_one, (h.1.0.1.0, tt)))
  local_in listed (step.get_static_taint d acts is_one goes) h =
      (next_in sound h.0.0 goes, (named_register sound acts is_one, (h.1.0.1.0, (h.1.0.1.1.0, tt))))
  local_in listed (step.get_static_source d acts is_one is goes) h = (next_in sound h.0.0 goes, (named_register sound acts is_one, (empty_in app, (source_listed app lists _ _ listed is, tt))))
  local_in listed (step.put_static_points acts) h = (app_static app lists (put_static_below sound acts), (h.0.1.1.0, tt))
  local_in listed (step.put_static_taint acts) h = (app_static app lists (put_static_below sound acts), (h.0.1.1.0, (h.0.1.1.1.0, tt)))
  local_in listed (step.throw_points acts caught) h = (caught_in sound h.0.0 caught, (is_exception refl, (h.0.1.1.0, tt)))
  local_in listed (step.throw_taint acts caught) h = (caught_in sound h.0.0 caught, (is_exception refl, (h.0.1.1.0, (h.0.1.1.1.0, tt))))
  local_in listed (step.throw_exit_points acts) h = (h.0.0.activation, (omega arith, (h.0.1.1.0, tt)))
  local_in listed (step.throw_exit_taint acts) h = (h.0.0.activation, (omega arith, (h.0.1.1.0, (h.0.1.1.1.0, tt))))
  local_in listed (step.return_points acts) h = (h.0.0.activation, (omega arith, (h.0.1.1.0, tt)))
  local_in listed (step.return_taint acts) h = (h.0.0.activation, (omega arith, (h.0.1.1.0, (h.0.1.1.1.0, tt))))
  local_in listed step.cell_back h = (h.0.1.1.0, (h.0.1.0, (h.0.0, tt)))

  pub effect_in : {number : ℕ} {premises : List Row} {row : Row} → effect.EffectRule app number premises row →
      Each (InApp app lists) premises → InApp app lists row
  effect_in effect.lift_effect h = (h.0.0, (h.1.0.1.1.0, (cut_in app laws _ _ h.1.0.1.0 h.0.1.1.0, (h.0.1.1.1.0, tt))))
  effect_in (effect.effect_next goes) h = (h.1.0.0, (h.1.0.1.0, (h.0.1.1.0, (h.0.1.1.1.0, tt))))
  effect_in (effect.effect_caught caught) h = (h.1.0.0, (h.1.0.1.0, (h.0.1.1.0, (h.0.1.1.1.0, tt))))
  effect_in effect.method_effect h = (h.0.0.activation, (h.0.1.0, (h.0.1.1.0, (h.0.1.1.1.0, tt))))
  effect_in effect.caller_effect h = (h.1.0.1.0, (h.0.1.0, (h.0.1.1.0, (h.0.1.1.1.0, tt))))
  effect_in effect.effect_static h = (h.1.0.0, (h.0.1.1.0, (h.0.1.1.1.0, tt)))
  effect_in effect.effect_handed h = (h.1.0.0, (h.0.1.1.0, (h.0.1.1.1.0, tt)))
  effect_in (effect.effect_own at stays) h = (component_of at, (state_after at, (h.0.1.1.0, (h.0.1.1.1.0, tt))))
  effect_in (effect.effect_other beside there) h = (h.1.0.0, (h.1.0.1.0, (h.0.1.1.0, (h.0.1.1.1.0, tt))))
