-- Nodes, registers, keys, paths and statics that a sound app has.
use Rattle.std.proofs.Common.{◌≡◌, ◌==◌, ℕ, ◌<◌, Bool, true, false, List, [], ◌∷◌, length, map, inl, inr, Some, refl, sym, subst, eq-eqb, arith}
use Rattle.std.specs.Prelude.{slice_get, find}
use Rattle.vet_base.specs.declared.key_id.KeyId.{KeyId}
use Rattle.vet_base.specs.Members.{In}
use Rattle.vet_base.proofs.Members.{in_slice_get}
use Rattle.access_path.specs.declared.path.Path.{Path}
use Rattle.access_path.specs.Paths.{cut, rest, empty_path}
use Rattle.access_path.specs.Laws.{PathLaws}
use Rattle.app_machine.specs.declared.method.Method.{Method}
use Rattle.app_machine.specs.declared.method.Step.{Step}
use Rattle.app_machine.specs.declared.method.Act.{Act}
use Rattle.app_machine.specs.declared.method.Act.TheVariants.{Put}
use Rattle.app_machine.specs.declared.lists.Lists.{Lists}
use Rattle.app_machine.specs.declared.app.Key.{Key}
use Rattle.app_machine.specs.declared.app.Key.TheVariants.{Elem, Field}
use Rattle.app_machine.specs.declared.app.App.{App}
use Rattle.app_machine.specs.Names.{Name}
use Rattle.app_machine.specs.Lookups.{elem_key, step_at, HasCode}
use Rattle.app_machine.specs.State.{shared_static}
use Rattle.app_machine.specs.Sound.{SoundCode, SoundApp, AreKeys, AllBelow, BeginAtZero, registers_of, keys_of}
use Rattle.fact_rows.specs.declared.context.Activation.{Activation}
use Rattle.fact_rows.specs.declared.context.Node.{Node}
use Rattle.fact_rows.specs.InApp.{ActivationIn, NodeIn, PlaceIn, at_step, RegisterIn, of_method, is_result, is_exception, KeyIn, PathIn, StaticIn}
use Rattle.flow_rules.specs.Nodes.{at_pc, entry, Acts, GoesOn, CaughtAt, ArgumentRegister, EventRegister}
use Rattle.flow_proof.proofs.Sounding.{sound_step}

-- where one of the steps has the pc, a first one has
step_found : (steps : List Step) (pc : ℕ) → In pc (map (λ (s : Step). s.pc) steps) →
    (step : Step) × (find (λ (s : Step). s.pc == pc) steps ≡ Some step)
step_found [] pc h = absurd h
step_found (s ∷ steps) pc h = by_test (s.pc == pc) refl (λ later. step_found steps pc later) h
  where
    by_test : (b : Bool) → (s.pc == pc) ≡ b →
        (In pc (map (λ (s : Step). s.pc) steps) → (step : Step) × (find (λ (s : Step). s.pc == pc) steps ≡ Some step)) →
        In pc (map (λ (s : Step). s.pc) (s ∷ steps)) → (step : Step) × (find (λ (s : Step). s.pc == pc) (s ∷ steps) ≡ Some step)
    by_test true e more h = (s, rw e refl)
    by_test false e more (inl same) = let passes : (s.pc == pc) ≡ true = eq-eqb s.pc pc (sym same) in absurd (let none : ⊥ = cc in none)
    by_test false e more (inr later) = let found = more later in (found.0, rw e found.1)

some_key : (keys : List Key) (fields : List (Name × Name × Name)) → AreKeys keys fields → 0 < length keys
some_key [] fields are = absurd are
some_key (Elem ∷ keys) fields are = omega arith
some_key (Field class name kind ∷ keys) fields are = absurd are

module _ {app : App} (sound : SoundApp app) where
  step_there : (method pc : ℕ) (m : Method) → slice_get app.methods method ≡ Some m → In pc (map (λ (s : Step). s.pc) m.steps) → PlaceIn app method pc
  unfolding step_at
  step_there method pc m got h = let found = step_found m.steps pc h in at_step {step = found.0} (record { there = rw (step_at, got) found.1 })

  code_of : {body : ℕ} {m : Method} → HasCode app body m → SoundCode app m
  code_of {body} {m} code = (sound.bodies m (in_slice_get app.methods body m code.there)).of_code code.code

  -- a body with code has a step at 0
  pub entry_place : {body : ℕ} {m : Method} → HasCode app body m → PlaceIn app body 0
  entry_place {body} {m} code = step_there body 0 m code.there (first m.steps (code_of code).first)
    where
      first : (steps : List Step) → BeginAtZero steps → In 0 (map (λ (s : Step). s.pc) steps)
      first [] none = absurd none
      first (s ∷ steps) e = inl (sym e)

  pub entry_in : {lists : Lists} {b : Activation} {m : Method} → ActivationIn app lists b → HasCode app b.method m → NodeIn app lists (entry b)
  entry_in activation code = record { activation = activation; place = entry_place code }

  pub next_in : {lists : Lists} {n : Node} {pc : ℕ} → NodeIn app lists n → GoesOn app n pc → NodeIn app lists (at_pc n pc)
  next_in {n = n} {pc = pc} node goes = let of = sound_step n.by.method n.pc sound goes.there in
      record { activation = node.activation; place = step_there n.by.method pc of.method of.there (of.sound.next pc goes.next) }

  pub caught_in : {lists : Lists} {n : Node} {pc : ℕ} → NodeIn app lists n → CaughtAt app n pc → NodeIn app lists (at_pc n pc)
  caught_in {n = n} {pc = pc} node caught = let of = sound_step n.by.method n.pc sound caught.there in
      record { activation = node.activation; place = step_there n.by.method pc of.method of.there (of.sound.catches pc caught.catch) }

  -- the registers of a method are those of each of its nodes
  pub register_at : {n : Node} {pc r : ℕ} → RegisterIn app n r → RegisterIn app (at_pc n pc) r
  register_at (of_method there below) = of_method there below
  register_at (is_result is) = is_result is
  register_at (is_exception is) = is_exception is

  pub named_register : {n : Node} {pc r : ℕ} {act : Act} → Acts app n act → In r (registers_of act) → RegisterIn app (at_pc n pc) r
  named_register {n} {r = r} {act = act} acts h = let of = sound_step n.by.method n.pc sound acts.there in
      of_method of.there (of.sound.registers r (subst (λ a. In r (registers_of a)) (sym acts.same) h))

  pub argument_in : {b : Activation} {i z : ℕ} → ArgumentRegister app b.method i z → RegisterIn app (entry b) z
  argument_in at = let within = (code_of at.has).within in let below = at.below in let is = at.is in of_method at.has.there (omega arith)

  pub event_register_in : {b : Activation} {i z : ℕ} → EventRegister app b.method i z → RegisterIn app (entry b) z
  event_register_in at = let within = (code_of at.has).within in let below = at.below in let is = at.is in of_method at.has.there (omega arith)

  pub elem_in : KeyIn app elem_key
  elem_in = some_key app.keys sound.fields sound.keys

  pub put_key : (n : Node) {o x : ℕ} {k : KeyId} → Acts app n (Put o k x) → KeyIn app k
  put_key n acts = (subst (λ a. AllBelow (length app.keys) (keys_of a)) acts.same (sound_step n.by.method n.pc sound acts.there).sound.keys).0

module _ (app : App) (laws : PathLaws) where
  pub cut_in : (k : KeyId) (p : Path) → KeyIn app k → PathIn app p → PathIn app (cut k p)
  cut_in k p key path j h = elim (laws.keys_of_cut k j p h) [ inl same ↦ subst (λ x. KeyIn app x) (sym same) key | inr old ↦ path j old ]

  pub rest_in : (k : KeyId) (p q : Path) → rest p k ≡ Some q → PathIn app p → PathIn app q
  rest_in k p q left path j h = path j (laws.keys_of_rest k j p q left h)

pub empty_in : (app : App) → PathIn app empty_path
empty_in app j h = absurd h

-- the statics of an app, and behind them those of shared objects
pub app_static : (app : App) (lists : Lists) {g : ℕ} → g < length app.statics → StaticIn app lists g
app_static app lists below = omega arith

pub static_of_shared : (app : App) (lists : Lists) {i : ℕ} → i < length lists.shared → StaticIn app lists (shared_static app i)
static_of_shared app lists below = omega arith
