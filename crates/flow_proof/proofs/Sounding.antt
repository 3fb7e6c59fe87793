-- What look-ups in a sound app give.
use Rattle.std.proofs.Common.{◌≡◌, ◌==◌, ℕ, ◌<◌, List, length, Bool, true, false, cond, ◌&&◌, ◌||◌, Option, Some, None, refl, ap, sym, ◌∙◌, subst}
use Rattle.std.specs.Prelude.{slice_get, find, is_some, IsTrue}
use Rattle.std.proofs.lemmas.Bool.{and_parts}
use Rattle.std.proofs.lemmas.Option.{same_Some}
use Rattle.vet_base.proofs.Firsts.{index_found, given_found}
use Rattle.vet_base.proofs.Lists.{slice_get-none_there}
use Rattle.vet_base.proofs.Members.{in_slice_get, in_found, from_filter_map}
use Rattle.vet_base.proofs.Texts.{same_equal, all_equal}
use Rattle.app_machine.specs.declared.call.Proto.{Proto}
use Rattle.app_machine.specs.declared.call.MethodRef.{MethodRef}
use Rattle.app_machine.specs.declared.call.CallKind.{CallKind}
use Rattle.app_machine.specs.declared.call.CallKind.TheVariants.{Virtual, Super, Direct, Static, Interface}
use Rattle.app_machine.specs.declared.method.Method.{Method}
use Rattle.app_machine.specs.declared.method.Step.{Step}
use Rattle.app_machine.specs.declared.method.Act.{Act}
use Rattle.app_machine.specs.declared.method.Act.TheVariants.{PutStatic, Call}
use Rattle.app_machine.specs.declared.app.Class.{Class}
use Rattle.app_machine.specs.declared.app.App.{App}
use Rattle.vet_base.specs.Members.{In, IsAt}
use Rattle.app_machine.specs.Names.{Name, same_name, same_names, same_proto, widths, initialiser_name, initialiser_proto}
use Rattle.app_machine.specs.Lookups.{step_at, ActAt, Body, Library, Nothing, body_or, target, is_by_receiver, is_static_call, lists_bare, method_of, find_body, up, initialiser_of, initialisers_from, class_initialised, initialisers, Initialises}
use Rattle.app_machine.specs.Sound.{SoundStep, SoundCode, SoundMethod, SoundApp, AllBelow, statics_of, TakesItsRegisters, taken}

-- a step of a sound app is one of sound code
pub record OfMethod (app : App) (index : ℕ) (step : Step) : Type 0 where
  pub method : Method
  pub there : slice_get app.methods index ≡ Some method
  pub code : SoundCode app method
  pub sound : SoundStep app method step

pub sound_step : {app : App} (method pc : ℕ) {step : Step} → SoundApp app → step_at app method pc ≡ Some step → OfMethod app method step
unfolding step_at
sound_step {app} method pc {step} sound e = of_method (slice_get app.methods method) refl e
  where
    of_code : (m : Method) → slice_get app.methods method ≡ Some m → SoundMethod app m → (b : Bool) → m.is_native ≡ b → In step m.steps →
        OfMethod app method step
    of_code m got sound_method true native h = absurd (subst (λ steps. In step steps) (sound_method.of_native native) h)
    of_code m got sound_method false code h = let sound_code = sound_method.of_code code in record { method = m; there = got; code = sound_code; sound = sound_code.steps step h }

    of_method : (o : Option Method) → slice_get app.methods method ≡ o →
        (elim o [ None ↦ None | Some m ↦ find (λ (s : Step). s.pc == pc) m.steps ]) ≡ Some step → OfMethod app method step
    of_method None got found = absurd (let none : ⊥ = cc in none)
    of_method (Some m) got found =
        of_code m got (sound.bodies m (in_slice_get app.methods method m got)) m.is_native refl (in_found (λ (s : Step). s.pc == pc) m.steps step found)

-- the static of a PutStatic is one of the app's
pub put_static_below : {app : App} {method pc g x : ℕ} → SoundApp app → ActAt app method pc (PutStatic g x) → g < length app.statics
put_static_below {app} {method} {pc} sound act =
    (subst (λ a. AllBelow (length app.statics) (statics_of a)) act.same (sound_step method pc sound act.there).sound.statics).0

protos_equal : (p q : Proto) → same_proto p q ≡ true → p ≡ q
protos_equal p q e =
    let parts = and_parts (same_names p.params q.params) (same_name p.ret q.ret) e in
    let params : p.params ≡ q.params = all_equal p.params q.params parts.0 in
    let ret : p.ret ≡ q.ret = same_equal p.ret q.ret parts.1 in
    λ i. record { params = params i; ret = ret i }

-- the body is a method with this prototype
pub record HasProto (app : App) (body : ℕ) (proto : Proto) : Type 0 where
  pub method : Method
  pub there : slice_get app.methods body ≡ Some method
  pub is_proto : method.at.proto ≡ proto

pub method_proto : (app : App) (class name : Name) (proto : Proto) (body : ℕ) → method_of app class name proto ≡ Some body → HasProto app body proto
unfolding method_of
method_proto app class name proto body e =
    let found =
    index_found (λ (m : Method). same_name m.at.class class && same_name m.at.name name && same_proto m.at.proto proto) app.methods body e in
    record {
      method = found.0;
      there = found.1;
      is_proto =
          protos_equal found.0.at.proto proto (and_parts (same_name found.0.at.class class && same_name found.0.at.name name) (same_proto found.0.at.proto proto) found.2).1;
    }

pub body_proto : (app : App) (class name : Name) (proto : Proto) (body : ℕ) → find_body app class name proto ≡ Some body → HasProto app body proto
unfolding find_body
body_proto app class name proto body e =
    let given = given_found (λ (c : Class). method_of app c.name name proto) (up app class) body e in
    method_proto app given.0.name name proto body given.2

-- an initialiser has no parameters
pub initialiser_has_proto : (app : App) (class : Name) (body : ℕ) → In body (initialisers_from app class) → HasProto app body initialiser_proto
unfolding initialisers_from initialiser_of
initialiser_has_proto app class body h =
    let given = from_filter_map (λ (c : Class). initialiser_of app c.name) (up app class) body h in
    method_proto app given.0.name initialiser_name initialiser_proto body given.2

same_of_both : {app : App} {body : ℕ} {p q : Proto} → HasProto app body p → HasProto app body q → p ≡ q
same_of_both {app} {body} {p} {q} a b = let same : a.method ≡ b.method = same_Some _ _ (sym a.there ∙ b.there) in sym a.is_proto ∙ (ap (λ (m : Method). m.at.proto) same ∙ b.is_proto)

-- the act at an instruction is one
pub one_act : {app : App} {method pc : ℕ} {a b : Act} → ActAt app method pc a → ActAt app method pc b → a ≡ b
one_act {a = a} {b = b} first second = let same : first.step ≡ second.step = same_Some _ _ (sym first.there ∙ second.there) in sym first.same ∙ (ap (λ (s : Step). s.act) same ∙ second.same)

body_of_library : (o : Option ℕ) (class : Name) (body : ℕ) → body_or o (Library class) ≡ Body body → o ≡ Some body
body_of_library None class body e = absurd (let none : ⊥ = cc in none)
body_of_library (Some b) class body e = let same : b ≡ body = cc in ap (λ x. Some x) same

no_widths : (p : Proto) → p ≡ initialiser_proto → widths p.params ≡ 0
unfolding initialiser_proto
no_widths p e = ap (λ (q : Proto). widths q.params) e

-- A call that enters an initialiser which may run before it passes no argument.
pub no_arguments : {app : App} {method pc : ℕ} {kind : CallKind} {at : MethodRef} {args : List ℕ} (class : Option Name) {body : ℕ} →
    SoundApp app → ActAt app method pc (Call kind at args) → target app kind method at class ≡ Body body → Initialises app method pc body →
    (i x : ℕ) → IsAt args i x → ⊥
unfolding target initialisers class_initialised
no_arguments {app} {method} {pc} {kind} {at} {args} class {body} sound act goes is_one i x is_at = by_kind kind refl
  where
    h : In body (initialisers app (Call kind at args))
    h = subst (λ a. In body (initialisers app a)) (one_act is_one.at act) is_one.is_one

    by_kind : (k : CallKind) → kind ≡ k → ⊥
    by_kind Virtual e = subst (λ k. In body (initialisers app (Call k at args))) e h
    by_kind Super e = subst (λ k. In body (initialisers app (Call k at args))) e h
    by_kind Direct e = subst (λ k. In body (initialisers app (Call k at args))) e h
    by_kind Interface e = subst (λ k. In body (initialisers app (Call k at args))) e h
    by_kind Static e =
        let entered = subst (λ k. target app k method at class ≡ Body body) e goes in
        let found = body_of_library (find_body app at.class at.name at.proto) at.class body entered in
        let of_call = body_proto app at.class at.name at.proto body found in
        let of_initialiser = initialiser_has_proto app at.class body (subst (λ k. In body (initialisers app (Call k at args))) e h) in
        let same = same_of_both of_call of_initialiser in
        let takes = subst (λ a. TakesItsRegisters a) act.same (sound_step method pc sound act.there).sound.call in
        let none = subst (λ k. length args ≡ taken (is_static_call k) at.proto) e takes in
        slice_get-none_there args i x (none ∙ no_widths at.proto same) is_at.there

neither : (b : Bool) (class : Name) (body : ℕ) → cond b Nothing (Library class) ≡ Body body → ⊥
neither true class body e = cc
neither false class body e = cc

-- a virtual or interface call whose receiver has no place comes to no body
pub no_body : (app : App) (kind : CallKind) (method : ℕ) (at : MethodRef) (body : ℕ) → IsTrue (is_by_receiver kind) →
    target app kind method at None ≡ Body body → ⊥
unfolding target is_by_receiver
no_body app Virtual method at body is e =
    neither (is_some (find_body app at.class at.name at.proto) || lists_bare app at.class at.name at.proto) at.class body e
no_body app Interface method at body is e =
    neither (is_some (find_body app at.class at.name at.proto) || lists_bare app at.class at.name at.proto) at.class body e
no_body app Super method at body is e = absurd (let none : ⊥ = cc in none)
no_body app Direct method at body is e = absurd (let none : ⊥ = cc in none)
no_body app Static method at body is e = absurd (let none : ⊥ = cc in none)
