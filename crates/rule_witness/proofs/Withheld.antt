-- What the rules do not give.
use Rattle.std.proofs.Common.{◌≡◌, ◌≢◌, ◌⊎◌, ◌+◌, ◌-◌, ℕ, zero, suc, true, IsFalse, List, [], ◌∷◌, Option, Some, None, inl, inr, slice_get, refl, sym, ap, subst, ◌∙◌, lit<, arith}
use Rattle.access_path.specs.declared.path.Path.{Path}
use Rattle.app_machine.specs.declared.call.CallKind.{CallKind}
use Rattle.app_machine.specs.declared.call.CallKind.TheVariants.{Virtual}
use Rattle.app_machine.specs.declared.call.MethodRef.{MethodRef}
use Rattle.app_machine.specs.declared.method.Act.{Act}
use Rattle.app_machine.specs.declared.method.Act.TheVariants.{Call}
use Rattle.app_machine.specs.declared.method.Method.{Method}
use Rattle.app_machine.specs.declared.method.Step.{Step}
use Rattle.app_machine.specs.declared.lists.Callback.{Callback}
use Rattle.app_machine.specs.declared.lists.Lists.{Lists}
use Rattle.app_machine.specs.declared.app.App.{App}
use Rattle.app_machine.specs.Lookups.{ActAt, is_by_receiver, step_at}
use Rattle.app_machine.specs.Events.{layout}
use Rattle.app_machine.specs.Names.{is_reference, is_wide}
use Rattle.vet_base.specs.Members.{IsAt}
use Rattle.fact_rows.specs.Contexts.{event_types}
use Rattle.fact_rows.specs.declared.context.Ctx.{Ctx}
use Rattle.fact_rows.specs.declared.context.Ctx.TheVariants as ctx
use Rattle.fact_rows.specs.declared.context.Activation.{Activation}
use Rattle.fact_rows.specs.declared.context.Node.{Node}
use Rattle.fact_rows.specs.declared.site.Site.{Site}
use Rattle.fact_rows.specs.declared.row.Row.{Row}
use Rattle.fact_rows.specs.declared.row.Row.TheVariants.{Points, Taint, Calls, Live}
use Rattle.flow_rules.specs.Nodes.{activation_in, entry, ArgumentRegister, EventRegister, InitialisedBy}
use Rattle.flow_rules.specs.Sites.{site_class}
use Rattle.flow_rules.specs.CallRules.{CallRule, pass_points, pass_taint}
use Rattle.flow_rules.specs.EventRules.{EventRule, Begins, ComesToLive, by_callback, by_click, begin_taint, begin_element, begin_receiver_element, live_begins, live_receiver}
use Rattle.rule_witness.specs.CallFacts.{calls_app, calls_lists, call_at, initialises}
use Rattle.rule_witness.specs.EventFacts.{on_box, called_back, at_callback, events_app, events_lists}
use Rattle.rule_witness.specs.Withheld.{CallRulesWithhold, EventRulesWithhold, IsBySource, SitesTell}
use Rattle.rule_witness.proofs.CallFacts.{to_turn, at_turn, own}
use Rattle.rule_witness.proofs.EventFacts.{sources, body_of}

-- (each stands for any two nodes, which the rule makes one)
site_of_initialiser : {app : App} {lists : Lists} {n m : Node} {b : Activation} {x : ℕ} {s : Site} {row : Row} →
    InitialisedBy app n b → CallRule app lists 24 (Calls n b ∷ Points m x s ∷ []) row → ⊥
site_of_initialiser by (pass_points _ _ _ _ others _) = others by

label_of_initialiser : {app : App} {lists : Lists} {n m : Node} {b : Activation} {x l : ℕ} {p : Path} {row : Row} →
    InitialisedBy app n b → CallRule app lists 24 (Calls n b ∷ Taint m x p l ∷ []) row → ⊥
label_of_initialiser by (pass_taint _ _ _ others _) = others by

own_register : ArgumentRegister calls_app 0 0 0
unfolding calls_app
own_register = record { method = _; has = record { there = refl; code = refl }; below = lit< tt; is = refl }

is_initialised : (c : Ctx) → InitialisedBy calls_app (call_at c 0) (initialises c)
is_initialised c = record { body = 0; is_one = own; same = refl }

-- the step of the second call is that call
kind_of : Act → CallKind
kind_of (Call kind at args) = kind
kind_of act = Virtual

args_of : Act → List ℕ
args_of (Call kind at args) = args
args_of act = []

is_turn : (act : Act) → ActAt calls_app 2 1 act → to_turn.act ≡ act
is_turn act a = let both : ◌≡◌ {A = Option Step} (Some to_turn) (Some a.step) = sym at_turn ∙ a.there in let same : to_turn ≡ a.step = cc in ap (λ (s : Step). s.act) same ∙ a.same

only_receiver : (i x : ℕ) → slice_get (1 ∷ []) i ≡ Some x → i ≡ 0
only_receiver zero x e = refl
only_receiver (suc i) x e = absurd cc

by_receiver : (k : CallKind) → Virtual ≡ k → IsFalse (is_by_receiver k) → ⊥
unfolding is_by_receiver
by_receiver k e h = let clash : IsFalse true = subst (λ (z : CallKind). IsFalse (is_by_receiver z)) (sym e) h in absurd cc

not_again : {kind : CallKind} {at : MethodRef} {args : List ℕ} (i x : ℕ) → ActAt calls_app 2 1 (Call kind at args) → IsAt args i x →
    IsFalse (is_by_receiver kind) ⊎ (i ≢ 0) → ⊥
unfolding kind_of args_of
not_again {kind} {at} {args} i x act place free =
    let same : to_turn.act ≡ Call kind at args = is_turn (Call kind at args) act in
    let by : Virtual ≡ kind = ap kind_of same in
    let only : (1 ∷ []) ≡ args = ap args_of same in
    elim free [
      | inl not_by ↦ by_receiver kind by not_by
      | inr behind ↦ behind (only_receiver i x (subst (λ (z : List ℕ). slice_get z i ≡ Some x) (sym only) place.there))
    ]

site_of_receiver : {c : Ctx} {n m : Node} {b : Activation} {x : ℕ} {s : Site} {row : Row} → n ≡ call_at c 1 →
    CallRule calls_app calls_lists 24 (Calls n b ∷ Points m x s ∷ []) row → ⊥
site_of_receiver e (pass_points {kind = kind} {at = at} {args = args} {x = y} i act place free _ _) =
    not_again i y (subst (λ (z : Node). ActAt calls_app z.by.method z.pc (Call kind at args)) e act) place free

pub calls_withhold : CallRulesWithhold
calls_withhold app lists n b c x s p l row = record {
  site_of_initialiser = site_of_initialiser;
  label_of_initialiser = label_of_initialiser;
  has_register = own_register;
  no_site_to_initialiser = site_of_initialiser (is_initialised c);
  no_label_to_initialiser = label_of_initialiser (is_initialised c);
  site_of_receiver = site_of_receiver {c = c} refl;
}

absent : {app : App} {lists : Lists} {c : ℕ} {row : Row} → EventRule app lists 42 (Live c 0 ∷ []) row → ⊥
absent (live_begins _ there _) = there refl
absent (live_receiver _ there _) = there refl

by_source : {app : App} {k : Ctx} {body z l : ℕ} {sources : List (ℕ × ℕ)} {n : Node} {p : Path} → Begins app k body sources (Taint n z p l) → IsBySource app body sources z l
by_source (begin_taint at one) = (_, (at, one))
by_source (begin_element at type one) = (_, (at, one))
by_source (begin_receiver_element at one) = (0, (at, one))

-- where a body begins, and by which source
begun : {app : App} {k : Ctx} {body z l : ℕ} {given : List (ℕ × ℕ)} {n : Node} {p : Path} → Begins app k body given (Taint n z p l) →
    (n ≡ entry (activation_in k body)) × IsBySource app body given z l
begun (begin_taint at one) = (refl, (_, (at, one)))
begun (begin_element at type one) = (refl, (_, (at, one)))
begun (begin_receiver_element at one) = (refl, (0, (at, one)))

-- in the context of callback 0 its sources are given
callback_number : Ctx → ℕ
callback_number (ctx.Callback c q) = q
callback_number k = 1

IsCallback : Ctx → Type 0
IsCallback (ctx.Callback c q) = Unit {0}
IsCallback k = ⊥

sources_of : Option Callback → List (ℕ × ℕ)
sources_of (Some callback) = callback.sources
sources_of None = []

are_given : {k : Ctx} {body : ℕ} {given : List (ℕ × ℕ)} → called_back ≡ k → ComesToLive events_app events_lists 1 k body given → sources ≡ given
unfolding events_lists callback_number IsCallback sources_of
are_given e (by_callback {q = q} at) =
    let first : 0 ≡ q = ap callback_number e in
    let row = subst (λ (i : ℕ). slice_get events_lists.callbacks i ≡ Some at.callback) (sym first) at.is_row.there in
    let same : sources ≡ at.callback.sources = ap sources_of row in
    same ∙ at.same_sources
are_given e (by_click at) = absurd (subst IsCallback e tt)

-- the receiver of its body is in register 1 alone
only_first : (i : ℕ) → slice_get {X = ℕ} (0 ∷ 1 ∷ []) i ≡ Some 0 → i ≡ 0
only_first zero e = refl
only_first (suc zero) e = absurd cc
only_first (suc (suc i)) e = absurd cc

is_the_body : (m : Method) → slice_get events_app.methods 2 ≡ Some m → body_of on_box ≡ m
unfolding events_app
is_the_body m e = cc

receiver_register : (z : ℕ) → EventRegister events_app 2 0 z → z ≡ 1
unfolding layout is_wide
receiver_register z at =
    let same : body_of on_box ≡ at.method = is_the_body at.method at.has.there in
    let first : at.index ≡ 0 = only_first at.index (subst (λ (m : Method). slice_get (layout m.at.proto.params) at.index ≡ Some 0) (sym same) at.is_at.there) in
    let here : z ≡ 1 + at.index = subst (λ (m : Method). z ≡ (m.registers - m.ins) + at.index) (sym same) at.is in
    omega (arith, first, here)

not_labelled : IsBySource events_app 2 sources 2 1 → ⊥
not_labelled (i, (at, one)) =
    elim one [
      | inl e ↦
          let receiver : i ≡ 0 = ap (λ (s : ℕ × ℕ). s.0) e in
          let there : 2 ≡ 1 = receiver_register 2 (subst (λ (j : ℕ). EventRegister events_app 2 j 2) receiver at) in
          let none : ⊥ = omega (arith, there) in
          none
      | inr others ↦ elim others [
        | inl e ↦
            let there : 1 ≡ 0 = ap (λ (s : ℕ × ℕ). s.1) e in
            let none : ⊥ = omega (arith, there) in
            none
        | inr none ↦ none
      ]
    ]

not_of_receiver : {p : Path} {n : Node} → at_callback ≡ n → EventRule events_app events_lists 42 (Live 1 3 ∷ []) (Taint n 2 p 1) → ⊥
not_of_receiver e (live_begins {body = body} {sources = given} {k = k} comes _ begins) =
    let by = begun begins in
    let there : at_callback ≡ entry (activation_in k body) = e ∙ by.0 in
    let all : sources ≡ given = are_given (ap (λ (n : Node). n.by.ctx) there) comes in
    let method : 2 ≡ body = ap (λ (n : Node). n.by.method) there in
    let here : IsBySource events_app 2 given 2 1 = subst (λ (b : ℕ). IsBySource events_app b given 2 1) (sym method) by.1 in
    not_labelled (subst (λ (xs : List (ℕ × ℕ)). IsBySource events_app 2 xs 2 1) (sym all) here)

pub events_withhold : EventRulesWithhold
events_withhold app lists k c body given n z l p row = record { absent = absent; by_source = by_source; not_of_receiver = not_of_receiver refl }

pub sites_tell : (c : Ctx) → SitesTell c
unfolding calls_app calls_lists events_app events_lists site_class event_types step_at is_reference
sites_tell c = record { handed = refl; number = refl }
