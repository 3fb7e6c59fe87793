-- The facts of any app.
use Rattle.std.proofs.Common.{◌≡◌, ◌==◌, ℕ, zero, suc, ◌+◌, ◌-◌, List, [], ◌∷◌, Bool, true, false, cond, ◌&&◌, ◌⊎◌, inl, inr, Option, Some, None, refl, ap, sym, ◌∙◌, subst, arith, eq-eqb}
use Rattle.std.proofs.lemmas.Bool.{eqb-true, le-leb, lt-ltb}
use Rattle.std.specs.Prelude.{nat_le, nat_lt, map}
use Rattle.vet_base.specs.declared.key_id.KeyId.{KeyId}
use Rattle.vet_base.specs.Members.{In}
use Rattle.app_machine.specs.Names.{Name}
use Rattle.app_machine.specs.Heap.{Value, without, labelled, blank}
use Rattle.app_machine.specs.State.{World, ComponentState, value_or_blank}
use Rattle.app_machine.specs.Calls.{is_caught, unwinds}
use Rattle.app_machine.specs.Events.{IsApplication, Comes, lives, is_born, calls_back, is_clicked, is_handed, layout, labels_at, Parameters, no_more, one_more, Parameter, is_blank, set_component}
use Rattle.app_machine.specs.Run.{begins, frame_of}
use Rattle.machine_witness.specs.Witnesses.{StrongUpdateForgets, ElementsStay, RaisesGoToHandlers, RaisesGoToCallers, RaisesGoNowhereElse, AbsentComponentsAreOnlyBorn, OthersWaitForTheApplication, HandedObjectsAreCalledBack}

-- no entry of the key is left
without_none : (k : KeyId) (w : Value) (es : List (KeyId × Value)) → In {A = KeyId × Value} (k, w) (without k es) → ⊥
without_none k w [] h = h
without_none k w (e ∷ es) h = go (e.0.0 == k.0) refl (without_none k w es) h
  where
    go : (b : Bool) → (e.0.0 == k.0) ≡ b → (In {A = KeyId × Value} (k, w) (without k es) → ⊥) → In {A = KeyId × Value} (k, w) (cond b (without k es) (e ∷ without k es)) → ⊥
    go true is later h = later h
    go false is later (inl same) = let passes : (e.0.0 == k.0) ≡ true = eq-eqb e.0.0 k.0 (ap (λ (y : KeyId × Value). y.0.0) (sym same)) in let none : ⊥ = cc in none
    go false is later (inr h) = later h

pub strong_update_forgets : StrongUpdateForgets
strong_update_forgets [] p k v w field h = absurd h
strong_update_forgets (o ∷ os) (suc p) k v w field h = strong_update_forgets os p k v w field h
strong_update_forgets (o ∷ os) zero k v w field h = go (k.0 == 0) refl h
  where
    go : (b : Bool) → (k.0 == 0) ≡ b → In {A = KeyId × Value} (k, w) (cond b ((k, v) ∷ o.entries) ((k, v) ∷ without k o.entries)) → w ≡ v
    go true is h = absurd (field (eqb-true k.0 0 is))
    go false is (inl same) = ap (λ (y : KeyId × Value). y.1) same
    go false is (inr h) = absurd (without_none k w o.entries h)

pub elements_stay : ElementsStay
elements_stay [] p v w h = absurd h
elements_stay (o ∷ os) zero v w h = inr h
elements_stay (o ∷ os) (suc p) v w h = elements_stay os p v w h

pub raises_to_handlers : RaisesGoToHandlers
raises_to_handlers app f fs v pc catch = is_caught catch

pub raises_to_callers : RaisesGoToCallers
raises_to_callers app f g fs v pc catch = unwinds (is_caught catch)

pub raises_nowhere_else : RaisesGoNowhereElse
raises_nowhere_else app f fs v gs none (is_caught catch) = absurd (none _ catch)
raises_nowhere_else app f fs v gs none (unwinds raised) = raised

pub only_born : AbsentComponentsAreOnlyBorn
only_born app lists w new body place sources absent nothing (lives {c = c} at in_state alive) = absurd (alive (sym in_state ∙ absent c))
only_born app lists w new body place sources absent nothing (is_born at in_state zero_state may) = refl
only_born app lists w new body place sources absent nothing (calls_back {c = c} at alive) = absurd (alive (absent c))
only_born app lists w new body place sources absent nothing (is_clicked {c = c} at alive) = absurd (alive (absent c))
only_born app lists w new body place sources absent nothing (is_handed {p = p} is_one of_class at) = absurd (subst (λ handed. In p handed) nothing is_one)

-- a component that is not changed
other_component : (components : ℕ → ComponentState) (d : ℕ) (s : ComponentState) (c : ℕ) → (components c).state ≡ 0 → (c ≡ d → ⊥) → (set_component components d s c).state ≡ 0
other_component components d s c absent other = go (c == d) refl
  where
    go : (b : Bool) → (c == d) ≡ b → (cond b s (components c)).state ≡ 0
    go true is = absurd (other (eqb-true c d is))
    go false is = absent

pub others_wait : OthersWaitForTheApplication
others_wait app lists w a c is_application apart not_created absent = record { stays = λ new body place sources comes. stays comes; initialises = λ body may same. refused may.begins same }
  where
    refused : {d : ℕ} → ((b : ℕ) → IsApplication app b → (b ≡ d) ⊎ ((w.components b).state ≡ 2)) → d ≡ c → ⊥
    refused may same = elim (may a is_application) [ inl is ↦ apart (is ∙ same) | inr created ↦ not_created created ]

    stays : {new : World} {body place : Option ℕ} {sources : List (ℕ × ℕ)} → Comes app lists w body place sources new → (new.components c).state ≡ 0
    stays (lives {c = d} at in_state alive) = other_component w.components d _ c absent (λ same. alive (sym in_state ∙ (ap (λ x. (w.components x).state) (sym same) ∙ absent)))
    stays (is_born {c = d} at in_state zero_state may) = other_component w.components d _ c absent (λ same. refused may (sym same))
    stays (calls_back at alive) = absent
    stays (is_clicked at alive) = absent
    stays (is_handed is_one of_class at) = absent

pub called_back : HandedObjectsAreCalledBack
unfolding layout
called_back app lists w p q body class sources m is_one of_class at code = record {
  frame = frame_of body m (map value (layout m.at.proto.params)) false;
  steps = begins (is_handed is_one of_class at) code refl (blanks 1 m.at.proto.params (λ e. omega arith));
  runs = refl;
  receiver = λ some enough. first (nat_le (m.registers - m.ins) (m.registers - m.ins)) (le-leb (m.registers - m.ins) (m.registers - m.ins) (omega arith)) (nat_lt (m.registers - m.ins) m.registers) (lt-ltb (m.registers - m.ins) m.registers (omega arith)) ((m.registers - m.ins) - (m.registers - m.ins)) (omega arith);
}
  where
    value : ℕ → Value
    value i = record { place = cond (i == 0) (Some p) None; labels = labels_at sources i }

    is_labelled : (i : ℕ) (b : Bool) → (i == 0) ≡ b → (i ≡ 0 → ⊥) → record { place = cond b (Some p) None; labels = labels_at sources i } ≡ labelled (labels_at sources i)
    is_labelled i true is other = absurd (other (eqb-true i 0 is))
    is_labelled i false is other = refl

    blanks : (i : ℕ) (types : List Name) → (i ≡ 0 → ⊥) → Parameters app lists w.handed sources value i types w.heap w.heap
    blanks i [] other = no_more
    blanks i (type ∷ types) other = one_more (subst (λ v. Parameter app lists w.handed (labels_at sources i) type w.heap v w.heap) (sym (is_labelled i (i == 0) refl other)) is_blank) (blanks (i + 1) types (λ e. omega arith))

    first : (b : Bool) → b ≡ true → (d : Bool) → d ≡ true → (j : ℕ) → j ≡ 0 → (cond (b && d) (value_or_blank (map value (layout m.at.proto.params)) j) blank).place ≡ Some p
    first b e d e' j e'' = rw (e, e', e'') refl
