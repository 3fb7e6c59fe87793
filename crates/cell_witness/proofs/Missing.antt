-- A set of rows that is closed under all rules but one misses an arrival.
use Rattle.std.proofs.Common.{◌≡◌, ◌≢◌, ℕ, [], ◌∷◌, inl, inr, refl, sym, ◌∙◌, arith}
use Rattle.std.specs.List.{AllByRecursion}
use Rattle.vet_base.specs.Members.{In}
use Rattle.app_machine.specs.declared.method.Step.{Step}
use Rattle.app_machine.specs.declared.app.App.{App}
use Rattle.app_machine.specs.Names.{is_reference}
use Rattle.fact_rows.specs.declared.row.Row.{Row}
use Rattle.flow_rules.specs.Rules.{Starts, the_application, a_component}
use Rattle.machine_witness.specs.Apps.{small_lists}
use Rattle.machine_witness.specs.Flows.{by_field, activity_of}
use Rattle.cell_witness.specs.Copying.{copying_lists, by_copy}
use Rattle.cell_witness.specs.Missing.{MissesBut, MissesWithout, IsClimb, Without, OnlyInner, Uncopied, Unlabelled, at_once, in_object, in_nested, LeavingOutARuleMisses}
use Rattle.cell_witness.proofs.Runs.{label_posted, field_posted, object_posted, nested_posted}
use Rattle.cell_witness.proofs.Climbing.{Inner, closed_inner}
use Rattle.cell_witness.proofs.Closing.{Tame, closed_without}
use Rattle.cell_witness.proofs.Copied.{Calm, closed_uncopied}
use Rattle.cell_witness.proofs.Drawing.{copy_posted}
use Rattle.cell_witness.proofs.Unlabelled.{closed_unlabelled}
use Rattle.cell_witness.proofs.Scenes.{AllActs}

start_without : (x : ℕ) (cells : Type 0) (app : App) (row : Row) → Starts app row → Without x cells row
start_without x cells app row (the_application is) = tt
start_without x cells app row (a_component none there) = tt

start_inner : (app : App) (row : Row) → Starts app row → OnlyInner row
start_inner app row (the_application is) = tt
start_inner app row (a_component none there) = tt

start_uncopied : (app : App) (row : Row) → Starts app row → Uncopied row
start_uncopied app row (the_application is) = tt
start_uncopied app row (a_component none there) = tt

start_unlabelled : (app : App) (row : Row) → Starts app row → Unlabelled row
start_unlabelled app row (the_application is) = tt
start_unlabelled app row (a_component none there) = tt

-- what a call passes
just : (x y : ℕ) → In y (x ∷ []) → y ≡ x
just x y (inl same) = same
just x y (inr none) = absurd none

nothing : (x y : ℕ) → In y [] → y ≡ x
nothing x y none = absurd none

-- the result is taken to register 0
taken_to : (x : ℕ) → 0 ≢ x → (d : ℕ) → In d (0 ∷ []) → d ≢ x
taken_to x other d (inl same) is = other (sym same ∙ is)
taken_to x other d (inr none) is = absurd none

not_one : ◌≡◌ {A = ℕ} 0 1 → ⊥
not_one e = omega arith

not_two : ◌≡◌ {A = ℕ} 0 2 → ⊥
not_two e = omega arith

not_two_one : ◌≡◌ {A = ℕ} 1 2 → ⊥
not_two_one e = omega arith

not_three : ◌≡◌ {A = ℕ} 3 2 → ⊥
not_three e = omega arith

not_four : ◌≡◌ {A = ℕ} 4 2 → ⊥
not_four e = omega arith

tame_field : AllActs (Tame 2 ⊥) by_field.on_create
unfolding is_reference
tame_field = ((refl, nothing 2), (taken_to 2 not_two, (refl, (tt, (λ d is none. absurd none, ((refl, just 2), (tt, tt)))))))

tame_object : AllActs (Tame 1 (Unit {0})) in_object.on_create
unfolding is_reference
tame_object = ((refl, nothing 1), (taken_to 1 not_one, (refl, (tt, ((refl, just 1), (tt, tt))))))

without_puts : MissesWithout (activity_of by_field) small_lists 8 (Without 2 ⊥)
without_puts = record {
  starts = start_without 2 ⊥ (activity_of by_field);
  closed = closed_without 2 ⊥ (omega arith) by_field.on_create tame_field 8 (λ other. other refl) (λ other none. none);
  world = field_posted.world;
  frames = field_posted.frames;
  run = field_posted.run;
  arrival = record { label = 0; sink = 1; method = 0; pc = 5 };
  arrives = field_posted.arrives;
  misses = λ n none. none;
}

without_holds : MissesWithout (activity_of in_object) small_lists 14 (Without 1 (Unit {0}))
without_holds = record {
  starts = start_without 1 (Unit {0}) (activity_of in_object);
  closed = closed_without 1 (Unit {0}) (omega arith) in_object.on_create tame_object 14 (λ other. tt) (λ other cell. other refl);
  world = object_posted.world;
  frames = object_posted.frames;
  run = object_posted.run;
  arrival = record { label = 0; sink = 1; method = 0; pc = 4 };
  arrives = object_posted.arrives;
  misses = λ n none. none;
}

-- register 1 is made at 2, and register 2 is not
tame_nested : AllByRecursion (λ (s : Step). Inner s.pc s.act) in_nested.on_create
unfolding is_reference
tame_nested = (
  (refl, nothing 2),
  (
    (λ d is. (taken_to 1 not_one d is, taken_to 2 not_two d is)),
    (
      (refl, (refl, ((λ one. refl), (λ two. absurd (not_two_one two))))),
      (
        (λ other also. refl),
        ((refl, (refl, ((λ one. absurd (not_two_one (sym one))), (λ two at. not_four at)))), ((λ other also. absurd (other refl)), ((refl, just 2), (tt, tt)))),
      ),
    ),
  ),
)

without_climb : MissesBut (activity_of in_nested) small_lists IsClimb OnlyInner
without_climb = record {
  starts = start_inner (activity_of in_nested);
  closed = closed_inner in_nested.on_create tame_nested;
  world = nested_posted.world;
  frames = nested_posted.frames;
  run = nested_posted.run;
  arrival = record { label = 0; sink = 1; method = 0; pc = 6 };
  arrives = nested_posted.arrives;
  misses = λ n none. none;
}

without_joins : MissesWithout (activity_of at_once) small_lists 35 Unlabelled
without_joins = record {
  starts = start_unlabelled (activity_of at_once);
  closed = closed_unlabelled at_once.on_create (tt, (tt, (tt, (tt, tt))));
  world = label_posted.world;
  frames = label_posted.frames;
  run = label_posted.run;
  arrival = record { label = 0; sink = 1; method = 0; pc = 2 };
  arrives = label_posted.arrives;
  misses = λ n none. none;
}

-- the result is taken to register 1
taken_away : (d : ℕ) → In d (1 ∷ []) → d ≢ 2
taken_away d (inl same) two = not_two_one (sym same ∙ two)
taken_away d (inr none) two = absurd none

-- register 2 is made at 2
calm_copy : AllByRecursion (λ (s : Step). Calm s.pc s.act) by_copy.on_create
calm_copy = (
  (not_two, tt),
  (
    taken_away,
    ((refl, (refl, refl)), ((not_three, refl), ((not_four, refl), (tt, tt)))),
  ),
)

without_copies : MissesWithout (activity_of by_copy) copying_lists 39 Uncopied
without_copies = record {
  starts = start_uncopied (activity_of by_copy);
  closed = closed_uncopied by_copy.on_create calm_copy;
  world = copy_posted.world;
  frames = copy_posted.frames;
  run = copy_posted.run;
  arrival = record { label = 0; sink = 1; method = 0; pc = 4 };
  arrives = copy_posted.arrives;
  misses = λ n none. none;
}

pub leaving_out_a_rule_misses : LeavingOutARuleMisses
leaving_out_a_rule_misses = record {
  without_puts = without_puts;
  without_holds = without_holds;
  without_climb = without_climb;
  without_joins = without_joins;
  without_copies = without_copies;
}
