-- The small app and the small lists are sound.
use Rattle.std.proofs.Common.{◌≡◌, ◌<◌, ◌≤◌, ℕ, Bool, true, false, [], ◌∷◌, None, codes, if◌then◌else◌, inl, inr, refl, lit<, lit≤, arith}
use Rattle.std.specs.List.{All, AllByRecursion}
use Rattle.vet_base.specs.Members.{In}
use Rattle.vet_base.proofs.Members.{all_from_in, each_in, in_slice_get}
use Rattle.app_machine.specs.declared.app.Class.{Class}
use Rattle.app_machine.specs.declared.call.MethodRef.{MethodRef}
use Rattle.app_machine.specs.declared.component.Component.{Component}
use Rattle.app_machine.specs.declared.component.Kind.TheVariants.{Application}
use Rattle.app_machine.specs.declared.method.Act.TheVariants.{GetStatic, PutStatic, Return}
use Rattle.app_machine.specs.declared.method.Method.{Method}
use Rattle.app_machine.specs.Events.{IsApplication}
use Rattle.app_machine.specs.Lookups.{directly_above}
use Rattle.app_machine.specs.Names.{Name, descriptor_of, is_wide, same_name}
use Rattle.app_machine.specs.Sound.{IsAbove, ShortLists, SoundApp, SoundMethod, SoundStep, beyond, directly, taken}
use Rattle.app_machine.specs.SoundLists.{NamedPosition, SoundCallback, SoundStatic, SoundClass, SoundLists, SoundSummary, TwoPositions}
use Rattle.app_machine.specs.Summaries.{position_count}
use Rattle.lookup_witness.specs.Shapes.{activity_class, base_class, body, child_class, does, going, initialiser, int, object, on_given, only_ends, outer_interface, screen_class, service_class, shapes, tap, worker_class}
use Rattle.lookup_witness.specs.AppFacts.{event_lists}
use Rattle.lookup_witness.specs.IndexFacts.{back_row, clone, owner, plain, row_lists, row_of_method, sealed}

-- How high a class stands: each class below those directly above it, so that none is above itself.
height : Name → ℕ
height name =
    if same_name name child_class then 0
    else if same_name name outer_interface then 2
    else if same_name name object then 3
    else if same_name name activity_class then 3
    else if same_name name service_class then 3
    else 1

abbrev Climbs : Class → Type 0
Climbs c = AllByRecursion (λ above. height c.name < height above) (directly_above c)

all_climb : AllByRecursion Climbs shapes.classes
unfolding shapes height
all_climb = (
  (lit< tt, tt),
  (
    (lit< tt, (lit< tt, tt)),
    (
      (lit< tt, (lit< tt, tt)),
      (
        (lit< tt, tt),
        (
          (lit< tt, tt),
          (
            (lit< tt, tt),
            tt,
          ),
        ),
      ),
    ),
  ),
)

higher : {class above : Name} → IsAbove shapes class above → height class < height above
higher (directly {above} c there i) = each_in (λ z. height c.name < height z) (directly_above c) above (each_in Climbs shapes.classes c all_climb there) i
higher (beyond below above) = let first = higher below in let second = higher above in omega (arith, first, second)

no_circle : (class : Name) → IsAbove shapes class class → ⊥
no_circle class h = let lt = higher h in let none : ⊥ = omega (arith, lt) in none

short : ShortLists shapes
unfolding shapes
short = record {
  classes = lit< tt;
  methods = lit< tt;
  keys = lit< tt;
  statics = lit< tt;
  components = lit< tt;
  clicks = lit< tt;
  providers = lit< tt;
  layout_classes = lit< tt;
}

-- the last step of a method
ends : (m : Method) (pc : ℕ) → SoundStep shapes m (does pc (Return None) [])
ends m pc = record {
  next = λ to h. absurd h;
  catches = λ to h. absurd h;
  registers = λ r h. absurd h;
  keys = tt;
  statics = tt;
  call = tt;
}

-- a body that only ends
only_ending : (at : MethodRef) (is_static : Bool) (ins : ℕ) → ins ≤ 65535 → ins ≡ taken is_static at.proto → SoundMethod shapes (body at is_static ins only_ends)
only_ending at is_static ins few same = record {
  of_native = λ n. absurd cc;
  of_code = λ n. record {
    registers = few;
    ins = same;
    within = omega arith;
    order = tt;
    first = refl;
    steps = λ step h. each_in (SoundStep shapes (body at is_static ins only_ends)) only_ends step (ends (body at is_static ins only_ends) 0, tt) h;
  };
}

-- `go`, whose steps read and write a static
gets : SoundStep shapes going (does 0 (GetStatic (0 ∷ []) 0) (1 ∷ []))
unfolding shapes
gets = record {
  next = λ to h. each_in (λ pc. In pc (0 ∷ 1 ∷ 2 ∷ [])) (1 ∷ []) to (inr (inl refl), tt) h;
  catches = λ to h. absurd h;
  registers = λ r h. each_in (λ x. x < 1) (0 ∷ []) r (lit< tt, tt) h;
  keys = tt;
  statics = (lit< tt, tt);
  call = tt;
}

puts : SoundStep shapes going (does 1 (PutStatic 0 0) (2 ∷ []))
unfolding shapes
puts = record {
  next = λ to h. each_in (λ pc. In pc (0 ∷ 1 ∷ 2 ∷ [])) (2 ∷ []) to (inr (inr (inl refl)), tt) h;
  catches = λ to h. absurd h;
  registers = λ r h. each_in (λ x. x < 1) (0 ∷ []) r (lit< tt, tt) h;
  keys = tt;
  statics = (lit< tt, tt);
  call = tt;
}

sound_go : SoundMethod shapes going
sound_go = record {
  of_native = λ n. absurd cc;
  of_code = λ n. record {
    registers = lit≤ tt;
    ins = refl;
    within = lit≤ tt;
    order = (refl, (refl, tt));
    first = refl;
    steps = λ step h. each_in (SoundStep shapes going) going.steps step (gets, (puts, (ends going 2, tt))) h;
  };
}

bodies : AllByRecursion (SoundMethod shapes) shapes.methods
unfolding shapes is_wide
bodies = (
  only_ending initialiser true 0 (lit≤ tt) refl,
  (
    sound_go,
    (
      only_ending on_given false 2 (lit≤ tt) refl,
      (
        only_ending (tap screen_class) false 2 (lit≤ tt) refl,
        (
          only_ending (tap worker_class) false 2 (lit≤ tt) refl,
          tt,
        ),
      ),
    ),
  ),
)

abbrev HasClass : Component → Type 0
HasClass c = (k : Class) × In k shapes.classes × (k.name ≡ c.class)

component_classes : AllByRecursion HasClass shapes.components
unfolding shapes
component_classes = ((_, inr (inr (inr (inr (inl refl)))), refl), ((_, inr (inr (inr (inr (inr (inl refl))))), refl), tt))

abbrev IsOther : Component → Type 0
IsOther c = c.kind ≡ Application → ⊥

no_application : AllByRecursion IsOther shapes.components
unfolding shapes
no_application = ((λ e. let none : ⊥ = cc in none), ((λ e. let none : ⊥ = cc in none), tt))

first : (c : ℕ) → IsApplication shapes c → c ≡ 0
first c is = absurd (each_in IsOther shapes.components is.component no_application (in_slice_get shapes.components c is.component is.there.there) is.kind)

pub sound_shapes : SoundApp shapes
unfolding shapes descriptor_of
sound_shapes = record {
  short = short;
  classes = (refl, (refl, (refl, (refl, (refl, tt)))));
  methods = (refl, (refl, (refl, (refl, tt))));
  fields = (base_class, codes "f", int) ∷ [];
  keys = refl;
  fields_order = tt;
  statics = tt;
  no_circle = no_circle;
  component_classes = λ c h. each_in HasClass shapes.components c component_classes h;
  application_first = first;
  bodies = λ m h. each_in (SoundMethod shapes) shapes.methods m bodies h;
}

-- the lists
classes : AllByRecursion SoundClass row_lists.classes
unfolding row_lists
classes = (record { one_above = lit≤ tt; few_above = lit≤ tt }, (record { one_above = lit≤ tt; few_above = lit≤ tt }, (record { one_above = lit≤ tt; few_above = lit≤ tt }, tt)))

none : {A : Type 0} (P : A → Type 0) → All P []
none P = all_from_in P [] (λ x h. absurd h)

sound_row : (at : MethodRef) (is_static : Bool) → SoundSummary 1 0 (row_of_method at is_static)
sound_row at is_static = record {
  result = tt;
  puts = none (TwoPositions (position_count is_static at.proto));
  stores = none (NamedPosition (position_count is_static at.proto) 0);
  copies = none (TwoPositions (position_count is_static at.proto));
  source = tt;
  sink = tt;
}

sound_back : SoundSummary 1 0 back_row
sound_back = record {
  result = tt;
  puts = none (TwoPositions (position_count false owner.proto));
  stores = none (NamedPosition (position_count false owner.proto) 0);
  copies = none (TwoPositions (position_count false owner.proto));
  source = tt;
  sink = tt;
}

methods : AllByRecursion (SoundSummary 1 0) row_lists.methods
unfolding row_lists
methods = (sound_row clone false, (sound_row sealed true, (sound_back, (sound_row plain true, (sound_back, tt)))))

pub sound_lists : SoundLists row_lists
unfolding row_lists
sound_lists = record {
  one_row = lit≤ tt;
  few_rows = lit≤ tt;
  one_category = lit≤ tt;
  few_categories = lit≤ tt;
  few_classes = lit≤ tt;
  few_shared = lit≤ tt;
  few_methods = lit≤ tt;
  few_callbacks = lit≤ tt;
  few_statics = lit≤ tt;
  classes = all_from_in SoundClass row_lists.classes (λ c h. each_in SoundClass row_lists.classes c classes h);
  methods = all_from_in (SoundSummary 1 0) row_lists.methods (λ m h. each_in (SoundSummary 1 0) row_lists.methods m methods h);
  callbacks = none (SoundCallback 1);
  statics = none (SoundStatic 1);
}

called : AllByRecursion (SoundCallback 1) event_lists.callbacks
unfolding event_lists
called = (record { sources = none _ }, (record { sources = none _ }, tt))

pub sound_events : SoundLists event_lists
unfolding event_lists
sound_events = record {
  one_row = lit≤ tt;
  few_rows = lit≤ tt;
  one_category = lit≤ tt;
  few_categories = lit≤ tt;
  few_classes = lit≤ tt;
  few_shared = lit≤ tt;
  few_methods = lit≤ tt;
  few_callbacks = lit≤ tt;
  few_statics = lit≤ tt;
  classes = none SoundClass;
  methods = none (SoundSummary 1 0);
  callbacks = all_from_in (SoundCallback 1) event_lists.callbacks (λ c h. each_in (SoundCallback 1) event_lists.callbacks c called h);
  statics = none (SoundStatic 1);
}
