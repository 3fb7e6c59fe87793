-- The small app is sound, with an application and without, and rows name its method.
use Rattle.std.proofs.Common.{◌≡◌, ◌<◌, ℕ, zero, suc, List, [], ◌∷◌, length, if◌then◌else◌, inl, inr, refl, lit<, lit≤, arith}
use Rattle.std.specs.List.{AllByRecursion}
use Rattle.vet_base.specs.Members.{In}
use Rattle.vet_base.proofs.Members.{each_in, in_slice_get}
use Rattle.app_machine.specs.declared.app.Class.{Class}
use Rattle.app_machine.specs.declared.component.Component.{Component}
use Rattle.app_machine.specs.declared.component.Kind.TheVariants.{Application}
use Rattle.app_machine.specs.Events.{IsApplication}
use Rattle.app_machine.specs.Lookups.{directly_above}
use Rattle.app_machine.specs.Names.{Name, is_wide, same_name}
use Rattle.app_machine.specs.Sound.{IsAbove, SoundApp, SoundMethod, SoundStep, beyond, directly}
use Rattle.answer_witness.specs.Office.{activity, creating, ends, first_class, makes, office, office_of_application, office_with, screen_class, service, the_application, worker_class}

-- How high a class stands: the app's classes below those above them, so that none is above itself.
height : Name → ℕ
height name =
    if same_name name first_class then 0
    else if same_name name screen_class then 0
    else if same_name name worker_class then 0
    else 1

-- what holds whatever the components are
module _ (components : List Component) where
  abbrev Climbs : Class → Type 0
  Climbs c = AllByRecursion (λ above. height c.name < height above) (directly_above c)

  all_climb : AllByRecursion Climbs (office_with components).classes
  unfolding office_with height
  all_climb = ((lit< tt, tt), ((lit< tt, tt), ((lit< tt, tt), tt)))

  higher : {class above : Name} → IsAbove (office_with components) class above → height class < height above
  higher (directly {above} c there i) = each_in (λ z. height c.name < height z) (directly_above c) above (each_in Climbs (office_with components).classes c all_climb there) i
  higher (beyond below above) = let first = higher below in let second = higher above in omega (arith, first, second)

  no_circle : (class : Name) → IsAbove (office_with components) class class → ⊥
  no_circle class h = let lt = higher h in let none : ⊥ = omega (arith, lt) in none

  makes_one : SoundStep (office_with components) creating makes
  makes_one = record {
    next = λ to h. each_in (λ pc. In pc (0 ∷ 2 ∷ [])) (2 ∷ []) to (inr (inl refl), tt) h;
    catches = λ to h. absurd h;
    registers = λ r h. each_in (λ x. x < 3) (0 ∷ []) r (lit< tt, tt) h;
    keys = tt;
    statics = tt;
    call = tt;
  }

  ends_all : SoundStep (office_with components) creating ends
  ends_all = record {
    next = λ to h. absurd h;
    catches = λ to h. absurd h;
    registers = λ r h. absurd h;
    keys = tt;
    statics = tt;
    call = tt;
  }

  sound_creating : SoundMethod (office_with components) creating
  unfolding is_wide
  sound_creating = record {
    of_native = λ n. absurd cc;
    of_code = λ n. record {
      registers = lit≤ tt;
      ins = refl;
      within = lit≤ tt;
      order = (refl, tt);
      first = refl;
      steps = λ step h. each_in (SoundStep (office_with components) creating) creating.steps step (makes_one, (ends_all, tt)) h;
    };
  }

  bodies : AllByRecursion (SoundMethod (office_with components)) (office_with components).methods
  unfolding office_with
  bodies = (sound_creating, tt)

  abbrev HasClass : Component → Type 0
  HasClass c = (k : Class) × In k (office_with components).classes × (k.name ≡ c.class)

  -- it is sound where the components are few, of its classes, and the application comes first
  sound_with : length components < 4294967296 → AllByRecursion HasClass components → ((c : ℕ) → IsApplication (office_with components) c → c ≡ 0) → SoundApp (office_with components)
  unfolding office_with
  sound_with few of_classes application_first = record {
    short = record {
      classes = lit< tt;
      methods = lit< tt;
      keys = lit< tt;
      statics = lit< tt;
      components = few;
      clicks = lit< tt;
      providers = lit< tt;
      layout_classes = lit< tt;
    };
    classes = (refl, (refl, tt));
    methods = tt;
    fields = [];
    keys = refl;
    fields_order = tt;
    statics = tt;
    no_circle = no_circle;
    component_classes = λ c h. each_in HasClass components c of_classes h;
    application_first = application_first;
    bodies = λ m h. each_in (SoundMethod (office_with components)) (office_with components).methods m bodies h;
  }

  of_activity : HasClass activity
  unfolding office_with
  of_activity = (_, inr (inl refl), refl)

  of_service : HasClass service
  unfolding office_with
  of_service = (_, inr (inr (inl refl)), refl)

  of_application : HasClass the_application
  unfolding office_with
  of_application = (_, inl refl, refl)

abbrev IsOther : Component → Type 0
IsOther c = c.kind ≡ Application → ⊥

abbrev others : List Component
others = activity ∷ service ∷ []

are_others : AllByRecursion IsOther others
are_others = ((λ e. let none : ⊥ = cc in none), ((λ e. let none : ⊥ = cc in none), tt))

none_is_first : (c : ℕ) → IsApplication office c → c ≡ 0
unfolding office_with
none_is_first c is = absurd (each_in IsOther others is.component are_others (in_slice_get others c is.component is.there.there) is.kind)

the_first : (c : ℕ) → IsApplication office_of_application c → c ≡ 0
unfolding office_with
the_first zero is = refl
the_first (suc c) is = absurd (each_in IsOther others is.component are_others (in_slice_get others c is.component is.there.there) is.kind)

pub sound_office : SoundApp office
sound_office = sound_with others (lit< tt) (of_activity others, (of_service others, tt)) none_is_first

abbrev all_three : List Component
all_three = the_application ∷ others

pub sound_office_of_application : SoundApp office_of_application
sound_office_of_application = sound_with all_three (lit< tt) (of_application all_three, (of_activity all_three, (of_service all_three, tt))) the_first
