-- What holds of a linked app.
use Rattle.std.specs.Prelude.{◌≡◌, ◌<◌, ◌≤◌, ◌+◌, ℕ, Bool, true, false, if◌then◌else◌, List, [], ◌∷◌, ◌++◌, length, map, option_to_list}
use Rattle.std.specs.Ordering.{nat_cmp, ordering_then}
use Rattle.std.specs.Cmp.Lexicographic.{slice_cmp}
use Rattle.std.specs.declared.cmp.Ordering.{Ordering}
use Rattle.app_machine.specs.declared.call.Proto.{Proto}
use Rattle.app_machine.specs.declared.method.Method.{Method}
use Rattle.app_machine.specs.declared.method.Step.{Step}
use Rattle.app_machine.specs.declared.method.Act.{Act}
use Rattle.app_machine.specs.declared.method.Act.TheVariants.{Join, Move, Blank, New, Fill, Get, Put, GetStatic, PutStatic, Call, Return, Throw, TakeResult, TakeException}
use Rattle.app_machine.specs.declared.component.Component.{Component}
use Rattle.app_machine.specs.declared.app.Key.{Key}
use Rattle.app_machine.specs.declared.app.Key.TheVariants.{Elem, Field}
use Rattle.app_machine.specs.declared.app.Class.{Class}
use Rattle.app_machine.specs.declared.app.App.{App}
use Rattle.vet_base.specs.Ascending.{Ascends}
use Rattle.vet_base.specs.Members.{In}
use Rattle.app_machine.specs.Names.{Name, widths, descriptor_of}
use Rattle.app_machine.specs.Lookups.{directly_above, is_static_call}
use Rattle.app_machine.specs.Events.{IsApplication}

abbrev pub name_order : Name → Name → Ordering
name_order = slice_cmp nat_cmp

-- classes by name; methods by class, name and descriptor; fields by class, name and type
abbrev pub class_order : Class → Class → Ordering
class_order a b = name_order a.name b.name

abbrev pub method_order : Method → Method → Ordering
method_order a b = ordering_then (name_order a.at.class b.at.class) (ordering_then (name_order a.at.name b.at.name) (name_order (descriptor_of a.at.proto) (descriptor_of b.at.proto)))

abbrev pub field_order : Name × Name × Name → Name × Name × Name → Ordering
field_order a b = ordering_then (name_order a.0 b.0) (ordering_then (name_order a.1 b.1) (name_order a.2 b.2))

-- the keys are all elements, and then these fields
abbrev pub AreKeys : List Key → List (Name × Name × Name) → Type 0
AreKeys [] fields = ⊥
AreKeys (Elem ∷ keys) fields = keys ≡ map (λ (f : Name × Name × Name). Field f.0 f.1 f.2) fields
AreKeys (Field c n k ∷ keys) fields = ⊥

-- the second class or interface is above the first one
pub data IsAbove (app : App) : Name → Name → Type 0 where
  directly : {above : Name} (c : Class) →
      In c app.classes →
      In above (directly_above c) →
      IsAbove app c.name above
  beyond : {class middle above : Name} →
      IsAbove app class middle →
      IsAbove app middle above →
      IsAbove app class above

-- how many registers the arguments of a method take
abbrev pub taken : Bool → Proto → ℕ
taken is_static proto = if is_static then widths proto.params else 1 + widths proto.params

-- the registers that an act names
abbrev pub registers_of : Act → List ℕ
registers_of (Join ds xs) = ds ++ xs
registers_of (Move ds x) = x ∷ ds
registers_of (Blank ds) = ds
registers_of (New d class size) = d ∷ option_to_list size
registers_of (Fill xs class) = xs
registers_of (Get ds o k) = o ∷ ds
registers_of (Put o k x) = o ∷ x ∷ []
registers_of (GetStatic ds g) = ds
registers_of (PutStatic g x) = x ∷ []
registers_of (Call kind at args) = args
registers_of (Return x) = option_to_list x
registers_of (Throw x) = x ∷ []
registers_of (TakeResult ds) = ds
registers_of (TakeException d) = d ∷ []
registers_of act = []

-- the keys that it names
abbrev pub keys_of : Act → List ℕ
keys_of (Get ds o k) = k.0 ∷ []
keys_of (Put o k x) = k.0 ∷ []
keys_of act = []

-- the statics that it names
abbrev pub statics_of : Act → List ℕ
statics_of (GetStatic ds g) = g ∷ []
statics_of (PutStatic g x) = g ∷ []
statics_of act = []

-- each of the numbers is below n
abbrev pub AllBelow : ℕ → List ℕ → Type 0
AllBelow n [] = Unit {0}
AllBelow n (x ∷ xs) = (x < n) × AllBelow n xs

-- a call has the registers that its reference takes
abbrev pub TakesItsRegisters : Act → Type 0
TakesItsRegisters (Call kind at args) = length args ≡ taken (is_static_call kind) at.proto
TakesItsRegisters act = Unit {0}

pub record SoundStep (app : App) (m : Method) (step : Step) : Type 0 where
  pub next : (pc : ℕ) → In pc step.next → In pc (map (λ (s : Step). s.pc) m.steps)
  pub catches : (pc : ℕ) → In pc step.catches → In pc (map (λ (s : Step). s.pc) m.steps)
  pub registers : (r : ℕ) → In r (registers_of step.act) → r < m.registers
  pub keys : AllBelow (length app.keys) (keys_of step.act)
  pub statics : AllBelow (length app.statics) (statics_of step.act)
  pub call : TakesItsRegisters step.act

-- the steps stand by ascending pc, the first at 0
abbrev pub BeginAtZero : List Step → Type 0
BeginAtZero [] = ⊥
BeginAtZero (step ∷ steps) = step.pc ≡ 0

pub record SoundCode (app : App) (m : Method) : Type 0 where
  pub registers : m.registers ≤ 65535
  pub ins : m.ins ≡ taken m.is_static m.at.proto
  pub within : m.ins ≤ m.registers
  pub order : Ascends (λ (a b : Step). nat_cmp a.pc b.pc) m.steps
  pub first : BeginAtZero m.steps
  pub steps : (step : Step) → In step m.steps → SoundStep app m step

pub record SoundMethod (app : App) (m : Method) : Type 0 where
  pub of_native : m.is_native ≡ true → m.steps ≡ []
  pub of_code : m.is_native ≡ false → SoundCode app m

-- the lists are short enough to be numbered
pub record ShortLists (app : App) : Type 0 where
  pub classes : length app.classes < 4294967296
  pub methods : length app.methods < 4294967296
  pub keys : length app.keys < 4294967296
  pub statics : length app.statics < 2147483648
  pub components : length app.components < 4294967296
  pub clicks : length app.clicks < 4294967296
  pub providers : length app.providers < 4294967296
  pub layout_classes : length app.layout_classes < 4294967296

pub record SoundApp (app : App) : Type 0 where
  pub short : ShortLists app
  pub classes : Ascends class_order app.classes
  pub methods : Ascends method_order app.methods
  pub fields : List (Name × Name × Name)
  pub keys : AreKeys app.keys fields
  pub fields_order : Ascends field_order fields
  pub statics : Ascends field_order app.statics
  pub no_circle : (class : Name) → IsAbove app class class → ⊥
  pub component_classes : (c : Component) → In c app.components → (k : Class) × In k app.classes × (k.name ≡ c.class)
  pub application_first : (c : ℕ) → IsApplication app c → c ≡ 0
  pub bodies : (m : Method) → In m app.methods → SoundMethod app m
