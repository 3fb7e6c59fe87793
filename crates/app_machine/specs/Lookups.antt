-- What names stand for in an app: each look-up is a first match in a list.
-- Android documentation, Dalvik bytecode: the notes on `invoke-kind`; Java Virtual Machine method selection.
use Rattle.std.specs.Prelude.{◌≡◌, ℕ, zero, suc, Bool, true, false, ◌&&◌, ◌||◌, List, [], ◌∷◌, ◌++◌, length, Option, Some, None, option_map, option_to_list, slice_get, find, flat_map, filter_map, is_some, if◌then◌else◌, ◌==◌}
use Rattle.std.specs.List.{list_any}
use Rattle.vet_base.specs.declared.key_id.KeyId.{KeyId}
use Rattle.app_machine.specs.declared.call.Proto.{Proto}
use Rattle.app_machine.specs.declared.call.MethodRef.{MethodRef}
use Rattle.app_machine.specs.declared.call.CallKind.{CallKind}
use Rattle.app_machine.specs.declared.call.CallKind.TheVariants.{Virtual, Super, Direct, Static, Interface}
use Rattle.app_machine.specs.declared.method.Method.{Method}
use Rattle.app_machine.specs.declared.method.Step.{Step}
use Rattle.app_machine.specs.declared.method.Act.{Act}
use Rattle.app_machine.specs.declared.method.Act.TheVariants.{New, GetStatic, PutStatic, Call}
use Rattle.app_machine.specs.declared.app.Key.{Key}
use Rattle.app_machine.specs.declared.app.Key.TheVariants.{Elem, Field}
use Rattle.app_machine.specs.declared.app.Class.{Class}
use Rattle.app_machine.specs.declared.app.App.{App}
use Rattle.vet_base.specs.Members.{In, first_given, first_index}
use Rattle.app_machine.specs.Names.{Name, same_name, same_proto, descriptor_of, initialiser_name, initialiser_proto}

-- the class of the app with this name
abbrev pub class_among : List Class → Name → Option Class
class_among classes name = find (λ (c : Class). same_name c.name name) classes

unfoldable pub class_named : App → Name → Option Class
class_named app name = class_among app.classes name

-- the app classes from the one of this name upward along superclasses, at most so many
abbrev pub up_within : ℕ → List Class → Option Name → List Class
up_within zero classes name = []
up_within (suc n) classes None = []
up_within (suc n) classes (Some name) = elim (class_among classes name) [ None ↦ [] | Some c ↦ c ∷ up_within n classes c.superclass ]

-- the app classes from the one of this name upward along superclasses: no more than there are classes
unfoldable pub up : App → Name → List Class
up app name = up_within (length app.classes) app.classes (Some name)

-- the classes and interfaces directly above
abbrev pub directly_above : Class → List Name
directly_above c = option_to_list c.superclass ++ c.interfaces

-- the app classes and interfaces from the one of this name upward along superclasses and interfaces, each as often as a way leads there
abbrev pub above_within : ℕ → List Class → Name → List Class
above_within zero classes name = []
above_within (suc n) classes name = elim (class_among classes name) [ None ↦ [] | Some c ↦ c ∷ flat_map (λ above. above_within n classes above) (directly_above c) ]

unfoldable pub all_above : App → Name → List Class
all_above app name = above_within (length app.classes) app.classes name

-- the number of the method that the class itself defines, with code or as native
unfoldable pub method_of : App → Name → Name → Proto → Option ℕ
method_of app class name proto = first_index (λ (m : Method). same_name m.at.class class && same_name m.at.name name && same_proto m.at.proto proto) app.methods

-- the number of the method of the first class, from this one upward along superclasses, that defines it
unfoldable pub find_body : App → Name → Name → Proto → Option ℕ
find_body app class name proto = first_given (λ (c : Class). method_of app c.name name proto) (up app class)

-- the same by the text of the descriptor
unfoldable pub method_with : App → Name → Name → Name → Option ℕ
method_with app class name descriptor = first_index (λ (m : Method). same_name m.at.class class && same_name m.at.name name && same_name (descriptor_of m.at.proto) descriptor) app.methods

unfoldable pub body_named : App → Name → Name → Name → Option ℕ
body_named app class name descriptor = first_given (λ (c : Class). method_with app c.name name descriptor) (up app class)

-- whether the class, or an app class or interface above it, has the method without code
unfoldable pub lists_bare : App → Name → Name → Proto → Bool
lists_bare app class name proto = list_any (λ (c : Class). list_any (λ (b : Name × Proto). same_name b.0 name && same_proto b.1 proto) c.bare) (all_above app class)

-- what a call comes to: the number of a method of the app, a class of the library, or nothing
pub data Target : Type 0 where
  Body :
      ℕ →
      Target
  Library :
      Name →
      Target
  Nothing : Target

-- the body, where there is one, and otherwise this
abbrev pub body_or : Option ℕ → Target → Target
body_or (Some body) other = Body body
body_or None other = other

-- the superclass of the class in which the method stands
unfoldable pub superclass_of_caller : App → ℕ → Option Name
superclass_of_caller app caller = elim (slice_get app.methods caller) [ None ↦ None | Some m ↦ elim (class_named app m.at.class) [ None ↦ None | Some c ↦ c.superclass ] ]

-- the target of a call that looks at no receiver's class
abbrev pub direct_target : App → MethodRef → Target
direct_target app at = body_or (find_body app at.class at.name at.proto) (Library at.class)

abbrev pub super_target : App → MethodRef → Option Name → Target
super_target app at None = Library at.class
super_target app at (Some above) = body_or (find_body app above at.name at.proto) (Library at.class)

-- the target of a virtual or interface call, by the class of the receiver's object where it has a place
abbrev pub virtual_target : App → MethodRef → Option Name → Target
virtual_target app at (Some class) = body_or (find_body app class at.name at.proto) (Library (if is_some (class_named app at.class) then class else at.class))
virtual_target app at None = if is_some (find_body app at.class at.name at.proto) || lists_bare app at.class at.name at.proto then Nothing else Library at.class

-- the target of a call of the kind in the method caller, by the class of the receiver's object where that counts
unfoldable pub target : App → CallKind → ℕ → MethodRef → Option Name → Target
target app Static caller at class = direct_target app at
target app Direct caller at class = direct_target app at
target app Super caller at class = super_target app at (superclass_of_caller app caller)
target app Virtual caller at class = virtual_target app at class
target app Interface caller at class = virtual_target app at class

-- whether the class of the receiver's object counts
unfoldable pub is_by_receiver : CallKind → Bool
is_by_receiver Virtual = true
is_by_receiver Interface = true
is_by_receiver Super = false
is_by_receiver Direct = false
is_by_receiver Static = false

abbrev pub is_static_call : CallKind → Bool
is_static_call Static = true
is_static_call Virtual = false
is_static_call Interface = false
is_static_call Super = false
is_static_call Direct = false

-- the key of all elements
abbrev pub elem_key : KeyId
elem_key = record { 0 = 0 }

-- the key of an instance field
abbrev pub is_field : Key → Name → Name → Name → Bool
is_field Elem class name kind = false
is_field (Field c n k) class name kind = same_name c class && same_name n name && same_name k kind

-- the key of the field of the first class upward that defines an instance field of that name and type, else of all elements
unfoldable pub instance_key : App → Name → Name → Name → KeyId
instance_key app class name kind = elim (first_given (λ (c : Class). first_index (λ k. is_field k c.name name kind) app.keys) (up app class)) [ Some k ↦ record { 0 = k } | None ↦ elem_key ]

-- the number of the class's own initialiser
unfoldable pub initialiser_of : App → Name → Option ℕ
initialiser_of app class = method_of app class initialiser_name initialiser_proto

-- the initialisers of the class and of the app classes above it along superclasses
unfoldable pub initialisers_from : App → Name → List ℕ
initialisers_from app class = filter_map (λ (c : Class). initialiser_of app c.name) (up app class)

-- the class that an act initialises: that of a new object, of a static field or of a static method
-- Java Language Specification, "When Initialization Occurs"
abbrev pub class_of_static : App → ℕ → Option Name
class_of_static app g = option_map (λ (field : Name × Name × Name). field.0) (slice_get app.statics g)

unfoldable pub class_initialised : App → Act → Option Name
class_initialised app (New d class size) = Some class
class_initialised app (GetStatic ds g) = class_of_static app g
class_initialised app (PutStatic g x) = class_of_static app g
class_initialised app (Call Static at args) = Some at.class
class_initialised app act = None

-- the initialisers that may run before the act
unfoldable pub initialisers : App → Act → List ℕ
initialisers app act = elim (class_initialised app act) [ None ↦ [] | Some class ↦ initialisers_from app class ]

-- the step of the method at the pc
unfoldable pub step_at : App → ℕ → ℕ → Option Step
step_at app method pc = elim (slice_get app.methods method) [ None ↦ None | Some m ↦ find (λ (s : Step). s.pc == pc) m.steps ]

-- the method has this step at the pc
pub record StepAt (app : App) (method pc : ℕ) (step : Step) : Type 0 where
  pub there : step_at app method pc ≡ Some step

-- the step there has this act
pub record ActAt (app : App) (method pc : ℕ) (act : Act) : Type 0 where
  pub step : Step
  pub there : step_at app method pc ≡ Some step
  pub same : step.act ≡ act

-- control goes from the pc to this one
pub record Goes (app : App) (method pc to : ℕ) : Type 0 where
  pub step : Step
  pub there : step_at app method pc ≡ Some step
  pub next : In to step.next

-- a handler at this pc covers the instruction
pub record Catches (app : App) (method pc to : ℕ) : Type 0 where
  pub step : Step
  pub there : step_at app method pc ≡ Some step
  pub catch : In to step.catches

-- the body has code, or is native
pub record HasCode (app : App) (body : ℕ) (method : Method) : Type 0 where
  pub there : slice_get app.methods body ≡ Some method
  pub code : method.is_native ≡ false

pub record IsNative (app : App) (body : ℕ) : Type 0 where
  pub method : Method
  pub there : slice_get app.methods body ≡ Some method
  pub native : method.is_native ≡ true

-- the initialiser may run before the instruction
pub record Initialises (app : App) (method pc body : ℕ) : Type 0 where
  pub act : Act
  pub at : ActAt app method pc act
  pub is_one : In body (initialisers app act)
