-- The texts of lists that were read keep to their spellings.
use Rattle.std.specs.Prelude.{◌≤◌, IsTrue, length}
use Rattle.std.specs.List.{All}
use Rattle.app_machine.specs.Names.{Name}
use Rattle.app_machine.specs.declared.call.Proto.{Proto}
use Rattle.app_machine.specs.declared.lists.Lists.{Lists}
use Rattle.app_machine.specs.declared.lists.LibClass.{LibClass}
use Rattle.device_lists.specs.declared.DeviceLists.{DeviceLists}
use Rattle.form_fields.specs.Spelling.{is_short, is_class, is_prefix, is_category}
use Rattle.method_fields.specs.Spelled.{SpelledProto}

-- a class of the library and those above it are spelled as classes
pub record SpelledClass (class : LibClass) : Type 0 where
  pub name : IsTrue (is_class class.name)
  pub above : All (λ higher. IsTrue (is_class higher)) class.above

-- a shared object: a name of 1 to 255 bytes, and a class
pub record SpelledShared (name class : Name) : Type 0 where
  pub named : IsTrue (is_short name)
  pub of_class : IsTrue (is_class class)

-- a method: a class, a name of 1 to 255 bytes, and a prototype
pub record SpelledMethod (class name : Name) (proto : Proto) : Type 0 where
  pub of_class : IsTrue (is_class class)
  pub named : IsTrue (is_short name)
  pub typed : SpelledProto proto

-- the texts of the lists; what holds of their numbers is said by `SoundLists`
pub record SpelledLists (lists : Lists) : Type 0 where
  pub categories : All (λ category. IsTrue (is_category category)) lists.categories
  pub classes : All SpelledClass lists.classes
  pub shared : All (λ shared. SpelledShared shared.0 shared.1) lists.shared
  pub methods : All (λ method. SpelledMethod method.class method.name method.proto) lists.methods
  pub callbacks : All (λ callback. SpelledMethod callback.class callback.name callback.proto) lists.callbacks

-- at most 4,096 beginnings of names in each list
pub record SoundDevice (device : DeviceLists) : Type 0 where
  pub few_platform : length device.platform ≤ 4096
  pub few_bundled : length device.bundled ≤ 4096
  pub platform : All (λ start. IsTrue (is_prefix start)) device.platform
  pub bundled : All (λ start. IsTrue (is_prefix start)) device.bundled
