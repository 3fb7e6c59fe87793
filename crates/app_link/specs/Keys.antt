-- The keys: all elements, and then each instance field by class, name and type.
use Rattle.std.specs.Prelude.{Bool, true, false, List, [], ◌∷◌, flat_map}
use Rattle.app_machine.specs.declared.app.Key.{Key}
use Rattle.app_machine.specs.declared.app.Key.TheVariants.{Elem, Field}
use Rattle.link_listing.specs.Texts.{Triple}
use Rattle.link_listing.specs.MemberRows.{Fields}

abbrev pub key_unless : Bool → Triple → List Key
key_unless true field = []
key_unless false field = Field field.0 field.1 field.2 ∷ []

unfoldable pub key_if : Triple × Bool → List Key
key_if entry = key_unless entry.1 entry.0

unfoldable pub all_keys : Fields → List Key
all_keys fields = Elem ∷ flat_map key_if fields
