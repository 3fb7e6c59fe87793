-- What an instruction names, as the app has it.
use Rattle.std.specs.Prelude.{ℕ, List}
use Rattle.vet_base.specs.declared.key_id.KeyId.{KeyId}
use Rattle.dex_tables.specs.declared.dex.Dex.{Dex}
use Rattle.dex_code.specs.declared.names.Named.{Named}
use Rattle.dex_code.specs.declared.names.Named.TheVariants as named
use Rattle.dex_code.specs.declared.names.Naming.{Naming}
use Rattle.dex_code.specs.declared.names.Naming.TheVariants as naming
use Rattle.app_machine.specs.declared.app.App.{App}
use Rattle.app_machine.specs.Lookups.{instance_key}
use Rattle.link_listing.specs.Texts.{Triple, type_of, field_of, method_of}
use Rattle.link_listing.specs.MemberRows.{Fields}
use Rattle.link_code.specs.Statics.{number_of}

-- the key of the field of that index
unfoldable pub key_of : App → Dex → ℕ → KeyId
key_of app dex i = instance_key app (field_of dex i).0 (field_of dex i).1 (field_of dex i).2

-- what that index stands for
unfoldable pub named_of : App → Fields → List Triple → Dex → Naming → Named
named_of app fields statics dex naming.Nothing = named.Nothing
named_of app fields statics dex (naming.Class i) = named.Class (type_of dex i)
named_of app fields statics dex (naming.Method i) = named.Method (method_of dex i)
named_of app fields statics dex (naming.InstanceField i) = named.Key (key_of app dex i)
named_of app fields statics dex (naming.StaticField i) = named.Static (number_of app fields statics dex i)
