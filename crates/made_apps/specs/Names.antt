-- The names in a generated app.
use Rattle.std.specs.Prelude.{ℕ, List, ◌++◌, codes}
use Rattle.std.specs.Fmt.{decimal}

-- the classes of the app and those of the library that it names
unfoldable pub main_class : List ℕ
main_class = codes "Lgen/Main;"

unfoldable pub work_class : List ℕ
work_class = codes "Lgen/Work;"

unfoldable pub activity_class : List ℕ
activity_class = codes "Landroid/app/Activity;"

unfoldable pub bundle_class : List ℕ
bundle_class = codes "Landroid/os/Bundle;"

unfoldable pub object_class : List ℕ
object_class = codes "Ljava/lang/Object;"

unfoldable pub object_array : List ℕ
object_array = codes "[Ljava/lang/Object;"

unfoldable pub string_class : List ℕ
string_class = codes "Ljava/lang/String;"

unfoldable pub device_class : List ℕ
device_class = codes "Lvendor/Device;"

unfoldable pub net_class : List ℕ
net_class = codes "Lvendor/Net;"

unfoldable pub void : List ℕ
void = codes "V"

-- members
unfoldable pub on_create : List ℕ
on_create = codes "onCreate"

unfoldable pub id : List ℕ
id = codes "id"

unfoldable pub post : List ℕ
post = codes "post"

unfoldable pub static_field : List ℕ
static_field = codes "s"

-- method i
unfoldable pub method_name : ℕ → List ℕ
method_name i = codes "m" ++ decimal i
