-- The forms of a generated app.
use Rattle.std.specs.Prelude.{ℕ, List, codes}

-- the package `gen` of one DEX file, whose one component is the activity `Lgen/Main;`
unfoldable pub manifest_text : List ℕ
manifest_text = codes "package = \"gen\"\ndex_files = 1\n\n[[component]]\nkind = \"activity\"\nclass = \"Lgen/Main;\"\n"
