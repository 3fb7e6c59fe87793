-- What some generated apps are, whole, and how their texts and files begin. Behind each fact stands what a slip would make.
use Rattle.std.specs.Prelude.{◌≡◌, ℕ, pos, List, [], ◌∷◌, Some, None, codes, take, drop}
use Rattle.dex_maker.specs.declared.listing.Listing.{Listing}
use Rattle.dex_maker.specs.declared.listing.ListedClass.{ListedClass}
use Rattle.dex_maker.specs.declared.listing.ListedMethod.{ListedMethod}
use Rattle.dex_maker.specs.declared.listing.ListedLine.{ListedLine}
use Rattle.dex_maker.specs.declared.listing.ListedLine.TheVariants.{Plain}
use Rattle.dex_maker.specs.declared.listing.Operand.{Operand}
use Rattle.dex_maker.specs.declared.listing.Operand.TheVariants.{Nothing, Field, Method}
use Rattle.dex_maker.specs.Made.{dex_bytes}
use Rattle.made_apps.specs.Forms.{manifest_text}
use Rattle.made_apps.specs.Lists.{lists_text}
use Rattle.made_apps.specs.Made.{made}

-- instructions ("Dalvik bytecode")
abbrev pub invoke_static : List ℕ → Operand → ListedLine
invoke_static arguments method = Plain 0x71 arguments (pos 0) method None

abbrev pub move_result_object : ℕ → ListedLine
move_result_object to = Plain 0x0C (to ∷ []) (pos 0) Nothing None

abbrev pub return_object : ℕ → ListedLine
return_object from = Plain 0x11 (from ∷ []) (pos 0) Nothing None

abbrev pub return_void : ListedLine
return_void = Plain 0x0E [] (pos 0) Nothing None

abbrev pub const_4 : ℕ → ℕ → ListedLine
const_4 to value = Plain 0x12 (to ∷ []) (pos value) Nothing None

abbrev pub sput_object : ℕ → Operand → ListedLine
sput_object from field = Plain 0x69 (from ∷ []) (pos 0) field None

-- what they name
abbrev pub object : List ℕ
object = codes "Ljava/lang/Object;"

abbrev pub id : Operand
id = Method (codes "Lvendor/Device;") (codes "id") [] (codes "Ljava/lang/String;")

abbrev pub post : Operand
post = Method (codes "Lvendor/Net;") (codes "post") (object ∷ []) (codes "V")

abbrev pub work : List ℕ → Operand
work name = Method (codes "Lgen/Work;") name (object ∷ []) object

-- the activity, whose `onCreate` does this
abbrev pub main_with : List ListedLine → ListedClass
main_with lines = record {
  name = codes "Lgen/Main;";
  flags = 1;
  superclass = Some (codes "Landroid/app/Activity;");
  interfaces = [];
  fields = [];
  methods = record {
    name = codes "onCreate";
    params = codes "Landroid/os/Bundle;" ∷ [];
    ret = codes "V";
    flags = 1;
    code = Some (record { registers = 4; ins = 2; lines = lines; tries = [] });
  } ∷ [];
}

-- a drawn method that does this, and the class of such methods
abbrev pub drawn_method : List ℕ → List ListedLine → ListedMethod
drawn_method name lines = record { name = name; params = object ∷ []; ret = object; flags = 9; code = Some (record { registers = 3; ins = 1; lines = lines; tries = [] }) }

abbrev pub work_with : List ListedMethod → ListedClass
work_with methods = record {
  name = codes "Lgen/Work;";
  flags = 1;
  superclass = Some object;
  interfaces = [];
  fields = record { name = codes "s"; kind = object; flags = 9 } ∷ [];
  methods = methods;
}

-- The id is passed to `m0`, and its result is sent away; `m0` stores its argument. (A slip would not call it, would name it `m1`,
-- would send the argument in place of the result, or would let it return the argument.)
abbrev pub stored_app : Listing
stored_app = record {
  classes =
      main_with (
      invoke_static [] id ∷ move_result_object 0
      ∷ invoke_static (0 ∷ []) (work (codes "m0")) ∷ move_result_object 1 ∷ invoke_static (1 ∷ []) post
      ∷ return_void ∷ []
      )
      ∷ work_with (drawn_method (codes "m0") (sput_object 2 (Field (codes "Lgen/Work;") (codes "s") object) ∷ const_4 0 0 ∷ return_object 0 ∷ []) ∷ [])
      ∷ [];
}

-- The same with two methods: `m0` passes its argument on to `m1`, which returns it. (A slip would let `m0` call itself, or `m1`
-- take its argument through an array; so would draws modulo 2 ^ 31 - 1.)
abbrev pub passed_on_app : Listing
passed_on_app = record {
  classes =
      main_with (
      invoke_static [] id ∷ move_result_object 0
      ∷ invoke_static (0 ∷ []) (work (codes "m0")) ∷ move_result_object 1 ∷ invoke_static (1 ∷ []) post
      ∷ invoke_static (0 ∷ []) (work (codes "m1")) ∷ move_result_object 1 ∷ invoke_static (1 ∷ []) post
      ∷ return_void ∷ []
      )
      ∷ work_with (
      drawn_method (codes "m0") (invoke_static (2 ∷ []) (work (codes "m1")) ∷ move_result_object 0 ∷ return_object 0 ∷ [])
      ∷ drawn_method (codes "m1") (return_object 2 ∷ [])
      ∷ []
      )
      ∷ [];
}

pub record MadeAppsTell : Type 0 where
  -- seed 3 draws a method that stores
  pub stored : made 3 1 ≡ stored_app
  -- seed 42 draws one that passes on, and for the last one a return
  pub passed_on : made 42 2 ≡ passed_on_app
  -- a file begins with the magic of version 035 (else it would have no bytes)
  pub begins : (listing : Listing) → take 8 (dex_bytes listing) ≡ 100 ∷ 101 ∷ 120 ∷ 10 ∷ 48 ∷ 51 ∷ 53 ∷ 0 ∷ []
  -- behind the package the manifest says one file (else two)
  pub one_file : take 13 (drop 16 manifest_text) ≡ codes "dex_files = 1"
  -- behind two lines of comment the lists say 4,000,000 rows (else 200,000)
  pub most_rows : take 14 (drop 157 lists_text) ≡ codes "rows = 4000000"
