-- Which listings have a file that can be read, and what stands in it.
use Rattle.std.specs.Prelude.{◌≡◌, ℕ, ◌+◌, ◌<◌, ◌≤◌, List, length, sum_by, None, IfSome, IfNone}
use Rattle.std.specs.List.{AllByRecursion}
use Rattle.dex_tables.specs.declared.dex.Dex.{Dex}
use Rattle.dex_reader.specs.Dex.{params_of, interfaces_of, IsDex}
use Rattle.dex_maker.specs.declared.listing.Listing.{Listing}
use Rattle.dex_maker.specs.declared.listing.ListedClass.{ListedClass}
use Rattle.dex_maker.specs.declared.listing.ListedField.{ListedField}
use Rattle.dex_maker.specs.declared.listing.ListedMethod.{ListedMethod}
use Rattle.dex_maker.specs.declared.listing.ListedCode.{ListedCode}
use Rattle.dex_maker.specs.declared.listing.ListedTry.{ListedTry}
use Rattle.dex_maker.specs.declared.listing.ListedLine.{ListedLine}
use Rattle.dex_maker.specs.declared.listing.ListedLine.TheVariants.{Plain, Packed, Sparse, Filled}
use Rattle.dex_maker.specs.declared.listing.Operand.{Operand}
use Rattle.dex_maker.specs.declared.listing.Operand.TheVariants.{Nothing, Text, Class, Field, Method}
use Rattle.dex_maker.specs.Naming.{tables_of}
use Rattle.dex_maker.specs.Classes.{class_defs_from}
use Rattle.dex_maker.specs.Made.{Makeable, dex_bytes, fault_of}
use Rattle.dex_round_trip.specs.Costs.{class_cost}
use Rattle.dex_round_trip.specs.Values.{dex_value}
use Rattle.dex_round_trip.specs.Named.{EachPair, IsClassOf}

-- no byte of a name is 0
abbrev pub IsName : List ℕ → Type 0
IsName name = AllByRecursion (λ b. 0 < b) name

abbrev pub AreNames : List (List ℕ) → Type 0
AreNames names = AllByRecursion IsName names

pub record FieldCanBeRead (f : ListedField) : Type 0 where
  pub name : IsName f.name
  pub kind : IsName f.kind
  pub flags : f.flags < 4294967296

abbrev pub OperandCanBeRead : Operand → Type 0
OperandCanBeRead Nothing = Unit {0}
OperandCanBeRead (Text text) = IsName text
OperandCanBeRead (Class class) = IsName class
OperandCanBeRead (Field class name kind) = IsName class × IsName name × IsName kind
OperandCanBeRead (Method class name params ret) = IsName class × IsName name × AreNames params × IsName ret

abbrev pub LineCanBeRead : ListedLine → Type 0
LineCanBeRead (Plain opcode registers literal operand target) = (opcode < 256) × OperandCanBeRead operand
LineCanBeRead (Packed switch first_key targets) = Unit {0}
LineCanBeRead (Sparse switch pairs) = Unit {0}
LineCanBeRead (Filled width bytes) = (width < 65536) × AllByRecursion (λ b. b < 256) bytes

-- A try has at most 8 types that it handles, and where it has none it handles all. (A handler of neither can't be written:
-- its size would be 0, behind which the address for all types stands.)
pub record TryCanBeRead (item : ListedTry) : Type 0 where
  pub names : AllByRecursion (λ (h : List ℕ × ℕ). IsName h.0) item.handlers
  pub few : length item.handlers ≤ 8
  pub handles : IfNone item.catch_all (0 < length item.handlers)

pub record CodeCanBeRead (code : ListedCode) : Type 0 where
  pub registers : code.registers < 65536
  pub ins : code.ins < 65536
  pub lines : AllByRecursion LineCanBeRead code.lines
  pub tries : AllByRecursion TryCanBeRead code.tries
  pub few : length code.tries ≤ 500

pub record MethodCanBeRead (m : ListedMethod) : Type 0 where
  pub name : IsName m.name
  pub params : AreNames m.params
  pub ret : IsName m.ret
  pub flags : m.flags < 4294967296
  pub code : IfSome m.code CodeCanBeRead

pub record ClassCanBeRead (c : ListedClass) : Type 0 where
  pub name : IsName c.name
  pub superclass : IfSome c.superclass IsName
  pub interfaces : AreNames c.interfaces
  pub flags : c.flags < 4294967296
  pub fields : AllByRecursion FieldCanBeRead c.fields
  pub methods : AllByRecursion MethodCanBeRead c.methods

-- what stands in the file of a listing: its tables, and its classes in their order
unfoldable pub dex_of : Listing → Dex
dex_of listing = dex_value (tables_of listing) (class_defs_from (tables_of listing) 0 0 listing.classes)

-- A listing of names, of numbers that are of their types and of tries that can be written, whose file keeps to the limits of
-- a DEX file: classes, members and units; bytes of names; entries of type lists; and try items, handlers and pairs.
pub record CanBeRead (listing : Listing) : Type 0 where
  pub within : Makeable listing
  pub classes : AllByRecursion ClassCanBeRead listing.classes
  pub names : sum_by length (dex_of listing).strings ≤ 33554432
  pub type_lists : sum_by params_of (dex_of listing).protos + sum_by interfaces_of (dex_of listing).classes ≤ 4000000
  pub tries : sum_by class_cost (dex_of listing).classes ≤ 1000000

-- Where there is a file of a listing, the listing stands in it: the reader's one value of the file is the listing's, and its
-- classes are those of the listing, in its order, under their names.
pub record IsReadBack (listing : Listing) : Type 0 where
  pub stands : IsDex (dex_bytes listing) (dex_of listing)
  pub classes : EachPair (IsClassOf (dex_of listing) (tables_of listing)) (dex_of listing).classes listing.classes

abbrev pub ListingsReadAgain : Type 0
ListingsReadAgain = (listing : Listing) → CanBeRead listing → fault_of listing ≡ None → IsReadBack listing

-- What is read of a listing's file has a class for each class of the listing.
abbrev pub EachClassIsReadBack : Type 0
EachClassIsReadBack = (listing : Listing) (dex : Dex) → dex ≡ dex_of listing → length dex.classes ≡ length listing.classes
