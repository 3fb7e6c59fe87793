-- What a code item is, with its try items and handlers (Android documentation, "Dalvik executable format", code_item,
-- try_item, encoded_catch_handler_list, encoded_catch_handler and encoded_type_addr_pair).
use Rattle.std.specs.Prelude.{◌≡◌, ℕ, ℤ, ◌+◌, ◌*◌, ◌%◌, ◌<◌, ◌==◌, List, [], ◌∷◌, length, sum_by, Option, Some, None, Bool, true, false, if◌then◌else◌}
use Rattle.vet_base.specs.Numbers.{sleb}
use Rattle.dex_tables.specs.declared.dex.RawCode.{RawCode}
use Rattle.dex_tables.specs.declared.dex.RawTry.{RawTry}
use Rattle.dex_bodies.specs.declared.handlers.Handler.{Handler}
use Rattle.dex_bodies.specs.declared.tries.TryItem.{TryItem}
use Rattle.dex_tables.specs.declared.place.Totals.{Totals}
use Rattle.dex_tables.specs.Sequences.{Is2, Is4, IsLeb, RowsStand, Follow, AtOffset}
use Rattle.dex_bodies.specs.Handlers.{pair_count, catches_all, handler_at}
use Rattle.dex_bodies.specs.Tries.{raw_try}
use Rattle.dex_tables.specs.Totals.{no_totals}

-- a type and an address, which add one to the total
pub record IsPair (file : List ℕ) (types from : ℕ) (pair : ℕ × ℕ) (adds to : ℕ) : Type 0 where
  pub mid : ℕ
  pub kind_is : IsLeb file from pair.0 mid
  pub kind_below : pair.0 < types
  pub address_is : IsLeb file mid pair.1 to
  pub one : adds ≡ 1

-- where a handler catches all, the address stands behind the pairs
abbrev pub IsCatchAll : Bool → List ℕ → ℕ → Option ℕ → ℕ → Type 0
IsCatchAll true file at catch_all to = (address : ℕ) × (catch_all ≡ Some address) × IsLeb file at address to
IsCatchAll false file at catch_all to = (catch_all ≡ None) × (at ≡ to)

-- a handler: its size, so many pairs, and where the size is 0 or below an address for all types
pub record IsHandler (file : List ℕ) (types from : ℕ) (handler : Handler) (adds to : ℕ) : Type 0 where
  pub size : ℤ
  pub begin : ℕ
  pub end : ℕ
  pub paired : ℕ
  pub stands_at : handler.at ≡ from
  pub size_is : sleb file from ≡ Some (size, begin)
  pub count : length handler.pairs ≡ pair_count size
  pub pairs : Follow 0 (λ a b. a + b) (IsPair file types) begin handler.pairs paired end
  pub catch_all : IsCatchAll (catches_all size) file end handler.catch_all to
  pub one_more : adds ≡ paired + 1

-- a try item: its first unit, how many units, and where its handler begins
pub record IsTryItem (file : List ℕ) (at : ℕ) (item : TryItem) : Type 0 where
  pub start_is : Is4 file at item.start
  pub count_is : Is2 file (at + 4) item.count
  pub handler_is : Is2 file (at + 6) item.handler

-- a try: its item with the pairs and the address of the handler that begins where the item says, from the list's begin on
pub record IsTry (handlers : List Handler) (list : ℕ) (item : TryItem) (a_try : RawTry) : Type 0 where
  pub handler : Handler
  pub begins : handler_at (list + item.handler) handlers ≡ Some handler
  pub is : a_try ≡ raw_try item handler

abbrev pub AreTries : List Handler → ℕ → List TryItem → List RawTry → Type 0
AreTries handlers list [] [] = Unit {0}
AreTries handlers list [] (t ∷ tries) = ⊥
AreTries handlers list (item ∷ items) [] = ⊥
AreTries handlers list (item ∷ items) (t ∷ tries) = IsTry handlers list item t × AreTries handlers list items tries

abbrev pub pairs_of : RawTry → ℕ
pairs_of a_try = length a_try.handlers

-- Try items of eight bytes each, and behind them the list of handlers. What they add: the items, the handlers with their
-- pairs, and the pairs of each try once more.
pub record HasTries (file : List ℕ) (types begin : ℕ) (tries : List RawTry) (adds : ℕ) : Type 0 where
  pub items : List TryItem
  pub handlers : List Handler
  pub first : ℕ
  pub end : ℕ
  pub handled : ℕ
  pub items_stand : RowsStand (IsTryItem file) 8 begin items
  pub size_is : IsLeb file (begin + 8 * length items) (length handlers) first
  pub handlers_stand : Follow 0 (λ a b. a + b) (IsHandler file types) first handlers handled end
  pub are : AreTries handlers (begin + 8 * length items) items tries
  pub sum : adds ≡ length items + handled + sum_by pairs_of tries

-- without try items there is no padding and no list of handlers
abbrev pub MaybeTries : List ℕ → ℕ → ℕ → List RawTry → ℕ → Type 0
MaybeTries file types begin [] adds = adds ≡ 0
MaybeTries file types begin (t ∷ tries) adds = HasTries file types begin (t ∷ tries) adds

-- The end of so many units, and behind an odd count of them two bytes of padding.
abbrev pub padded : ℕ → ℕ → ℕ
padded at units = at + 2 * units + (if units % 2 == 0 then 0 else 2)

-- A code item. Its debug offset, at byte 8, is not looked at.
pub record IsCode (file : List ℕ) (types at : ℕ) (code : RawCode) (adds : Totals) : Type 0 where
  pub tried : ℕ
  pub registers_is : Is2 file at code.registers
  pub ins_is : Is2 file (at + 2) code.ins
  pub outs_is : Is2 file (at + 4) code.outs
  pub tries_is : Is2 file (at + 6) (length code.tries)
  pub units_is : Is4 file (at + 12) (length code.units)
  pub units : RowsStand (Is2 file) 2 (at + 16) code.units
  pub tries : MaybeTries file types (padded (at + 16) (length code.units)) code.tries tried
  pub adds_is : adds ≡ record { members = 0; units = length code.units; tries = tried }

pub record IsSomeCode (file : List ℕ) (types at : ℕ) (code : Option RawCode) (adds : Totals) : Type 0 where
  pub item : RawCode
  pub is : code ≡ Some item
  pub stands : IsCode file types at item adds

abbrev pub MaybeCode : List ℕ → ℕ → ℕ → Option RawCode → Totals → Type 0
MaybeCode file types at code adds = AtOffset at ((code ≡ None) × (adds ≡ no_totals)) (IsSomeCode file types at code adds)
