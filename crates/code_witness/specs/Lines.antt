-- What a line writes, where control goes from it, and where an exception does. Behind each fact stands what a slip would answer.
use Rattle.std.specs.Prelude.{◌≡◌, ℕ, pos, List, [], ◌∷◌, map, Some, None, Option}
use Rattle.dex_tables.specs.declared.dex.RawTry.{RawTry}
use Rattle.app_machine.specs.declared.method.Act.TheVariants.{Move, Join, Put}
use Rattle.app_machine.specs.Lookups.{elem_key}
use Rattle.dex_code.specs.declared.insn.Insn.TheVariants.{F10x, F12x, F23x, F30t, F31t, F35c, Packed}
use Rattle.dex_code.specs.declared.names.Named.TheVariants.{Nothing}
use Rattle.dex_code.specs.declared.names.Naming.TheVariants as naming
use Rattle.dex_code.specs.Acts.{act_of, naming_of}
use Rattle.dex_code.specs.Lines.{Line}
use Rattle.dex_code.specs.Next.{next_of, catches_of}

-- a try of the unit 0 that handles exceptions of type 0 at 5, and all others there where it says so
abbrev pub guard : Option ℕ → RawTry
guard catch_all = record { start = 0; count = 1; handlers = (0, 5) ∷ []; catch_all = catch_all }

-- a try of so many units from a place on, with handlers of exceptions of type 0 at these places
abbrev pub tried : ℕ → ℕ → List (ℕ × ℕ) → Option ℕ → RawTry
tried start count handlers catch_all = record { start = start; count = count; handlers = handlers; catch_all = catch_all }

-- one of 0 to 3, and one of 2 to 4
abbrev pub two_tries : List RawTry
two_tries = tried 0 4 ((0, 9) ∷ (0, 7) ∷ []) (Some 8) ∷ tried 2 3 ((0, 7) ∷ []) None ∷ []

-- of 0 to 5, of 2 and 3, of 3 to 7, of nothing, and of 7 and 8
abbrev pub overlapping : List RawTry
overlapping = tried 0 6 ((0, 20) ∷ []) (Some 10) ∷ tried 2 2 ((0, 30) ∷ []) None ∷ tried 3 5 ((0, 10) ∷ (0, 40) ∷ []) None
    ∷ tried 5 0 ((0, 50) ∷ []) None ∷ tried 7 2 [] (Some 20) ∷ []

-- `goto/32` to itself
abbrev pub loop : Line
loop = (0, F30t 0x2A 0)

-- two `packed-switch` that share a table, whose two distances are 3; a `return-void`, a `nop` that is padding, and the table
abbrev pub padding : List Line
padding = (8, Packed (pos 0) (pos 3 ∷ pos 3 ∷ [])) ∷ []

abbrev pub behind_second : List Line
behind_second = (6, F10x 0x0E) ∷ (7, F10x 0) ∷ padding

abbrev pub shared_table : List Line
shared_table = (0, F31t 0x2B 0 8) ∷ (3, F31t 0x2B 0 8) ∷ behind_second

pub record LinesAreTold : Type 0 where
  -- `move-wide v0, v2` needs no name, and writes two registers (else v0 alone)
  pub needs_no_name : naming_of (F12x 0x04 0 2) ≡ naming.Nothing
  pub wide_move : act_of (F12x 0x04 0 2) Nothing ≡ Move (0 ∷ 1 ∷ []) 2
  -- beside a handler the catch-all is there (else 5 alone)
  pub beside_a_handler : catches_of (guard (Some 6) ∷ []) 0 ≡ 5 ∷ 6 ∷ []
  -- the unit behind a try is not covered (else by 5)
  pub behind_a_try : catches_of (guard None ∷ []) 1 ≡ []
  -- `add-long/2addr v0, v2` reads two registers and writes a pair (else v0 alone)
  pub wide_sum : act_of (F12x 0xBB 0 2) Nothing ≡ Join (0 ∷ 1 ∷ []) (0 ∷ 2 ∷ [])
  pub sum_needs_no_name : naming_of (F12x 0xBB 0 2) ≡ naming.Nothing
  -- `aput v1, v2, v3` puts v1 into v2 (else v2 into v1)
  pub element_put : act_of (F23x 0x4B 1 2 3) Nothing ≡ Put 2 elem_key 1
  pub put_needs_no_name : naming_of (F23x 0x4B 1 2 3) ≡ naming.Nothing
  -- a call names its method (else nothing)
  pub names_its_method : naming_of (F35c 0x6E 7 []) ≡ naming.Method 7
  -- control goes on to the target alone (else to the end too)
  pub itself : next_of (loop ∷ []) loop [] ≡ 0 ∷ []
  -- each switch counts from itself, and goes once to where its table sends it twice and where it goes on (else three times)
  pub first_switch : next_of shared_table (0, F31t 0x2B 0 8) ((3, F31t 0x2B 0 8) ∷ behind_second) ≡ 3 ∷ []
  pub second_switch : next_of shared_table (3, F31t 0x2B 0 8) behind_second ≡ 6 ∷ []
  -- nothing comes behind a return, and no payload behind padding (else 7, and 8)
  pub returned : next_of shared_table (6, F10x 0x0E) ((7, F10x 0) ∷ padding) ≡ []
  pub padded : next_of shared_table (7, F10x 0) padding ≡ []
  -- the handlers of all tries that cover a line, each once and ascending (else those of the first try, or 7 twice)
  pub under_two : map (catches_of two_tries) (0 ∷ 1 ∷ 2 ∷ 3 ∷ 4 ∷ 5 ∷ [])
      ≡ (7 ∷ 8 ∷ 9 ∷ []) ∷ (7 ∷ 8 ∷ 9 ∷ []) ∷ (7 ∷ 8 ∷ 9 ∷ []) ∷ (7 ∷ 8 ∷ 9 ∷ []) ∷ (7 ∷ []) ∷ [] ∷ []
  pub under_five : map (catches_of overlapping) (0 ∷ 1 ∷ 2 ∷ 3 ∷ 4 ∷ 5 ∷ 6 ∷ 7 ∷ 8 ∷ 9 ∷ [])
      ≡ (10 ∷ 20 ∷ []) ∷ (10 ∷ 20 ∷ []) ∷ (10 ∷ 20 ∷ 30 ∷ []) ∷ (10 ∷ 20 ∷ 30 ∷ 40 ∷ []) ∷ (10 ∷ 20 ∷ 40 ∷ []) ∷ (10 ∷ 20 ∷ 40 ∷ [])
      ∷ (10 ∷ 40 ∷ []) ∷ (10 ∷ 20 ∷ 40 ∷ []) ∷ (20 ∷ []) ∷ [] ∷ []
