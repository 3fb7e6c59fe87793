-- What the code of a method is in a file, where it has a call and a try. Behind each fact stands what a slip would write.
use Rattle.std.specs.Prelude.{◌≡◌, pos, [], ◌∷◌, None, codes}
use Rattle.dex_maker.specs.declared.listing.ListedCode.{ListedCode}
use Rattle.dex_maker.specs.declared.listing.ListedLine.TheVariants.{Plain}
use Rattle.dex_maker.specs.declared.listing.Operand.TheVariants.{Nothing, Method}
use Rattle.dex_maker.specs.Codes.{raw_code}
use Rattle.dex_tables.specs.declared.dex.RawTry.{RawTry}
use Rattle.dex_writer.specs.declared.tables.Tables.{Tables}
use Rattle.dex_writer.specs.Tables.{type_index}

-- `invoke-static {v0, v1}, La;.m(II)V`, which is tried; and the line that handles `Le;`
abbrev pub guarded : ListedCode
guarded = record {
  registers = 2;
  ins = 2;
  lines =
      Plain 0x71 (0 ∷ 1 ∷ []) (pos 0) (Method (codes "La;") (codes "m") (codes "I" ∷ codes "I" ∷ []) (codes "V")) None
      ∷ Plain 0x0E [] (pos 0) Nothing None
      ∷ [];
  tries = record { start = 0; end = 1; handlers = (codes "Le;", 1) ∷ []; catch_all = None } ∷ [];
}

-- its try in a file: three units from the first on, and `Le;` is handled at the unit behind these
abbrev pub guarding : Tables → RawTry
guarding t = record { start = 0; count = 3; handlers = (type_index t (codes "Le;"), 3) ∷ []; catch_all = None }

pub record CodesTell (t : Tables) : Type 0 where
  -- a call of two registers needs two words for what it passes on (else none)
  pub outs : (raw_code t guarded).outs ≡ 2
  -- what a try handles stands with it (else nothing)
  pub handlers : (raw_code t guarded).tries ≡ guarding t ∷ []
