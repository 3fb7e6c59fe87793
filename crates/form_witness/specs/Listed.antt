-- That no class is listed twice, and nothing is spent that is not there. Behind each fact stands what a slip would answer.
use Rattle.std.specs.Prelude.{◌≡◌, ◌<◌, ℕ, ◌+◌, [], ◌∷◌, None, codes, Err}
use Rattle.vet_base.specs.Script.{run}
use Rattle.app_machine.specs.declared.papers.Manifest.{Manifest}
use Rattle.dex_tables.specs.declared.dex.ClassDef.{ClassDef}
use Rattle.dex_tables.specs.declared.dex.Dex.{Dex}
use Rattle.link_listing.specs.declared.fault.Fault.TheVariants.{TwoClasses}
use Rattle.link_listing.specs.Gathered.{gathering}

abbrev pub bare_class : ClassDef
bare_class = record { class = 0; flags = 0; superclass = None; interfaces = []; statics = []; instances = []; directs = []; virtuals = [] }

-- a file that defines `La;` twice
abbrev pub twice : Dex
twice = record { strings = codes "La;" ∷ []; types = 0 ∷ []; protos = []; fields = []; methods = []; classes = bare_class ∷ bare_class ∷ [] }

abbrev pub no_parts : Manifest
no_parts = record { «package» = codes "a"; dex_files = 1; application = None; components = [] }

pub record ListingsTell : Type 0 where
  -- a class that is defined twice is refused (else the second would take the place of the first)
  pub two_classes : run (gathering (twice ∷ []) no_parts) ≡ Err (TwoClasses (codes "La;"))
  -- no rest and a cost come to what is left where less is left (else that would be taken as spent)
  pub too_dear : (left rest cost : ℕ) → left < cost → rest + cost ≡ left → ⊥
