-- What is told of the small app. Behind each fact stands what code would answer that does otherwise.
use Rattle.std.specs.Prelude.{◌≡◌, ℕ, List, [], ◌∷◌}
use Rattle.app_machine.specs.declared.papers.Declaration.{Declaration}
use Rattle.app_machine.specs.Names.{Name}
use Rattle.app_machine.specs.Safe.{no_summary, native}
use Rattle.app_machine.specs.Sound.{SoundApp}
use Rattle.fact_rows.specs.declared.context.Ctx.TheVariants as ctx
use Rattle.fact_rows.specs.declared.context.Node.{Node}
use Rattle.fact_rows.specs.declared.row.Row.{Row}
use Rattle.fact_rows.specs.declared.row.Row.TheVariants.{Arrive, Unknown}
use Rattle.outcomes.specs.declared.outcome.Cause.TheVariants.{NoSummary, Native, Provider}
use Rattle.outcomes.specs.declared.outcome.Finding.{Finding}
use Rattle.outcomes.specs.declared.outcome.Place.{Place}
use Rattle.outcomes.specs.Causes.{causes_of}
use Rattle.outcomes.specs.Findings.{findings_of}
use Rattle.outcomes.specs.Within.{AreWithin}
use Rattle.answer_witness.specs.Office.{device, mail, network, provider_class, on_create, office, office_lists}

-- the two instructions of `onCreate`, as nodes and as places
abbrev pub node_at : ℕ → Node
node_at pc = record { by = record { ctx = ctx.Row 0 1; method = 0 }; pc = pc }

abbrev pub place_at : ℕ → Place
place_at pc = record { at = on_create; pc = pc }

-- what a row says: a label that comes to a sink at 0, a call without a row there, and native code at 2
abbrev pub arrives : ℕ → ℕ → Row
arrives label sink = Arrive label sink (node_at 0)

abbrev pub without_row : Row
without_row = Unknown (node_at 0) no_summary

abbrev pub is_native : Row
is_native = Unknown (node_at 2) native

-- the declaration that names this pair alone, of the device and mail
abbrev pub to_mail : Declaration
to_mail = record { pairs = (device, mail) ∷ [] }

abbrev pub found : Name → Name → Finding
found source sink = record { source = source; sink = sink; at = place_at 0 }

abbrev pub findings : List Row → List Finding
findings rows = findings_of office office_lists to_mail rows

pub record TellsOutcomes : Type 0 where
  -- the app is sound, and the rows name its method, as the code asks
  pub sound : SoundApp office
  pub within : AreWithin office (arrives 0 1 ∷ arrives 0 2 ∷ arrives 1 2 ∷ without_row ∷ is_native ∷ [])
  -- the declared pair is no finding, and another of the same source is; by the source alone it is none
  pub declared : findings (arrives 0 1 ∷ []) ≡ []
  pub undeclared : findings (arrives 0 2 ∷ []) ≡ found device network ∷ []
  -- findings come by the names of their sources, whatever the order of rows; from the greatest on the mail comes first
  pub in_order : findings (arrives 1 2 ∷ arrives 0 2 ∷ []) ≡ found device network ∷ found mail network ∷ []
  -- A call without a row, native code and the provider are causes, each of its kind. Without the first or the last there are two,
  -- and native code told as reflection is `Reflective`.
  pub causes : causes_of office (without_row ∷ is_native ∷ []) ≡ NoSummary (place_at 0) ∷ Native (place_at 2) ∷ Provider provider_class ∷ []

abbrev pub OutcomesAreTold : Type 0
OutcomesAreTold = TellsOutcomes
