-- How a judgement halts: for want of memory, or with a refusal.
use Rattle.std.specs.Prelude.{◌≡◌, ◌≢◌, ℕ}
use Rattle.vet_base.specs.declared.stop.Stop.{Stop}
use Rattle.vet_base.specs.declared.stop.Stop.TheVariants as stops
use Rattle.dex_reader.specs.declared.told.DexFault.{DexFault}
use Rattle.dex_reader.specs.declared.told.DexFault.TheVariants as dex_fault
use Rattle.app_link.specs.declared.linking.LinkFault.{LinkFault}
use Rattle.app_link.specs.declared.linking.LinkFault.TheVariants as link_fault
use Rattle.form_fields.specs.declared.told.FormFault.{FormFault}
use Rattle.form_fields.specs.declared.told.FormFault.TheVariants as told
use Rattle.verdict.specs.declared.outcome.Part.{Part}
use Rattle.verdict.specs.declared.outcome.Part.TheVariants as part
use Rattle.verdict.specs.declared.outcome.Reason.{Reason}
use Rattle.verdict.specs.declared.outcome.Reason.TheVariants as reason
use Rattle.verdict.specs.declared.papers.Refusal.{Refusal}

-- unless memory ran out, these refuse the part for the reason
abbrev pub Halts : (Part → Reason → Type 0) → Stop Refusal → Type 0
Halts Refused stops.Memory = Unit {0}
Halts Refused (stops.Fault r) = Refused r.part r.reason

-- unless memory ran out, the form has this fault
abbrev pub StopsWith : FormFault → Stop FormFault → Type 0
StopsWith fault stops.Memory = Unit {0}
StopsWith fault (stops.Fault f) = (fault ≢ told.Memory) × (f ≡ fault)

-- the part's form has the fault
abbrev pub HaltsForm : Part → FormFault → Stop Refusal → Type 0
HaltsForm part fault stops.Memory = Unit {0}
HaltsForm part fault (stops.Fault r) = (fault ≢ told.Memory) × (r ≡ record { part = part; reason = reason.Form fault })

-- the DEX file of that number has the fault
abbrev pub HaltsFault : ℕ → DexFault → Stop Refusal → Type 0
HaltsFault i fault stops.Memory = Unit {0}
HaltsFault i fault (stops.Fault r) = (fault ≢ dex_fault.Memory) × (r ≡ record { part = part.Dex i; reason = reason.Dex fault })

-- the files have the fault, and are no app
abbrev pub HaltsLink : LinkFault → Stop Refusal → Type 0
HaltsLink fault stops.Memory = Unit {0}
HaltsLink fault (stops.Fault r) = (fault ≢ link_fault.Memory) × (r ≡ record { part = part.App; reason = reason.Link fault })
