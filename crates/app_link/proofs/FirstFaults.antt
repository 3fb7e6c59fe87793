-- Which fault is the first, and that an app has none.
use Rattle.std.proofs.Common.{◌≡◌, ◌≢◌, ◌⊎◌, inl, inr, ℕ, min, Ok, Err, List, length, sym, subst}
use Rattle.vet_base.specs.declared.stop.Stop.{Stop}
use Rattle.vet_base.specs.declared.stop.Stop.TheVariants as stops
use Rattle.vet_base.specs.Script.{Script, run, Fails}
use Rattle.dex_tables.specs.declared.dex.Dex.{Dex}
use Rattle.app_machine.specs.declared.papers.Manifest.{Manifest}
use Rattle.app_machine.specs.declared.papers.Layouts.{Layouts}
use Rattle.app_link.specs.declared.linking.LinkFault.{LinkFault}
use Rattle.app_link.specs.declared.linking.LinkFault.TheVariants as told
use Rattle.link_listing.specs.declared.fault.Fault.{Fault}
use Rattle.link_code.specs.declared.coded.Coded.{Coded}
use Rattle.link_code.specs.Code.{all_codes}
use Rattle.link_code.specs.Units.{units_in}
use Rattle.app_link.specs.FirstLinkFault.{FirstFault, of_gathering, of_hierarchy, of_code, of_limits, StopsAtFirst, FirstLinkFault, shown}
use Rattle.link_listing.specs.Gathered.{Gathered, gathering}
use Rattle.link_hierarchy.specs.Hierarchy.{NoCircle}
use Rattle.app_link.specs.Limits.{within_limits}
use Rattle.app_link.proofs.Limits.{same_limits}
use Rattle.link_hierarchy.specs.Settled.{StopsAtCircle}

module _ (dexes : List Dex) (manifest : Manifest) where
  pub at_gathering : (e : Stop Fault) → Fails e (run (gathering dexes manifest)) → StopsAtFirst dexes manifest e
  at_gathering stops.Memory fails = tt
  at_gathering (stops.Fault fault) fails = of_gathering fails

  module _ (gathered : Gathered) (gathers : run (gathering dexes manifest) ≡ Ok gathered) where
    pub at_hierarchy : (e : Stop Fault) → StopsAtCircle gathered.classes e → StopsAtFirst dexes manifest e
    at_hierarchy stops.Memory stop = tt
    at_hierarchy (stops.Fault fault) stop = subst (FirstFault dexes manifest) (sym stop.1) (of_hierarchy gathered gathers stop.2)

    pub at_code : (e : Stop Fault) → NoCircle gathered.classes → Fails e (run (all_codes dexes gathered.methods)) → StopsAtFirst dexes manifest e
    at_code stops.Memory none fails = tt
    at_code (stops.Fault fault) none fails = of_code gathered gathers none fails

    pub at_limits : (e : Stop Fault) (coded : List Coded) (classes methods fields units : ℕ) → NoCircle gathered.classes → run (all_codes dexes gathered.methods) ≡ Ok coded
        → classes ≡ length gathered.classes → methods ≡ length gathered.methods → fields ≡ length gathered.fields → units ≡ min (units_in dexes gathered.methods) 18446744073709551615 → Fails e (run (within_limits classes methods fields units)) → StopsAtFirst dexes manifest e
    at_limits stops.Memory coded classes methods fields units none codes one two three four fails = tt
    at_limits (stops.Fault fault) coded classes methods fields units none codes one two three four fails =
        of_limits gathered coded gathers none codes
        (subst (λ (n : ℕ). run (within_limits n (length gathered.methods) (length gathered.fields) (units_in dexes gathered.methods)) ≡ Err fault) one
        (subst (λ (n : ℕ). run (within_limits classes n (length gathered.fields) (units_in dexes gathered.methods)) ≡ Err fault) two
        (subst (λ (n : ℕ). run (within_limits classes methods n (units_in dexes gathered.methods)) ≡ Err fault) three
        (subst (λ (s : Script Fault (Unit {0})). run s ≡ Err fault) (same_limits classes methods fields units (units_in dexes gathered.methods) four) fails))))

pub told_first : (dexes : List Dex) (manifest : Manifest) (layouts : Layouts) (fault : Fault) (f : LinkFault) → FirstFault dexes manifest fault → (f ≡ told.Memory) ⊎ (f ≡ shown fault) → f ≢ told.Memory → FirstLinkFault dexes manifest layouts f
told_first dexes manifest layouts fault f first (inl memory) other = absurd (other memory)
told_first dexes manifest layouts fault f first (inr shows) other = record { found = fault; first = first; shows = shows }
