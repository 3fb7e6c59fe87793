use Rattle.std.proofs.Common.{◌≡◌, drop, find}
use Rattle.std.specs.Option.{option_or, option_copied}
use Rattle.store_office.specs.Office.{has_token}
use Rattle.store_office.proofs.office.Office.party_of.Given as goal

abbrev pub invariant-loop-party : goal.invariant-loop-party
invariant-loop-party l = find (has_token l.token) l.self.parties ≡ option_or (option_copied l.found) (find (has_token l.token) (drop l.party-index l.party-items))
