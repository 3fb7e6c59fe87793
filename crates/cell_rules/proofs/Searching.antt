-- The readers of a register are those met that read it.
use Rattle.std.proofs.Common.{ℕ, List}
use Rattle.app_machine.specs.declared.app.App.{App}
use Rattle.vet_base.specs.Members.{In}
use Rattle.cell_rules.specs.Reading.{ReadAt, read_here, read_next, read_caught}
use Rattle.cell_rules.specs.Searching.{Keeps, to_next, to_handler, KeepsTo, at_once, further, ReadsHere, ReadersAreMet}

module _ (app : App) (method r : ℕ) where
  found : (met : List ℕ) → ((v next : ℕ) → In v met → Keeps app method r v next → In next met) → (pc u : ℕ) → In pc met → ReadAt app method r pc u →
      In u met × ReadsHere app method r u
  found met closed pc u here (read_here {act = act} at is_read) = (here, record { act = act; at = at; is_read = is_read })
  found met closed pc u here (read_next {next = next} at other goes read) = found met closed next u (closed pc next here (to_next at other goes)) read
  found met closed pc u here (read_caught {next = next} other caught read) = found met closed next u (closed pc next here (to_handler other caught)) read

  before : {v next u : ℕ} → Keeps app method r v next → ReadAt app method r next u → ReadAt app method r v u
  before (to_next at other goes) read = read_next at other goes read
  before (to_handler other caught) read = read_caught other caught read

  from_first : (pc v u : ℕ) → KeepsTo app method r pc v → ReadAt app method r v u → ReadAt app method r pc u
  from_first pc v u at_once read = read
  from_first pc v u (further {v = w} more step) read = from_first pc w u more (before step read)

pub readers_are_met : ReadersAreMet
readers_are_met app method r pc met are u = (
  λ read. found app method r met are.closed pc u are.first read,
  λ h. from_first app method r pc u u (are.only u h.0) (read_here h.1.at h.1.is_read),
)
