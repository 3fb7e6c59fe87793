-- What comes to a register, as a list of conclusions.
use Rattle.std.specs.Prelude.{ℕ, List, map, flat_map}
use Rattle.vet_base.specs.declared.key_id.KeyId.{KeyId}
use Rattle.fact_rows.specs.declared.context.Activation.{Activation}
use Rattle.fact_rows.specs.declared.context.Node.{Node}
use Rattle.fact_rows.specs.declared.site.Site.{Site}
use Rattle.fact_rows.specs.declared.row.Row.{Row}
use Rattle.fact_rows.specs.declared.row.Row.TheVariants as fact
use Rattle.flow_rules.specs.Nodes.{at_pc}
use Rattle.register_readers.specs.Readings.{Readings, readers_from}
use Rattle.rule_ground.specs.declared.conclusion.Conclusion.{Conclusion}
use Rattle.rule_ground.specs.declared.conclusion.Premises.{Premises}
use Rattle.rule_ground.specs.Given.{concludes}
use Rattle.cell_ground.specs.declared.content.Content.{Content}
use Rattle.cell_ground.specs.declared.content.Content.TheVariants.{Object, Label}

-- the content in a register, in a static, out of an activation, and in an object
abbrev pub held : Content → Node → ℕ → Row
held (Object s) n r = fact.Points n r s
held (Label l) n r = fact.Label n r l

abbrev pub held_static : Content → ℕ → Row
held_static (Object s) g = fact.StaticPoints g s
held_static (Label l) g = fact.StaticLabel g l

abbrev pub leaves : Content → Activation → ℕ → Row
leaves (Object s) a how = fact.ExitPoints a how s
leaves (Label l) a how = fact.ExitLabel a how l

abbrev pub stored : Content → Site → KeyId → Row
stored (Object t) s k = fact.Cell s k t
stored (Label l) s k = fact.CellLabel s k l

-- that the register holds the content at each of the addresses, wherever it is read from one of them, and so of each of the registers
abbrev pub at_each : ℕ → Premises → Content → Node → ℕ → List ℕ → List Conclusion
at_each rule premises v n r pcs = map (λ pc. concludes rule premises (held v (at_pc n pc) r)) pcs

abbrev pub coming : Readings → ℕ → Premises → Content → Node → ℕ → List ℕ → List Conclusion
coming readings rule premises v n r pcs = flat_map (λ pc. at_each rule premises v n r (readers_from readings n.by.method r pc)) pcs

abbrev pub coming_to_all : Readings → ℕ → Premises → Content → Node → List ℕ → List ℕ → List Conclusion
coming_to_all readings rule premises v n ds pcs = flat_map (λ d. coming readings rule premises v n d pcs) ds
