-- What comes to a register: that each conclusion follows, and that it is listed.
use Rattle.std.proofs.Common.{ℕ, List}
use Rattle.std.specs.List.{AllByRecursion}
use Rattle.app_machine.specs.declared.app.App.{App}
use Rattle.vet_base.specs.Members.{In}
use Rattle.vet_base.proofs.Members.{in_map, in_flat}
use Rattle.vet_base.proofs.Every.{each_map, each_flat}
use Rattle.fact_rows.specs.declared.context.Node.{Node}
use Rattle.flow_rules.specs.Nodes.{at_pc}
use Rattle.cell_rules.specs.Reading.{ReadAt}
use Rattle.register_readers.specs.Readings.{Readings, readers_from}
use Rattle.rule_ground.specs.declared.conclusion.Conclusion.{Conclusion}
use Rattle.rule_ground.specs.declared.conclusion.Premises.{Premises}
use Rattle.rule_ground.specs.Given.{concludes}
use Rattle.cell_ground.specs.declared.content.Content.{Content}
use Rattle.cell_ground.specs.Coming.{held, at_each, coming, coming_to_all}
use Rattle.cell_ground.specs.Ready.{Ready, read_at}

module _ (rule : ℕ) (premises : Premises) (v : Content) (n : Node) where
  abbrev at : ℕ → ℕ → Conclusion
  at r u = concludes rule premises (held v (at_pc n u) r)

module _ (app : App) (readings : Readings) (ready : Ready app readings) (P : Conclusion → Type 0) (rule : ℕ) (premises : Premises) (v : Content) (n : Node) (pcs : List ℕ) where
  pub coming_sound : (r : ℕ) → ((pc u : ℕ) → In pc pcs → ReadAt app n.by.method r pc u → P (concludes rule premises (held v (at_pc n u) r))) →
      AllByRecursion P (coming readings rule premises v n r pcs)
  coming_sound r h =
      each_flat P (λ pc. at_each rule premises v n r (readers_from readings n.by.method r pc)) pcs
      (λ pc i. each_map P (at rule premises v n r) (readers_from readings n.by.method r pc)
      (λ u j. h pc u i (read_at app readings ready n.by.method r pc u j)))

  pub coming_all_sound : (ds : List ℕ) →
      ((d pc u : ℕ) → In d ds → In pc pcs → ReadAt app n.by.method d pc u → P (concludes rule premises (held v (at_pc n u) d))) →
      AllByRecursion P (coming_to_all readings rule premises v n ds pcs)
  coming_all_sound ds h =
      each_flat P (λ d. coming readings rule premises v n d pcs) ds (λ d i. coming_sound d (λ pc u j read. h d pc u i j read))

module _ (readings : Readings) (rule : ℕ) (premises : Premises) (v : Content) (n : Node) (pcs : List ℕ) where
  pub in_coming : (r pc u : ℕ) → In pc pcs → In u (readers_from readings n.by.method r pc) →
      In (concludes rule premises (held v (at_pc n u) r)) (coming readings rule premises v n r pcs)
  in_coming r pc u i j =
      in_flat (λ pc. at_each rule premises v n r (readers_from readings n.by.method r pc)) pcs pc (at rule premises v n r u) i
      (in_map (at rule premises v n r) (readers_from readings n.by.method r pc) u j)

  pub in_coming_all : (ds : List ℕ) (d pc u : ℕ) → In d ds → In pc pcs → In u (readers_from readings n.by.method d pc) →
      In (concludes rule premises (held v (at_pc n u) d)) (coming_to_all readings rule premises v n ds pcs)
  in_coming_all ds d pc u i j k =
      in_flat (λ d. coming readings rule premises v n d pcs) ds d (at rule premises v n d u) i (in_coming d pc u j k)
