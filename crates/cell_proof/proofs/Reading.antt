-- Where a register is read in a sound app there is a step, and the register is the app's.
use Rattle.std.proofs.Common.{ℕ, inl, inr}
use Rattle.vet_base.specs.Members.{In}
use Rattle.vet_base.proofs.Members.{in_back}
use Rattle.app_machine.specs.declared.method.Act.{Act}
use Rattle.app_machine.specs.declared.method.Act.TheVariants.{Join, Move, New, Fill, Get, Put, PutStatic, Call, Return, Throw, TakeResult, TakeException}
use Rattle.app_machine.specs.declared.lists.Lists.{Lists}
use Rattle.app_machine.specs.declared.app.App.{App}
use Rattle.app_machine.specs.Sound.{registers_of, SoundApp}
use Rattle.fact_rows.specs.declared.context.Activation.{Activation}
use Rattle.fact_rows.specs.declared.site.Site.{Site}
use Rattle.fact_rows.specs.declared.row.Row.TheVariants.{Points, Label}
use Rattle.fact_rows.specs.InApp.{ActivationIn, PlaceIn, at_step, RegisterIn, is_result, is_exception, CategoryIn}
use Rattle.cell_rules.specs.InApp.{CellSiteIn, CellInApp}
use Rattle.cell_rules.specs.Reading.{reads, ReadAt, read_here, read_next, read_caught, node_in}
use Rattle.flow_proof.proofs.Places.{named_register}

module _ (app : App) (a : Activation) (u r : ℕ) where
  -- a register that is read is one that the act names, RES or EXC
  register_in : (act : Act) → (In r (registers_of act) → RegisterIn app (node_in a u) r) → In r (reads act) → RegisterIn app (node_in a u) r
  register_in (Join ds xs) named h = named (in_back r ds xs h)
  register_in (Move ds x) named (inl same) = named (inl same)
  register_in (Move ds x) named (inr none) = absurd none
  register_in (New d class size) named h = named (inr h)
  register_in (Fill xs class) named h = named h
  register_in (Get ds o k) named (inl same) = named (inl same)
  register_in (Get ds o k) named (inr none) = absurd none
  register_in (Put o k x) named h = named h
  register_in (PutStatic g x) named h = named h
  register_in (Call kind at args) named h = named h
  register_in (Return x) named h = named h
  register_in (Throw x) named h = named h
  register_in (TakeResult ds) named (inl same) = is_result same
  register_in (TakeResult ds) named (inr none) = absurd none
  register_in (TakeException d) named (inl same) = is_exception same
  register_in (TakeException d) named (inr none) = absurd none
  register_in act named none = absurd none

-- the place at which the register is read, and the register there
pub read_in : {app : App} {a : Activation} {r pc u : ℕ} → SoundApp app → ReadAt app a.method r pc u →
    PlaceIn app a.method u × RegisterIn app (node_in a u) r
read_in sound (read_next act other goes read) = read_in sound read
read_in sound (read_caught other caught read) = read_in sound read
read_in {app} {a} {r} {pc} sound (read_here {act = act} at read) =
    (at_step (record { there = at.there }), register_in app a pc r act (λ h. named_register sound {n = node_in a pc} {pc = pc} at h) read)

module _ {app : App} {lists : Lists} (sound : SoundApp app) where
  -- what comes to a register stands in the app
  pub points_in : {a : Activation} {r pc u : ℕ} (s : Site) → ActivationIn app lists a → ReadAt app a.method r pc u → CellSiteIn app lists s →
      CellInApp app lists (Points (node_in a u) r s)
  points_in {a} s activation read site = let at = read_in {a = a} sound read in (record { activation = activation; place = at.0 }, (at.1, (site, tt)))

  pub label_in : {a : Activation} {r pc u l : ℕ} → ActivationIn app lists a → ReadAt app a.method r pc u → CategoryIn lists l →
      CellInApp app lists (Label (node_in a u) r l)
  label_in {a} activation read category =
      let at = read_in {a = a} sound read in (record { activation = activation; place = at.0 }, (at.1, (category, tt)))
