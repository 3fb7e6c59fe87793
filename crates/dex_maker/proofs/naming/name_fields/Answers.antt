use Rattle.std.proofs.Common.{List, refl}
use Rattle.dex_writer.specs.declared.tables.Tables.{Tables}
use Rattle.dex_maker.specs.declared.listing.ListedField.{ListedField}
use Rattle.dex_writer.specs.Tables.{and_field}
use Rattle.dex_maker.specs.Naming.{with_fields}
use Rattle.dex_writer.proofs.Passes.{pass_step, pass_done}
use Rattle.dex_maker.proofs.naming.name_fields.Goals as goal

pub loop-field-preserved : goal.loop-field-preserved
loop-field-preserved c = pass_step (λ (t : Tables) (fs : List ListedField). with_fields t c.args.class.now fs) (λ (t : Tables) (f : ListedField). and_field t c.args.class.now f.name f.kind) (λ t x xs. refl) c.loop-field.field-index c.args.fields.now c.field-item.result _ _ _ c.loop-field-test.true c.field-item.is c.loop-field.invariant c.in_ok-push_field.ensures

pub returns : goal.returns
returns c = pass_done (λ (t : Tables) (fs : List ListedField). with_fields t c.args.class.now fs) (λ (t : Tables) (f : ListedField). and_field t c.args.class.now f.name f.kind) (λ t. refl) c.loop-field.field-index c.args.fields.now _ _ c.loop-field-test.false c.loop-field.invariant
