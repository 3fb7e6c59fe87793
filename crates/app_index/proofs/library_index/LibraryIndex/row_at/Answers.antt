use Rattle.std.proofs.Common.{◌∙◌, ap}
use Rattle.app_machine.specs.Summaries.{row_of}
use Rattle.app_index.proofs.RowKeys.{IsKeyOf, row_there}
use Rattle.app_index.proofs.library_index.LibraryIndex.row_at.Goals as goal

pub returns : goal.returns
returns c =
    let key = c.method_key-key.result in
    let made = c.method_key-key.ensures in
    let class = c.args.class.now in
    let name = c.args.name.now in
    let proto = c.args.proto.now in
    let is : IsKeyOf class name proto c.args.is_static key = record { class = made.class; name = made.name; params = made.params; ret = made.ret; is_static = made.is_static } in
    c.copied.ensures ∙ (c.get.ensures.value ∙ (row_there c.self.inside.methods c.self.inside.lists.now class name proto c.args.is_static key c.self.invariant.methods is
    ∙ ap (λ lists. row_of lists class name proto c.args.is_static) c.self.view_is))
