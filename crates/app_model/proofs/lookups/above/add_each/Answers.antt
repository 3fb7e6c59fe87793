use Rattle.std.proofs.Common.{◌≡◌, ◌+◌, [], ◌∷◌, ◌++◌, take, sym, ◌∙◌, ap, arith}
use Rattle.std.proofs.lemmas.List.{take_more}
use Rattle.app_machine.specs.Names.{Name}
use Rattle.app_model.specs.Marks.{is_marked}
use Rattle.app_model.proofs.Searches.{adds_both}
use Rattle.app_model.proofs.lookups.above.add_each.Goals as goal

pub loop-name-preserved : goal.loop-name-preserved
loop-name-preserved c =
    let one : take (c.loop-name.name-index + 1) c.args.names.now ≡ take c.loop-name.name-index c.args.names.now ++ c.as_bytes.result.now ∷ [] =
    take_more c.args.names.now c.loop-name.name-index c.name-item.result (omega arith) ∙ ap (λ (x : Name). take c.loop-name.name-index c.args.names.now ++ x ∷ []) (sym c.name-item.is ∙ sym c.as_bytes.ensures) in
    rw one (adds_both c.args.app.now (take c.loop-name.name-index c.args.names.now) (c.as_bytes.result.now ∷ [])
    (is_marked c.args.seen.now.words) (is_marked c.args.waiting.now.words) (is_marked c.loop-name.seen.words) (is_marked c.loop-name.waiting.words) (is_marked c.add.new.seen.words) (is_marked c.add.new.waiting.words)
    c.loop-name.invariant c.add.ensures)
