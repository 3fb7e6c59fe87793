use Rattle.std.proofs.Common.{◌+◌, Some, ap, sym, subst, ◌∙◌}
use Rattle.serde_json.specs.declared.value.Value.{Value}
use Rattle.std.specs.Prelude.{List}
use Rattle.client_body.specs.Bodies.{dex_text}
use Rattle.client_body.proofs.Encoded.{AreTexts, goes_on}
use Rattle.client_body.proofs.body.dex_values.Goals as goal

pub loop-file-preserved : goal.loop-file-preserved
loop-file-preserved c =
    let files = c.args.files.now in
    let at = c.loop-file.file-index in
    let text = c.in_ok-value.ensures.text ∙ ap dex_text c.as_slice.ensures in
    let back = c.in_ok-value.ensures.decoded ∙ ap Some c.as_slice.ensures in
    subst (λ (values : List Value). AreTexts values files (at + 1)) (sym c.in_ok-push.ensures.items)
    (goes_on c.loop-file.values.items files at c.in_ok-value.value c.file-item.result c.loop-file-test.true c.file-item.is text back c.loop-file.invariant)
