use Rattle.std.proofs.Common.{length, string_bytes}
use Rattle.std.proofs.lemmas.Bool.{le-leb}
use Rattle.serde_json.specs.View.{view}
use Rattle.client_body.proofs.Encoded.{value_is, text_is, reads_back, decoded_back}
use Rattle.client_body.proofs.Submitted.{submission_of}
use Rattle.client_body.proofs.body.body_of.Goals as goal

pub returns-clause-text : goal.returns-clause-text
returns-clause-text c =
    let texts = c.args.texts.now in
    let built = view c.in_ok-value.value in
    let is = value_is built c.args.reference.now texts.manifest.now texts.layouts.now texts.declaration.now c.in_ok-values.values.items c.args.dex.now c.in_ok-value.ensures c.in_ok-values.ensures.texts in
    text_is built (string_bytes c.in_ok-text.text) c.args.reference.now texts.manifest.now texts.layouts.now texts.declaration.now c.args.dex.now is c.in_ok-text.ensures.text

pub returns-clause-read : goal.returns-clause-read
returns-clause-read c utf8 =
    let texts = c.args.texts.now in
    let built = view c.in_ok-value.value in
    let text = string_bytes c.in_ok-text.text in
    let is = value_is built c.args.reference.now texts.manifest.now texts.layouts.now texts.declaration.now c.in_ok-values.values.items c.args.dex.now c.in_ok-value.ensures c.in_ok-values.ensures.texts in
    submission_of c.args.reference.now texts.manifest.now texts.layouts.now texts.declaration.now c.args.dex.now text
    (reads_back built text c.args.reference.now texts.manifest.now texts.layouts.now texts.declaration.now c.args.dex.now is c.in_ok-text.ensures.reads_back utf8)
    c.requires.reference
    (le-leb 1 (length c.args.dex.now) c.requires.dex.0)
    (le-leb (length c.args.dex.now) 16 c.requires.dex.1)
    (decoded_back c.in_ok-values.values.items c.args.dex.now c.in_ok-values.ensures.texts c.in_ok-values.ensures.decoded)
