use Rattle.client_http.proofs.Requested.{makes_whole, reads_whole}
use Rattle.client_http.proofs.request.of_texts.Goals as goal

pub returns-clause-made : goal.returns-clause-made
returns-clause-made c =
    let texts = c.args.texts.now in
    makes_whole c.args.token.now c.args.reference.now c.args.content.now texts.manifest.now texts.layouts.now texts.declaration.now c.as_slice.result.now
    c.requires.texts c.as_slice.ensures c.of_parts.result c.as_bytes.result.now c.text_of.result.now c.as_bytes.ensures c.text_of.ensures
    c.of_parts.ensures.made

pub returns-clause-read : goal.returns-clause-read
returns-clause-read c =
    let texts = c.args.texts.now in
    reads_whole c.args.token.now c.args.reference.now c.args.content.now texts.manifest.now texts.layouts.now texts.declaration.now c.as_slice.result.now
    c.requires.texts c.as_slice.ensures c.of_parts.result c.as_bytes.result.now c.text_of.result.now c.as_bytes.ensures c.text_of.ensures
    c.of_parts.ensures.read
