use Rattle.std.proofs.Common.{◌≡◌, subst, sym, ◌∙◌}
use Rattle.std.specs.Str.{IsUtf8}
use Rattle.client_body.specs.Bodies.{IsSubmission, body_of}
use Rattle.client_http.specs.Submissions.{content_with}
use Rattle.client_http.proofs.Requested.{makes_from, reads_from}
use Rattle.client_http.proofs.request.of_parts.Goals as goal

pub returns-clause-made : goal.returns-clause-made
returns-clause-made c =
    let texts = c.args.texts.now in
    let reference = c.args.reference.now in
    let content = content_with texts.manifest.now texts.layouts.now texts.declaration.now c.args.dex.now in
    let is : c.as_str.result.now ≡ body_of reference content = c.as_str.ensures.value ∙ c.in-Ok.ensures.text in
    makes_from c.args.token.now reference content c.as_str.result.now is c.with_limit.result c.with_limit.ensures

pub returns-clause-read : goal.returns-clause-read
returns-clause-read c =
    let texts = c.args.texts.now in
    let reference = c.args.reference.now in
    let content = content_with texts.manifest.now texts.layouts.now texts.declaration.now c.args.dex.now in
    let text = c.as_str.result.now in
    let is : text ≡ body_of reference content = c.as_str.ensures.value ∙ c.in-Ok.ensures.text in
    let utf8 = subst IsUtf8 c.as_str.ensures.value c.as_str.utf8 in
    let submits : IsSubmission reference content text = subst (IsSubmission reference content) (sym c.as_str.ensures.value) (c.in-Ok.ensures.read utf8) in
    reads_from c.args.token.now reference content text is c.with_limit.result c.requires.token submits c.with_limit.ensures
