use Rattle.std.proofs.Common.{◌≡◌, sym, ◌∙◌}
use Rattle.std.proofs.lemmas.Result.{IfOk-weaker}
use Rattle.device_causes.specs.Hidden.{is_hidden}
use Rattle.device_causes.specs.Path.{known_in, known_hides}
use Rattle.device_causes.proofs.Standing.{told_hidden}
use Rattle.device_causes.proofs.hidden.is_hidden.Goals as goal

pub returns : goal.returns
returns c =
    let known = known_in c.args.path.now.known in
    let ordinary = sym c.is_special.ensures ∙ c.if-is_special.false in
    IfOk-weaker c.is_known_hidden.result (λ b. b ≡ known_hides known c.args.class.now.name c.args.method.now) (λ b. b ≡ is_hidden c.args.app.now c.args.access.now.entries c.args.class.now c.args.method.now)
    (λ b told. told ∙ told_hidden c.args.app.now c.args.access.now.entries c.args.path.now.steps.items known c.args.class.now c.args.method.now c.requires ordinary)
    c.is_known_hidden.ensures
