use Rattle.std.proofs.Common.{◌≡◌, ◌∙◌, ap}
use Rattle.std.specs.Option.{option_copied}
use Rattle.device_causes.specs.Path.{known_in, signature_of}
use Rattle.device_causes.specs.Seen.{maybe_hides}
use Rattle.device_causes.proofs.path.is_known_hidden.Goals as goal

pub returns : goal.returns
returns c =
    let there : option_copied c.get.result ≡ known_in c.args.path.now.known (signature_of c.args.method.now) = c.get.ensures.value ∙ ap (known_in c.args.path.now.known) c.in_ok-key.ensures in
    c.maybe_hides.ensures ∙ ap (λ o. maybe_hides o c.args.class.now c.args.method.now) there
