use Rattle.std.proofs.Common.{◌≡◌, ◌∙◌, ap}
use Rattle.std.proofs.lemmas.Result.{IfOk-weaker}
use Rattle.std.specs.Option.{option_copied}
use Rattle.device_causes.specs.Path.{known_in, signature_of}
use Rattle.device_causes.specs.Seen.{begun}
use Rattle.device_causes.proofs.path.seen_of.Goals as goal

pub returns : goal.returns
returns c =
    let there : option_copied c.get.result ≡ known_in c.args.known.now (signature_of c.args.method.now) = c.get.ensures.value ∙ ap (known_in c.args.known.now) c.in_ok-key.ensures in
    IfOk-weaker c.begun.result (λ s. s ≡ begun (option_copied c.get.result)) (λ s. s ≡ begun (known_in c.args.known.now (signature_of c.args.method.now))) (λ s is. is ∙ ap begun there) c.begun.ensures
