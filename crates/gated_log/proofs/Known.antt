-- Whether the first bytes are those by which a log is known.
use Rattle.std.proofs.Common.{◌≡◌, ℕ, Bool, true, false, List, take, drop, sym, ◌∙◌, Option, Some, None}
use Rattle.std.specs.Prelude.{IfSome, nat_eq}
use Rattle.std.specs.Cmp.Lexicographic.{pointwise, bytes_decides}
use Rattle.disks.specs.Disks.{Told}
use Rattle.gated_log.specs.Format.{magic}
use Rattle.gated_log.specs.Known.{IsKnown}

pub is_known : (o : Option Told) (found : List ℕ) (holds : Bool) → holds ≡ pointwise nat_eq found magic
    → IfSome o (λ t. found ≡ take 8 (drop 0 t.now.bytes)) → IfSome o (λ t. IsKnown holds t.now.bytes)
is_known None found holds is piece = tt
is_known (Some t) found true is piece = sym piece ∙ (bytes_decides found magic).0 (sym is)
is_known (Some t) found false is piece = λ same.
    let holds : pointwise nat_eq found magic ≡ true = (bytes_decides found magic).1 (piece ∙ same) in
    let both : false ≡ true = is ∙ holds in
    absurd cc
