use Rattle.client_body.proofs.Encoded.{AreTexts}
use Rattle.client_body.proofs.body.dex_values.Given as goal

abbrev pub invariant-loop-file : goal.invariant-loop-file
invariant-loop-file l = AreTexts l.values.items l.files l.file-index
