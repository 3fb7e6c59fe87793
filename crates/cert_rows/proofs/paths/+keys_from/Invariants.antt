use Rattle.cert_rows.proofs.paths.+keys_from.Given as goal

abbrev pub decreases-keys_from : goal.decreases-keys_from
decreases-keys_from l = l.count
