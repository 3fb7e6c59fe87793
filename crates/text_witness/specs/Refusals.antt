-- The lines for some certificates that are refused, each whole. Behind each fact stands what a slip would print.
use Rattle.std.specs.Prelude.{◌≡◌, codes, replicate}
use Rattle.certificate.specs.declared.fault.CertFault.TheVariants.{Rest}
use Rattle.cert_report.specs.declared.refusal.CertRefusal.TheVariants.{Fault, Digest, Stranger}
use Rattle.cert_report.specs.Refusal.{refusal_text}
use Rattle.fact_rows.specs.declared.context.Ctx.TheVariants.{Init, Call2}
use Rattle.fact_rows.specs.declared.context.Activation.{Activation}
use Rattle.fact_rows.specs.declared.row.Row.{Row}
use Rattle.fact_rows.specs.declared.row.Row.TheVariants.{ExitPoints, Unknown}
use Rattle.fact_rows.specs.declared.site.Site.TheVariants.{Component}

-- method 9 in the context of the initialiser of component 7, left in a way (2) that is neither a return nor a throw
abbrev pub strange_exit : Row
strange_exit = ExitPoints (record { ctx = Init 7; method = 9 }) 2 (Component 5)

-- method 5 behind two calls
abbrev pub behind_two : Activation
behind_two = record { ctx = Call2 1 2 3 4; method = 5 }

pub record RefusalsTell : Type 0 where
  -- bytes behind the last row are told as a rest (else as rows out of order)
  pub rest : refusal_text (Fault (Rest 5)) ≡ codes "certificate refused: rest at 5\n"
  -- the certificate's digest comes first, and then that of the files (else the other way round)
  pub digests : refusal_text (Digest (replicate 32 10) (replicate 32 171))
      ≡ codes "certificate refused: digest 0a0a0a0a0a0a0a0a0a0a0a0a0a0a0a0a0a0a0a0a0a0a0a0a0a0a0a0a0a0a0a0a abababababababababababababababababababababababababababababababab\n"
  -- a row that no certificate spells is told as it is (else with the exit 0 in place of 2)
  pub stranger : refusal_text (Stranger strange_exit) ≡ codes "certificate refused: stranger 0c04070000000000000009000000020205000000\n"
  -- so are an end 9, and a cause 0 (else as the end 0, and as the cause 1)
  pub strange_end : refusal_text (Stranger (ExitPoints behind_two 9 (Component 6))) ≡ codes "certificate refused: stranger 0c060100000002000000030000000400000005000000090206000000\n"
  pub no_cause : refusal_text (Stranger (Unknown (record { by = behind_two; pc = 8 }) 0)) ≡ codes "certificate refused: stranger 130601000000020000000300000004000000050000000800000000\n"
