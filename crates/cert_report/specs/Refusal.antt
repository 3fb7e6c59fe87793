-- The text that says why a certificate is refused. Bytes are printed in small hexadecimal letters.
use Rattle.std.specs.Prelude.{ℕ, List, ◌++◌, codes}
use Rattle.std.specs.Fmt.{decimal}
use Rattle.hex.specs.Hex.{encode_lower}
use Rattle.cert_rows.specs.Spelling.{row_bytes}
use Rattle.certificate.specs.declared.fault.CertFault.{CertFault}
use Rattle.certificate.specs.declared.fault.CertFault.TheVariants.{Magic, Cut, Order, Bad, Rest, Version}
use Rattle.fact_rows.specs.declared.row.Row.{Row}
use Rattle.cert_report.specs.declared.refusal.CertRefusal.{CertRefusal}
use Rattle.cert_report.specs.declared.refusal.CertRefusal.TheVariants.{Fault, Digest, Stranger, NoStart, NotClosed}

-- a fault of the file, with the offset
unfoldable pub fault_text : CertFault → List ℕ
fault_text Magic = codes "magic"
fault_text Version = codes "version 1"
fault_text (Cut at) = codes "cut at " ++ decimal at
fault_text (Order at) = codes "order at " ++ decimal at
fault_text (Bad at) = codes "bad at " ++ decimal at
fault_text (Rest at) = codes "rest at " ++ decimal at

-- the digest that the certificate has, and then that of the files
unfoldable pub digests_text : List ℕ → List ℕ → List ℕ
digests_text told wanted = codes "digest " ++ encode_lower told ++ codes " " ++ encode_lower wanted

-- a row as a certificate spells it
unfoldable pub row_text : List ℕ → Row → List ℕ
row_text word row = word ++ encode_lower (row_bytes row)

unfoldable pub reason_text : CertRefusal → List ℕ
reason_text (Fault fault) = fault_text fault
reason_text (Digest told wanted) = digests_text told wanted
reason_text (Stranger row) = row_text (codes "stranger ") row
reason_text (NoStart row) = row_text (codes "no start ") row
reason_text (NotClosed row) = row_text (codes "not closed ") row

-- one line
unfoldable pub refusal_text : CertRefusal → List ℕ
refusal_text refusal = codes "certificate refused: " ++ reason_text refusal ++ codes "\n"
