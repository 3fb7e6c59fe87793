use Rattle.std.proofs.Common.{◌≡◌, ◌↔◌, IsTrue, ℕ, List, map, subst}
use Rattle.std.specs.Char.{to_ascii_lowercase}
use Rattle.httparse.specs.Spans.{header_bytes}
use Rattle.desk_http.proofs.Named.{tells_name}
use Rattle.desk_http.proofs.fields.has_name.Goals as goal

pub returns : goal.returns
returns c =
    let same = c.eq_ignore_ascii_case.result in
    let test = subst (λ (xs : List ℕ). IsTrue same ↔ (map to_ascii_lowercase xs ≡ map to_ascii_lowercase c.args.name.now)) c.of.ensures c.eq_ignore_ascii_case.ensures.test in
    tells_name c.args.name.now (header_bytes c.args.bytes.now c.args.field.now) same test
