use Rattle.std.proofs.Common.{◌≡◌, ◌↔◌, IsTrue, ℕ, List, map, subst}
use Rattle.std.specs.Char.{to_ascii_lowercase}
use Rattle.httparse.specs.Spans.{header_bytes}
use Rattle.desk_http.specs.Fields.{content_length}
use Rattle.desk_http.proofs.Named.{tells_name}
use Rattle.client_replies.proofs.fields.is_named.Goals as goal

pub returns : goal.returns
returns c =
    let same = c.eq_ignore_ascii_case.result in
    let by_field = subst (λ (xs : List ℕ). IsTrue same ↔ (map to_ascii_lowercase xs ≡ map to_ascii_lowercase c.content_length.result.now)) c.of.ensures c.eq_ignore_ascii_case.ensures.test in
    let test = subst (λ (name : List ℕ). IsTrue same ↔ (map to_ascii_lowercase (header_bytes c.args.bytes.now c.args.field.now).0 ≡ map to_ascii_lowercase name)) c.content_length.ensures by_field in
    tells_name content_length (header_bytes c.args.bytes.now c.args.field.now) same test
