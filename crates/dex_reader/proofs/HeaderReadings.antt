-- A header that is read stands there, and one that stands there is read.
use Rattle.std.proofs.Common.{◌≡◌, ℕ, ◌+◌, ◌≤◌, true, List, length, Some, Ok, refl, subst, arith}
use Rattle.std.proofs.lemmas.Bool.{leb-true, le-leb, eqb-true, and_parts}
use Rattle.std.specs.Prelude.{nat_le, nat_eq, ◌&&◌}
use Rattle.std.specs.List.{starts_with}
use Rattle.vet_base.specs.Numbers.{u4}
use Rattle.vet_base.specs.Script.{run}
use Rattle.dex_tables.specs.declared.header.Header.{Header}
use Rattle.dex_tables.specs.declared.header.Section.{Section}
use Rattle.dex_tables.specs.Headers.{magic, section_at, file_size_at, header_at}
use Rattle.dex_tables.specs.Sequences.{Is4}
use Rattle.dex_reader.specs.Dex.{IsSection, IsHeader}
use Rattle.dex_tables.proofs.Readings.{there_ok}
use Rattle.dex_tables.proofs.Numbers.{u4_is, u4_behind}
use Rattle.vet_base.proofs.Runs.{bind_ok, test_ok, bind_runs, value_is}

-- the header
section_is : (bytes : List ℕ) (at : ℕ) (x : Section) → run (section_at bytes at) ≡ Ok x → IsSection bytes at x
unfolding section_at
section_is bytes at x e =
    let a = there_ok (u4 bytes at) _ _ _ _ e in
    let b = there_ok (u4 bytes a.0.1) _ _ _ _ a.2 in
    let size = u4_is bytes at a.0 a.1 in
    let offset = u4_behind bytes (at + 4) a.0.1 b.0 b.1 size.1 in
    subst (λ (t : Section). IsSection bytes at t) (value_is _ _ b.2) (size.0, offset.0)

section_again : (bytes : List ℕ) (at : ℕ) (x : Section) → IsSection bytes at x → run (section_at bytes at) ≡ Ok x
unfolding section_at
section_again bytes at x is =
    let size : u4 bytes at ≡ Some (x.size, at + 4) = is.0 in
    let offset : u4 bytes (at + 4) ≡ Some (x.at, at + 4 + 4) = is.1 in
    rw (size, offset) refl

record SizeRead (bytes : List ℕ) (size : ℕ) : Type 0 where
  magic_is : starts_with nat_eq bytes magic ≡ true
  whole : 112 ≤ size
  within : size ≤ length bytes
  file_size : Is4 bytes 32 size
  header_size : Is4 bytes 36 112
  endian_tag : Is4 bytes 40 305419896

file_size_is : (bytes : List ℕ) (x : ℕ) → run (file_size_at bytes) ≡ Ok x → SizeRead bytes x
unfolding file_size_at
file_size_is bytes x e =
    let a = test_ok (starts_with nat_eq bytes magic) _ _ _ e in
    let b = test_ok (nat_le 112 (length bytes)) _ _ _ a.1 in
    let c = there_ok (u4 bytes 32) _ _ _ _ b.1 in
    let d = test_ok (nat_le 112 c.0.0 && nat_le c.0.0 (length bytes)) _ _ _ c.2 in
    let f = there_ok (u4 bytes 36) _ _ _ _ d.1 in
    let g = test_ok (nat_eq f.0.0 112) _ _ _ f.2 in
    let h = there_ok (u4 bytes 40) _ _ _ _ g.1 in
    let k = test_ok (nat_eq h.0.0 305419896) _ _ _ h.2 in
    let size = u4_is bytes 32 c.0 c.1 in
    let header_size = u4_is bytes 36 f.0 f.1 in
    let tag = u4_is bytes 40 h.0 h.1 in
    let range = and_parts (nat_le 112 c.0.0) (nat_le c.0.0 (length bytes)) d.0 in
    subst (λ (n : ℕ). SizeRead bytes n) (value_is _ _ k.1)
    (record {
      magic_is = a.0;
      whole = leb-true _ _ range.0;
      within = leb-true _ _ range.1;
      file_size = size.0;
      header_size = subst (λ (n : ℕ). Is4 bytes 36 n) (eqb-true _ _ g.0) header_size.0;
      endian_tag = subst (λ (n : ℕ). Is4 bytes 40 n) (eqb-true _ _ k.0) tag.0;
    })

file_size_again : (bytes : List ℕ) (x : ℕ) → SizeRead bytes x → run (file_size_at bytes) ≡ Ok x
unfolding file_size_at
file_size_again bytes x is =
    let starts : starts_with nat_eq bytes magic ≡ true = is.magic_is in
    let low : 112 ≤ x = is.whole in
    let high : x ≤ length bytes = is.within in
    let long : 112 ≤ length bytes = omega arith in
    let size : u4 bytes 32 ≡ Some (x, 36) = is.file_size in
    let header_size : u4 bytes 36 ≡ Some (112, 40) = is.header_size in
    let tag : u4 bytes 40 ≡ Some (305419896, 44) = is.endian_tag in
    rw (starts, le-leb 112 (length bytes) long, size, le-leb 112 x low, le-leb x (length bytes) high, header_size, tag) refl

pub header_is : (bytes : List ℕ) (x : Header) → run (header_at bytes) ≡ Ok x → IsHeader bytes x
unfolding header_at
header_is bytes x e =
    let a = bind_ok (file_size_at bytes) _ _ e in
    let b = bind_ok (section_at bytes 56) _ _ a.2 in
    let c = bind_ok (section_at bytes 64) _ _ b.2 in
    let d = bind_ok (section_at bytes 72) _ _ c.2 in
    let f = bind_ok (section_at bytes 80) _ _ d.2 in
    let g = bind_ok (section_at bytes 88) _ _ f.2 in
    let h = bind_ok (section_at bytes 96) _ _ g.2 in
    let size = file_size_is bytes a.0 a.1 in
    subst (λ (y : Header). IsHeader bytes y) (value_is _ _ h.2)
    (record {
      magic_is = size.magic_is;
      whole = size.whole;
      within = size.within;
      file_size = size.file_size;
      header_size = size.header_size;
      endian_tag = size.endian_tag;
      strings = section_is bytes 56 b.0 b.1;
      types = section_is bytes 64 c.0 c.1;
      protos = section_is bytes 72 d.0 d.1;
      fields = section_is bytes 80 f.0 f.1;
      methods = section_is bytes 88 g.0 g.1;
      classes = section_is bytes 96 h.0 h.1;
    })

pub header_again : (bytes : List ℕ) (x : Header) → IsHeader bytes x → run (header_at bytes) ≡ Ok x
unfolding header_at
header_again bytes x is =
    let size = file_size_again bytes x.file_size (record { magic_is = is.magic_is; whole = is.whole; within = is.within; file_size = is.file_size; header_size = is.header_size; endian_tag = is.endian_tag }) in
    bind_runs (file_size_at bytes) _ _ _ size
    (bind_runs (section_at bytes 56) _ _ _ (section_again bytes 56 x.strings is.strings)
    (bind_runs (section_at bytes 64) _ _ _ (section_again bytes 64 x.types is.types)
    (bind_runs (section_at bytes 72) _ _ _ (section_again bytes 72 x.protos is.protos)
    (bind_runs (section_at bytes 80) _ _ _ (section_again bytes 80 x.fields is.fields)
    (bind_runs (section_at bytes 88) _ _ _ (section_again bytes 88 x.methods is.methods)
    (bind_runs (section_at bytes 96) _ _ _ (section_again bytes 96 x.classes is.classes) refl))))))
