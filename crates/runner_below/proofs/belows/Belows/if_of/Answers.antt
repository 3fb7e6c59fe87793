use Rattle.std.proofs.Common.{List, length, slice_get, refl, sym, ap, ◌∙◌, ltb-true}
use Rattle.std.specs.Cmp.Lexicographic.{bytes_decides}
use Rattle.std.proofs.lemmas.Option.{slice_get_read}
use Rattle.runner_below.specs.declared.below.Below.{Below}
use Rattle.runner_below.proofs.belows.Belows.if_of.Goals as goal

pub returns-then-eq : goal.returns-then-eq
returns-then-eq c = record {
  below = c.in-Some.below.now;
  there = ap (λ (xs : List Below). slice_get xs c.args.number) (sym c.deref.ensures.value)
      ∙ slice_get_read c.deref.result.now (length c.deref.result.now) c.args.number c.in-Some.below.now refl (ltb-true c.args.number (length c.deref.result.now) (sym c.in-Some.ensures.lookup.0)) c.in-Some.ensures.lookup.1;
  is_kind = (bytes_decides c.in-Some.below.now.kind.now c.args.kind.now).0 (sym c.eq.ensures ∙ c.if-eq.true);
}
