-- The numbers of the kinds of rows.
use Rattle.std.specs.Prelude.{ℕ, ◌+◌}
use denote.Enum.Declared.{tag_of}
use Rattle.fact_rows.specs.declared.kind.Kind.{Kind}
use Rattle.fact_rows.specs.contracts.kind.Kind.{the_type}

abbrev pub number_of : Kind → ℕ
number_of kind = tag_of the_type kind + 1
