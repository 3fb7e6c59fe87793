-- What is left of a descriptor's text, while it is read part by part.
use Rattle.std.specs.Prelude.{◌≡◌, List, [], ◌∷◌, ◌++◌, codes}
use Rattle.std.specs.Ordering.{nat_cmp}
use Rattle.std.specs.declared.cmp.Ordering.{Ordering}
use Rattle.std.specs.Cmp.Lexicographic.{slice_cmp}
use Rattle.app_model.specs.declared.lookups.descriptor.Later.{Later}
use Rattle.app_model.specs.declared.lookups.descriptor.Later.TheVariants as later
use Rattle.app_model.specs.declared.lookups.descriptor.Text.{Text}
use Rattle.app_machine.specs.Names.{Name, joined}

-- the parts that are still to come
abbrev pub later_parts : Later → List Name
later_parts (later.Params params ret) = params.now ++ codes ")" ∷ ret.now ∷ []
later_parts (later.Ret ret) = ret.now ∷ []
later_parts later.Nothing = []

-- the text that is left
abbrev pub text_left : Text → Name
text_left text = text.part.now ++ joined (later_parts text.later)

-- the two begin alike, and this is left of them
pub record BeginAlike (a b left_a left_b : Name) : Type 0 where
  pub front : Name
  pub first : a ≡ front ++ left_a
  pub second : b ≡ front ++ left_b

-- the two differ, so that they stand in this order whatever comes behind them
abbrev pub Differ : Name → Name → Ordering → Type 0
Differ a b order = (more_a more_b : Name) → slice_cmp nat_cmp (a ++ more_a) (b ++ more_b) ≡ order
