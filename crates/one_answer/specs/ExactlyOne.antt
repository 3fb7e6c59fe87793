-- That there is exactly one answer: a value or a fault.
use Rattle.std.specs.Prelude.{◌≡◌, ◌⊎◌}

pub record ExactlyOne {A F : Type 0} (Is : A → Type 0) (IsFault : F → Type 0) : Type 0 where
  -- one of the two is there
  pub either : ((value : A) × Is value) ⊎ ((fault : F) × IsFault fault)
  pub one_value : (value other : A) → Is value → Is other → value ≡ other
  pub one_fault : (fault other : F) → IsFault fault → IsFault other → fault ≡ other
  pub not_both : (value : A) (fault : F) → Is value → IsFault fault → ⊥
