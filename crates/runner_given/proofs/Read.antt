-- What a call is given, by what its result is.
use Rattle.std.proofs.Common.{◌≡◌, ℕ, true, false, cond, List, Option, Some, refl, sym, ap, ◌∙◌}
use Rattle.app_machine.specs.declared.app.App.{App}
use Rattle.app_machine.specs.declared.lists.Lists.{Lists}
use Rattle.app_machine.specs.declared.summary.Gives.{Gives}
use Rattle.app_machine.specs.declared.summary.Gives.TheVariants as gives
use Rattle.app_machine.specs.Heap.{Value, blank}
use Rattle.app_machine.specs.Lookups.{elem_key}
use Rattle.app_machine.specs.Names.{Name, is_void}
use Rattle.app_machine.specs.State.{World, value_or_blank}
use Rattle.app_parts.specs.declared.summary_view.CallResult.{CallResult}
use Rattle.app_parts.specs.declared.summary_view.CallResult.TheVariants as kind
use Rattle.app_parts.specs.Views.{call_result}
use Rattle.played_machine.specs.Drawing.{Drawing, give, one_of}
use Rattle.played_machine.specs.Librarian.{given_back}
use Rattle.played_machine.specs.Local.{got}
use Rattle.runner_library.specs.Over.{hand_each}
use Rattle.runner_library.specs.Whole.{given_for, read_for}

module _ (app : App) (lists : Lists) (w : World) (vs : List Value) (ret : Name) (bytes : List ℕ) where
  abbrev pub given_by_kind : CallResult → Drawing Value
  given_by_kind (kind.Taken i) = got w.heap (value_or_blank vs i) elem_key
  given_by_kind kind.Handed = one_of (given_back app lists w (hand_each vs w.handed) ret)
  given_by_kind kind.Blank = give blank
  given_by_kind (kind.Same i) = give blank
  given_by_kind kind.Joined = give blank
  given_by_kind (kind.Shared g) = give blank

  same_given : (g : Gives) → given_by_kind (call_result g) bytes ≡ given_for app lists w vs ret g bytes
  same_given gives.Blank = refl
  same_given (gives.Same i) = refl
  same_given (gives.Taken i) = refl
  same_given (gives.Joined from) = refl
  same_given (gives.Shared i) = refl
  same_given gives.Handed = refl

  pub of_void : (g : Gives) (v : Value) → is_void ret ≡ true → v ≡ blank → Some (v, bytes) ≡ read_for app lists w vs ret g bytes
  unfolding read_for
  of_void g v holds is = ap (λ z. Some (z, bytes)) is ∙ sym (ap (λ b. (cond b (give blank) (given_for app lists w vs ret g)) bytes) holds)

  pub of_kind : (g : Gives) (k other : CallResult) (o : Option (Value × List ℕ)) → is_void ret ≡ false → k ≡ call_result g → k ≡ other → o ≡ given_by_kind other bytes → o ≡ read_for app lists w vs ret g bytes
  unfolding read_for
  of_kind g k other o fails is one given =
      given ∙ (ap (λ z. given_by_kind z bytes) (sym one ∙ is) ∙ (same_given g ∙ sym (ap (λ b. (cond b (give blank) (given_for app lists w vs ret g)) bytes) fails)))

  pub of_other : (k : CallResult) (v : Value) → ((i : ℕ) → k ≡ kind.Taken i → ⊥) → (k ≡ kind.Handed → ⊥) → v ≡ blank → Some (v, bytes) ≡ given_by_kind k bytes
  of_other kind.Blank v taken handed is = ap (λ z. Some (z, bytes)) is
  of_other (kind.Same i) v taken handed is = ap (λ z. Some (z, bytes)) is
  of_other (kind.Taken i) v taken handed is = absurd (taken i refl)
  of_other kind.Joined v taken handed is = ap (λ z. Some (z, bytes)) is
  of_other (kind.Shared g) v taken handed is = ap (λ z. Some (z, bytes)) is
  of_other kind.Handed v taken handed is = absurd (handed refl)
