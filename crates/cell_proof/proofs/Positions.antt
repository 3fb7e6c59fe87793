-- The registers of a call's positions are among those of the call.
use Rattle.std.proofs.Common.{ℕ, Bool, true, false, cond, List, [], ◌∷◌, inl, inr}
use Rattle.std.specs.Prelude.{drop}
use Rattle.vet_base.specs.Members.{In, IsAt}
use Rattle.vet_base.proofs.Members.{in_slice_get}
use Rattle.app_machine.specs.declared.call.MethodRef.{MethodRef}
use Rattle.app_machine.specs.declared.call.CallKind.{CallKind}
use Rattle.app_machine.specs.Names.{Name, is_wide}
use Rattle.app_machine.specs.Lookups.{is_static_call}
use Rattle.app_machine.specs.Library.{first_registers, with_receiver, positions}

in_dropped : (x : ℕ) (xs : List ℕ) → In x (drop 1 xs) → In x xs
in_dropped x [] h = h
in_dropped x (y ∷ xs) h = inr h

in_first : (types : List Name) (xs : List ℕ) (x : ℕ) → In x (first_registers types xs) → In x xs
in_first [] xs x h = absurd h
in_first (type ∷ types) [] x h = absurd h
in_first (type ∷ types) (y ∷ ys) x (inl same) = inl same
in_first (type ∷ types) (y ∷ ys) x (inr h) = inr (by_width (is_wide type) (in_first types (cond (is_wide type) (drop 1 ys) ys) x h))
  where
    by_width : (b : Bool) → In x (cond b (drop 1 ys) ys) → In x ys
    by_width true h = in_dropped x ys h
    by_width false h = h

in_received : (types : List Name) (xs : List ℕ) (x : ℕ) → In x (with_receiver types xs) → In x xs
in_received types [] x h = absurd h
in_received types (y ∷ ys) x (inl same) = inl same
in_received types (y ∷ ys) x (inr h) = inr (in_first types ys x h)

pub position_read : (kind : CallKind) (at : MethodRef) (args : List ℕ) (i x : ℕ) → IsAt (positions kind at args) i x → In x args
unfolding positions
position_read kind at args i x is_at = by_kind (is_static_call kind) (in_slice_get (positions kind at args) i x is_at.there)
  where
    by_kind : (b : Bool) → In x (cond b (first_registers at.proto.params args) (with_receiver at.proto.params args)) → In x args
    by_kind true h = in_first at.proto.params args x h
    by_kind false h = in_received at.proto.params args x h
