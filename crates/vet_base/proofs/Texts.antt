-- The order of texts, and texts that are the same.
use Rattle.std.proofs.Common.{◌≡◌, ℕ, true, List, nat_eq, refl, sym, ◌∙◌, ap}
use Rattle.std.specs.Ordering.{nat_cmp, is_eq}
use Rattle.std.specs.declared.cmp.Ordering.TheVariants.{Equal}
use Rattle.std.specs.Cmp.Lexicographic.{slice_cmp, pointwise, texts_ties, bytes_decides, pointwise_decides}
use Rattle.vet_base.proofs.Orders.{is_equal}

pub same_tie : (a b : List ℕ) → pointwise nat_eq a b ≡ true → slice_cmp nat_cmp a b ≡ Equal
same_tie a b same = is_equal (slice_cmp nat_cmp a b) (sym (texts_ties a b) ∙ same)

pub tied_same : (a b : List ℕ) → slice_cmp nat_cmp a b ≡ Equal → pointwise nat_eq a b ≡ true
tied_same a b ties = texts_ties a b ∙ ap is_eq ties

pub same_equal : (a b : List ℕ) → pointwise nat_eq a b ≡ true → a ≡ b
same_equal a b same = (bytes_decides a b).0 same

pub same_itself : (a : List ℕ) → pointwise nat_eq a a ≡ true
same_itself a = (bytes_decides a a).1 refl

pub tied_equal : (a b : List ℕ) → is_eq (slice_cmp nat_cmp a b) ≡ true → a ≡ b
tied_equal a b e = same_equal a b (texts_ties a b ∙ e)

pub all_equal : (xs ys : List (List ℕ)) → pointwise (pointwise nat_eq) xs ys ≡ true → xs ≡ ys
all_equal xs ys same = (pointwise_decides bytes_decides xs ys).0 same
