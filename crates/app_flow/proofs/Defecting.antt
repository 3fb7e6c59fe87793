-- What the checker says of rows is one thing, and goes by which rows are there alone.
use Rattle.std.proofs.Common.{◌≡◌, ◌⊎◌, ℕ, ◌+◌, ◌<◌, Bool, true, false, List, [], ◌∷◌, ◌++◌, Option, Some, None, get_or, length, take, refl, sym, ap, subst, ◌∙◌, inl, inr}
use Rattle.std.specs.Prelude.{MatchBool}
use Rattle.std.specs.declared.cmp.Ordering.{Ordering}
use Rattle.std.specs.declared.cmp.Ordering.TheVariants.{Less, Equal, Greater}
use Rattle.std.proofs.lemmas.List.{take_more}
use Rattle.app_machine.specs.declared.app.App.{App}
use Rattle.app_machine.specs.declared.lists.Lists.{Lists}
use Rattle.cert_checker.specs.Defects.{HasDefect}
use Rattle.cert_checker.specs.Least.{FollowsFrom, IsLeastFailing}
use Rattle.fact_rows.specs.declared.row.Row.{Row}
use Rattle.fact_rows.specs.Order.{RowOrder, row_cmp}
use Rattle.flow_analyses.specs.declared.Analysis.{Analysis}
use Rattle.flow_analyses.specs.Analyses.{FollowsBy, GoodTableBy, InAppBy}
use Rattle.flow_rules.specs.Rules.{Each, Starts}
use Rattle.rule_ground.specs.declared.conclusion.Inference.{Inference}
use Rattle.rule_ground.specs.Hits.{Among}
use Rattle.rule_sets.specs.Growing.{IsNew}
use Rattle.vet_base.specs.Members.{In}
use Rattle.vet_base.proofs.Members.{in_front, in_back, in_either}
use Rattle.vet_base.proofs.Orders.{turned}
use Rattle.cert_checker.specs.declared.defect.TableDefect.{TableDefect}
use Rattle.cert_checker.specs.declared.defect.RowDefect.{RowDefect}
use Rattle.cert_checker.specs.declared.defect.Lack.TheVariants as lacks
use Rattle.cert_checker.specs.declared.defect.RowDefect.TheVariants.{Stranger, NoStart}
use Rattle.cert_checker.specs.declared.defect.TableDefect.TheVariants.{At, NotClosed}
use Rattle.app_flow.specs.Defect.{SameRows, LacksStart, IsNotClosed, IsChecked, OneDefect}
use Rattle.app_flow.proofs.Accepting.{each_there}

-- the least row of which something fails is one row
same_least : RowOrder → (Due Met : Row → Type 0) (a b : Row) → IsLeastFailing Due Met a → IsLeastFailing Due Met b → a ≡ b
same_least order Due Met a b one other = go (row_cmp a b) refl
  where
    go : (o : Ordering) → row_cmp a b ≡ o → a ≡ b
    go Less e = absurd (other.least a one.due one.fails (turned order.total a b e))
    go Equal e = order.exact a b e
    go Greater e = absurd (one.least b other.due other.fails e)

module _ (analysis : Analysis) (app : App) (lists : Lists) (rows : List Row) where
  -- no two of a good table and the three defects
  all_there : (row : Row) → IsLeastFailing (Among rows) (InAppBy analysis app lists) row → ((x : Row) → Among rows x → InAppBy analysis app lists x) → ⊥
  all_there row strange in_app = strange.fails (in_app row strange.due)

  all_started : (row : Row) → LacksStart analysis app lists rows row → ((x : Row) → Starts app x → Among rows x) → ⊥
  all_started row lacking starts = lacking.lacks.fails (starts row lacking.lacks.due)

  all_closed : (row : Row) → IsNotClosed analysis app lists rows row → GoodTableBy analysis app lists rows → ⊥
  all_closed row open_at good = let due = open_at.lacks.due in open_at.lacks.fails (good.closed due.0 due.1.0 row due.1.1.0 due.1.1.1)

  one_of : RowOrder → (one other : Option TableDefect) → IsChecked analysis app lists rows one → IsChecked analysis app lists rows other → one ≡ other
  one_of order None None a b = refl
  one_of order None (Some (At Stranger x)) a b = absurd (all_there x b a.in_app)
  one_of order None (Some (At NoStart x)) a b = absurd (all_started x b a.starts)
  one_of order None (Some (NotClosed x)) a b = absurd (all_closed x b a)
  one_of order (Some (At Stranger x)) None a b = absurd (all_there x a b.in_app)
  one_of order (Some (At Stranger x)) (Some (At Stranger y)) a b = ap (λ r. Some (At Stranger r)) (same_least order (Among rows) (InAppBy analysis app lists) x y a b)
  one_of order (Some (At Stranger x)) (Some (At NoStart y)) a b = absurd (all_there x a b.in_app)
  one_of order (Some (At Stranger x)) (Some (NotClosed y)) a b = absurd (all_there x a b.in_app)
  one_of order (Some (At NoStart x)) None a b = absurd (all_started x a b.starts)
  one_of order (Some (At NoStart x)) (Some (At Stranger y)) a b = absurd (all_there y b a.in_app)
  one_of order (Some (At NoStart x)) (Some (At NoStart y)) a b = ap (λ r. Some (At NoStart r)) (same_least order (Starts app) (Among rows) x y a.lacks b.lacks)
  one_of order (Some (At NoStart x)) (Some (NotClosed y)) a b = absurd (all_started x a b.starts)
  one_of order (Some (NotClosed x)) None a b = absurd (all_closed x a b)
  one_of order (Some (NotClosed x)) (Some (At Stranger y)) a b = absurd (all_there y b a.in_app)
  one_of order (Some (NotClosed x)) (Some (At NoStart y)) a b = absurd (all_started y b a.starts)
  one_of order (Some (NotClosed x)) (Some (NotClosed y)) a b = ap (λ r. Some (NotClosed r)) (same_least order (FollowsFrom (FollowsBy analysis app lists) rows) (Among rows) x y a.lacks b.lacks)

pub one_defect : RowOrder → OneDefect
one_defect order analysis app lists rows one other a b = one_of analysis app lists rows order one other a b

-- what the checker says of an app's rows
pub at_is : (analysis : Analysis) (app : App) (lists : Lists) (rows : List Row) (what : RowDefect) (row : Row) → HasDefect (FollowsBy analysis app lists) (Starts app) (InAppBy analysis app lists) rows row (lacks.At what) → IsChecked analysis app lists rows (Some (At what row))
at_is analysis app lists rows Stranger row strange = strange
at_is analysis app lists rows NoStart row lacking = record { in_app = lacking.in_app; lacks = lacking.lacks }

pub consequence_is : (analysis : Analysis) (app : App) (lists : Lists) (rows : List Row) (row : Row) (by : Inference) → HasDefect (FollowsBy analysis app lists) (Starts app) (InAppBy analysis app lists) rows row (lacks.NotClosed by) → IsChecked analysis app lists rows (Some (NotClosed row))
consequence_is analysis app lists rows row by lacking = record { in_app = lacking.in_app; starts = lacking.starts; lacks = lacking.lacks.least }

-- one row more of a list, and of the rows that have their keys
pub one_more : (rows : List Row) (i : ℕ) (row : Row) (old new : List Row) (fresh : Bool) → i < length rows → row ≡ get_or rows i row →
    MatchBool fresh (IsNew old row new) (In row old × (new ≡ old)) → SameRows old (take i rows) → SameRows new (take (i + 1) rows)
one_more rows i row old new fresh within is added same =
    let front : take (i + 1) rows ≡ take i rows ++ row ∷ [] = take_more rows i row within ∙ ap (λ y. take i rows ++ y ∷ []) (sym is) in
    subst (SameRows new) (sym front) (grown fresh added)
  where
    among_old : (x : Row) → In x (take i rows) ⊎ In x (row ∷ []) → In row old → In x old
    among_old x (inl k) there = (same x).1 k
    among_old x (inr (inl e)) there = subst (λ y. In y old) (sym e) there
    among_old x (inr (inr none)) there = absurd none

    onward : (x : Row) → In x old ⊎ In x (row ∷ []) → In x (take i rows ++ row ∷ [])
    onward x (inl k) = in_front x (take i rows) (row ∷ []) ((same x).0 k)
    onward x (inr k) = in_back x (take i rows) (row ∷ []) k

    back : (x : Row) → In x (take i rows) ⊎ In x (row ∷ []) → In x (old ++ row ∷ [])
    back x (inl k) = in_front x old (row ∷ []) ((same x).1 k)
    back x (inr k) = in_back x old (row ∷ []) k

    grown : (b : Bool) → MatchBool b (IsNew old row new) (In row old × (new ≡ old)) → SameRows new (take i rows ++ row ∷ [])
    grown true g = λ x. (
      λ there. onward x (in_either x old (row ∷ []) (subst (λ (ys : List Row). In x ys) g.is there)),
      λ there. subst (λ (ys : List Row). In x ys) (sym g.is) (back x (in_either x (take i rows) (row ∷ []) there)),
    )
    grown false g = λ x. (
      λ there. in_front x (take i rows) (row ∷ []) ((same x).0 (subst (λ (ys : List Row). In x ys) g.1 there)),
      λ there. subst (λ (ys : List Row). In x ys) (sym g.1) (among_old x (in_either x (take i rows) (row ∷ []) there) g.0),
    )

-- the same rows in another order, or some of them twice, are checked alike
module _ (analysis : Analysis) (app : App) (lists : Lists) (rows others : List Row) (same : SameRows rows others) where
  each_other : (premises : List Row) → Each (Among others) premises → Each (Among rows) premises
  each_other premises known = each_there (Among others) (Among rows) (λ x. (same x).1) premises known

  follows_other : (x : Row) → FollowsFrom (FollowsBy analysis app lists) others x → FollowsFrom (FollowsBy analysis app lists) rows x
  follows_other x due = (due.0, (due.1.0, (due.1.1.0, each_other due.1.0 due.1.1.1)))

  follows_on : (x : Row) → FollowsFrom (FollowsBy analysis app lists) rows x → FollowsFrom (FollowsBy analysis app lists) others x
  follows_on x due = (due.0, (due.1.0, (due.1.1.0, each_there (Among rows) (Among others) (λ y. (same y).0) due.1.0 due.1.1.1)))

  pub moved_checked : (found : Option TableDefect) → IsChecked analysis app lists rows found → IsChecked analysis app lists others found
  moved_checked None good = record {
    in_app = λ x there. good.in_app x ((same x).1 there);
    starts = λ x start. (same x).0 (good.starts x start);
    closed = λ rule premises x follows known. (same x).0 (good.closed rule premises x follows (each_other premises known));
  }
  moved_checked (Some (At Stranger row)) strange = record {
    due = (same row).0 strange.due;
    fails = strange.fails;
    least = λ x there. strange.least x ((same x).1 there);
  }
  moved_checked (Some (At NoStart row)) lacking = record {
    in_app = λ x there. lacking.in_app x ((same x).1 there);
    lacks = record {
      due = lacking.lacks.due;
      fails = λ there. lacking.lacks.fails ((same row).1 there);
      least = λ x due absent. lacking.lacks.least x due (λ there. absent ((same x).0 there));
    };
  }
  moved_checked (Some (NotClosed row)) lacking = record {
    in_app = λ x there. lacking.in_app x ((same x).1 there);
    starts = λ x start. (same x).0 (lacking.starts x start);
    lacks = record {
      due = follows_on row lacking.lacks.due;
      fails = λ there. lacking.lacks.fails ((same row).1 there);
      least = λ x due absent. lacking.lacks.least x (follows_other x due) (λ there. absent ((same x).0 there));
    };
  }
