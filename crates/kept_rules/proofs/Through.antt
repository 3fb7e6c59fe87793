-- What comes through the sink before another: what is kept, and to that one.
use Rattle.std.proofs.Common.{◌≡◌, Bool, true, false, cond, List, [], ◌∷◌, filter, fold, refl, sym, ap, ◌∙◌}
use Rattle.rule_ground.specs.declared.conclusion.Conclusion.{Conclusion}
use Rattle.kept_rules.specs.declared.kept_sink.KeptSink.{KeptSink}
use Rattle.kept_rules.specs.Kept.{is_kept, through}

comes_through : {S : Type 0} (then : S → Conclusion → S) (k : KeptSink S) (cs : List Conclusion) →
    (fold (through then) k cs).out.now ≡ fold then k.out.now (filter is_kept cs)
comes_through then k [] = refl
comes_through {S} then k (c ∷ cs) = comes_through then (through then k c) cs ∙ by_test (is_kept c)
  where
    by_test : (b : Bool) → fold then (cond b (then k.out.now c) k.out.now) (filter is_kept cs) ≡ fold then k.out.now (cond b (c ∷ filter is_kept cs) (filter is_kept cs))
    by_test true = refl
    by_test false = refl

same_reference : {S : Type 0} (then : S → Conclusion → S) (k : KeptSink S) (cs : List Conclusion) →
    (fold (through then) k cs).out.ghost_name ≡ k.out.ghost_name
same_reference then k [] = refl
same_reference then k (c ∷ cs) = same_reference then (through then k c) cs

-- What the other sink is once the one before it is gone: it got what is kept.
pub comes_back : {S : Type 0} (then : S → Conclusion → S) (k : KeptSink S) (cs : List Conclusion) (first last : S) (after : KeptSink S) → after ≡ fold (through then) k cs → k.out.now ≡ first →
    (k.out.ghost_name ≡ after.out.ghost_name → last ≡ after.out.now) → last ≡ fold then first (filter is_kept cs)
comes_back then k cs first last after is begins returned =
    returned (sym (ap (λ j. j.out.ghost_name) is ∙ same_reference then k cs))
    ∙ (ap (λ j. j.out.now) is ∙ (comes_through then k cs ∙ ap (λ s. fold then s (filter is_kept cs)) begins))
