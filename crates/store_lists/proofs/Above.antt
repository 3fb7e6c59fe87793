-- The place of a name among the names of the classes is the place of its first row.
use Rattle.std.proofs.Common.{◌≡◌, ℕ, suc, Bool, true, false, cond, List, [], ◌∷◌, map, get_or, Option, Some, None, option_map, refl, ap, sym, ◌∙◌, ⊎_elim}
use Rattle.app_machine.specs.declared.lists.LibClass.{LibClass}
use Rattle.app_machine.specs.Names.{Name, same_name}
use Rattle.form_fields.specs.Places.{place_of}
use Rattle.store_lists.specs.Classes.{above_in, class_name}
use Rattle.std.proofs.lemmas.Bool.{cases_Bool}

-- the place of a name, where the first is that of the row or not
place_step : (q : Name) (k : Name) (ks : List Name) (b : Bool) → same_name q k ≡ b → place_of same_name q (k ∷ ks) ≡ cond b (Some 0) (option_map suc (place_of same_name q ks))
unfolding place_of
place_step q k ks b e = rw e refl

above_step : (q : Name) (c : LibClass) (cs : List LibClass) (b : Bool) → same_name q c.name ≡ b → above_in (c ∷ cs) q ≡ cond b (Some c.above) (above_in cs q)
unfolding above_in
above_step q c cs b e = rw e refl

-- what stands at a place of a list
at_place : Option ℕ → List LibClass → LibClass → Option (List Name)
at_place None cs d = None
at_place (Some i) cs d = Some (get_or cs i d).above

at_suc : (o : Option ℕ) (c : LibClass) (cs : List LibClass) (d : LibClass) → at_place (option_map suc o) (c ∷ cs) d ≡ at_place o cs d
unfolding at_place
at_suc None c cs d = refl
at_suc (Some i) c cs d = refl

above_is : (q : Name) (cs : List LibClass) (d : LibClass) → above_in cs q ≡ at_place (place_of same_name q (map class_name cs)) cs d
unfolding at_place above_in place_of
above_is q [] d = refl
above_is q (c ∷ cs) d =
    ⊎_elim
    (λ e. above_step q c cs true e ∙ sym (ap (λ o. at_place o (c ∷ cs) d) (place_step q c.name (map class_name cs) true e)))
    (λ e. above_step q c cs false e ∙ above_is q cs d ∙ sym (at_suc (place_of same_name q (map class_name cs)) c cs d)
    ∙ sym (ap (λ o. at_place o (c ∷ cs) d) (place_step q c.name (map class_name cs) false e)))
    (cases_Bool (same_name q c.name))

pub none_above : (q : Name) (cs : List LibClass) (names : List Name) → names ≡ map class_name cs → None ≡ place_of same_name q names → above_in cs q ≡ None
unfolding at_place above_in
none_above q [] names e h = refl
none_above q (c ∷ cs) names e h = above_is q (c ∷ cs) c ∙ ap (λ o. at_place o (c ∷ cs) c) (ap (place_of same_name q) (sym e) ∙ sym h)

pub some_above : (q : Name) (cs : List LibClass) (names : List Name) (i : ℕ) (d : LibClass) → names ≡ map class_name cs → Some i ≡ place_of same_name q names → above_in cs q ≡ Some (get_or cs i d).above
unfolding at_place
some_above q cs names i d e h = above_is q cs d ∙ ap (λ o. at_place o cs d) (ap (place_of same_name q) (sym e) ∙ sym h)
