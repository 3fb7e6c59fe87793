use Rattle.std.proofs.Common.{arith, ◌≡◌, ◌++◌, ◌∷◌, [], None}
use Rattle.std.specs.BTreeMap.{get}
use Rattle.form_fields.proofs.Placing.{more_absent_at, more_present, is_there, is_not_there}
use Rattle.form_fields.proofs.index.Index.with.Goals as goal
use Rattle.form_fields.proofs.index.Index.with.Goals.{then-is_none+in_ok-insert, else-is_none}

pub invariant_of-result : goal.invariant_of-result
invariant_of-result g c =
    let pushed : c.push.new.self.items ≡ c.self.inside.keys.items ++ c.args.key ∷ [] = rw c.requires c.in_ok-push.ensures.items in
    elim c.if-is_none.branch [
      | then-is_none+in_ok-insert w ↦
          let none : get g.K.Ord.cmp c.self.inside.places c.args.key ≡ None = is_not_there _ _ c.get.ensures.value w.if-is_none.ensures in
          rw (w.places-is, pushed) (more_absent_at g.K.PartialEq.eq g.K.Ord.cmp g.met.K.Eq.laws g.met.K.Ord.matches_eq c.self.inside.places w.insert.new.self c.self.inside.keys.items c.args.key w.len.result (omega (arith, w.len.ensures)) c.self.invariant none w.in_ok-insert.ensures.updates)
      | else-is_none w ↦
          let there = is_there _ _ c.get.ensures.value w.if-is_none.ensures in
          rw (w.places-is, pushed) (more_present g.K.PartialEq.eq g.K.Ord.cmp g.met.K.Eq.laws c.self.inside.places c.self.inside.keys.items c.args.key there.0 c.self.invariant there.1)
    ]
