use Rattle.std.proofs.Common.{◌≡◌, length, rules, sym}
use Rattle.dex_writer.proofs.interner.Interner.push.Goals as goal
use Rattle.dex_writer.proofs.interner.Interner.push.Goals.{then-not-contains_key+in_ok-at+in_ok-twin+in_ok-insert, else-not-contains_key}
use Rattle.dex_writer.proofs.Places.{index_pushed, index_kept}

pub invariant_of-self-2 : goal.invariant_of-self-2
invariant_of-self-2 g c =
    elim c.if-not-contains_key.branch [
      | then-not-contains_key+in_ok-at+in_ok-twin+in_ok-insert w ↦
          rw (c.in_ok-push.ensures.items, w.self-inside-is, c.in_ok-reserve.ensures.items)
          (index_pushed g.K.Ord.cmp g.met.K.Ord.total c.self.inside.rows.items c.self.inside.index w.insert.new.self c.args.row w.in_ok-at.at (let q : w.in_ok-at.at ≡ length c.self.inside.rows.items = search rules in q) c.self.invariant (sym w.if-not-contains_key.ensures) (rw w.in_ok-twin.ensures at w.in_ok-insert.ensures.updates))
      | else-not-contains_key w ↦
          rw (c.in_ok-push.ensures.items, w.self-inside-is, c.in_ok-reserve.ensures.items)
          (index_kept g.K.Ord.cmp g.met.K.Ord.total c.self.inside.rows.items c.self.inside.index c.args.row c.self.invariant (sym w.if-not-contains_key.ensures))
    ]
