use Rattle.std.proofs.Common.{rules, ◌≡◌, ◌+◌, length, sym, ◌∙◌, arith}
use Rattle.gated_log.proofs.Pieces.{HasRead, both_told, same_told, has_more}
use Rattle.gated_log.specs.Reading.{ReadsOn}
use Rattle.gated_log.proofs.reading.fill.Goals as goal

pub loop-count-preserved : goal.loop-count-preserved
loop-count-preserved g c =
    let told = g.D.Disk.told in
    let before = c.loop-count.room in
    let after = c.read_behind.new.room in
    let size : length after ≡ length before = search rules in
    let on = same_told (λ t. ReadsOn t.now.bytes c.args.at c.loop-count.count c.in_ok-some.some before after)
    (told c.loop-count.disk) (told c.args.disk.now) (sym c.loop-count.invariant.told) c.in_ok-some.ensures.read in
    record {
      within = omega (arith, size, c.in_ok-some.ensures.within);
      size = size ∙ c.loop-count.invariant.size;
      read = both_told (λ t. HasRead t.now.bytes c.args.at c.loop-count.count before)
          (λ t. ReadsOn t.now.bytes c.args.at c.loop-count.count c.in_ok-some.some before after)
          (λ t. HasRead t.now.bytes c.args.at (c.loop-count.count + c.in_ok-some.some) after)
          (told c.args.disk.now)
          (λ t so_far more. has_more t.now.bytes c.args.at c.loop-count.count c.in_ok-some.some before after so_far more)
          c.loop-count.invariant.read on;
      told = c.in_ok-some.ensures.told ∙ c.loop-count.invariant.told;
      cause = c.in_ok-some.ensures.cause ∙ c.loop-count.invariant.cause;
    }
