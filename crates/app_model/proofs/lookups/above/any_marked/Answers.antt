use Rattle.std.proofs.Common.{◌≡◌, ◌<◌, Some, length, refl, sym, ◌∙◌}
use Rattle.std.specs.Prelude.{slice_get}
use Rattle.std.proofs.lemmas.Option.{slice_get_read}
use Rattle.app_model.specs.Above.{has}
use Rattle.app_model.specs.Marks.{is_marked}
use Rattle.app_model.proofs.Searches.{search_begins, waiting_is, search_ends, search_finds, goes_on_by, turn_takes_one}
use Rattle.app_model.proofs.lookups.above.any_marked.Goals as goal

pub loop-i-init : goal.loop-i-init
loop-i-init c =
    search_begins c.args.app.now (has c.args.quality) c.args.class.now (is_marked c.new-seen.result.words) (is_marked c.new-waiting.result.words) (is_marked c.add.new.seen.words) (is_marked c.add.new.waiting.words) c.new-seen.ensures c.new-waiting.ensures c.add.ensures

pub at-class-requires : goal.at-class-requires
at-class-requires c = waiting_is c.args.app.now (has c.args.quality) c.args.class.now (is_marked c.loop-i.seen.words) (is_marked c.loop-i.waiting.words) c.loop-i.invariant c.in-Some.i c.in-Some.ensures.1

pub returns-then-has : goal.returns-then-has
returns-then-has c =
    let within : c.in-Some.i < length c.args.app.now.classes = waiting_is c.args.app.now (has c.args.quality) c.args.class.now (is_marked c.loop-i.seen.words) (is_marked c.loop-i.waiting.words) c.loop-i.invariant c.in-Some.i c.in-Some.ensures.1 in
    let at : slice_get c.args.app.now.classes c.in-Some.i ≡ Some c.at-class.result.now = slice_get_read c.args.app.now.classes (length c.args.app.now.classes) c.in-Some.i c.at-class.result.now refl within c.at-class.ensures in
    sym (search_finds c.args.app.now (has c.args.quality) c.args.class.now (is_marked c.loop-i.seen.words) (is_marked c.loop-i.waiting.words) c.loop-i.invariant c.requires.sound.no_circle c.in-Some.i c.in-Some.ensures.1 c.at-class.result.now at (sym c.has.ensures ∙ c.if-has.true))

pub loop-i-preserved : goal.loop-i-preserved
loop-i-preserved c =
    let within : c.in-Some.i < length c.args.app.now.classes = waiting_is c.args.app.now (has c.args.quality) c.args.class.now (is_marked c.loop-i.seen.words) (is_marked c.loop-i.waiting.words) c.loop-i.invariant c.in-Some.i c.in-Some.ensures.1 in
    let at : slice_get c.args.app.now.classes c.in-Some.i ≡ Some c.at-class.result.now = slice_get_read c.args.app.now.classes (length c.args.app.now.classes) c.in-Some.i c.at-class.result.now refl within c.at-class.ensures in
    goes_on_by c.args.app.now (has c.args.quality) c.args.class.now (is_marked c.loop-i.seen.words) (is_marked c.loop-i.waiting.words) c.loop-i.invariant c.requires.sound.no_circle
    c.in-Some.i c.in-Some.ensures.1 c.at-class.result.now at (sym c.has.ensures ∙ c.if-has.false)
    (is_marked c.remove.new.self.words) (is_marked c.add_each.new.seen.words) (is_marked c.add_each.new.waiting.words) (is_marked c.add_each-in-Some.new.seen.words) (is_marked c.add_each-in-Some.new.waiting.words)
    c.remove.ensures c.as_slice.result.now c.as_slice-in-Some.result.now c.as_slice.ensures c.as_slice-in-Some.ensures c.add_each.ensures c.add_each-in-Some.ensures

pub loop-i-smaller : goal.loop-i-smaller
loop-i-smaller c =
    turn_takes_one c.args.app.now c.in-Some.i c.as_slice.result.now c.as_slice-in-Some.result.now (is_marked c.loop-i.seen.words) (is_marked c.loop-i.waiting.words)
    (is_marked c.remove.new.self.words) (is_marked c.add_each.new.seen.words) (is_marked c.add_each.new.waiting.words) (is_marked c.add_each-in-Some.new.seen.words) (is_marked c.add_each-in-Some.new.waiting.words)
    c.in-Some.ensures.0 (c.loop-i.invariant.waits c.in-Some.i c.in-Some.ensures.1) c.in-Some.ensures.1 c.remove.ensures c.add_each.ensures c.add_each-in-Some.ensures

pub returns : goal.returns
returns c = sym (search_ends c.args.app.now (has c.args.quality) c.args.class.now (is_marked c.loop-i.seen.words) (is_marked c.loop-i.waiting.words) c.loop-i.invariant c.in_default.ensures)
