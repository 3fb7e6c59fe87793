use Rattle.std.proofs.Common.{List, subst}
use Rattle.link_code.specs.declared.coded.Coded.{Coded}
use Rattle.link_code.specs.StaticList.{AreStatics}
use Rattle.link_code.proofs.StaticsCount.{statics_in_order, lines_in_order}
use Rattle.link_code.proofs.SoundFinished.{finished_sound}
use Rattle.link_code.proofs.finish.finished.Goals as goal

pub methods_of-requires-clause-statics : goal.methods_of-requires-clause-statics
methods_of-requires-clause-statics c = rw c.deref-2.ensures.value (statics_in_order c.args.app c.args.fields.now.entries c.args.dexes.now c.args.coding.now.methods.items c.in_ok-statics.statics.items c.requires.fine
    (subst (λ (cs : List Coded). AreStatics c.args.app c.args.fields.now.entries c.args.dexes.now cs c.in_ok-statics.statics.items) c.deref.ensures.value c.in_ok-statics.ensures))

pub methods_of-requires-clause-lines : goal.methods_of-requires-clause-lines
methods_of-requires-clause-lines c = rw c.deref-3.ensures.value (lines_in_order c.args.coding.now.methods.items 33554432 c.requires.fine)

pub returns-clause-sound : goal.returns-clause-sound
returns-clause-sound c = finished_sound c.code_laws.ensures c.args.app c.args.fields.now.entries c.args.dexes.now c.args.coding.now.methods.items c.deref.result.now c.deref-3.result.now
    c.in_ok-statics.statics.items c.deref-2.result.now c.from_vec.result c.in_ok-methods.methods.items c.from_vec-2.result
    c.requires.sound c.requires.fine c.requires.tested c.requires.few_methods
    c.deref.ensures.value c.in_ok-statics.ensures c.deref-2.ensures.value c.from_vec.ensures
    c.deref-3.ensures.value c.in_ok-methods.ensures.value c.in_ok-methods.ensures.narrow c.from_vec-2.ensures
