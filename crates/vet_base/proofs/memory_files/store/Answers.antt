use Rattle.std.proofs.Common.{◌≡◌, sym, ◌∙◌, Some, None, position}
use Rattle.vet_base.specs.MemoryFiles.{has_name}
use Rattle.vet_base.proofs.Stored.{replaced, appended}
use Rattle.vet_base.proofs.memory_files.store.Goals as goal

pub returns-in-Some-clause-ok : goal.returns-in-Some-clause-ok
returns-in-Some-clause-ok c =
    let at : position (has_name c.args.name.now) c.args.files.now.items ≡ Some c.in-Some.place = (rw c.deref.ensures.value at (sym c.place_of.ensures ∙ c.in-Some.is)) in
    replaced c.args.files.now.items c.args.name.now c.in-Some.place c.index_mut.result.now c.args.bytes at c.index_mut.ensures.value

pub returns-in_ok-push-in-None-clause-ok : goal.returns-in_ok-push-in-None-clause-ok
returns-in_ok-push-in-None-clause-ok c =
    let at : position (has_name c.args.name.now) c.args.files.now.items ≡ None = (rw c.deref.ensures.value at (sym c.place_of.ensures ∙ c.in-None.is)) in
    rw (c.in_ok-push-in-None.ensures.items, c.in_ok-name-in-None.ensures) (appended c.args.files.now.items c.args.name.now c.args.bytes at)
