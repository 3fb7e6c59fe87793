use Rattle.std.proofs.Common.{◌∙◌}
use Rattle.link_code.proofs.FewLines.{codes_fine}
use Rattle.link_code.proofs.SoundCoded.{seen_tested, seen_few}
use Rattle.link_code.proofs.coded.codes_of.Goals as goal

pub returns-clause-fine : goal.returns-clause-fine
returns-clause-fine c = rw (c.deref.ensures.value ∙ c.in_ok-entries.ensures.list) at (codes_fine c.code_laws.ensures c.args.dexes.now c.deref.result.now c.in_ok-methods.methods.items c.in_ok-methods.ensures)

pub returns-clause-tested : goal.returns-clause-tested
returns-clause-tested c = seen_tested c.code_laws.ensures c.args.dexes.now c.args.methods.entries c.in_ok-entries.entries.items c.deref.result.now c.in_ok-methods.methods.items
    c.deref.ensures.value c.in_ok-entries.ensures.list c.requires.described c.in_ok-entries.ensures.order c.in_ok-methods.ensures

pub returns-clause-few : goal.returns-clause-few
returns-clause-few c = seen_few c.code_laws.ensures c.args.dexes.now c.args.methods.entries c.deref.result.now c.in_ok-methods.methods.items
    (c.deref.ensures.value ∙ c.in_ok-entries.ensures.list) c.requires.described c.in_ok-methods.ensures
