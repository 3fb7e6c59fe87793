use Rattle.link_code.specs.Statics.{own_name}
use Rattle.link_code.proofs.Asked.{NoneAsked}
use Rattle.link_code.proofs.statics.class_among.Given as goal

abbrev pub invariant-loop-interface : goal.invariant-loop-interface
invariant-loop-interface l = NoneAsked (own_name l.fields.entries l.at.1 l.at.2) l.app l.interfaces l.interface-index
