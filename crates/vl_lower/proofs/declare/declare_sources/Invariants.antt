use Rattle.vl_mean.specs.FlatParts.{flat_parts}
use Rattle.vl_lower.specs.Design.{keeping}
use Rattle.vl_lower.proofs.Names.{IsAt}
use Rattle.vl_lower.proofs.declare.declare_sources.Given as goal

abbrev pub invariant-loop-at : goal.invariant-loop-at
invariant-loop-at l = IsAt (flat_parts l.flat) (keeping l.keeps) l.flat.decls l.sources l.name l.at
