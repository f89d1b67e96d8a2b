use Rattle.std.proofs.Common.{take}
use Rattle.std.specs.Prelude.{IfSome}
use Rattle.lrat_check.specs.Sets.{IsLit}
use Rattle.sat_learn.specs.Analysis.{FalseLast}
use Rattle.sat_learn.proofs.learning.false_last.Given as goal

-- so many literals were looked at
abbrev pub invariant-loop-lit : goal.invariant-loop-lit
invariant-loop-lit l = record {
  lit : IfSome l.last IsLit;
  last : FalseLast l.trail (take l.lit-index l.clause) l.last;
}
