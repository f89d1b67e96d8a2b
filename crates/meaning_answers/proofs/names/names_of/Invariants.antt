use Rattle.std.specs.Prelude.{All}
use Rattle.vl_size.specs.Table.{IsPlain}
use Rattle.meaning_answers.proofs.names.names_of.Given as goal

abbrev pub invariant-loop-module : goal.invariant-loop-module
invariant-loop-module l = All IsPlain l.decls

abbrev pub invariant-loop-item : goal.invariant-loop-item
invariant-loop-item l = All IsPlain l.decls
