use Rattle.std.specs.Prelude.{All}
use Rattle.vl_size.specs.Table.{IsPlain}
use Rattle.meaning_answers.proofs.names.declare_all.Given as goal

abbrev pub invariant-loop-name : goal.invariant-loop-name
invariant-loop-name l = All IsPlain l.decls
