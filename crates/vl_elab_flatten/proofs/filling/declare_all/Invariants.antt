use Rattle.std.specs.Prelude.{drop}
use Rattle.vl_elab_flatten.specs.Levels.{with_decls}
use Rattle.vl_elab_flatten.proofs.Filled.{Fills}
use Rattle.vl_elab_flatten.proofs.filling.declare_all.Given as goal

abbrev pub invariant-loop-decl : goal.invariant-loop-decl
invariant-loop-decl l = Fills (with_decls l.fn.scope l.decls) l.scope (drop l.decl-index l.decls)
