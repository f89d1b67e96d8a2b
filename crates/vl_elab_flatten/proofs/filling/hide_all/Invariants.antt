use Rattle.std.proofs.Common.{◌≡◌}
use Rattle.std.specs.Prelude.{drop}
use Rattle.vl_elab_flatten.specs.Levels.{hidden}
use Rattle.vl_elab_flatten.proofs.filling.hide_all.Given as goal

abbrev pub invariant-loop-decl : goal.invariant-loop-decl
invariant-loop-decl l = hidden l.level (drop l.decl-index l.decls) ≡ hidden l.fn.level l.decls
