use Rattle.std.proofs.Common.{◌≡◌, ◌++◌}
use Rattle.std.specs.Prelude.{drop}
use Rattle.vl_elab_names.specs.Path.{texts_of}
use Rattle.vl_elab_names.proofs.path.copied_names.Given as goal

abbrev pub invariant-loop-place : goal.invariant-loop-place
invariant-loop-place l = l.names ++ texts_of (drop l.place l.map.entries) ≡ texts_of l.map.entries
