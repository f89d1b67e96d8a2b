use Rattle.std.proofs.Common.{◌≡◌, ℕ, List}
use Rattle.std.specs.Prelude.{drop, All}
use Rattle.vl_size.specs.Table.{declared_as, IsPlain}
use Rattle.vl_elab_spec.specs.Meanings.{objects}
use Rattle.vl_elab_scope.specs.Texts.{of_names, or_else}
use Rattle.vl_elab_scope.proofs.tables.objects_of.Given as goal

abbrev pub invariant-loop-text : goal.invariant-loop-text
invariant-loop-text l = record {
  plain : All IsPlain l.decls;
  table : (other : List ℕ)
      → or_else (declared_as l.decls other)
      (of_names (declared_as (objects l.names)) (drop l.text-index l.texts) other)
      ≡ of_names (declared_as (objects l.names)) l.texts other;
}
