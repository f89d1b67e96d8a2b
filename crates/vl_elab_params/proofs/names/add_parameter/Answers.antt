use Rattle.std.proofs.Common.{sym, subst}
use Rattle.vl_elab_spec.specs.Meanings.{Meaning}
use Rattle.vl_elab_scope.specs.Seen.{IsNamed}
use Rattle.vl_elab_params.proofs.Next.{parameter_named}
use Rattle.vl_elab_params.proofs.names.add_parameter.Goals as goal

pub add-requires : goal.add-requires
add-requires c =
    let P : Meaning → Type 0 = λ m. IsNamed (c.in_ok-copied.field-0, m) in
    subst P (sym c.parameter_meaning-meaning.ensures) (parameter_named _ _)
