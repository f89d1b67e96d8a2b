use Rattle.std.proofs.Common.{◌∙◌, sym, subst}
use Rattle.vl_mean_flat.specs.FullNames.{flat_expr}
use Rattle.vl_elab_emit.specs.Starts.{IsOwn}
use Rattle.vl_elab_emit.proofs.Indices.{part_is}
use Rattle.vl_elab_emit.proofs.bits.part_bits.Goals as goal

pub returns : goal.returns
returns c = λ p.
    c.part_size.ensures.value
    ∙ sym (part_is c.args.decl.now p (flat_expr c.args.scopes.now c.args.left.now)
    (flat_expr c.args.scopes.now c.args.right.now) c.in-Some.left c.in-Some-2.right
    (subst (IsOwn (flat_expr c.args.scopes.now c.args.left.now)) c.in-Some.is c.in_ok-left.ensures)
    (subst (IsOwn (flat_expr c.args.scopes.now c.args.right.now)) c.in-Some-2.is c.in_ok-right.ensures))
