use Rattle.std.proofs.Common.{◌∙◌, sym, subst}
use Rattle.vl_mean_flat.specs.FullNames.{flat_expr}
use Rattle.vl_elab_emit.specs.Starts.{IsOwn}
use Rattle.vl_elab_emit.proofs.Indices.{indexed_is}
use Rattle.vl_elab_emit.proofs.bits.indexed_bits.Goals as goal

pub returns : goal.returns
returns c = λ d p.
    c.times.ensures.value
    ∙ sym (indexed_is d p (flat_expr c.args.scopes.now c.args.start.now)
    (flat_expr c.args.scopes.now c.args.width.now) c.in-Some.field-0 c.in-Some-2.width
    (subst (IsOwn (flat_expr c.args.scopes.now c.args.start.now)) c.in-Some.is c.in_ok-own_of.ensures)
    (subst (IsOwn (flat_expr c.args.scopes.now c.args.width.now)) c.in-Some-2.is c.in_ok-width.ensures))
