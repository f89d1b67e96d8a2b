use Rattle.std.proofs.Common.{◌∙◌, ap, length, min}
use Rattle.vl_mean.specs.Declarations.{declared_by}
use Rattle.vl_elab_flatten.proofs.Items.{first_of, second_of}
use Rattle.vl_elab_flatten.proofs.blocks.split_declared.Goals as goal

pub returns-clause-own : goal.returns-clause-own
returns-clause-own c ss rest e =
    let ds = c.args.decls.now in
    c.split_at.ensures.front
    ∙ first_of ds (declared_by ss c.args.item.now) rest c.min-count.result e
    (c.min-count.ensures ∙ ap (λ n. min n (length ds)) (c.declared_count.ensures ss))

pub returns-clause-rest : goal.returns-clause-rest
returns-clause-rest c ss rest e =
    let ds = c.args.decls.now in
    c.split_at.ensures.back
    ∙ second_of ds (declared_by ss c.args.item.now) rest c.min-count.result e
    (c.min-count.ensures ∙ ap (λ n. min n (length ds)) (c.declared_count.ensures ss))
