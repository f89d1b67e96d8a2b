use Rattle.std.proofs.Common.{◌≡◌, ap, ◌∙◌}
use Rattle.fv_bits.specs.Bits.{as_int}
use Rattle.vl_size.specs.Sign.{sign}
use Rattle.vl_size.specs.Size.{index_of, no_names, or_none, size, value}
use Rattle.vl_mean.specs.Env.{cells_of}
use Rattle.vl_flow_cells.proofs.Constants.{one_operand}
use Rattle.vl_flow_weight.proofs.size.constant.Goals as goal

pub returns : goal.returns
returns c h ds =
    let env = c.args.bare.now in
    let es = env.decls in
    let e = c.args.expr.now in
    let w = c.own_size-width.result in
    let s = c.sign_of-signed.result in
    let signed : s ≡ sign es e = c.sign_of-signed.ensures ∙ ap (λ xs. sign xs e) c.decls.ensures in
    let bits : w ≡ or_none (size es e) = c.own_size-width.ensures.value in
    ap (as_int w s) c.value-number.ensures.value
    ∙ (λ i. as_int (bits i) (signed i) (value es (cells_of env) (bits i) (signed i) e))
    ∙ ap index_of (one_operand es ds (cells_of env) no_names e h)
