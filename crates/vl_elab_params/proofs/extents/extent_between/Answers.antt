use Rattle.std.specs.Prelude.{◌&&◌}
use Rattle.std.proofs.Common.{◌∙◌, ap}
use Rattle.fv_bits.specs.Bits.{as_int}
use Rattle.vl_size.specs.Size.{is_bound}
use Rattle.vl_elab_params.specs.Known.{bounds_of, few_bits}
use Rattle.vl_elab_params.proofs.Bounded.{few_is}
use Rattle.vl_elab_params.proofs.extents.extent_between.Goals as goal

pub returns : goal.returns
returns c =
    let l = as_int c.args.left.width c.args.left.signed c.args.left.number in
    let r = as_int c.args.right.width c.args.right.signed c.args.right.number in
    c.few_bits.ensures ∙ ap few_bits c.bounds_between.ensures ∙ few_is (is_bound l && is_bound r) (bounds_of l r)
