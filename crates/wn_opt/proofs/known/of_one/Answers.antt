use Rattle.std.proofs.Common.{arith}
use Rattle.wn_opt.proofs.Knowns.{sext_wider, slice_few}
use Rattle.wn_opt.proofs.known.of_one.Goals as goal

pub part-requires : goal.part-requires
part-requires c =
    slice_few c.args.net.now c.args.node.now c.in-Slice.field-0 c.in-Slice.low c.in-Slice.width c.args.a c.requires.whole c.in-Slice.is
    c.requires.one c.requires.fits

pub sign_extended-requires-clause-wider : goal.sign_extended-requires-clause-wider
sign_extended-requires-clause-wider c =
    omega (
      arith,
      c.width-in-Sext.ensures,
      sext_wider c.args.net.now c.args.node.now c.in-Sext.field-0 c.in-Sext.width c.args.a c.args.x
          c.requires.whole c.in-Sext.is c.requires.one c.requires.fits c.requires.known,
    )
