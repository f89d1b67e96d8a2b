use Rattle.std.proofs.Common.{ap, arith}
use Rattle.wn_opt.proofs.Knowns.{alike_width, has_alike, is_joined, joined_width}
use Rattle.wn_opt.proofs.Counting.{right_fits}
use Rattle.wn_opt.proofs.known.of_two.Goals as goal

pub difference-requires-clause-fits : goal.difference-requires-clause-fits
difference-requires-clause-fits c =
    right_fits c.args.x c.args.y c.value-right.result c.width-width.result
    (alike_width c.args.net.now c.requires.whole c.args.a c.args.b c.args.x c.args.y c.requires.left c.requires.right c.args.node.now
    (ap has_alike c.in-Sub.is) c.requires.two c.requires.fits) c.value-right.ensures c.width-width.ensures

pub is_less_signed-requires-clause-right : goal.is_less_signed-requires-clause-right
is_less_signed-requires-clause-right c =
    right_fits c.args.x c.args.y c.value-right.result c.width-width.result
    (alike_width c.args.net.now c.requires.whole c.args.a c.args.b c.args.x c.args.y c.requires.left c.requires.right c.args.node.now
    (ap has_alike c.in-Slt.is) c.requires.two c.requires.fits) c.value-right.ensures c.width-width.ensures

pub joined-requires-clause-few : goal.joined-requires-clause-few
joined-requires-clause-few c =
    let few = joined_width c.args.net.now c.requires.whole c.args.a c.args.b c.args.x c.args.y c.requires.left c.requires.right
    c.args.node.now (ap is_joined c.in-Concat.is) c.requires.two c.requires.fits in
    omega (arith, few, c.width-width.ensures, c.width.ensures)

pub joined-requires-clause-some : goal.joined-requires-clause-some
joined-requires-clause-some c =
    let few = joined_width c.args.net.now c.requires.whole c.args.a c.args.b c.args.x c.args.y c.requires.left c.requires.right
    c.args.node.now (ap is_joined c.in-Concat.is) c.requires.two c.requires.fits in
    omega (arith, few, c.args.x.some_bits, c.width.ensures)
