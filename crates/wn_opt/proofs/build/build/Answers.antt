use Rattle.std.specs.Prelude.{◌+◌}
use Rattle.wn_net.specs.declared.node.Node.TheVariants as n
use Rattle.wn_opt.proofs.Building.{fits_as, there, alike, of_width, joined_few, no_wider, no_narrower}
use Rattle.wn_opt.proofs.Building.{mem_there}
use Rattle.wn_opt.proofs.build.build.Goals as goal

pub and-requires-clause-left : goal.and-requires-clause-left
and-requires-clause-left c =
    there c.args.net.now c.in-And.a (fits_as c.args.net.now c.args.node (n.And c.in-And.a c.in-And.b) c.in-And.is c.requires.fits).0

pub and-requires-clause-right : goal.and-requires-clause-right
and-requires-clause-right c =
    alike c.args.net.now c.in-And.a c.in-And.b
    (fits_as c.args.net.now c.args.node (n.And c.in-And.a c.in-And.b) c.in-And.is c.requires.fits)

pub or-requires-clause-left : goal.or-requires-clause-left
or-requires-clause-left c =
    there c.args.net.now c.in-Or.a (fits_as c.args.net.now c.args.node (n.Or c.in-Or.a c.in-Or.b) c.in-Or.is c.requires.fits).0

pub or-requires-clause-right : goal.or-requires-clause-right
or-requires-clause-right c =
    alike c.args.net.now c.in-Or.a c.in-Or.b
    (fits_as c.args.net.now c.args.node (n.Or c.in-Or.a c.in-Or.b) c.in-Or.is c.requires.fits)

pub xor-requires-clause-left : goal.xor-requires-clause-left
xor-requires-clause-left c =
    there c.args.net.now c.in-Xor.a (fits_as c.args.net.now c.args.node (n.Xor c.in-Xor.a c.in-Xor.b) c.in-Xor.is c.requires.fits).0

pub xor-requires-clause-right : goal.xor-requires-clause-right
xor-requires-clause-right c =
    alike c.args.net.now c.in-Xor.a c.in-Xor.b
    (fits_as c.args.net.now c.args.node (n.Xor c.in-Xor.a c.in-Xor.b) c.in-Xor.is c.requires.fits)

pub add-requires-clause-left : goal.add-requires-clause-left
add-requires-clause-left c =
    there c.args.net.now c.in-Add.a (fits_as c.args.net.now c.args.node (n.Add c.in-Add.a c.in-Add.b) c.in-Add.is c.requires.fits).0

pub add-requires-clause-right : goal.add-requires-clause-right
add-requires-clause-right c =
    alike c.args.net.now c.in-Add.a c.in-Add.b
    (fits_as c.args.net.now c.args.node (n.Add c.in-Add.a c.in-Add.b) c.in-Add.is c.requires.fits)

pub sub-requires-clause-left : goal.sub-requires-clause-left
sub-requires-clause-left c =
    there c.args.net.now c.in-Sub.a (fits_as c.args.net.now c.args.node (n.Sub c.in-Sub.a c.in-Sub.b) c.in-Sub.is c.requires.fits).0

pub sub-requires-clause-right : goal.sub-requires-clause-right
sub-requires-clause-right c =
    alike c.args.net.now c.in-Sub.a c.in-Sub.b
    (fits_as c.args.net.now c.args.node (n.Sub c.in-Sub.a c.in-Sub.b) c.in-Sub.is c.requires.fits)

pub mul-requires-clause-left : goal.mul-requires-clause-left
mul-requires-clause-left c =
    there c.args.net.now c.in-Mul.a (fits_as c.args.net.now c.args.node (n.Mul c.in-Mul.a c.in-Mul.b) c.in-Mul.is c.requires.fits).0

pub mul-requires-clause-right : goal.mul-requires-clause-right
mul-requires-clause-right c =
    alike c.args.net.now c.in-Mul.a c.in-Mul.b
    (fits_as c.args.net.now c.args.node (n.Mul c.in-Mul.a c.in-Mul.b) c.in-Mul.is c.requires.fits)

pub eq-requires-clause-left : goal.eq-requires-clause-left
eq-requires-clause-left c =
    there c.args.net.now c.in-Eq.a (fits_as c.args.net.now c.args.node (n.Eq c.in-Eq.a c.in-Eq.b) c.in-Eq.is c.requires.fits).0

pub eq-requires-clause-right : goal.eq-requires-clause-right
eq-requires-clause-right c =
    alike c.args.net.now c.in-Eq.a c.in-Eq.b
    (fits_as c.args.net.now c.args.node (n.Eq c.in-Eq.a c.in-Eq.b) c.in-Eq.is c.requires.fits)

pub ult-requires-clause-left : goal.ult-requires-clause-left
ult-requires-clause-left c =
    there c.args.net.now c.in-Ult.a (fits_as c.args.net.now c.args.node (n.Ult c.in-Ult.a c.in-Ult.b) c.in-Ult.is c.requires.fits).0

pub ult-requires-clause-right : goal.ult-requires-clause-right
ult-requires-clause-right c =
    alike c.args.net.now c.in-Ult.a c.in-Ult.b
    (fits_as c.args.net.now c.args.node (n.Ult c.in-Ult.a c.in-Ult.b) c.in-Ult.is c.requires.fits)

pub slt-requires-clause-left : goal.slt-requires-clause-left
slt-requires-clause-left c =
    there c.args.net.now c.in-Slt.a (fits_as c.args.net.now c.args.node (n.Slt c.in-Slt.a c.in-Slt.b) c.in-Slt.is c.requires.fits).0

pub slt-requires-clause-right : goal.slt-requires-clause-right
slt-requires-clause-right c =
    alike c.args.net.now c.in-Slt.a c.in-Slt.b
    (fits_as c.args.net.now c.args.node (n.Slt c.in-Slt.a c.in-Slt.b) c.in-Slt.is c.requires.fits)

pub shl-requires-clause-left : goal.shl-requires-clause-left
shl-requires-clause-left c =
    there c.args.net.now c.in-Shl.a (fits_as c.args.net.now c.args.node (n.Shl c.in-Shl.a c.in-Shl.b) c.in-Shl.is c.requires.fits).0

pub shl-requires-clause-right : goal.shl-requires-clause-right
shl-requires-clause-right c =
    there c.args.net.now c.in-Shl.b (fits_as c.args.net.now c.args.node (n.Shl c.in-Shl.a c.in-Shl.b) c.in-Shl.is c.requires.fits).1

pub lshr-requires-clause-left : goal.lshr-requires-clause-left
lshr-requires-clause-left c =
    there c.args.net.now c.in-Lshr.a (fits_as c.args.net.now c.args.node (n.Lshr c.in-Lshr.a c.in-Lshr.b) c.in-Lshr.is c.requires.fits).0

pub lshr-requires-clause-right : goal.lshr-requires-clause-right
lshr-requires-clause-right c =
    there c.args.net.now c.in-Lshr.b (fits_as c.args.net.now c.args.node (n.Lshr c.in-Lshr.a c.in-Lshr.b) c.in-Lshr.is c.requires.fits).1

pub ashr-requires-clause-left : goal.ashr-requires-clause-left
ashr-requires-clause-left c =
    there c.args.net.now c.in-Ashr.a (fits_as c.args.net.now c.args.node (n.Ashr c.in-Ashr.a c.in-Ashr.b) c.in-Ashr.is c.requires.fits).0

pub ashr-requires-clause-right : goal.ashr-requires-clause-right
ashr-requires-clause-right c =
    there c.args.net.now c.in-Ashr.b (fits_as c.args.net.now c.args.node (n.Ashr c.in-Ashr.a c.in-Ashr.b) c.in-Ashr.is c.requires.fits).1

pub concat-requires-clause-left : goal.concat-requires-clause-left
concat-requires-clause-left c =
    there c.args.net.now c.in-Concat.a (fits_as c.args.net.now c.args.node (n.Concat c.in-Concat.a c.in-Concat.b) c.in-Concat.is c.requires.fits).0

pub concat-requires-clause-right : goal.concat-requires-clause-right
concat-requires-clause-right c =
    there c.args.net.now c.in-Concat.b (fits_as c.args.net.now c.args.node (n.Concat c.in-Concat.a c.in-Concat.b) c.in-Concat.is c.requires.fits).1

pub concat-requires-clause-few : goal.concat-requires-clause-few
concat-requires-clause-few c =
    joined_few c.args.net.now c.in-Concat.a c.in-Concat.b
    (fits_as c.args.net.now c.args.node (n.Concat c.in-Concat.a c.in-Concat.b) c.in-Concat.is c.requires.fits).2

pub not-requires : goal.not-requires
not-requires c =
    there c.args.net.now c.in-Not.a (fits_as c.args.net.now c.args.node (n.Not c.in-Not.a) c.in-Not.is c.requires.fits)

pub read-requires-clause-mem : goal.read-requires-clause-mem
read-requires-clause-mem c =
    mem_there c.args.net.now c.in-Read.mem (fits_as c.args.net.now c.args.node (n.Read c.in-Read.mem c.in-Read.a) c.in-Read.is c.requires.fits).0

pub read-requires-clause-addr : goal.read-requires-clause-addr
read-requires-clause-addr c =
    there c.args.net.now c.in-Read.a (fits_as c.args.net.now c.args.node (n.Read c.in-Read.mem c.in-Read.a) c.in-Read.is c.requires.fits).1

pub mux-requires-clause-cond : goal.mux-requires-clause-cond
mux-requires-clause-cond c =
    of_width c.args.net.now c.in-Mux.c 1 (fits_as c.args.net.now c.args.node (n.Mux c.in-Mux.c c.in-Mux.a c.in-Mux.b) c.in-Mux.is c.requires.fits).0
    (fits_as c.args.net.now c.args.node (n.Mux c.in-Mux.c c.in-Mux.a c.in-Mux.b) c.in-Mux.is c.requires.fits).1

pub mux-requires-clause-yes : goal.mux-requires-clause-yes
mux-requires-clause-yes c =
    there c.args.net.now c.in-Mux.a (fits_as c.args.net.now c.args.node (n.Mux c.in-Mux.c c.in-Mux.a c.in-Mux.b) c.in-Mux.is c.requires.fits).2.0

pub mux-requires-clause-no : goal.mux-requires-clause-no
mux-requires-clause-no c =
    alike c.args.net.now c.in-Mux.a c.in-Mux.b
    (fits_as c.args.net.now c.args.node (n.Mux c.in-Mux.c c.in-Mux.a c.in-Mux.b) c.in-Mux.is c.requires.fits).2

pub slice-requires-clause-there : goal.slice-requires-clause-there
slice-requires-clause-there c =
    there c.args.net.now c.in-Slice.a (fits_as c.args.net.now c.args.node (n.Slice c.in-Slice.a c.in-Slice.low c.in-Slice.width) c.in-Slice.is c.requires.fits).0

pub slice-requires-clause-some : goal.slice-requires-clause-some
slice-requires-clause-some c =
    ((fits_as c.args.net.now c.args.node (n.Slice c.in-Slice.a c.in-Slice.low c.in-Slice.width) c.in-Slice.is c.requires.fits)).1

pub slice-requires-clause-within : goal.slice-requires-clause-within
slice-requires-clause-within c =
    no_narrower c.args.net.now c.in-Slice.a (c.in-Slice.low + c.in-Slice.width)
    (fits_as c.args.net.now c.args.node (n.Slice c.in-Slice.a c.in-Slice.low c.in-Slice.width) c.in-Slice.is c.requires.fits).2

pub zext-requires-clause-there : goal.zext-requires-clause-there
zext-requires-clause-there c =
    there c.args.net.now c.in-Zext.a (fits_as c.args.net.now c.args.node (n.Zext c.in-Zext.a c.in-Zext.width) c.in-Zext.is c.requires.fits).0

pub zext-requires-clause-wider : goal.zext-requires-clause-wider
zext-requires-clause-wider c =
    no_wider c.args.net.now c.in-Zext.a c.in-Zext.width
    (fits_as c.args.net.now c.args.node (n.Zext c.in-Zext.a c.in-Zext.width) c.in-Zext.is c.requires.fits).1

pub zext-requires-clause-few : goal.zext-requires-clause-few
zext-requires-clause-few c =
    ((fits_as c.args.net.now c.args.node (n.Zext c.in-Zext.a c.in-Zext.width) c.in-Zext.is c.requires.fits)).2

pub sext-requires-clause-there : goal.sext-requires-clause-there
sext-requires-clause-there c =
    there c.args.net.now c.in-Sext.a (fits_as c.args.net.now c.args.node (n.Sext c.in-Sext.a c.in-Sext.width) c.in-Sext.is c.requires.fits).0

pub sext-requires-clause-wider : goal.sext-requires-clause-wider
sext-requires-clause-wider c =
    no_wider c.args.net.now c.in-Sext.a c.in-Sext.width
    (fits_as c.args.net.now c.args.node (n.Sext c.in-Sext.a c.in-Sext.width) c.in-Sext.is c.requires.fits).1

pub sext-requires-clause-few : goal.sext-requires-clause-few
sext-requires-clause-few c =
    ((fits_as c.args.net.now c.args.node (n.Sext c.in-Sext.a c.in-Sext.width) c.in-Sext.is c.requires.fits)).2
