use Rattle.bm_induct.proofs.Building.{fits_of, is_node, alike_node, set_node}
use Rattle.bm_induct.proofs.moved.put_node.Goals as goal

pub read-requires-clause-addr : goal.read-requires-clause-addr
read-requires-clause-addr c =
    is_node c.args.net.now _ (fits_of c.args.net.now c.args.node.now _ c.in-Read.is c.requires.fits).1

pub not-requires : goal.not-requires
not-requires c =
    is_node c.args.net.now _ (fits_of c.args.net.now c.args.node.now _ c.in-Not.is c.requires.fits)

pub and-requires-clause-left : goal.and-requires-clause-left
and-requires-clause-left c =
    is_node c.args.net.now _ (fits_of c.args.net.now c.args.node.now _ c.in-And.is c.requires.fits).0

pub and-requires-clause-right : goal.and-requires-clause-right
and-requires-clause-right c =
    alike_node c.args.net.now _ _ (fits_of c.args.net.now c.args.node.now _ c.in-And.is c.requires.fits)

pub or-requires-clause-left : goal.or-requires-clause-left
or-requires-clause-left c =
    is_node c.args.net.now _ (fits_of c.args.net.now c.args.node.now _ c.in-Or.is c.requires.fits).0

pub or-requires-clause-right : goal.or-requires-clause-right
or-requires-clause-right c =
    alike_node c.args.net.now _ _ (fits_of c.args.net.now c.args.node.now _ c.in-Or.is c.requires.fits)

pub xor-requires-clause-left : goal.xor-requires-clause-left
xor-requires-clause-left c =
    is_node c.args.net.now _ (fits_of c.args.net.now c.args.node.now _ c.in-Xor.is c.requires.fits).0

pub xor-requires-clause-right : goal.xor-requires-clause-right
xor-requires-clause-right c =
    alike_node c.args.net.now _ _ (fits_of c.args.net.now c.args.node.now _ c.in-Xor.is c.requires.fits)

pub add-requires-clause-left : goal.add-requires-clause-left
add-requires-clause-left c =
    is_node c.args.net.now _ (fits_of c.args.net.now c.args.node.now _ c.in-Add.is c.requires.fits).0

pub add-requires-clause-right : goal.add-requires-clause-right
add-requires-clause-right c =
    alike_node c.args.net.now _ _ (fits_of c.args.net.now c.args.node.now _ c.in-Add.is c.requires.fits)

pub sub-requires-clause-left : goal.sub-requires-clause-left
sub-requires-clause-left c =
    is_node c.args.net.now _ (fits_of c.args.net.now c.args.node.now _ c.in-Sub.is c.requires.fits).0

pub sub-requires-clause-right : goal.sub-requires-clause-right
sub-requires-clause-right c =
    alike_node c.args.net.now _ _ (fits_of c.args.net.now c.args.node.now _ c.in-Sub.is c.requires.fits)

pub mul-requires-clause-left : goal.mul-requires-clause-left
mul-requires-clause-left c =
    is_node c.args.net.now _ (fits_of c.args.net.now c.args.node.now _ c.in-Mul.is c.requires.fits).0

pub mul-requires-clause-right : goal.mul-requires-clause-right
mul-requires-clause-right c =
    alike_node c.args.net.now _ _ (fits_of c.args.net.now c.args.node.now _ c.in-Mul.is c.requires.fits)

pub eq-requires-clause-left : goal.eq-requires-clause-left
eq-requires-clause-left c =
    is_node c.args.net.now _ (fits_of c.args.net.now c.args.node.now _ c.in-Eq.is c.requires.fits).0

pub eq-requires-clause-right : goal.eq-requires-clause-right
eq-requires-clause-right c =
    alike_node c.args.net.now _ _ (fits_of c.args.net.now c.args.node.now _ c.in-Eq.is c.requires.fits)

pub ult-requires-clause-left : goal.ult-requires-clause-left
ult-requires-clause-left c =
    is_node c.args.net.now _ (fits_of c.args.net.now c.args.node.now _ c.in-Ult.is c.requires.fits).0

pub ult-requires-clause-right : goal.ult-requires-clause-right
ult-requires-clause-right c =
    alike_node c.args.net.now _ _ (fits_of c.args.net.now c.args.node.now _ c.in-Ult.is c.requires.fits)

pub slt-requires-clause-left : goal.slt-requires-clause-left
slt-requires-clause-left c =
    is_node c.args.net.now _ (fits_of c.args.net.now c.args.node.now _ c.in-Slt.is c.requires.fits).0

pub slt-requires-clause-right : goal.slt-requires-clause-right
slt-requires-clause-right c =
    alike_node c.args.net.now _ _ (fits_of c.args.net.now c.args.node.now _ c.in-Slt.is c.requires.fits)

pub shl-requires-clause-left : goal.shl-requires-clause-left
shl-requires-clause-left c =
    is_node c.args.net.now _ (fits_of c.args.net.now c.args.node.now _ c.in-Shl.is c.requires.fits).0

pub shl-requires-clause-right : goal.shl-requires-clause-right
shl-requires-clause-right c =
    is_node c.args.net.now _ (fits_of c.args.net.now c.args.node.now _ c.in-Shl.is c.requires.fits).1

pub lshr-requires-clause-left : goal.lshr-requires-clause-left
lshr-requires-clause-left c =
    is_node c.args.net.now _ (fits_of c.args.net.now c.args.node.now _ c.in-Lshr.is c.requires.fits).0

pub lshr-requires-clause-right : goal.lshr-requires-clause-right
lshr-requires-clause-right c =
    is_node c.args.net.now _ (fits_of c.args.net.now c.args.node.now _ c.in-Lshr.is c.requires.fits).1

pub ashr-requires-clause-left : goal.ashr-requires-clause-left
ashr-requires-clause-left c =
    is_node c.args.net.now _ (fits_of c.args.net.now c.args.node.now _ c.in-Ashr.is c.requires.fits).0

pub ashr-requires-clause-right : goal.ashr-requires-clause-right
ashr-requires-clause-right c =
    is_node c.args.net.now _ (fits_of c.args.net.now c.args.node.now _ c.in-Ashr.is c.requires.fits).1

pub concat-requires-clause-left : goal.concat-requires-clause-left
concat-requires-clause-left c =
    is_node c.args.net.now _ (fits_of c.args.net.now c.args.node.now _ c.in-Concat.is c.requires.fits).0

pub concat-requires-clause-right : goal.concat-requires-clause-right
concat-requires-clause-right c =
    is_node c.args.net.now _ (fits_of c.args.net.now c.args.node.now _ c.in-Concat.is c.requires.fits).1

pub mux-requires-clause-cond : goal.mux-requires-clause-cond
mux-requires-clause-cond c =
    let fits = fits_of c.args.net.now c.args.node.now _ c.in-Mux.is c.requires.fits in
    set_node c.args.net.now _ fits.0 fits.1

pub mux-requires-clause-yes : goal.mux-requires-clause-yes
mux-requires-clause-yes c =
    is_node c.args.net.now _ (fits_of c.args.net.now c.args.node.now _ c.in-Mux.is c.requires.fits).2.0

pub mux-requires-clause-no : goal.mux-requires-clause-no
mux-requires-clause-no c =
    alike_node c.args.net.now _ _ (fits_of c.args.net.now c.args.node.now _ c.in-Mux.is c.requires.fits).2

pub slice-requires-clause-there : goal.slice-requires-clause-there
slice-requires-clause-there c =
    is_node c.args.net.now _ (fits_of c.args.net.now c.args.node.now _ c.in-Slice.is c.requires.fits).0

pub zext-requires-clause-there : goal.zext-requires-clause-there
zext-requires-clause-there c =
    is_node c.args.net.now _ (fits_of c.args.net.now c.args.node.now _ c.in-Zext.is c.requires.fits).0

pub sext-requires-clause-there : goal.sext-requires-clause-there
sext-requires-clause-there c =
    is_node c.args.net.now _ (fits_of c.args.net.now c.args.node.now _ c.in-Sext.is c.requires.fits).0
