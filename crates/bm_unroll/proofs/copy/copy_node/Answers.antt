use Rattle.bm_unroll.proofs.EachKind as kind
use Rattle.bm_unroll.proofs.copy.copy_node.Goals as goal

pub returns-in_ok-not-in-Not-clause-copies : goal.returns-in_ok-not-in-Not-clause-copies
returns-in_ok-not-in-Not-clause-copies c =
    kind.copies_not _ _ _ _ _ _ _ _ _ c.in-Not.is c.requires c.in_ok-not-in-Not.ensures.built

pub returns-in_ok-and-in-And-clause-copies : goal.returns-in_ok-and-in-And-clause-copies
returns-in_ok-and-in-And-clause-copies c =
    kind.copies_and _ _ _ _ _ _ _ _ _ _ _ c.in-And.is c.requires c.in_ok-and-in-And.ensures.built

pub returns-in_ok-or-in-Or-clause-copies : goal.returns-in_ok-or-in-Or-clause-copies
returns-in_ok-or-in-Or-clause-copies c =
    kind.copies_or _ _ _ _ _ _ _ _ _ _ _ c.in-Or.is c.requires c.in_ok-or-in-Or.ensures.built

pub returns-in_ok-xor-in-Xor-clause-copies : goal.returns-in_ok-xor-in-Xor-clause-copies
returns-in_ok-xor-in-Xor-clause-copies c =
    kind.copies_xor _ _ _ _ _ _ _ _ _ _ _ c.in-Xor.is c.requires c.in_ok-xor-in-Xor.ensures.built

pub returns-in_ok-add-in-Add-clause-copies : goal.returns-in_ok-add-in-Add-clause-copies
returns-in_ok-add-in-Add-clause-copies c =
    kind.copies_add _ _ _ _ _ _ _ _ _ _ _ c.in-Add.is c.requires c.in_ok-add-in-Add.ensures.built

pub returns-in_ok-sub-in-Sub-clause-copies : goal.returns-in_ok-sub-in-Sub-clause-copies
returns-in_ok-sub-in-Sub-clause-copies c =
    kind.copies_sub _ _ _ _ _ _ _ _ _ _ _ c.in-Sub.is c.requires c.in_ok-sub-in-Sub.ensures.built

pub returns-in_ok-mul-in-Mul-clause-copies : goal.returns-in_ok-mul-in-Mul-clause-copies
returns-in_ok-mul-in-Mul-clause-copies c =
    kind.copies_mul _ _ _ _ _ _ _ _ _ _ _ c.in-Mul.is c.requires c.in_ok-mul-in-Mul.ensures.built

pub returns-in_ok-eq-in-Eq-clause-copies : goal.returns-in_ok-eq-in-Eq-clause-copies
returns-in_ok-eq-in-Eq-clause-copies c =
    kind.copies_eq _ _ _ _ _ _ _ _ _ _ _ c.in-Eq.is c.requires c.in_ok-eq-in-Eq.ensures.built

pub returns-in_ok-ult-in-Ult-clause-copies : goal.returns-in_ok-ult-in-Ult-clause-copies
returns-in_ok-ult-in-Ult-clause-copies c =
    kind.copies_ult _ _ _ _ _ _ _ _ _ _ _ c.in-Ult.is c.requires c.in_ok-ult-in-Ult.ensures.built

pub returns-in_ok-slt-in-Slt-clause-copies : goal.returns-in_ok-slt-in-Slt-clause-copies
returns-in_ok-slt-in-Slt-clause-copies c =
    kind.copies_slt _ _ _ _ _ _ _ _ _ _ _ c.in-Slt.is c.requires c.in_ok-slt-in-Slt.ensures.built

pub returns-in_ok-shl-in-Shl-clause-copies : goal.returns-in_ok-shl-in-Shl-clause-copies
returns-in_ok-shl-in-Shl-clause-copies c =
    kind.copies_shl _ _ _ _ _ _ _ _ _ _ _ c.in-Shl.is c.requires c.in_ok-shl-in-Shl.ensures.built

pub returns-in_ok-lshr-in-Lshr-clause-copies : goal.returns-in_ok-lshr-in-Lshr-clause-copies
returns-in_ok-lshr-in-Lshr-clause-copies c =
    kind.copies_lshr _ _ _ _ _ _ _ _ _ _ _ c.in-Lshr.is c.requires c.in_ok-lshr-in-Lshr.ensures.built

pub returns-in_ok-ashr-in-Ashr-clause-copies : goal.returns-in_ok-ashr-in-Ashr-clause-copies
returns-in_ok-ashr-in-Ashr-clause-copies c =
    kind.copies_ashr _ _ _ _ _ _ _ _ _ _ _ c.in-Ashr.is c.requires c.in_ok-ashr-in-Ashr.ensures.built

pub returns-in_ok-concat-in-Concat-clause-copies : goal.returns-in_ok-concat-in-Concat-clause-copies
returns-in_ok-concat-in-Concat-clause-copies c =
    kind.copies_concat _ _ _ _ _ _ _ _ _ _ _ c.in-Concat.is c.requires c.in_ok-concat-in-Concat.ensures.built

pub returns-in_ok-mux-in-Mux-clause-copies : goal.returns-in_ok-mux-in-Mux-clause-copies
returns-in_ok-mux-in-Mux-clause-copies c =
    kind.copies_mux _ _ _ _ _ _ _ _ _ _ _ _ _ c.in-Mux.is c.requires c.in_ok-mux-in-Mux.ensures.built

pub returns-in_ok-slice-in-Slice-clause-copies : goal.returns-in_ok-slice-in-Slice-clause-copies
returns-in_ok-slice-in-Slice-clause-copies c =
    kind.copies_slice _ _ _ _ _ _ _ _ _ _ _ c.in-Slice.is c.requires c.in_ok-slice-in-Slice.ensures.built

pub returns-in_ok-zext-in-Zext-clause-copies : goal.returns-in_ok-zext-in-Zext-clause-copies
returns-in_ok-zext-in-Zext-clause-copies c =
    kind.copies_zext _ _ _ _ _ _ _ _ _ _ c.in-Zext.is c.requires c.in_ok-zext-in-Zext.ensures.built

pub returns-in_ok-sext-in-Sext-clause-copies : goal.returns-in_ok-sext-in-Sext-clause-copies
returns-in_ok-sext-in-Sext-clause-copies c =
    kind.copies_sext _ _ _ _ _ _ _ _ _ _ c.in-Sext.is c.requires c.in_ok-sext-in-Sext.ensures.built

pub returns-in_ok-konst-in-Konst-clause-copies : goal.returns-in_ok-konst-in-Konst-clause-copies
returns-in_ok-konst-in-Konst-clause-copies c = kind.copies_konst _ _ _ _ _ _ _ _ c.in-Konst.is
    c.in_ok-konst-in-Konst.ensures.built

pub returns-in-Input-clause-copies : goal.returns-in-Input-clause-copies
returns-in-Input-clause-copies c = kind.copies_input _ _ _ _ _ _ _ c.in-Input.is c.requires

pub returns-in-Reg-clause-copies : goal.returns-in-Reg-clause-copies
returns-in-Reg-clause-copies c = kind.copies_reg _ _ _ _ _ _ _ _ c.in-Reg.is c.requires c.as_slice.ensures

pub returns-in_ok-read_word-in-Read-clause-copies : goal.returns-in_ok-read_word-in-Read-clause-copies
returns-in_ok-read_word-in-Read-clause-copies c =
    kind.copies_read _ _ _ _ _ _ _ _ _ _ c.in-Read.is c.requires c.in_ok-read_word-in-Read.ensures.there
    c.in_ok-read_word-in-Read.ensures.value
