use Rattle.wn_net.specs.Width.{AreThere}
use Rattle.wn_net.specs.declared.node.Node.TheVariants as n
use Rattle.bb_words.specs.declared.operator.PairOperator.TheVariants as pair
use Rattle.bb_words.specs.declared.operator.ShiftOperator.TheVariants as moves
use Rattle.bb_blast.proofs.Nodes.{reads, means_here, means_input, means_konst, means_pair, means_shift}
use Rattle.bb_blast.proofs.node.node_word.Goals as goal

pub returns-in-Konst-clause-word : goal.returns-in-Konst-clause-word
returns-in-Konst-clause-word c =
    means_konst c.args.gates.now c.args.inputs.now c.args.table.now c.args.node.now c.in-Konst.word c.konst.result
    c.in-Konst.is
    c.konst.ensures

pub returns-in-Input-clause-word : goal.returns-in-Input-clause-word
returns-in-Input-clause-word c =
    means_input c.args.gates.now c.args.inputs.now c.args.table.now c.args.node.now c.in-Input.i c.input_node.result
    c.in-Input.is
    c.input_node.ensures

pub not_node-requires : goal.not_node-requires
not_node-requires c = reads c.args.gates.now c.args.inputs.now c.args.table.now c.args.node.now
    (n.Not c.in-Not.a) _ c.in-Not.is (λ wi ws f. f) c.requires

pub returns-in-Not-clause-word : goal.returns-in-Not-clause-word
returns-in-Not-clause-word c =
    means_here c.args.gates.now c.args.gates.now c.args.inputs.now c.args.table.now c.args.node.now (n.Not c.in-Not.a)
    c.not_node.result c.in-Not.is c.not_node.ensures

pub pair_node-requires : goal.pair_node-requires
pair_node-requires c = reads c.args.gates.now c.args.inputs.now c.args.table.now c.args.node.now
    (n.And c.in-And.a c.in-And.b) _ c.in-And.is (λ wi ws f. f) c.requires

pub returns-in-And-clause-word : goal.returns-in-And-clause-word
returns-in-And-clause-word c =
    means_pair c.args.gates.now c.pair_node.new.gates c.args.inputs.now c.args.table.now c.args.node.now
    (n.And c.in-And.a c.in-And.b) pair.And
    c.in-And.a c.in-And.b c.pair_node.result c.in-And.is c.pair_node.ensures.word (λ wi ws f. f)
    (λ wi ws given means l w. w)

pub pair_node-requires-in-Or : goal.pair_node-requires-in-Or
pair_node-requires-in-Or c = reads c.args.gates.now c.args.inputs.now c.args.table.now c.args.node.now
    (n.Or c.in-Or.a c.in-Or.b) _ c.in-Or.is (λ wi ws f. f) c.requires

pub returns-in-Or-clause-word : goal.returns-in-Or-clause-word
returns-in-Or-clause-word c =
    means_pair c.args.gates.now c.pair_node-in-Or.new.gates c.args.inputs.now c.args.table.now c.args.node.now
    (n.Or c.in-Or.a c.in-Or.b) pair.Or
    c.in-Or.a c.in-Or.b c.pair_node-in-Or.result c.in-Or.is c.pair_node-in-Or.ensures.word (λ wi ws f. f)
    (λ wi ws given means l w. w)

pub pair_node-requires-in-Xor : goal.pair_node-requires-in-Xor
pair_node-requires-in-Xor c = reads c.args.gates.now c.args.inputs.now c.args.table.now c.args.node.now
    (n.Xor c.in-Xor.a c.in-Xor.b) _ c.in-Xor.is (λ wi ws f. f) c.requires

pub returns-in-Xor-clause-word : goal.returns-in-Xor-clause-word
returns-in-Xor-clause-word c =
    means_pair c.args.gates.now c.pair_node-in-Xor.new.gates c.args.inputs.now c.args.table.now c.args.node.now
    (n.Xor c.in-Xor.a c.in-Xor.b) pair.Xor
    c.in-Xor.a c.in-Xor.b c.pair_node-in-Xor.result c.in-Xor.is c.pair_node-in-Xor.ensures.word (λ wi ws f. f)
    (λ wi ws given means l w. w)

pub pair_node-requires-in-Add : goal.pair_node-requires-in-Add
pair_node-requires-in-Add c = reads c.args.gates.now c.args.inputs.now c.args.table.now c.args.node.now
    (n.Add c.in-Add.a c.in-Add.b) _ c.in-Add.is (λ wi ws f. f) c.requires

pub returns-in-Add-clause-word : goal.returns-in-Add-clause-word
returns-in-Add-clause-word c =
    means_pair c.args.gates.now c.pair_node-in-Add.new.gates c.args.inputs.now c.args.table.now c.args.node.now
    (n.Add c.in-Add.a c.in-Add.b) pair.Add
    c.in-Add.a c.in-Add.b c.pair_node-in-Add.result c.in-Add.is c.pair_node-in-Add.ensures.word (λ wi ws f. f)
    (λ wi ws given means l w. w)

pub pair_node-requires-in-Sub : goal.pair_node-requires-in-Sub
pair_node-requires-in-Sub c = reads c.args.gates.now c.args.inputs.now c.args.table.now c.args.node.now
    (n.Sub c.in-Sub.a c.in-Sub.b) _ c.in-Sub.is (λ wi ws f. f) c.requires

pub returns-in-Sub-clause-word : goal.returns-in-Sub-clause-word
returns-in-Sub-clause-word c =
    means_pair c.args.gates.now c.pair_node-in-Sub.new.gates c.args.inputs.now c.args.table.now c.args.node.now
    (n.Sub c.in-Sub.a c.in-Sub.b) pair.Sub
    c.in-Sub.a c.in-Sub.b c.pair_node-in-Sub.result c.in-Sub.is c.pair_node-in-Sub.ensures.word (λ wi ws f. f)
    (λ wi ws given means l w. w)

pub pair_node-requires-in-Mul : goal.pair_node-requires-in-Mul
pair_node-requires-in-Mul c = reads c.args.gates.now c.args.inputs.now c.args.table.now c.args.node.now
    (n.Mul c.in-Mul.a c.in-Mul.b) _ c.in-Mul.is (λ wi ws f. f) c.requires

pub returns-in-Mul-clause-word : goal.returns-in-Mul-clause-word
returns-in-Mul-clause-word c =
    means_pair c.args.gates.now c.pair_node-in-Mul.new.gates c.args.inputs.now c.args.table.now c.args.node.now
    (n.Mul c.in-Mul.a c.in-Mul.b) pair.Mul
    c.in-Mul.a c.in-Mul.b c.pair_node-in-Mul.result c.in-Mul.is c.pair_node-in-Mul.ensures.word (λ wi ws f. f)
    (λ wi ws given means l w. w)

pub pair_node-requires-in-Eq : goal.pair_node-requires-in-Eq
pair_node-requires-in-Eq c = reads c.args.gates.now c.args.inputs.now c.args.table.now c.args.node.now
    (n.Eq c.in-Eq.a c.in-Eq.b) _ c.in-Eq.is (λ wi ws f. f) c.requires

pub returns-in-Eq-clause-word : goal.returns-in-Eq-clause-word
returns-in-Eq-clause-word c =
    means_pair c.args.gates.now c.pair_node-in-Eq.new.gates c.args.inputs.now c.args.table.now c.args.node.now
    (n.Eq c.in-Eq.a c.in-Eq.b) pair.Eq
    c.in-Eq.a c.in-Eq.b c.pair_node-in-Eq.result c.in-Eq.is c.pair_node-in-Eq.ensures.word (λ wi ws f. f)
    (λ wi ws given means l w. w)

pub pair_node-requires-in-Ult : goal.pair_node-requires-in-Ult
pair_node-requires-in-Ult c = reads c.args.gates.now c.args.inputs.now c.args.table.now c.args.node.now
    (n.Ult c.in-Ult.a c.in-Ult.b) _ c.in-Ult.is (λ wi ws f. f) c.requires

pub returns-in-Ult-clause-word : goal.returns-in-Ult-clause-word
returns-in-Ult-clause-word c =
    means_pair c.args.gates.now c.pair_node-in-Ult.new.gates c.args.inputs.now c.args.table.now c.args.node.now
    (n.Ult c.in-Ult.a c.in-Ult.b) pair.Ult
    c.in-Ult.a c.in-Ult.b c.pair_node-in-Ult.result c.in-Ult.is c.pair_node-in-Ult.ensures.word (λ wi ws f. f)
    (λ wi ws given means l w. w)

pub pair_node-requires-in-Slt : goal.pair_node-requires-in-Slt
pair_node-requires-in-Slt c = reads c.args.gates.now c.args.inputs.now c.args.table.now c.args.node.now
    (n.Slt c.in-Slt.a c.in-Slt.b) _ c.in-Slt.is (λ wi ws f. f) c.requires

pub returns-in-Slt-clause-word : goal.returns-in-Slt-clause-word
returns-in-Slt-clause-word c =
    means_pair c.args.gates.now c.pair_node-in-Slt.new.gates c.args.inputs.now c.args.table.now c.args.node.now
    (n.Slt c.in-Slt.a c.in-Slt.b) pair.Slt
    c.in-Slt.a c.in-Slt.b c.pair_node-in-Slt.result c.in-Slt.is c.pair_node-in-Slt.ensures.word (λ wi ws f. f)
    (λ wi ws given means l w. w)

pub shift_node-requires : goal.shift_node-requires
shift_node-requires c = reads c.args.gates.now c.args.inputs.now c.args.table.now c.args.node.now
    (n.Shl c.in-Shl.a c.in-Shl.b) _ c.in-Shl.is (λ wi ws f. f) c.requires

pub returns-in-Shl-clause-word : goal.returns-in-Shl-clause-word
returns-in-Shl-clause-word c =
    means_shift c.args.gates.now c.shift_node.new.gates c.args.inputs.now c.args.table.now c.args.node.now
    (n.Shl c.in-Shl.a c.in-Shl.b) moves.Shl
    c.in-Shl.a c.in-Shl.b c.shift_node.result c.in-Shl.is c.shift_node.ensures.word (λ wi ws f. f)
    (λ wi ws given means l w. w)

pub shift_node-requires-in-Lshr : goal.shift_node-requires-in-Lshr
shift_node-requires-in-Lshr c = reads c.args.gates.now c.args.inputs.now c.args.table.now c.args.node.now
    (n.Lshr c.in-Lshr.a c.in-Lshr.b) _ c.in-Lshr.is (λ wi ws f. f) c.requires

pub returns-in-Lshr-clause-word : goal.returns-in-Lshr-clause-word
returns-in-Lshr-clause-word c =
    means_shift c.args.gates.now c.shift_node-in-Lshr.new.gates c.args.inputs.now c.args.table.now c.args.node.now
    (n.Lshr c.in-Lshr.a c.in-Lshr.b) moves.Lshr
    c.in-Lshr.a c.in-Lshr.b c.shift_node-in-Lshr.result c.in-Lshr.is c.shift_node-in-Lshr.ensures.word (λ wi ws f. f)
    (λ wi ws given means l w. w)

pub shift_node-requires-in-Ashr : goal.shift_node-requires-in-Ashr
shift_node-requires-in-Ashr c = reads c.args.gates.now c.args.inputs.now c.args.table.now c.args.node.now
    (n.Ashr c.in-Ashr.a c.in-Ashr.b) _ c.in-Ashr.is (λ wi ws f. f) c.requires

pub returns-in-Ashr-clause-word : goal.returns-in-Ashr-clause-word
returns-in-Ashr-clause-word c =
    means_shift c.args.gates.now c.shift_node-in-Ashr.new.gates c.args.inputs.now c.args.table.now c.args.node.now
    (n.Ashr c.in-Ashr.a c.in-Ashr.b) moves.Ashr
    c.in-Ashr.a c.in-Ashr.b c.shift_node-in-Ashr.result c.in-Ashr.is c.shift_node-in-Ashr.ensures.word (λ wi ws f. f)
    (λ wi ws given means l w. w)

pub concat_node-requires : goal.concat_node-requires
concat_node-requires c = reads c.args.gates.now c.args.inputs.now c.args.table.now c.args.node.now
    (n.Concat c.in-Concat.a c.in-Concat.b) (λ ws. AreThere ws c.in-Concat.a c.in-Concat.b) c.in-Concat.is
    (λ wi ws f. (f.0, f.1)) c.requires

pub returns-in-Concat-clause-word : goal.returns-in-Concat-clause-word
returns-in-Concat-clause-word c =
    means_here c.args.gates.now c.args.gates.now c.args.inputs.now c.args.table.now c.args.node.now
    (n.Concat c.in-Concat.a c.in-Concat.b)
    c.concat_node.result c.in-Concat.is c.concat_node.ensures

pub mux_node-requires : goal.mux_node-requires
mux_node-requires c = reads c.args.gates.now c.args.inputs.now c.args.table.now c.args.node.now
    (n.Mux c.in-Mux.test c.in-Mux.a c.in-Mux.b) _ c.in-Mux.is (λ wi ws f. f) c.requires

pub returns-in-Mux-clause-word : goal.returns-in-Mux-clause-word
returns-in-Mux-clause-word c =
    means_here c.args.gates.now c.mux_node.new.gates c.args.inputs.now c.args.table.now c.args.node.now
    (n.Mux c.in-Mux.test c.in-Mux.a c.in-Mux.b)
    c.mux_node.result c.in-Mux.is c.mux_node.ensures.word

pub slice_node-requires : goal.slice_node-requires
slice_node-requires c = reads c.args.gates.now c.args.inputs.now c.args.table.now c.args.node.now
    (n.Slice c.in-Slice.a c.in-Slice.low c.in-Slice.width) _ c.in-Slice.is (λ wi ws f. f) c.requires

pub returns-in-Slice-clause-word : goal.returns-in-Slice-clause-word
returns-in-Slice-clause-word c =
    means_here c.args.gates.now c.args.gates.now c.args.inputs.now c.args.table.now c.args.node.now
    (n.Slice c.in-Slice.a c.in-Slice.low c.in-Slice.width)
    c.slice_node.result c.in-Slice.is c.slice_node.ensures

pub zext_node-requires : goal.zext_node-requires
zext_node-requires c = reads c.args.gates.now c.args.inputs.now c.args.table.now c.args.node.now
    (n.Zext c.in-Zext.a c.in-Zext.width) _ c.in-Zext.is (λ wi ws f. f) c.requires

pub returns-in-Zext-clause-word : goal.returns-in-Zext-clause-word
returns-in-Zext-clause-word c =
    means_here c.args.gates.now c.args.gates.now c.args.inputs.now c.args.table.now c.args.node.now
    (n.Zext c.in-Zext.a c.in-Zext.width)
    c.zext_node.result c.in-Zext.is c.zext_node.ensures

pub sext_node-requires : goal.sext_node-requires
sext_node-requires c = reads c.args.gates.now c.args.inputs.now c.args.table.now c.args.node.now
    (n.Sext c.in-Sext.a c.in-Sext.width) _ c.in-Sext.is (λ wi ws f. f) c.requires

pub returns-in-Sext-clause-word : goal.returns-in-Sext-clause-word
returns-in-Sext-clause-word c =
    means_here c.args.gates.now c.args.gates.now c.args.inputs.now c.args.table.now c.args.node.now
    (n.Sext c.in-Sext.a c.in-Sext.width)
    c.sext_node.result c.in-Sext.is c.sext_node.ensures
