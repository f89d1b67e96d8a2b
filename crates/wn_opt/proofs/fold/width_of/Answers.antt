use Rattle.std.specs.Prelude.{◌+◌, [], ◌∷◌}
use Rattle.std.proofs.Common.{ap, sym, ◌∙◌}
use Rattle.wn_net.specs.Net.{width_at}
use Rattle.wn_net.specs.Changes.{width_in}
use Rattle.wn_opt.specs.Needed.{operands}
use Rattle.wn_opt.proofs.Knowns.{first_there, second_there}
use Rattle.wn_opt.proofs.fold.width_of.Goals as goal

pub width-requires-in-Not : goal.width-requires-in-Not
width-requires-in-Not c =
    first_there c.args.net.now c.args.node.now c.in-Not.a [] c.requires (ap operands c.in-Not.is)

pub returns-in-Not : goal.returns-in-Not
unfolding width_at
returns-in-Not c = c.width-in-Not.ensures.value ∙ sym (ap (λ z. width_in c.args.net.now z) c.in-Not.is)

pub width-requires-in-And : goal.width-requires-in-And
width-requires-in-And c =
    first_there c.args.net.now c.args.node.now c.in-And.a (c.in-And.field-1 ∷ []) c.requires (ap operands c.in-And.is)

pub returns-in-And : goal.returns-in-And
unfolding width_at
returns-in-And c = c.width-in-And.ensures.value ∙ sym (ap (λ z. width_in c.args.net.now z) c.in-And.is)

pub width-requires-in-Or : goal.width-requires-in-Or
width-requires-in-Or c =
    first_there c.args.net.now c.args.node.now c.in-Or.a (c.in-Or.field-1 ∷ []) c.requires (ap operands c.in-Or.is)

pub returns-in-Or : goal.returns-in-Or
unfolding width_at
returns-in-Or c = c.width-in-Or.ensures.value ∙ sym (ap (λ z. width_in c.args.net.now z) c.in-Or.is)

pub width-requires-in-Xor : goal.width-requires-in-Xor
width-requires-in-Xor c =
    first_there c.args.net.now c.args.node.now c.in-Xor.a (c.in-Xor.field-1 ∷ []) c.requires (ap operands c.in-Xor.is)

pub returns-in-Xor : goal.returns-in-Xor
unfolding width_at
returns-in-Xor c = c.width-in-Xor.ensures.value ∙ sym (ap (λ z. width_in c.args.net.now z) c.in-Xor.is)

pub width-requires-in-Add : goal.width-requires-in-Add
width-requires-in-Add c =
    first_there c.args.net.now c.args.node.now c.in-Add.a (c.in-Add.field-1 ∷ []) c.requires (ap operands c.in-Add.is)

pub returns-in-Add : goal.returns-in-Add
unfolding width_at
returns-in-Add c = c.width-in-Add.ensures.value ∙ sym (ap (λ z. width_in c.args.net.now z) c.in-Add.is)

pub width-requires-in-Sub : goal.width-requires-in-Sub
width-requires-in-Sub c =
    first_there c.args.net.now c.args.node.now c.in-Sub.a (c.in-Sub.field-1 ∷ []) c.requires (ap operands c.in-Sub.is)

pub returns-in-Sub : goal.returns-in-Sub
unfolding width_at
returns-in-Sub c = c.width-in-Sub.ensures.value ∙ sym (ap (λ z. width_in c.args.net.now z) c.in-Sub.is)

pub width-requires-in-Mul : goal.width-requires-in-Mul
width-requires-in-Mul c =
    first_there c.args.net.now c.args.node.now c.in-Mul.a (c.in-Mul.field-1 ∷ []) c.requires (ap operands c.in-Mul.is)

pub returns-in-Mul : goal.returns-in-Mul
unfolding width_at
returns-in-Mul c = c.width-in-Mul.ensures.value ∙ sym (ap (λ z. width_in c.args.net.now z) c.in-Mul.is)

pub width-requires-in-Shl : goal.width-requires-in-Shl
width-requires-in-Shl c =
    first_there c.args.net.now c.args.node.now c.in-Shl.a (c.in-Shl.field-1 ∷ []) c.requires (ap operands c.in-Shl.is)

pub returns-in-Shl : goal.returns-in-Shl
unfolding width_at
returns-in-Shl c = c.width-in-Shl.ensures.value ∙ sym (ap (λ z. width_in c.args.net.now z) c.in-Shl.is)

pub width-requires-in-Lshr : goal.width-requires-in-Lshr
width-requires-in-Lshr c =
    first_there c.args.net.now c.args.node.now c.in-Lshr.a (c.in-Lshr.field-1 ∷ []) c.requires (ap operands c.in-Lshr.is)

pub returns-in-Lshr : goal.returns-in-Lshr
unfolding width_at
returns-in-Lshr c = c.width-in-Lshr.ensures.value ∙ sym (ap (λ z. width_in c.args.net.now z) c.in-Lshr.is)

pub width-requires-in-Ashr : goal.width-requires-in-Ashr
width-requires-in-Ashr c =
    first_there c.args.net.now c.args.node.now c.in-Ashr.a (c.in-Ashr.field-1 ∷ []) c.requires (ap operands c.in-Ashr.is)

pub returns-in-Ashr : goal.returns-in-Ashr
unfolding width_at
returns-in-Ashr c = c.width-in-Ashr.ensures.value ∙ sym (ap (λ z. width_in c.args.net.now z) c.in-Ashr.is)

pub width-requires-in-Concat : goal.width-requires-in-Concat
width-requires-in-Concat c =
    first_there c.args.net.now c.args.node.now c.in-Concat.a (c.in-Concat.b ∷ []) c.requires (ap operands c.in-Concat.is)

pub width-requires-in-Concat-2 : goal.width-requires-in-Concat-2
width-requires-in-Concat-2 c =
    second_there c.args.net.now c.args.node.now c.in-Concat.a c.in-Concat.b [] c.requires (ap operands c.in-Concat.is)

pub returns-in-Concat : goal.returns-in-Concat
unfolding width_at
returns-in-Concat c =
    (λ i. c.width-in-Concat.ensures.value i + c.width-in-Concat-2.ensures.value i)
    ∙ sym (ap (λ z. width_in c.args.net.now z) c.in-Concat.is)

pub width-requires-in-Mux : goal.width-requires-in-Mux
width-requires-in-Mux c =
    second_there c.args.net.now c.args.node.now c.in-Mux.field-0 c.in-Mux.a (c.in-Mux.field-2 ∷ []) c.requires (ap operands c.in-Mux.is)

pub returns-in-Mux : goal.returns-in-Mux
unfolding width_at
returns-in-Mux c = c.width-in-Mux.ensures.value ∙ sym (ap (λ z. width_in c.args.net.now z) c.in-Mux.is)
