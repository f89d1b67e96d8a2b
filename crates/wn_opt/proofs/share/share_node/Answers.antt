use Rattle.std.specs.Prelude.{Some, [], ◌∷◌, ◌++◌}
use Rattle.std.proofs.Common.{ap, sym, ◌∙◌, subst}
use Rattle.wn_net.specs.declared.node.Node.{Node}
use Rattle.wn_net.specs.Net.{IsNet, shape_of, widths_of}
use Rattle.wn_net.specs.Width.{IsFitting}
use Rattle.wn_net.specs.Changes.{Shows, width_in, value_in}
use Rattle.wn_opt.specs.Hashing.{Answers}
use Rattle.wn_opt.specs.Rebuilt.{AreShared}
use Rattle.wn_opt.specs.Table.{IsOperator}
use Rattle.wn_opt.proofs.Copying.{operator_of, renamed_operator}
use Rattle.wn_opt.proofs.Sharing.{next_input, next_operator, no_reg, shared_fits, shared_some}
use Rattle.wn_opt.proofs.share.share_node.Goals as goal

pub unreachable-requires : goal.unreachable-requires
unreachable-requires c =
    no_reg c.args.net.now _ c.in-Reg.field-0 c.requires.whole c.requires.flat (c.requires.at ∙ ap Some c.in-Reg.is)

pub place-requires-clause-operator : goal.place-requires-clause-operator
place-requires-clause-operator c =
    let op = operator_of c.args.node.now c.in_default.not-Input c.in_default.not-Reg in
    subst IsOperator (sym c.renamed.ensures) (renamed_operator c.args.places.now c.args.node.now op)

pub place-requires-clause-fits : goal.place-requires-clause-fits
place-requires-clause-fits c =
    let net = c.args.net.now in
    let a = c.args.hashed.now in
    let t = c.args.places.now in
    let x = c.args.node.now in
    let r = c.requires in
    let op = operator_of x c.in_default.not-Input c.in_default.not-Reg in
    subst (IsFitting (shape_of a) (widths_of a)) (sym c.renamed.ensures)
    (shared_fits net a c.args.marks.now t x r.whole r.flat r.shared r.operands r.at op)

pub returns-in-Input : goal.returns-in-Input
returns-in-Input c =
    let net = c.args.net.now in
    let a = c.args.hashed.now in
    let t = c.args.places.now in
    let r = c.requires in
    let i = c.in-Input.input in
    let own = subst (λ m. IsNet m) c.net.ensures c.whole.ensures in
    subst (λ k. AreShared net c.args.marks.now a (t ++ Some k ∷ [])) (sym c.from.ensures)
    (shared_some net a a c.args.marks.now t i r.shared r.marked
    (next_input net a c.args.marks.now t i r.whole own r.shared (r.at ∙ ap Some c.in-Input.is)))

pub returns-in_ok-place-in_default : goal.returns-in_ok-place-in_default
returns-in_ok-place-in_default c =
    let net = c.args.net.now in
    let a = c.args.hashed.now in
    let b = c.place.new.self in
    let t = c.args.places.now in
    let x = c.args.node.now in
    let r = c.requires in
    let op = operator_of x c.in_default.not-Input c.in_default.not-Reg in
    let id = c.in_ok-place-in_default.field-0 in
    let own = subst (λ m. IsNet m) c.net.ensures c.whole.ensures in
    let S : Node → Type 0 = λ y. Shows a b (width_in a y) (λ g. value_in a g y) id in
    let A : Node → Type 0 = λ y. Answers a b y id in
    shared_some net a b c.args.marks.now t id r.shared r.marked
    (next_operator net a c.args.marks.now t x r.whole r.flat r.shared r.operands r.at op b id own
    c.in_ok-place-in_default.ensures.adds (subst S c.renamed.ensures c.in_ok-place-in_default.ensures.shows)
    (subst A c.renamed.ensures c.in_ok-place-in_default.ensures.answers))
