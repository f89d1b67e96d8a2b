use Rattle.std.specs.Prelude.{ℕ, List, length}
use Rattle.std.proofs.Common.{sym, ap, ◌∙◌, subst}
use Rattle.bb_aig.specs.Gates.{AreLits}
use Rattle.bb_words.proofs.Copies.{made_as}
use Rattle.bb_words.proofs.Made as made
use Rattle.bb_words.proofs.gates.less_signed.Goals as goal

pub is_less-requires-clause-each : goal.is_less-requires-clause-each
is_less-requires-clause-each c =
    let old = c.args.gates.now in
    ap length c.as_slice-2.ensures.value
    ∙ made.turned_wide old c.args.b.now c.in_ok-right.right.items (c.in_ok-right.ensures old c.requires.right)
    ∙ c.requires.each
    ∙ sym (made.turned_wide old c.args.a.now c.in_ok-left.left.items (c.in_ok-left.ensures old c.requires.left))
    ∙ sym (ap length c.as_slice.ensures.value)

pub is_less-requires-clause-left : goal.is_less-requires-clause-left
is_less-requires-clause-left c =
    let P : List ℕ → Type 0 = λ ls. AreLits c.args.gates.now ls in
    subst P (sym c.as_slice.ensures.value) (c.in_ok-left.ensures c.args.gates.now c.requires.left).there

pub is_less-requires-clause-right : goal.is_less-requires-clause-right
is_less-requires-clause-right c =
    let P : List ℕ → Type 0 = λ ls. AreLits c.args.gates.now ls in
    subst P (sym c.as_slice-2.ensures.value) (c.in_ok-right.ensures c.args.gates.now c.requires.right).there

pub is_less-requires-clause-below : goal.is_less-requires-clause-below
is_less-requires-clause-below c = c.constant-none.ensures.there

pub returns-clause-word : goal.returns-clause-word
returns-clause-word c =
    let old = c.args.gates.now in
    made.pair_less_signed old c.is_less.new.gates c.constant-none.result c.in_ok-lit.lit c.args.a.now c.args.b.now
    c.as_slice.result.now
    c.as_slice-2.result.now c.in_ok-made.made c.requires.some c.requires.each
    (made_as old _ c.in_ok-left.left.items c.as_slice.result.now c.as_slice.ensures.value
    (c.in_ok-left.ensures old c.requires.left))
    (made_as old _ c.in_ok-right.right.items c.as_slice-2.result.now c.as_slice-2.ensures.value
    (c.in_ok-right.ensures old c.requires.right))
    c.constant-none.ensures c.in_ok-lit.ensures.made c.in_ok-made.ensures
