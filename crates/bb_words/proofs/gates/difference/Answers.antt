use Rattle.std.specs.Prelude.{ℕ, List, length}
use Rattle.std.proofs.Common.{sym, ap, ◌∙◌, subst}
use Rattle.std.proofs.lemmas.List.{length-map}
use Rattle.bb_aig.specs.Graph.{complement}
use Rattle.bb_aig.specs.Gates.{AreLits}
use Rattle.bb_words.proofs.Copies.{lits_complement}
use Rattle.bb_words.proofs.Made as made
use Rattle.bb_words.proofs.gates.difference.Goals as goal

pub add-requires-clause-each : goal.add-requires-clause-each
add-requires-clause-each c =
    ap length (c.as_slice.ensures.value ∙ c.in_ok-other.ensures) ∙ length-map c.args.b.now complement
    ∙ c.requires.each

pub add-requires-clause-right : goal.add-requires-clause-right
add-requires-clause-right c =
    let P : List ℕ → Type 0 = λ ls. AreLits c.args.gates.now ls in
    subst P (sym (c.as_slice.ensures.value ∙ c.in_ok-other.ensures))
    (lits_complement c.args.gates.now c.args.b.now c.requires.right)

pub add-requires-clause-below : goal.add-requires-clause-below
add-requires-clause-below c = c.constant-one.ensures.there

pub returns-clause-word : goal.returns-clause-word
returns-clause-word c =
    made.pair_difference c.args.gates.now c.add.new.gates c.constant-one.result c.args.a.now c.args.b.now
    c.as_slice.result.now
    c.in_ok-made.made.items c.from_vec.result c.requires.each (c.as_slice.ensures.value ∙ c.in_ok-other.ensures)
    c.constant-one.ensures c.in_ok-made.ensures.made c.from_vec.ensures
