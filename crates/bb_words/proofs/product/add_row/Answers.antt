use Rattle.std.specs.Prelude.{◌&&◌, ℕ, Bool, false, List, length}
use Rattle.std.proofs.Common.{ap, sym, ◌∙◌, subst}
use Rattle.std.proofs.lemmas.List.{length-map}
use Rattle.bb_aig.specs.Graph.{lit_at}
use Rattle.bb_aig.specs.Gates.{AreLits, bits}
use Rattle.bb_words.proofs.Lits.{lits_on}
use Rattle.bb_words.proofs.Copies.{wide_bits, wide_by, made_as}
use Rattle.bb_words.proofs.Multiplying.{row_added}
use Rattle.bb_words.proofs.product.add_row.Goals as goal

pub add-requires-clause-each : goal.add-requires-clause-each
add-requires-clause-each c =
    let old = c.args.gates.now in
    let x : ℕ → Bool = λ i. false in
    ap length c.as_slice.ensures.value
    ∙ wide_by c.masked.new.gates _ c.in_ok-masked.masked.items c.in_ok-masked.ensures.made
    ∙ length-map (bits old x c.args.row.now) (λ v. lit_at old x c.args.bit && v) ∙ wide_bits old x c.args.row.now
    ∙ c.requires.each

pub add-requires-clause-left : goal.add-requires-clause-left
add-requires-clause-left c =
    lits_on c.args.gates.now c.masked.new.gates c.args.sum.now c.in_ok-masked.ensures.grows c.requires.left

pub add-requires-clause-right : goal.add-requires-clause-right
add-requires-clause-right c =
    let P : List ℕ → Type 0 = λ ls. AreLits c.masked.new.gates ls in
    subst P (sym c.as_slice.ensures.value) c.in_ok-masked.ensures.made.there

pub add-requires-clause-below : goal.add-requires-clause-below
add-requires-clause-below c = c.constant-none.ensures.there

pub returns-clause-made : goal.returns-clause-made
returns-clause-made c =
    row_added c.args.gates.now c.masked.new.gates c.add.new.gates c.args.bit c.constant-none.result c.args.sum.now
    c.args.row.now c.as_slice.result.now c.in_ok-made.made.items c.requires.left c.in_ok-masked.ensures.grows
    (made_as c.masked.new.gates _ c.in_ok-masked.masked.items c.as_slice.result.now c.as_slice.ensures.value
    c.in_ok-masked.ensures.made)
    c.constant-none.ensures c.in_ok-made.ensures.made
