use Rattle.std.specs.Prelude.{◌&&◌, ◌≤◌, ℕ, false, List, length, map}
use Rattle.std.specs.Prelude.{slice_index_or}
use Rattle.std.proofs.Common.{ap, sym, ◌∙◌, subst, arith}
use Rattle.bb_aig.specs.Graph.{lit_at}
use Rattle.bb_aig.specs.Bits.{add_bits}
use Rattle.bb_aig.specs.Gates.{AreLits, AreMade, bits}
use Rattle.bb_aig.proofs.Growth.{lit_on}
use Rattle.bb_words.specs.declared.shifts.Direction.TheVariants.{Up}
use Rattle.bb_words.specs.Moves.{moved}
use Rattle.bb_words.proofs.Lits.{lit_in}
use Rattle.bb_words.proofs.Multiplying.{multiplying_none, multiplying_next, multiplied_all}
use Rattle.bb_words.proofs.product.multiply.Goals as goal

pub loop-bit-init : goal.loop-bit-init
loop-bit-init c =
    multiplying_none c.args.gates.now c.constant-none.result c.args.a.now c.args.b.now c.in_ok-zeros.zeros.items
    c.in_ok-copy.copy.items c.requires.left c.constant-none.ensures c.in_ok-zeros.ensures c.in_ok-copy.ensures.items

pub add_row-requires-clause-each : goal.add_row-requires-clause-each
add_row-requires-clause-each c =
    ap length c.as_slice-in-loop-bit.ensures.value ∙ c.loop-bit.invariant.row_wide
    ∙ sym (ap length c.as_slice.ensures.value ∙ c.loop-bit.invariant.sum_wide)

pub add_row-requires-clause-left : goal.add_row-requires-clause-left
add_row-requires-clause-left c =
    let P : List ℕ → Type 0 = λ ls. AreLits c.loop-bit.gates ls in
    subst P (sym c.as_slice.ensures.value) c.loop-bit.invariant.sum_there

pub add_row-requires-clause-right : goal.add_row-requires-clause-right
add_row-requires-clause-right c =
    let P : List ℕ → Type 0 = λ ls. AreLits c.loop-bit.gates ls in
    subst P (sym c.as_slice-in-loop-bit.ensures.value) c.loop-bit.invariant.row_there

pub add_row-requires-clause-bit : goal.add_row-requires-clause-bit
add_row-requires-clause-bit c =
    lit_on c.args.gates.now c.loop-bit.gates _ c.loop-bit.invariant.grows
    (lit_in c.args.gates.now c.args.b.now c.loop-bit.bit-index _ c.requires.right (omega arith))

pub moved-requires : goal.moved-requires
moved-requires c =
    omega (
      arith,
      ap length c.as_slice-in-loop-bit-2.ensures.value,
      c.loop-bit.invariant.row_wide,
      c.requires.some,
    )

pub loop-bit-preserved : goal.loop-bit-preserved
loop-bit-preserved c =
    let now = c.loop-bit.gates in
    let bit = slice_index_or c.args.b.now c.loop-bit.bit-index 0 in
    let row = c.as_slice-in-loop-bit.result.now in
    let M : List ℕ → Type 0 = λ ls. AreMade c.add_row.new.gates
    (λ x. add_bits false (bits now x ls) (map (λ v. lit_at now x bit && v) (bits now x row)))
    c.in_ok-sum.sum.items in
    let N : List ℕ → Type 0 = λ ls. AreMade c.add_row.new.gates
    (λ x. add_bits false (bits now x c.loop-bit.sum.items) (map (λ v. lit_at now x bit && v) (bits now x ls)))
    c.in_ok-sum.sum.items in
    multiplying_next c.args.gates.now now c.add_row.new.gates c.constant-none.result c.loop-bit.bit-index 0
    c.args.a.now c.args.b.now c.loop-bit.sum.items c.loop-bit.row.items c.in_ok-sum.sum.items c.in_ok-row.row.items
    c.requires.right (omega arith) c.constant-none.ensures c.loop-bit.invariant c.in_ok-sum.ensures.grows
    (subst N c.as_slice-in-loop-bit.ensures.value (subst M c.as_slice.ensures.value c.in_ok-sum.ensures.made))
    (c.in_ok-row.ensures ∙ ap (moved Up c.constant-none.result 1) c.as_slice-in-loop-bit-2.ensures.value)

pub returns-clause-made : goal.returns-clause-made
returns-clause-made c =
    let past : length c.args.b.now ≤ c.loop-bit.bit-index = omega arith in
    multiplied_all c.args.gates.now c.loop-bit.gates c.args.a.now c.args.b.now c.loop-bit.bit-index
    c.loop-bit.sum.items c.loop-bit.row.items past c.loop-bit.invariant
