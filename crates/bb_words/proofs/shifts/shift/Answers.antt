use Rattle.std.specs.Prelude.{◌≡◌, ◌-◌, ◌<◌, ◌≤◌, ◌^◌, ℕ, List, length, take, drop}
use Rattle.std.specs.Prelude.{slice_index_or}
use Rattle.std.proofs.Common.{ap, sym, subst, arith}
use Rattle.std.proofs.lemmas.List.{take_rest}
use Rattle.bb_aig.specs.Graph.{lit_at}
use Rattle.bb_aig.specs.Bits.{paired, pick}
use Rattle.bb_aig.specs.Gates.{AreLits, AreMade, bits}
use Rattle.bb_aig.proofs.Growth.{lit_on}
use Rattle.bb_words.specs.Moves.{moved}
use Rattle.bb_words.proofs.Lits.{lit_in}
use Rattle.bb_words.proofs.Shifting.{Shifting, shifting_none, shifting_next, shifted_all}
use Rattle.bb_words.proofs.shifts.shift.Goals as goal

pub loop-index-init : goal.loop-index-init
loop-index-init c =
    shifting_none c.args.gates.now c.args.direction c.args.fill c.args.word.now c.args.by.now c.in_ok-copy.copy.items
    c.requires.left c.in_ok-copy.ensures.items

pub shift_step-requires-clause-within : goal.shift_step-requires-clause-within
shift_step-requires-clause-within c =
    omega (
      arith,
      ap length c.as_slice.ensures.value,
      c.loop-index.invariant.wide,
      c.power.ensures,
      c.levels-levels.ensures.below c.loop-index.index (omega arith),
    )

pub shift_step-requires-clause-fill : goal.shift_step-requires-clause-fill
shift_step-requires-clause-fill c =
    lit_on c.args.gates.now c.loop-index.gates c.args.fill c.loop-index.invariant.grows c.requires.fill

pub shift_step-requires-clause-test : goal.shift_step-requires-clause-test
shift_step-requires-clause-test c =
    lit_on c.args.gates.now c.loop-index.gates _ c.loop-index.invariant.grows
    (lit_in c.args.gates.now c.args.by.now c.loop-index.index _ c.requires.right (omega arith))

pub shift_step-requires-clause-word : goal.shift_step-requires-clause-word
shift_step-requires-clause-word c =
    let P : List ℕ → Type 0 = λ ls. AreLits c.loop-index.gates ls in
    subst P (sym c.as_slice.ensures.value) c.loop-index.invariant.there

pub loop-index-preserved : goal.loop-index-preserved
loop-index-preserved c =
    let now = c.loop-index.gates in
    let test = slice_index_or c.args.by.now c.loop-index.index 0 in
    let M : List ℕ → Type 0 = λ ls. AreMade c.shift_step.new.gates (λ x. paired (pick (lit_at now x test))
    (moved c.args.direction (lit_at now x c.args.fill) c.power.result (bits now x ls)) (bits now x ls))
    c.in_ok-shifted.shifted.items in
    shifting_next c.args.gates.now now c.shift_step.new.gates c.args.direction c.args.fill c.power.result
    c.loop-index.index 0 c.args.word.now c.args.by.now c.loop-index.shifted.items c.in_ok-shifted.shifted.items
    c.requires.fill c.requires.right (omega arith) c.power.ensures c.loop-index.invariant c.in_ok-shifted.ensures.grows
    (subst M c.as_slice.ensures.value c.in_ok-shifted.ensures.made)

pub returns-clause-made : goal.returns-clause-made
returns-clause-made c =
    let old = c.args.gates.now in
    let now = c.loop-index.gates in
    let by = c.args.by.now in
    let i = c.levels-levels.result in
    let all : c.loop-index.index ≡ i = omega arith in
    let S : ℕ → Type 0 = λ k. Shifting old now c.args.direction c.args.fill c.args.word.now by k
    c.loop-index.shifted.items in
    let rest = take (length by - i) (drop i by) in
    let enough : i < length by → length c.args.word.now ≤ 2 ^ i =
    λ lt. omega (arith, c.levels-levels.ensures.enough (omega arith)) in
    let P : List ℕ → Type 0 = λ ls. AreMade c.choose.new.gates (λ x. paired (pick (lit_at c.is_any.new.gates x
    c.in_ok-past.past)) (bits c.is_any.new.gates x c.in_ok-filled.filled.items) (bits c.is_any.new.gates x ls))
    c.in_ok-made.made.items in
    let Q : List ℕ → Type 0 = λ ls. AreMade c.choose.new.gates (λ x. paired (pick (lit_at c.is_any.new.gates x
    c.in_ok-past.past)) (bits c.is_any.new.gates x ls) (bits c.is_any.new.gates x c.as_slice-3.result.now))
    c.in_ok-made.made.items in
    shifted_all old now c.is_any.new.gates c.choose.new.gates c.args.direction c.args.fill i c.constant-none.result
    c.in_ok-past.past c.args.word.now by c.loop-index.shifted.items rest c.in_ok-filled.filled.items
    c.in_ok-made.made.items c.requires.fill c.requires.right enough
    (subst S all c.loop-index.invariant) c.constant-none.ensures (take_rest by i) c.in_ok-past.ensures.grows
    c.in_ok-past.ensures.made c.in_ok-filled.ensures
    (subst P c.as_slice-3.ensures.value (subst Q c.as_slice-2.ensures.value c.in_ok-made.ensures.made))
