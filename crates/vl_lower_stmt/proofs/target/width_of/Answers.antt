use Rattle.std.specs.Prelude.{◌≡◌, ◌+◌, [], ◌∷◌, drop, slice_index_or, pos}
use Rattle.std.proofs.Common.{ap, arith}
use Rattle.std.proofs.lemmas.List.{drop_more}
use Rattle.std.proofs.lemmas.Grind.{common_steps}
use Rattle.vl_lower_assign.specs.declared.spread.BitPlace.TheVariants as place
use Rattle.vl_lower_assign.specs.declared.slot.Holder.TheVariants as holder
use Rattle.vl_lower_assign.specs.declared.slot.Slot.{Slot}
use Rattle.vl_lower_assign.specs.Frames.{slots_width}
use Rattle.vl_lower_assign.proofs.Parting.{width_next}
use Rattle.vl_lower_stmt.proofs.target.width_of.Goals as goal

-- what a list has past its end
abbrev blank : Slot
blank = record { holder = holder.Cell 0; place = place.Fixed (pos 0); count = 0; width = 0 }

pub overflow_add-width : goal.overflow_add-width
overflow_add-width c =
    let slots = c.args.slots.now in
    let i = c.loop-slot.slot-index in
    let s = slice_index_or slots i blank in
    let front : drop i slots ≡ s ∷ drop (i + 1) slots = drop_more slots i blank c.loop-slot-test.true in
    omega (arith, c.loop-slot.invariant, width_next i slots s (drop (i + 1) slots) front, c.requires)

pub loop-slot-preserved : goal.loop-slot-preserved
loop-slot-preserved c =
    let slots = c.args.slots.now in
    let i = c.loop-slot.slot-index in
    let s = slice_index_or slots i blank in
    let front : drop i slots ≡ s ∷ drop (i + 1) slots = drop_more slots i blank c.loop-slot-test.true in
    omega (arith, c.loop-slot.invariant, width_next i slots s (drop (i + 1) slots) front)

pub returns : goal.returns
returns c =
    let slots = c.args.slots.now in
    let gone : drop c.loop-slot.slot-index slots ≡ [] = grind (arith, common_steps) in
    let none = ap slots_width gone in omega (arith, c.loop-slot.invariant, none)
