use Rattle.std.specs.Prelude.{◌≡◌, ◌+◌, ◌-◌, ◌/◌, ◌^◌, ◌≤◌, List, [], ◌∷◌, ◌++◌, length, take, drop}
use Rattle.std.specs.Prelude.{slice_index_or, pos}
use Rattle.std.proofs.Common.{ap, sym, ◌∙◌, arith, subst}
use Rattle.std.proofs.lemmas.List.{take_all, take_more, drop_more}
use Rattle.std.proofs.lemmas.Grind.{common_steps}
use Rattle.wn_net.specs.Net.{value_at}
use Rattle.vl_lower_assign.specs.declared.spread.BitPlace.TheVariants as place
use Rattle.vl_lower_assign.specs.declared.slot.Holder.TheVariants as holder
use Rattle.vl_lower_assign.specs.declared.slot.Slot.{Slot}
use Rattle.vl_lower_assign.specs.Frames.{Assigns, cells_of, slots_width}
use Rattle.vl_lower_assign.proofs.Behind.{frame_on}
use Rattle.vl_lower_assign.proofs.Several.{assigned_none}
use Rattle.vl_lower_assign.proofs.Parting.{width_left, all_taken, slot_next, width_next, assigned_part, assigned_whole}
use Rattle.vl_lower_assign.proofs.assign.assign_slots.Goals as goal

-- what a list has past its end
abbrev blank : Slot
blank = record { holder = holder.Cell 0; place = place.Fixed (pos 0); count = 0; width = 0 }

pub loop-slot-init : goal.loop-slot-init
loop-slot-init c = record {
  rest = c.width-rest.ensures.value ∙ c.requires.value.1;
  done =
      assigned_none c.args.decls.now c.args.path c.args.kind c.args.net.now (cells_of c.args.frame.now) _
      c.requires.frame;
}

pub slice-requires-clause-within : goal.slice-requires-clause-within
slice-requires-clause-within c =
    let slots = c.args.slots.now in
    let i = c.loop-slot.slot-index in
    let s = slice_index_or slots i blank in
    let inv = c.loop-slot.invariant in
    let front : drop i slots ≡ s ∷ drop (i + 1) slots = drop_more slots i blank c.loop-slot-test.true in
    omega (
      arith,
      inv.rest,
      width_next i slots s (drop (i + 1) slots) front,
      width_left i slots,
      c.requires.value.1,
      inv.done.adds.keeps.widths c.args.value c.requires.value.0,
    )

pub write_one-requires-clause-frame : goal.write_one-requires-clause-frame
write_one-requires-clause-frame c =
    frame_on c.loop-slot.net c.slice.new.self c.args.decls.now (cells_of c.loop-slot.frame)
    c.in_ok-part.ensures.built.adds c.loop-slot.invariant.done.frame

pub loop-slot-preserved : goal.loop-slot-preserved
loop-slot-preserved c =
    let slots = c.args.slots.now in
    let i = c.loop-slot.slot-index in
    let s = slice_index_or slots i blank in
    let old = c.args.net.now in
    let ds = c.args.decls.now in
    let f = cells_of c.args.frame.now in
    let k = cells_of c.write_one.new.frame in
    let rest = c.loop-slot.rest - s.count in
    let inv = c.loop-slot.invariant in
    let front : drop i slots ≡ s ∷ drop (i + 1) slots = drop_more slots i blank c.loop-slot-test.true in
    let more : take (i + 1) slots ≡ take i slots ++ s ∷ [] = take_more slots i blank c.loop-slot-test.true in
    let wide = width_next i slots s (drop (i + 1) slots) front in
    let P : List Slot → Type 0 = λ xs.
    Assigns old c.write_one.new.net ds f k c.args.path c.args.kind xs (λ g. value_at old g c.args.value / 2 ^ rest) in
    record {
      rest = omega (arith, inv.rest, wide);
      done =
          subst P (sym more)
          (assigned_part ds c.args.path c.args.kind old c.loop-slot.net c.slice.new.self c.write_one.new.net f
          (cells_of c.loop-slot.frame) k (take i slots) s c.args.value c.loop-slot.rest rest c.in_ok-part.part
          c.requires.value.0 (all_taken old ds i slots c.requires.slots)
          (slot_next old ds i slots s (drop (i + 1) slots) front c.requires.slots) c.requires.path
          (omega (arith, inv.rest, wide)) inv.done c.in_ok-part.ensures.built c.in_ok-write_one.ensures);
    }

pub returns : goal.returns
returns c =
    let slots = c.args.slots.now in
    let i = c.loop-slot.slot-index in
    let old = c.args.net.now in
    let ds = c.args.decls.now in
    let f = cells_of c.args.frame.now in
    let h = cells_of c.loop-slot.frame in
    let gone : drop i slots ≡ [] = grind (arith, common_steps) in
    let past : length slots ≤ i = grind (arith, common_steps) in
    let P : List Slot → Type 0 = λ xs.
    Assigns old c.loop-slot.net ds f h c.args.path c.args.kind xs (λ g. value_at old g c.args.value) in
    subst P (take_all i slots past)
    (assigned_whole ds c.args.path c.args.kind old c.loop-slot.net f h (take i slots) c.args.value c.loop-slot.rest
    (c.loop-slot.invariant.rest ∙ ap slots_width gone) c.loop-slot.invariant.done)
