use Rattle.std.specs.Prelude.{◌≡◌, [], max, false, List, ℕ}
use Rattle.std.proofs.Common.{ap, sym, ◌∙◌, subst, rules}
use Rattle.fv_bits.specs.Bits.{extended}
use Rattle.wn_net.specs.Net.{value_at}
use Rattle.wn_net.proofs.Laws.{adds_on}
use Rattle.vl_mean.specs.FlatLaw.{flat_scopes, target_size}
use Rattle.vl_mean.specs.Scopes.{operand_in}
use Rattle.vl_mean.specs.Targets.{spots}
use Rattle.vl_lower_assign.specs.Frames.{AllSlots, AreCellsOf, Assigns, cells_of, slots_width}
use Rattle.vl_lower_assign.proofs.Behind.{cells_on, frame_on}
use Rattle.vl_lower_assign.proofs.Several.{all_slots_on}
use Rattle.vl_lower_assign.specs.declared.slot.Slot.{Slot}
use Rattle.vl_lower_stmt.specs.Executes.{Evaluates}
use Rattle.vl_lower_stmt.specs.Located.{Locates}
use Rattle.vl_lower_stmt.proofs.Assignments.{assignment, assignment_none}
use Rattle.vl_lower_stmt.proofs.Contexts.{sign_in, size_in}
use Rattle.vl_lower_stmt.proofs.assignment.assign.Goals as goal

pub number_in-requires-clause-cells : goal.number_in-requires-clause-cells
number_in-requires-clause-cells c =
    let slice : c.as_slice-3.result.now ≡ c.args.frame.now.now.items = search rules in
    let P : List ℕ → Type 0 = λ cs. AreCellsOf c.locate.new.net c.args.layout.decls.now cs in
    subst P (sym slice)
    (cells_on c.args.net.now c.locate.new.net c.args.layout.decls.now c.args.frame.now.now.items
    c.in_ok-locate.ensures.adds c.requires.frame.now)

pub assign_slots-requires-clause-frame : goal.assign_slots-requires-clause-frame
assign_slots-requires-clause-frame c =
    let one = c.in_ok-locate.ensures.adds in
    let two = c.in_ok-number.ensures.adds in
    frame_on c.args.net.now c.fit.new.net c.args.layout.decls.now (cells_of c.args.frame.now)
    (adds_on c.args.net.now c.locate.new.net c.fit.new.net one
    (adds_on c.locate.new.net c.number_in.new.net c.fit.new.net two c.in_ok-value.ensures.adds))
    c.requires.frame

pub assign_slots-requires-clause-slots : goal.assign_slots-requires-clause-slots
assign_slots-requires-clause-slots c =
    let two = c.in_ok-number.ensures.adds in
    let slice : c.as_slice-4.result.now ≡ c.locate.new.slots = search rules in
    let P : List Slot → Type 0 = λ ss. AllSlots c.fit.new.net c.args.layout.decls.now ss in
    subst P (sym slice)
    (all_slots_on c.locate.new.net c.fit.new.net c.args.layout.decls.now c.locate.new.slots
    (adds_on c.locate.new.net c.number_in.new.net c.fit.new.net two c.in_ok-value.ensures.adds)
    c.in_ok-locate.ensures.slots)

pub returns-then-width-eq0 : goal.returns-then-width-eq0
returns-then-width-eq0 c = λ attrs p.
    let ds = c.args.layout.decls.now in
    let l = c.args.target.now in
    let cells : c.as_slice.result.now ≡ c.args.frame.now.now.items = search rules in
    let slots : c.as_slice-2.result.now ≡ c.locate.new.slots = search rules in
    let located = subst (λ cs. Locates ds c.args.net.now c.locate.new.net cs [] c.locate.new.slots (target_size ds l)
    (λ v. spots (flat_scopes ds) v l)) cells
    (subst (λ ss. Locates ds c.args.net.now c.locate.new.net c.as_slice.result.now ss c.locate.new.slots (target_size
    ds l)
    (λ v. spots (flat_scopes ds) v l)) c.new-slots.ensures c.in_ok-locate.ensures) in
    assignment_none ds c.args.net.now c.locate.new.net c.number_in.new.net (cells_of c.args.frame.now) c.args.path
    c.args.kind c.locate.new.slots attrs p l c.args.expr.now c.requires.frame located c.in_ok-number.ensures.adds
    (ap slots_width (sym slots) ∙ sym c.width_of-width.ensures ∙ c.if-width-eq0.true)

pub returns : goal.returns
returns c = λ attrs p.
    let ds = c.args.layout.decls.now in
    let l = c.args.target.now in
    let e = c.args.expr.now in
    let context = c.assigned_type-context.result in
    let kind = c.assigned_type-context.ensures in
    let fit = c.in_ok-value.ensures in
    let f = cells_of c.args.frame.now in
    let h = cells_of c.assign_slots.new.frame in
    let cells : c.as_slice.result.now ≡ c.args.frame.now.now.items = search rules in
    let slots : c.as_slice-2.result.now ≡ c.locate.new.slots = search rules in
    let later : c.as_slice-3.result.now ≡ c.args.frame.now.now.items = search rules in
    let written : c.as_slice-4.result.now ≡ c.locate.new.slots = search rules in
    let located = subst (λ cs. Locates ds c.args.net.now c.locate.new.net cs [] c.locate.new.slots (target_size ds l)
    (λ v. spots (flat_scopes ds) v l)) cells
    (subst (λ ss. Locates ds c.args.net.now c.locate.new.net c.as_slice.result.now ss c.locate.new.slots (target_size
    ds l)
    (λ v. spots (flat_scopes ds) v l)) c.new-slots.ensures c.in_ok-locate.ensures) in
    let valued = subst (λ cs. Evaluates ds c.locate.new.net c.number_in.new.net cs context.width
    (λ v. (operand_in (flat_scopes ds) v e).at context.width context.signed) c.in_ok-number.number) later
    c.in_ok-number.ensures in
    let assigns = subst (λ ss. Assigns c.fit.new.net c.assign_slots.new.net ds f h c.args.path c.args.kind ss
    (λ g. value_at c.fit.new.net g c.in_ok-value.value)) written c.in_ok-assign_slots.ensures in
    let wide = c.width_of-width.ensures ∙ ap slots_width slots in
    assignment ds c.args.net.now c.locate.new.net c.number_in.new.net c.fit.new.net c.assign_slots.new.net f h
    c.args.path c.args.kind c.locate.new.slots context.width context.signed c.in_ok-number.number c.in_ok-value.value
    attrs p l e c.requires.frame c.requires.path located valued fit.adds
    (λ v. kind.width ∙ (λ i. max (wide i) (sym (size_in ds v e) i)))
    (λ v. kind.signed ∙ sym (sign_in ds v e))
    (λ g given. fit.shows.value g given
    ∙ (λ i. extended (valued.node.1 i) (wide i) false (value_at c.number_in.new.net g c.in_ok-number.number)))
    assigns
