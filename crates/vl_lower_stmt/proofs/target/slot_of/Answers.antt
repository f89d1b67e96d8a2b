use Rattle.std.specs.Prelude.{◌≡◌, Some, IsSome, is_none, if◌then◌else◌}
use Rattle.std.proofs.Common.{sym, ◌∙◌, subst}
use Rattle.fv_text.specs.declared.pos.Pos.{Pos}
use Rattle.vl_tree.specs.ExprView.{selects}
use Rattle.vl_size.specs.Size.{vector_size, word_size}
use Rattle.vl_size.specs.Table.{IsShaped, declared_as}
use Rattle.vl_mean.specs.FlatLaw.{IsKept}
use Rattle.vl_flow_cells.proofs.Lists.{all_at}
use Rattle.vl_lower_expr.specs.Bound.{HasPlace}
use Rattle.vl_lower_expr.proofs.Sized.{memory_sized, some_first, vector_sized}
use Rattle.vl_lower_assign.specs.declared.slot.Holder.{Holder}
use Rattle.vl_lower_stmt.specs.Located.{IsHeld}
use Rattle.vl_lower_stmt.proofs.Held.{held_cell}
use Rattle.vl_lower_stmt.proofs.Locating.{located, located_as, memory_bits, memory_count, vector_bits, vector_count}
use Rattle.vl_lower_stmt.proofs.Named.{no_memory, placed_at, vector_at, words_at}
use Rattle.vl_lower_stmt.proofs.Values.{places_each}
use Rattle.vl_lower_stmt.proofs.target.slot_of.Goals as goal

here : Pos
here = record { file = 0; line = 0; col = 0 }

pub found-place-requires-clause-declared : goal.found-place-requires-clause-declared
found-place-requires-clause-declared c =
    let ds = c.args.layout.decls.now in
    let xs = selects c.args.all.now in
    subst (λ b. IsSome (declared_as b.decls c.args.text.now)) (sym c.names_over.ensures)
    (some_first (declared_as ds c.args.text.now)
    (λ d. if is_none d.words then vector_size ds d xs else word_size ds d xs) (c.requires.sized here))

pub found-place-requires-clause-each : goal.found-place-requires-clause-each
found-place-requires-clause-each c =
    places_each c.args.layout.decls.now c.args.layout.places.now c.args.cells.now _ c.requires.layout
    c.names_over.ensures

pub slot_in-requires-clause-kept : goal.slot_in-requires-clause-kept
slot_in-requires-clause-kept c =
    let ds = c.args.layout.decls.now in
    let ps = c.args.layout.places.now in
    let d = c.found-place.result.0.now in
    let p = c.found-place.result.1 in
    let at = placed_at ds ps c.args.cells.now d p c.requires.layout
    (subst (λ b. HasPlace b d p) c.names_over.ensures c.found-place.ensures.place) in
    all_at IsKept ds at.index d at.at c.requires.layout.kept

pub slot_in-requires-clause-shaped : goal.slot_in-requires-clause-shaped
slot_in-requires-clause-shaped c =
    let ds = c.args.layout.decls.now in
    let ps = c.args.layout.places.now in
    let d = c.found-place.result.0.now in
    let p = c.found-place.result.1 in
    let at = placed_at ds ps c.args.cells.now d p c.requires.layout
    (subst (λ b. HasPlace b d p) c.names_over.ensures c.found-place.ensures.place) in
    all_at IsShaped ds at.index d at.at c.requires.layout.shaped

pub slot_in-requires-clause-sized : goal.slot_in-requires-clause-sized
slot_in-requires-clause-sized c =
    let ds = c.args.layout.decls.now in
    let ps = c.args.layout.places.now in
    let d = c.found-place.result.0.now in
    let p = c.found-place.result.1 in
    let at = placed_at ds ps c.args.cells.now d p c.requires.layout
    (subst (λ b. HasPlace b d p) c.names_over.ensures c.found-place.ensures.place) in
    let declared = subst (λ b. declared_as b.decls c.args.text.now ≡ Some d) c.names_over.ensures
    c.found-place.ensures.declared in
    let v = vector_at d c.in-Vector.at _ (sym c.in-Vector.is ∙ at.place) in
    vector_sized ds c.args.text.now d (selects c.args.all.now) declared v.0 (c.requires.sized here)

pub returns-in_ok-slot-in-Vector : goal.returns-in_ok-slot-in-Vector
returns-in_ok-slot-in-Vector c = λ pos.
    let ds = c.args.layout.decls.now in
    let ps = c.args.layout.places.now in
    let own = c.requires.layout in
    let d = c.found-place.result.0.now in
    let p = c.found-place.result.1 in
    let xs = selects c.args.all.now in
    let text = c.args.text.now in
    let at = placed_at ds ps c.args.cells.now d p own
    (subst (λ b. HasPlace b d p) c.names_over.ensures c.found-place.ensures.place) in
    let declared = subst (λ b. declared_as b.decls text ≡ Some d) c.names_over.ensures
    c.found-place.ensures.declared in
    let v = vector_at d c.in-Vector.at _ (sym c.in-Vector.is ∙ at.place) in
    let slot = c.in_ok-slot-in-Vector.slot in
    let P : Holder → Type 0 = λ h. IsHeld ds c.args.net.now c.args.net.now c.args.cells.now d.width h (λ u. Some
    d.name) in
    located_as ds c.args.net.now c.slot_in.new.net c.args.cells.now slot _ _ _ _
    (located ds c.args.net.now c.args.net.now c.slot_in.new.net c.args.cells.now d xs slot (λ u. Some d.name)
    (all_at IsShaped ds at.index d at.at own.shaped) c.requires.cells
    (subst P (sym c.in_ok-slot-in-Vector.ensures.holder)
    (held_cell ds own.different own.apart own.kept at.index d at.at c.args.net.now c.args.cells.now c.in-Vector.at
    v.0 v.1))
    c.in_ok-slot-in-Vector.ensures.bits)
    (vector_count ds d text declared pos xs v.0) (λ u. vector_bits ds d text declared u xs v.0)

pub word_slot-requires-clause-first : goal.word_slot-requires-clause-first
word_slot-requires-clause-first c =
    let ds = c.args.layout.decls.now in
    let ps = c.args.layout.places.now in
    let d = c.found-place.result.0.now in
    let p = c.found-place.result.1 in
    let at = placed_at ds ps c.args.cells.now d p c.requires.layout
    (subst (λ b. HasPlace b d p) c.names_over.ensures c.found-place.ensures.place) in
    (at.index, at.at, (words_at d c.in-Words.first _ (sym c.in-Words.is ∙ at.place)).1)

pub word_slot-requires-clause-memory : goal.word_slot-requires-clause-memory
word_slot-requires-clause-memory c =
    let ds = c.args.layout.decls.now in
    let ps = c.args.layout.places.now in
    let d = c.found-place.result.0.now in
    let p = c.found-place.result.1 in
    let at = placed_at ds ps c.args.cells.now d p c.requires.layout
    (subst (λ b. HasPlace b d p) c.names_over.ensures c.found-place.ensures.place) in
    (words_at d c.in-Words.first _ (sym c.in-Words.is ∙ at.place)).0

pub word_slot-requires-clause-sized : goal.word_slot-requires-clause-sized
word_slot-requires-clause-sized c =
    let ds = c.args.layout.decls.now in
    let ps = c.args.layout.places.now in
    let d = c.found-place.result.0.now in
    let p = c.found-place.result.1 in
    let at = placed_at ds ps c.args.cells.now d p c.requires.layout
    (subst (λ b. HasPlace b d p) c.names_over.ensures c.found-place.ensures.place) in
    let declared = subst (λ b. declared_as b.decls c.args.text.now ≡ Some d) c.names_over.ensures
    c.found-place.ensures.declared in
    memory_sized ds c.args.text.now d (selects c.args.all.now) declared
    (words_at d c.in-Words.first _ (sym c.in-Words.is ∙ at.place)).0 (c.requires.sized here)

pub returns-in_ok-slot-in-Words : goal.returns-in_ok-slot-in-Words
returns-in_ok-slot-in-Words c = λ pos.
    let ds = c.args.layout.decls.now in
    let ps = c.args.layout.places.now in
    let d = c.found-place.result.0.now in
    let p = c.found-place.result.1 in
    let xs = selects c.args.all.now in
    let text = c.args.text.now in
    let at = placed_at ds ps c.args.cells.now d p c.requires.layout
    (subst (λ b. HasPlace b d p) c.names_over.ensures c.found-place.ensures.place) in
    let declared = subst (λ b. declared_as b.decls text ≡ Some d) c.names_over.ensures
    c.found-place.ensures.declared in
    let some = (words_at d c.in-Words.first _ (sym c.in-Words.is ∙ at.place)).0 in
    located_as ds c.args.net.now c.word_slot.new.net c.args.cells.now c.in_ok-slot-in-Words.slot _ _ _ _
    c.in_ok-slot-in-Words.ensures (memory_count ds d text declared pos xs some)
    (λ u. memory_bits ds d text declared u xs some)

pub unreachable-requires : goal.unreachable-requires
unreachable-requires c =
    let ds = c.args.layout.decls.now in
    let ps = c.args.layout.places.now in
    let d = c.found-place.result.0.now in
    let p = c.found-place.result.1 in
    let at = placed_at ds ps c.args.cells.now d p c.requires.layout
    (subst (λ b. HasPlace b d p) c.names_over.ensures c.found-place.ensures.place) in
    no_memory d c.in-Memory.field-0 _ (sym c.in-Memory.is ∙ at.place)
