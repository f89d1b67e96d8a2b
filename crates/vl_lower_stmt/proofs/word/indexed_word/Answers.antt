use Rattle.std.specs.Prelude.{Option, ℕ, List}
use Rattle.std.proofs.Common.{sym, subst}
use Rattle.vl_tree.specs.ExprView.{selects}
use Rattle.vl_size.specs.Size.{Values, index_of}
use Rattle.vl_mean.specs.FlatLaw.{flat_scopes}
use Rattle.vl_mean.specs.Scopes.{operand_in}
use Rattle.vl_mean.specs.Targets.{full_word, word_index}
use Rattle.vl_lower_assign.specs.declared.slot.Holder.{Holder}
use Rattle.vl_lower_assign.proofs.Behind.{cells_on}
use Rattle.vl_lower_stmt.specs.Located.{IsHeld}
use Rattle.vl_lower_stmt.proofs.Locating.{located, located_as, word_bits, word_count}
use Rattle.vl_lower_stmt.proofs.Named.{kept_at, shaped_at}
use Rattle.vl_lower_stmt.proofs.word.indexed_word.Goals as goal

pub slot_in-requires-clause-cells : goal.slot_in-requires-clause-cells
slot_in-requires-clause-cells c =
    cells_on c.args.net.now c.word_holder.new.net c.args.layout.decls.now c.args.cells.now c.in_ok-holder.ensures.adds
    c.requires.cells

pub slot_in-requires-clause-kept : goal.slot_in-requires-clause-kept
slot_in-requires-clause-kept c =
    kept_at c.args.layout.decls.now c.args.layout.places.now c.args.decl.now c.args.first c.requires.layout
    c.requires.first

pub slot_in-requires-clause-shaped : goal.slot_in-requires-clause-shaped
slot_in-requires-clause-shaped c =
    shaped_at c.args.layout.decls.now c.args.layout.places.now c.args.decl.now c.args.first c.requires.layout
    c.requires.first

pub returns : goal.returns
returns c = λ p.
    let ds = c.args.layout.decls.now in
    let d = c.args.decl.now in
    let e = c.args.index.now in
    let xs = selects c.args.behind.now in
    let mid = c.word_holder.new.net in
    let text : Values → Option (List ℕ) =
    λ v. full_word d.name (word_index d.words (index_of (operand_in (flat_scopes ds) v e))) in
    let shaped = shaped_at ds c.args.layout.places.now d c.args.first c.requires.layout c.requires.first in
    let P : Holder → Type 0 = λ h. IsHeld ds c.args.net.now mid c.args.cells.now d.width h text in
    located_as ds c.args.net.now c.slot_in.new.net c.args.cells.now c.in_ok-slot.slot _ _ _ _
    (located ds c.args.net.now mid c.slot_in.new.net c.args.cells.now d xs c.in_ok-slot.slot text shaped
    c.requires.cells (subst P (sym c.in_ok-slot.ensures.holder) c.in_ok-holder.ensures) c.in_ok-slot.ensures.bits)
    (word_count ds d p e xs c.requires.sized) (λ v. word_bits ds d v p e xs)
