use Rattle.std.specs.Prelude.{◌≡◌, ℕ, ◌<◌, List, length, slice_index, slice_set, None}
use Rattle.std.proofs.Common.{ap, sym, ◌∙◌, arith, subst}
use Rattle.std.proofs.lemmas.List.{get_or_read}
use Rattle.vl_lower_assign.specs.Slots.{IsSlotIn, Writes}
use Rattle.vl_lower_assign.specs.Frames.{Cells, cells_of}
use Rattle.vl_lower_assign.specs.Logs.{IsWithin}
use Rattle.vl_lower_assign.specs.declared.track.Track.{Track}
use Rattle.vl_lower_assign.specs.Tracks.{AreApart, FollowWrite}
use Rattle.vl_lower_assign.proofs.Both.{now_within, cell_held, next_held, next_slot, assigned_shared, assigned_apart}
use Rattle.vl_lower_assign.proofs.Standing.{slot_in}
use Rattle.vl_lower_assign.proofs.assign.write_both.Goals as goal

pub note_slot-requires : goal.note_slot-requires
note_slot-requires c =
    now_within c.args.net.now c.args.decls.now c.args.path c.args.slot c.args.value (cells_of c.args.frame.now)
    c.requires.frame c.requires.slot

pub shared_cell-shared-requires-clause-now : goal.shared_cell-shared-requires-clause-now
shared_cell-shared-requires-clause-now c =
    let P : List ℕ → Type 0 = λ cells. IsWithin (length cells) c.args.slot.holder in
    subst P (sym c.in_ok-note_slot.ensures.now)
    (now_within c.args.net.now c.args.decls.now c.args.path c.args.slot c.args.value (cells_of c.args.frame.now)
    c.requires.frame c.requires.slot)

pub write_cells-requires-clause-slot : goal.write_cells-requires-clause-slot
write_cells-requires-clause-slot c =
    let P : List ℕ → Type 0 = λ cells. IsSlotIn c.args.net.now cells c.args.slot in
    subst P (sym c.in_ok-note_slot.ensures.now)
    (slot_in c.args.net.now c.args.decls.now c.args.frame.now.now.items c.args.slot c.requires.frame.now
    c.requires.slot)

pub keep_write-requires-clause-apart : goal.keep_write-requires-clause-apart
keep_write-requires-clause-apart c =
    subst (λ (ts : List Track). AreApart ts) (sym c.in_ok-note_slot.ensures.tracks)
    c.requires.frame.tracks.apart

pub keep_write-requires-clause-within : goal.keep_write-requires-clause-within
keep_write-requires-clause-within c =
    let own = c.requires.frame in
    let e : length c.args.frame.now.now.items ≡ c.len-cells.result =
    omega (arith, own.now.each, own.next.each, ap length c.in_ok-note_slot.ensures.next) in
    subst (λ n. IsWithin n c.args.slot.holder) e
    (now_within c.args.net.now c.args.decls.now c.args.path c.args.slot c.args.value (cells_of c.args.frame.now) own
    c.requires.slot)

pub index-requires : goal.index-requires
index-requires c =
    let f = cells_of c.args.frame.now in
    let held =
    cell_held c.args.net.now c.args.decls.now c.args.path c.args.slot c.args.value f c.requires.frame
    c.requires.slot c.in-Some.at c.in-Some.ensures.0 in
    omega (arith, held.0, c.in_ok-write_cells.ensures.writes.alike.each, ap length c.in_ok-note_slot.ensures.now)

pub index_mut-requires : goal.index_mut-requires
index_mut-requires c =
    let f = cells_of c.args.frame.now in
    let held =
    next_held c.args.net.now c.args.decls.now c.args.path c.args.slot c.args.value f c.requires.frame
    c.requires.slot c.in-Some.at c.in-Some.ensures.0 in
    omega (arith, held, ap length c.in_ok-note_slot.ensures.next)

pub write_cells-requires-in-None-clause-slot : goal.write_cells-requires-in-None-clause-slot
write_cells-requires-in-None-clause-slot c =
    let P : List ℕ → Type 0 = λ cells. IsSlotIn c.write_cells.new.net cells c.args.slot in
    subst P (sym c.in_ok-note_slot.ensures.next)
    (next_slot c.args.net.now c.args.decls.now c.args.path c.args.slot c.args.value (cells_of c.args.frame.now)
    c.requires.frame c.requires.slot c.write_cells.new.net c.in_ok-write_cells.ensures.writes.adds)

pub returns-in-Some : goal.returns-in-Some
returns-in-Some c =
    let old = c.args.net.now in
    let new = c.write_cells.new.net in
    let at = c.in-Some.at in
    let after = c.write_cells.new.cells.items in
    let node = c.index.result.now in
    let noted = c.in_ok-note_slot.ensures in
    let P : List ℕ → Type 0 = λ cells. Writes old new cells after c.args.path c.args.slot c.args.value in
    let held =
    cell_held old c.args.decls.now c.args.path c.args.slot c.args.value (cells_of c.args.frame.now) c.requires.frame
    c.requires.slot at c.in-Some.ensures.0 in
    let there : at < length after =
    omega (arith, held.0, c.in_ok-write_cells.ensures.writes.alike.each, ap length noted.now) in
    let node_is : node ≡ slice_index after at = get_or_read after at node there c.index.ensures 0 in
    let h : Cells = record {
      now = after;
      next = slice_set c.note_slot.new.frame.next.items at node;
      assumed = c.note_slot.new.frame.assumed;
      log = c.note_slot.new.frame.log;
      tracks = c.keep_write.new.tracks.items;
    } in
    assigned_shared old c.args.decls.now c.args.path c.args.slot c.args.value (cells_of c.args.frame.now)
    c.requires.frame c.requires.slot new h at c.requires.path c.requires.value c.in-Some.ensures.0
    (ap (λ cells. slice_index cells at) (sym noted.next) ∙ c.in-Some.ensures.1
    ∙ ap (λ cells. slice_index cells at) noted.now)
    (subst P noted.now c.in_ok-write_cells.ensures.writes)
    (λ i. slice_set (noted.next i) at (node_is i)) noted.assumed noted.log
    (subst (λ (ts : List Track). FollowWrite c.args.slot.holder None ts c.keep_write.new.tracks.items) noted.tracks
    c.in_ok-keep_write.ensures)

pub returns-in_ok-write_cells-in-None : goal.returns-in_ok-write_cells-in-None
returns-in_ok-write_cells-in-None c =
    let old = c.args.net.now in
    let mid = c.write_cells.new.net in
    let new = c.write_cells-in-None.new.net in
    let after = c.write_cells.new.cells.items in
    let later = c.write_cells-in-None.new.cells.items in
    let noted = c.in_ok-note_slot.ensures in
    let P : List ℕ → Type 0 = λ cells. Writes old mid cells after c.args.path c.args.slot c.args.value in
    let Q : List ℕ → Type 0 = λ cells. Writes mid new cells later c.args.path c.args.slot c.args.value in
    let h : Cells = record {
      now = after;
      next = later;
      assumed = c.note_slot.new.frame.assumed;
      log = c.note_slot.new.frame.log;
      tracks = c.keep_write.new.tracks.items;
    } in
    assigned_apart old c.args.decls.now c.args.path c.args.slot c.args.value (cells_of c.args.frame.now)
    c.requires.frame c.requires.slot mid new h c.requires.path c.requires.value
    (subst P noted.now c.in_ok-write_cells.ensures.writes) (subst Q noted.next c.in_ok-write_cells-in-None.ensures.writes)
    noted.assumed noted.log
    (subst (λ (ts : List Track). FollowWrite c.args.slot.holder None ts c.keep_write.new.tracks.items) noted.tracks
    c.in_ok-keep_write.ensures)
