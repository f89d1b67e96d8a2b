use Rattle.std.specs.Prelude.{◌≡◌, length}
use Rattle.std.proofs.Common.{arith, refl, subst}
use Rattle.vl_lower_assign.specs.Frames.{cells_of}
use Rattle.vl_lower_assign.specs.Logs.{IsWithin}
use Rattle.vl_lower_assign.proofs.Assigning.{assigned_next}
use Rattle.vl_lower_assign.proofs.Both.{now_within}
use Rattle.vl_lower_assign.proofs.Memories.{if_some}
use Rattle.vl_lower_assign.proofs.Standing.{are_cells, slot_in}
use Rattle.vl_lower_assign.proofs.assign.write_next.Goals as goal

pub write_kept-requires-clause-cells : goal.write_kept-requires-clause-cells
write_kept-requires-clause-cells c =
    are_cells c.args.net.now c.args.decls.now c.args.frame.now.next.items c.requires.frame.next

pub write_kept-requires-clause-slot : goal.write_kept-requires-clause-slot
write_kept-requires-clause-slot c =
    slot_in c.args.net.now c.args.decls.now c.args.frame.now.next.items c.args.slot c.requires.frame.next c.requires.slot

pub keep_write-requires-clause-apart : goal.keep_write-requires-clause-apart
keep_write-requires-clause-apart c =
    c.requires.frame.tracks.apart

pub keep_write-requires-clause-within : goal.keep_write-requires-clause-within
keep_write-requires-clause-within c =
    let own = c.requires.frame in
    let e : length c.args.frame.now.now.items ≡ c.len-cells.result =
    omega (arith, own.now.each, own.next.each, c.in_ok-made.ensures.writes.alike.each) in
    subst (λ n. IsWithin n c.args.slot.holder) e
    (now_within c.args.net.now c.args.decls.now c.args.path c.args.slot c.args.value (cells_of c.args.frame.now) own
    c.requires.slot)

pub keep_write-requires-clause-around : goal.keep_write-requires-clause-around
keep_write-requires-clause-around c =
    if_some c.in_ok-made.made (λ made stored. stored.around) c.in_ok-made.ensures.stores

pub keep_write-requires-clause-made : goal.keep_write-requires-clause-made
keep_write-requires-clause-made c =
    if_some c.in_ok-made.made
    (λ made stored. omega (arith, stored.within, c.in_ok-made.ensures.writes.alike.each)) c.in_ok-made.ensures.stores

pub returns : goal.returns
returns c =
    assigned_next c.args.decls.now c.args.path c.args.slot c.args.value c.args.net.now c.write_kept.new.net
    (cells_of c.args.frame.now) _ c.in_ok-made.made c.requires.frame c.requires.slot c.in_ok-made.ensures.writes
    c.in_ok-made.ensures.stores
    c.in_ok-keep_write.ensures refl refl refl
