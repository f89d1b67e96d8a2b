use Rattle.std.specs.Prelude.{[], length}
use Rattle.std.proofs.Common.{ap, sym, ◌∙◌, subst}
use Rattle.wn_net.specs.Net.{Netlist}
use Rattle.wn_opt.specs.Marks.{AreClosed}
use Rattle.wn_opt.specs.Rebuilt.{AreShared, IsShared}
use Rattle.wn_opt.proofs.Sharing.{is_shared, shared_first}
use Rattle.wn_opt.proofs.Whole.{needs_closed}
use Rattle.wn_opt.proofs.share.shared.Goals as goal

pub share_nodes-requires-clause-closed : goal.share_nodes-requires-clause-closed
share_nodes-requires-clause-closed c =
    subst (AreClosed c.args.net.now) (sym c.as_slice.ensures.value)
    (needs_closed c.args.net.now c.args.roots.now c.in_ok-marks.marks c.in_ok-marks.ensures)

pub share_nodes-requires-clause-each : goal.share_nodes-requires-clause-each
share_nodes-requires-clause-each c = ap length c.as_slice.ensures.value ∙ c.in_ok-marks.ensures.each_node

pub share_nodes-requires-clause-shared : goal.share_nodes-requires-clause-shared
share_nodes-requires-clause-shared c =
    let net = c.args.net.now in
    let P : Netlist → Type 0 = λ part. AreShared net c.as_slice.result.now part [] in
    subst P (sym c.in_ok-hashed.ensures)
    (shared_first net c.in_ok-part.part c.as_slice.result.now c.requires.flat c.in_ok-part.ensures)

pub returns : goal.returns
returns c =
    let net = c.args.net.now in
    let P : Netlist → Type 0 = λ part. IsShared net c.args.roots.now part c.in_ok-places.places.items in
    subst P (sym c.finish.ensures)
    (is_shared net c.share_nodes.new.hashed c.args.roots.now c.in_ok-marks.marks c.as_slice.result.now
    c.in_ok-places.places.items c.in_ok-marks.ensures c.as_slice.ensures.value c.in_ok-places.ensures.shared
    c.in_ok-places.ensures.all)
