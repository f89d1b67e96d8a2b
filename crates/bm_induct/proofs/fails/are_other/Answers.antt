use Rattle.std.specs.Prelude.{slice_index}
use Rattle.std.proofs.Common.{arith}
use Rattle.wn_net.proofs.Laws.{adds_on, there_on}
use Rattle.bm_induct.proofs.Others.{node_in, others_next}
use Rattle.bm_induct.proofs.fails.are_other.Goals as goal

pub is_other-requires : goal.is_other-requires
is_other-requires c =
    there_on c.args.net.now c.loop-id.net (slice_index c.args.ids.now c.loop-id.id-index) c.loop-id.invariant.adds
    (node_in c.args.net.now c.args.ids.now c.loop-id.id-index c.requires (omega arith))

pub loop-id-preserved : goal.loop-id-preserved
loop-id-preserved c = record {
  adds =
      adds_on c.args.net.now c.loop-id.net _ c.loop-id.invariant.adds
      (adds_on c.loop-id.net c.is_other.new.net _ c.in_ok-own.ensures.adds c.in_ok-all-2.ensures.adds);
  tells =
      others_next c.args.net.now c.loop-id.net c.is_other.new.net c.both.new.net c.args.ids.now c.loop-id.id-index
      _ _ _ c.loop-id.invariant.adds c.in_ok-own.ensures.adds c.requires (omega arith) c.loop-id.invariant.tells
      c.in_ok-own.ensures.tells c.in_ok-all-2.ensures.tells;
}
