use Rattle.std.specs.Prelude.{slice_index}
use Rattle.std.proofs.lemmas.Option.{slice_get-get_or}
use Rattle.wn_opt.proofs.Walking.{marked_none, marked_more, marked_all}
use Rattle.wn_opt.proofs.marks.Marks.mark_all.Goals as goal

pub loop-id-init : goal.loop-id-init
loop-id-init c =
    marked_none c.args.net.now c.args.roots.now c.args.self.now c.args.ids.now c.requires.walks

pub mark-requires-clause-walks : goal.mark-requires-clause-walks
mark-requires-clause-walks c = c.loop-id.invariant.goes.walks

pub mark-requires-clause-needed : goal.mark-requires-clause-needed
mark-requires-clause-needed c =
    let i = c.loop-id.id-index in
    c.requires.needed (slice_index c.args.ids.now i)
    (i, slice_get-get_or c.args.ids.now i 0 c.loop-id-test.true)

pub loop-id-preserved : goal.loop-id-preserved
loop-id-preserved c =
    let i = c.loop-id.id-index in
    marked_more c.args.net.now c.args.roots.now c.args.self.now c.loop-id.self c.mark.new.self c.args.ids.now i
    (slice_index c.args.ids.now i) c.loop-id.invariant
    (slice_get-get_or c.args.ids.now i 0 c.loop-id-test.true) c.in_ok-mark.ensures.goes
    c.in_ok-mark.ensures.listed

pub returns-clause-listed : goal.returns-clause-listed
returns-clause-listed c =
    marked_all c.args.net.now c.args.roots.now c.args.self.now c.loop-id.self c.args.ids.now c.loop-id.id-index
    c.loop-id-test.false c.loop-id.invariant
