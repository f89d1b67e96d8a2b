use Rattle.std.specs.Prelude.{◌≤◌, length}
use Rattle.std.proofs.Common.{arith, refl}
use Rattle.bb_blast.proofs.Sources.{adding_sources_next, adding_sources_all}
use Rattle.bb_blast.proofs.inputs.add_sources.Goals as goal

pub loop-source-preserved : goal.loop-source-preserved
loop-source-preserved c =
    adding_sources_next c.loop-source.aig c.add_source.new.aig c.args.widths.now c.loop-source.source _ _
    c.loop-source.places c.add_source.new.places c.loop-source.words c.push.new.self c.in_ok-word.word
    (omega arith) refl
    c.loop-source.invariant c.in_ok-word.ensures.inputs c.in_ok-word.ensures.counted c.in_ok-word.ensures.word
    c.in_ok-word.ensures.placed c.in_ok-push.ensures.ok

pub returns-clause-counted : goal.returns-clause-counted
returns-clause-counted c =
    let past : length c.args.widths.now ≤ c.loop-source.source = omega arith in
    (adding_sources_all c.loop-source.aig c.args.widths.now c.loop-source.source c.loop-source.places
    c.loop-source.words past c.loop-source.invariant).0

pub returns-clause-words : goal.returns-clause-words
returns-clause-words c =
    let past : length c.args.widths.now ≤ c.loop-source.source = omega arith in
    (adding_sources_all c.loop-source.aig c.args.widths.now c.loop-source.source c.loop-source.places
    c.loop-source.words past c.loop-source.invariant).1

pub returns-clause-places : goal.returns-clause-places
returns-clause-places c =
    let past : length c.args.widths.now ≤ c.loop-source.source = omega arith in
    (adding_sources_all c.loop-source.aig c.args.widths.now c.loop-source.source c.loop-source.places
    c.loop-source.words past c.loop-source.invariant).2
