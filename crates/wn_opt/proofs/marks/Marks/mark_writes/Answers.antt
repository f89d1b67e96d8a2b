use Rattle.std.specs.Prelude.{slice_index_or}
use Rattle.std.proofs.lemmas.Option.{slice_get-get_or}
use Rattle.wn_net.specs.declared.parts.MemWrite.{MemWrite}
use Rattle.wn_opt.proofs.Walking.{writes_all, writes_more, writes_none}
use Rattle.wn_opt.proofs.marks.Marks.mark_writes.Goals as goal

-- what a read past the last write would give
abbrev no_write : MemWrite
no_write = record { enable = 0; addr = 0; mask = 0; value = 0 }

pub loop-write-init : goal.loop-write-init
loop-write-init c =
    writes_none c.args.net.now c.args.roots.now c.args.self.now c.args.writes.now c.requires.walks

pub mark_all-requires-clause-needed : goal.mark_all-requires-clause-needed
mark_all-requires-clause-needed c =
    let i = c.loop-write.write-index in
    let ws = c.args.writes.now in
    c.requires.needed (slice_index_or ws i no_write) (i, slice_get-get_or ws i no_write c.loop-write-test.true)

pub loop-write-preserved : goal.loop-write-preserved
loop-write-preserved c =
    let i = c.loop-write.write-index in
    let ws = c.args.writes.now in
    writes_more c.args.net.now c.args.roots.now c.args.self.now c.loop-write.self c.mark_all.new.self ws i
    (slice_index_or ws i no_write) c.loop-write.invariant (slice_get-get_or ws i no_write c.loop-write-test.true)
    c.in_ok-mark_all.ensures.goes c.in_ok-mark_all.ensures.listed

pub returns-clause-listed : goal.returns-clause-listed
returns-clause-listed c =
    writes_all c.args.net.now c.args.roots.now c.args.self.now c.loop-write.self c.args.writes.now
    c.loop-write.write-index c.loop-write-test.false c.loop-write.invariant
