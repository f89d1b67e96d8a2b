use Rattle.std.specs.Prelude.{map, slice_index_or, take}
use Rattle.std.proofs.Common.{refl, sym, ◌∙◌, subst, arith}
use Rattle.std.proofs.lemmas.Option.{slice_get-get_or}
use Rattle.wn_net.specs.declared.parts.MemWrite.{MemWrite}
use Rattle.wn_net.specs.Net.{IsWriteOf}
use Rattle.wn_net.specs.Changes.{mem_width, with_write}
use Rattle.wn_opt.specs.Cone.{renamed_write}
use Rattle.wn_opt.specs.Parts.{AddsWrites}
use Rattle.wn_opt.proofs.Joining.{adds_no_writes, adds_write, taken_writes, writes_on}
use Rattle.wn_opt.proofs.join.add_writes.Goals as goal

-- what a read past the last write would give
abbrev no_write : MemWrite
no_write = record { enable = 0; addr = 0; mask = 0; value = 0 }

pub loop-write-init : goal.loop-write-init
loop-write-init c = adds_no_writes c.args.part.now c.args.part.now c.args.mem refl

pub mem_write-requires-clause-write : goal.mem_write-requires-clause-write
mem_write-requires-clause-write c =
    let k = c.loop-write.write-index in
    let ws = c.args.writes.now in
    let t = c.args.places.now in
    let w = slice_index_or ws k no_write in
    let b = c.loop-write.part in
    subst (λ v. IsWriteOf b (mem_width b c.args.mem) v) (sym c.renamed_write.ensures)
    (writes_on c.args.part.now b c.args.mem t ws (map (renamed_write t) (take k ws)) c.requires.there c.requires.fit
    c.loop-write.invariant w (k, slice_get-get_or ws k no_write (omega arith)))

pub loop-write-preserved : goal.loop-write-preserved
loop-write-preserved c =
    let k = c.loop-write.write-index in
    let ws = c.args.writes.now in
    let t = c.args.places.now in
    let w = slice_index_or ws k no_write in
    let a = c.args.part.now in
    let b = c.loop-write.part in
    let m = c.args.mem in
    subst (λ vs. AddsWrites a c.mem_write.new.self m vs)
    (sym (taken_writes t ws k w (slice_get-get_or ws k no_write (omega arith))))
    (adds_write a b c.mem_write.new.self m (map (renamed_write t) (take k ws)) (renamed_write t w)
    c.loop-write.invariant
    (c.in_ok-mem_write.ensures.new
    ∙ (λ i. record b { mems = with_write m (c.renamed_write.ensures i) b.mems }))
    c.in_ok-mem_write.ensures.keeps)
