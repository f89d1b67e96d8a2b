use Rattle.std.proofs.Common.{arith, codes, ◌≡◌, length}
use Rattle.vcd_text.specs.declared.reader.Part.TheVariants.{Values, Changes}
use Rattle.vcd_text.proofs.Later.{end_step, end_stop}
use Rattle.vcd_text.proofs.Readers.{sound_at, goes_from, stops_from, bytes_differ, bytes_same}
use Rattle.vcd_text.proofs.reader.Reader.end_values.Goals as goal

pub returns-then-ne : goal.returns-then-ne
returns-then-ne c =
    let s = c.args.self.now in
    stops_from Values s.part s.names.items s.cycles.items s.values.items s.next c.args.line.now c.requires.part
    (end_stop s.names.items s.cycles.items s.values.items s.next c.args.line.now
    (bytes_differ c.args.line.now c.as_slice.result.now
    (codes "$end") c.ne.result c.ne.ensures c.if-ne.true c.as_slice.ensures) c.requires.all)

pub returns : goal.returns
returns c =
    let s = c.args.self.now in
    let l : c.len-self.result ≡ length s.values.items = omega (arith, s.values.ok.0) in
    goes_from Values s.part s.names.items s.cycles.items s.values.items s.next c.args.line.now Changes s.names.items
    s.cycles.items s.values.items c.len-self.result c.requires.part
    (end_step s.names.items s.cycles.items s.values.items s.next c.len-self.result c.args.line.now
    (bytes_same c.args.line.now c.as_slice.result.now
    (codes "$end") c.ne.result c.ne.ensures c.if-ne.false c.as_slice.ensures) c.requires.all l
    (sound_at s Values c.requires.part c.requires.sound))
