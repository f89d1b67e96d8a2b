use Rattle.std.proofs.Common.{arith, codes, ◌≡◌, length}
use Rattle.vcd_text.specs.declared.reader.Part.TheVariants.{Names, Definitions}
use Rattle.vcd_text.proofs.Steps.{up_step, name_stop}
use Rattle.vcd_text.proofs.Readers.{sound_at, goes_from, stops_from, bytes_alike, bytes_unlike, name_found}
use Rattle.vcd_text.proofs.Readers.{name_missing, took_name}
use Rattle.vcd_text.proofs.reader.Reader.take_name.Goals as goal

pub returns-then-eq : goal.returns-then-eq
returns-then-eq c =
    let s = c.args.self.now in
    goes_from Names s.part s.names.items s.cycles.items s.values.items s.next c.args.line.now Definitions
    s.names.items s.cycles.items s.values.items s.next c.requires.part
    (up_step s.names.items s.cycles.items s.values.items s.next c.args.line.now
    (bytes_alike c.args.line.now c.as_slice.result.now
    (codes "$upscope $end") c.eq.result c.eq.ensures c.if-eq.true c.as_slice.ensures)
    (sound_at s Names c.requires.part c.requires.sound))

pub returns-in_ok-push-in-Some : goal.returns-in_ok-push-in-Some
returns-in_ok-push-in-Some c =
    let s = c.args.self.now in
    let l : c.len.result ≡ length s.names.items = omega (arith, s.names.ok.0) in
    took_name s.part s.names.items c.push.new.self.items s.cycles.items s.values.items s.next c.len.result
    c.args.line.now c.in-Some.name c.requires.part c.in_ok-push-in-Some.ensures.items l c.requires.sound
    (name_found c.len.result c.args.line.now c.in_ok-name.field-0 c.in-Some.name c.in_ok-name.ensures c.in-Some.is)

pub returns-in-None : goal.returns-in-None
returns-in-None c =
    let s = c.args.self.now in
    let l : c.len.result ≡ length s.names.items = omega (arith, s.names.ok.0) in
    stops_from Names s.part s.names.items s.cycles.items s.values.items s.next c.args.line.now c.requires.part
    (name_stop s.names.items s.cycles.items s.values.items s.next c.args.line.now
    (bytes_unlike c.args.line.now c.as_slice.result.now
    (codes "$upscope $end") c.eq.result c.eq.ensures c.if-eq.false c.as_slice.ensures)
    (name_missing c.len.result
    (length s.names.items) c.args.line.now c.in_ok-name.field-0 c.in_ok-name.ensures c.in-None.is l))
