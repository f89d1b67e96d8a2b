use Rattle.std.proofs.Common.{arith, ap, ◌+◌, ◌≡◌, ◌∙◌, length}
use Rattle.vcd_dump.specs.Vcd.{time_line}
use Rattle.vcd_text.proofs.Readers.{takes_time}
use Rattle.vcd_text.proofs.reader.Reader.take_change.Goals as goal

pub returns-then-is_time : goal.returns-then-is_time
returns-then-is_time c =
    let s = c.args.self.now in
    let l : c.len.result ≡ length s.cycles.items = omega (arith, s.cycles.ok.0) in
    takes_time s c.close_cycle.new.self c.args.line.now c.requires.part c.requires.sound
    (c.is_time.ensures.0 c.if-is_time.true ∙ ap (λ x. time_line (x + 1)) l) c.in_ok-close_cycle.ensures
