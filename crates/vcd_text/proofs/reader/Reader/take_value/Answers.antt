use Rattle.std.proofs.Common.{arith, Some, None, subst, ◌≡◌, ◌<◌, length}
use Rattle.vcd_text.specs.declared.reader.Part.TheVariants.{Values}
use Rattle.vcd_text.specs.Reading.{FindsValue}
use Rattle.vcd_text.proofs.Readers.{sound_at, stops_from, took_value, value_missing, value_elsewhere, values_fewer}
use Rattle.vcd_text.proofs.reader.Reader.take_value.Goals as goal

pub returns-in_default : goal.returns-in_default
returns-in_default c =
    let s = c.args.self.now in
    let l : length s.values.items
    < length s.names.items = values_fewer s.names.items s.cycles.items s.values.items s.next
    (sound_at s Values c.requires.part c.requires.sound)
    (λ e. c.if-len.false (omega (arith, e, s.values.ok.0, s.names.ok.0))) in
    stops_from Values s.part s.names.items s.cycles.items s.values.items s.next c.args.line.now c.requires.part
    (value_missing s.names.items s.cycles.items s.values.items s.next c.args.line.now l
    (subst (λ x. FindsValue x c.args.line.now None) c.as_slice.ensures.value c.in_default.ensures))

pub returns-then-index-next : goal.returns-then-index-next
returns-then-index-next c =
    let s = c.args.self.now in
    let l : length s.values.items
    < length s.names.items = values_fewer s.names.items s.cycles.items s.values.items s.next
    (sound_at s Values c.requires.part c.requires.sound)
    (λ e. c.if-len.false (omega (arith, e, s.values.ok.0, s.names.ok.0))) in
    stops_from Values s.part s.names.items s.cycles.items s.values.items s.next c.args.line.now c.requires.part
    (value_elsewhere s.names.items s.cycles.items s.values.items s.next c.args.line.now c.in-Some.index
    c.in-Some.value l (subst (λ x. FindsValue x c.args.line.now
    (Some (c.in-Some.index, c.in-Some.value))) c.as_slice.ensures.value c.in-Some.ensures)
    (λ e. c.if-index-next.true (omega (arith, e, s.values.ok.0))))

pub returns : goal.returns
returns c =
    let s = c.args.self.now in
    took_value s.part s.names.items s.cycles.items s.values.items c.push.new.self.items s.next c.in-Some.index
    c.in-Some.value c.args.line.now c.requires.part c.in_ok-push.ensures.items
    (let e : c.in-Some.index ≡ length s.values.items = omega (arith, c.if-index-next.false, s.values.ok.0) in e)
    (subst (λ x. FindsValue x c.args.line.now
    (Some (c.in-Some.index, c.in-Some.value))) c.as_slice.ensures.value c.in-Some.ensures) c.requires.sound
