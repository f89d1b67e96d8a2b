use Rattle.std.proofs.Common.{arith, Some, None, subst, sym, ◌∙◌}
use Rattle.std.proofs.lemmas.List.{get_or_read}
use Rattle.vcd_text.specs.declared.reader.Part.TheVariants.{Changes}
use Rattle.vcd_text.specs.Reading.{FindsValue}
use Rattle.vcd_text.proofs.Readers.{sound_at, stops_from, took_change, no_change, other_change, index_within}
use Rattle.vcd_text.proofs.reader.Reader.change_value.Goals as goal

pub returns-in_default : goal.returns-in_default
returns-in_default c =
    let s = c.args.self.now in
    stops_from Changes s.part s.names.items s.cycles.items s.values.items s.next c.args.line.now c.requires.part
    (no_change s.names.items s.cycles.items s.values.items s.next c.args.line.now c.requires.no_time
    (subst (λ x. FindsValue x c.args.line.now None) c.as_slice.ensures.value c.in_default.ensures)
    (sound_at s Changes c.requires.part c.requires.sound))

pub returns-then-index-self : goal.returns-then-index-self
returns-then-index-self c =
    let s = c.args.self.now in
    stops_from Changes s.part s.names.items s.cycles.items s.values.items s.next c.args.line.now c.requires.part
    (other_change s.names.items s.cycles.items s.values.items s.next c.in-Some.index c.in-Some.value c.args.line.now
    c.requires.no_time (subst (λ x. FindsValue x c.args.line.now
    (Some (c.in-Some.index, c.in-Some.value))) c.as_slice.ensures.value c.in-Some.ensures)
    (λ l d. omega (arith, l, c.if-index-self.true)) (sound_at s Changes c.requires.part c.requires.sound))

pub index-requires : goal.index-requires
index-requires c =
    let s = c.args.self.now in
    let l = index_within s.part s.names.items s.cycles.items s.values.items s.next c.in-Some.index c.in-Some.value
    c.args.line.now c.requires.part (subst (λ x. FindsValue x c.args.line.now
    (Some (c.in-Some.index, c.in-Some.value))) c.as_slice.ensures.value c.in-Some.ensures) c.requires.sound in
    omega (arith, l, s.values.ok.0)

pub returns-then-index-value : goal.returns-then-index-value
returns-then-index-value c =
    let s = c.args.self.now in
    let f = subst (λ x. FindsValue x c.args.line.now
    (Some (c.in-Some.index, c.in-Some.value))) c.as_slice.ensures.value c.in-Some.ensures in
    let l = index_within s.part s.names.items s.cycles.items s.values.items s.next c.in-Some.index c.in-Some.value
    c.args.line.now c.requires.part f c.requires.sound in
    stops_from Changes s.part s.names.items s.cycles.items s.values.items s.next c.args.line.now c.requires.part
    (other_change s.names.items s.cycles.items s.values.items s.next c.in-Some.index c.in-Some.value c.args.line.now
    c.requires.no_time f (λ w d. d (sym
    (get_or_read s.values.items c.in-Some.index c.index.result.now l c.index.ensures 0) ∙ c.if-index-value.true))
    (sound_at s Changes c.requires.part c.requires.sound))

pub index_mut-requires : goal.index_mut-requires
index_mut-requires c =
    let s = c.args.self.now in
    let l = index_within s.part s.names.items s.cycles.items s.values.items s.next c.in-Some.index c.in-Some.value
    c.args.line.now c.requires.part (subst (λ x. FindsValue x c.args.line.now
    (Some (c.in-Some.index, c.in-Some.value))) c.as_slice.ensures.value c.in-Some.ensures) c.requires.sound in
    omega (arith, l, s.values.ok.0)

pub overflow_add-self : goal.overflow_add-self
overflow_add-self c =
    let s = c.args.self.now in
    let l = index_within s.part s.names.items s.cycles.items s.values.items s.next c.in-Some.index c.in-Some.value
    c.args.line.now c.requires.part (subst (λ x. FindsValue x c.args.line.now
    (Some (c.in-Some.index, c.in-Some.value))) c.as_slice.ensures.value c.in-Some.ensures) c.requires.sound in
    omega (arith, l, s.values.ok.0)

pub returns : goal.returns
returns c =
    let s = c.args.self.now in
    let f = subst (λ x. FindsValue x c.args.line.now
    (Some (c.in-Some.index, c.in-Some.value))) c.as_slice.ensures.value c.in-Some.ensures in
    let l = index_within s.part s.names.items s.cycles.items s.values.items s.next c.in-Some.index c.in-Some.value
    c.args.line.now c.requires.part f c.requires.sound in
    took_change s.part s.names.items s.cycles.items s.values.items s.next c.in-Some.index c.in-Some.value
    c.args.line.now c.requires.part c.if-index-self.false f
    (λ e. c.if-index-value.false (get_or_read s.values.items c.in-Some.index c.index.result.now l c.index.ensures 0
    ∙ e)) c.requires.sound
