use Rattle.std.specs.Prelude.{List, []}
use Rattle.std.specs.List.{AllByRecursion}
use Rattle.std.proofs.Common.{◌≡◌, ◌∙◌, ap, map, sym, subst}
use Rattle.bb_blast.specs.declared.places.Placed.{Placed}
use Rattle.bm_unroll.specs.declared.frames.Source.{Source}
use Rattle.cnf_text.specs.Dimacs.{HaveNoEnd}
use Rattle.rvfi_port.specs.Fields.{channel_fields}
use Rattle.ck_design.specs.Notes.{choice_notes, field_notes}
use Rattle.ck_design.proofs.Bound.{front}
use Rattle.rvf_judge.specs.Lines.{note_text}
use Rattle.rvf_judge.specs.NoteLinesParts.{placed_notes}
use Rattle.rvf_judge.proofs.NamesShown.{NamesOneLine, names_one_line}
use Rattle.rvf_judge.proofs.NoteLinesLines.{lines_no_end}
use Rattle.rvf_judge.proofs.Written.{back_from, texts_from}
use Rattle.rvf_judge.proofs.texts.half_texts.Goals as goal

pub returns-clause-texts : goal.returns-clause-texts
returns-clause-texts c =
    let names = c.args.names.now in
    let certificate = c.args.certificate.now in
    let bits = certificate.bits in
    let notes = choice_notes names bits in
    let made : c.as_slice-3.result.now ≡ notes =
    c.as_slice-3.ensures ∙ c.in_ok-notes.ensures
    ∙ ap (λ (xs : List Source). placed_notes names xs c.as_slice-2.result.now) c.as_slice.ensures
    ∙ ap (λ (ps : List Placed). placed_notes names bits.sources ps) c.as_slice-2.ensures in
    texts_from c.as_slice-4.result.now notes certificate.formula certificate.steps c.written.result
    (c.as_slice-4.ensures ∙ c.in_ok-lines.ensures ∙ ap (map note_text) made) c.written.ensures.texts

pub returns-clause-read_back : goal.returns-clause-read_back
returns-clause-read_back c =
    let names = c.args.names.now in
    let certificate = c.args.certificate.now in
    let bits = certificate.bits in
    let notes = choice_notes names bits in
    let made : c.as_slice-3.result.now ≡ notes =
    c.as_slice-3.ensures ∙ c.in_ok-notes.ensures
    ∙ ap (λ (xs : List Source). placed_notes names xs c.as_slice-2.result.now) c.as_slice.ensures
    ∙ ap (λ (ps : List Placed). placed_notes names bits.sources ps) c.as_slice-2.ensures in
    let named : AllByRecursion NamesOneLine notes =
    front NamesOneLine notes (field_notes 0 0 channel_fields []) (names_one_line names bits 0 0 [] c.requires.graphic) in
    let ends : HaveNoEnd c.as_slice-4.result.now =
    subst HaveNoEnd (sym (c.as_slice-4.ensures ∙ c.in_ok-lines.ensures ∙ ap (map note_text) made))
    (lines_no_end notes named) in
    back_from c.as_slice-4.result.now certificate.formula certificate.steps c.written.result ends
    c.written.ensures.read_back
