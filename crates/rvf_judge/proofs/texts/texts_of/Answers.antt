use Rattle.std.specs.Prelude.{ℕ, List}
use Rattle.std.proofs.Common.{◌≡◌, ◌∙◌, ap, map, sym, subst}
use Rattle.std.specs.List.{AllByRecursion}
use Rattle.wn_net.specs.declared.names.Names.{Names}
use Rattle.bm_decide.specs.declared.verdict.ChoiceBits.{ChoiceBits}
use Rattle.cnf_text.specs.Dimacs.{HaveNoEnd}
use Rattle.ck_ask.specs.Questions.{question_channel, question_cycle}
use Rattle.ck_design.specs.declared.note.Note.{Note}
use Rattle.ck_design.specs.Notes.{notes_of}
use Rattle.rvf_judge.specs.Lines.{note_text}
use Rattle.rvf_judge.proofs.NamesShown.{NamesOneLine, names_one_line}
use Rattle.rvf_judge.proofs.NoteLinesLines.{lines_no_end}
use Rattle.rvf_judge.proofs.Written.{back_from, texts_from}
use Rattle.rvf_judge.proofs.texts.texts_of.Goals as goal

-- the notes are those of the question's channel and cycle
of_question : (made : List Note) (names : Names) (bits : ChoiceBits) (words fields : List (List ℕ))
    (i k channel cycle : ℕ) → made ≡ notes_of names bits i k words → words ≡ fields → i ≡ channel → k ≡ cycle
    → made ≡ notes_of names bits channel cycle fields
of_question made names bits words fields i k channel cycle made_is d e f =
    made_is ∙ ap (λ ws. notes_of names bits i k ws) d ∙ ap (λ n. notes_of names bits n k fields) e
    ∙ ap (λ n. notes_of names bits channel n fields) f

pub returns-clause-texts : goal.returns-clause-texts
returns-clause-texts c =
    let names = c.args.names.now in
    let certificate = c.args.certificate.now in
    let bits = certificate.bits in
    let fields = certificate.fields in
    let channel = question_channel c.args.question.now in
    let cycle = question_cycle c.args.question.now in
    let notes = notes_of names bits channel cycle fields in
    let made : c.as_slice.result.now ≡ notes =
    c.as_slice.ensures ∙ of_question c.in_ok-notes.notes names bits c.as_slice-fields.result.now fields c.channel.result
    c.cycle.result channel cycle c.in_ok-notes.ensures c.as_slice-fields.ensures c.channel.ensures c.cycle.ensures in
    texts_from c.as_slice-2.result.now notes certificate.formula certificate.steps c.written.result
    (c.as_slice-2.ensures ∙ c.in_ok-lines.ensures ∙ ap (map note_text) made) c.written.ensures.texts

pub returns-clause-read_back : goal.returns-clause-read_back
returns-clause-read_back c =
    let names = c.args.names.now in
    let certificate = c.args.certificate.now in
    let bits = certificate.bits in
    let fields = certificate.fields in
    let channel = question_channel c.args.question.now in
    let cycle = question_cycle c.args.question.now in
    let notes = notes_of names bits channel cycle fields in
    let made : c.as_slice.result.now ≡ notes =
    c.as_slice.ensures ∙ of_question c.in_ok-notes.notes names bits c.as_slice-fields.result.now fields c.channel.result
    c.cycle.result channel cycle c.in_ok-notes.ensures c.as_slice-fields.ensures c.channel.ensures c.cycle.ensures in
    let named : AllByRecursion NamesOneLine notes =
    names_one_line names bits channel cycle fields c.requires.graphic in
    let ends : HaveNoEnd c.as_slice-2.result.now =
    subst HaveNoEnd (sym (c.as_slice-2.ensures ∙ c.in_ok-lines.ensures ∙ ap (map note_text) made))
    (lines_no_end notes named) in
    back_from c.as_slice-2.result.now certificate.formula certificate.steps c.written.result ends
    c.written.ensures.read_back
