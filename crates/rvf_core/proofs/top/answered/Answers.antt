use Rattle.std.proofs.Common.{Some, None, map, string_bytes, refl, sym, ◌∙◌, rules}
use Rattle.rvf_report.specs.Outcome.{outside}
use Rattle.rvf_words.specs.Line.{line_of}
use Rattle.rvf_core.specs.Run.{IsLine, Run, none_failed}
use Rattle.rvf_core.specs.Steps.{all_read}
use Rattle.rvf_core.proofs.Asking.{run_between}
use Rattle.rvf_core.proofs.FromFiles.{if_ok}
use Rattle.rvf_core.proofs.FromWords.{line_ends, line_statuses, memory_ends, memory_statuses, misuse_ends}
use Rattle.rvf_core.proofs.FromWords.{at_once, none_statuses}
use Rattle.rvf_core.proofs.Quiet.{put_counts}
use Rattle.rvf_core.proofs.Ranges.{IsLine-read}
use Rattle.rvf_core.proofs.top.answered.Goals as goal

pub done-requires-clause-line : goal.done-requires-clause-line
done-requires-clause-line g c =
    let is : IsLine c.in-Ok-Some.line =
    IsLine-read (map string_bytes c.args.words.now) c.in-Ok-Some.line
    (sym c.in-Ok-Some.field-0-is ∙ c.in-Ok-Some.ensures) in
    search (rules, is)

pub returns-in-Ok-Some-clause-answer : goal.returns-in-Ok-Some-clause-answer
returns-in-Ok-Some-clause-answer g c =
    line_ends (Some c.in-Ok-Some.line) _ _ c.done.result (sym c.in-Ok-Some.field-0-is ∙ c.in-Ok-Some.ensures)
    (c.done.ensures.ends (map string_bytes c.args.words.now))

pub returns-in-Ok-Some-clause-statuses : goal.returns-in-Ok-Some-clause-statuses
returns-in-Ok-Some-clause-statuses g c =
    let r : Run =
    run_between (map string_bytes c.args.words.now) (outside (g.F.Files.state c.args.files.now) (g.O.Out.state c.args.out.now))
    (outside (g.F.Files.state c.done.new.files) (g.O.Out.state c.done.new.out)) in
    line_statuses (Some c.in-Ok-Some.line) _ r c.done.result (sym c.in-Ok-Some.field-0-is ∙ c.in-Ok-Some.ensures)
    (c.done.ensures.statuses (map string_bytes c.args.words.now))

pub returns-in-Ok-None-clause-answer : goal.returns-in-Ok-None-clause-answer
returns-in-Ok-None-clause-answer g c =
    line_ends None _ _ c.put_report.result (sym c.in-Ok-None.field-0-is ∙ c.in-Ok-None.ensures)
    (misuse_ends (map string_bytes c.args.words.now) _ _ c.misused.result c.put_report.result
    c.put_report.ensures.unheard c.misused.ensures
    c.put_report.ensures.puts)

pub returns-in-Ok-None-clause-statuses : goal.returns-in-Ok-None-clause-statuses
returns-in-Ok-None-clause-statuses g c =
    let r : Run =
    run_between (map string_bytes c.args.words.now) (outside (g.F.Files.state c.args.files.now) (g.O.Out.state c.args.out.now))
    (outside (g.F.Files.state c.put_report.new.files) (g.O.Out.state c.put_report.new.out)) in
    none_statuses _ r c.put_report.result (sym c.in-Ok-None.field-0-is ∙ c.in-Ok-None.ensures)

pub returns-in-Err-clause-answer : goal.returns-in-Err-clause-answer
returns-in-Err-clause-answer g c =
    memory_ends (line_of (map string_bytes c.args.words.now)) (map string_bytes c.args.words.now) _

pub returns-in-Err-clause-statuses : goal.returns-in-Err-clause-statuses
returns-in-Err-clause-statuses g c =
    let r : Run =
    run_between (map string_bytes c.args.words.now) (outside (g.F.Files.state c.args.files.now) (g.O.Out.state c.args.out.now))
    (outside (g.F.Files.state c.args.files.now) (g.O.Out.state c.args.out.now)) in
    memory_statuses (line_of (map string_bytes c.args.words.now)) r refl

pub returns-in-Ok-None-clause-counts : goal.returns-in-Ok-None-clause-counts
returns-in-Ok-None-clause-counts g c =
    let before = (outside (g.F.Files.state c.args.files.now) (g.O.Out.state c.args.out.now)) in
    put_counts before before
    (outside (g.F.Files.state c.put_report.new.files) (g.O.Out.state c.put_report.new.out))
    (at_once before) refl c.misused.result c.put_report.result
    (if_ok _ _ (λ report is. all_read refl) c.misused.result c.misused.ensures) c.put_report.ensures.puts
    c.put_report.ensures.quiet

pub returns-in-Err-clause-counts : goal.returns-in-Err-clause-counts
returns-in-Err-clause-counts g c = (refl, none_failed refl)
