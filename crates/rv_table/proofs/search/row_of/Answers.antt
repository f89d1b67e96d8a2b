use Rattle.std.proofs.Common.{◌&&◌, find, ◌∙◌, ap}
use Rattle.rv_table.specs.Matching as matching
use Rattle.rv_table.proofs.Unique.{row_found, row_only, row_without_m, row_without_c}
use Rattle.rv_table.proofs.search.row_of.Goals as goal

pub returns-clause-found : goal.returns-clause-found
returns-clause-found c =
    row_found c.args.isa c.args.insn c.row_among.result
    (c.row_among.ensures ∙ ap (find (λ row. matching.has c.args.isa row
    && matching.matches row c.args.insn)) c.all.ensures)

pub returns-clause-only : goal.returns-clause-only
returns-clause-only c =
    row_only c.args.isa c.args.insn c.row_among.result
    (c.row_among.ensures ∙ ap (find (λ row. matching.has c.args.isa row
    && matching.matches row c.args.insn)) c.all.ensures)

pub returns-clause-without_m : goal.returns-clause-without_m
returns-clause-without_m c =
    row_without_m c.args.isa c.args.insn c.row_among.result
    (c.row_among.ensures ∙ ap (find (λ row. matching.has c.args.isa row
    && matching.matches row c.args.insn)) c.all.ensures)

pub returns-clause-without_c : goal.returns-clause-without_c
returns-clause-without_c c =
    row_without_c c.args.isa c.args.insn c.row_among.result
    (c.row_among.ensures ∙ ap (find (λ row. matching.has c.args.isa row
    && matching.matches row c.args.insn)) c.all.ensures)
