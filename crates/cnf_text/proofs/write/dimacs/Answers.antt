use Rattle.std.proofs.Common.{ap, ◌∙◌, arith}
use Rattle.cnf_text.specs.Dimacs.{clause_text, dimacs_text, formula_of}
use Rattle.cnf_text.proofs.ReadBack.{read_back, written_all}
use Rattle.cnf_text.proofs.write.dimacs.Goals as goal

pub returns-clause-read_back : goal.returns-clause-read_back
returns-clause-read_back c = λ n v m.
    ap formula_of (written_all clause_text c.args.formula.now.clauses c.loop-index.index
    c.loop-index.out.items (dimacs_text c.args.notes.now c.args.formula.now)
    (omega (arith, c.loop-index-test.false, c.len-index-end.ensures.value))
    c.loop-index.invariant)
    ∙ read_back c.args.notes.now c.args.formula.now n v m c.len-index-end.ensures.literals
