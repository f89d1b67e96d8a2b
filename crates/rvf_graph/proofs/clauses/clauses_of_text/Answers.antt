use Rattle.aiger_text.proofs.AnswerLaws.{only_memory, refused_by}
use Rattle.rvf_graph.specs.Clauses.{AreMade}
use Rattle.rvf_graph.proofs.clauses.clauses_of_text.Goals as goal

pub returns-clause-refuses : goal.returns-clause-refuses
returns-clause-refuses c = λ e h.
    refused_by AreMade c.args.bytes.now e c.graph_clauses.result c.graph_clauses.ensures h

pub returns-clause-reads : goal.returns-clause-reads
returns-clause-reads c = λ said h.
    only_memory AreMade c.args.bytes.now said c.graph_clauses.result c.graph_clauses.ensures h
