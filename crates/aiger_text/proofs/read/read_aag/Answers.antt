use Rattle.aiger_text.specs.Profile.{IsReadGraph}
use Rattle.aiger_text.proofs.AnswerLaws.{refused_by, only_memory}
use Rattle.aiger_text.proofs.read.read_aag.Goals as goal

pub returns-clause-refuses : goal.returns-clause-refuses
returns-clause-refuses c = λ e h.
    refused_by IsReadGraph c.args.bytes.now e c.read_graph.result c.read_graph.ensures h

pub returns-clause-reads : goal.returns-clause-reads
returns-clause-reads c = λ said h.
    only_memory IsReadGraph c.args.bytes.now said c.read_graph.result c.read_graph.ensures h
