use Rattle.std.proofs.Common.{Some, refl}
use Rattle.rvf_words.specs.declared.line.Line.TheVariants as words
use Rattle.rvf_core.specs.Run.{none_failed}
use Rattle.rvf_core.proofs.FromWords.{memory_ends}
use Rattle.rvf_core.proofs.benching.bench.Goals as goal

pub returns-in-Err-clause-ends : goal.returns-in-Err-clause-ends
returns-in-Err-clause-ends g c = λ asked. memory_ends (Some (words.Bench c.args.size)) asked _

pub returns-in-Err-clause-counts : goal.returns-in-Err-clause-counts
returns-in-Err-clause-counts g c = (refl, none_failed refl)
