use Rattle.vl_lower_spec.proofs.NamedWhole.{are_free}
use Rattle.vl_lower_spec.proofs.named_law.named_sources_are_free.Goals as goal

pub returns : goal.returns
returns c = are_free
