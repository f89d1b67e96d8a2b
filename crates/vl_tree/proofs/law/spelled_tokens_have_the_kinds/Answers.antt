use Rattle.std.specs.Prelude.{[]}
use Rattle.std.proofs.Common.{◌∙◌}
use Rattle.std.proofs.lemmas.List.{append-nil}
use Rattle.vl_tree.specs.ItemSpelling.{spell_source}
use Rattle.vl_tree.specs.Phrase.{kinds}
use Rattle.vl_tree.proofs.Readings.{spelled}
use Rattle.vl_tree.proofs.law.spelled_tokens_have_the_kinds.Goals as goal

pub returns : goal.returns
returns c tree tokens h = spelled (spell_source tree) tokens [] h ∙ append-nil (kinds (spell_source tree))
