-- What tokens with their places have to do with texts.
use Rattle.std.proofs.Common.{◌≡◌, List, [], sym, ap, ◌∙◌}
use Rattle.fv_text.specs.declared.token.Token.{Token}
use Rattle.vl_tree.proofs.Readings.{spelled}
use Rattle.vl_tree.specs.declared.source.Source.{Source}
use Rattle.vl_tree.specs.ItemSpelling.{spell_source}
use Rattle.vl_tree.specs.Phrase.{kinds, kinds_of, Spells}
use Rattle.vl_tree.specs.WellFormed.{IsSource}
use Rattle.vl_parse_grammar.specs.Depth.{too_deep_at, unless_too_deep}
use Rattle.vl_parse_grammar.specs.Grammar.{run}
use Rattle.vl_parse_grammar.specs.Text.{IsText}
use Rattle.vl_parse_grammar.proofs.Onto.{all_of}
use Rattle.vl_parse_grammar.proofs.TooDeep.{text_run}

pub spelled_kinds : (tree : Source) (tokens : List Token) → Spells (spell_source tree) tokens []
    → kinds (spell_source tree) ≡ kinds_of tokens
spelled_kinds tree tokens h = sym (spelled (spell_source tree) tokens [] h ∙ all_of (kinds (spell_source tree)))

-- tokens that a tree spells are a text
pub spelled_text : (tree : Source) (tokens : List Token) → IsSource tree → Spells (spell_source tree) tokens []
    → IsText (kinds_of tokens)
spelled_text tree tokens w h = record { tree = tree; formed = w; spelled = spelled_kinds tree tokens h }

-- and a run reads them, up to the first token at which 257 constructs of the tree are open
pub spelled_run : (tree : Source) (tokens : List Token) → IsSource tree → Spells (spell_source tree) tokens []
    → run (kinds_of tokens) ≡ unless_too_deep (too_deep_at tree)
spelled_run tree tokens w h = ap run (sym (spelled_kinds tree tokens h)) ∙ text_run tree w
