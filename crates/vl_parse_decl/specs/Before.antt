-- Between functions: What the public calls promise. What attributes stand before, as a rule of the grammar. IEEE
-- 1364-2005, section 3.8.
use Rattle.vl_parse_grammar.specs.Grammar as grammar
use Rattle.vl_parse_decl.specs.declared.attribute.Before.{Before}
use Rattle.vl_parse_decl.specs.declared.attribute.Before.TheVariants as b

abbrev pub rule_of : Before → grammar.Rule
rule_of b.Item = grammar.item
rule_of b.Stmt = grammar.stmt
rule_of b.Port = grammar.full_port
