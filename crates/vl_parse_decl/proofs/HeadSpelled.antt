-- What brackets and modules spell, in the parts that are read.
use Rattle.std.proofs.Common.{List}
use Rattle.fv_text.specs.declared.keyword.Keyword.TheVariants as w
use Rattle.fv_text.specs.declared.symbol.Symbol.TheVariants as s
use Rattle.fv_text.specs.declared.token.Token.{Token}
use Rattle.vl_tree.specs.declared.source.Module.{Module}
use Rattle.vl_tree.specs.Item.{items}
use Rattle.vl_tree.specs.ItemSpelling.{spell_module, spell_all, spell_parameters, spell_ports}
use Rattle.vl_tree.specs.Phrase.{Phrase, Spells, BeginsAt, sign, word, a_name, parens, ◌▸◌}

pub in_brackets : (a : Phrase) (start inside rest : List Token) → Spells (sign s.OpenParen) start inside
    → Spells (a ▸ sign s.CloseParen) inside rest
    → Spells (parens a) start rest
in_brackets a start inside rest h (m, i, j) = (m, (inside, h, i), j)

pub module_spelled : (x : Module) (start a b c d rest : List Token) → BeginsAt x.pos start
    → Spells (word w.Module) start a → Spells (a_name x.name) a b
    → Spells (spell_parameters x.parameters) b c → Spells (spell_ports x.ports ▸ sign s.Semicolon) c d
    → Spells (spell_all (items x.items) ▸ word w.Endmodule) d rest → Spells (spell_module x) start rest
module_spelled x start a b c d rest p h i j (m, k, l) o = (p, (a, h, (b, i, (c, j, (m, k, (d, l, o))))))
