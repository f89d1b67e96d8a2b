-- What the head of a loop spells.
use Rattle.std.proofs.Common.{◌≡◌, List}
use Rattle.fv_text.specs.declared.symbol.Symbol.TheVariants as s
use Rattle.fv_text.specs.declared.token.Token.{Token}
use Rattle.vl_tree.specs.declared.part.LoopHead.{LoopHead}
use Rattle.vl_tree.specs.Phrase.{Spells, sign, a_name, level, ◌▸◌}
use Rattle.vl_tree.specs.ExprSpelling.{spell}
use Rattle.vl_tree.specs.ItemSpelling.{spell_head, spell_step}

pub head_spelled : (x : LoopHead) (start a b c d rest : List Token) → Spells (sign s.OpenParen) start a
    → Spells (a_name x.variable) a b
    → Spells (sign s.Equal ▸ level (spell x.start)) b c
    → Spells (sign s.Semicolon ▸ level (spell x.condition) ▸ sign s.Semicolon) c d
    → Spells (spell_step x.next_variable x.next ▸ sign s.CloseParen) d rest → Spells (spell_head x) start rest
unfolding spell_head
head_spelled x start a b c d rest h i (m, j, l) (n, o, (q, p, r)) (z, y, v) =
    (z, (a, h, (c, (b, i, (m, j, l)), (n, o, (q, p, (d, r, y))))), v)

pub ruleset part_spelled = (head_spelled)
