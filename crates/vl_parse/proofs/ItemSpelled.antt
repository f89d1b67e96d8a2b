-- What an item spells that has items in it and no attributes.
use Rattle.std.proofs.Common.{◌≡◌, Bool, true, false, List, [], ◌∷◌, refl, subst}
use Rattle.fv_text.specs.declared.kind.Kind.{Kind}
use Rattle.fv_text.specs.declared.kind.Kind.TheVariants as k
use Rattle.fv_text.specs.declared.keyword.Keyword.TheVariants as w
use Rattle.fv_text.specs.declared.pos.Pos.{Pos}
use Rattle.fv_text.specs.declared.token.Token.{Token}
use Rattle.vl_tree.specs.declared.part.LoopHead.{LoopHead}
use Rattle.vl_tree.specs.Phrase.{Spells, BeginsAt, word, parens, ◌▸◌}
use Rattle.vl_tree.specs.Expr.{Expr}
use Rattle.vl_tree.specs.ExprSpelling as expr
use Rattle.vl_tree.specs.Item.{Items, Block, region, for_loop, if_only, if_else}
use Rattle.vl_tree.specs.ItemSpelling.{spell, spell_all, spell_block, spell_head}
use Rattle.vl_parse.specs.Items.{LeavesElse}
use Rattle.vl_parse_cursor.specs.Next.{IsOther}

pub region_found : (xs : Items) (p : Pos) (start tokens rest : List Token) → BeginsAt p start
    → Spells (word w.Generate) start tokens
    → Spells (spell_all xs ▸ word w.Endgenerate) tokens rest → Spells (spell_block (region p xs)) start rest
region_found xs p start tokens rest here h i = (here, (tokens, h, i))

pub for_found : (head : LoopHead) (b : Block) (p : Pos) (start tokens middle rest : List Token) → BeginsAt p start
    → Spells (word w.For) start tokens
    → Spells (spell_head head) tokens middle → Spells (spell_block b) middle rest
    → Spells (spell (for_loop [] p head b)) start rest
for_found head b p start tokens middle rest here h i j = (start, refl, (here, (tokens, h, (middle, i, j))))

pub if_found : (c : Expr) (b : Block) (p : Pos) (start tokens middle rest : List Token) → BeginsAt p start
    → Spells (word w.If) start tokens
    → Spells (parens (expr.spell c)) tokens middle → Spells (spell_block b) middle rest
    → Spells (spell (if_only [] p c b)) start rest
if_found c b p start tokens middle rest here h i j = (start, refl, (here, (tokens, h, (middle, i, j))))

pub if_else_found : (c : Expr) (b d : Block) (p : Pos) (start tokens middle other second rest : List Token)
    → BeginsAt p start → Spells (word w.If) start tokens
    → Spells (parens (expr.spell c)) tokens middle → Spells (spell_block b) middle other
    → Spells (word w.Else) other second
    → Spells (spell_block d) second rest → Spells (spell (if_else [] p c b d)) start rest
if_else_found c b d p start tokens middle other second rest here h i j l m =
    (start, refl, (here, (tokens, h, (middle, i, (other, j, (second, l, m))))))

-- an `else` that comes is of no `if` before it
pub not_open : (b : Bool) (ts rest : List Kind) → LeavesElse b ts → ts ≡ k.Keyword w.Else ∷ rest → b ≡ false
not_open false ts rest h e = refl
not_open true ts rest h e = absurd (subst (λ q. IsOther (k.Keyword w.Else) q) e (h refl) refl)

pub ruleset item_spelled = (for_found)

pub ruleset block_spelled = (region_found)

pub ruleset if_spelled = (not_open, if_found, if_else_found)
