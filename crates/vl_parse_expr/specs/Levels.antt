-- Between functions: What the public calls promise. Where reading stands within an expression. IEEE 1364-2005, section
-- 5.1.2.
use Rattle.std.specs.Prelude.{ℕ, ◌<◌, List, [], ◌∷◌}
use Rattle.fv_text.specs.declared.kind.Kind.{Kind}
use Rattle.fv_text.specs.declared.pos.Pos.{Pos}
use Rattle.vl_tree.specs.Expr.{Expr, number, name, paren, unary, binary, conditional, concat, repeat, cast}
use Rattle.vl_tree.specs.ExprWellFormed.{binds}
use Rattle.vl_parse_grammar.specs.Grammar as grammar
use Rattle.vl_parse_grammar.specs.Grammar.{Outcome, read, operand, more}
use Rattle.vl_parse_cursor.specs.declared.lead.Joint.{Joint}
use Rattle.vl_parse_cursor.specs.declared.lead.Joint.TheVariants as joint
use Rattle.vl_parse_expr.specs.declared.level.Level.{Level}
use Rattle.vl_parse_expr.specs.declared.level.Stand.{Stand}
use Rattle.vl_parse_expr.specs.declared.level.Stand.TheVariants as stand
use Rattle.vl_parse_cursor.specs.Lead.{joint_of}

-- the place of its first token
abbrev pub place : Expr → Pos
place (number p n) = p
place (name p text ss) = p
place (paren p a) = p
place (unary p op a) = p
place (binary p op a b) = p
place (conditional p c a b) = p
place (concat p es) = p
place (repeat p n es) = p
place (cast p to a) = p

abbrev pub stand_of : Stand → grammar.Stand
stand_of stand.Plain = grammar.plain
stand_of stand.FirstInBraces = grammar.first_in_braces

-- what is behind an operand, where so many operators are open in these brackets
abbrev pub operand_at : Level → ℕ → List Kind → Outcome
operand_at l opened ts = read (operand (stand_of l.stand) l.colons opened) l.room ts

-- and behind what may follow one
abbrev pub more_at : Level → ℕ → List Kind → Outcome
more_at l opened ts = read (more (stand_of l.stand) l.colons opened) l.room ts

abbrev pub RestsAt : ℕ → Joint → Type 0
RestsAt least (joint.Binary op) = binds op < least
RestsAt least joint.Question = 0 < least
RestsAt least joint.Nothing = Unit {0}

-- no operator that binds so strongly comes next
abbrev pub Rests : ℕ → List Kind → Type 0
Rests least [] = Unit {0}
Rests least (t ∷ ts) = RestsAt least (joint_of t)
