-- Meaning: What items and modules spell, alternative by alternative. IEEE 1364-2005, sections A.1 to A.4, cut to this
-- project's subset.
use Rattle.std.specs.Prelude.{ℕ, List, [], ◌∷◌, Option, Some, None}
use Rattle.fv_text.specs.declared.pos.Pos.{Pos}
use Rattle.fv_text.specs.declared.keyword.Keyword.{Keyword}
use Rattle.fv_text.specs.declared.keyword.Keyword.TheVariants as w
use Rattle.fv_text.specs.declared.symbol.Symbol.TheVariants as s
use Rattle.vl_tree.specs.declared.declaration.Declaration.{Declaration}
use Rattle.vl_tree.specs.declared.declaration.HeaderParameter.{HeaderParameter}
use Rattle.vl_tree.specs.declared.declaration.Port.{Port}
use Rattle.vl_tree.specs.declared.item.RegionMark.{RegionMark}
use Rattle.vl_tree.specs.declared.item.RegionMark.TheVariants as mark
use Rattle.vl_tree.specs.declared.part.Assignment.{Assignment}
use Rattle.vl_tree.specs.declared.part.Connection.{Connection}
use Rattle.vl_tree.specs.declared.part.Event.{Event}
use Rattle.vl_tree.specs.declared.part.EventKind.{EventKind}
use Rattle.vl_tree.specs.declared.part.EventKind.TheVariants as e
use Rattle.vl_tree.specs.declared.part.Instance.{Instance}
use Rattle.vl_tree.specs.declared.part.LoopHead.{LoopHead}
use Rattle.vl_tree.specs.declared.source.Module.{Module}
use Rattle.vl_tree.specs.declared.source.Source.{Source}
use Rattle.vl_tree.specs.DeclarationSpelling.{
  spell_attributes,
  spell_declared_name,
  spell_header_parameter,
  spell_parameter,
  spell_port,
  spell_shape,
  net_word,
  parameter_word,
}
use Rattle.vl_tree.specs.Expr.{Expr}
use Rattle.vl_tree.specs.ExprSpelling as expr
use Rattle.vl_tree.specs.LvalSpelling as lval
use Rattle.vl_tree.specs.StmtSpelling as stmt
use Rattle.vl_tree.specs.StmtSpelling.{spell_label}
use Rattle.vl_tree.specs.Item.{
  Item,
  Items,
  Block,
  declaration,
  integer,
  genvar,
  parameter,
  assign,
  always,
  initial,
  instance,
  generate,
  for_loop,
  if_only,
  if_else,
  no_items,
  more_items,
  begin,
  region,
  single,
  items,
}
use Rattle.vl_tree.specs.Phrase.{Phrase, nothing, ◌▸◌, at, within, level, sign, word, a_name, parens, each}
use Rattle.vl_tree.specs.Phrase.{between_commas}

abbrev pub spell_declaration : Declaration → Phrase
spell_declaration d =
    word (net_word d.net) ▸ spell_shape d.shape ▸ between_commas spell_declared_name d.names ▸ sign s.Semicolon

abbrev pub spell_assignment : Assignment → Phrase
spell_assignment x = lval.spell x.target ▸ sign s.Equal ▸ level (expr.spell x.value)

abbrev pub spell_event_kind : EventKind → Phrase
spell_event_kind e.Bare = sign s.Star
spell_event_kind e.Spaced = parens (sign s.Star)
spell_event_kind e.OpenJoined = within (sign s.OpenAttribute) ▸ sign s.CloseParen
spell_event_kind e.CloseJoined = within (sign s.OpenParen) ▸ sign s.CloseAttribute
spell_event_kind (e.Posedge name) = parens (word w.Posedge ▸ a_name name)

abbrev pub spell_event : Event → Phrase
spell_event x = at x.pos (spell_event_kind x.kind)

abbrev pub spell_optional : Option Expr → Phrase
spell_optional None = nothing
spell_optional (Some e) = expr.spell e

-- `.port(value)`
abbrev pub spell_connection : Connection → Phrase
spell_connection x = at x.pos (sign s.Dot ▸ a_name x.port ▸ parens (spell_optional x.value))

abbrev pub spell_connections : List Connection → Phrase
spell_connections xs = parens (between_commas spell_connection xs)

abbrev pub spell_overrides : Option (List Connection) → Phrase
spell_overrides None = nothing
spell_overrides (Some xs) = sign s.Hash ▸ spell_connections xs

abbrev pub spell_instance : Instance → Phrase
spell_instance x =
    a_name x.definition ▸ spell_overrides x.overrides ▸ a_name x.name ▸ spell_connections x.connections ▸ sign
    s.Semicolon

-- `name = expr`
abbrev pub spell_step : List ℕ → Expr → Phrase
spell_step name e = a_name name ▸ sign s.Equal ▸ level (expr.spell e)

-- `(x = start; condition; x = next)`
unfoldable pub spell_head : LoopHead → Phrase
spell_head x =
    parens (spell_step x.variable x.start ▸ sign s.Semicolon ▸ level (expr.spell x.condition) ▸ sign s.Semicolon
    ▸ spell_step x.next_variable x.next)

abbrev pub mark_word : RegionMark → Keyword
mark_word mark.Open = w.Generate
mark_word mark.Close = w.Endgenerate

abbrev mutual
  pub spell : Item → Phrase
  spell (declaration attrs p d) = spell_attributes attrs ▸ at p (spell_declaration d)
  spell (integer attrs p xs) =
      spell_attributes attrs ▸ at p (word w.Integer ▸ between_commas spell_declared_name xs ▸ sign s.Semicolon)
  spell (genvar attrs p xs) =
      spell_attributes attrs ▸ at p (word w.Genvar ▸ between_commas a_name xs ▸ sign s.Semicolon)
  spell (parameter attrs p kind xs) =
      spell_attributes attrs ▸ at p (word (parameter_word kind) ▸ between_commas spell_parameter xs
      ▸ sign s.Semicolon)
  spell (assign attrs p xs) =
      spell_attributes attrs ▸ at p (word w.Assign ▸ between_commas spell_assignment xs ▸ sign s.Semicolon)
  spell (always attrs p event x) =
      spell_attributes attrs ▸ at p (word w.Always ▸ sign s.At ▸ spell_event event ▸ stmt.spell x)
  spell (initial attrs p x) = spell_attributes attrs ▸ at p (word w.Initial ▸ stmt.spell x)
  spell (instance attrs p x) = spell_attributes attrs ▸ at p (spell_instance x)
  spell (generate attrs p mark) = spell_attributes attrs ▸ at p (word (mark_word mark))
  spell (for_loop attrs p head b) =
      spell_attributes attrs ▸ at p (within (word w.For ▸ spell_head head ▸ spell_block b))
  spell (if_only attrs p c b) =
      spell_attributes attrs ▸ at p (within (word w.If ▸ parens (expr.spell c) ▸ spell_block b))
  spell (if_else attrs p c b d) =
      spell_attributes attrs ▸ at p (within (word w.If ▸ parens
      (expr.spell c) ▸ spell_block b ▸ word w.Else ▸ spell_block d))

  pub spell_all : Items → Phrase
  spell_all no_items = nothing
  spell_all (more_items x xs) = spell x ▸ spell_all xs

  pub spell_block : Block → Phrase
  spell_block (begin p label xs) = at p (within (word w.Begin ▸ spell_label label ▸ spell_all xs) ▸ word w.End)
  spell_block (region p xs) = at p (word w.Generate ▸ spell_all xs ▸ word w.Endgenerate)
  spell_block (single x) = spell x

abbrev pub spell_parameters : Option (List HeaderParameter) → Phrase
spell_parameters None = nothing
spell_parameters (Some xs) = sign s.Hash ▸ parens (between_commas spell_header_parameter xs)

abbrev pub spell_ports : Option (List Port) → Phrase
spell_ports None = nothing
spell_ports (Some xs) = parens (between_commas spell_port xs)

abbrev pub spell_module : Module → Phrase
spell_module m =
    at m.pos (word w.Module ▸ a_name m.name ▸ spell_parameters m.parameters ▸ spell_ports m.ports
    ▸ sign s.Semicolon
    ▸ spell_all (items m.items) ▸ word w.Endmodule)

abbrev pub spell_modules : Pos → List Module → Phrase
spell_modules p [] = nothing
spell_modules p (m ∷ ms) = at p (spell_module m ▸ each spell_module ms)

abbrev pub spell_source : Source → Phrase
spell_source x = spell_modules x.pos x.modules
