-- Meaning: What attributes, ranges, declared names, parameters and ports spell. IEEE 1364-2005, sections A.1.3, A.2
-- and A.9.1, cut to this project's subset.
use Rattle.std.specs.Prelude.{Option, Some, None, Bool, true, false}
use Rattle.fv_text.specs.declared.pos.Pos.{Pos}
use Rattle.fv_text.specs.declared.keyword.Keyword.{Keyword}
use Rattle.fv_text.specs.declared.keyword.Keyword.TheVariants as w
use Rattle.fv_text.specs.declared.symbol.Symbol.TheVariants as s
use Rattle.vl_tree.specs.declared.attribute.Attribute.{Attribute}
use Rattle.vl_tree.specs.declared.attribute.AttributeInstance.{AttributeInstance}
use Rattle.vl_tree.specs.declared.declaration.Range.{Range}
use Rattle.vl_tree.specs.declared.declaration.Shape.{Shape}
use Rattle.vl_tree.specs.declared.declaration.NetKind.{NetKind}
use Rattle.vl_tree.specs.declared.declaration.NetKind.TheVariants as n
use Rattle.vl_tree.specs.declared.declaration.Direction.{Direction}
use Rattle.vl_tree.specs.declared.declaration.Direction.TheVariants as d
use Rattle.vl_tree.specs.declared.declaration.ParameterKind.{ParameterKind}
use Rattle.vl_tree.specs.declared.declaration.ParameterKind.TheVariants as k
use Rattle.vl_tree.specs.declared.declaration.DeclaredName.{DeclaredName}
use Rattle.vl_tree.specs.declared.declaration.Parameter.{Parameter}
use Rattle.vl_tree.specs.declared.declaration.HeaderParameter.{HeaderParameter}
use Rattle.vl_tree.specs.declared.declaration.Port.{Port}
use Rattle.vl_tree.specs.declared.declaration.PortKind.{PortKind}
use Rattle.vl_tree.specs.declared.declaration.PortKind.TheVariants as p
use Rattle.vl_tree.specs.declared.declaration.FullPort.{FullPort}
use Rattle.vl_tree.specs.Attributes.{Attributes}
use Rattle.vl_tree.specs.ExprSpelling as expr
use Rattle.vl_tree.specs.ExprSpelling.{spell_value}
use Rattle.vl_tree.specs.Phrase.{Phrase, nothing, ◌▸◌, at, within, level, sign, word, a_name, square, each}
use Rattle.vl_tree.specs.Phrase.{between_commas}

abbrev pub spell_attribute : Attribute → Phrase
spell_attribute a = at a.pos (a_name a.name ▸ spell_value a.value)

-- `(* name = value, name *)`
abbrev pub spell_instance : AttributeInstance → Phrase
spell_instance i =
    at i.pos (within (sign s.OpenAttribute ▸ between_commas spell_attribute i.attributes) ▸ sign s.CloseAttribute)

abbrev pub spell_attributes : Attributes → Phrase
spell_attributes is = each spell_instance is

-- `[left : right]`
abbrev pub spell_range : Range → Phrase
spell_range r = at r.pos (square (level (expr.spell r.left) ▸ sign s.Colon ▸ expr.spell r.right))

abbrev pub spell_optional_range : Option Range → Phrase
spell_optional_range None = nothing
spell_optional_range (Some r) = spell_range r

-- the keyword, where it is there
abbrev pub spell_if : Bool → Keyword → Phrase
spell_if true keyword = word keyword
spell_if false keyword = nothing

abbrev pub spell_shape : Shape → Phrase
spell_shape x = spell_if x.signed w.Signed ▸ spell_optional_range x.range

abbrev pub net_word : NetKind → Keyword
net_word n.Wire = w.Wire
net_word n.Reg = w.Reg

abbrev pub spell_net : Option NetKind → Phrase
spell_net None = nothing
spell_net (Some net) = word (net_word net)

abbrev pub direction_word : Direction → Keyword
direction_word d.Input = w.Input
direction_word d.Output = w.Output

abbrev pub parameter_word : ParameterKind → Keyword
parameter_word k.Parameter = w.Parameter
parameter_word k.Localparam = w.Localparam

-- dname
abbrev pub spell_declared_name : DeclaredName → Phrase
spell_declared_name x = at x.pos (a_name x.name ▸ spell_optional_range x.words ▸ spell_value x.value)

-- pdef
abbrev pub spell_parameter : Parameter → Phrase
spell_parameter x = at x.pos (spell_shape x.shape ▸ a_name x.name ▸ sign s.Equal ▸ level (expr.spell x.value))

abbrev pub spell_header_parameter : HeaderParameter → Phrase
spell_header_parameter x = spell_if x.keyword w.Parameter ▸ spell_parameter x.parameter

abbrev pub spell_full_port : FullPort → Phrase
spell_full_port x =
    word (direction_word x.direction) ▸ spell_net x.net ▸ spell_shape x.shape
    ▸ at x.name_pos (a_name x.name ▸ spell_value x.value)

-- attributes before a port aren't of its place
abbrev pub spell_port_kind : Pos → PortKind → Phrase
spell_port_kind q (p.Full x) = spell_attributes x.attributes ▸ at q (spell_full_port x)
spell_port_kind q (p.Short name value) = at q (a_name name ▸ spell_value value)

abbrev pub spell_port : Port → Phrase
spell_port x = spell_port_kind x.pos x.kind
