-- Between functions: What the public calls promise. What a token begins as the first of an operand, and what it joins
-- to the operand before it. IEEE 1364-2005, sections 5.1 and A.8.
use Rattle.std.specs.Prelude.{Bool, true, false, Option, Some, None}
use Rattle.fv_text.specs.declared.kind.Kind.{Kind}
use Rattle.fv_text.specs.declared.kind.Kind.TheVariants as k
use Rattle.fv_text.specs.declared.number.Number.{Number}
use Rattle.fv_text.specs.declared.symbol.Symbol.{Symbol}
use Rattle.fv_text.specs.declared.symbol.Symbol.TheVariants as s
use Rattle.vl_tree.specs.declared.operator.UnaryOperator.{UnaryOperator}
use Rattle.vl_tree.specs.declared.operator.BinaryOperator.{BinaryOperator}
use Rattle.vl_tree.specs.declared.operator.Cast.{Cast}
use Rattle.vl_parse_grammar.specs.Operators.{unary_of, binary_of, cast_of}
use Rattle.vl_parse_grammar.specs.Grammar.{is_known}
use Rattle.vl_parse_cursor.specs.declared.lead.Lead.{Lead}
use Rattle.vl_parse_cursor.specs.declared.lead.Lead.TheVariants as lead
use Rattle.vl_parse_cursor.specs.declared.lead.Joint.{Joint}
use Rattle.vl_parse_cursor.specs.declared.lead.Joint.TheVariants as joint

abbrev pub lead_of_number : Bool → Number → Lead
lead_of_number true n = lead.Number n
lead_of_number false n = lead.Nothing

abbrev pub lead_of_unary : Option UnaryOperator → Lead
lead_of_unary None = lead.Nothing
lead_of_unary (Some op) = lead.Unary op

abbrev pub lead_of_sign : Symbol → Lead
lead_of_sign s.OpenParen = lead.Paren
lead_of_sign s.OpenBrace = lead.Brace
lead_of_sign found = lead_of_unary (unary_of found)

abbrev pub lead_of_cast : Option Cast → Lead
lead_of_cast None = lead.Nothing
lead_of_cast (Some cast) = lead.Cast cast

abbrev pub lead_of : Kind → Lead
lead_of (k.Number n) = lead_of_number (is_known n) n
lead_of (k.Name text) = lead.Name
lead_of (k.Symbol found) = lead_of_sign found
lead_of (k.System text) = lead_of_cast (cast_of text)
lead_of t = lead.Nothing

abbrev pub joint_of_binary : Option BinaryOperator → Joint
joint_of_binary None = joint.Nothing
joint_of_binary (Some op) = joint.Binary op

abbrev pub joint_of_sign : Symbol → Joint
joint_of_sign s.Question = joint.Question
joint_of_sign found = joint_of_binary (binary_of found)

abbrev pub joint_of : Kind → Joint
joint_of (k.Symbol found) = joint_of_sign found
joint_of t = joint.Nothing
