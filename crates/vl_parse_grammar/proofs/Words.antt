-- A short completion for each rule.
use Rattle.std.proofs.Common.{◌≡◌, ℕ, zero, suc, Bool, true, false, List, [], ◌∷◌, refl, arith}
use Rattle.fv_text.specs.Keyword.{keyword_of, keyword_text}
use Rattle.fv_text.specs.Name.{is_name}
use Rattle.fv_text.specs.declared.keyword.Keyword.{Keyword}
use Rattle.fv_text.specs.declared.keyword.Keyword.TheVariants as w
use Rattle.fv_text.specs.declared.kind.Kind.TheVariants as k
use Rattle.fv_text.specs.declared.number.Number.{Number}
use Rattle.fv_text.specs.declared.symbol.Symbol.{Symbol}
use Rattle.fv_text.specs.declared.symbol.Symbol.TheVariants as s
use Rattle.vl_parse_grammar.specs.Grammar.{
  Rule,
  Stand,
  Ending,
  plain,
  first_in_braces,
  endmodule,
  endgenerate,
  end,
  sign,
  the_parameter,
  name,
  this_name,
  operand,
  more,
  selects,
  select_end,
  parts,
  in_parens,
  value,
  target,
  targets,
  attributes,
  range,
  shape,
  declared_name,
  declared_names,
  names,
  parameters,
  stmt,
  stmts,
  block,
  otherwise,
  assign_sign,
  first_arm,
  arms,
  label,
  labels,
  behind_default,
  initial_stmt,
  initial_stmts,
  item,
  items,
  assignments,
  event,
  event_inside,
  overrides,
  connections,
  first_connection,
  connection,
  more_connections,
  connected,
  connected_value,
  loop_head,
  loop_variable,
  generate_block,
  generate_block_label,
  generate_otherwise,
  modules,
  module_head,
  module_ports,
  header_parameters,
  more_header_parameters,
  optional_parameter,
  first_port,
  port,
  more_ports,
  full_port,
  net,
}
use Rattle.vl_parse_grammar.proofs.Named.{Named}

abbrev pub mark : Symbol → Named
mark x = (k.Symbol x, refl)

abbrev pub keyword : Keyword → Named
keyword x = (k.Keyword x, refl)

pub a_is_name : is_name (97 ∷ []) ≡ true
unfolding is_name keyword_of keyword_text
a_is_name = refl

-- `a`
abbrev pub a : Named
a = (k.Name (97 ∷ []), a_is_name)

-- `0`
abbrev pub zero_number : Number
zero_number = record {
  sized = false;
  signed = true;
  width = 32;
  value = 0;
  wild = 0;
  unknown = 0;
  some_bits = omega arith;
  few_bits = omega arith;
  value_fits = omega arith;
  wild_fits = omega arith;
  unknown_fits = omega arith;
}

abbrev pub null : Named
null = (k.Number zero_number, refl)

abbrev pub name_word : (text : List ℕ) (b : Bool) → is_name text ≡ b → List Named
name_word text true e = (k.Name text, e) ∷ []
name_word text false e = a ∷ []

-- behind an operand: as many alternatives of conditionals as there are colons to come, and the closing brace
abbrev pub behind : Stand → ℕ → List Named
behind plain zero = []
behind first_in_braces zero = mark s.CloseBrace ∷ []
behind stand (suc colons) = mark s.Colon ∷ null ∷ behind stand colons

abbrev pub ending_word : Ending → Keyword
ending_word endmodule = w.Endmodule
ending_word endgenerate = w.Endgenerate
ending_word end = w.End

abbrev pub word : Rule → List Named
word (sign x) = mark x ∷ []
word the_parameter = keyword w.Parameter ∷ []
word name = a ∷ []
word (this_name text) = name_word text (is_name text) refl
word (operand stand colons opened) = null ∷ behind stand colons
word (more stand colons opened) = behind stand colons
word selects = []
word select_end = mark s.CloseBracket ∷ []
word parts = mark s.CloseBrace ∷ []
word in_parens = mark s.OpenParen ∷ null ∷ mark s.CloseParen ∷ []
word value = []
word target = a ∷ []
word targets = mark s.CloseBrace ∷ []
word attributes = mark s.CloseAttribute ∷ []
word range = []
word shape = []
word declared_name = a ∷ []
word declared_names = mark s.Semicolon ∷ []
word names = mark s.Semicolon ∷ []
word parameters = mark s.Semicolon ∷ []
word stmt = mark s.Semicolon ∷ []
word stmts = keyword w.End ∷ []
word block = keyword w.End ∷ []
word otherwise = []
word assign_sign = mark s.Equal ∷ null ∷ mark s.Semicolon ∷ []
word (first_arm kind) = keyword w.Default ∷ mark s.Semicolon ∷ keyword w.Endcase ∷ []
word (arms kind has_default) = keyword w.Endcase ∷ []
word (label kind) = a ∷ []
word (labels kind) = mark s.Colon ∷ mark s.Semicolon ∷ []
word behind_default = mark s.Semicolon ∷ []
word initial_stmt = a ∷ mark s.Equal ∷ null ∷ mark s.Semicolon ∷ []
word initial_stmts = keyword w.End ∷ []
word item = keyword w.Genvar ∷ a ∷ mark s.Semicolon ∷ []
word (items ending) = keyword (ending_word ending) ∷ []
word assignments = mark s.Semicolon ∷ []
word event = mark s.Star ∷ []
word event_inside = mark s.CloseAttribute ∷ []
word overrides = a ∷ mark s.OpenParen ∷ mark s.CloseParen ∷ mark s.Semicolon ∷ []
word connections = mark s.OpenParen ∷ mark s.CloseParen ∷ []
word first_connection = mark s.CloseParen ∷ []
word connection = mark s.Dot ∷ a ∷ mark s.OpenParen ∷ mark s.CloseParen ∷ []
word more_connections = mark s.CloseParen ∷ []
word connected = mark s.OpenParen ∷ mark s.CloseParen ∷ []
word connected_value = mark s.CloseParen ∷ []
word loop_head =
    mark s.OpenParen ∷ a ∷ mark s.Equal ∷ null ∷ mark s.Semicolon ∷ null ∷ mark s.Semicolon ∷ a ∷ mark s.Equal ∷ null
    ∷ mark s.CloseParen ∷ []
word loop_variable = a ∷ mark s.Equal ∷ null ∷ mark s.Semicolon ∷ null ∷ mark s.Semicolon ∷ a ∷ mark s.Equal ∷ null
    ∷ mark s.CloseParen ∷ []
word generate_block = keyword w.Begin ∷ keyword w.End ∷ []
word generate_block_label = keyword w.End ∷ []
word generate_otherwise = []
word modules = []
word module_head = mark s.Semicolon ∷ []
word module_ports = mark s.Semicolon ∷ []
word header_parameters = mark s.OpenParen ∷ keyword w.Parameter ∷ a ∷ mark s.Equal ∷ null ∷ mark s.CloseParen ∷ []
word more_header_parameters = mark s.CloseParen ∷ []
word optional_parameter = []
word first_port = mark s.CloseParen ∷ []
word port = a ∷ []
word more_ports = mark s.CloseParen ∷ []
word full_port = keyword w.Input ∷ a ∷ []
word net = []

-- the rules that may be left out, in an order in which what stands behind one of them lets those before it be left out
abbrev pub left_out : ℕ → Rule
left_out zero = selects
left_out (suc zero) = more plain 0 0
left_out (suc (suc zero)) = range
left_out (suc (suc (suc zero))) = value
left_out (suc (suc (suc (suc zero)))) = net
left_out (suc (suc (suc (suc (suc zero))))) = shape
left_out (suc (suc (suc (suc (suc (suc zero)))))) = optional_parameter
left_out (suc (suc (suc (suc (suc (suc (suc zero))))))) = otherwise
left_out (suc (suc (suc (suc (suc (suc (suc (suc zero)))))))) = generate_otherwise
left_out n = modules

abbrev pub follow_expr : Stand → ℕ
follow_expr plain = 2
follow_expr first_in_braces = 0

-- how many of these have to be left out at what comes behind
abbrev pub follow : Rule → ℕ
follow selects = 1
follow target = 1
follow (operand stand colons opened) = follow_expr stand
follow (more stand colons opened) = follow_expr stand
follow (label kind) = 2
follow range = 3
follow value = 4
follow declared_name = 4
follow port = 4
follow full_port = 4
follow net = 5
follow shape = 6
follow optional_parameter = 7
follow stmt = 8
follow otherwise = 8
follow (labels kind) = 8
follow behind_default = 8
follow item = 9
follow generate_block = 9
follow generate_otherwise = 9
follow modules = 10
follow x = 0

-- the name in the head of a loop is a name
abbrev pub sound : Rule → Bool
sound (this_name text) = is_name text
sound x = true
