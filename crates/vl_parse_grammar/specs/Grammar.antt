-- Meaning: The grammar of this project's subset of Verilog as rows: what each rule makes of the next token,
-- alternative by alternative. IEEE 1364-2005, annex A, cut to the subset. The levels of operators are no part of it:
-- an expression is operands with operators between them. What a text is is defined by the spelling of trees
-- (`ItemSpelling` and its parts, `Text.IsText`); these rows are another way to say it, in which texts are read, and
-- the law `the_grammar_has_what_trees_spell` shows that they have the same texts.
use Rattle.std.specs.Prelude.{
  ℕ,
  zero,
  suc,
  Bool,
  true,
  false,
  ◌&&◌,
  ◌==◌,
  List,
  [],
  ◌∷◌,
  ◌++◌,
  map,
  Result,
  Option,
}
use Rattle.std.specs.Prelude.{Some, None, bytes_eq}
use Rattle.fv_text.specs.declared.keyword.Keyword.{Keyword}
use Rattle.fv_text.specs.declared.keyword.Keyword.TheVariants as w
use Rattle.fv_text.specs.declared.kind.Kind.{Kind}
use Rattle.fv_text.specs.declared.kind.Kind.TheVariants as k
use Rattle.fv_text.specs.declared.number.Number.{Number}
use Rattle.fv_text.specs.declared.symbol.Symbol.{Symbol}
use Rattle.fv_text.specs.declared.symbol.Symbol.TheVariants as s
use Rattle.vl_tree.specs.declared.operator.UnaryOperator.{UnaryOperator}
use Rattle.vl_tree.specs.declared.operator.BinaryOperator.{BinaryOperator}
use Rattle.vl_tree.specs.declared.operator.Cast.{Cast}
use Rattle.vl_tree.specs.declared.stmt.CaseKind.{CaseKind}
use Rattle.vl_tree.specs.declared.stmt.CaseKind.TheVariants as c
use Rattle.vl_parse_grammar.specs.Machine as machine
use Rattle.vl_parse_grammar.specs.Machine.{Move, take, pop, bad, Fault, syntax, deep, Row}
use Rattle.vl_parse_grammar.specs.Operators.{unary_of, binary_of, cast_of}
use Rattle.vl_parse_grammar.specs.Signs.{same_sign}

-- Where an expression stands. The first one in braces may turn out to be the count of a replication: behind it comes a
-- comma, the closing brace, or another brace, in which its operators are still open.
pub data Stand : Type 0 where
  plain : Stand
  first_in_braces : Stand

-- what a list of items ends with
pub data Ending : Type 0 where
  endmodule : Ending
  endgenerate : Ending
  end : Ending

-- What may be still to come. Numbers: how many colons of conditionals are to come in these brackets, and how many
-- operators are open there.
pub data Rule : Type 0 where
  -- tokens
  sign : Symbol → Rule
  the_parameter : Rule
  name : Rule
  this_name : List ℕ → Rule
  -- expressions: an operand, and what is behind one
  operand : Stand → ℕ → ℕ → Rule
  more : Stand → ℕ → ℕ → Rule
  selects : Rule
  select_end : Rule
  parts : Rule
  in_parens : Rule
  value : Rule
  -- targets
  target : Rule
  targets : Rule
  -- attributes, ranges, declared names and parameters
  attributes : Rule
  range : Rule
  shape : Rule
  declared_name : Rule
  declared_names : Rule
  names : Rule
  parameters : Rule
  -- statements
  stmt : Rule
  stmts : Rule
  block : Rule
  otherwise : Rule
  assign_sign : Rule
  first_arm : CaseKind → Rule
  arms : CaseKind → Bool → Rule
  label : CaseKind → Rule
  labels : CaseKind → Rule
  behind_default : Rule
  initial_stmt : Rule
  initial_stmts : Rule
  -- items
  item : Rule
  items : Ending → Rule
  assignments : Rule
  event : Rule
  event_inside : Rule
  overrides : Rule
  connections : Rule
  first_connection : Rule
  connection : Rule
  more_connections : Rule
  connected : Rule
  connected_value : Rule
  loop_head : Rule
  loop_variable : Rule
  generate_block : Rule
  generate_block_label : Rule
  generate_otherwise : Rule
  -- modules
  modules : Rule
  module_head : Rule
  module_ports : Rule
  header_parameters : Rule
  more_header_parameters : Rule
  optional_parameter : Rule
  first_port : Rule
  port : Rule
  more_ports : Rule
  full_port : Rule
  net : Rule

abbrev pub Moves : Type 0
Moves = Move Rule

-- a whole expression
abbrev pub expr : Rule
expr = operand plain 0 0

-- rules one behind the other, at one room
abbrev pub row : List Rule → Row Rule
row [] = []
row (x ∷ xs) = (x, 0) ∷ row xs

-- ["signed"] [range] NAME "=" expr
abbrev pub parameter : List Rule
parameter = shape ∷ name ∷ sign s.Equal ∷ expr ∷ []

-- lval "=" expr
abbrev pub assignment : List Rule
assignment = target ∷ sign s.Equal ∷ expr ∷ []

-- none or more of what the move begins
abbrev pub many : Rule → Moves → Moves
many x (take opened xs) = take opened (xs ++ (x, 0) ∷ [])
many x pop = bad
many x bad = bad

abbrev pub take_if : Bool → Moves
take_if true = take 0 []
take_if false = bad

-- Tokens

abbrev pub on_sign : Symbol → Kind → Moves
on_sign wanted (k.Symbol found) = take_if (same_sign wanted found)
on_sign wanted t = bad

abbrev pub on_parameter_word : Kind → Moves
on_parameter_word (k.Keyword w.Parameter) = take 0 []
on_parameter_word t = bad

abbrev pub on_name : Kind → Moves
on_name (k.Name text) = take 0 []
on_name t = bad

abbrev pub on_this_name : List ℕ → Kind → Moves
on_this_name wanted (k.Name text) = take_if (bytes_eq text wanted)
on_this_name wanted t = bad

-- Expressions: an operator stays open up to the end of its brackets

-- no wild and no unknown bits
abbrev pub is_known : Number → Bool
is_known n = n.wild == 0 && n.unknown == 0

abbrev pub if_known : Bool → Moves → Moves
if_known true m = m
if_known false m = bad

abbrev pub on_cast : Stand → ℕ → ℕ → Option Cast → Moves
on_cast stand colons opened (Some cast) = take 0 ((in_parens, opened) ∷ (more stand colons opened, 0) ∷ [])
on_cast stand colons opened None = bad

abbrev pub on_unary : Stand → ℕ → ℕ → Option UnaryOperator → Moves
on_unary stand colons opened (Some op) = take (suc opened) ((operand stand colons (suc opened), 0) ∷ [])
on_unary stand colons opened None = bad

abbrev pub on_operand_sign : Stand → ℕ → ℕ → Symbol → Moves
on_operand_sign stand colons opened s.OpenParen =
    take (suc opened) ((expr, suc opened) ∷ (sign s.CloseParen, 0) ∷ (more stand colons opened, 0) ∷ [])
on_operand_sign stand colons opened s.OpenBrace =
    take (suc opened) ((operand first_in_braces 0 0, suc opened) ∷ (more stand colons opened, 0) ∷ [])
on_operand_sign stand colons opened found = on_unary stand colons opened (unary_of found)

abbrev pub on_operand : Stand → ℕ → ℕ → Kind → Moves
on_operand stand colons opened (k.Number n) = if_known (is_known n) (take 0 ((more stand colons opened, 0) ∷ []))
on_operand stand colons opened (k.Name text) = take 0 ((selects, opened) ∷ (more stand colons opened, 0) ∷ [])
on_operand stand colons opened (k.System text) = on_cast stand colons opened (cast_of text)
on_operand stand colons opened (k.Symbol found) = on_operand_sign stand colons opened found
on_operand stand colons opened t = bad

-- where no colon of a conditional is to come
abbrev pub on_end : Stand → ℕ → Symbol → Moves
on_end plain opened found = pop
on_end first_in_braces opened s.Comma = take 0 ((expr, 0) ∷ (parts, 0) ∷ [])
on_end first_in_braces opened s.CloseBrace = take 0 []
on_end first_in_braces opened s.OpenBrace =
    take (suc opened) ((expr, suc opened) ∷ (parts, suc opened) ∷ (sign s.CloseBrace, 0) ∷ [])
on_end first_in_braces opened found = bad

abbrev pub on_no_operator : Stand → ℕ → ℕ → Symbol → Moves
on_no_operator stand colons opened s.Question = take (suc opened) ((operand stand (suc colons) (suc opened), 0) ∷ [])
on_no_operator stand (suc colons) opened s.Colon = take 0 ((operand stand colons opened, 0) ∷ [])
on_no_operator stand (suc colons) opened found = bad
on_no_operator stand zero opened found = on_end stand opened found

abbrev pub on_binary : Stand → ℕ → ℕ → Symbol → Option BinaryOperator → Moves
on_binary stand colons opened found (Some op) = take (suc opened) ((operand stand colons (suc opened), 0) ∷ [])
on_binary stand colons opened found None = on_no_operator stand colons opened found

abbrev pub on_more : Stand → ℕ → ℕ → Kind → Moves
on_more stand colons opened (k.Symbol found) = on_binary stand colons opened found (binary_of found)
on_more plain zero opened t = pop
on_more plain (suc colons) opened t = bad
on_more first_in_braces colons opened t = bad

abbrev pub on_selects : Kind → Moves
on_selects (k.Symbol s.OpenBracket) = take 1 ((expr, 1) ∷ (select_end, 1) ∷ (selects, 0) ∷ [])
on_selects t = pop

abbrev pub on_select_end : Kind → Moves
on_select_end (k.Symbol s.CloseBracket) = take 0 []
on_select_end (k.Symbol s.Colon) = take 0 ((expr, 0) ∷ (sign s.CloseBracket, 0) ∷ [])
on_select_end (k.Symbol s.PlusColon) = take 0 ((expr, 0) ∷ (sign s.CloseBracket, 0) ∷ [])
on_select_end t = bad

abbrev pub on_parts : Kind → Moves
on_parts (k.Symbol s.Comma) = take 0 ((expr, 0) ∷ (parts, 0) ∷ [])
on_parts (k.Symbol s.CloseBrace) = take 0 []
on_parts t = bad

-- "(" expr ")"
abbrev pub on_in_parens : Kind → Moves
on_in_parens (k.Symbol s.OpenParen) = take 1 ((expr, 1) ∷ (sign s.CloseParen, 0) ∷ [])
on_in_parens t = bad

-- ["=" expr]
abbrev pub on_value : Kind → Moves
on_value (k.Symbol s.Equal) = take 0 ((expr, 0) ∷ [])
on_value t = pop

-- Targets

abbrev pub on_target : Kind → Moves
on_target (k.Name text) = take 0 ((selects, 0) ∷ [])
on_target (k.Symbol s.OpenBrace) = take 1 ((target, 1) ∷ (targets, 1) ∷ [])
on_target t = bad

abbrev pub on_targets : Kind → Moves
on_targets (k.Symbol s.Comma) = take 0 ((target, 0) ∷ (targets, 0) ∷ [])
on_targets (k.Symbol s.CloseBrace) = take 0 []
on_targets t = bad

-- Attributes, ranges, declared names and parameters

-- attributes that begin, before the rule
abbrev pub attributed : Rule → Moves
attributed x = take 1 ((name, 1) ∷ (value, 1) ∷ (attributes, 1) ∷ (x, 0) ∷ [])

abbrev pub on_attributes : Kind → Moves
on_attributes (k.Symbol s.Comma) = take 0 ((name, 0) ∷ (value, 0) ∷ (attributes, 0) ∷ [])
on_attributes (k.Symbol s.CloseAttribute) = take 0 []
on_attributes t = bad

-- [range]
abbrev pub on_range : Kind → Moves
on_range (k.Symbol s.OpenBracket) =
    take 1 ((expr, 1) ∷ (sign s.Colon, 1) ∷ (expr, 1) ∷ (sign s.CloseBracket, 0) ∷ [])
on_range t = pop

-- ["signed"] [range]
abbrev pub on_shape : Kind → Moves
on_shape (k.Keyword w.Signed) = take 0 ((range, 0) ∷ [])
on_shape t = on_range t

abbrev pub on_declared_name : Kind → Moves
on_declared_name (k.Name text) = take 0 ((range, 0) ∷ (value, 0) ∷ [])
on_declared_name t = bad

abbrev pub on_declared_names : Kind → Moves
on_declared_names (k.Symbol s.Comma) = take 0 ((declared_name, 0) ∷ (declared_names, 0) ∷ [])
on_declared_names (k.Symbol s.Semicolon) = take 0 []
on_declared_names t = bad

abbrev pub on_names : Kind → Moves
on_names (k.Symbol s.Comma) = take 0 ((name, 0) ∷ (names, 0) ∷ [])
on_names (k.Symbol s.Semicolon) = take 0 []
on_names t = bad

abbrev pub on_parameters : Kind → Moves
on_parameters (k.Symbol s.Comma) = take 0 (row (parameter ++ parameters ∷ []))
on_parameters (k.Symbol s.Semicolon) = take 0 []
on_parameters t = bad

-- Statements

abbrev pub on_stmt_word : Keyword → Moves
on_stmt_word w.Begin = take 1 ((block, 1) ∷ [])
on_stmt_word w.If = take 1 ((in_parens, 1) ∷ (stmt, 1) ∷ (otherwise, 1) ∷ [])
on_stmt_word w.Case = take 1 ((in_parens, 1) ∷ (first_arm c.Case, 1) ∷ [])
on_stmt_word w.Casez = take 1 ((in_parens, 1) ∷ (first_arm c.Casez, 1) ∷ [])
on_stmt_word w.Assume = take 0 ((in_parens, 0) ∷ (sign s.Semicolon, 0) ∷ [])
on_stmt_word found = bad

abbrev pub on_stmt_sign : Symbol → Moves
on_stmt_sign s.OpenAttribute = attributed stmt
on_stmt_sign s.OpenBrace = take 1 ((target, 1) ∷ (targets, 1) ∷ (assign_sign, 0) ∷ [])
on_stmt_sign s.Semicolon = take 0 []
on_stmt_sign found = bad

abbrev pub on_stmt : Kind → Moves
on_stmt (k.Keyword found) = on_stmt_word found
on_stmt (k.Symbol found) = on_stmt_sign found
on_stmt (k.Name text) = take 0 ((selects, 0) ∷ (assign_sign, 0) ∷ [])
on_stmt t = bad

-- {stmt} "end"
abbrev pub on_stmts : Kind → Moves
on_stmts (k.Keyword w.End) = take 0 []
on_stmts t = many stmts (on_stmt t)

-- [":" NAME] {stmt} "end"
abbrev pub on_block : Kind → Moves
on_block (k.Symbol s.Colon) = take 0 ((name, 0) ∷ (stmts, 0) ∷ [])
on_block t = on_stmts t

-- ["else" stmt]
abbrev pub on_otherwise : Kind → Moves
on_otherwise (k.Keyword w.Else) = take 0 ((stmt, 0) ∷ [])
on_otherwise t = pop

abbrev pub on_assign_sign : Kind → Moves
on_assign_sign (k.Symbol s.Equal) = take 0 ((expr, 0) ∷ (sign s.Semicolon, 0) ∷ [])
on_assign_sign (k.Symbol s.LessEqual) = take 0 ((expr, 0) ∷ (sign s.Semicolon, 0) ∷ [])
on_assign_sign t = bad

-- a number with wild bits alone is a label of a casez
abbrev pub on_wild : Number → Moves
on_wild n = if_known (n.unknown == 0) (take 0 [])

abbrev pub on_casez_number : Bool → Number → Moves
on_casez_number true n = on_operand plain 0 0 (k.Number n)
on_casez_number false n = on_wild n

abbrev pub on_label : CaseKind → Kind → Moves
on_label c.Casez (k.Number n) = on_casez_number (n.wild == 0) n
on_label kind t = on_operand plain 0 0 t

-- one construct more around each
abbrev pub inside : Row Rule → Row Rule
inside [] = []
inside (x ∷ xs) = (x.0, suc x.1) ∷ inside xs

-- an arm is open from the first token of its first label
abbrev pub arm_with : CaseKind → Bool → Moves → Moves
arm_with kind has_default (take opened xs) =
    take (suc opened) (inside xs ++ (labels kind, 1) ∷ (arms kind has_default, 0) ∷ [])
arm_with kind has_default pop = bad
arm_with kind has_default bad = bad

abbrev pub on_arm_word : CaseKind → Bool → Keyword → Moves
on_arm_word kind false w.Default = take 1 ((behind_default, 1) ∷ (arms kind true, 0) ∷ [])
on_arm_word kind has_default found = bad

abbrev pub on_arm : CaseKind → Bool → Kind → Moves
on_arm kind has_default (k.Keyword found) = on_arm_word kind has_default found
on_arm kind has_default t = arm_with kind has_default (on_label kind t)

-- {arm} "endcase"
abbrev pub on_arms : CaseKind → Bool → Kind → Moves
on_arms kind has_default (k.Keyword w.Endcase) = take 0 []
on_arms kind has_default t = on_arm kind has_default t

abbrev pub on_labels : CaseKind → Kind → Moves
on_labels kind (k.Symbol s.Comma) = take 0 ((label kind, 0) ∷ (labels kind, 0) ∷ [])
on_labels kind (k.Symbol s.Colon) = take 0 ((stmt, 0) ∷ [])
on_labels kind t = bad

-- [":"] stmt
abbrev pub on_behind_default : Kind → Moves
on_behind_default (k.Symbol s.Colon) = take 0 ((stmt, 0) ∷ [])
on_behind_default t = on_stmt t

abbrev pub on_initial_stmt : Kind → Moves
on_initial_stmt (k.Keyword w.Begin) = take 1 ((initial_stmts, 1) ∷ [])
on_initial_stmt (k.Name text) = take 0 (row (selects ∷ sign s.Equal ∷ expr ∷ sign s.Semicolon ∷ []))
on_initial_stmt (k.Symbol s.OpenBrace) =
    take 1 ((target, 1) ∷ (targets, 1) ∷ (sign s.Equal, 0) ∷ (expr, 0) ∷ (sign s.Semicolon, 0) ∷ [])
on_initial_stmt t = bad

-- {istmt} "end"
abbrev pub on_initial_stmts : Kind → Moves
on_initial_stmts (k.Keyword w.End) = take 0 []
on_initial_stmts t = many initial_stmts (on_initial_stmt t)

-- Items

abbrev pub on_item_word : Keyword → Moves
on_item_word w.Wire = take 0 (row (shape ∷ declared_name ∷ declared_names ∷ []))
on_item_word w.Reg = take 0 (row (shape ∷ declared_name ∷ declared_names ∷ []))
on_item_word w.Integer = take 0 (row (declared_name ∷ declared_names ∷ []))
on_item_word w.Genvar = take 0 (row (name ∷ names ∷ []))
on_item_word w.Parameter = take 0 (row (parameter ++ parameters ∷ []))
on_item_word w.Localparam = take 0 (row (parameter ++ parameters ∷ []))
on_item_word w.Assign = take 0 (row (assignment ++ assignments ∷ []))
on_item_word w.Always = take 0 (row (sign s.At ∷ event ∷ stmt ∷ []))
on_item_word w.Initial = take 0 ((initial_stmt, 0) ∷ [])
on_item_word w.Generate = take 0 ((items endgenerate, 0) ∷ [])
on_item_word w.For = take 1 ((loop_head, 1) ∷ (generate_block, 1) ∷ [])
on_item_word w.If = take 1 ((in_parens, 1) ∷ (generate_block, 1) ∷ (generate_otherwise, 1) ∷ [])
on_item_word found = bad

-- an item without attributes
abbrev pub on_bare_item : Kind → Moves
on_bare_item (k.Keyword found) = on_item_word found
on_bare_item (k.Name text) = take 0 ((overrides, 0) ∷ [])
on_bare_item t = bad

-- attrs item
abbrev pub on_item : Kind → Moves
on_item (k.Symbol s.OpenAttribute) = attributed item
on_item t = on_bare_item t

abbrev pub on_items_word : Ending → Keyword → Moves
on_items_word endmodule w.Endmodule = take 0 []
on_items_word endgenerate w.Endgenerate = take 0 []
on_items_word end w.End = take 0 []
on_items_word ending found = many (items ending) (on_item_word found)

-- {attrs item} and the word at the end
abbrev pub on_items : Ending → Kind → Moves
on_items ending (k.Keyword found) = on_items_word ending found
on_items ending t = many (items ending) (on_item t)

abbrev pub on_assignments : Kind → Moves
on_assignments (k.Symbol s.Comma) = take 0 (row (assignment ++ assignments ∷ []))
on_assignments (k.Symbol s.Semicolon) = take 0 []
on_assignments t = bad

abbrev pub on_event : Kind → Moves
on_event (k.Symbol s.Star) = take 0 []
on_event (k.Symbol s.OpenAttribute) = take 1 ((sign s.CloseParen, 0) ∷ [])
on_event (k.Symbol s.OpenParen) = take 1 ((event_inside, 1) ∷ [])
on_event t = bad

abbrev pub on_event_inside : Kind → Moves
on_event_inside (k.Symbol s.Star) = take 0 ((sign s.CloseParen, 0) ∷ [])
on_event_inside (k.Symbol s.CloseAttribute) = take 0 []
on_event_inside (k.Keyword w.Posedge) = take 0 ((name, 0) ∷ (sign s.CloseParen, 0) ∷ [])
on_event_inside t = bad

-- ["#" "(" [conn {"," conn}] ")"] NAME "(" [conn {"," conn}] ")" ";"
abbrev pub on_overrides : Kind → Moves
on_overrides (k.Symbol s.Hash) = take 0 (row (connections ∷ name ∷ connections ∷ sign s.Semicolon ∷ []))
on_overrides (k.Name text) = take 0 (row (connections ∷ sign s.Semicolon ∷ []))
on_overrides t = bad

-- "(" [conn {"," conn}] ")"
abbrev pub on_connections : Kind → Moves
on_connections (k.Symbol s.OpenParen) = take 1 ((first_connection, 1) ∷ [])
on_connections t = bad

abbrev pub on_first_connection : Kind → Moves
on_first_connection (k.Symbol s.CloseParen) = take 0 []
on_first_connection (k.Symbol s.Dot) = take 0 (row (name ∷ connected ∷ more_connections ∷ []))
on_first_connection t = bad

abbrev pub on_connection : Kind → Moves
on_connection (k.Symbol s.Dot) = take 0 (row (name ∷ connected ∷ []))
on_connection t = bad

abbrev pub on_more_connections : Kind → Moves
on_more_connections (k.Symbol s.Comma) = take 0 (row (connection ∷ more_connections ∷ []))
on_more_connections (k.Symbol s.CloseParen) = take 0 []
on_more_connections t = bad

-- "(" [expr] ")"
abbrev pub on_connected : Kind → Moves
on_connected (k.Symbol s.OpenParen) = take 1 ((connected_value, 1) ∷ [])
on_connected t = bad

abbrev pub on_connected_value : Kind → Moves
on_connected_value (k.Symbol s.CloseParen) = take 0 []
on_connected_value t = many (sign s.CloseParen) (on_operand plain 0 0 t)

abbrev pub on_loop_head : Kind → Moves
on_loop_head (k.Symbol s.OpenParen) = take 1 ((loop_variable, 1) ∷ [])
on_loop_head t = bad

-- both names in the head of a loop are equal
abbrev pub behind_variable : List ℕ → List Rule
behind_variable text =
    sign s.Equal ∷ expr ∷ sign s.Semicolon ∷ expr ∷ sign s.Semicolon ∷ this_name text ∷ sign s.Equal
    ∷ expr
    ∷ sign s.CloseParen ∷ []

abbrev pub on_loop_variable : Kind → Moves
on_loop_variable (k.Name text) = take 0 (row (behind_variable text))
on_loop_variable t = bad

-- "begin" [":" NAME] {attrs item} "end" | item
abbrev pub on_generate_block : Kind → Moves
on_generate_block (k.Keyword w.Begin) = take 1 ((generate_block_label, 1) ∷ [])
on_generate_block t = on_bare_item t

abbrev pub on_generate_block_label : Kind → Moves
on_generate_block_label (k.Symbol s.Colon) = take 0 (row (name ∷ items end ∷ []))
on_generate_block_label t = on_items end t

-- ["else" gblock]
abbrev pub on_generate_otherwise : Kind → Moves
on_generate_otherwise (k.Keyword w.Else) = take 0 ((generate_block, 0) ∷ [])
on_generate_otherwise t = pop

-- Modules

abbrev pub on_modules : Kind → Moves
on_modules (k.Keyword w.Module) = take 0 (row (name ∷ module_head ∷ items endmodule ∷ modules ∷ []))
on_modules t = bad

-- ["#" "(" params ")"] ["(" [port {"," port}] ")"] ";"
abbrev pub on_module_head : Kind → Moves
on_module_head (k.Symbol s.Hash) = take 0 (row (header_parameters ∷ module_ports ∷ []))
on_module_head (k.Symbol s.OpenParen) = take 1 ((first_port, 1) ∷ (sign s.Semicolon, 0) ∷ [])
on_module_head (k.Symbol s.Semicolon) = take 0 []
on_module_head t = bad

abbrev pub on_module_ports : Kind → Moves
on_module_ports (k.Symbol s.OpenParen) = take 1 ((first_port, 1) ∷ (sign s.Semicolon, 0) ∷ [])
on_module_ports (k.Symbol s.Semicolon) = take 0 []
on_module_ports t = bad

-- "(" "parameter" pdef {"," ["parameter"] pdef} ")"
abbrev pub on_header_parameters : Kind → Moves
on_header_parameters (k.Symbol s.OpenParen) =
    take 1 ((the_parameter, 1) ∷ (shape, 1) ∷ (name, 1) ∷ (sign s.Equal, 1) ∷ (expr, 1)
    ∷ (more_header_parameters, 1)
    ∷ [])
on_header_parameters t = bad

abbrev pub on_more_header_parameters : Kind → Moves
on_more_header_parameters (k.Symbol s.Comma) =
    take 0 (row (optional_parameter ∷ parameter ++ more_header_parameters ∷ []))
on_more_header_parameters (k.Symbol s.CloseParen) = take 0 []
on_more_header_parameters t = bad

abbrev pub on_optional_parameter : Kind → Moves
on_optional_parameter (k.Keyword w.Parameter) = take 0 []
on_optional_parameter t = pop

-- attrs ("input" | "output") ["wire" | "reg"] ["signed"] [range] NAME ["=" expr]
abbrev pub on_full_port : Kind → Moves
on_full_port (k.Symbol s.OpenAttribute) = attributed full_port
on_full_port (k.Keyword w.Input) = take 0 (row (net ∷ shape ∷ name ∷ value ∷ []))
on_full_port (k.Keyword w.Output) = take 0 (row (net ∷ shape ∷ name ∷ value ∷ []))
on_full_port t = bad

abbrev pub on_first_port : Kind → Moves
on_first_port (k.Symbol s.CloseParen) = take 0 []
on_first_port t = many more_ports (on_full_port t)

-- a name alone takes the direction and the shape of the port before it
abbrev pub on_port : Kind → Moves
on_port (k.Name text) = take 0 ((value, 0) ∷ [])
on_port t = on_full_port t

abbrev pub on_more_ports : Kind → Moves
on_more_ports (k.Symbol s.Comma) = take 0 (row (port ∷ more_ports ∷ []))
on_more_ports (k.Symbol s.CloseParen) = take 0 []
on_more_ports t = bad

-- ["wire" | "reg"]
abbrev pub on_net : Kind → Moves
on_net (k.Keyword w.Wire) = take 0 []
on_net (k.Keyword w.Reg) = take 0 []
on_net t = pop

abbrev pub expand : Rule → Kind → Moves
expand (sign wanted) t = on_sign wanted t
expand the_parameter t = on_parameter_word t
expand name t = on_name t
expand (this_name text) t = on_this_name text t
expand (operand stand colons opened) t = on_operand stand colons opened t
expand (more stand colons opened) t = on_more stand colons opened t
expand selects t = on_selects t
expand select_end t = on_select_end t
expand parts t = on_parts t
expand in_parens t = on_in_parens t
expand value t = on_value t
expand target t = on_target t
expand targets t = on_targets t
expand attributes t = on_attributes t
expand range t = on_range t
expand shape t = on_shape t
expand declared_name t = on_declared_name t
expand declared_names t = on_declared_names t
expand names t = on_names t
expand parameters t = on_parameters t
expand stmt t = on_stmt t
expand stmts t = on_stmts t
expand block t = on_block t
expand otherwise t = on_otherwise t
expand assign_sign t = on_assign_sign t
expand (first_arm kind) t = on_arm kind false t
expand (arms kind has_default) t = on_arms kind has_default t
expand (label kind) t = on_label kind t
expand (labels kind) t = on_labels kind t
expand behind_default t = on_behind_default t
expand initial_stmt t = on_initial_stmt t
expand initial_stmts t = on_initial_stmts t
expand item t = on_item t
expand (items ending) t = on_items ending t
expand assignments t = on_assignments t
expand event t = on_event t
expand event_inside t = on_event_inside t
expand overrides t = on_overrides t
expand connections t = on_connections t
expand first_connection t = on_first_connection t
expand connection t = on_connection t
expand more_connections t = on_more_connections t
expand connected t = on_connected t
expand connected_value t = on_connected_value t
expand loop_head t = on_loop_head t
expand loop_variable t = on_loop_variable t
expand generate_block t = on_generate_block t
expand generate_block_label t = on_generate_block_label t
expand generate_otherwise t = on_generate_otherwise t
expand modules t = on_modules t
expand module_head t = on_module_head t
expand module_ports t = on_module_ports t
expand header_parameters t = on_header_parameters t
expand more_header_parameters t = on_more_header_parameters t
expand optional_parameter t = on_optional_parameter t
expand first_port t = on_first_port t
expand port t = on_port t
expand more_ports t = on_more_ports t
expand full_port t = on_full_port t
expand net t = on_net t

-- may be left out at the end of the text
abbrev pub ends : Rule → Bool
ends (more plain zero opened) = true
ends selects = true
ends value = true
ends range = true
ends shape = true
ends otherwise = true
ends generate_otherwise = true
ends optional_parameter = true
ends net = true
ends modules = true
ends x = false

abbrev pub Outcome : Type 0
Outcome = Result (List Kind) Fault

-- what is behind the tokens of the rules, where so many constructs may still open
unfoldable pub read_all : List Rule → ℕ → List Kind → Outcome
read_all xs room ts = machine.reads expand ends (map (λ x. (x, room)) xs) ts

unfoldable pub read : Rule → ℕ → List Kind → Outcome
read x room ts = machine.reads expand ends ((x, room) ∷ []) ts

-- a text: no more than 256 constructs may be open at a token
abbrev pub start : Row Rule
start = (modules, 256) ∷ []

abbrev pub run : List Kind → Result (Unit {0}) Fault
run ts = machine.run expand ends start ts

-- without a bound: the tokens are a text of the grammar
abbrev pub accepts : List Rule → List Kind → Bool
accepts xs ts = machine.accepts expand ends xs ts
