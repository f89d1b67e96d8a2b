-- What comes behind each rule of expressions, declarations and statements in a row may come there.
use Rattle.std.proofs.Common.{ℕ, zero, suc, Bool, true, false, ◌==◌, List, [], ◌∷◌, Option, Some, None, refl}
use Rattle.fv_text.specs.declared.keyword.Keyword.{Keyword}
use Rattle.fv_text.specs.declared.keyword.Keyword.TheVariants as w
use Rattle.fv_text.specs.declared.kind.Kind.{Kind}
use Rattle.fv_text.specs.declared.kind.Kind.TheVariants as k
use Rattle.fv_text.specs.declared.number.Number.{Number}
use Rattle.fv_text.specs.declared.symbol.Symbol.{Symbol}
use Rattle.fv_text.specs.declared.symbol.Symbol.TheVariants as s
use Rattle.vl_tree.specs.declared.operator.BinaryOperator.{BinaryOperator}
use Rattle.vl_tree.specs.declared.operator.UnaryOperator.{UnaryOperator}
use Rattle.vl_tree.specs.declared.operator.Cast.{Cast}
use Rattle.vl_tree.specs.declared.stmt.CaseKind.{CaseKind}
use Rattle.vl_tree.specs.declared.stmt.CaseKind.TheVariants as c
use Rattle.std.specs.Prelude.{bytes_eq}
use Rattle.vl_parse_grammar.specs.Signs.{same_sign}
use Rattle.vl_parse_grammar.specs.Operators.{unary_of, binary_of, cast_of}
use Rattle.vl_parse_grammar.specs.Machine.{take}
use Rattle.vl_parse_grammar.specs.Grammar.{
  Rule,
  Stand,
  Ending,
  Moves,
  expand,
  ends,
  plain,
  first_in_braces,
  endmodule,
  endgenerate,
  end,
  sign,
  the_parameter,
  name,
  this_name,
  operand,
  more,
  selects,
  select_end,
  parts,
  in_parens,
  value,
  target,
  targets,
  attributes,
  range,
  shape,
  declared_name,
  declared_names,
  names,
  parameters,
  stmt,
  stmts,
  block,
  otherwise,
  assign_sign,
  first_arm,
  arms,
  label,
  labels,
  behind_default,
  initial_stmt,
  initial_stmts,
  item,
  items,
  assignments,
  event,
  event_inside,
  overrides,
  connections,
  first_connection,
  connection,
  more_connections,
  connected,
  connected_value,
  loop_head,
  loop_variable,
  generate_block,
  generate_block_label,
  generate_otherwise,
  modules,
  module_head,
  module_ports,
  header_parameters,
  more_header_parameters,
  optional_parameter,
  first_port,
  port,
  more_ports,
  full_port,
  net,
}
use Rattle.vl_parse_grammar.specs.Grammar as g
use Rattle.vl_parse_grammar.proofs.Named.{on}
use Rattle.vl_parse_grammar.proofs.Viable as viable
use Rattle.vl_parse_grammar.proofs.Words.{word, left_out, follow, follow_expr, sound}

abbrev pub Fit : Moves → ℕ → Type 0
Fit m b = viable.Fit on ends word follow left_out sound m b

pub fit_if : (b : Bool) (c : ℕ) → Fit (g.take_if b) c
fit_if true c = refl
fit_if false c = tt

pub fit_sign : (x : Symbol) (t : Kind) → Fit (g.on_sign x t) 0
fit_sign x (k.Symbol y) = fit_if (same_sign x y) 0
fit_sign x t = tt

pub fit_parameter_word : (t : Kind) → Fit (g.on_parameter_word t) 0
fit_parameter_word (k.Keyword w.Parameter) = refl
fit_parameter_word (k.Keyword x) = tt
fit_parameter_word t = tt

pub fit_name : (t : Kind) → Fit (g.on_name t) 0
fit_name (k.Name text) = refl
fit_name t = tt

pub fit_this_name : (text : List ℕ) (t : Kind) → Fit (g.on_this_name text t) 0
fit_this_name wanted (k.Name text) = fit_if (bytes_eq text wanted) 0
fit_this_name wanted t = tt

-- behind an operand
pub fit_more_only : (stand : Stand) (colons opened n : ℕ)
    → Fit (take n ((more stand colons opened, 0) ∷ [])) (follow_expr stand)
fit_more_only plain colons opened n = refl
fit_more_only first_in_braces colons opened n = refl

pub fit_name_operand : (stand : Stand) (colons opened : ℕ)
    → Fit (take 0 ((selects, opened) ∷ (more stand colons opened, 0) ∷ [])) (follow_expr stand)
fit_name_operand plain zero opened = refl
fit_name_operand plain (suc colons) opened = refl
fit_name_operand first_in_braces zero opened = refl
fit_name_operand first_in_braces (suc colons) opened = refl

pub fit_operand_only : (stand : Stand) (colons opened n : ℕ)
    → Fit (take n ((operand stand colons opened, 0) ∷ [])) (follow_expr stand)
fit_operand_only plain colons opened n = refl
fit_operand_only first_in_braces colons opened n = refl

pub fit_cast : (stand : Stand) (colons opened : ℕ) (o : Option Cast)
    → Fit (g.on_cast stand colons opened o) (follow_expr stand)
fit_cast plain colons opened (Some cast) = refl
fit_cast first_in_braces colons opened (Some cast) = refl
fit_cast stand colons opened None = tt

pub fit_unary : (stand : Stand) (colons opened : ℕ) (o : Option UnaryOperator)
    → Fit (g.on_unary stand colons opened o) (follow_expr stand)
fit_unary stand colons opened (Some op) = fit_operand_only stand colons (suc opened) (suc opened)
fit_unary stand colons opened None = tt

pub fit_operand_sign : (stand : Stand) (colons opened : ℕ) (x : Symbol)
    → Fit (g.on_operand_sign stand colons opened x) (follow_expr stand)
fit_operand_sign plain colons opened s.OpenParen = refl
fit_operand_sign first_in_braces colons opened s.OpenParen = refl
fit_operand_sign plain colons opened s.OpenBrace = refl
fit_operand_sign first_in_braces colons opened s.OpenBrace = refl
fit_operand_sign stand colons opened x = fit_unary stand colons opened (unary_of x)

pub fit_known : (b : Bool) (m : Moves) (c : ℕ) → Fit m c → Fit (g.if_known b m) c
fit_known true m c h = h
fit_known false m c h = tt

pub fit_operand : (stand : Stand) (colons opened : ℕ) (t : Kind)
    → Fit (g.on_operand stand colons opened t) (follow_expr stand)
fit_operand stand colons opened (k.Number n) =
    fit_known (g.is_known n) (take 0 ((more stand colons opened, 0) ∷ [])) (follow_expr stand)
    (fit_more_only stand colons opened 0)
fit_operand stand colons opened (k.Name text) = fit_name_operand stand colons opened
fit_operand stand colons opened (k.System text) = fit_cast stand colons opened (cast_of text)
fit_operand stand colons opened (k.Symbol x) = fit_operand_sign stand colons opened x
fit_operand stand colons opened t = tt

pub fit_end : (stand : Stand) (opened : ℕ) (x : Symbol) → Fit (g.on_end stand opened x) (follow_expr stand)
fit_end plain opened x = tt
fit_end first_in_braces opened s.Comma = refl
fit_end first_in_braces opened s.CloseBrace = refl
fit_end first_in_braces opened s.OpenBrace = refl
fit_end first_in_braces opened x = tt

pub fit_no_operator : (stand : Stand) (colons opened : ℕ) (x : Symbol)
    → Fit (g.on_no_operator stand colons opened x) (follow_expr stand)
fit_no_operator stand colons opened s.Question = fit_operand_only stand (suc colons) (suc opened) (suc opened)
fit_no_operator stand (suc colons) opened s.Colon = fit_operand_only stand colons opened 0
fit_no_operator stand (suc colons) opened x = tt
fit_no_operator stand zero opened x = fit_end stand opened x

pub fit_binary : (stand : Stand) (colons opened : ℕ) (x : Symbol) (o : Option BinaryOperator)
    → Fit (g.on_binary stand colons opened x o) (follow_expr stand)
fit_binary stand colons opened x (Some op) = fit_operand_only stand colons (suc opened) (suc opened)
fit_binary stand colons opened x None = fit_no_operator stand colons opened x

pub fit_more : (stand : Stand) (colons opened : ℕ) (t : Kind)
    → Fit (g.on_more stand colons opened t) (follow_expr stand)
fit_more stand colons opened (k.Symbol x) = fit_binary stand colons opened x (binary_of x)
fit_more plain zero opened t = tt
fit_more plain (suc colons) opened t = tt
fit_more first_in_braces colons opened t = tt

pub fit_selects : (t : Kind) → Fit (g.on_selects t) 1
fit_selects (k.Symbol s.OpenBracket) = refl
fit_selects t = tt

pub fit_select_end : (t : Kind) → Fit (g.on_select_end t) 0
fit_select_end (k.Symbol s.CloseBracket) = refl
fit_select_end (k.Symbol s.Colon) = refl
fit_select_end (k.Symbol s.PlusColon) = refl
fit_select_end t = tt

pub fit_parts : (t : Kind) → Fit (g.on_parts t) 0
fit_parts (k.Symbol s.Comma) = refl
fit_parts (k.Symbol s.CloseBrace) = refl
fit_parts t = tt

pub fit_in_parens : (t : Kind) → Fit (g.on_in_parens t) 0
fit_in_parens (k.Symbol s.OpenParen) = refl
fit_in_parens t = tt

pub fit_value : (t : Kind) → Fit (g.on_value t) 4
fit_value (k.Symbol s.Equal) = refl
fit_value t = tt

pub fit_target : (t : Kind) → Fit (g.on_target t) 1
fit_target (k.Name text) = refl
fit_target (k.Symbol s.OpenBrace) = refl
fit_target t = tt

pub fit_targets : (t : Kind) → Fit (g.on_targets t) 0
fit_targets (k.Symbol s.Comma) = refl
fit_targets (k.Symbol s.CloseBrace) = refl
fit_targets t = tt

pub fit_attributes : (t : Kind) → Fit (g.on_attributes t) 0
fit_attributes (k.Symbol s.Comma) = refl
fit_attributes (k.Symbol s.CloseAttribute) = refl
fit_attributes t = tt

pub fit_range : (t : Kind) → Fit (g.on_range t) 3
fit_range (k.Symbol s.OpenBracket) = refl
fit_range t = tt

pub fit_shape : (t : Kind) → Fit (g.on_shape t) 6
fit_shape (k.Keyword w.Signed) = refl
fit_shape (k.Symbol s.OpenBracket) = refl
fit_shape t = tt

pub fit_declared_name : (t : Kind) → Fit (g.on_declared_name t) 4
fit_declared_name (k.Name text) = refl
fit_declared_name t = tt

pub fit_declared_names : (t : Kind) → Fit (g.on_declared_names t) 0
fit_declared_names (k.Symbol s.Comma) = refl
fit_declared_names (k.Symbol s.Semicolon) = refl
fit_declared_names t = tt

pub fit_names : (t : Kind) → Fit (g.on_names t) 0
fit_names (k.Symbol s.Comma) = refl
fit_names (k.Symbol s.Semicolon) = refl
fit_names t = tt

pub fit_parameters : (t : Kind) → Fit (g.on_parameters t) 0
fit_parameters (k.Symbol s.Comma) = refl
fit_parameters (k.Symbol s.Semicolon) = refl
fit_parameters t = tt

pub fit_stmt_word : (x : Keyword) → Fit (g.on_stmt_word x) 8
fit_stmt_word w.Begin = refl
fit_stmt_word w.If = refl
fit_stmt_word w.Case = refl
fit_stmt_word w.Casez = refl
fit_stmt_word w.Assume = refl
fit_stmt_word x = tt

pub fit_stmt_sign : (x : Symbol) → Fit (g.on_stmt_sign x) 8
fit_stmt_sign s.OpenAttribute = refl
fit_stmt_sign s.OpenBrace = refl
fit_stmt_sign s.Semicolon = refl
fit_stmt_sign x = tt

pub fit_stmt : (t : Kind) → Fit (g.on_stmt t) 8
fit_stmt (k.Keyword x) = fit_stmt_word x
fit_stmt (k.Symbol x) = fit_stmt_sign x
fit_stmt (k.Name text) = refl
fit_stmt t = tt

pub fit_stmts : (t : Kind) → Fit (g.on_stmts t) 0
fit_stmts (k.Keyword w.End) = refl
fit_stmts (k.Keyword w.Begin) = refl
fit_stmts (k.Keyword w.If) = refl
fit_stmts (k.Keyword w.Case) = refl
fit_stmts (k.Keyword w.Casez) = refl
fit_stmts (k.Keyword w.Assume) = refl
fit_stmts (k.Symbol s.OpenAttribute) = refl
fit_stmts (k.Symbol s.OpenBrace) = refl
fit_stmts (k.Symbol s.Semicolon) = refl
fit_stmts (k.Name text) = refl
fit_stmts t = tt

pub fit_block : (t : Kind) → Fit (g.on_block t) 0
fit_block (k.Symbol s.Colon) = refl
fit_block (k.Keyword x) = fit_stmts (k.Keyword x)
fit_block (k.Symbol x) = fit_stmts (k.Symbol x)
fit_block t = fit_stmts t

pub fit_otherwise : (t : Kind) → Fit (g.on_otherwise t) 8
fit_otherwise (k.Keyword w.Else) = refl
fit_otherwise t = tt

pub fit_assign_sign : (t : Kind) → Fit (g.on_assign_sign t) 0
fit_assign_sign (k.Symbol s.Equal) = refl
fit_assign_sign (k.Symbol s.LessEqual) = refl
fit_assign_sign t = tt

pub fit_inside : (t : Kind) (kind : CaseKind) (d : Bool) → Fit (g.arm_with kind d (g.on_operand plain 0 0 t)) 0
fit_inside (k.Number n) kind d = by_known (g.is_known n)
  where
    by_known : (b : Bool) → Fit (g.arm_with kind d (g.if_known b (take 0 ((more plain 0 0, 0) ∷ [])))) 0
    by_known true = refl
    by_known false = tt
fit_inside (k.Name text) kind d = refl
fit_inside (k.System text) kind d = by_cast (cast_of text)
  where
    by_cast : (o : Option Cast) → Fit (g.arm_with kind d (g.on_cast plain 0 0 o)) 0
    by_cast (Some cast) = refl
    by_cast None = tt
fit_inside (k.Symbol s.OpenParen) kind d = refl
fit_inside (k.Symbol s.OpenBrace) kind d = refl
fit_inside (k.Symbol x) kind d = by_unary (unary_of x)
  where
    by_unary : (o : Option UnaryOperator) → Fit (g.arm_with kind d (g.on_unary plain 0 0 o)) 0
    by_unary (Some op) = refl
    by_unary None = tt
fit_inside t kind d = tt

pub fit_wild : (b : Bool) (kind : CaseKind) (d : Bool) → Fit (g.arm_with kind d (g.if_known b (take 0 []))) 0
fit_wild true kind d = refl
fit_wild false kind d = tt

pub fit_arm_number : (b : Bool) (n : Number) (d : Bool) → Fit (g.arm_with c.Casez d (g.on_casez_number b n)) 0
fit_arm_number true n d = fit_inside (k.Number n) c.Casez d
fit_arm_number false n d = fit_wild (n.unknown == 0) c.Casez d

pub fit_arm_label : (kind : CaseKind) (d : Bool) (t : Kind) → Fit (g.arm_with kind d (g.on_label kind t)) 0
fit_arm_label c.Casez d (k.Number n) = fit_arm_number (n.wild == 0) n d
fit_arm_label kind d t = fit_inside t kind d

pub fit_arm : (kind : CaseKind) (d : Bool) (t : Kind) → Fit (g.on_arm kind d t) 0
fit_arm kind false (k.Keyword w.Default) = refl
fit_arm kind d (k.Keyword x) = tt
fit_arm kind d t = fit_arm_label kind d t

pub fit_arms : (kind : CaseKind) (d : Bool) (t : Kind) → Fit (g.on_arms kind d t) 0
fit_arms kind d (k.Keyword w.Endcase) = refl
fit_arms kind d (k.Keyword x) = fit_arm kind d (k.Keyword x)
fit_arms kind d t = fit_arm kind d t

pub fit_known_number : (b : Bool) → Fit (g.if_known b (take 0 [])) 2
fit_known_number true = refl
fit_known_number false = tt

pub fit_label_number : (b : Bool) (n : Number) → Fit (g.on_casez_number b n) 2
fit_label_number true n = fit_operand plain 0 0 (k.Number n)
fit_label_number false n = fit_known_number (n.unknown == 0)

pub fit_label : (kind : CaseKind) (t : Kind) → Fit (g.on_label kind t) 2
fit_label c.Casez (k.Number n) = fit_label_number (n.wild == 0) n
fit_label kind t = fit_operand plain 0 0 t

pub fit_labels : (kind : CaseKind) (t : Kind) → Fit (g.on_labels kind t) 8
fit_labels kind (k.Symbol s.Comma) = refl
fit_labels kind (k.Symbol s.Colon) = refl
fit_labels kind t = tt

pub fit_behind_default : (t : Kind) → Fit (g.on_behind_default t) 8
fit_behind_default (k.Symbol s.Colon) = refl
fit_behind_default (k.Symbol x) = fit_stmt (k.Symbol x)
fit_behind_default t = fit_stmt t

pub fit_initial_stmt : (t : Kind) → Fit (g.on_initial_stmt t) 0
fit_initial_stmt (k.Keyword w.Begin) = refl
fit_initial_stmt (k.Name text) = refl
fit_initial_stmt (k.Symbol s.OpenBrace) = refl
fit_initial_stmt t = tt

pub fit_initial_stmts : (t : Kind) → Fit (g.on_initial_stmts t) 0
fit_initial_stmts (k.Keyword w.End) = refl
fit_initial_stmts (k.Keyword w.Begin) = refl
fit_initial_stmts (k.Name text) = refl
fit_initial_stmts (k.Symbol s.OpenBrace) = refl
fit_initial_stmts t = tt
