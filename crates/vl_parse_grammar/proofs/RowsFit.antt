-- What comes behind each rule in a row may come there, so that a state that is reached can be brought to its end.
use Rattle.std.proofs.Common.{◌≡◌, Bool, true, false, ◌&&◌, List, [], ◌∷◌, Option, Some, None, refl, ap}
use Rattle.fv_text.specs.declared.keyword.Keyword.{Keyword}
use Rattle.fv_text.specs.declared.keyword.Keyword.TheVariants as w
use Rattle.fv_text.specs.declared.kind.Kind.{Kind}
use Rattle.fv_text.specs.declared.kind.Kind.TheVariants as k
use Rattle.fv_text.specs.declared.symbol.Symbol.TheVariants as s
use Rattle.vl_tree.specs.declared.operator.UnaryOperator.{UnaryOperator}
use Rattle.vl_tree.specs.declared.operator.Cast.{Cast}
use Rattle.vl_parse_grammar.specs.Operators.{unary_of, cast_of}
use Rattle.vl_parse_grammar.specs.Machine as machine
use Rattle.vl_parse_grammar.specs.Machine.{take, pop, bad, symbols}
use Rattle.vl_parse_grammar.specs.Grammar.{
  Rule,
  Stand,
  Ending,
  Moves,
  expand,
  ends,
  plain,
  first_in_braces,
  endmodule,
  endgenerate,
  end,
  sign,
  the_parameter,
  name,
  this_name,
  operand,
  more,
  selects,
  select_end,
  parts,
  in_parens,
  value,
  target,
  targets,
  attributes,
  range,
  shape,
  declared_name,
  declared_names,
  names,
  parameters,
  stmt,
  stmts,
  block,
  otherwise,
  assign_sign,
  first_arm,
  arms,
  label,
  labels,
  behind_default,
  initial_stmt,
  initial_stmts,
  item,
  items,
  assignments,
  event,
  event_inside,
  overrides,
  connections,
  first_connection,
  connection,
  more_connections,
  connected,
  connected_value,
  loop_head,
  loop_variable,
  generate_block,
  generate_block_label,
  generate_otherwise,
  modules,
  module_head,
  module_ports,
  header_parameters,
  more_header_parameters,
  optional_parameter,
  first_port,
  port,
  more_ports,
  full_port,
  net,
}
use Rattle.vl_parse_grammar.specs.Grammar as g
use Rattle.vl_parse_grammar.proofs.Named.{Named, on, accepts}
use Rattle.vl_parse_grammar.proofs.Viable as viable
use Rattle.vl_parse_grammar.proofs.Words.{word, left_out, follow, sound}
use Rattle.vl_parse_grammar.proofs.Completions.{words_read}
use Rattle.vl_parse_grammar.proofs.StmtRowsFit.{Fit, fit_sign, fit_parameter_word, fit_name, fit_this_name, fit_operand}
use Rattle.vl_parse_grammar.proofs.StmtRowsFit.{fit_more, fit_selects, fit_select_end, fit_parts, fit_in_parens}
use Rattle.vl_parse_grammar.proofs.StmtRowsFit.{fit_value}
use Rattle.vl_parse_grammar.proofs.StmtRowsFit.{fit_target, fit_targets, fit_attributes, fit_range, fit_shape}
use Rattle.vl_parse_grammar.proofs.StmtRowsFit.{fit_declared_name, fit_declared_names, fit_names, fit_parameters}
use Rattle.vl_parse_grammar.proofs.StmtRowsFit.{fit_stmt}
use Rattle.vl_parse_grammar.proofs.StmtRowsFit.{fit_stmts, fit_block, fit_otherwise, fit_assign_sign, fit_arm, fit_arms}
use Rattle.vl_parse_grammar.proofs.StmtRowsFit.{fit_label, fit_labels, fit_behind_default, fit_initial_stmt}
use Rattle.vl_parse_grammar.proofs.StmtRowsFit.{fit_initial_stmts}

fit_item_word : (x : Keyword) → Fit (g.on_item_word x) 9
fit_item_word w.Wire = refl
fit_item_word w.Reg = refl
fit_item_word w.Integer = refl
fit_item_word w.Genvar = refl
fit_item_word w.Parameter = refl
fit_item_word w.Localparam = refl
fit_item_word w.Assign = refl
fit_item_word w.Always = refl
fit_item_word w.Initial = refl
fit_item_word w.Generate = refl
fit_item_word w.For = refl
fit_item_word w.If = refl
fit_item_word x = tt

fit_bare_item : (t : Kind) → Fit (g.on_bare_item t) 9
fit_bare_item (k.Keyword x) = fit_item_word x
fit_bare_item (k.Name text) = refl
fit_bare_item t = tt

fit_item : (t : Kind) → Fit (g.on_item t) 9
fit_item (k.Symbol s.OpenAttribute) = refl
fit_item (k.Symbol x) = tt
fit_item t = fit_bare_item t

fit_many_items : (ending : Ending) (x : Keyword) → Fit (g.many (items ending) (g.on_item_word x)) 0
fit_many_items endmodule w.Wire = refl
fit_many_items endmodule w.Reg = refl
fit_many_items endmodule w.Integer = refl
fit_many_items endmodule w.Genvar = refl
fit_many_items endmodule w.Parameter = refl
fit_many_items endmodule w.Localparam = refl
fit_many_items endmodule w.Assign = refl
fit_many_items endmodule w.Always = refl
fit_many_items endmodule w.Initial = refl
fit_many_items endmodule w.Generate = refl
fit_many_items endmodule w.For = refl
fit_many_items endmodule w.If = refl
fit_many_items endgenerate w.Wire = refl
fit_many_items endgenerate w.Reg = refl
fit_many_items endgenerate w.Integer = refl
fit_many_items endgenerate w.Genvar = refl
fit_many_items endgenerate w.Parameter = refl
fit_many_items endgenerate w.Localparam = refl
fit_many_items endgenerate w.Assign = refl
fit_many_items endgenerate w.Always = refl
fit_many_items endgenerate w.Initial = refl
fit_many_items endgenerate w.Generate = refl
fit_many_items endgenerate w.For = refl
fit_many_items endgenerate w.If = refl
fit_many_items end w.Wire = refl
fit_many_items end w.Reg = refl
fit_many_items end w.Integer = refl
fit_many_items end w.Genvar = refl
fit_many_items end w.Parameter = refl
fit_many_items end w.Localparam = refl
fit_many_items end w.Assign = refl
fit_many_items end w.Always = refl
fit_many_items end w.Initial = refl
fit_many_items end w.Generate = refl
fit_many_items end w.For = refl
fit_many_items end w.If = refl
fit_many_items ending x = tt

fit_items_word : (ending : Ending) (x : Keyword) → Fit (g.on_items_word ending x) 0
fit_items_word endmodule w.Endmodule = refl
fit_items_word endgenerate w.Endgenerate = refl
fit_items_word end w.End = refl
fit_items_word ending x = fit_many_items ending x

fit_items : (ending : Ending) (t : Kind) → Fit (g.on_items ending t) 0
fit_items ending (k.Keyword x) = fit_items_word ending x
fit_items endmodule (k.Symbol s.OpenAttribute) = refl
fit_items endgenerate (k.Symbol s.OpenAttribute) = refl
fit_items end (k.Symbol s.OpenAttribute) = refl
fit_items endmodule (k.Name text) = refl
fit_items endgenerate (k.Name text) = refl
fit_items end (k.Name text) = refl
fit_items ending t = tt

fit_assignments : (t : Kind) → Fit (g.on_assignments t) 0
fit_assignments (k.Symbol s.Comma) = refl
fit_assignments (k.Symbol s.Semicolon) = refl
fit_assignments t = tt

fit_event : (t : Kind) → Fit (g.on_event t) 0
fit_event (k.Symbol s.Star) = refl
fit_event (k.Symbol s.OpenAttribute) = refl
fit_event (k.Symbol s.OpenParen) = refl
fit_event t = tt

fit_event_inside : (t : Kind) → Fit (g.on_event_inside t) 0
fit_event_inside (k.Symbol s.Star) = refl
fit_event_inside (k.Symbol s.CloseAttribute) = refl
fit_event_inside (k.Keyword w.Posedge) = refl
fit_event_inside t = tt

fit_overrides : (t : Kind) → Fit (g.on_overrides t) 0
fit_overrides (k.Symbol s.Hash) = refl
fit_overrides (k.Name text) = refl
fit_overrides t = tt

fit_connections : (t : Kind) → Fit (g.on_connections t) 0
fit_connections (k.Symbol s.OpenParen) = refl
fit_connections t = tt

fit_first_connection : (t : Kind) → Fit (g.on_first_connection t) 0
fit_first_connection (k.Symbol s.CloseParen) = refl
fit_first_connection (k.Symbol s.Dot) = refl
fit_first_connection t = tt

fit_connection : (t : Kind) → Fit (g.on_connection t) 0
fit_connection (k.Symbol s.Dot) = refl
fit_connection t = tt

fit_more_connections : (t : Kind) → Fit (g.on_more_connections t) 0
fit_more_connections (k.Symbol s.Comma) = refl
fit_more_connections (k.Symbol s.CloseParen) = refl
fit_more_connections t = tt

fit_connected : (t : Kind) → Fit (g.on_connected t) 0
fit_connected (k.Symbol s.OpenParen) = refl
fit_connected t = tt

fit_in_value : (t : Kind) → Fit (g.many (sign s.CloseParen) (g.on_operand plain 0 0 t)) 0
fit_in_value (k.Number n) = by_known (g.is_known n)
  where
    by_known : (b : Bool) → Fit (g.many (sign s.CloseParen) (g.if_known b (take 0 ((more plain 0 0, 0) ∷ [])))) 0
    by_known true = refl
    by_known false = tt
fit_in_value (k.Name text) = refl
fit_in_value (k.System text) = by_cast (cast_of text)
  where
    by_cast : (o : Option Cast) → Fit (g.many (sign s.CloseParen) (g.on_cast plain 0 0 o)) 0
    by_cast (Some cast) = refl
    by_cast None = tt
fit_in_value (k.Symbol s.OpenParen) = refl
fit_in_value (k.Symbol s.OpenBrace) = refl
fit_in_value (k.Symbol x) = by_unary (unary_of x)
  where
    by_unary : (o : Option UnaryOperator) → Fit (g.many (sign s.CloseParen) (g.on_unary plain 0 0 o)) 0
    by_unary (Some op) = refl
    by_unary None = tt
fit_in_value t = tt

fit_connected_value : (t : Kind) → Fit (g.on_connected_value t) 0
fit_connected_value (k.Symbol s.CloseParen) = refl
fit_connected_value (k.Symbol x) = fit_in_value (k.Symbol x)
fit_connected_value t = fit_in_value t

fit_loop_head : (t : Kind) → Fit (g.on_loop_head t) 0
fit_loop_head (k.Symbol s.OpenParen) = refl
fit_loop_head t = tt

-- the name that has to come again is a name
fit_loop_variable : (t : Named) → Fit (g.on_loop_variable t.0) 0
fit_loop_variable (k.Name text, e) = ap (λ b. b && true) e
fit_loop_variable t = tt

fit_generate_block : (t : Kind) → Fit (g.on_generate_block t) 9
fit_generate_block (k.Keyword w.Begin) = refl
fit_generate_block (k.Keyword x) = fit_item_word x
fit_generate_block t = fit_bare_item t

fit_generate_block_label : (t : Kind) → Fit (g.on_generate_block_label t) 0
fit_generate_block_label (k.Symbol s.Colon) = refl
fit_generate_block_label (k.Symbol x) = fit_items end (k.Symbol x)
fit_generate_block_label t = fit_items end t

fit_generate_otherwise : (t : Kind) → Fit (g.on_generate_otherwise t) 9
fit_generate_otherwise (k.Keyword w.Else) = refl
fit_generate_otherwise t = tt

fit_modules : (t : Kind) → Fit (g.on_modules t) 10
fit_modules (k.Keyword w.Module) = refl
fit_modules t = tt

fit_module_head : (t : Kind) → Fit (g.on_module_head t) 0
fit_module_head (k.Symbol s.Hash) = refl
fit_module_head (k.Symbol s.OpenParen) = refl
fit_module_head (k.Symbol s.Semicolon) = refl
fit_module_head t = tt

fit_module_ports : (t : Kind) → Fit (g.on_module_ports t) 0
fit_module_ports (k.Symbol s.OpenParen) = refl
fit_module_ports (k.Symbol s.Semicolon) = refl
fit_module_ports t = tt

fit_header_parameters : (t : Kind) → Fit (g.on_header_parameters t) 0
fit_header_parameters (k.Symbol s.OpenParen) = refl
fit_header_parameters t = tt

fit_more_header_parameters : (t : Kind) → Fit (g.on_more_header_parameters t) 0
fit_more_header_parameters (k.Symbol s.Comma) = refl
fit_more_header_parameters (k.Symbol s.CloseParen) = refl
fit_more_header_parameters t = tt

fit_optional_parameter : (t : Kind) → Fit (g.on_optional_parameter t) 7
fit_optional_parameter (k.Keyword w.Parameter) = refl
fit_optional_parameter t = tt

fit_full_port : (t : Kind) → Fit (g.on_full_port t) 4
fit_full_port (k.Symbol s.OpenAttribute) = refl
fit_full_port (k.Keyword w.Input) = refl
fit_full_port (k.Keyword w.Output) = refl
fit_full_port t = tt

fit_first_port : (t : Kind) → Fit (g.on_first_port t) 0
fit_first_port (k.Symbol s.CloseParen) = refl
fit_first_port (k.Symbol s.OpenAttribute) = refl
fit_first_port (k.Keyword w.Input) = refl
fit_first_port (k.Keyword w.Output) = refl
fit_first_port t = tt

fit_port : (t : Kind) → Fit (g.on_port t) 4
fit_port (k.Name text) = refl
fit_port t = fit_full_port t

fit_more_ports : (t : Kind) → Fit (g.on_more_ports t) 0
fit_more_ports (k.Symbol s.Comma) = refl
fit_more_ports (k.Symbol s.CloseParen) = refl
fit_more_ports t = tt

fit_net : (t : Kind) → Fit (g.on_net t) 5
fit_net (k.Keyword w.Wire) = refl
fit_net (k.Keyword w.Reg) = refl
fit_net t = tt

pub rows_fit : (x : Rule) (t : Named) → Fit (on x t) (follow x)
rows_fit (sign x) t = fit_sign x t.0
rows_fit the_parameter t = fit_parameter_word t.0
rows_fit name t = fit_name t.0
rows_fit (this_name text) t = fit_this_name text t.0
rows_fit (operand stand colons opened) t = fit_operand stand colons opened t.0
rows_fit (more stand colons opened) t = fit_more stand colons opened t.0
rows_fit (first_arm kind) t = fit_arm kind false t.0
rows_fit (arms kind d) t = fit_arms kind d t.0
rows_fit (label kind) t = fit_label kind t.0
rows_fit (labels kind) t = fit_labels kind t.0
rows_fit (items ending) t = fit_items ending t.0
rows_fit loop_variable t = fit_loop_variable t
rows_fit selects t = fit_selects t.0
rows_fit select_end t = fit_select_end t.0
rows_fit parts t = fit_parts t.0
rows_fit in_parens t = fit_in_parens t.0
rows_fit value t = fit_value t.0
rows_fit target t = fit_target t.0
rows_fit targets t = fit_targets t.0
rows_fit attributes t = fit_attributes t.0
rows_fit range t = fit_range t.0
rows_fit shape t = fit_shape t.0
rows_fit declared_name t = fit_declared_name t.0
rows_fit declared_names t = fit_declared_names t.0
rows_fit names t = fit_names t.0
rows_fit parameters t = fit_parameters t.0
rows_fit stmt t = fit_stmt t.0
rows_fit stmts t = fit_stmts t.0
rows_fit block t = fit_block t.0
rows_fit otherwise t = fit_otherwise t.0
rows_fit assign_sign t = fit_assign_sign t.0
rows_fit behind_default t = fit_behind_default t.0
rows_fit initial_stmt t = fit_initial_stmt t.0
rows_fit initial_stmts t = fit_initial_stmts t.0
rows_fit item t = fit_item t.0
rows_fit assignments t = fit_assignments t.0
rows_fit event t = fit_event t.0
rows_fit event_inside t = fit_event_inside t.0
rows_fit overrides t = fit_overrides t.0
rows_fit connections t = fit_connections t.0
rows_fit first_connection t = fit_first_connection t.0
rows_fit connection t = fit_connection t.0
rows_fit more_connections t = fit_more_connections t.0
rows_fit connected t = fit_connected t.0
rows_fit connected_value t = fit_connected_value t.0
rows_fit loop_head t = fit_loop_head t.0
rows_fit generate_block t = fit_generate_block t.0
rows_fit generate_block_label t = fit_generate_block_label t.0
rows_fit generate_otherwise t = fit_generate_otherwise t.0
rows_fit modules t = fit_modules t.0
rows_fit module_head t = fit_module_head t.0
rows_fit module_ports t = fit_module_ports t.0
rows_fit header_parameters t = fit_header_parameters t.0
rows_fit more_header_parameters t = fit_more_header_parameters t.0
rows_fit optional_parameter t = fit_optional_parameter t.0
rows_fit first_port t = fit_first_port t.0
rows_fit port t = fit_port t.0
rows_fit more_ports t = fit_more_ports t.0
rows_fit full_port t = fit_full_port t.0
rows_fit net t = fit_net t.0

-- each state that is reached from the start is brought to its end
pub goes_on : (before : List Named) (j : List Rule) → machine.free_after on (modules ∷ []) before ≡ Some j
    → accepts j (viable.finish on ends word follow left_out sound j) ≡ true
goes_on before j e =
    (viable.viable on ends word follow left_out sound rows_fit words_read (modules ∷ []) before j (tt, refl, tt) e).1
