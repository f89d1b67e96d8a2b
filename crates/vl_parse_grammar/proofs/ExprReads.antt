-- What a well formed expression spells is read as an expression.
use Rattle.std.proofs.Common.{◌≡◌, ℕ, suc, true, ◌&&◌, ◌==◌, List, [], ◌∷◌, Option, Some, None, refl, ap, ◌∙◌}
use Rattle.fv_text.specs.declared.kind.Kind.{Kind}
use Rattle.fv_text.specs.declared.kind.Kind.TheVariants as k
use Rattle.fv_text.specs.declared.number.Number.{Number}
use Rattle.fv_text.specs.declared.symbol.Symbol.{Symbol}
use Rattle.fv_text.specs.declared.symbol.Symbol.TheVariants as s
use Rattle.vl_tree.specs.declared.operator.UnaryOperator.{UnaryOperator}
use Rattle.vl_tree.specs.declared.operator.UnaryOperator.TheVariants as u
use Rattle.vl_tree.specs.declared.operator.BinaryOperator.{BinaryOperator}
use Rattle.vl_tree.specs.declared.operator.BinaryOperator.TheVariants as b
use Rattle.vl_tree.specs.declared.operator.Cast.{Cast}
use Rattle.vl_tree.specs.declared.operator.Cast.TheVariants as c
use Rattle.vl_tree.specs.Expr as tree
use Rattle.vl_tree.specs.Expr.{Expr, Exprs, Selects, number, paren, unary, binary, conditional, concat, repeat, cast}
use Rattle.vl_tree.specs.Expr.{none, whole, bit, part, indexed}
use Rattle.vl_tree.specs.ExprSpelling.{spell, spell_more, spell_selects, spell_value, unary_sign, binary_sign}
use Rattle.vl_tree.specs.ExprSpelling.{cast_name}
use Rattle.vl_tree.specs.ExprWellFormed.{IsWellFormed, AreWellFormed, AreSelects, IsKnown, IsValue}
use Rattle.vl_parse_grammar.specs.Machine.{take}
use Rattle.vl_parse_grammar.specs.Operators.{cast_of, binary_of}
use Rattle.vl_parse_grammar.specs.Grammar.{
  Rule,
  Stand,
  plain,
  first_in_braces,
  sign,
  operand,
  more,
  selects,
  select_end,
  parts,
  in_parens,
  value,
  expr,
  expand,
  ends,
  accepts,
  is_known,
  if_known,
  on_operand_sign,
  on_more,
  on_cast,
  on_selects,
  on_no_operator,
  on_binary,
}
use Rattle.vl_parse_grammar.proofs.Onto.{onto}
use Rattle.vl_parse_grammar.proofs.Steps as steps
use Rattle.vl_parse_grammar.proofs.Steps.{is_pop}

abbrev pub Leaves : Rule → List Kind → Type 0
Leaves x ts = steps.Leaves expand ends x ts

-- how many operators are open behind it, where so many are before it
abbrev pub after : Expr → ℕ → ℕ
after (unary p op x) n = after x (suc n)
after (binary p op x y) n = after y (suc (after x n))
after (conditional p x y z) n = after z (after y (suc (after x n)))
after e n = n

pub known : (n : Number) → IsKnown n → is_known n ≡ true
known n h = λ i. (h.0 i == 0) && (h.1 i == 0)

pub unary_row : (stand : Stand) (colons opened : ℕ) (op : UnaryOperator)
    → on_operand_sign stand colons opened (unary_sign op)
    ≡ take (suc opened) ((operand stand colons (suc opened), 0) ∷ [])
unary_row stand colons opened u.Plus = refl
unary_row stand colons opened op = refl

pub binary_row : (stand : Stand) (colons opened : ℕ) (op : BinaryOperator)
    → on_more stand colons opened (k.Symbol (binary_sign op))
    ≡ take (suc opened) ((operand stand colons (suc opened), 0) ∷ [])
binary_row stand colons opened b.Multiply = refl
binary_row stand colons opened op = refl

pub no_select : (op : BinaryOperator) → is_pop (on_selects (k.Symbol (binary_sign op))) ≡ true
no_select b.Multiply = refl
no_select op = refl

pub cast_same : (to : Cast) → cast_of (cast_name to) ≡ Some to
cast_same c.Signed = refl
cast_same c.Unsigned = refl

pub leaves : (x : Rule) (xs : List Rule) (ts : List Kind) → Leaves x ts → accepts (x ∷ xs) ts ≡ accepts xs ts
leaves x xs ts h = steps.leaves expand ends x xs ts h

-- no operator comes next, however many are open
more_pops : (opened : ℕ) (t : Kind) → is_pop (on_more plain 0 0 t) ≡ true → is_pop (on_more plain 0 opened t) ≡ true
more_pops opened (k.Symbol x) h = by_operator (binary_of x) h (λ g. by_question x g)
  where
    by_question : (x : Symbol) → is_pop (on_no_operator plain 0 0 x) ≡ true
        → is_pop (on_no_operator plain 0 opened x) ≡ true
    by_question s.Question h = h
    by_question x h = refl

    by_operator : (o : Option BinaryOperator) → is_pop (on_binary plain 0 0 x o) ≡ true
        → (is_pop (on_no_operator plain 0 0 x) ≡ true → is_pop (on_no_operator plain 0 opened x) ≡ true)
        → is_pop (on_binary plain 0 opened x o) ≡ true
    by_operator (Some op) h next = h
    by_operator None h next = next h
more_pops opened t h = refl

pub more_leaves : (opened : ℕ) (ts : List Kind) → Leaves (more plain 0 0) ts → Leaves (more plain 0 opened) ts
more_leaves opened [] h = refl
more_leaves opened (t ∷ ts) h = more_pops opened t h

-- behind an expression: no bracket of a select, and no operator
abbrev pub Ends : List Kind → Type 0
Ends ts = Leaves selects ts × Leaves (more plain 0 0) ts

-- an expression up to where it ends
ended : (e : Expr) (xs : List Rule) (rest : List Kind) → Ends rest
    → accepts (expr ∷ xs) (onto (spell e) rest) ≡ accepts (more plain 0 (after e 0) ∷ xs) rest
    → accepts (expr ∷ xs) (onto (spell e) rest) ≡ accepts xs rest
ended e xs rest h same = same ∙ leaves (more plain 0 (after e 0)) xs rest (more_leaves (after e 0) rest h.1)

pub select_behind : (es : Exprs) (rest : List Kind)
    → Leaves selects (onto (spell_more es) (k.Symbol s.CloseBrace ∷ rest))
select_behind none rest = refl
select_behind (tree.more x es) rest = refl

pub part_behind : (es : Exprs) (rest : List Kind) → Ends (onto (spell_more es) (k.Symbol s.CloseBrace ∷ rest))
part_behind none rest = (refl, refl)
part_behind (tree.more x es) rest = (refl, refl)

mutual
  pub expr_reads : (e : Expr) (stand : Stand) (colons opened : ℕ) (xs : List Rule) (rest : List Kind) → IsWellFormed e
      → Leaves selects rest
      → accepts (operand stand colons opened ∷ xs) (onto (spell e) rest)
      ≡ accepts (more stand colons (after e opened) ∷ xs) rest
  expr_reads (number p n) stand colons opened xs rest w h =
      steps.took expand ends (operand stand colons opened) xs (k.Number n) rest 0 ((more stand colons opened, 0) ∷ [])
      (ap (λ b. if_known b (take 0 ((more stand colons opened, 0) ∷ []))) (known n w))
  expr_reads (tree.name p text ss) stand colons opened xs rest w h =
      selects_read ss (more stand colons opened ∷ xs) rest w.1 ∙ leaves selects (more stand colons opened ∷ xs) rest h
  expr_reads (paren p x) stand colons opened xs rest w h =
      ended x (sign s.CloseParen ∷ more stand colons opened ∷ xs) (k.Symbol s.CloseParen ∷ rest) (refl, refl)
      (expr_reads x plain 0 0 (sign s.CloseParen ∷ more stand colons opened ∷ xs)
      (k.Symbol s.CloseParen ∷ rest) w refl)
  expr_reads (unary p op x) stand colons opened xs rest w h =
      steps.took expand ends (operand stand colons opened) xs (k.Symbol (unary_sign op)) (onto (spell x) rest)
      (suc opened) ((operand stand colons (suc opened), 0) ∷ []) (unary_row stand colons opened op)
      ∙ expr_reads x stand colons (suc opened) xs rest w.1 h
  expr_reads (binary p op x y) stand colons opened xs rest w h =
      expr_reads x stand colons opened xs (k.Symbol (binary_sign op) ∷ onto (spell y) rest) w.2 (no_select op)
      ∙ steps.took expand ends (more stand colons (after x opened)) xs (k.Symbol (binary_sign op)) (onto (spell y) rest)
      (suc (after x opened)) ((operand stand colons (suc (after x opened)), 0) ∷ [])
      (binary_row stand colons (after x opened) op)
      ∙ expr_reads y stand colons (suc (after x opened)) xs rest w.3 h
  expr_reads (conditional p x y z) stand colons opened xs rest w h =
      expr_reads x stand colons opened xs (k.Symbol s.Question
      ∷ onto (spell y) (k.Symbol s.Colon ∷ onto (spell z) rest)) w.1 refl
      ∙ expr_reads y stand (suc colons) (suc (after x opened)) xs (k.Symbol s.Colon ∷ onto (spell z) rest) w.2 refl
      ∙ expr_reads z stand colons (after y (suc (after x opened))) xs rest w.3 h
  expr_reads (concat p (tree.more x es)) stand colons opened xs rest w h =
      expr_reads x first_in_braces 0 0 (more stand colons opened ∷ xs)
      (onto (spell_more es) (k.Symbol s.CloseBrace ∷ rest))
      w.1.0 (select_behind es rest)
      ∙ first_read es (after x 0) (more stand colons opened ∷ xs) rest w.1.1
  expr_reads (concat p none) stand colons opened xs rest w h = absurd w.0
  expr_reads (repeat p x (tree.more y es)) stand colons opened xs rest w h =
      expr_reads x first_in_braces 0 0 (more stand colons opened ∷ xs)
      (k.Symbol s.OpenBrace ∷ onto (spell y) (onto (spell_more es)
      (k.Symbol s.CloseBrace ∷ k.Symbol s.CloseBrace ∷ rest))) w.0 refl
      ∙ ended y (parts ∷ sign s.CloseBrace ∷ more stand colons opened ∷ xs)
      (onto (spell_more es) (k.Symbol s.CloseBrace ∷ k.Symbol s.CloseBrace ∷ rest))
      (part_behind es (k.Symbol s.CloseBrace ∷ rest))
      (expr_reads y plain 0 0 (parts ∷ sign s.CloseBrace ∷ more stand colons opened ∷ xs)
      (onto (spell_more es) (k.Symbol s.CloseBrace ∷ k.Symbol s.CloseBrace ∷ rest)) w.2.0
      (part_behind es (k.Symbol s.CloseBrace ∷ rest)).0)
      ∙ parts_read es (sign s.CloseBrace ∷ more stand colons opened ∷ xs) (k.Symbol s.CloseBrace ∷ rest) w.2.1
  expr_reads (repeat p x none) stand colons opened xs rest w h = absurd w.1
  expr_reads (cast p to x) stand colons opened xs rest w h =
      steps.took expand ends (operand stand colons opened) xs (k.System (cast_name to))
      (k.Symbol s.OpenParen ∷ onto (spell x) (k.Symbol s.CloseParen ∷ rest))
      0 ((in_parens, opened) ∷ (more stand colons opened, 0) ∷ []) (ap (on_cast stand colons opened) (cast_same to))
      ∙ ended x (sign s.CloseParen ∷ more stand colons opened ∷ xs) (k.Symbol s.CloseParen ∷ rest) (refl, refl)
      (expr_reads x plain 0 0 (sign s.CloseParen ∷ more stand colons opened ∷ xs)
      (k.Symbol s.CloseParen ∷ rest) w refl)

  first_read : (es : Exprs) (opened : ℕ) (xs : List Rule) (rest : List Kind) → AreWellFormed es
      → accepts (more first_in_braces 0 opened ∷ xs) (onto (spell_more es) (k.Symbol s.CloseBrace ∷ rest))
      ≡ accepts xs rest
  first_read none opened xs rest w = refl
  first_read (tree.more x es) opened xs rest w =
      ended x (parts ∷ xs) (onto (spell_more es) (k.Symbol s.CloseBrace ∷ rest)) (part_behind es rest)
      (expr_reads x plain 0 0 (parts ∷ xs) (onto (spell_more es) (k.Symbol s.CloseBrace ∷ rest)) w.0
      (part_behind es rest).0)
      ∙ parts_read es xs rest w.1

  parts_read : (es : Exprs) (xs : List Rule) (rest : List Kind) → AreWellFormed es
      → accepts (parts ∷ xs) (onto (spell_more es) (k.Symbol s.CloseBrace ∷ rest)) ≡ accepts xs rest
  parts_read none xs rest w = refl
  parts_read (tree.more x es) xs rest w =
      ended x (parts ∷ xs) (onto (spell_more es) (k.Symbol s.CloseBrace ∷ rest)) (part_behind es rest)
      (expr_reads x plain 0 0 (parts ∷ xs) (onto (spell_more es) (k.Symbol s.CloseBrace ∷ rest)) w.0
      (part_behind es rest).0)
      ∙ parts_read es xs rest w.1

  pub selects_read : (ss : Selects) (xs : List Rule) (rest : List Kind) → AreSelects ss
      → accepts (selects ∷ xs) (onto (spell_selects ss) rest) ≡ accepts (selects ∷ xs) rest
  selects_read whole xs rest w = refl
  selects_read (bit p x ss) xs rest w =
      ended x (select_end ∷ selects ∷ xs) (k.Symbol s.CloseBracket ∷ onto (spell_selects ss) rest) (refl, refl)
      (expr_reads x plain 0 0 (select_end ∷ selects ∷ xs)
      (k.Symbol s.CloseBracket ∷ onto (spell_selects ss) rest) w.0 refl)
      ∙ selects_read ss xs rest w.1
  selects_read (part p x y ss) xs rest w =
      ended x (select_end ∷ selects ∷ xs) (k.Symbol s.Colon
      ∷ onto (spell y) (k.Symbol s.CloseBracket ∷ onto (spell_selects ss) rest)) (refl, refl)
      (expr_reads x plain 0 0 (select_end ∷ selects ∷ xs)
      (k.Symbol s.Colon ∷ onto (spell y) (k.Symbol s.CloseBracket ∷ onto (spell_selects ss) rest)) w.0 refl)
      ∙ ended y (sign s.CloseBracket ∷ selects ∷ xs) (k.Symbol s.CloseBracket ∷ onto (spell_selects ss) rest)
      (refl, refl) (expr_reads y plain 0 0 (sign s.CloseBracket ∷ selects ∷ xs)
      (k.Symbol s.CloseBracket ∷ onto (spell_selects ss) rest) w.1 refl)
      ∙ selects_read ss xs rest w.2
  selects_read (indexed p x y ss) xs rest w =
      ended x (select_end ∷ selects ∷ xs) (k.Symbol s.PlusColon
      ∷ onto (spell y) (k.Symbol s.CloseBracket ∷ onto (spell_selects ss) rest)) (refl, refl)
      (expr_reads x plain 0 0 (select_end ∷ selects ∷ xs)
      (k.Symbol s.PlusColon ∷ onto (spell y) (k.Symbol s.CloseBracket ∷ onto (spell_selects ss) rest)) w.0 refl)
      ∙ ended y (sign s.CloseBracket ∷ selects ∷ xs) (k.Symbol s.CloseBracket ∷ onto (spell_selects ss) rest)
      (refl, refl) (expr_reads y plain 0 0 (sign s.CloseBracket ∷ selects ∷ xs)
      (k.Symbol s.CloseBracket ∷ onto (spell_selects ss) rest) w.1 refl)
      ∙ selects_read ss xs rest w.2

-- an expression up to where it ends
pub whole_read : (e : Expr) (xs : List Rule) (rest : List Kind) → IsWellFormed e → Ends rest
    → accepts (expr ∷ xs) (onto (spell e) rest) ≡ accepts xs rest
whole_read e xs rest w h =
    expr_reads e plain 0 0 xs rest w h.0 ∙ leaves (more plain 0 (after e 0)) xs rest (more_leaves (after e 0) rest h.1)

pub parens_read : (e : Expr) (xs : List Rule) (rest : List Kind) → IsWellFormed e
    → accepts (in_parens ∷ xs) (k.Symbol s.OpenParen ∷ onto (spell e) (k.Symbol s.CloseParen ∷ rest)) ≡ accepts xs rest
parens_read e xs rest w = whole_read e (sign s.CloseParen ∷ xs) (k.Symbol s.CloseParen ∷ rest) w (refl, refl)

pub value_read : (v : Option Expr) (xs : List Rule) (rest : List Kind) → IsValue v → Ends rest → Leaves value rest
    → accepts (value ∷ xs) (onto (spell_value v) rest) ≡ accepts xs rest
value_read None xs rest w h g = leaves value xs rest g
value_read (Some e) xs rest w h g = whole_read e xs rest w h
