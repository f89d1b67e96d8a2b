-- What well formed statements spell is read as statements; an `else` is read for the nearest `if`.
use Rattle.std.proofs.Common.{◌≡◌, ℕ, ◌+◌, ◌≤◌, Bool, true, false, ◌==◌, ◌&&◌, List, [], ◌∷◌, ◌++◌, Option, Some}
use Rattle.std.proofs.Common.{None, refl, sym, ap, ◌∙◌, subst, arith, eq-eqb}
use Rattle.std.proofs.lemmas.List.Elements.{All-head}
use Rattle.fv_text.specs.declared.keyword.Keyword.TheVariants as word
use Rattle.fv_text.specs.declared.kind.Kind.{Kind}
use Rattle.fv_text.specs.declared.kind.Kind.TheVariants as k
use Rattle.fv_text.specs.declared.number.Number.{Number}
use Rattle.fv_text.specs.declared.symbol.Symbol.TheVariants as s
use Rattle.vl_tree.specs.declared.operator.UnaryOperator.{UnaryOperator}
use Rattle.vl_tree.specs.declared.operator.UnaryOperator.TheVariants as u
use Rattle.vl_tree.specs.declared.operator.Cast.{Cast}
use Rattle.vl_tree.specs.declared.stmt.CaseKind.{CaseKind}
use Rattle.vl_tree.specs.declared.stmt.CaseKind.TheVariants as c
use Rattle.vl_tree.specs.declared.stmt.AssignKind.{AssignKind}
use Rattle.vl_tree.specs.declared.stmt.AssignKind.TheVariants as a
use Rattle.vl_tree.specs.Attributes.{Attributes}
use Rattle.vl_tree.specs.DeclarationSpelling.{spell_attributes, spell_attribute}
use Rattle.vl_tree.specs.DeclarationWellFormed.{AreSome}
use Rattle.vl_tree.specs.Expr.{Expr, number, paren, unary, binary, conditional, concat, repeat, cast}
use Rattle.vl_tree.specs.Expr as e
use Rattle.vl_tree.specs.ExprSpelling as expr
use Rattle.vl_tree.specs.ExprWellFormed as expr_well
use Rattle.vl_tree.specs.Lval.{Lval, named, joined, no_lvals, more_lvals}
use Rattle.vl_tree.specs.LvalSpelling as lval
use Rattle.vl_tree.specs.LvalWellFormed as lval_well
use Rattle.vl_tree.specs.Phrase.{◌▸◌, between_commas, with_commas}
use Rattle.vl_tree.specs.Stmt.{
  Stmt,
  Stmts,
  Arms,
  begin,
  if_only,
  if_else,
  case,
  assign,
  assume,
  empty,
  no_stmts,
  more_stmts,
  no_arms,
  labels,
  default,
}
use Rattle.vl_tree.specs.StmtSpelling.{spell, spell_all, spell_arms, spell_label, spell_one_label, spell_colon}
use Rattle.vl_tree.specs.StmtSpelling.{assign_sign, case_word}
use Rattle.vl_tree.specs.StmtWellFormed.{IsWellFormed, AreWellFormed, AreArms, AreArmsSome, IsLabel, ends_open}
use Rattle.vl_tree.specs.StmtWellFormed.{default_count}
use Rattle.vl_parse_grammar.specs.Machine.{Row, take, pop, bad, symbols, free_step}
use Rattle.vl_parse_grammar.specs.Operators.{cast_of, unary_of}
use Rattle.vl_parse_grammar.specs.Grammar as g
use Rattle.vl_parse_grammar.specs.Grammar.{
  Rule,
  Moves,
  plain,
  more,
  selects,
  sign,
  stmt,
  stmts,
  block,
  otherwise,
  arms,
  first_arm,
  label,
  behind_default,
  initial_stmt,
  initial_stmts,
  target,
  targets,
  accepts,
  expand,
  ends,
  inside,
  arm_with,
  on_label,
  on_operand,
  on_otherwise,
  on_casez_number,
  on_unary,
  on_cast,
  if_known,
  is_known,
}
use Rattle.vl_parse_grammar.proofs.Onto.{onto}
use Rattle.vl_parse_grammar.proofs.Steps.{is_pop, apart}
use Rattle.vl_parse_grammar.proofs.ExprReads.{Leaves, leaves, whole_read, parens_read, selects_read}
use Rattle.vl_parse_grammar.proofs.DeclarationReads.{Behind, attributes_read, target_read, targets_read, behind_target}
use Rattle.vl_parse_grammar.proofs.DeclarationReads.{list_read}

-- what an expression may begin with
abbrev pub Plain : Kind → Type 0
Plain (k.Number n) = expr_well.IsKnown n
Plain (k.Keyword x) = ⊥
Plain (k.Symbol s.CloseParen) = ⊥
Plain t = Unit {0}

plain_unary : (op : UnaryOperator) → Plain (k.Symbol (expr.unary_sign op))
plain_unary u.Plus = tt
plain_unary op = tt

pub record ExprFront (ts : List Kind) : Type 0 where
  pub head : Kind
  pub tail : List Kind
  pub same : ts ≡ head ∷ tail
  pub fine : Plain head

pub expr_front : (x : Expr) (ts : List Kind) → expr_well.IsWellFormed x → ExprFront (onto (expr.spell x) ts)
expr_front (number p n) ts w = record { head = k.Number n; tail = ts; same = refl; fine = w }
expr_front (e.name p text ss) ts w =
    record { head = k.Name text; tail = onto (expr.spell_selects ss) ts; same = refl; fine = tt }
expr_front (paren p x) ts w =
    record {
      head = k.Symbol s.OpenParen;
      tail = onto (expr.spell x) (k.Symbol s.CloseParen ∷ ts);
      same = refl;
      fine = tt;
    }
expr_front (unary p op x) ts w =
    record { head = k.Symbol (expr.unary_sign op); tail = onto (expr.spell x) ts; same = refl; fine = plain_unary op }
expr_front (binary p op x y) ts w = expr_front x (k.Symbol (expr.binary_sign op) ∷ onto (expr.spell y) ts) w.2
expr_front (conditional p x y z) ts w =
    expr_front x (k.Symbol s.Question ∷ onto (expr.spell y) (k.Symbol s.Colon ∷ onto (expr.spell z) ts)) w.1
expr_front (concat p es) ts w = record {
  head = k.Symbol s.OpenBrace;
  tail = onto (expr.spell_parts es) (k.Symbol s.CloseBrace ∷ ts);
  same = refl;
  fine = tt;
}
expr_front (repeat p x es) ts w = record {
  head = k.Symbol s.OpenBrace;
  tail = onto (expr.spell x) (k.Symbol s.OpenBrace
      ∷ onto (expr.spell_parts es) (k.Symbol s.CloseBrace ∷ k.Symbol s.CloseBrace ∷ ts));
  same = refl;
  fine = tt;
}
expr_front (cast p to x) ts w = record {
  head = k.System (expr.cast_name to);
  tail = k.Symbol s.OpenParen ∷ onto (expr.spell x) (k.Symbol s.CloseParen ∷ ts);
  same = refl;
  fine = tt;
}

-- what a statement may begin with
pub data Begins : Kind → Type 0 where
  by_begin : Begins (k.Keyword word.Begin)
  by_if : Begins (k.Keyword word.If)
  by_case : Begins (k.Keyword word.Case)
  by_casez : Begins (k.Keyword word.Casez)
  by_assume : Begins (k.Keyword word.Assume)
  by_name : (text : List ℕ) → Begins (k.Name text)
  by_brace : Begins (k.Symbol s.OpenBrace)
  by_semicolon : Begins (k.Symbol s.Semicolon)
  by_attribute : Begins (k.Symbol s.OpenAttribute)

pub record Front (ts : List Kind) : Type 0 where
  pub head : Kind
  pub tail : List Kind
  pub same : ts ≡ head ∷ tail
  pub begins : Begins head

behind_attributes : (vs : Attributes) (ts : List Kind) → Front ts → Front (onto (spell_attributes vs) ts)
behind_attributes [] ts f = f
behind_attributes (i ∷ vs) ts f = record {
  head = k.Symbol s.OpenAttribute;
  tail = onto (between_commas spell_attribute i.attributes) (k.Symbol s.CloseAttribute ∷ onto (spell_attributes vs) ts);
  same = refl;
  begins = by_attribute;
}

case_front : (kind : CaseKind) (ts : List Kind) → Front (k.Keyword (case_word kind) ∷ ts)
case_front c.Case ts = record { head = k.Keyword word.Case; tail = ts; same = refl; begins = by_case }
case_front c.Casez ts = record { head = k.Keyword word.Casez; tail = ts; same = refl; begins = by_casez }

lval_front : (l : Lval) (ts : List Kind) → Front (onto (lval.spell l) ts)
lval_front (named p text ss) ts =
    record { head = k.Name text; tail = onto (expr.spell_selects ss) ts; same = refl; begins = by_name text }
lval_front (joined p ls) ts =
    record {
      head = k.Symbol s.OpenBrace;
      tail = onto (lval.spell_parts ls) (k.Symbol s.CloseBrace ∷ ts);
      same = refl;
      begins = by_brace;
    }

pub stmt_front : (x : Stmt) (ts : List Kind) → Front (onto (spell x) ts)
stmt_front (begin attrs p name xs) ts = behind_attributes attrs _ (record {
  head = k.Keyword word.Begin;
  tail = onto (spell_label name ▸ spell_all xs) (k.Keyword word.End ∷ ts);
  same = refl;
  begins = by_begin;
})
stmt_front (if_only attrs p x y) ts = behind_attributes attrs _ (record {
  head = k.Keyword word.If;
  tail = k.Symbol s.OpenParen ∷ onto (expr.spell x) (k.Symbol s.CloseParen ∷ onto (spell y) ts);
  same = refl;
  begins = by_if;
})
stmt_front (if_else attrs p x y z) ts = behind_attributes attrs _ (record {
  head = k.Keyword word.If;
  tail = k.Symbol s.OpenParen ∷ onto (expr.spell x)
      (k.Symbol s.CloseParen ∷ onto (spell y) (k.Keyword word.Else ∷ onto (spell z) ts));
  same = refl;
  begins = by_if;
})
stmt_front (case attrs p kind x xs) ts = behind_attributes attrs _ (case_front kind _)
stmt_front (assign attrs p l kind x) ts = behind_attributes attrs _ (lval_front l _)
stmt_front (assume attrs p x) ts = behind_attributes attrs _ (record {
  head = k.Keyword word.Assume;
  tail = k.Symbol s.OpenParen ∷ onto (expr.spell x) (k.Symbol s.CloseParen ∷ k.Symbol s.Semicolon ∷ ts);
  same = refl;
  begins = by_assume;
})
stmt_front (empty attrs p) ts =
    behind_attributes attrs _ (record { head = k.Symbol s.Semicolon; tail = ts; same = refl; begins = by_semicolon })

-- a rule that goes on as others do wherever a statement begins
abbrev Stands : Rule → List Rule → Type 0
Stands x row = (t : Kind) → Begins t → (xs : List Rule) (ts : List Kind)
    → accepts (x ∷ xs) (t ∷ ts) ≡ accepts (row ++ xs) (t ∷ ts)

in_stmts : Stands stmts (stmt ∷ stmts ∷ [])
in_stmts _ by_begin xs ts = refl
in_stmts _ by_if xs ts = refl
in_stmts _ by_case xs ts = refl
in_stmts _ by_casez xs ts = refl
in_stmts _ by_assume xs ts = refl
in_stmts _ (by_name text) xs ts = refl
in_stmts _ by_brace xs ts = refl
in_stmts _ by_semicolon xs ts = refl
in_stmts _ by_attribute xs ts = refl

in_block : Stands block (stmt ∷ stmts ∷ [])
in_block _ by_begin xs ts = refl
in_block _ by_if xs ts = refl
in_block _ by_case xs ts = refl
in_block _ by_casez xs ts = refl
in_block _ by_assume xs ts = refl
in_block _ (by_name text) xs ts = refl
in_block _ by_brace xs ts = refl
in_block _ by_semicolon xs ts = refl
in_block _ by_attribute xs ts = refl

in_default : Stands behind_default (stmt ∷ [])
in_default _ by_begin xs ts = refl
in_default _ by_if xs ts = refl
in_default _ by_case xs ts = refl
in_default _ by_casez xs ts = refl
in_default _ by_assume xs ts = refl
in_default _ (by_name text) xs ts = refl
in_default _ by_brace xs ts = refl
in_default _ by_semicolon xs ts = refl
in_default _ by_attribute xs ts = refl

stands : (x : Rule) (row : List Rule) → Stands x row → (xs : List Rule) (ts : List Kind) → Front ts
    → accepts (x ∷ xs) ts ≡ accepts (row ++ xs) ts
stands x row h xs ts f =
    ap (λ us. accepts (x ∷ xs) us) f.same ∙ h f.head f.begins xs f.tail ∙ ap (λ us. accepts (row ++ xs) us) (sym f.same)

no_else : (t : Kind) → Begins t → is_pop (on_otherwise t) ≡ true
no_else _ by_begin = refl
no_else _ by_if = refl
no_else _ by_case = refl
no_else _ by_casez = refl
no_else _ by_assume = refl
no_else _ (by_name text) = refl
no_else _ by_brace = refl
no_else _ by_semicolon = refl
no_else _ by_attribute = refl

-- an arm begins as its first label does
never_unary : (o : Option UnaryOperator) → is_pop (on_unary plain 0 0 o) ≡ false
never_unary (Some op) = refl
never_unary None = refl

never_cast : (o : Option Cast) → is_pop (on_cast plain 0 0 o) ≡ false
never_cast (Some to) = refl
never_cast None = refl

never_known : (b : Bool) (m : Moves) → is_pop m ≡ false → is_pop (if_known b m) ≡ false
never_known true m h = h
never_known false m h = refl

pub never_operand : (t : Kind) → is_pop (on_operand plain 0 0 t) ≡ false
never_operand (k.Number n) = never_known (is_known n) (take 0 ((more plain 0 0, 0) ∷ [])) refl
never_operand (k.Name text) = refl
never_operand (k.System text) = never_cast (cast_of text)
never_operand (k.Symbol s.OpenParen) = refl
never_operand (k.Symbol s.OpenBrace) = refl
never_operand (k.Symbol x) = never_unary (unary_of x)
never_operand t = refl

never_casez : (b : Bool) (n : Number) → is_pop (on_casez_number b n) ≡ false
never_casez true n = never_operand (k.Number n)
never_casez false n = never_known (n.unknown == 0) (take 0 []) refl

never_label : (kind : CaseKind) (t : Kind) → is_pop (on_label kind t) ≡ false
never_label c.Case t = never_operand t
never_label c.Casez (k.Number n) = never_casez (n.wild == 0) n
never_label c.Casez (k.Name text) = refl
never_label c.Casez (k.System text) = never_operand (k.System text)
never_label c.Casez (k.Symbol x) = never_operand (k.Symbol x)
never_label c.Casez t = refl

inside_symbols : (row zs : Row Rule) (xs : List Rule)
    → symbols (inside row ++ zs) ++ xs ≡ symbols row ++ (symbols zs ++ xs)
inside_symbols [] zs xs = refl
inside_symbols (x ∷ row) zs xs = ap (λ r. x.0 ∷ r) (inside_symbols row zs xs)

abbrev pub stepped : List Rule → Kind → Moves → Option (List Rule)
stepped xs t m = elim m as (λ _. Option (List Rule))
    [ take opened row ↦ Some (symbols row ++ xs) | pop ↦ free_step expand xs t | bad ↦ None ]

arm_move : (kind : CaseKind) (d : Bool) (xs : List Rule) (t : Kind) (m : Moves) → is_pop m ≡ false
    → stepped xs t (arm_with kind d m) ≡ stepped (g.labels kind ∷ arms kind d ∷ xs) t m
arm_move kind d xs t (take opened row) h = ap Some (inside_symbols row ((g.labels kind, 1) ∷ (arms kind d, 0) ∷ []) xs)
arm_move kind d xs t pop h = apart (sym h)
arm_move kind d xs t bad h = refl

abbrev pub on_step : List Kind → Option (List Rule) → Bool
on_step ts o = elim o as (λ _. Bool) [ None ↦ false | Some j ↦ accepts j ts ]

abbrev pub NoWord : Kind → Type 0
NoWord (k.Keyword x) = ⊥
NoWord t = Unit {0}

in_arms : (kind : CaseKind) (d : Bool) (t : Kind) → NoWord t → (xs : List Rule) (ts : List Kind)
    → accepts (arms kind d ∷ xs) (t ∷ ts) ≡ accepts (label kind ∷ g.labels kind ∷ arms kind d ∷ xs) (t ∷ ts)
in_arms kind d (k.Keyword x) h xs ts = absurd h
in_arms kind d (k.Name text) h xs ts =
    ap (on_step ts) (arm_move kind d xs (k.Name text) (on_label kind (k.Name text)) (never_label kind (k.Name text)))
in_arms kind d (k.Symbol x) h xs ts =
    ap (on_step ts) (arm_move kind d xs (k.Symbol x) (on_label kind (k.Symbol x)) (never_label kind (k.Symbol x)))
in_arms kind d (k.Number n) h xs ts =
    ap (on_step ts) (arm_move kind d xs (k.Number n) (on_label kind (k.Number n)) (never_label kind (k.Number n)))
in_arms kind d (k.System text) h xs ts = ap (on_step ts)
    (arm_move kind d xs (k.System text) (on_label kind (k.System text)) (never_label kind (k.System text)))
in_arms kind d (k.Tick text) h xs ts =
    ap (on_step ts) (arm_move kind d xs (k.Tick text) (on_label kind (k.Tick text)) (never_label kind (k.Tick text)))
in_arms kind d k.Quoted h xs ts =
    ap (on_step ts) (arm_move kind d xs k.Quoted (on_label kind k.Quoted) (never_label kind k.Quoted))
in_arms kind d k.Continue h xs ts =
    ap (on_step ts) (arm_move kind d xs k.Continue (on_label kind k.Continue) (never_label kind k.Continue))

-- the first arm is as the others
in_first : (kind : CaseKind) (t : Kind) → NoWord t → (xs : List Rule) (ts : List Kind)
    → accepts (first_arm kind ∷ xs) (t ∷ ts) ≡ accepts (arms kind false ∷ xs) (t ∷ ts)
in_first kind (k.Keyword x) h xs ts = absurd h
in_first kind t h xs ts = refl

no_word : (t : Kind) → Plain t → NoWord t
no_word (k.Keyword x) h = h
no_word (k.Symbol x) h = tt
no_word t h = tt

pub no_word_else : (t : Kind) → NoWord t → is_pop (on_otherwise t) ≡ true
no_word_else (k.Keyword x) h = absurd h
no_word_else t h = refl

pub record LabelFront (ts : List Kind) : Type 0 where
  pub head : Kind
  pub tail : List Kind
  pub same : ts ≡ head ∷ tail
  pub fine : NoWord head

pub label_front : (kind : CaseKind) (x : Expr) (ts : List Kind) → IsLabel kind x
    → LabelFront (onto (spell_one_label x) ts)
label_front c.Casez (number p n) ts h = record { head = k.Number n; tail = ts; same = refl; fine = tt }
label_front c.Case x ts h = (let f = expr_front x ts h
    in record { head = f.head; tail = f.tail; same = f.same; fine = no_word f.head f.fine })
label_front c.Casez x ts h = (let f = expr_front x ts h
    in record { head = f.head; tail = f.tail; same = f.same; fine = no_word f.head f.fine })

-- an expression stands where a label does
as_label : (kind : CaseKind) (t : Kind) → Plain t → (xs : List Rule) (ts : List Kind)
    → accepts (label kind ∷ xs) (t ∷ ts) ≡ accepts (g.expr ∷ xs) (t ∷ ts)
as_label c.Case t h xs ts = refl
as_label c.Casez (k.Number n) h xs ts =
    ap (λ b. on_step ts (stepped xs (k.Number n) (on_casez_number b n))) (eq-eqb n.wild 0 h.0)
as_label c.Casez (k.Keyword x) h xs ts = absurd h
as_label c.Casez t h xs ts = refl

label_by : (kind : CaseKind) (x : Expr) (xs : List Rule) (ts : List Kind) → expr_well.IsWellFormed x → Behind ts
    → accepts (label kind ∷ xs) (onto (spell_one_label x) ts) ≡ accepts xs ts
label_by kind x xs ts w h =
    (let f = expr_front x ts w in
    ap (λ us. accepts (label kind ∷ xs) us) f.same ∙ as_label kind f.head f.fine xs f.tail
    ∙ ap (λ us. accepts (g.expr ∷ xs) us) (sym f.same))
    ∙ whole_read x xs ts w (h.0, h.1)

wild_read : (n : Number) (b : Bool) → (n.wild == 0) ≡ b → (xs : List Rule) (ts : List Kind) → n.unknown ≡ 0 → Behind ts
    → on_step ts (stepped xs (k.Number n) (on_casez_number b n)) ≡ accepts xs ts
wild_read n true e xs ts h f =
    ap (λ b. on_step ts (stepped xs (k.Number n) (if_known b (take 0 ((more plain 0 0, 0) ∷ [])))))
    (λ i. e i && eq-eqb n.unknown 0 h i)
    ∙ leaves (more plain 0 0) xs ts f.1
wild_read n false e xs ts h f =
    ap (λ b. on_step ts (stepped xs (k.Number n) (if_known b (take 0 [])))) (eq-eqb n.unknown 0 h)

label_read : (kind : CaseKind) (x : Expr) (xs : List Rule) (ts : List Kind) → IsLabel kind x → Behind ts
    → accepts (label kind ∷ xs) (onto (spell_one_label x) ts) ≡ accepts xs ts
label_read c.Casez (number p n) xs ts w h = wild_read n (n.wild == 0) refl xs ts w h
label_read c.Case x xs ts w h = label_by c.Case x xs ts w h
label_read c.Casez x xs ts w h = label_by c.Casez x xs ts w h

labels_read : (kind : CaseKind) (es : List Expr) (xs : List Rule) (ts : List Kind) → AreSome (λ x. IsLabel kind x) es
    → accepts (label kind ∷ g.labels kind ∷ xs) (onto (between_commas spell_one_label es) (k.Symbol s.Colon ∷ ts))
    ≡ accepts (stmt ∷ xs) ts
labels_read kind [] xs ts w = absurd (omega (arith, w.0))
labels_read kind (x ∷ es) xs ts w =
    list_read spell_one_label (λ y. IsLabel kind y) (g.labels kind) (label kind ∷ []) (stmt ∷ []) (k.Symbol s.Colon)
    (λ ys us. refl) (λ ys us. refl)
    (λ us. (refl, refl, refl, refl)) (label_read kind) x es xs ts w.1

pub labels_front : (kind : CaseKind) (es : List Expr) (ts : List Kind) → AreSome (λ x. IsLabel kind x) es
    → LabelFront (onto (between_commas spell_one_label es) ts)
labels_front kind [] ts w = absurd (omega (arith, w.0))
labels_front kind (x ∷ es) ts w =
    label_front kind x (onto (with_commas spell_one_label es) ts) (All-head (λ y. IsLabel kind y) x es w.1)

arm_read : (kind : CaseKind) (d : Bool) (es : List Expr) (xs : List Rule) (ts : List Kind)
    → AreSome (λ x. IsLabel kind x) es
    → accepts (arms kind d ∷ xs) (onto (between_commas spell_one_label es) (k.Symbol s.Colon ∷ ts))
    ≡ accepts (stmt ∷ arms kind d ∷ xs) ts
arm_read kind d es xs ts w =
    (let f = labels_front kind es (k.Symbol s.Colon ∷ ts) w in
    ap (λ us. accepts (arms kind d ∷ xs) us) f.same ∙ in_arms kind d f.head f.fine xs f.tail
    ∙ ap (λ us. accepts (label kind ∷ g.labels kind ∷ arms kind d ∷ xs) us) (sym f.same))
    ∙ labels_read kind es (arms kind d ∷ xs) ts w

-- no `else` comes before an arm or behind the last one
pub arms_leave : (kind : CaseKind) (x : Arms) (ts : List Kind) → AreArms kind x
    → Leaves otherwise (onto (spell_arms x) (k.Keyword word.Endcase ∷ ts))
arms_leave kind no_arms ts w = refl
arms_leave kind (labels p es x xs) ts w =
    (let f = labels_front kind es (k.Symbol s.Colon
    ∷ onto (spell x) (onto (spell_arms xs) (k.Keyword word.Endcase ∷ ts))) w.0 in
    subst (λ us. Leaves otherwise us) (sym f.same) (no_word_else f.head f.fine))
arms_leave kind (default p colon x xs) ts w = refl

pub stmts_leave : (xs : Stmts) (ts : List Kind) → Leaves otherwise (onto (spell_all xs) (k.Keyword word.End ∷ ts))
stmts_leave no_stmts ts = refl
stmts_leave (more_stmts x xs) ts =
    (let f = stmt_front x (onto (spell_all xs) (k.Keyword word.End ∷ ts)) in
    subst (λ us. Leaves otherwise us) (sym f.same) (no_else f.head f.begins))

assigned : (kind : AssignKind) (x : Expr) (xs : List Rule) (ts : List Kind) → expr_well.IsWellFormed x
    → accepts (g.assign_sign ∷ xs) (k.Symbol (assign_sign kind) ∷ onto (expr.spell x) (k.Symbol s.Semicolon ∷ ts))
    ≡ accepts xs ts
assigned a.Blocking x xs ts w = whole_read x (sign s.Semicolon ∷ xs) (k.Symbol s.Semicolon ∷ ts) w (refl, refl)
assigned a.Nonblocking x xs ts w = whole_read x (sign s.Semicolon ∷ xs) (k.Symbol s.Semicolon ∷ ts) w (refl, refl)

pub no_bracket : (kind : AssignKind) (ts : List Kind) → Leaves selects (k.Symbol (assign_sign kind) ∷ ts)
no_bracket a.Blocking ts = refl
no_bracket a.Nonblocking ts = refl

-- a statement that begins with a target
assign_read : (l : Lval) (xs : List Rule) (ts : List Kind) → lval_well.IsWellFormed l → Leaves selects ts
    → accepts (stmt ∷ xs) (onto (lval.spell l) ts) ≡ accepts (g.assign_sign ∷ xs) ts
assign_read (named p text ss) xs ts w h =
    selects_read ss (g.assign_sign ∷ xs) ts w.1 ∙ leaves selects (g.assign_sign ∷ xs) ts h
assign_read (joined p no_lvals) xs ts w h = absurd w.0
assign_read (joined p (more_lvals l ls)) xs ts w h =
    target_read l (targets ∷ g.assign_sign ∷ xs) (onto (lval.spell_more ls) (k.Symbol s.CloseBrace ∷ ts)) w.1.0
    (behind_target ls ts)
    ∙ targets_read ls (g.assign_sign ∷ xs) ts w.1.1

-- whether a default came already
abbrev pub seen : Bool → ℕ
seen true = 1
seen false = 0

case_at : (kind : CaseKind) (xs : List Rule) (ts : List Kind)
    → accepts (stmt ∷ xs) (k.Keyword (case_word kind) ∷ ts) ≡ accepts (g.in_parens ∷ first_arm kind ∷ xs) ts
case_at c.Case xs ts = refl
case_at c.Casez xs ts = refl

as_first : (kind : CaseKind) (x : Arms) (xs : List Rule) (ts : List Kind) → AreArms kind x → AreArmsSome x
    → accepts (first_arm kind ∷ xs) (onto (spell_arms x) ts) ≡ accepts (arms kind false ∷ xs) (onto (spell_arms x) ts)
as_first kind no_arms xs ts w h = absurd h
as_first kind (labels p es x zs) xs ts w h =
    (let f = labels_front kind es (k.Symbol s.Colon ∷ onto (spell x) (onto (spell_arms zs) ts)) w.0 in
    ap (λ us. accepts (first_arm kind ∷ xs) us) f.same ∙ in_first kind f.head f.fine xs f.tail
    ∙ ap (λ us. accepts (arms kind false ∷ xs) us) (sym f.same))
as_first kind (default p colon x zs) xs ts w h = refl

block_read : (name : Option (List ℕ)) (x : Stmts) (xs : List Rule) (ts : List Kind)
    → accepts (block ∷ xs) (onto (spell_label name) (onto (spell_all x) (k.Keyword word.End ∷ ts)))
    ≡ accepts (stmts ∷ xs) (onto (spell_all x) (k.Keyword word.End ∷ ts))
block_read (Some text) x xs ts = refl
block_read None no_stmts xs ts = refl
block_read None (more_stmts x zs) xs ts =
    (let f = stmt_front x (onto (spell_all zs) (k.Keyword word.End ∷ ts)) in
    stands block (stmt ∷ stmts ∷ []) in_block xs _ f ∙ sym (stands stmts (stmt ∷ stmts ∷ []) in_stmts xs _ f))

colon_read : (colon : Bool) (x : Stmt) (xs : List Rule) (ts : List Kind)
    → accepts (behind_default ∷ xs) (onto (spell_colon colon) (onto (spell x) ts))
    ≡ accepts (stmt ∷ xs) (onto (spell x) ts)
colon_read true x xs ts = refl
colon_read false x xs ts = stands behind_default (stmt ∷ []) in_default xs _ (stmt_front x ts)

mutual
  pub stmt_reads : (x : Stmt) (xs : List Rule) (ts : List Kind) → IsWellFormed x
      → (ends_open x ≡ true → Leaves otherwise ts)
      → accepts (stmt ∷ xs) (onto (spell x) ts) ≡ accepts xs ts
  stmt_reads (begin attrs p name x) xs ts w n =
      attributes_read stmt refl attrs xs _ w.0 ∙ block_read name x xs ts ∙ stmts_read x xs ts w.2
  stmt_reads (if_only attrs p x y) xs ts w n =
      attributes_read stmt refl attrs xs _ w.0 ∙ parens_read x (stmt ∷ otherwise ∷ xs) (onto (spell y) ts) w.1
      ∙ stmt_reads y (otherwise ∷ xs) ts w.2 (λ o. n refl) ∙ leaves otherwise xs ts (n refl)
  stmt_reads (if_else attrs p x y z) xs ts w n =
      attributes_read stmt refl attrs xs _ w.0
      ∙ parens_read x (stmt ∷ otherwise ∷ xs) (onto (spell y) (k.Keyword word.Else ∷ onto (spell z) ts)) w.1
      ∙ stmt_reads y (otherwise ∷ xs) (k.Keyword word.Else ∷ onto (spell z) ts) w.3 (λ o. apart (sym w.2 ∙ o))
      ∙ stmt_reads z xs ts w.4 n
  stmt_reads (case attrs p kind x zs) xs ts w n =
      attributes_read stmt refl attrs xs _ w.0
      ∙ case_at kind xs (k.Symbol s.OpenParen ∷ onto (expr.spell x)
      (k.Symbol s.CloseParen ∷ onto (spell_arms zs) (k.Keyword word.Endcase ∷ ts)))
      ∙ parens_read x (first_arm kind ∷ xs) (onto (spell_arms zs) (k.Keyword word.Endcase ∷ ts)) w.1
      ∙ as_first kind zs xs (k.Keyword word.Endcase ∷ ts) w.4 w.2
      ∙ arms_read zs kind false xs ts w.4 (omega (arith, w.3))
  stmt_reads (assign attrs p l kind x) xs ts w n =
      attributes_read stmt refl attrs xs _ w.0
      ∙ assign_read l xs _ w.1 (no_bracket kind (onto (expr.spell x) (k.Symbol s.Semicolon ∷ ts)))
      ∙ assigned kind x xs ts w.2
  stmt_reads (assume attrs p x) xs ts w n =
      attributes_read stmt refl attrs xs _ w.0 ∙ parens_read x (sign s.Semicolon ∷ xs) (k.Symbol s.Semicolon ∷ ts) w.1
  stmt_reads (empty attrs p) xs ts w n = attributes_read stmt refl attrs xs _ w

  pub stmts_read : (x : Stmts) (xs : List Rule) (ts : List Kind) → AreWellFormed x
      → accepts (stmts ∷ xs) (onto (spell_all x) (k.Keyword word.End ∷ ts)) ≡ accepts xs ts
  stmts_read no_stmts xs ts w = refl
  stmts_read (more_stmts x zs) xs ts w =
      stands stmts (stmt ∷ stmts ∷ []) in_stmts xs _ (stmt_front x (onto (spell_all zs) (k.Keyword word.End ∷ ts)))
      ∙ stmt_reads x (stmts ∷ xs) (onto (spell_all zs) (k.Keyword word.End ∷ ts)) w.0 (λ o. stmts_leave zs ts)
      ∙ stmts_read zs xs ts w.1

  arms_read : (x : Arms) (kind : CaseKind) (d : Bool) (xs : List Rule) (ts : List Kind) → AreArms kind x
      → default_count x + seen d ≤ 1
      → accepts (arms kind d ∷ xs) (onto (spell_arms x) (k.Keyword word.Endcase ∷ ts)) ≡ accepts xs ts
  arms_read no_arms kind d xs ts w h = refl
  arms_read (labels p es x zs) kind d xs ts w h =
      arm_read kind d es xs (onto (spell x) (onto (spell_arms zs) (k.Keyword word.Endcase ∷ ts))) w.0
      ∙ stmt_reads x (arms kind d ∷ xs) (onto (spell_arms zs) (k.Keyword word.Endcase ∷ ts)) w.1
      (λ o. arms_leave kind zs ts w.2)
      ∙ arms_read zs kind d xs ts w.2 h
  arms_read (default p colon x zs) kind true xs ts w h = absurd (omega (arith, h))
  arms_read (default p colon x zs) kind false xs ts w h =
      colon_read colon x (arms kind true ∷ xs) (onto (spell_arms zs) (k.Keyword word.Endcase ∷ ts))
      ∙ stmt_reads x (arms kind true ∷ xs) (onto (spell_arms zs) (k.Keyword word.Endcase ∷ ts)) w.0
      (λ o. arms_leave kind zs ts w.1)
      ∙ arms_read zs kind true xs ts w.1 (omega (arith, h))
