-- No two well formed statements are spelled by one list of tokens.
use Rattle.std.proofs.Common.{◌≡◌, ℕ, suc, Bool, true, false, ◌==◌, List, [], ◌∷◌, Option, Some, None, refl, sym, ap}
use Rattle.std.proofs.Common.{◌∙◌, subst, arith, eq-eqb}
use Rattle.std.specs.Prelude.{All}
use Rattle.fv_text.specs.declared.keyword.Keyword.TheVariants as word
use Rattle.fv_text.specs.declared.kind.Kind.{Kind}
use Rattle.fv_text.specs.declared.kind.Kind.TheVariants as k
use Rattle.fv_text.specs.declared.number.Number.{Number}
use Rattle.fv_text.specs.declared.symbol.Symbol.TheVariants as s
use Rattle.fv_text.specs.declared.token.Token.{Token}
use Rattle.vl_tree.specs.declared.stmt.CaseKind.{CaseKind}
use Rattle.vl_tree.specs.declared.stmt.CaseKind.TheVariants as c
use Rattle.vl_tree.specs.declared.stmt.AssignKind.{AssignKind}
use Rattle.vl_tree.specs.declared.stmt.AssignKind.TheVariants as a
use Rattle.vl_tree.specs.Attributes.{Attributes}
use Rattle.vl_tree.specs.DeclarationSpelling.{spell_attributes}
use Rattle.vl_tree.specs.DeclarationWellFormed.{AreAttributes, AreSome}
use Rattle.vl_tree.specs.Expr as tree
use Rattle.vl_tree.specs.Expr.{Expr}
use Rattle.vl_tree.specs.ExprSpelling as expr
use Rattle.vl_tree.specs.ExprWellFormed as expr_well
use Rattle.vl_tree.specs.Lval.{Lval, named, joined}
use Rattle.vl_tree.specs.LvalSpelling as lval
use Rattle.vl_tree.specs.Phrase.{parens, between_commas, IsNext, Spells}
use Rattle.vl_tree.specs.Stmt.{Stmt, Stmts, Arms, begin, if_only, if_else, case, assign, assume, empty, no_stmts}
use Rattle.vl_tree.specs.Stmt.{more_stmts, no_arms, labels, default}
use Rattle.vl_tree.specs.StmtSpelling.{spell, spell_all, spell_arms, spell_label, spell_one_label, spell_colon}
use Rattle.vl_tree.specs.StmtSpelling.{assign_sign, case_word}
use Rattle.vl_tree.specs.StmtWellFormed.{IsWellFormed, AreWellFormed, AreArms, IsLabel, ends_open}
use Rattle.vl_parse_grammar.specs.Grammar.{on_otherwise}
use Rattle.vl_parse_grammar.proofs.Steps.{is_pop, apart}
use Rattle.vl_parse_grammar.proofs.StmtReads.{Plain, Begins, by_begin, by_if, by_case, by_casez, by_assume, by_name}
use Rattle.vl_parse_grammar.proofs.StmtReads.{by_brace, by_semicolon, by_attribute}
use Rattle.vl_parse_grammar.proofs.OneToken.{first, next_first, one_rest, one_kind, one_place, differ, name_same}
use Rattle.vl_parse_grammar.proofs.OneExpr.{by_first, is_select_end}
use Rattle.vl_parse_grammar.proofs.OneAtom.{Closed, closed_by, one_expr, number_one}
use Rattle.vl_parse_grammar.proofs.OneDeclaration.{
  After,
  after_by,
  clash_next,
  some_one,
  is_plain,
  is_no_attribute,
  NoAttribute,
  attributes_one,
  target_one,
}
use Rattle.vl_parse_grammar.proofs.Front.{expr_first, stmt_first}

abbrev pub is_no_else : Kind → Bool
is_no_else t = is_pop (on_otherwise t)

-- no `else` comes next
abbrev pub NoElse : List Token → Type 0
NoElse ts = is_no_else (first ts) ≡ true

pub parens_one : (x y : Expr) (ts us r q : List Token) → ts ≡ us → expr_well.IsWellFormed x → expr_well.IsWellFormed y
    → Spells (parens (expr.spell x)) ts r → Spells (parens (expr.spell y)) us q → (x ≡ y) × (r ≡ q)
parens_one x y ts us r q e w v (m, (m2, h, i), c) (o, (o2, h2, i2), c2) =
    let (same, end) = one_expr x y m2 o2 m o (one_rest _ _ ts us m2 o2 e h h2) w v i i2 (closed_by _ m r c refl refl)
    (closed_by _ o q c2 refl refl) in
    (same, one_rest _ _ m o r q end c c2)

-- labels of blocks
abbrev pub is_colon : Kind → Bool
is_colon (k.Symbol s.Colon) = true
is_colon t = false

pub label_name_one : (v w : Option (List ℕ)) (ts us r q : List Token) → ts ≡ us → Spells (spell_label v) ts r
    → Spells (spell_label w) us q
    → is_colon (first r) ≡ false → is_colon (first q) ≡ false → (v ≡ w) × (r ≡ q)
label_name_one None None ts us r q e h i a b = (refl, sym h ∙ e ∙ i)
label_name_one (Some x) (Some y) ts us r q e (m, h, i) (o, h2, i2) a b = (
  (λ z. Some (name_same x y (one_kind _ _ m o r q (one_rest _ _ ts us m o e h h2) i i2) z)),
  one_rest _ _ m o r q
      (one_rest _ _ ts us m o e h h2) i i2,
)
label_name_one None (Some y) ts us r q e h (o, h2, i2) a b =
    apart (sym a ∙ sym (ap (λ vs. is_colon (first vs)) (sym e ∙ h))
    ∙ ap is_colon (next_first (k.Symbol s.Colon) us o h2))
label_name_one (Some x) None ts us r q e (m, h, i) h2 a b =
    apart (sym b ∙ sym (ap (λ vs. is_colon (first vs)) (e ∙ h2)) ∙ ap is_colon (next_first (k.Symbol s.Colon) ts m h))

begins_no_colon : (t : Kind) → Begins t → is_colon t ≡ false
begins_no_colon _ by_begin = refl
begins_no_colon _ by_if = refl
begins_no_colon _ by_case = refl
begins_no_colon _ by_casez = refl
begins_no_colon _ by_assume = refl
begins_no_colon _ (by_name text) = refl
begins_no_colon _ by_brace = refl
begins_no_colon _ by_semicolon = refl
begins_no_colon _ by_attribute = refl

abbrev is_end : Kind → Bool
is_end (k.Keyword word.End) = true
is_end t = false

begins_no_end : (t : Kind) → Begins t → is_end t ≡ false
begins_no_end _ by_begin = refl
begins_no_end _ by_if = refl
begins_no_end _ by_case = refl
begins_no_end _ by_casez = refl
begins_no_end _ by_assume = refl
begins_no_end _ (by_name text) = refl
begins_no_end _ by_brace = refl
begins_no_end _ by_semicolon = refl
begins_no_end _ by_attribute = refl

abbrev is_default : Kind → Bool
is_default (k.Keyword word.Default) = true
is_default t = false

-- what a statement is by its first token behind its attributes
abbrev class : Kind → ℕ
class (k.Keyword word.Begin) = 0
class (k.Keyword word.If) = 1
class (k.Keyword word.Case) = 2
class (k.Keyword word.Casez) = 2
class (k.Name text) = 3
class (k.Symbol s.OpenBrace) = 3
class (k.Keyword word.Assume) = 4
class (k.Symbol s.Semicolon) = 5
class t = 6

abbrev which : Stmt → ℕ
which (begin attrs p name x) = 0
which (if_only attrs p x y) = 1
which (if_else attrs p x y z) = 1
which (case attrs p kind x xs) = 2
which (assign attrs p l kind x) = 3
which (assume attrs p x) = 4
which (empty attrs p) = 5

abbrev attributes_of : Stmt → Attributes
attributes_of (begin attrs p name x) = attrs
attributes_of (if_only attrs p x y) = attrs
attributes_of (if_else attrs p x y z) = attrs
attributes_of (case attrs p kind x xs) = attrs
attributes_of (assign attrs p l kind x) = attrs
attributes_of (assume attrs p x) = attrs
attributes_of (empty attrs p) = attrs

attributes_formed : (x : Stmt) → IsWellFormed x → AreAttributes (attributes_of x)
attributes_formed (begin attrs p name x) w = w.0
attributes_formed (if_only attrs p x y) w = w.0
attributes_formed (if_else attrs p x y z) w = w.0
attributes_formed (case attrs p kind x xs) w = w.0
attributes_formed (assign attrs p l kind x) w = w.0
attributes_formed (assume attrs p x) w = w.0
attributes_formed (empty attrs p) w = w

class_case : (kind : CaseKind) → class (k.Keyword (case_word kind)) ≡ 2
class_case c.Case = refl
class_case c.Casez = refl

class_target : (l : Lval) (ts r : List Token) → Spells (lval.spell l) ts r → class (first ts) ≡ 3
class_target (named p text ss) ts r (g, (m, h, i)) = ap class (next_first (k.Name text) ts m h)
class_target (joined p ls) ts r (g, (m, (m2, h, i), c)) = ap class (next_first (k.Symbol s.OpenBrace) ts m2 h)

record Behind (x : Stmt) (ts : List Token) : Type 0 where
  middle : List Token
  attributes : Spells (spell_attributes (attributes_of x)) ts middle
  kind : class (first middle) ≡ which x

behind : (x : Stmt) (ts r : List Token) → Spells (spell x) ts r → Behind x ts
behind (begin attrs p name x) ts r (m, h, (g, (m2, (m3, i, j), c))) =
    record { middle = m; attributes = h; kind = ap class (next_first (k.Keyword word.Begin) m m3 i) }
behind (if_only attrs p x y) ts r (m, h, (g, (m2, i, j))) =
    record { middle = m; attributes = h; kind = ap class (next_first (k.Keyword word.If) m m2 i) }
behind (if_else attrs p x y z) ts r (m, h, (g, (m2, i, j))) =
    record { middle = m; attributes = h; kind = ap class (next_first (k.Keyword word.If) m m2 i) }
behind (case attrs p kind x xs) ts r (m, h, (g, (m2, (m3, i, j), c))) =
    record {
      middle = m;
      attributes = h;
      kind = ap class (next_first (k.Keyword (case_word kind)) m m3 i)
          ∙ class_case kind;
    }
behind (assign attrs p l kind x) ts r (m, h, (g, (m2, i, j))) =
    record { middle = m; attributes = h; kind = class_target l m m2 i }
behind (assume attrs p x) ts r (m, h, (g, (m2, i, j))) =
    record { middle = m; attributes = h; kind = ap class (next_first (k.Keyword word.Assume) m m2 i) }
behind (empty attrs p) ts r (m, h, (g, i)) =
    record { middle = m; attributes = h; kind = ap class (next_first (k.Symbol s.Semicolon) m r i) }

abbrev below_six : ℕ → Bool
below_six (suc (suc (suc (suc (suc (suc n)))))) = false
below_six n = true

class_no_attribute : (t : Kind) → below_six (class t) ≡ true → is_no_attribute t ≡ true
class_no_attribute (k.Symbol s.OpenAttribute) h = apart h
class_no_attribute (k.Symbol x) h = refl
class_no_attribute t h = refl

which_below : (x : Stmt) → below_six (which x) ≡ true
which_below (begin attrs p name x) = refl
which_below (if_only attrs p x y) = refl
which_below (if_else attrs p x y z) = refl
which_below (case attrs p kind x xs) = refl
which_below (assign attrs p l kind x) = refl
which_below (assume attrs p x) = refl
which_below (empty attrs p) = refl

no_attribute : (x : Stmt) (ts : List Token) (f : Behind x ts) → NoAttribute f.middle
no_attribute x ts f = class_no_attribute (first f.middle) (ap below_six f.kind ∙ which_below x)

which_same : (x y : Stmt) (ts us r q : List Token) → ts ≡ us → IsWellFormed x → IsWellFormed y
    → Spells (spell x) ts r → Spells (spell y) us q
    → (which x == which y) ≡ true
which_same x y ts us r q e w v h i =
    let f = behind x ts r h in
    let g = behind y us q i in
    let (attrs, same) = attributes_one (attributes_of x) (attributes_of y) ts us f.middle g.middle e
    (attributes_formed x w) (attributes_formed y v)
    f.attributes g.attributes (no_attribute x ts f) (no_attribute y us g) in
    eq-eqb (which x) (which y) (sym f.kind ∙ ap (λ vs. class (first vs)) same ∙ g.kind)

-- the attributes, and what is behind them
start_one : (vs ws : Attributes) (ts us m o : List Token) → ts ≡ us → AreAttributes vs → AreAttributes ws
    → Spells (spell_attributes vs) ts m
    → Spells (spell_attributes ws) us o → is_no_attribute (first m) ≡ true → is_no_attribute (first o) ≡ true
    → (vs ≡ ws) × (m ≡ o)
start_one vs ws ts us m o e w v h i a b = attributes_one vs ws ts us m o e w v h i a b

case_of : Kind → CaseKind
case_of (k.Keyword word.Case) = c.Case
case_of t = c.Casez

case_back : (x : CaseKind) → case_of (k.Keyword (case_word x)) ≡ x
unfolding case_of
case_back c.Case = refl
case_back c.Casez = refl

assign_of : Kind → AssignKind
assign_of (k.Symbol s.Equal) = a.Blocking
assign_of t = a.Nonblocking

assign_back : (x : AssignKind) → assign_of (k.Symbol (assign_sign x)) ≡ x
unfolding assign_of
assign_back a.Blocking = refl
assign_back a.Nonblocking = refl

no_bracket : (x : AssignKind) → is_select_end (k.Symbol (assign_sign x)) ≡ true
no_bracket a.Blocking = refl
no_bracket a.Nonblocking = refl

no_attribute_case : (x : CaseKind) → is_no_attribute (k.Keyword (case_word x)) ≡ true
no_attribute_case c.Case = refl
no_attribute_case c.Casez = refl

no_attribute_target : (l : Lval) (ts r : List Token) → Spells (lval.spell l) ts r → is_no_attribute (first ts) ≡ true
no_attribute_target (named p text ss) ts r (g, (m, h, i)) = by_first is_no_attribute (k.Name text) ts m h refl
no_attribute_target (joined p ls) ts r (g, (m, (m2, h, i), c)) =
    by_first is_no_attribute (k.Symbol s.OpenBrace) ts m2 h refl

-- labels of arms
plain_number : (n : Number) (x : Expr) (ts us m r : List Token) → IsNext (k.Number n) ts m → ts ≡ us
    → expr_well.IsWellFormed x
    → Spells (expr.spell x) us r → expr_well.IsKnown n
plain_number n x ts us m r h e w i =
    subst Plain (sym (ap first e) ∙ next_first (k.Number n) ts m h) (expr_first x us r w i)

casez_one : (x y : Expr) (ts us r q : List Token) → ts ≡ us → IsLabel c.Casez x → IsLabel c.Casez y
    → Spells (expr.spell x) ts r
    → Spells (expr.spell y) us q → Closed r → Closed q → (x ≡ y) × (r ≡ q)
casez_one (tree.number p x) (tree.number p2 y) ts us r q e w v (g, h) (g2, i) f f2 = (
  (λ z. tree.number (one_place p p2 ts us e g g2 z)
      (number_one x y (one_kind _ _ ts us r q e h i) z)),
  one_rest _ _ ts us r q e h i,
)
casez_one (tree.number p x) y ts us r q e w v (g, h) i f f2 =
    one_expr (tree.number p x) y ts us r q e (plain_number x y ts us r q h e v i) v (g, h) i f f2
casez_one x (tree.number p y) ts us r q e w v h (g, i) f f2 =
    one_expr x (tree.number p y) ts us r q e w (plain_number y x us ts q r i (sym e) w h) h (g, i) f f2
casez_one x y ts us r q e w v h i f f2 = one_expr x y ts us r q e w v h i f f2

label_one : (kind : CaseKind) (x y : Expr) (ts us r q : List Token) → ts ≡ us → IsLabel kind x → IsLabel kind y
    → Spells (spell_one_label x) ts r → Spells (spell_one_label y) us q → After r → After q → (x ≡ y) × (r ≡ q)
label_one c.Case x y ts us r q e w v h i f f2 = one_expr x y ts us r q e w v h i (f.0, f.1) (f2.0, f2.1)
label_one c.Casez x y ts us r q e w v h i f f2 = casez_one x y ts us r q e w v h i (f.0, f.1) (f2.0, f2.1)

labels_one : (kind : CaseKind) (es fs : List Expr) (ts us m o r q : List Token) → ts ≡ us
    → AreSome (λ x. IsLabel kind x) es
    → AreSome (λ x. IsLabel kind x) fs → Spells (between_commas spell_one_label es) ts m
    → Spells (between_commas spell_one_label fs) us o
    → IsNext (k.Symbol s.Colon) m r → IsNext (k.Symbol s.Colon) o q → (es ≡ fs) × (r ≡ q)
labels_one kind es fs ts us m o r q e w v h i a b =
    some_one spell_one_label (λ x. IsLabel kind x) (k.Symbol s.Colon) refl
    (λ vs us f. after_by (k.Symbol s.Colon) vs us f refl refl refl refl)
    (label_one kind) es fs ts us m o r q e w v h i a b

plain_first : (t : Kind) → Plain t → is_plain t ≡ true
plain_first (k.Keyword x) h = absurd h
plain_first t h = refl

label_plain : (kind : CaseKind) (x : Expr) (ts r : List Token) → IsLabel kind x → Spells (spell_one_label x) ts r
    → is_plain (first ts) ≡ true
label_plain c.Casez (tree.number p n) ts r w (g, h) = by_first is_plain (k.Number n) ts r h refl
label_plain c.Case x ts r w h = plain_first (first ts) (expr_first x ts r w h)
label_plain c.Casez x ts r w h = plain_first (first ts) (expr_first x ts r w h)

labels_plain : (kind : CaseKind) (es : List Expr) (ts m : List Token) → AreSome (λ x. IsLabel kind x) es
    → Spells (between_commas spell_one_label es) ts m → is_plain (first ts) ≡ true
labels_plain kind [] ts m w h = absurd (omega (arith, w.0))
labels_plain kind (x ∷ es) ts m w (m2, h, i) = label_plain kind x ts m2 (head_of x es w.1) h
  where
    head_of : (x : Expr) (es : List Expr) → All (λ y. IsLabel kind y) (x ∷ es) → IsLabel kind x
    head_of x es w = w 0 x (omega arith)

colon_one : (b d : Bool) (x y : Stmt) (ts us m o r q : List Token) → ts ≡ us → Spells (spell_colon b) ts m
    → Spells (spell_colon d) us o
    → Spells (spell x) m r → Spells (spell y) o q → (b ≡ d) × (m ≡ o)
colon_one true true x y ts us m o r q e h i j l = (refl, one_rest _ _ ts us m o e h i)
colon_one false false x y ts us m o r q e h i j l = (refl, sym h ∙ e ∙ i)
colon_one true false x y ts us m o r q e h i j l =
    apart (sym (begins_no_colon (first o) (stmt_first y o q l)) ∙ sym (ap (λ vs. is_colon (first vs)) (e ∙ i))
    ∙ ap is_colon (next_first (k.Symbol s.Colon) ts m h))
colon_one false true x y ts us m o r q e h i j l =
    apart (sym (begins_no_colon (first m) (stmt_first x m r j)) ∙ sym (ap (λ vs. is_colon (first vs)) (sym e ∙ h))
    ∙ ap is_colon (next_first (k.Symbol s.Colon) us o i))

-- no `else` comes behind an arm or a statement of a block
arms_no_else : (kind : CaseKind) (x : Arms) (ts m r : List Token) → AreArms kind x → Spells (spell_arms x) ts m
    → IsNext (k.Keyword word.Endcase) m r → NoElse ts
arms_no_else kind no_arms ts m r w h i =
    ap (λ us. is_no_else (first us)) h ∙ by_first is_no_else (k.Keyword word.Endcase) m r i refl
arms_no_else kind (labels p es x xs) ts m r w (m2, (g, (m3, h, j)), l) i =
    plain_no_else (first ts) (labels_plain kind es ts m3 w.0 h)
  where
    plain_no_else : (t : Kind) → is_plain t ≡ true → is_no_else t ≡ true
    plain_no_else (k.Keyword y) h = apart h
    plain_no_else t h = refl
arms_no_else kind (default p colon x xs) ts m r w (m2, (g, (m3, h, j)), l) i =
    by_first is_no_else (k.Keyword word.Default) ts m3 h refl

begins_no_else : (t : Kind) → Begins t → is_no_else t ≡ true
begins_no_else _ by_begin = refl
begins_no_else _ by_if = refl
begins_no_else _ by_case = refl
begins_no_else _ by_casez = refl
begins_no_else _ by_assume = refl
begins_no_else _ (by_name text) = refl
begins_no_else _ by_brace = refl
begins_no_else _ by_semicolon = refl
begins_no_else _ by_attribute = refl

stmts_no_else : (x : Stmts) (ts m r : List Token) → Spells (spell_all x) ts m → IsNext (k.Keyword word.End) m r
    → NoElse ts
stmts_no_else no_stmts ts m r h i =
    ap (λ us. is_no_else (first us)) h ∙ by_first is_no_else (k.Keyword word.End) m r i refl
stmts_no_else (more_stmts x xs) ts m r (m2, h, j) i = begins_no_else (first ts) (stmt_first x ts m2 h)

stmts_no_colon : (x : Stmts) (ts m r : List Token) → Spells (spell_all x) ts m → IsNext (k.Keyword word.End) m r
    → is_colon (first ts) ≡ false
stmts_no_colon no_stmts ts m r h i =
    ap (λ us. is_colon (first us)) h ∙ ap is_colon (next_first (k.Keyword word.End) m r i)
stmts_no_colon (more_stmts x xs) ts m r (m2, h, j) i = begins_no_colon (first ts) (stmt_first x ts m2 h)

pub no_open : {A : Type 0} (b : Bool) → b ≡ false → b ≡ true → A
no_open b h i = apart (sym h ∙ i)

mutual
  pub one_stmt : (x y : Stmt) (ts us r q : List Token) → ts ≡ us → IsWellFormed x → IsWellFormed y
      → Spells (spell x) ts r → Spells (spell y) us q
      → (ends_open x ≡ true → NoElse r) → (ends_open y ≡ true → NoElse q) → (x ≡ y) × (r ≡ q)
  one_stmt (begin vs p name x) (begin ws p2 name2 y) ts us r q e w v
      (m, h, (g, (m2, (m3, i, (m4, j, l)), c))) (o, h2, (g2, (o2, (o3, i2, (o4, j2, l2)), c2))) f f2 =
      let (attrs, start) = start_one vs ws ts us m o e w.0 v.0 h h2 (by_first is_no_attribute _ m m3 i refl)
      (by_first is_no_attribute _ o o3 i2 refl) in
      let (names, inner) = label_name_one name name2 m3 o3 m4 o4 (one_rest _ _ m o m3 o3 start i i2) j j2
      (stmts_no_colon x m4 m2 r l c) (stmts_no_colon y o4 o2 q l2 c2) in
      let (same, end) = one_stmts x y m4 o4 m2 o2 r q inner w.2 v.2 l l2 c c2 in
      ((λ z. begin (attrs z) (one_place p p2 m o start g g2 z) (names z) (same z)), end)
  one_stmt (if_only vs p x y) (if_only ws p2 x2 y2) ts us r q e w v (m, h, (g, (m2, i, (m3, j, l))))
      (o, h2, (g2, (o2, i2, (o3, j2, l2)))) f f2 =
      let (attrs, start) = start_one vs ws ts us m o e w.0 v.0 h h2 (by_first is_no_attribute _ m m2 i refl)
      (by_first is_no_attribute _ o o2 i2 refl) in
      let (condition, inner) = parens_one x x2 m2 o2 m3 o3 (one_rest _ _ m o m2 o2 start i i2) w.1 v.1 j j2 in
      let (same, end) = one_stmt y y2 m3 o3 r q inner w.2 v.2 l l2 (λ z. f refl) (λ z. f2 refl) in
      ((λ z. if_only (attrs z) (one_place p p2 m o start g g2 z) (condition z) (same z)), end)
  one_stmt (if_else vs p x y y3) (if_else ws p2 x2 y2 y4) ts us r q e w v
      (m, h, (g, (m2, i, (m3, j, (m4, l, (m5, c, d))))))
      (o, h2, (g2, (o2, i2, (o3, j2, (o4, l2, (o5, c2, d2)))))) f f2 =
      let (attrs, start) = start_one vs ws ts us m o e w.0 v.0 h h2 (by_first is_no_attribute _ m m2 i refl)
      (by_first is_no_attribute _ o o2 i2 refl) in
      let (condition, inner) = parens_one x x2 m2 o2 m3 o3 (one_rest _ _ m o m2 o2 start i i2) w.1 v.1 j j2 in
      let (same, middle) = one_stmt y y2 m3 o3 m4 o4 inner w.3 v.3 l l2 (λ z. no_open (ends_open y) w.2 z)
      (λ z. no_open (ends_open y2) v.2 z) in
      let (other, end) = one_stmt y3 y4 m5 o5 r q (one_rest _ _ m4 o4 m5 o5 middle c c2) w.4 v.4 d d2 f f2 in
      ((λ z. if_else (attrs z) (one_place p p2 m o start g g2 z) (condition z) (same z) (other z)), end)
  one_stmt (if_only vs p x y) (if_else ws p2 x2 y2 y4) ts us r q e w v
      (m, h, (g, (m2, i, (m3, j, l)))) (o, h2, (g2, (o2, i2, (o3, j2, (o4, l2, (o5, c2, d2)))))) f f2 =
      let (attrs, start) = start_one vs ws ts us m o e w.0 v.0 h h2 (by_first is_no_attribute _ m m2 i refl)
      (by_first is_no_attribute _ o o2 i2 refl) in
      let (condition, inner) = parens_one x x2 m2 o2 m3 o3 (one_rest _ _ m o m2 o2 start i i2) w.1 v.1 j j2 in
      let (same, end) = one_stmt y y2 m3 o3 r o4 inner w.2 v.3 l l2 (λ z. f refl) (λ z. no_open (ends_open y2) v.2 z) in
      clash_next is_no_else (k.Keyword word.Else) o4 o5 r c2 (sym end) refl (f refl)
  one_stmt (if_else ws p2 x2 y2 y4) (if_only vs p x y) ts us r q e w v
      (o, h2, (g2, (o2, i2, (o3, j2, (o4, l2, (o5, c2, d2)))))) (m, h, (g, (m2, i, (m3, j, l)))) f f2 =
      let (attrs, start) = start_one ws vs ts us o m e w.0 v.0 h2 h (by_first is_no_attribute _ o o2 i2 refl)
      (by_first is_no_attribute _ m m2 i refl) in
      let (condition, inner) = parens_one x2 x o2 m2 o3 m3 (one_rest _ _ o m o2 m2 start i2 i) w.1 v.1 j2 j in
      let (same, end) = one_stmt y2 y o3 m3 o4 q inner w.3 v.2 l2 l (λ z. no_open (ends_open y2) w.2 z)
      (λ z. f2 refl) in
      clash_next is_no_else (k.Keyword word.Else) o4 o5 q c2 end refl (f2 refl)
  one_stmt (case vs p kind x xs) (case ws p2 kind2 x2 ys) ts us r q e w v
      (m, h, (g, (m2, (m3, i, (m4, j, l)), c))) (o, h2, (g2, (o2, (o3, i2, (o4, j2, l2)), c2))) f f2 =
      let (attrs, start) = start_one vs ws ts us m o e w.0 v.0 h h2
      (by_first is_no_attribute _ m m3 i (no_attribute_case kind))
      (by_first is_no_attribute _ o o3 i2 (no_attribute_case kind2)) in
      let kind_same : kind ≡ kind2 = sym (case_back kind) ∙ ap case_of (one_kind _ _ m o m3 o3 start i i2)
      ∙ case_back kind2 in
      let (value, inner) = parens_one x x2 m3 o3 m4 o4 (one_rest _ _ m o m3 o3 start i i2) w.1 v.1 j j2 in
      let (same, end) = one_arms xs ys kind m4 o4 m2 o2 r q inner w.4
      (subst (λ b. AreArms b ys) (sym kind_same) v.4) l l2 c c2 in
      ((λ z. case (attrs z) (one_place p p2 m o start g g2 z) (kind_same z) (value z) (same z)), end)
  one_stmt (assign vs p l kind x) (assign ws p2 l2 kind2 x2) ts us r q e w v
      (m, h, (g, (m2, i, (m3, j, (m4, d, c))))) (o, h2, (g2, (o2, i2, (o3, j2, (o4, d2, c2))))) f f2 =
      let (attrs, start) = start_one vs ws ts us m o e w.0 v.0 h h2 (no_attribute_target l m m2 i)
      (no_attribute_target l2 o o2 i2) in
      let (left, inner) = target_one l l2 m o m2 o2 start w.1 v.1 i i2
      (by_first is_select_end _ m2 m3 j (no_bracket kind)) (by_first is_select_end _ o2 o3 j2 (no_bracket kind2)) in
      let kind_same : kind ≡ kind2 = sym (assign_back kind) ∙ ap assign_of (one_kind _ _ m2 o2 m3 o3 inner j j2)
      ∙ assign_back kind2 in
      let (right, end) = one_expr x x2 m3 o3 m4 o4 (one_rest _ _ m2 o2 m3 o3 inner j j2) w.2 v.2 d d2
      (closed_by _ m4 r c refl refl) (closed_by _ o4 q c2 refl refl) in (
        (λ z. assign (attrs z) (one_place p p2 m o start g g2 z) (left z) (kind_same z)
            (right z)),
        one_rest _ _ m4 o4 r q end c c2,
      )
  one_stmt (assume vs p x) (assume ws p2 x2) ts us r q e w v (m, h, (g, (m2, i, (m3, j, c))))
      (o, h2, (g2, (o2, i2, (o3, j2, c2)))) f f2 =
      let (attrs, start) = start_one vs ws ts us m o e w.0 v.0 h h2 (by_first is_no_attribute _ m m2 i refl)
      (by_first is_no_attribute _ o o2 i2 refl) in
      let (same, end) = parens_one x x2 m2 o2 m3 o3 (one_rest _ _ m o m2 o2 start i i2) w.1 v.1 j j2 in
      ((λ z. assume (attrs z) (one_place p p2 m o start g g2 z) (same z)), one_rest _ _ m3 o3 r q end c c2)
  one_stmt (empty vs p) (empty ws p2) ts us r q e w v (m, h, (g, i)) (o, h2, (g2, i2)) f f2 =
      let (attrs, start) = start_one vs ws ts us m o e w v h h2 (by_first is_no_attribute _ m r i refl)
      (by_first is_no_attribute _ o q i2 refl) in
      ((λ z. empty (attrs z) (one_place p p2 m o start g g2 z)), one_rest _ _ m o r q start i i2)
  one_stmt x y ts us r q e w v h i f f2 = apart (which_same x y ts us r q e w v h i)

  one_stmts : (x y : Stmts) (ts us m o r q : List Token) → ts ≡ us → AreWellFormed x → AreWellFormed y
      → Spells (spell_all x) ts m
      → Spells (spell_all y) us o → IsNext (k.Keyword word.End) m r → IsNext (k.Keyword word.End) o q → (x ≡ y)
      × (r ≡ q)
  one_stmts no_stmts no_stmts ts us m o r q e w v h i a b = (refl, one_rest _ _ m o r q (sym h ∙ e ∙ i) a b)
  one_stmts (more_stmts x xs) (more_stmts y ys) ts us m o r q e w v (m2, h, j) (o2, i, l) a b =
      let (same, middle) = one_stmt x y ts us m2 o2 e w.0 v.0 h i (λ z. stmts_no_else xs m2 m r j a)
      (λ z. stmts_no_else ys o2 o q l b) in
      let (others, end) = one_stmts xs ys m2 o2 m o r q middle w.1 v.1 j l a b in
      ((λ z. more_stmts (same z) (others z)), end)
  one_stmts no_stmts (more_stmts y ys) ts us m o r q e w v h (o2, i, l) a b =
      apart (sym (begins_no_end (first us) (stmt_first y us o2 i)) ∙ ap (λ vs. is_end (first vs)) (sym e ∙ h)
      ∙ ap is_end (next_first (k.Keyword word.End) m r a))
  one_stmts (more_stmts x xs) no_stmts ts us m o r q e w v (m2, h, j) i a b =
      apart (sym (begins_no_end (first ts) (stmt_first x ts m2 h)) ∙ ap (λ vs. is_end (first vs)) (e ∙ i)
      ∙ ap is_end (next_first (k.Keyword word.End) o q b))

  one_arms : (x y : Arms) (kind : CaseKind) (ts us m o r q : List Token) → ts ≡ us → AreArms kind x → AreArms kind y
      → Spells (spell_arms x) ts m
      → Spells (spell_arms y) us o → IsNext (k.Keyword word.Endcase) m r → IsNext (k.Keyword word.Endcase) o q
      → (x ≡ y) × (r ≡ q)
  one_arms no_arms no_arms kind ts us m o r q e w v h i a b = (refl, one_rest _ _ m o r q (sym h ∙ e ∙ i) a b)
  one_arms (labels p es x xs) (labels p2 fs y ys) kind ts us m o r q e w v
      (m2, (g, (m3, h, (m4, c, j))), l) (o2, (g2, (o3, h2, (o4, c2, j2))), l2) a b =
      let (all, inner) = labels_one kind es fs ts us m3 o3 m4 o4 e w.0 v.0 h h2 c c2 in
      let (same, middle) = one_stmt x y m4 o4 m2 o2 inner w.1 v.1 j j2 (λ z. arms_no_else kind xs m2 m r w.2 l a)
      (λ z. arms_no_else kind ys o2 o q v.2 l2 b) in
      let (others, end) = one_arms xs ys kind m2 o2 m o r q middle w.2 v.2 l l2 a b in
      ((λ z. labels (one_place p p2 ts us e g g2 z) (all z) (same z) (others z)), end)
  one_arms (default p colon x xs) (default p2 colon2 y ys) kind ts us m o r q e w v
      (m2, (g, (m3, h, (m4, c, j))), l) (o2, (g2, (o3, h2, (o4, c2, j2))), l2) a b =
      let (colons, inner) = colon_one colon colon2 x y m3 o3 m4 o4 m2 o2 (one_rest _ _ ts us m3 o3 e h h2) c c2 j j2 in
      let (same, middle) = one_stmt x y m4 o4 m2 o2 inner w.0 v.0 j j2 (λ z. arms_no_else kind xs m2 m r w.1 l a)
      (λ z. arms_no_else kind ys o2 o q v.1 l2 b) in
      let (others, end) = one_arms xs ys kind m2 o2 m o r q middle w.1 v.1 l l2 a b in
      ((λ z. default (one_place p p2 ts us e g g2 z) (colons z) (same z) (others z)), end)
  one_arms (labels p es x xs) (default p2 colon2 y ys) kind ts us m o r q e w v
      (m2, (g, (m3, h, (m4, c, j))), l) (o2, (g2, (o3, h2, j2)), l2) a b =
      clash_next is_plain (k.Keyword word.Default) us o3 ts h2 (sym e) refl (labels_plain kind es ts m3 w.0 h)
  one_arms (default p2 colon2 y ys) (labels p es x xs) kind ts us m o r q e w v
      (o2, (g2, (o3, h2, j2)), l2) (m2, (g, (m3, h, (m4, c, j))), l) a b =
      clash_next is_plain (k.Keyword word.Default) ts o3 us h2 e refl (labels_plain kind es us m3 v.0 h)
  one_arms no_arms (labels p es x xs) kind ts us m o r q e w v h2 (m2, (g, (m3, h, (m4, c, j))), l) a b =
      clash_next is_plain (k.Keyword word.Endcase) m r us a (sym h2 ∙ e) refl (labels_plain kind es us m3 v.0 h)
  one_arms (labels p es x xs) no_arms kind ts us m o r q e w v (m2, (g, (m3, h, (m4, c, j))), l) h2 a b =
      clash_next is_plain (k.Keyword word.Endcase) o q ts b (sym h2 ∙ sym e) refl (labels_plain kind es ts m3 w.0 h)
  one_arms no_arms (default p2 colon2 y ys) kind ts us m o r q e w v h (o2, (g2, (o3, h2, j2)), l2) a b =
      differ is_default _ _ us m o3 r (sym e ∙ h) h2 a refl refl
  one_arms (default p2 colon2 y ys) no_arms kind ts us m o r q e w v (o2, (g2, (o3, h2, j2)), l2) h a b =
      differ is_default _ _ ts o o3 q (e ∙ h) h2 b refl refl
