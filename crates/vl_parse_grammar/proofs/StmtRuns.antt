-- Runs over well formed statements are cut off where a construct too many opens.
use Rattle.std.proofs.Common.{◌≡◌, ℕ, zero, suc, ◌+◌, ◌≤◌, Bool, true, false, ◌==◌, ◌&&◌, List, [], ◌∷◌, ◌++◌, length}
use Rattle.std.proofs.Common.{Option, Some, None, refl, sym, ap, ◌∙◌, subst, arith, eq-eqb}
use Rattle.fv_text.specs.declared.keyword.Keyword.TheVariants as word
use Rattle.fv_text.specs.declared.kind.Kind.{Kind}
use Rattle.fv_text.specs.declared.kind.Kind.TheVariants as k
use Rattle.fv_text.specs.declared.number.Number.{Number}
use Rattle.fv_text.specs.declared.symbol.Symbol.TheVariants as s
use Rattle.vl_tree.specs.declared.operator.UnaryOperator.{UnaryOperator}
use Rattle.vl_tree.specs.declared.operator.UnaryOperator.TheVariants as u
use Rattle.vl_tree.specs.declared.stmt.CaseKind.{CaseKind}
use Rattle.vl_tree.specs.declared.stmt.CaseKind.TheVariants as c
use Rattle.vl_tree.specs.declared.stmt.AssignKind.{AssignKind}
use Rattle.vl_tree.specs.declared.stmt.AssignKind.TheVariants as a
use Rattle.vl_tree.specs.DeclarationSpelling.{spell_attributes}
use Rattle.vl_tree.specs.DeclarationWellFormed.{AreSome}
use Rattle.vl_tree.specs.Expr.{Expr, number, paren, unary, binary, conditional, concat, repeat, cast}
use Rattle.vl_tree.specs.Expr as tree
use Rattle.vl_tree.specs.ExprSpelling as expr
use Rattle.vl_tree.specs.ExprWellFormed as expr_well
use Rattle.vl_tree.specs.Lval.{Lval, named, joined, no_lvals, more_lvals}
use Rattle.vl_tree.specs.LvalSpelling as lval
use Rattle.vl_tree.specs.LvalWellFormed as lval_well
use Rattle.vl_tree.specs.Phrase.{Phrase, ◌▸◌, at, level, within, parens, between_commas, with_commas}
use Rattle.vl_tree.specs.Phrase as phrase
use Rattle.vl_tree.specs.Stmt.{Stmt, Stmts, Arms, begin, if_only, if_else, case, assign, assume, empty, no_stmts}
use Rattle.vl_tree.specs.Stmt.{more_stmts, no_arms, labels, default}
use Rattle.vl_tree.specs.StmtSpelling.{spell, spell_all, spell_arms, spell_label, spell_one_label, spell_colon}
use Rattle.vl_tree.specs.StmtSpelling.{assign_sign, case_word}
use Rattle.vl_tree.specs.StmtWellFormed.{IsWellFormed, AreWellFormed, AreArms, AreArmsSome, IsLabel, ends_open}
use Rattle.vl_tree.specs.StmtWellFormed.{default_count}
use Rattle.vl_parse_grammar.specs.Machine.{Row, take, pop, bad, fits, left, placed, taken}
use Rattle.vl_parse_grammar.specs.Grammar as g
use Rattle.vl_parse_grammar.specs.Grammar.{
  Rule,
  Moves,
  plain,
  more,
  selects,
  sign,
  stmt,
  stmts,
  block,
  otherwise,
  arms,
  first_arm,
  label,
  behind_default,
  target,
  targets,
  inside,
  arm_with,
  on_label,
  on_operand,
  on_casez_number,
  if_known,
  is_known,
}
use Rattle.vl_parse_grammar.proofs.Onto.{onto}
use Rattle.vl_parse_grammar.proofs.Steps.{apart}
use Rattle.vl_parse_grammar.proofs.Front.{head}
use Rattle.vl_parse_grammar.proofs.ExprReads.{Leaves, known, cast_same}
use Rattle.vl_parse_grammar.proofs.DeclarationReads.{Behind, behind_target}
use Rattle.vl_parse_grammar.proofs.StmtReads.{Plain, expr_front, Begins, by_begin, by_if, by_case, by_casez, by_assume}
use Rattle.vl_parse_grammar.proofs.StmtReads.{by_name, by_brace, by_semicolon, by_attribute, Front, stmt_front, NoWord}
use Rattle.vl_parse_grammar.proofs.StmtReads.{labels_front, arms_leave, stmts_leave, no_bracket, seen}
use Rattle.vl_parse_grammar.proofs.Measured.{Ran, run, held, opening, has_token, either, open_after, measured}
use Rattle.vl_parse_grammar.proofs.Measured.{opened_run}
use Rattle.vl_parse_grammar.proofs.Measured.{leaves_run, shifted, moved, on_step}
use Rattle.vl_parse_grammar.proofs.ExprRuns.{selects_run, whole_run, parens_run}
use Rattle.vl_parse_grammar.proofs.DeclarationRuns.{behind, list_run, attributed_run, attributes_closed, target_run}
use Rattle.vl_parse_grammar.proofs.DeclarationRuns.{targets_run, target_closed}

-- no construct is open behind a statement
pub stmt_closed : (x : Stmt) (n : ℕ) → open_after (spell x) n ≡ n
stmt_closed (begin attrs p name x) n = attributes_closed attrs n
stmt_closed (if_only attrs p x y) n = attributes_closed attrs n
stmt_closed (if_else attrs p x y z) n = attributes_closed attrs n
stmt_closed (case attrs p kind x xs) n = attributes_closed attrs n
stmt_closed (assign attrs p l kind x) n =
    target_closed l (open_after (spell_attributes attrs) n) ∙ attributes_closed attrs n
stmt_closed (assume attrs p x) n = attributes_closed attrs n
stmt_closed (empty attrs p) n = attributes_closed attrs n

-- a rule that goes on as others do wherever a statement begins
abbrev Stands : Rule → (ℕ → Row Rule → Row Rule) → Type 0
Stands x row = (t : Kind) → Begins t → (room : ℕ) (xs : Row Rule) (ts : List Kind)
    → run ((x, room) ∷ xs) (t ∷ ts) ≡ run (row room xs) (t ∷ ts)

abbrev listed : ℕ → Row Rule → Row Rule
listed n xs = (stmt, n) ∷ (stmts, n) ∷ xs

abbrev alone : ℕ → Row Rule → Row Rule
alone n xs = (stmt, n) ∷ xs

in_stmts : Stands stmts listed
in_stmts _ by_begin room xs ts = refl
in_stmts _ by_if room xs ts = refl
in_stmts _ by_case room xs ts = refl
in_stmts _ by_casez room xs ts = refl
in_stmts _ by_assume room xs ts = refl
in_stmts _ (by_name text) room xs ts = refl
in_stmts _ by_brace room xs ts = refl
in_stmts _ by_semicolon room xs ts = refl
in_stmts _ by_attribute room xs ts = refl

in_block : Stands block listed
in_block _ by_begin room xs ts = refl
in_block _ by_if room xs ts = refl
in_block _ by_case room xs ts = refl
in_block _ by_casez room xs ts = refl
in_block _ by_assume room xs ts = refl
in_block _ (by_name text) room xs ts = refl
in_block _ by_brace room xs ts = refl
in_block _ by_semicolon room xs ts = refl
in_block _ by_attribute room xs ts = refl

in_default : Stands behind_default alone
in_default _ by_begin room xs ts = refl
in_default _ by_if room xs ts = refl
in_default _ by_case room xs ts = refl
in_default _ by_casez room xs ts = refl
in_default _ by_assume room xs ts = refl
in_default _ (by_name text) room xs ts = refl
in_default _ by_brace room xs ts = refl
in_default _ by_semicolon room xs ts = refl
in_default _ by_attribute room xs ts = refl

stands : (x : Rule) (row : ℕ → Row Rule → Row Rule) → Stands x row → (room : ℕ) (xs : Row Rule) (ts : List Kind)
    → Front ts
    → run ((x, room) ∷ xs) ts ≡ run (row room xs) ts
stands x row h room xs ts f =
    ap (λ us. run ((x, room) ∷ xs) us) f.same ∙ h f.head f.begins room xs f.tail
    ∙ ap (λ us. run (row room xs) us) (sym f.same)

-- labels
abbrev is_take : Moves → Bool
is_take (take opened row) = true
is_take pop = false
is_take bad = false

unary_take : (op : UnaryOperator) → is_take (on_operand plain 0 0 (k.Symbol (expr.unary_sign op))) ≡ true
unary_take u.Plus = refl
unary_take op = refl

expr_take : (x : Expr) (ts : List Kind) → expr_well.IsWellFormed x
    → is_take (on_operand plain 0 0 (head (onto (expr.spell x) ts))) ≡ true
expr_take (number p n) ts w = ap (λ b. is_take (if_known b (take 0 ((more plain 0 0, 0) ∷ [])))) (known n w)
expr_take (tree.name p text ss) ts w = refl
expr_take (paren p x) ts w = refl
expr_take (unary p op x) ts w = unary_take op
expr_take (binary p op x y) ts w = expr_take x (k.Symbol (expr.binary_sign op) ∷ onto (expr.spell y) ts) w.2
expr_take (conditional p x y z) ts w =
    expr_take x (k.Symbol s.Question ∷ onto (expr.spell y) (k.Symbol s.Colon ∷ onto (expr.spell z) ts)) w.1
expr_take (concat p es) ts w = refl
expr_take (repeat p x es) ts w = refl
expr_take (cast p to x) ts w = ap (λ o. is_take (g.on_cast plain 0 0 o)) (cast_same to)

casez_take : (t : Kind) → Plain t → is_take (on_operand plain 0 0 t) ≡ true → is_take (on_label c.Casez t) ≡ true
casez_take (k.Number n) h e = ap (λ b. is_take (on_casez_number b n)) (eq-eqb n.wild 0 h.0) ∙ e
casez_take (k.Keyword x) h e = absurd h
casez_take t h e = e

wild_take : (n : Number) (b : Bool) → (n.wild == 0) ≡ b → n.unknown ≡ 0 → is_take (on_casez_number b n) ≡ true
wild_take n true e h =
    ap (λ b. is_take (if_known b (take 0 ((more plain 0 0, 0) ∷ [])))) (λ i. e i && eq-eqb n.unknown 0 h i)
wild_take n false e h = ap (λ b. is_take (if_known b (take 0 []))) (eq-eqb n.unknown 0 h)

expr_plain : (x : Expr) (ts : List Kind) → expr_well.IsWellFormed x → Plain (head (onto (expr.spell x) ts))
expr_plain x ts w = (let f = expr_front x ts w in subst Plain (sym (ap head f.same)) f.fine)

label_take : (kind : CaseKind) (x : Expr) (ts : List Kind) → IsLabel kind x
    → is_take (on_label kind (head (onto (expr.spell x) ts))) ≡ true
label_take c.Casez (number p n) ts h = wild_take n (n.wild == 0) refl h
label_take c.Case x ts h = expr_take x ts h
label_take c.Casez x ts h = casez_take (head (onto (expr.spell x) ts)) (expr_plain x ts h) (expr_take x ts h)

as_label : (kind : CaseKind) (t : Kind) → Plain t → (room : ℕ) (xs : Row Rule) (ts : List Kind)
    → run ((label kind, room) ∷ xs) (t ∷ ts) ≡ run ((g.expr, room) ∷ xs) (t ∷ ts)
as_label c.Case t h room xs ts = refl
as_label c.Casez (k.Number n) h room xs ts =
    ap (λ b. on_step ts (moved xs room (k.Number n) (on_casez_number b n))) (eq-eqb n.wild 0 h.0)
as_label c.Casez (k.Keyword x) h room xs ts = absurd h
as_label c.Casez t h room xs ts = refl

label_by : (kind : CaseKind) (x : Expr) (room : ℕ) (xs : Row Rule) (ts : List Kind) → expr_well.IsWellFormed x
    → Behind ts
    → run ((label kind, room) ∷ xs) (onto (spell_one_label x) ts) ≡ measured (spell_one_label x) room 0 ts (run xs ts)
label_by kind x room xs ts w h =
    (let f = expr_front x ts w in
    ap (λ us. run ((label kind, room) ∷ xs) us) f.same ∙ as_label kind f.head f.fine room xs f.tail
    ∙ ap (λ us. run ((g.expr, room) ∷ xs) us) (sym f.same))
    ∙ whole_run x room xs ts w (h.0, h.1)

wild_run : (n : Number) (b : Bool) → (n.wild == 0) ≡ b → (room : ℕ) (xs : Row Rule) (ts : List Kind) → n.unknown ≡ 0
    → Behind ts
    → on_step ts (moved xs room (k.Number n) (on_casez_number b n)) ≡ run xs ts
wild_run n true e room xs ts h f =
    ap (λ b. on_step ts (moved xs room (k.Number n) (if_known b (take 0 ((more plain 0 0, 0) ∷ [])))))
    (λ i. e i && eq-eqb n.unknown 0 h i)
    ∙ leaves_run (more plain 0 0) room xs ts f.1
wild_run n false e room xs ts h f =
    ap (λ b. on_step ts (moved xs room (k.Number n) (if_known b (take 0 [])))) (eq-eqb n.unknown 0 h)

label_run : (kind : CaseKind) (x : Expr) (room : ℕ) (xs : Row Rule) (ts : List Kind) → IsLabel kind x → Behind ts
    → run ((label kind, room) ∷ xs) (onto (spell_one_label x) ts) ≡ measured (spell_one_label x) room 0 ts (run xs ts)
label_run c.Casez (number p n) room xs ts w h = wild_run n (n.wild == 0) refl room xs ts w h
label_run c.Case x room xs ts w h = label_by c.Case x room xs ts w h
label_run c.Casez x room xs ts w h = label_by c.Casez x room xs ts w h

labels_run : (kind : CaseKind) (es : List Expr) (room : ℕ) (xs : Row Rule) (ts : List Kind)
    → AreSome (λ x. IsLabel kind x) es
    → run ((label kind, room) ∷ (g.labels kind, room) ∷ xs)
    (onto (between_commas spell_one_label es) (k.Symbol s.Colon ∷ ts))
    ≡ measured (between_commas spell_one_label es) room 0 (k.Symbol s.Colon ∷ ts) (run ((stmt, room) ∷ xs) ts)
labels_run kind [] room xs ts w = absurd (omega (arith, w.0))
labels_run kind (x ∷ es) room xs ts w =
    list_run spell_one_label (λ y. IsLabel kind y) (g.labels kind) (λ n ys. (label kind, n) ∷ ys)
    (λ n ys. (stmt, n) ∷ ys) (k.Symbol s.Colon)
    (λ n ys us. refl) (λ n ys us. refl) (λ us. (refl, refl, refl, refl)) (λ y n. refl)
    (label_run kind) x es room xs ts w.1

-- arms
placed_inside : (room : ℕ) (row : Row Rule) (kind : CaseKind) (d : Bool) (xs : Row Rule)
    → placed (suc room) (inside row ++ (g.labels kind, 1) ∷ (arms kind d, 0) ∷ []) xs
    ≡ placed room row ((g.labels kind, room) ∷ (arms kind d, suc room) ∷ xs)
placed_inside room [] kind d xs = refl
placed_inside room (x ∷ row) kind d xs = ap (λ r. (x.0, left x.1 room) ∷ r) (placed_inside room row kind d xs)

arm_move : (kind : CaseKind) (d : Bool) (room : ℕ) (xs : Row Rule) (t : Kind) (ts : List Kind) (m : Moves)
    → is_take m ≡ true
    → on_step ts (moved xs room t (arm_with kind d m))
    ≡ held (fits 1 room) (suc (length ts)) (on_step ts
    (moved ((g.labels kind, left 1 room) ∷ (arms kind d, room) ∷ xs) (left 1 room) t m))
arm_move kind d zero xs t ts (take opened row) h = refl
arm_move kind d (suc room) xs t ts (take opened row) h =
    ap (λ j. on_step ts (taken (fits opened room) j)) (placed_inside room row kind d xs)
arm_move kind d room xs t ts pop h = apart h
arm_move kind d room xs t ts bad h = apart h

in_arms : (kind : CaseKind) (d : Bool) (t : Kind) → NoWord t → is_take (on_label kind t) ≡ true
    → (room : ℕ) (xs : Row Rule) (ts : List Kind)
    → run ((arms kind d, room) ∷ xs) (t ∷ ts)
    ≡ held (fits 1 room) (suc (length ts)) (run
    ((label kind, left 1 room) ∷ (g.labels kind, left 1 room) ∷ (arms kind d, room) ∷ xs) (t ∷ ts))
in_arms kind d (k.Keyword x) h e room xs ts = absurd h
in_arms kind d (k.Name text) h e room xs ts = arm_move kind d room xs (k.Name text) ts (on_label kind (k.Name text)) e
in_arms kind d (k.Symbol x) h e room xs ts = arm_move kind d room xs (k.Symbol x) ts (on_label kind (k.Symbol x)) e
in_arms kind d (k.Number x) h e room xs ts = arm_move kind d room xs (k.Number x) ts (on_label kind (k.Number x)) e
in_arms kind d (k.System x) h e room xs ts = arm_move kind d room xs (k.System x) ts (on_label kind (k.System x)) e
in_arms kind d (k.Tick x) h e room xs ts = arm_move kind d room xs (k.Tick x) ts (on_label kind (k.Tick x)) e
in_arms kind d k.Quoted h e room xs ts = arm_move kind d room xs k.Quoted ts (on_label kind k.Quoted) e
in_arms kind d k.Continue h e room xs ts = arm_move kind d room xs k.Continue ts (on_label kind k.Continue) e

in_first : (kind : CaseKind) (t : Kind) → NoWord t → (room : ℕ) (xs : Row Rule) (ts : List Kind)
    → run ((first_arm kind, room) ∷ xs) (t ∷ ts) ≡ run ((arms kind false, room) ∷ xs) (t ∷ ts)
in_first kind (k.Keyword x) h room xs ts = absurd h
in_first kind t h room xs ts = refl

labels_take : (kind : CaseKind) (es : List Expr) (ts : List Kind) → AreSome (λ x. IsLabel kind x) es
    → is_take (on_label kind (head (onto (between_commas spell_one_label es) ts))) ≡ true
labels_take kind [] ts w = absurd (omega (arith, w.0))
labels_take kind (x ∷ es) ts w = label_take kind x (onto (with_commas spell_one_label es) ts) (w.1 0 x (omega arith))

-- an arm with labels, up to its statement
arm_run : (kind : CaseKind) (d : Bool) (es : List Expr) (room : ℕ) (xs : Row Rule) (ts : List Kind) (out : Ran)
    → AreSome (λ x. IsLabel kind x) es
    → (fits 1 room ≡ true → run ((label kind, left 1 room) ∷ (g.labels kind, left 1 room) ∷ (arms kind d, room) ∷ xs)
    (onto (between_commas spell_one_label es) ts) ≡ out)
    → run ((arms kind d, room) ∷ xs) (onto (between_commas spell_one_label es) ts)
    ≡ held (fits 1 room) (length (onto (between_commas spell_one_label es) ts)) out
arm_run kind d es room xs ts out w next =
    (let f = labels_front kind es ts w in
    ap (λ us. run ((arms kind d, room) ∷ xs) us) f.same
    ∙ in_arms kind d f.head f.fine (subst (λ us. is_take (on_label kind (head us)) ≡ true) f.same
    (labels_take kind es ts w)) room xs f.tail
    ∙ (λ i. held (fits 1 room) (length (sym f.same i))
    (run ((label kind, left 1 room) ∷ (g.labels kind, left 1 room) ∷ (arms kind d, room) ∷ xs) (sym f.same i))))
    ∙ by_room (fits 1 room) (length (onto (between_commas spell_one_label es) ts))
    (run ((label kind, left 1 room) ∷ (g.labels kind, left 1 room) ∷ (arms kind d, room) ∷ xs)
    (onto (between_commas spell_one_label es) ts)) out next
  where
    by_room : (b : Bool) (l : ℕ) (x y : Ran) → (b ≡ true → x ≡ y) → held b l x ≡ held b l y
    by_room true l x y h = h refl
    by_room false l x y h = refl

labels_commas : (es : List Expr) (n : ℕ) → open_after (with_commas spell_one_label es) n ≡ n
labels_commas [] n = refl
labels_commas (x ∷ es) n = labels_commas es n

labels_closed : (es : List Expr) (n : ℕ) → open_after (between_commas spell_one_label es) n ≡ n
labels_closed [] n = refl
labels_closed (x ∷ es) n = labels_commas es n

either_true : (b : Bool) → either b true ≡ true
either_true true = refl
either_true false = refl

assigned_run : (kind : AssignKind) (x : Expr) (room : ℕ) (xs : Row Rule) (ts : List Kind) → expr_well.IsWellFormed x
    → run ((g.assign_sign, room) ∷ xs) (k.Symbol (assign_sign kind) ∷ onto (expr.spell x) (k.Symbol s.Semicolon ∷ ts))
    ≡ measured (level (expr.spell x)) room 0 (k.Symbol s.Semicolon ∷ ts) (run xs ts)
assigned_run a.Blocking x room xs ts w =
    whole_run x room ((sign s.Semicolon, room) ∷ xs) (k.Symbol s.Semicolon ∷ ts) w (refl, refl)
assigned_run a.Nonblocking x room xs ts w =
    whole_run x room ((sign s.Semicolon, room) ∷ xs) (k.Symbol s.Semicolon ∷ ts) w (refl, refl)

-- a statement that begins with a target
assign_run : (l : Lval) (room : ℕ) (xs : Row Rule) (ts : List Kind) → lval_well.IsWellFormed l → Leaves selects ts
    → run ((stmt, room) ∷ xs) (onto (lval.spell l) ts)
    ≡ measured (lval.spell l) room 0 ts (run ((g.assign_sign, room) ∷ xs) ts)
assign_run (named p text ss) room xs ts w h =
    selects_run ss room ((g.assign_sign, room) ∷ xs) ts w.1
    ∙ ap (measured (expr.spell_selects ss) room 0 ts) (leaves_run selects room ((g.assign_sign, room) ∷ xs) ts h)
assign_run (joined p no_lvals) room xs ts w h = absurd w.0
assign_run (joined p (more_lvals l ls)) room xs ts w h =
    opened_run 1 room ((target, left 1 room) ∷ (targets, left 1 room) ∷ (g.assign_sign, room) ∷ xs)
    (onto (lval.spell l) (onto (lval.spell_more ls) (k.Symbol s.CloseBrace ∷ ts)))
    (measured (lval.spell_parts (more_lvals l ls)) room 1 (k.Symbol s.CloseBrace ∷ ts)
    (run ((g.assign_sign, room) ∷ xs) ts))
    (λ e. target_run l (left 1 room) ((targets, left 1 room) ∷ (g.assign_sign, room) ∷ xs)
    (onto (lval.spell_more ls) (k.Symbol s.CloseBrace ∷ ts)) w.1.0
    (behind_target ls ts)
    ∙ ap (measured (lval.spell l) (left 1 room) 0 (onto (lval.spell_more ls) (k.Symbol s.CloseBrace ∷ ts)))
    (targets_run ls (left 1 room) ((g.assign_sign, room) ∷ xs) ts w.1.1)
    ∙ behind (lval.spell l) (lval.spell_more ls) (left 1 room) (k.Symbol s.CloseBrace ∷ ts)
    (run ((g.assign_sign, room) ∷ xs) ts) (target_closed l 0)
    ∙ shifted (lval.spell_parts (more_lvals l ls)) 1 room (k.Symbol s.CloseBrace ∷ ts)
    (run ((g.assign_sign, room) ∷ xs) ts) e)

case_at : (kind : CaseKind) (room : ℕ) (xs : Row Rule) (ts : List Kind) (out : Ran)
    → (fits 1 room ≡ true → run ((g.in_parens, left 1 room) ∷ (first_arm kind, left 1 room) ∷ xs) ts ≡ out)
    → run ((stmt, room) ∷ xs) (k.Keyword (case_word kind) ∷ ts) ≡ held (fits 1 room) (suc (length ts)) out
case_at c.Case room xs ts out h =
    opened_run 1 room ((g.in_parens, left 1 room) ∷ (first_arm c.Case, left 1 room) ∷ xs) ts out h
case_at c.Casez room xs ts out h =
    opened_run 1 room ((g.in_parens, left 1 room) ∷ (first_arm c.Casez, left 1 room) ∷ xs) ts out h

as_first : (kind : CaseKind) (x : Arms) (room : ℕ) (xs : Row Rule) (ts : List Kind) → AreArms kind x → AreArmsSome x
    → run ((first_arm kind, room) ∷ xs) (onto (spell_arms x) ts)
    ≡ run ((arms kind false, room) ∷ xs) (onto (spell_arms x) ts)
as_first kind no_arms room xs ts w h = absurd h
as_first kind (labels p es x zs) room xs ts w h =
    (let f = labels_front kind es (k.Symbol s.Colon ∷ onto (spell x) (onto (spell_arms zs) ts)) w.0 in
    ap (λ us. run ((first_arm kind, room) ∷ xs) us) f.same ∙ in_first kind f.head f.fine room xs f.tail
    ∙ ap (λ us. run ((arms kind false, room) ∷ xs) us) (sym f.same))
as_first kind (default p colon x zs) room xs ts w h = refl

block_by : (name : Option (List ℕ)) (x : Stmts) (room : ℕ) (xs : Row Rule) (ts : List Kind) (out : Ran)
    → run ((stmts, room) ∷ xs) (onto (spell_all x) (k.Keyword word.End ∷ ts))
    ≡ measured (spell_all x) room 0 (k.Keyword word.End ∷ ts) out
    → run ((block, room) ∷ xs) (onto (spell_label name) (onto (spell_all x) (k.Keyword word.End ∷ ts)))
    ≡ measured (spell_label name ▸ spell_all x) room 0 (k.Keyword word.End ∷ ts) out
block_by (Some text) x room xs ts out h = h
block_by None no_stmts room xs ts out h = h
block_by None (more_stmts x zs) room xs ts out h =
    (let f = stmt_front x (onto (spell_all zs) (k.Keyword word.End ∷ ts)) in
    stands block listed in_block room xs _ f ∙ sym (stands stmts listed in_stmts room xs _ f))
    ∙ h

colon_by : (colon : Bool) (x : Stmt) (room : ℕ) (xs : Row Rule) (ts : List Kind) (out : Ran)
    → run ((stmt, room) ∷ xs) (onto (spell x) ts) ≡ measured (spell x) room 0 ts out
    → run ((behind_default, room) ∷ xs) (onto (spell_colon colon) (onto (spell x) ts))
    ≡ measured (spell_colon colon ▸ spell x) room 0 ts out
colon_by true x room xs ts out h = h
colon_by false x room xs ts out h = stands behind_default alone in_default room xs _ (stmt_front x ts) ∙ h

mutual
  pub stmt_runs : (x : Stmt) (room : ℕ) (xs : Row Rule) (ts : List Kind) → IsWellFormed x
      → (ends_open x ≡ true → Leaves otherwise ts)
      → run ((stmt, room) ∷ xs) (onto (spell x) ts) ≡ measured (spell x) room 0 ts (run xs ts)
  stmt_runs (begin attrs p name x) room xs ts w n =
      attributed_run stmt refl attrs (at p (within
      (phrase.word word.Begin ▸ spell_label name ▸ spell_all x) ▸ phrase.word word.End)) room xs ts (run xs ts) w.0
      (opened_run 1 room ((block, left 1 room) ∷ xs)
      (onto (spell_label name) (onto (spell_all x) (k.Keyword word.End ∷ ts)))
      (measured (spell_label name ▸ spell_all x) room 1 (k.Keyword word.End ∷ ts) (run xs ts))
      (λ e. block_by name x (left 1 room) xs ts (run xs ts) (stmts_run x (left 1 room) xs ts w.2)
      ∙ shifted (spell_label name ▸ spell_all x) 1 room (k.Keyword word.End ∷ ts) (run xs ts) e))
  stmt_runs (if_only attrs p x y) room xs ts w n =
      attributed_run stmt refl attrs (at p (within
      (phrase.word word.If ▸ parens (expr.spell x) ▸ spell y))) room xs ts (run xs ts) w.0
      (opened_run 1 room ((g.in_parens, left 1 room) ∷ (stmt, left 1 room) ∷ (otherwise, left 1 room) ∷ xs)
      (onto (parens (expr.spell x)) (onto (spell y) ts))
      (measured (parens (expr.spell x) ▸ spell y) room 1 ts (run xs ts))
      (λ e. parens_run x (left 1 room) ((stmt, left 1 room) ∷ (otherwise, left 1 room) ∷ xs) (onto (spell y) ts) w.1
      ∙ ap (measured (parens (expr.spell x)) (left 1 room) 0 (onto (spell y) ts))
      (stmt_runs y (left 1 room) ((otherwise, left 1 room) ∷ xs) ts w.2 (λ o. n refl)
      ∙ ap (measured (spell y) (left 1 room) 0 ts) (leaves_run otherwise (left 1 room) xs ts (n refl)))
      ∙ shifted (parens (expr.spell x) ▸ spell y) 1 room ts (run xs ts) e))
  stmt_runs (if_else attrs p x y z) room xs ts w n =
      attributed_run stmt refl attrs (at p (within
      (phrase.word word.If ▸ parens (expr.spell x) ▸ spell y ▸ phrase.word word.Else ▸ spell z))) room xs ts
      (run xs ts) w.0
      (opened_run 1 room ((g.in_parens, left 1 room) ∷ (stmt, left 1 room) ∷ (otherwise, left 1 room) ∷ xs)
      (onto (parens (expr.spell x)) (onto (spell y) (k.Keyword word.Else ∷ onto (spell z) ts)))
      (measured (parens (expr.spell x) ▸ spell y ▸ phrase.word word.Else ▸ spell z) room 1 ts (run xs ts))
      (λ e. parens_run x (left 1 room) ((stmt, left 1 room) ∷ (otherwise, left 1 room) ∷ xs)
      (onto (spell y) (k.Keyword word.Else ∷ onto (spell z) ts)) w.1
      ∙ ap (measured (parens (expr.spell x)) (left 1 room) 0 (onto (spell y) (k.Keyword word.Else ∷ onto (spell z) ts)))
      (stmt_runs y (left 1 room) ((otherwise, left 1 room) ∷ xs) (k.Keyword word.Else ∷ onto (spell z) ts) w.3
      (λ o. apart (sym w.2 ∙ o))
      ∙ ap (measured (spell y) (left 1 room) 0 (k.Keyword word.Else ∷ onto (spell z) ts))
      (stmt_runs z (left 1 room) xs ts w.4 n)
      ∙ behind (spell y) (phrase.word word.Else ▸ spell z) (left 1 room) ts (run xs ts) (stmt_closed y 0))
      ∙ shifted (parens (expr.spell x) ▸ spell y ▸ phrase.word word.Else ▸ spell z) 1 room ts (run xs ts) e))
  stmt_runs (case attrs p kind x zs) room xs ts w n =
      attributed_run stmt refl attrs (at p (within
      (phrase.word (case_word kind) ▸ parens
      (expr.spell x) ▸ spell_arms zs) ▸ phrase.word word.Endcase)) room xs ts (run xs ts) w.0
      (case_at kind room xs (onto (parens (expr.spell x)) (onto (spell_arms zs) (k.Keyword word.Endcase ∷ ts)))
      (measured (parens (expr.spell x) ▸ spell_arms zs) room 1 (k.Keyword word.Endcase ∷ ts) (run xs ts))
      (λ e. parens_run x (left 1 room) ((first_arm kind, left 1 room) ∷ xs)
      (onto (spell_arms zs) (k.Keyword word.Endcase ∷ ts)) w.1
      ∙ ap (measured (parens (expr.spell x)) (left 1 room) 0 (onto (spell_arms zs) (k.Keyword word.Endcase ∷ ts)))
      (as_first kind zs (left 1 room) xs (k.Keyword word.Endcase ∷ ts) w.4 w.2
      ∙ arms_run zs kind false (left 1 room) xs ts w.4 (omega (arith, w.3)))
      ∙ shifted (parens (expr.spell x) ▸ spell_arms zs) 1 room (k.Keyword word.Endcase ∷ ts) (run xs ts) e))
  stmt_runs (assign attrs p l kind x) room xs ts w n =
      attributed_run stmt refl attrs (at p (lval.spell l ▸ phrase.sign (assign_sign kind) ▸ level
      (expr.spell x) ▸ phrase.sign s.Semicolon)) room xs ts (run xs ts) w.0
      (assign_run l room xs (k.Symbol (assign_sign kind) ∷ onto (expr.spell x) (k.Symbol s.Semicolon ∷ ts)) w.1
      (no_bracket kind (onto (expr.spell x) (k.Symbol s.Semicolon ∷ ts)))
      ∙ ap (measured (lval.spell l) room 0 (k.Symbol (assign_sign kind)
      ∷ onto (expr.spell x) (k.Symbol s.Semicolon ∷ ts))) (assigned_run kind x room xs ts w.2)
      ∙ behind (lval.spell l) (phrase.sign (assign_sign kind) ▸ level
      (expr.spell x) ▸ phrase.sign s.Semicolon) room ts (run xs ts) (target_closed l 0))
  stmt_runs (assume attrs p x) room xs ts w n =
      attributed_run stmt refl attrs (at p (phrase.word word.Assume ▸ parens
      (expr.spell x) ▸ phrase.sign s.Semicolon)) room xs ts (run xs ts) w.0
      (parens_run x room ((sign s.Semicolon, room) ∷ xs) (k.Symbol s.Semicolon ∷ ts) w.1)
  stmt_runs (empty attrs p) room xs ts w n =
      attributed_run stmt refl attrs (at p (phrase.sign s.Semicolon)) room xs ts (run xs ts) w refl

  pub stmts_run : (x : Stmts) (room : ℕ) (xs : Row Rule) (ts : List Kind) → AreWellFormed x
      → run ((stmts, room) ∷ xs) (onto (spell_all x) (k.Keyword word.End ∷ ts))
      ≡ measured (spell_all x) room 0 (k.Keyword word.End ∷ ts) (run xs ts)
  stmts_run no_stmts room xs ts w = refl
  stmts_run (more_stmts x zs) room xs ts w =
      stands stmts listed in_stmts room xs _ (stmt_front x (onto (spell_all zs) (k.Keyword word.End ∷ ts)))
      ∙ stmt_runs x room ((stmts, room) ∷ xs) (onto (spell_all zs) (k.Keyword word.End ∷ ts)) w.0
      (λ o. stmts_leave zs ts)
      ∙ ap (measured (spell x) room 0 (onto (spell_all zs) (k.Keyword word.End ∷ ts))) (stmts_run zs room xs ts w.1)
      ∙ behind (spell x) (spell_all zs) room (k.Keyword word.End ∷ ts) (run xs ts) (stmt_closed x 0)

  arms_run : (x : Arms) (kind : CaseKind) (d : Bool) (room : ℕ) (xs : Row Rule) (ts : List Kind) → AreArms kind x
      → default_count x + seen d ≤ 1
      → run ((arms kind d, room) ∷ xs) (onto (spell_arms x) (k.Keyword word.Endcase ∷ ts))
      ≡ measured (spell_arms x) room 0 (k.Keyword word.Endcase ∷ ts) (run xs ts)
  arms_run no_arms kind d room xs ts w h = refl
  arms_run (labels p es x zs) kind d room xs ts w h =
      arm_run kind d es room xs (k.Symbol s.Colon ∷ onto (spell x) (onto (spell_arms zs) (k.Keyword word.Endcase ∷ ts)))
      (measured (between_commas spell_one_label es ▸ phrase.sign s.Colon ▸ spell x) room 1
      (onto (spell_arms zs) (k.Keyword word.Endcase ∷ ts))
      (measured (spell_arms zs) room 0 (k.Keyword word.Endcase ∷ ts) (run xs ts))) w.0
      (λ e. labels_run kind es (left 1 room) ((arms kind d, room) ∷ xs)
      (onto (spell x) (onto (spell_arms zs) (k.Keyword word.Endcase ∷ ts))) w.0
      ∙ ap (measured (between_commas spell_one_label es) (left 1 room) 0
      (k.Symbol s.Colon ∷ onto (spell x) (onto (spell_arms zs) (k.Keyword word.Endcase ∷ ts))))
      (stmt_runs x (left 1 room) ((arms kind d, room) ∷ xs) (onto (spell_arms zs) (k.Keyword word.Endcase ∷ ts)) w.1
      (λ o. arms_leave kind zs ts w.2)
      ∙ ap (measured (spell x) (left 1 room) 0 (onto (spell_arms zs) (k.Keyword word.Endcase ∷ ts)))
      (arms_run zs kind d room xs ts w.2 h))
      ∙ behind (between_commas spell_one_label es) (phrase.sign s.Colon ▸ spell x) (left 1 room)
      (onto (spell_arms zs) (k.Keyword word.Endcase ∷ ts))
      (measured (spell_arms zs) room 0 (k.Keyword word.Endcase ∷ ts) (run xs ts)) (labels_closed es 0)
      ∙ shifted (between_commas spell_one_label es ▸ phrase.sign s.Colon ▸ spell x) 1 room
      (onto (spell_arms zs) (k.Keyword word.Endcase ∷ ts))
      (measured (spell_arms zs) room 0 (k.Keyword word.Endcase ∷ ts) (run xs ts)) e)
      ∙ ap (λ b. opening b (fits 1 room) (length
      (onto (between_commas spell_one_label es)
      (k.Symbol s.Colon ∷ onto (spell x) (onto (spell_arms zs) (k.Keyword word.Endcase ∷ ts)))))
      (measured (between_commas spell_one_label es ▸ phrase.sign s.Colon ▸ spell x) room 1
      (onto (spell_arms zs) (k.Keyword word.Endcase ∷ ts))
      (measured (spell_arms zs) room 0 (k.Keyword word.Endcase ∷ ts) (run xs ts))))
      (sym (either_true (has_token (between_commas spell_one_label es))))
  arms_run (default p colon x zs) kind true room xs ts w h = absurd (omega (arith, h))
  arms_run (default p colon x zs) kind false room xs ts w h =
      opened_run 1 room ((behind_default, left 1 room) ∷ (arms kind true, room) ∷ xs)
      (onto (spell_colon colon) (onto (spell x) (onto (spell_arms zs) (k.Keyword word.Endcase ∷ ts))))
      (measured (spell_colon colon ▸ spell x) room 1 (onto (spell_arms zs) (k.Keyword word.Endcase ∷ ts))
      (measured (spell_arms zs) room 0 (k.Keyword word.Endcase ∷ ts) (run xs ts)))
      (λ e. colon_by colon x (left 1 room) ((arms kind true, room) ∷ xs)
      (onto (spell_arms zs) (k.Keyword word.Endcase ∷ ts))
      (run ((arms kind true, room) ∷ xs) (onto (spell_arms zs) (k.Keyword word.Endcase ∷ ts)))
      (stmt_runs x (left 1 room) ((arms kind true, room) ∷ xs)
      (onto (spell_arms zs) (k.Keyword word.Endcase ∷ ts)) w.0 (λ o. arms_leave kind zs ts w.1))
      ∙ ap (measured (spell_colon colon ▸ spell x) (left 1 room) 0 (onto (spell_arms zs) (k.Keyword word.Endcase ∷ ts)))
      (arms_run zs kind true room xs ts w.1 (omega (arith, h)))
      ∙ shifted (spell_colon colon ▸ spell x) 1 room (onto (spell_arms zs) (k.Keyword word.Endcase ∷ ts))
      (measured (spell_arms zs) room 0 (k.Keyword word.Endcase ∷ ts) (run xs ts)) e)
