-- What the machine reads as a statement is spelled by a well formed tree; an `else` goes to the nearest `if`.
use Rattle.std.proofs.Common.{◌≡◌, ℕ, zero, suc, ◌+◌, ◌≤◌, Bool, true, false, ◌==◌, List, [], ◌∷◌, ◌++◌, Option, Some}
use Rattle.std.proofs.Common.{None, refl, sym, ap, ◌∙◌, subst, arith, eqb-true}
use Rattle.std.specs.Prelude.{All}
use Rattle.std.proofs.lemmas.List.Elements.{All-cons, All-nil}
use Rattle.fv_text.specs.declared.keyword.Keyword.TheVariants as word
use Rattle.fv_text.specs.declared.kind.Kind.{Kind}
use Rattle.fv_text.specs.declared.kind.Kind.TheVariants as k
use Rattle.fv_text.specs.declared.number.Number.{Number}
use Rattle.fv_text.specs.declared.symbol.Symbol.TheVariants as s
use Rattle.vl_tree.specs.declared.attribute.AttributeInstance.{AttributeInstance}
use Rattle.vl_tree.specs.declared.stmt.CaseKind.{CaseKind}
use Rattle.vl_tree.specs.declared.stmt.CaseKind.TheVariants as c
use Rattle.vl_tree.specs.declared.stmt.AssignKind.{AssignKind}
use Rattle.vl_tree.specs.declared.stmt.AssignKind.TheVariants as a
use Rattle.vl_tree.specs.DeclarationSpelling.{spell_instance}
use Rattle.vl_tree.specs.DeclarationWellFormed.{AreAttributes, IsInstance}
use Rattle.vl_tree.specs.Expr as e
use Rattle.vl_tree.specs.Expr.{Expr}
use Rattle.vl_tree.specs.ExprSpelling as expr
use Rattle.vl_tree.specs.ExprWellFormed as expr_well
use Rattle.vl_tree.specs.ExprWellFormed.{IsName}
use Rattle.vl_tree.specs.Lval.{Lval, named, joined, more_lvals}
use Rattle.vl_tree.specs.LvalSpelling as lval
use Rattle.vl_tree.specs.LvalWellFormed as lval_well
use Rattle.vl_tree.specs.Phrase.{with_commas}
use Rattle.vl_tree.specs.Stmt as tree
use Rattle.vl_tree.specs.Stmt.{Stmt, Stmts, Arms, begin, if_only, if_else, case, assign, assume, empty, no_stmts}
use Rattle.vl_tree.specs.Stmt.{more_stmts}
use Rattle.vl_tree.specs.StmtSpelling.{spell, spell_all, spell_arms, spell_label, spell_one_label, spell_colon}
use Rattle.vl_tree.specs.StmtSpelling.{assign_sign, case_word}
use Rattle.vl_tree.specs.StmtWellFormed.{IsWellFormed, AreWellFormed, AreArms, AreArmsSome, IsLabel, IsOptionalName}
use Rattle.vl_tree.specs.StmtWellFormed.{ends_open, default_count}
use Rattle.vl_parse_grammar.specs.Machine.{Row, take, pop, bad, symbols}
use Rattle.vl_parse_grammar.specs.Grammar as g
use Rattle.vl_parse_grammar.specs.Grammar.{
  Rule,
  Moves,
  selects,
  sign,
  stmt,
  stmts,
  block,
  otherwise,
  arms,
  first_arm,
  label,
  labels,
  behind_default,
  target,
  targets,
  inside,
  arm_with,
  on_label,
  on_stmt,
  on_wild,
  on_casez_number,
  if_known,
}
use Rattle.vl_parse_grammar.proofs.Named.{Named, Derives, plain}
use Rattle.vl_parse_grammar.proofs.Onto.{onto}
use Rattle.vl_parse_grammar.proofs.Steps.{apart}
use Rattle.vl_parse_grammar.proofs.ExprReads.{Leaves}
use Rattle.vl_parse_grammar.proofs.StmtReads.{seen}
use Rattle.vl_parse_grammar.proofs.Spine.{nowhere}
use Rattle.vl_parse_grammar.proofs.TokenTrees.{Moved, sign_tree, name_tree}
use Rattle.vl_parse_grammar.proofs.ExprTrees.{expr_tree, selects_tree, parens_tree}
use Rattle.vl_parse_grammar.proofs.DeclarationTrees.{Turn, Split, many_split, last_of, attributed_tree, target_tree}
use Rattle.vl_parse_grammar.proofs.DeclarationTrees.{targets_tree}

pub record FoundStmt (ts ks : List Kind) : Type 0 where
  pub tree : Stmt
  pub same : ts ≡ onto (spell tree) ks
  pub formed : IsWellFormed tree
  pub closed : ends_open tree ≡ true → Leaves otherwise ks

pub record FoundStmts (ts ks : List Kind) : Type 0 where
  pub trees : Stmts
  pub same : ts ≡ onto (spell_all trees) (k.Keyword word.End ∷ ks)
  pub formed : AreWellFormed trees

record FoundBlock (ts ks : List Kind) : Type 0 where
  name : Option (List ℕ)
  trees : Stmts
  same : ts ≡ onto (spell_label name) (onto (spell_all trees) (k.Keyword word.End ∷ ks))
  named : IsOptionalName name
  formed : AreWellFormed trees

data Otherwise (ts ks : List Kind) : Type 0 where
  no_else : ts ≡ ks → Leaves otherwise ks → Otherwise ts ks
  an_else : (x : Stmt) → ts ≡ k.Keyword word.Else ∷ onto (spell x) ks → IsWellFormed x
      → (ends_open x ≡ true → Leaves otherwise ks)
      → Otherwise ts ks

record FoundArms (kind : CaseKind) (d : Bool) (ts ks : List Kind) : Type 0 where
  trees : Arms
  same : ts ≡ onto (spell_arms trees) (k.Keyword word.Endcase ∷ ks)
  formed : AreArms kind trees
  few : default_count trees + seen d ≤ 1

record FirstArms (kind : CaseKind) (ts ks : List Kind) : Type 0 where
  trees : Arms
  same : ts ≡ onto (spell_arms trees) (k.Keyword word.Endcase ∷ ks)
  some : AreArmsSome trees
  formed : AreArms kind trees
  few : default_count trees ≤ 1

record FoundDefault (ts ks : List Kind) : Type 0 where
  colon : Bool
  tree : Stmt
  same : ts ≡ onto (spell_colon colon) (onto (spell tree) ks)
  formed : IsWellFormed tree

record FoundLabel (kind : CaseKind) (ts ks : List Kind) : Type 0 where
  tree : Expr
  same : ts ≡ onto (expr.spell tree) ks
  formed : IsLabel kind tree

-- the labels behind the first one, and the statement
record FoundLabels (kind : CaseKind) (ts ks : List Kind) : Type 0 where
  others : List Expr
  tree : Stmt
  same : ts ≡ onto (with_commas spell_one_label others) (k.Symbol s.Colon ∷ onto (spell tree) ks)
  fine : All (λ x. IsLabel kind x) others
  formed : IsWellFormed tree

abbrev StmtAt : ℕ → Type 0
StmtAt d = (ts rest : List Named) → Derives d stmt ts rest → FoundStmt (plain ts) (plain rest)

abbrev StmtsAt : ℕ → Type 0
StmtsAt d = (ts rest : List Named) → Derives d stmts ts rest → FoundStmts (plain ts) (plain rest)

abbrev BlockAt : ℕ → Type 0
BlockAt d = (ts rest : List Named) → Derives d block ts rest → FoundBlock (plain ts) (plain rest)

abbrev OtherwiseAt : ℕ → Type 0
OtherwiseAt d = (ts rest : List Named) → Derives d otherwise ts rest → Otherwise (plain ts) (plain rest)

abbrev ArmsAt : ℕ → Type 0
ArmsAt d = (kind : CaseKind) (b : Bool) (ts rest : List Named) → Derives d (arms kind b) ts rest
    → FoundArms kind b (plain ts) (plain rest)

abbrev FirstAt : ℕ → Type 0
FirstAt d = (kind : CaseKind) (ts rest : List Named) → Derives d (first_arm kind) ts rest
    → FirstArms kind (plain ts) (plain rest)

abbrev DefaultAt : ℕ → Type 0
DefaultAt d = (ts rest : List Named) → Derives d behind_default ts rest → FoundDefault (plain ts) (plain rest)

abbrev LabelsAt : ℕ → Type 0
LabelsAt d = (kind : CaseKind) (ts rest : List Named) → Derives d (labels kind) ts rest
    → FoundLabels kind (plain ts) (plain rest)

-- attributes before a statement
abbrev with_instance : AttributeInstance → Stmt → Stmt
with_instance i (begin attrs p name xs) = begin (i ∷ attrs) p name xs
with_instance i (if_only attrs p x y) = if_only (i ∷ attrs) p x y
with_instance i (if_else attrs p x y z) = if_else (i ∷ attrs) p x y z
with_instance i (case attrs p kind x xs) = case (i ∷ attrs) p kind x xs
with_instance i (assign attrs p l kind x) = assign (i ∷ attrs) p l kind x
with_instance i (assume attrs p x) = assume (i ∷ attrs) p x
with_instance i (empty attrs p) = empty (i ∷ attrs) p

instance_spelled : (i : AttributeInstance) (x : Stmt) (ks : List Kind)
    → onto (spell_instance i) (onto (spell x) ks) ≡ onto (spell (with_instance i x)) ks
instance_spelled i (begin attrs p name xs) ks = refl
instance_spelled i (if_only attrs p x y) ks = refl
instance_spelled i (if_else attrs p x y z) ks = refl
instance_spelled i (case attrs p kind x xs) ks = refl
instance_spelled i (assign attrs p l kind x) ks = refl
instance_spelled i (assume attrs p x) ks = refl
instance_spelled i (empty attrs p) ks = refl

instance_formed : (i : AttributeInstance) (x : Stmt) → IsInstance i → IsWellFormed x → IsWellFormed (with_instance i x)
instance_formed i (begin attrs p name xs) h w = (All-cons IsInstance i attrs h w.0, w.1, w.2)
instance_formed i (if_only attrs p x y) h w = (All-cons IsInstance i attrs h w.0, w.1, w.2)
instance_formed i (if_else attrs p x y z) h w = (All-cons IsInstance i attrs h w.0, w.1, w.2, w.3, w.4)
instance_formed i (case attrs p kind x xs) h w = (All-cons IsInstance i attrs h w.0, w.1, w.2, w.3, w.4)
instance_formed i (assign attrs p l kind x) h w = (All-cons IsInstance i attrs h w.0, w.1, w.2)
instance_formed i (assume attrs p x) h w = (All-cons IsInstance i attrs h w.0, w.1)
instance_formed i (empty attrs p) h w = All-cons IsInstance i attrs h w

instance_open : (i : AttributeInstance) (x : Stmt) → ends_open (with_instance i x) ≡ ends_open x
instance_open i (begin attrs p name xs) = refl
instance_open i (if_only attrs p x y) = refl
instance_open i (if_else attrs p x y z) = refl
instance_open i (case attrs p kind x xs) = refl
instance_open i (assign attrs p l kind x) = refl
instance_open i (assume attrs p x) = refl
instance_open i (empty attrs p) = refl

pub no_attributes : AreAttributes []
no_attributes = All-nil IsInstance

pub not_open : (b : Bool) → (b ≡ true → false ≡ true) → b ≡ false
not_open true h = apart (h refl)
not_open false h = refl

-- an `if`, where what is behind its statement is known
if_by : (d : ℕ) (ts m m2 rest : List Named) (x : Expr) (y : Stmt)
    → plain ts ≡ k.Symbol s.OpenParen ∷ onto (expr.spell x) (k.Symbol s.CloseParen ∷ plain m)
    → expr_well.IsWellFormed x → plain m ≡ onto (spell y) (plain m2) → IsWellFormed y
    → (ends_open y ≡ true → Leaves otherwise (plain m2))
    → Otherwise (plain m2) (plain rest) → FoundStmt (k.Keyword word.If ∷ plain ts) (plain rest)
if_by d ts m m2 rest x y e w f v o (no_else i n) = record {
  tree = if_only [] nowhere x y;
  same = ap (λ u. k.Keyword word.If ∷ u) (e
      ∙ ap (λ u. k.Symbol s.OpenParen ∷ onto (expr.spell x) (k.Symbol s.CloseParen ∷ u)) (f ∙ ap (onto (spell y)) i));
  formed = (no_attributes, w, v);
  closed = λ r. n;
}
if_by d ts m m2 rest x y e w f v o (an_else z i u n) = record {
  tree = if_else [] nowhere x y z;
  same = ap (λ u. k.Keyword word.If ∷ u) (e
      ∙ ap (λ u. k.Symbol s.OpenParen ∷ onto (expr.spell x) (k.Symbol s.CloseParen ∷ u)) (f ∙ ap (onto (spell y)) i));
  formed = (no_attributes, w, not_open (ends_open y) (λ r. subst (λ us. Leaves otherwise us) i (o r)), v, u);
  closed = n;
}

case_by : (d : ℕ) → FirstAt d → (kind : CaseKind) (ts rest : List Named)
    → Turn d (g.in_parens ∷ first_arm kind ∷ []) ts rest
    → FoundStmt (k.Keyword (case_word kind) ∷ plain ts) (plain rest)
case_by d first kind ts rest (m, h, (m2, i, j)) =
    let x = parens_tree d ts m h in
    let xs = first kind m m2 i in
    record {
      tree = case [] nowhere kind x.tree xs.trees;
      same = ap (λ u. k.Keyword (case_word kind) ∷ u)
          (x.same ∙ ap (λ u. k.Symbol s.OpenParen ∷ onto (expr.spell x.tree) (k.Symbol s.CloseParen ∷ u))
          (xs.same ∙ ap (λ r. onto (spell_arms xs.trees) (k.Keyword word.Endcase ∷ plain r)) j));
      formed = (no_attributes, x.formed, xs.some, xs.few, xs.formed);
      closed = λ r. apart r;
    }

data Assigned (ts ks : List Kind) : Type 0 where
  assigned : (kind : AssignKind) (x : Expr)
      → ts ≡ k.Symbol (assign_sign kind) ∷ onto (expr.spell x) (k.Symbol s.Semicolon ∷ ks)
      → expr_well.IsWellFormed x → Assigned ts ks

in_assigned : (d : ℕ) (kind : AssignKind) (ts rest : List Named) → Turn d (g.expr ∷ sign s.Semicolon ∷ []) ts rest
    → Assigned (k.Symbol (assign_sign kind) ∷ plain ts) (plain rest)
in_assigned d kind ts rest (m, h, (m2, i, j)) =
    let x = expr_tree d ts m h in
    assigned kind x.tree
    (ap (λ u. k.Symbol (assign_sign kind) ∷ u)
    (x.same ∙ ap (onto (expr.spell x.tree)) (sign_tree d s.Semicolon m m2 i
    ∙ ap (λ r. k.Symbol s.Semicolon ∷ plain r) j)))
    x.formed

assigned_tree : (d : ℕ) (ts rest : List Named) → Derives d g.assign_sign ts rest → Assigned (plain ts) (plain rest)
assigned_tree zero ts rest h = absurd h
assigned_tree (suc d) ((k.Symbol s.Equal, w) ∷ ts) rest h = in_assigned d a.Blocking ts rest h
assigned_tree (suc d) ((k.Symbol s.LessEqual, w) ∷ ts) rest h = in_assigned d a.Nonblocking ts rest h
assigned_tree (suc d) [] rest h = apart h.0
assigned_tree (suc d) ((k.Symbol y, w) ∷ ts) rest h = absurd h
assigned_tree (suc d) (t ∷ ts) rest h = absurd h

assign_by : (l : Lval) (ts us ks : List Kind) → ts ≡ onto (lval.spell l) us → lval_well.IsWellFormed l
    → Assigned us ks → FoundStmt ts ks
assign_by l ts us ks e w (assigned kind x f v) = record {
  tree = assign [] nowhere l kind x;
  same = e ∙ ap (onto (lval.spell l)) f;
  formed = (no_attributes, w, v);
  closed = λ r. apart r;
}

stmt_by : (d : ℕ) → StmtAt d → BlockAt d → OtherwiseAt d → FirstAt d → StmtAt (suc d)
stmt_by d one blocks others first ((k.Symbol s.OpenAttribute, w) ∷ ts) rest h =
    let i = attributed_tree d stmt ts rest h in
    let x = one i.middle rest i.others in
    record {
      tree = with_instance i.instance x.tree;
      same = i.same ∙ ap (onto (spell_instance i.instance)) x.same ∙ instance_spelled i.instance x.tree (plain rest);
      formed = instance_formed i.instance x.tree i.formed x.formed;
      closed = λ r. x.closed (sym (instance_open i.instance x.tree) ∙ r);
    }
stmt_by d one blocks others first ((k.Symbol s.Semicolon, w) ∷ ts) rest h = record {
  tree = empty [] nowhere;
  same = ap (λ r. k.Symbol s.Semicolon ∷ plain r) h;
  formed = no_attributes;
  closed = λ r. apart r;
}
stmt_by d one blocks others first ((k.Symbol s.OpenBrace, w) ∷ ts) rest (m, h, (m2, i, (m3, j, l))) =
    let x = target_tree d ts m h in
    let xs = targets_tree d m m2 i in
    subst (λ r. FoundStmt (k.Symbol s.OpenBrace ∷ plain ts) (plain r)) l
    (assign_by (joined nowhere (more_lvals x.tree xs.trees)) (k.Symbol s.OpenBrace ∷ plain ts) (plain m2) (plain m3)
    (ap (λ u. k.Symbol s.OpenBrace ∷ u) (x.same ∙ ap (onto (lval.spell x.tree)) xs.same)) (tt, (x.formed, xs.formed))
    (assigned_tree d m2 m3 j))
stmt_by d one blocks others first ((k.Name text, w) ∷ ts) rest (m, h, (m2, i, j)) =
    let ss = selects_tree d ts m h in
    subst (λ r. FoundStmt (k.Name text ∷ plain ts) (plain r)) j
    (assign_by (named nowhere text ss.trees) (k.Name text ∷ plain ts) (plain m) (plain m2)
    (ap (λ u. k.Name text ∷ u) ss.same) (w, ss.formed)
    (assigned_tree d m m2 i))
stmt_by d one blocks others first ((k.Keyword word.Begin, w) ∷ ts) rest (m, h, j) =
    let b = blocks ts m h in
    record {
      tree = begin [] nowhere b.name b.trees;
      same = ap (λ u. k.Keyword word.Begin ∷ u)
          (b.same ∙ ap (λ r. onto (spell_label b.name) (onto (spell_all b.trees) (k.Keyword word.End ∷ plain r))) j);
      formed = (no_attributes, b.named, b.formed);
      closed = λ r. apart r;
    }
stmt_by d one blocks others first ((k.Keyword word.If, w) ∷ ts) rest (m, h, (m2, i, (m3, j, l))) =
    let x = parens_tree d ts m h in
    let y = one m m2 i in
    subst (λ r. FoundStmt (k.Keyword word.If ∷ plain ts) (plain r)) l
    (if_by d ts m m2 m3 x.tree y.tree x.same x.formed y.same y.formed y.closed (others m2 m3 j))
stmt_by d one blocks others first ((k.Keyword word.Case, w) ∷ ts) rest h = case_by d first c.Case ts rest h
stmt_by d one blocks others first ((k.Keyword word.Casez, w) ∷ ts) rest h = case_by d first c.Casez ts rest h
stmt_by d one blocks others first ((k.Keyword word.Assume, w) ∷ ts) rest (m, h, (m2, i, j)) =
    let x = parens_tree d ts m h in
    record {
      tree = assume [] nowhere x.tree;
      same = ap (λ u. k.Keyword word.Assume ∷ u)
          (x.same ∙ ap (λ u. k.Symbol s.OpenParen ∷ onto (expr.spell x.tree) (k.Symbol s.CloseParen ∷ u))
          (sign_tree d s.Semicolon m m2 i ∙ ap (λ r. k.Symbol s.Semicolon ∷ plain r) j));
      formed = (no_attributes, x.formed);
      closed = λ r. apart r;
    }
stmt_by d one blocks others first [] rest h = apart h.0
stmt_by d one blocks others first ((k.Symbol y, w) ∷ ts) rest h = absurd h
stmt_by d one blocks others first ((k.Keyword y, w) ∷ ts) rest h = absurd h
stmt_by d one blocks others first (t ∷ ts) rest h = absurd h

-- the list goes on with a statement
one_more : (d : ℕ) → StmtAt (suc d) → StmtsAt d → (t : Named) (ts rest : List Named)
    → Split d stmts t ts rest (on_stmt t.0)
    → FoundStmts (plain (t ∷ ts)) (plain rest)
one_more d one all t ts rest f =
    let x = one (t ∷ ts) f.middle f.first in
    let xs = all f.middle rest f.others in
    record {
      trees = more_stmts x.tree xs.trees;
      same = x.same ∙ ap (onto (spell x.tree)) xs.same;
      formed = (x.formed, xs.formed);
    }

stmts_by : (d : ℕ) → StmtAt (suc d) → StmtsAt d → StmtsAt (suc d)
stmts_by d one all ((k.Keyword word.End, w) ∷ ts) rest h =
    record { trees = no_stmts; same = ap (λ r. k.Keyword word.End ∷ plain r) h; formed = tt }
stmts_by d one all [] rest h = apart h.0
stmts_by d one all ((k.Keyword y, w) ∷ ts) rest h =
    one_more d one all (k.Keyword y, w) ts rest (many_split d stmts (k.Keyword y, w) ts rest (on_stmt (k.Keyword y)) h)
stmts_by d one all (t ∷ ts) rest h = one_more d one all t ts rest (many_split d stmts t ts rest (on_stmt t.0) h)

unnamed : (ts ks : List Kind) → FoundStmts ts ks → FoundBlock ts ks
unnamed ts ks b = record { name = None; trees = b.trees; same = b.same; named = tt; formed = b.formed }

block_by : (d : ℕ) → StmtsAt d → StmtsAt (suc d) → BlockAt (suc d)
block_by d all same_level ((k.Symbol s.Colon, w) ∷ ts) rest (m, h, others) =
    let x = name_tree d ts m h in
    let xs = all m rest (last_of d stmts m rest others) in
    record {
      name = Some x.text;
      trees = xs.trees;
      same = ap (λ u. k.Symbol s.Colon ∷ u) (x.same ∙ ap (λ u. k.Name x.text ∷ u) xs.same);
      named = x.fine;
      formed = xs.formed;
    }
block_by d all same_level [] rest h = apart h.0
block_by d all same_level ((k.Symbol y, w) ∷ ts) rest h =
    unnamed (plain ((k.Symbol y, w) ∷ ts)) (plain rest) (same_level ((k.Symbol y, w) ∷ ts) rest h)
block_by d all same_level (t ∷ ts) rest h = unnamed (plain (t ∷ ts)) (plain rest) (same_level (t ∷ ts) rest h)

otherwise_by : (d : ℕ) → StmtAt d → OtherwiseAt (suc d)
otherwise_by d one ((k.Keyword word.Else, w) ∷ ts) rest (m, h, j) =
    let x = one ts m h in
    an_else x.tree (ap (λ u. k.Keyword word.Else ∷ u) (x.same ∙ ap (λ r. onto (spell x.tree) (plain r)) j)) x.formed
    (λ r. subst (λ us. Leaves otherwise (plain us)) j (x.closed r))
otherwise_by d one [] rest h = no_else (ap plain (sym h.1)) (subst (λ us. Leaves otherwise (plain us)) (sym h.1) refl)
otherwise_by d one ((k.Keyword y, w) ∷ ts) rest h =
    no_else (ap plain (sym h)) (subst (λ us. Leaves otherwise (plain us)) (sym h) refl)
otherwise_by d one (t ∷ ts) rest h = no_else (ap plain (sym h)) (subst (λ us. Leaves otherwise (plain us)) (sym h) refl)

default_by : (d : ℕ) → StmtAt d → StmtAt (suc d) → DefaultAt (suc d)
default_by d one same_level ((k.Symbol s.Colon, w) ∷ ts) rest (m, h, j) =
    let x = one ts m h in
    record {
      colon = true;
      tree = x.tree;
      same = ap (λ u. k.Symbol s.Colon ∷ u) (x.same ∙ ap (λ r. onto (spell x.tree) (plain r)) j);
      formed = x.formed;
    }
default_by d one same_level [] rest h = apart h.0
default_by d one same_level ((k.Symbol y, w) ∷ ts) rest h =
    (let x = same_level ((k.Symbol y, w) ∷ ts) rest h
    in record { colon = false; tree = x.tree; same = x.same; formed = x.formed })
default_by d one same_level (t ∷ ts) rest h =
    (let x = same_level (t ∷ ts) rest h in record { colon = false; tree = x.tree; same = x.same; formed = x.formed })

-- labels
is_label : (kind : CaseKind) (x : Expr) → expr_well.IsWellFormed x → IsLabel kind x
is_label c.Case x w = w
is_label c.Casez (e.number p n) w = w.1
is_label c.Casez x w = w

by_expr : (d : ℕ) (kind : CaseKind) (ts rest : List Named) → Derives d g.expr ts rest
    → FoundLabel kind (plain ts) (plain rest)
by_expr d kind ts rest h =
    (let x = expr_tree d ts rest h in record { tree = x.tree; same = x.same; formed = is_label kind x.tree x.formed })

wild_by : (d : ℕ) (n : Number) (t : Named) (ts rest : List Named) (b : Bool) → (n.unknown == 0) ≡ b
    → Moved d t ts rest (if_known b (take 0 []))
    → FoundLabel c.Casez (k.Number n ∷ plain ts) (plain rest)
wild_by d n t ts rest true i h =
    record { tree = e.number nowhere n; same = ap (λ r. k.Number n ∷ plain r) h; formed = eqb-true n.unknown 0 i }
wild_by d n t ts rest false i h = absurd h

number_label : (d : ℕ) (n : Number) (w : _) (ts rest : List Named) (b : Bool)
    → Moved d (k.Number n, w) ts rest (on_casez_number b n)
    → FoundLabel c.Casez (k.Number n ∷ plain ts) (plain rest)
number_label d n w ts rest true h = by_expr (suc d) c.Casez ((k.Number n, w) ∷ ts) rest h
number_label d n w ts rest false h = wild_by d n (k.Number n, w) ts rest (n.unknown == 0) refl h

label_tree : (d : ℕ) (kind : CaseKind) (ts rest : List Named) → Derives d (label kind) ts rest
    → FoundLabel kind (plain ts) (plain rest)
label_tree zero kind ts rest h = absurd h
label_tree (suc d) kind [] rest h = apart h.0
label_tree (suc d) c.Case (t ∷ ts) rest h = by_expr (suc d) c.Case (t ∷ ts) rest h
label_tree (suc d) c.Casez ((k.Number n, w) ∷ ts) rest h = number_label d n w ts rest (n.wild == 0) h
label_tree (suc d) c.Casez (t ∷ ts) rest h = by_expr (suc d) c.Casez (t ∷ ts) rest h

labels_by : (d : ℕ) → StmtAt d → LabelsAt d → LabelsAt (suc d)
labels_by d one all kind ((k.Symbol s.Comma, w) ∷ ts) rest (m, h, others) =
    let x = label_tree d kind ts m h in
    let xs = all kind m rest (last_of d (labels kind) m rest others) in
    record {
      others = x.tree ∷ xs.others;
      tree = xs.tree;
      same = ap (λ u. k.Symbol s.Comma ∷ u) (x.same ∙ ap (onto (expr.spell x.tree)) xs.same);
      fine = All-cons (λ y. IsLabel kind y) x.tree xs.others x.formed xs.fine;
      formed = xs.formed;
    }
labels_by d one all kind ((k.Symbol s.Colon, w) ∷ ts) rest (m, h, j) =
    let x = one ts m h in
    record {
      others = [];
      tree = x.tree;
      same = ap (λ u. k.Symbol s.Colon ∷ u) (x.same ∙ ap (λ r. onto (spell x.tree) (plain r)) j);
      fine = All-nil (λ y. IsLabel kind y);
      formed = x.formed;
    }
labels_by d one all kind [] rest h = apart h.0
labels_by d one all kind ((k.Symbol y, w) ∷ ts) rest h = absurd h
labels_by d one all kind (t ∷ ts) rest h = absurd h

-- an arm, and the arms behind it
record ArmSplit (d : ℕ) (kind : CaseKind) (b : Bool) (t : Named) (ts rest : List Named) (m : Moves) : Type 0 where
  middle : List Named
  behind : List Named
  first : Moved d t ts middle m
  second : Derives d (labels kind) middle behind
  others : Derives d (arms kind b) behind rest

record InArm (d : ℕ) (kind : CaseKind) (b : Bool) (row : Row Rule) (us rest : List Named) : Type 0 where
  middle : List Named
  behind : List Named
  first : Turn d (symbols row) us middle
  second : Derives d (labels kind) middle behind
  others : Derives d (arms kind b) behind rest

in_arm : (d : ℕ) (kind : CaseKind) (b : Bool) (row : Row Rule) (us rest : List Named)
    → Turn d (symbols (inside row ++ (labels kind, 1) ∷ (arms kind b, 0) ∷ [])) us rest → InArm d kind b row us rest
in_arm d kind b [] us rest (m, h, (m2, i, j)) =
    record { middle = us; behind = m; first = refl; second = h; others = subst (λ r. Derives d (arms kind b) m r) j i }
in_arm d kind b (y ∷ row) us rest (m, h, j) =
    (let f = in_arm d kind b row m rest j in
    record { middle = f.middle; behind = f.behind; first = (m, h, f.first); second = f.second; others = f.others })

arm_split : (d : ℕ) (kind : CaseKind) (b : Bool) (t : Named) (ts rest : List Named) (m : Moves)
    → Moved d t ts rest (arm_with kind b m)
    → ArmSplit d kind b t ts rest m
arm_split d kind b t ts rest (take opened row) h =
    (let f = in_arm d kind b row ts rest h in
    record { middle = f.middle; behind = f.behind; first = f.first; second = f.second; others = f.others })
arm_split d kind b t ts rest pop h = absurd h
arm_split d kind b t ts rest bad h = absurd h

-- an arm comes first
record Armed (kind : CaseKind) (b : Bool) (ts ks : List Kind) : Type 0 where
  trees : Arms
  same : ts ≡ onto (spell_arms trees) (k.Keyword word.Endcase ∷ ks)
  some : AreArmsSome trees
  formed : AreArms kind trees
  few : default_count trees + seen b ≤ 1

label_arm : (d : ℕ) → LabelsAt d → ArmsAt d → (kind : CaseKind) (b : Bool) (t : Named) (ts rest : List Named)
    → ArmSplit d kind b t ts rest (on_label kind t.0) → Armed kind b (plain (t ∷ ts)) (plain rest)
label_arm d labelled all kind b t ts rest f =
    let x = label_tree (suc d) kind (t ∷ ts) f.middle f.first in
    let xs = labelled kind f.middle f.behind f.second in
    let others = all kind b f.behind rest f.others in
    record {
      trees = tree.labels nowhere (x.tree ∷ xs.others) xs.tree others.trees;
      same = x.same ∙ ap (onto (expr.spell x.tree))
          (xs.same ∙ ap (λ u. onto (with_commas spell_one_label xs.others)
          (k.Symbol s.Colon ∷ onto (spell xs.tree) u)) others.same);
      some = tt;
      formed =
          ((omega arith, All-cons (λ y. IsLabel kind y) x.tree xs.others x.formed xs.fine), xs.formed, others.formed);
      few = others.few;
    }

arm_by : (d : ℕ) → DefaultAt d → LabelsAt d → ArmsAt d → (kind : CaseKind) (b : Bool) (t : Named) (ts rest : List Named)
    → Moved d t ts rest (g.on_arm kind b t.0) → Armed kind b (plain (t ∷ ts)) (plain rest)
arm_by d defaults labelled all kind false (k.Keyword word.Default, w) ts rest (m, h, others) =
    let x = defaults ts m h in
    let xs = all kind true m rest (last_of d (arms kind true) m rest others) in
    record {
      trees = tree.default nowhere x.colon x.tree xs.trees;
      same = ap (λ u. k.Keyword word.Default ∷ u)
          (x.same ∙ ap (λ u. onto (spell_colon x.colon) (onto (spell x.tree) u)) xs.same);
      some = tt;
      formed = (x.formed, xs.formed);
      few = omega (arith, xs.few);
    }
arm_by d defaults labelled all kind b (k.Keyword y, w) ts rest h = absurd h
arm_by d defaults labelled all kind b t ts rest h =
    label_arm d labelled all kind b t ts rest (arm_split d kind b t ts rest (on_label kind t.0) h)

as_arms : (kind : CaseKind) (b : Bool) (ts ks : List Kind) → Armed kind b ts ks → FoundArms kind b ts ks
as_arms kind b ts ks x = record { trees = x.trees; same = x.same; formed = x.formed; few = x.few }

seen_few : (b : Bool) → seen b ≤ 1
seen_few true = omega arith
seen_few false = omega arith

arms_by : (d : ℕ) → DefaultAt d → LabelsAt d → ArmsAt d → ArmsAt (suc d)
arms_by d defaults labelled all kind b ((k.Keyword word.Endcase, w) ∷ ts) rest h = record {
  trees = tree.no_arms;
  same = ap (λ r. k.Keyword word.Endcase ∷ plain r) h;
  formed = tt;
  few = omega (arith, seen_few b);
}
arms_by d defaults labelled all kind b [] rest h = apart h.0
arms_by d defaults labelled all kind b ((k.Keyword y, w) ∷ ts) rest h =
    as_arms kind b (plain ((k.Keyword y, w) ∷ ts)) (plain rest)
    (arm_by d defaults labelled all kind b (k.Keyword y, w) ts rest h)
arms_by d defaults labelled all kind b (t ∷ ts) rest h =
    as_arms kind b (plain (t ∷ ts)) (plain rest) (arm_by d defaults labelled all kind b t ts rest h)

first_by : (d : ℕ) → DefaultAt d → LabelsAt d → ArmsAt d → FirstAt (suc d)
first_by d defaults labelled all kind [] rest h = apart h.0
first_by d defaults labelled all kind (t ∷ ts) rest h =
    (let x = arm_by d defaults labelled all kind false t ts rest h in
    record { trees = x.trees; same = x.same; some = x.some; formed = x.formed; few = omega (arith, x.few) })

mutual
  pub stmt_tree : (d : ℕ) → StmtAt d
  stmt_tree zero ts rest h = absurd h
  stmt_tree (suc d) ts rest h = stmt_by d (stmt_tree d) (block_tree d) (otherwise_tree d) (first_tree d) ts rest h

  stmts_tree : (d : ℕ) → StmtsAt d
  stmts_tree zero ts rest h = absurd h
  stmts_tree (suc d) ts rest h =
      stmts_by d (stmt_by d (stmt_tree d) (block_tree d) (otherwise_tree d) (first_tree d)) (stmts_tree d) ts rest h

  block_tree : (d : ℕ) → BlockAt d
  block_tree zero ts rest h = absurd h
  block_tree (suc d) ts rest h =
      block_by d (stmts_tree d) (stmts_by d (stmt_by d (stmt_tree d) (block_tree d) (otherwise_tree d)
      (first_tree d)) (stmts_tree d)) ts rest h

  otherwise_tree : (d : ℕ) → OtherwiseAt d
  otherwise_tree zero ts rest h = absurd h
  otherwise_tree (suc d) ts rest h = otherwise_by d (stmt_tree d) ts rest h

  default_tree : (d : ℕ) → DefaultAt d
  default_tree zero ts rest h = absurd h
  default_tree (suc d) ts rest h =
      default_by d (stmt_tree d) (stmt_by d (stmt_tree d) (block_tree d) (otherwise_tree d) (first_tree d)) ts rest h

  labels_tree : (d : ℕ) → LabelsAt d
  labels_tree zero kind ts rest h = absurd h
  labels_tree (suc d) kind ts rest h = labels_by d (stmt_tree d) (labels_tree d) kind ts rest h

  arms_tree : (d : ℕ) → ArmsAt d
  arms_tree zero kind b ts rest h = absurd h
  arms_tree (suc d) kind b ts rest h = arms_by d (default_tree d) (labels_tree d) (arms_tree d) kind b ts rest h

  first_tree : (d : ℕ) → FirstAt d
  first_tree zero kind ts rest h = absurd h
  first_tree (suc d) kind ts rest h = first_by d (default_tree d) (labels_tree d) (arms_tree d) kind ts rest h
