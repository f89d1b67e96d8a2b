-- What nodes of statements spell, from what their parts do, and with attributes before them.
use Rattle.std.proofs.Common.{◌≡◌, ℕ, Bool, true, false, List, [], ◌∷◌, refl, sym, subst}
use Rattle.std.specs.Prelude.{Option, Some, None}
use Rattle.fv_text.specs.declared.pos.Pos.{Pos}
use Rattle.fv_text.specs.declared.token.Token.{Token}
use Rattle.fv_text.specs.declared.kind.Kind.{Kind}
use Rattle.fv_text.specs.declared.kind.Kind.TheVariants as k
use Rattle.fv_text.specs.declared.keyword.Keyword.TheVariants as w
use Rattle.vl_tree.specs.declared.stmt.CaseKind.{CaseKind}
use Rattle.vl_tree.specs.declared.stmt.StmtKind.{StmtKind}
use Rattle.vl_tree.specs.declared.stmt.StmtKind.TheVariants as kind
use Rattle.vl_tree.specs.Attributes.{Attributes}
use Rattle.vl_tree.specs.DeclarationSpelling.{spell_attributes}
use Rattle.vl_tree.specs.Expr.{Expr}
use Rattle.vl_tree.specs.ExprSpelling as expr
use Rattle.vl_tree.specs.Phrase.{Spells, IsNext, BeginsAt, word, parens, ◌▸◌}
use Rattle.vl_tree.specs.Stmt.{Stmt, Stmts, Arms, begin, if_only, if_else, case}
use Rattle.vl_tree.specs.StmtView.{shown}
use Rattle.vl_tree.specs.StmtSpelling.{spell, spell_all, spell_arms, spell_label, case_word}
use Rattle.vl_tree.specs.StmtWellFormed.{ends_open}
use Rattle.vl_parse_cursor.specs.Next.{IsOther}
use Rattle.vl_parse_stmt.specs.Bare.{HasNoAttributes}
use Rattle.vl_parse_stmt.specs.Statements.{LeavesElse}

pub block_found : (p : Pos) (label : Option (List ℕ)) (ss : Stmts) (start inside rest : List Token)
    → BeginsAt p start → IsNext (k.Keyword w.Begin) start inside
    → Spells ((spell_label label ▸ spell_all ss) ▸ word w.End) inside rest
    → Spells (spell (begin [] p label ss)) start rest
block_found p label ss start inside rest here h (m, both, e) = (start, refl, (here, (m, (inside, h, both), e)))

pub if_found : (p : Pos) (c : Expr) (x : Stmt) (start inside body rest : List Token) → BeginsAt p start
    → IsNext (k.Keyword w.If) start inside
    → Spells (parens (expr.spell c)) inside body → Spells (spell x) body rest
    → Spells (spell (if_only [] p c x)) start rest
if_found p c x start inside body rest here h i j = (start, refl, (here, (inside, h, (body, i, j))))

pub if_else_found : (p : Pos) (c : Expr) (x y : Stmt) (start inside body behind other rest : List Token)
    → BeginsAt p start → IsNext (k.Keyword w.If) start inside
    → Spells (parens (expr.spell c)) inside body → Spells (spell x) body behind
    → IsNext (k.Keyword w.Else) behind other → Spells (spell y) other rest
    → Spells (spell (if_else [] p c x y)) start rest
if_else_found p c x y start inside body behind other rest here h i j l m =
    (start, refl, (here, (inside, h, (body, i, (behind, j, (other, l, m))))))

pub case_found : (p : Pos) (kind : CaseKind) (e : Expr) (xs : Arms) (start inside body rest : List Token)
    → BeginsAt p start
    → IsNext (k.Keyword (case_word kind)) start inside → Spells (parens (expr.spell e)) inside body
    → Spells (spell_arms xs ▸ word w.Endcase) body rest
    → Spells (spell (case [] p kind e xs)) start rest
case_found p kind e xs start inside body rest here h i (m, j, l) =
    (start, refl, (here, (m, (inside, h, (body, i, j)), l)))

pub begins_here : (t : Token) (ts us : List Token) → us ≡ t ∷ ts → BeginsAt t.pos us
begins_here t ts us e = subst (λ vs. BeginsAt t.pos vs) (sym e) refl

pub next_is : (found : Kind) (t : Token) (ts us : List Token) → us ≡ t ∷ ts → t.kind ≡ found → IsNext found us ts
next_is found t ts us e h = subst (λ vs. IsNext found vs ts) (sym e) (h, refl)

-- an `else` that comes is of no `if` before it
pub not_open : (x : Stmt) (ts rest : List Kind) → LeavesElse x ts → ts ≡ k.Keyword w.Else ∷ rest → ends_open x ≡ false
not_open x ts rest h e = by_open (ends_open x) refl
  where
    by_open : (b : Bool) → ends_open x ≡ b → b ≡ false
    by_open false f = refl
    by_open true f = absurd (subst (λ q. IsOther (k.Keyword w.Else) q) e (h f) refl)

-- attributes before a statement that has none
pub attributed : (attrs old : Attributes) (p : Pos) (x : StmtKind) (start middle rest : List Token)
    → HasNoAttributes (shown old p x)
    → Spells (spell_attributes attrs) start middle → Spells (spell (shown old p x)) middle rest
    → Spells (spell (shown attrs p x)) start rest
attributed attrs old p x start middle rest = by_kind x
  where
    same : (m : List Token) → old ≡ [] → Spells (spell_attributes old) middle m → middle ≡ m
    same m n h = subst (λ a. Spells (spell_attributes a) middle m) n h

    moved : (m : List Token) → old ≡ [] → Spells (spell_attributes attrs) start middle
        → Spells (spell_attributes old) middle m
        → Spells (spell_attributes attrs) start m
    moved m n h i = subst (λ ts. Spells (spell_attributes attrs) start ts) (same m n i) h

    by_kind : (x : StmtKind) → HasNoAttributes (shown old p x) → Spells (spell_attributes attrs) start middle
        → Spells (spell (shown old p x)) middle rest
        → Spells (spell (shown attrs p x)) start rest
    by_kind (kind.Begin label ss) n h (m, i, j) = (m, moved m n h i, j)
    by_kind (kind.If c first None) n h (m, i, j) = (m, moved m n h i, j)
    by_kind (kind.If c first (Some second)) n h (m, i, j) = (m, moved m n h i, j)
    by_kind (kind.Case c e xs) n h (m, i, j) = (m, moved m n h i, j)
    by_kind (kind.Assign l c e) n h (m, i, j) = (m, moved m n h i, j)
    by_kind (kind.Assume e) n h (m, i, j) = (m, moved m n h i, j)
    by_kind kind.Empty n h (m, i, j) = (m, moved m n h i, j)
