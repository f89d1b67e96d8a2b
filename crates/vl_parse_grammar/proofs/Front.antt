-- The first token of what a phrase spells.
use Rattle.std.proofs.Common.{◌≡◌, List, [], ◌∷◌, refl, sym, ap, ◌∙◌, subst}
use Rattle.fv_text.specs.declared.kind.Kind.{Kind}
use Rattle.fv_text.specs.declared.kind.Kind.TheVariants as k
use Rattle.fv_text.specs.declared.token.Token.{Token}
use Rattle.vl_tree.proofs.Readings.{spelled}
use Rattle.vl_tree.specs.Expr.{Expr}
use Rattle.vl_tree.specs.ExprSpelling as expr
use Rattle.vl_tree.specs.ExprWellFormed as expr_well
use Rattle.vl_tree.specs.Phrase.{Phrase, kinds_of, IsNext, Spells}
use Rattle.vl_tree.specs.Stmt.{Stmt}
use Rattle.vl_tree.specs.StmtSpelling as stmt
use Rattle.vl_parse_grammar.proofs.Onto.{onto, onto_kinds}
use Rattle.vl_parse_grammar.proofs.OneToken.{first}
use Rattle.vl_parse_grammar.proofs.StmtReads.{Plain, expr_front, Begins, stmt_front}

abbrev pub head : List Kind → Kind
head [] = k.Quoted
head (kind ∷ ks) = kind

first_head : (ts : List Token) → first ts ≡ head (kinds_of ts)
first_head [] = refl
first_head (t ∷ ts) = refl

-- tokens that spell a phrase, without their places
pub spelled_onto : (a : Phrase) (ts rest : List Token) → Spells a ts rest → kinds_of ts ≡ onto a (kinds_of rest)
spelled_onto a ts rest h = spelled a ts rest h ∙ sym (onto_kinds a (kinds_of rest))

pub first_of : (a : Phrase) (ts rest : List Token) (kind : Kind) (ks : List Kind) → Spells a ts rest
    → onto a (kinds_of rest) ≡ kind ∷ ks
    → first ts ≡ kind
first_of a ts rest kind ks h e = first_head ts ∙ ap head (spelled_onto a ts rest h ∙ e)

-- an expression begins with what an expression may begin with
pub expr_first : (x : Expr) (ts rest : List Token) → expr_well.IsWellFormed x → Spells (expr.spell x) ts rest
    → Plain (first ts)
expr_first x ts rest w h =
    let f = expr_front x (kinds_of rest) w in
    subst Plain (sym (first_of (expr.spell x) ts rest f.head f.tail h f.same)) f.fine

-- and a statement with what a statement may
pub stmt_first : (x : Stmt) (ts rest : List Token) → Spells (stmt.spell x) ts rest → Begins (first ts)
stmt_first x ts rest h =
    let f = stmt_front x (kinds_of rest) in
    subst Begins (sym (first_of (stmt.spell x) ts rest f.head f.tail h f.same)) f.begins
