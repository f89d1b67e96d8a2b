use Rattle.std.proofs.Common.{◌∙◌, sym, subst}
use Rattle.fv_text.specs.declared.kind.Kind.TheVariants as k
use Rattle.fv_text.specs.declared.keyword.Keyword.TheVariants as w
use Rattle.vl_tree.specs.Phrase.{Spells}
use Rattle.vl_tree.specs.Stmt as tree
use Rattle.vl_tree.specs.StmtSpelling as spec
use Rattle.vl_tree.specs.StmtView.{arms}
use Rattle.vl_parse_stmt.specs.Bare.{HasNoAttributes}
use Rattle.vl_parse_stmt.proofs.StmtLeads.{kind_begin}
use Rattle.vl_parse_stmt.proofs.StmtNodes.{block_found, case_found, begins_here, next_is, attributed}
use Rattle.vl_parse_stmt.proofs.stmt.+stmt.Goals as goal

pub read_stmt-returns-clause-found : goal.read_stmt-returns-clause-found
read_stmt-returns-clause-found t c =
    let one = c.bare.inside in
    attributed c.in_ok-attributes.attributes one.attributes one.pos one.kind c.args.tokens.now
    c.in_ok-attributes.rest.now c.in_ok-bare.rest.now
    (subst (λ x. HasNoAttributes x) (sym c.bare.view_is) c.in_ok-bare.ensures.bare) c.in_ok-attributes.ensures.found
    (subst (λ x. Spells (spec.spell x) c.in_ok-attributes.rest.now c.in_ok-bare.rest.now)
    (sym c.bare.view_is) c.in_ok-bare.ensures.found)

pub read_bare-returns-in_ok-label-in-Begin-clause-found : goal.read_bare-returns-in_ok-label-in-Begin-clause-found
read_bare-returns-in_ok-label-in-Begin-clause-found t c =
    let first = c.in-Some.first.now in
    let behind = c.in-Some.rest.now in
    let tokens = c.args.tokens.now in
    let rest = c.in_ok-label-in-Begin.rest.now in
    subst (λ x. Spells (spec.spell x) tokens rest) (sym c.bare.ensures)
    (block_found first.pos c.in_ok-label-in-Begin.label (tree.stmts c.in_ok-label-in-Begin.all) tokens behind rest
    (begins_here first behind tokens c.in-Some.ensures.some)
    (next_is (k.Keyword w.Begin) first behind tokens c.in-Some.ensures.some
    (kind_begin first.kind (sym c.stmt_lead_of.ensures ∙ c.in-Begin.is)))
    c.in_ok-label-in-Begin.ensures.found)

pub read_case-returns-clause-found : goal.read_case-returns-clause-found
read_case-returns-clause-found t c =
    let tokens = c.args.tokens.now in
    let rest = c.in_ok-arms.rest.now in
    λ start here h. subst (λ x. Spells (spec.spell x) start rest) (sym c.bare.ensures)
    (case_found c.args.pos c.args.kind c.in_ok-expr.expr (arms c.in_ok-arms.arms) start tokens
    c.in_ok-expr.rest.now rest here h c.in_ok-expr.ensures.found c.in_ok-arms.ensures.found)
