use Rattle.std.specs.Prelude.{◌≡◌, ◌++◌, ◌∷◌, [], length, pos, ◌+◌, ◌≤◌}
use Rattle.std.proofs.Common.{ap, sym, ◌∙◌, arith}
use Rattle.bb_aig.specs.declared.node.AigNode.TheVariants as n
use Rattle.bb_clauses.specs.Clauses.{clauses_before, clauses_from}
use Rattle.bb_clauses.proofs.ClauseLaws.{begun, fits_begun, clauses_next, fits_next, all_clauses}
use Rattle.bb_clauses.proofs.GatesModels.{tells}
use Rattle.bb_clauses.proofs.clauses.clauses_of.Goals as goal

pub loop-index-init : goal.loop-index-init
loop-index-init c =
    let graph = c.args.aig.now in
    let behind = c.behind_false-behind in
    record {
      left =
          ap (λ cs. cs ++ clauses_from (0 + 1) behind.result.now) c.new-formula.ensures.clauses
          ∙ begun graph behind.result.now behind.ensures.value;
      vars = c.new-formula.ensures.vars ∙ c.len-count.ensures.value;
      inputs = (0, fits_begun graph behind.result.now behind.ensures.value behind.ensures.whole);
    }

pub loop-index-preserved : goal.loop-index-preserved
loop-index-preserved c =
    let behind = c.behind_false-behind.result.now in
    let inv = c.loop-index.invariant in
    record {
      left =
          clauses_next behind c.loop-index.index _ c.loop-index.formula.clauses c.push_node.new.formula.clauses _
          (omega arith) inv.left
          c.in_ok-push_node.ensures.clauses;
      vars = c.in_ok-push_node.ensures.vars ∙ inv.vars;
      inputs = fits_next behind c.loop-index.index inv.inputs.0 n.False (omega arith) inv.inputs.1;
    }

pub returns : goal.returns
returns c =
    let graph = c.args.aig.now in
    let root = c.args.root in
    let behind = c.behind_false-behind.result.now in
    let past : length behind ≤ c.loop-index.index = omega arith in
    tells graph root c.push_true.new.formula c.len-count.ensures.whole c.requires
    (c.in_ok-push_true.ensures.vars ∙ c.in_ok-push_and.ensures.vars ∙ c.loop-index.invariant.vars)
    (c.in_ok-push_true.ensures.clauses
    ∙ ap (λ n. c.push_and.new.formula.clauses ++ (pos n ∷ []) ∷ []) c.len-count.ensures.value
    ∙ ap (λ cs. cs ++ (pos (length graph) ∷ []) ∷ [])
    (all_clauses graph behind root c.loop-index.index c.len-count.result c.loop-index.formula.clauses
    c.push_and.new.formula.clauses
    c.loop-index.invariant.left past c.len-count.ensures.value c.in_ok-push_and.ensures.clauses))
