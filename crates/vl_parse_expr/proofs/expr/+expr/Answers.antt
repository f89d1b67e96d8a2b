use Rattle.std.proofs.Common.{◌-◌, sym, ap, ◌∙◌, subst}
use Rattle.std.proofs.lemmas.Result.{err_from_is_err_and}
use Rattle.vl_tree.specs.Expr.{exprs}
use Rattle.vl_tree.specs.ExprSpelling.{spell}
use Rattle.vl_tree.specs.Phrase.{Spells}
use Rattle.vl_parse_grammar.specs.Machine.{then}
use Rattle.vl_parse_grammar.specs.Grammar.{read, selects}
use Rattle.vl_parse_cursor.specs.Next.{kinds_in}
use Rattle.vl_parse_expr.specs.Levels.{operand_at, more_at}
use Rattle.vl_parse_expr.proofs.ExprSpelled.{if_ok_then, binary_found, conditional_found, repeat_spelled}
use Rattle.vl_parse_expr.proofs.ExprSpelled.{concat_spelled}
use Rattle.vl_parse_expr.proofs.ExprSteps.{ends_then, ends_as, goes_as, begins_number, begins_name, begins_paren}
use Rattle.vl_parse_expr.proofs.ExprSteps.{begins_cast, begins_brace, begins_brace_deep, begins_unary}
use Rattle.vl_parse_expr.proofs.ExprSteps.{begins_unary_deep}
use Rattle.vl_parse_expr.proofs.ExprSteps.{begins_wrong, joins_binary, joins_binary_deep, joins_question}
use Rattle.vl_parse_expr.proofs.ExprSteps.{joins_question_deep, joins_colon}
use Rattle.vl_parse_expr.proofs.expr.+expr.Goals as goal

-- an operand

pub operand-returns-in_err-text-in-Name : goal.operand-returns-in_err-text-in-Name
operand-returns-in_err-text-in-Name n c =
    let p = err_from_is_err_and c.from_residual.result c.from_residual.ensures.1 in
    rw (p.1, p.2) (record {
      opened = tt;
      room = tt;
      found = tt;
      formed = tt;
      tight = tt;
      shorter = tt;
      goes = ends_as _ _ _ (begins_name c.args.level c.args.opened c.args.tokens.now c.in-Some.rest.now
          c.in-Some.first.now c.in-Some.ensures.some (sym c.lead_of.ensures ∙ c.in-Name.is))
          (ends_then _ _ (λ u. then (read selects (c.args.level.room - c.args.opened) u) (λ r. more_at
          c.args.level c.args.opened r)) c.in_err-text-in-Name.ensures.goes);
    })

pub operand-returns-in_err-selects-in-Name : goal.operand-returns-in_err-selects-in-Name
operand-returns-in_err-selects-in-Name n c =
    let p = err_from_is_err_and c.from_residual-in_err-selects-in-Name.result
    c.from_residual-in_err-selects-in-Name.ensures.1 in
    rw (p.1, p.2) (record {
      opened = tt;
      room = tt;
      found = tt;
      formed = tt;
      tight = tt;
      shorter = tt;
      goes = ends_as _ _ _ (begins_name c.args.level c.args.opened c.args.tokens.now c.in-Some.rest.now
          c.in-Some.first.now c.in-Some.ensures.some (sym c.lead_of.ensures ∙ c.in-Name.is)
          ∙ ap (λ a. then a (λ u. then (read selects (c.args.level.room - c.args.opened) u) (λ r. more_at
          c.args.level c.args.opened r))) c.in_ok-text-in-Name.ensures.goes)
          (ends_then _ _ (λ r. more_at c.args.level c.args.opened r) c.in_err-selects-in-Name.ensures.goes);
    })

pub operand-returns-in_ok-selects-in-Name-clause-goes : goal.operand-returns-in_ok-selects-in-Name-clause-goes
operand-returns-in_ok-selects-in-Name-clause-goes n c =
    begins_name c.args.level c.args.opened c.args.tokens.now c.in-Some.rest.now c.in-Some.first.now
    c.in-Some.ensures.some (sym c.lead_of.ensures ∙ c.in-Name.is)
    ∙ ap (λ a. then a (λ u. then (read selects (c.args.level.room - c.args.opened) u) (λ r. more_at
    c.args.level c.args.opened r))) c.in_ok-text-in-Name.ensures.goes
    ∙ ap (λ a. then a (λ r. more_at c.args.level c.args.opened r))
    c.in_ok-selects-in-Name.ensures.goes

pub operand-returns-in_err-inner-in-Paren : goal.operand-returns-in_err-inner-in-Paren
operand-returns-in_err-inner-in-Paren n c =
    let p = err_from_is_err_and c.from_residual-in_err-inner-in-Paren.result
    c.from_residual-in_err-inner-in-Paren.ensures.1 in
    rw (p.1, p.2) (record {
      opened = tt;
      room = tt;
      found = tt;
      formed = tt;
      tight = tt;
      shorter = tt;
      goes = ends_as _ _ _ (begins_paren c.args.level c.args.opened c.args.tokens.now c.in-Some.rest.now
          c.in-Some.first.now c.in-Some.ensures.some (sym c.lead_of.ensures ∙ c.in-Paren.is))
          (ends_then _ _ (λ r. more_at c.args.level c.args.opened r) c.in_err-inner-in-Paren.ensures.goes);
    })

pub operand-returns-in_err-paren-in-Paren : goal.operand-returns-in_err-paren-in-Paren
operand-returns-in_err-paren-in-Paren n c =
    let p = err_from_is_err_and c.from_residual-in_err-paren-in-Paren.result
    c.from_residual-in_err-paren-in-Paren.ensures.1 in
    rw (p.1, p.2) (record {
      opened = tt;
      room = tt;
      found = tt;
      formed = tt;
      tight = tt;
      shorter = tt;
      goes = c.in_err-paren-in-Paren.ensures.memory _;
    })

pub operand-returns-in_ok-paren-in-Paren-clause-goes : goal.operand-returns-in_ok-paren-in-Paren-clause-goes
operand-returns-in_ok-paren-in-Paren-clause-goes n c =
    begins_paren c.args.level c.args.opened c.args.tokens.now c.in-Some.rest.now c.in-Some.first.now
    c.in-Some.ensures.some (sym c.lead_of.ensures ∙ c.in-Paren.is)
    ∙ ap (λ a. then a (λ r. more_at c.args.level c.args.opened r)) c.in_ok-inner-in-Paren.ensures.goes

pub operand-returns-in_err-inner-in-Cast : goal.operand-returns-in_err-inner-in-Cast
operand-returns-in_err-inner-in-Cast n c =
    let p = err_from_is_err_and c.from_residual-in_err-inner-in-Cast.result
    c.from_residual-in_err-inner-in-Cast.ensures.1 in
    rw (p.1, p.2) (record {
      opened = tt;
      room = tt;
      found = tt;
      formed = tt;
      tight = tt;
      shorter = tt;
      goes = ends_as _ _ _ (begins_cast c.args.level c.args.opened c.args.tokens.now c.in-Some.rest.now
          c.in-Some.first.now c.in-Cast.cast c.in-Some.ensures.some (sym c.lead_of.ensures ∙ c.in-Cast.is))
          (ends_then _ _ (λ r. more_at c.args.level c.args.opened r) c.in_err-inner-in-Cast.ensures.goes);
    })

pub operand-returns-in_err-cast-in-Cast : goal.operand-returns-in_err-cast-in-Cast
operand-returns-in_err-cast-in-Cast n c =
    let p = err_from_is_err_and c.from_residual-in_err-cast-in-Cast.result
    c.from_residual-in_err-cast-in-Cast.ensures.1 in
    rw (p.1, p.2) (record {
      opened = tt;
      room = tt;
      found = tt;
      formed = tt;
      tight = tt;
      shorter = tt;
      goes = c.in_err-cast-in-Cast.ensures.memory _;
    })

pub operand-returns-in_ok-cast-in-Cast-clause-goes : goal.operand-returns-in_ok-cast-in-Cast-clause-goes
operand-returns-in_ok-cast-in-Cast-clause-goes n c =
    begins_cast c.args.level c.args.opened c.args.tokens.now c.in-Some.rest.now c.in-Some.first.now
    c.in-Cast.cast c.in-Some.ensures.some (sym c.lead_of.ensures ∙ c.in-Cast.is)
    ∙ ap (λ a. then a (λ r. more_at c.args.level c.args.opened r)) c.in_ok-inner-in-Cast.ensures.goes

pub operand-returns-in_err-inside-in-Brace : goal.operand-returns-in_err-inside-in-Brace
operand-returns-in_err-inside-in-Brace n c =
    let p = err_from_is_err_and c.from_residual-in_err-inside-in-Brace.result
    c.from_residual-in_err-inside-in-Brace.ensures.1 in
    rw (p.1, p.2) (record {
      opened = tt;
      room = tt;
      found = tt;
      formed = tt;
      tight = tt;
      shorter = tt;
      goes = c.in_err-inside-in-Brace.ensures.deep _
          (begins_brace_deep c.args.level c.args.opened c.args.tokens.now c.in-Some.rest.now c.in-Some.first.now
          c.in-Some.ensures.some (sym c.lead_of.ensures ∙ c.in-Brace.is)
          c.in_err-inside-in-Brace.ensures.none);
    })

pub operand-returns-in_err-expr-in-Brace : goal.operand-returns-in_err-expr-in-Brace
operand-returns-in_err-expr-in-Brace n c =
    let p = err_from_is_err_and c.from_residual-in_err-expr-in-Brace.result
    c.from_residual-in_err-expr-in-Brace.ensures.1 in
    rw (p.1, p.2) (record {
      opened = tt;
      room = tt;
      found = tt;
      formed = tt;
      tight = tt;
      shorter = tt;
      goes = ends_as _ _ _ (begins_brace c.args.level c.args.opened c.in_ok-inside-in-Brace.inside
          c.args.tokens.now c.in-Some.rest.now c.in-Some.first.now c.in-Some.ensures.some (sym c.lead_of.ensures ∙
          c.in-Brace.is)
          c.in_ok-inside-in-Brace.ensures.some c.in_ok-inside-in-Brace.ensures.inside)
          (ends_then _ _ (λ r. more_at c.args.level c.args.opened r) c.in_err-expr-in-Brace.ensures.goes);
    })

pub operand-returns-in_ok-expr-in-Brace-clause-goes : goal.operand-returns-in_ok-expr-in-Brace-clause-goes
operand-returns-in_ok-expr-in-Brace-clause-goes n c =
    begins_brace c.args.level c.args.opened c.in_ok-inside-in-Brace.inside c.args.tokens.now c.in-Some.rest.now
    c.in-Some.first.now c.in-Some.ensures.some (sym c.lead_of.ensures ∙ c.in-Brace.is)
    c.in_ok-inside-in-Brace.ensures.some c.in_ok-inside-in-Brace.ensures.inside
    ∙ ap (λ a. then a (λ r. more_at c.args.level c.args.opened r)) c.in_ok-expr-in-Brace.ensures.goes

pub operand-returns-in_err-opened-in-Unary : goal.operand-returns-in_err-opened-in-Unary
operand-returns-in_err-opened-in-Unary n c =
    let p = err_from_is_err_and c.from_residual-in_err-opened-in-Unary.result
    c.from_residual-in_err-opened-in-Unary.ensures.1 in
    rw (p.1, p.2) (record {
      opened = tt;
      room = tt;
      found = tt;
      formed = tt;
      tight = tt;
      shorter = tt;
      goes = c.in_err-opened-in-Unary.ensures.deep _
          (begins_unary_deep c.args.level c.args.opened c.args.tokens.now c.in-Some.rest.now c.in-Some.first.now
          c.in-Unary.operator c.in-Some.ensures.some (sym c.lead_of.ensures ∙ c.in-Unary.is)
          c.in_err-opened-in-Unary.ensures.none);
    })

pub operand-returns-in_err-inner-in-Unary : goal.operand-returns-in_err-inner-in-Unary
operand-returns-in_err-inner-in-Unary n c =
    let p = err_from_is_err_and c.from_residual-in_err-inner-in-Unary.result
    c.from_residual-in_err-inner-in-Unary.ensures.1 in
    rw (p.1, p.2) (record {
      opened = tt;
      room = tt;
      found = tt;
      formed = tt;
      tight = tt;
      shorter = tt;
      goes = ends_as _ _ _ (begins_unary c.args.level c.args.opened c.in_ok-opened-in-Unary.opened
          c.args.tokens.now c.in-Some.rest.now c.in-Some.first.now c.in-Unary.operator c.in-Some.ensures.some
          (sym c.lead_of.ensures ∙ c.in-Unary.is) c.in_ok-opened-in-Unary.ensures.some
          c.in_ok-opened-in-Unary.ensures.counted)
          c.in_err-inner-in-Unary.ensures.goes;
    })

pub operand-returns-in_err-unary-in-Unary : goal.operand-returns-in_err-unary-in-Unary
operand-returns-in_err-unary-in-Unary n c =
    let p = err_from_is_err_and c.from_residual-in_err-unary-in-Unary.result
    c.from_residual-in_err-unary-in-Unary.ensures.1 in
    rw (p.1, p.2) (record {
      opened = tt;
      room = tt;
      found = tt;
      formed = tt;
      tight = tt;
      shorter = tt;
      goes = c.in_err-unary-in-Unary.ensures.memory _;
    })

pub operand-returns-in_ok-unary-in-Unary-clause-goes : goal.operand-returns-in_ok-unary-in-Unary-clause-goes
operand-returns-in_ok-unary-in-Unary-clause-goes n c =
    begins_unary c.args.level c.args.opened c.in_ok-opened-in-Unary.opened c.args.tokens.now c.in-Some.rest.now
    c.in-Some.first.now c.in-Unary.operator c.in-Some.ensures.some
    (sym c.lead_of.ensures ∙ c.in-Unary.is) c.in_ok-opened-in-Unary.ensures.some
    c.in_ok-opened-in-Unary.ensures.counted
    ∙ c.in_ok-inner-in-Unary.ensures.goes

pub operand-returns-in-Number-clause-goes : goal.operand-returns-in-Number-clause-goes
operand-returns-in-Number-clause-goes n c =
    begins_number c.args.level c.args.opened c.args.tokens.now c.in-Some.rest.now c.in-Some.first.now
    c.in-Number.number c.in-Some.ensures.some (sym c.lead_of.ensures ∙ c.in-Number.is)

pub operand-returns-in-Nothing-clause-goes : goal.operand-returns-in-Nothing-clause-goes
operand-returns-in-Nothing-clause-goes n c =
    begins_wrong c.args.level c.args.opened c.args.tokens.now c.in-Some.rest.now c.in-Some.first.now
    c.in-Some.ensures.some (sym c.lead_of.ensures ∙ c.in-Nothing.is)

-- what stands behind one

pub climb-returns-in_err-opened-in-Binary : goal.climb-returns-in_err-opened-in-Binary
climb-returns-in_err-opened-in-Binary n c =
    let p = err_from_is_err_and c.from_residual.result c.from_residual.ensures.1 in
    rw (p.1, p.2) (record {
      opened = tt;
      room = tt;
      found = tt;
      formed = tt;
      tight = tt;
      rests = tt;
      shorter =
          tt;
      goes = c.in_err-opened-in-Binary.ensures.deep _
          (joins_binary_deep c.args.level c.args.opened c.args.tokens.now c.in-Some.rest.now c.in-Some.first.now
          c.in-Binary.operator c.in-Some.ensures.some (sym c.joint_of.ensures ∙ c.in-Binary.is)
          c.in_err-opened-in-Binary.ensures.none);
    })

pub climb-returns-in_err-right-in-Binary : goal.climb-returns-in_err-right-in-Binary
climb-returns-in_err-right-in-Binary n c =
    let p = err_from_is_err_and c.from_residual-in_err-right-in-Binary.result
    c.from_residual-in_err-right-in-Binary.ensures.1 in
    rw (p.1, p.2) (record {
      opened = tt;
      room = tt;
      found = tt;
      formed = tt;
      tight = tt;
      rests = tt;
      shorter =
          tt;
      goes = ends_as _ _ _ (joins_binary c.args.level c.args.opened c.in_ok-opened-in-Binary.opened
          c.args.tokens.now c.in-Some.rest.now c.in-Some.first.now c.in-Binary.operator c.in-Some.ensures.some
          (sym c.joint_of.ensures ∙ c.in-Binary.is) c.in_ok-opened-in-Binary.ensures.some
          c.in_ok-opened-in-Binary.ensures.counted)
          c.in_err-right-in-Binary.ensures.goes;
    })

pub climb-returns-in_err-both-in-Binary : goal.climb-returns-in_err-both-in-Binary
climb-returns-in_err-both-in-Binary n c =
    let p = err_from_is_err_and c.from_residual-in_err-both-in-Binary.result
    c.from_residual-in_err-both-in-Binary.ensures.1 in
    rw (p.1, p.2) (record {
      opened = tt;
      room = tt;
      found = tt;
      formed = tt;
      tight = tt;
      rests = tt;
      shorter =
          tt;
      goes = c.in_err-both-in-Binary.ensures.memory _;
    })

pub climb-returns-in_ok-both-in-Binary-clause-goes : goal.climb-returns-in_ok-both-in-Binary-clause-goes
climb-returns-in_ok-both-in-Binary-clause-goes n c =
    goes_as _ _ _ _ (joins_binary c.args.level c.args.opened c.in_ok-opened-in-Binary.opened c.args.tokens.now
    c.in-Some.rest.now c.in-Some.first.now c.in-Binary.operator c.in-Some.ensures.some
    (sym c.joint_of.ensures ∙ c.in-Binary.is) c.in_ok-opened-in-Binary.ensures.some
    c.in_ok-opened-in-Binary.ensures.counted
    ∙ c.in_ok-right-in-Binary.ensures.goes) c.climb.ensures.goes

pub climb-returns-in_err-opened-in-Question : goal.climb-returns-in_err-opened-in-Question
climb-returns-in_err-opened-in-Question n c =
    let p = err_from_is_err_and c.from_residual-in_err-opened-in-Question.result
    c.from_residual-in_err-opened-in-Question.ensures.1 in
    rw (p.1, p.2) (record {
      opened = tt;
      room = tt;
      found = tt;
      formed = tt;
      tight = tt;
      rests = tt;
      shorter =
          tt;
      goes = c.in_err-opened-in-Question.ensures.deep _
          (joins_question_deep c.args.level c.args.opened c.args.tokens.now c.in-Some.rest.now
          c.in-Some.first.now c.in-Some.ensures.some (sym c.joint_of.ensures ∙ c.in-Question.is)
          c.in_err-opened-in-Question.ensures.none);
    })

pub climb-returns-in_err-one-in-Question : goal.climb-returns-in_err-one-in-Question
climb-returns-in_err-one-in-Question n c =
    let p = err_from_is_err_and c.from_residual-in_err-one-in-Question.result
    c.from_residual-in_err-one-in-Question.ensures.1 in
    rw (p.1, p.2) (record {
      opened = tt;
      room = tt;
      found = tt;
      formed = tt;
      tight = tt;
      rests = tt;
      shorter =
          tt;
      goes = ends_as _ _ _ (joins_question c.args.level c.with_colon.result c.args.opened
          c.in_ok-opened-in-Question.opened c.args.tokens.now c.in-Some.rest.now c.in-Some.first.now
          c.with_colon.ensures.stand c.with_colon.ensures.room c.with_colon.ensures.colons
          c.in-Some.ensures.some
          (sym c.joint_of.ensures ∙ c.in-Question.is) c.in_ok-opened-in-Question.ensures.some
          c.in_ok-opened-in-Question.ensures.counted)
          c.in_err-one-in-Question.ensures.goes;
    })

pub climb-returns-in_err-rest-in-Question : goal.climb-returns-in_err-rest-in-Question
climb-returns-in_err-rest-in-Question n c =
    let p = err_from_is_err_and c.from_residual-in_err-rest-in-Question.result
    c.from_residual-in_err-rest-in-Question.ensures.1 in
    rw (p.1, p.2) (record {
      opened = tt;
      room = tt;
      found = tt;
      formed = tt;
      tight = tt;
      rests = tt;
      shorter =
          tt;
      goes = ends_as _ _ _ (joins_question c.args.level c.with_colon.result c.args.opened
          c.in_ok-opened-in-Question.opened c.args.tokens.now c.in-Some.rest.now c.in-Some.first.now
          c.with_colon.ensures.stand c.with_colon.ensures.room c.with_colon.ensures.colons
          c.in-Some.ensures.some
          (sym c.joint_of.ensures ∙ c.in-Question.is) c.in_ok-opened-in-Question.ensures.some
          c.in_ok-opened-in-Question.ensures.counted
          ∙ c.in_ok-one-in-Question.ensures.goes
          ∙ joins_colon c.args.level c.with_colon.result c.in_ok-one-in-Question.opened (kinds_in
          c.in_ok-one-in-Question.rest.now)
          c.with_colon.ensures.stand c.with_colon.ensures.room c.with_colon.ensures.colons
          c.in_ok-one-in-Question.ensures.rests)
          (ends_then _ _ (λ r. operand_at c.args.level c.in_ok-one-in-Question.opened r)
          c.in_err-rest-in-Question.ensures.goes);
    })

pub climb-returns-in_err-other-in-Question : goal.climb-returns-in_err-other-in-Question
climb-returns-in_err-other-in-Question n c =
    let p = err_from_is_err_and c.from_residual-in_err-other-in-Question.result
    c.from_residual-in_err-other-in-Question.ensures.1 in
    rw (p.1, p.2) (record {
      opened = tt;
      room = tt;
      found = tt;
      formed = tt;
      tight = tt;
      rests = tt;
      shorter =
          tt;
      goes = ends_as _ _ _ (joins_question c.args.level c.with_colon.result c.args.opened
          c.in_ok-opened-in-Question.opened c.args.tokens.now c.in-Some.rest.now c.in-Some.first.now
          c.with_colon.ensures.stand c.with_colon.ensures.room c.with_colon.ensures.colons
          c.in-Some.ensures.some
          (sym c.joint_of.ensures ∙ c.in-Question.is) c.in_ok-opened-in-Question.ensures.some
          c.in_ok-opened-in-Question.ensures.counted
          ∙ c.in_ok-one-in-Question.ensures.goes
          ∙ joins_colon c.args.level c.with_colon.result c.in_ok-one-in-Question.opened (kinds_in
          c.in_ok-one-in-Question.rest.now)
          c.with_colon.ensures.stand c.with_colon.ensures.room c.with_colon.ensures.colons
          c.in_ok-one-in-Question.ensures.rests
          ∙ ap (λ a. then a (λ r. operand_at c.args.level c.in_ok-one-in-Question.opened r))
          c.in_ok-rest-in-Question.ensures.goes)
          c.in_err-other-in-Question.ensures.goes;
    })

pub climb-returns-in_err-conditional-in-Question : goal.climb-returns-in_err-conditional-in-Question
climb-returns-in_err-conditional-in-Question n c =
    let p = err_from_is_err_and c.from_residual-in_err-conditional-in-Question.result
    c.from_residual-in_err-conditional-in-Question.ensures.1 in
    rw (p.1, p.2) (record {
      opened = tt;
      room = tt;
      found = tt;
      formed = tt;
      tight = tt;
      rests = tt;
      shorter =
          tt;
      goes = c.in_err-conditional-in-Question.ensures.memory _;
    })

pub climb-returns-in_ok-conditional-in-Question-clause-goes :
    goal.climb-returns-in_ok-conditional-in-Question-clause-goes
climb-returns-in_ok-conditional-in-Question-clause-goes n c =
    joins_question c.args.level c.with_colon.result c.args.opened c.in_ok-opened-in-Question.opened
    c.args.tokens.now c.in-Some.rest.now c.in-Some.first.now
    c.with_colon.ensures.stand c.with_colon.ensures.room c.with_colon.ensures.colons
    c.in-Some.ensures.some
    (sym c.joint_of.ensures ∙ c.in-Question.is) c.in_ok-opened-in-Question.ensures.some
    c.in_ok-opened-in-Question.ensures.counted
    ∙ c.in_ok-one-in-Question.ensures.goes
    ∙ joins_colon c.args.level c.with_colon.result c.in_ok-one-in-Question.opened (kinds_in
    c.in_ok-one-in-Question.rest.now)
    c.with_colon.ensures.stand c.with_colon.ensures.room c.with_colon.ensures.colons
    c.in_ok-one-in-Question.ensures.rests
    ∙ ap (λ a. then a (λ r. operand_at c.args.level c.in_ok-one-in-Question.opened r))
    c.in_ok-rest-in-Question.ensures.goes
    ∙ c.in_ok-other-in-Question.ensures.goes

pub climb-returns-in_ok-both-in-Binary-clause-found : goal.climb-returns-in_ok-both-in-Binary-clause-found
climb-returns-in_ok-both-in-Binary-clause-found n c =
    if_ok_then _ _ c.climb.result c.climb.ensures.found (λ x f start h. f start
    (subst (λ e. Spells (spell e) start c.in_ok-right-in-Binary.rest.now) (sym
    c.in_ok-both-in-Binary.ensures.made)
    (binary_found c.in-Binary.operator c.args.left c.in_ok-right-in-Binary.right c.in-Some.first.now start
    c.args.tokens.now
    c.in-Some.rest.now c.in_ok-right-in-Binary.rest.now h c.in-Some.ensures.some
    (sym c.joint_of.ensures ∙ c.in-Binary.is)
    c.in_ok-right-in-Binary.ensures.found)))

pub climb-returns-in_ok-conditional-in-Question-clause-found :
    goal.climb-returns-in_ok-conditional-in-Question-clause-found
climb-returns-in_ok-conditional-in-Question-clause-found n c start h =
    subst (λ e. Spells (spell e) start c.in_ok-other-in-Question.rest.now)
    (sym c.in_ok-conditional-in-Question.ensures.made)
    (conditional_found c.args.left c.in_ok-one-in-Question.one c.in_ok-other-in-Question.other
    c.in-Some.first.now start
    c.args.tokens.now c.in-Some.rest.now c.in_ok-one-in-Question.rest.now c.in_ok-rest-in-Question.rest.now
    c.in_ok-other-in-Question.rest.now h c.in-Some.ensures.some (sym c.joint_of.ensures ∙ c.in-Question.is)
    c.in_ok-one-in-Question.ensures.found c.in_ok-rest-in-Question.ensures.found
    c.in_ok-other-in-Question.ensures.found)

pub braces-returns-in_ok-repeat-in-Some-clause-found : goal.braces-returns-in_ok-repeat-in-Some-clause-found
braces-returns-in_ok-repeat-in-Some-clause-found n c start here bracket =
    subst (λ e. Spells (spell e) start c.in_ok-rest-in-Some.rest.now) (sym c.in_ok-repeat-in-Some.ensures.made)
    (repeat_spelled c.args.pos c.in_ok-first.first
    (exprs c.in_ok-parts-in-Some.parts) start c.args.tokens.now c.in_ok-first.rest.now
    c.in-Some.behind.now c.in_ok-parts-in-Some.rest.now c.in_ok-rest-in-Some.rest.now here bracket
    c.in_ok-first.ensures.found
    c.in-Some.ensures.found (c.in_ok-parts-in-Some.ensures.found c.in-Some.behind.now
    c.in_ok-part-in-Some.ensures.found)
    c.in_ok-rest-in-Some.ensures.found)

pub braces-returns-in_ok-parts-in-None-clause-found : goal.braces-returns-in_ok-parts-in-None-clause-found
braces-returns-in_ok-parts-in-None-clause-found n c start here bracket =
    subst (λ e. Spells (spell e) start c.in_ok-parts-in-None.rest.now) (sym c.concat.ensures)
    (concat_spelled c.args.pos
    (exprs c.in_ok-parts-in-None.parts) start c.args.tokens.now c.in_ok-parts-in-None.rest.now here bracket
    (c.in_ok-parts-in-None.ensures.found c.args.tokens.now c.in_ok-first.ensures.found))
