use Rattle.std.proofs.Common.{◌<◌, ◌^◌, Some, sym, ◌∙◌, ap, subst}
use Rattle.std.specs.List.{AllByRecursion}
use Rattle.aiger_text.specs.Header.{shorts}
use Rattle.aiger_text.specs.Lines.{words}
use Rattle.aiger_text.proofs.HeaderLaws.{shorts_next, shorts_last, small_push}
use Rattle.aiger_text.proofs.header.shorts.Goals as goal

-- a word that is no number
pub returns-in_default-short-clause-numbers : goal.returns-in_default-short-clause-numbers
returns-in_default-short-clause-numbers c =
    shorts_next c.loop-word.rest.now c.in-Some.word.now c.in-Some.behind.now c.loop-word.numbers.items _ _
    c.in-Some.ensures c.in_default-short.ensures.value c.loop-word.invariant.left

pub loop-word-preserved : goal.loop-word-preserved
loop-word-preserved c = record {
  left =
      ap (λ ns. shorts ns (words c.in-Some.behind.now)) c.in_ok-push.ensures.items
      ∙ shorts_next c.loop-word.rest.now c.in-Some.word.now c.in-Some.behind.now c.loop-word.numbers.items _ _
      c.in-Some.ensures c.in-Some-short.ensures.value c.loop-word.invariant.left;
  small =
      subst (AllByRecursion (λ n. n < 10 ^ 20)) (sym c.in_ok-push.ensures.items)
      (small_push c.loop-word.numbers.items c.in-Some-short.number c.loop-word.invariant.small
      c.in-Some-short.ensures.within);
}

-- the last word
pub returns-in_default-short-2-clause-numbers : goal.returns-in_default-short-2-clause-numbers
returns-in_default-short-2-clause-numbers c =
    shorts_last c.loop-word.rest.now c.loop-word.numbers.items _ _ c.in_default.ensures
    c.in_default-short-2.ensures.value c.loop-word.invariant.left

pub returns-clause-numbers : goal.returns-clause-numbers
returns-clause-numbers c =
    ap (λ ns. Some ns) c.in_ok-push-2.ensures.items
    ∙ shorts_last c.loop-word.rest.now c.loop-word.numbers.items _ _ c.in_default.ensures
    c.in-Some-short-2.ensures.value c.loop-word.invariant.left

pub returns-clause-small : goal.returns-clause-small
returns-clause-small c =
    subst (AllByRecursion (λ n. n < 10 ^ 20)) (sym c.in_ok-push-2.ensures.items)
    (small_push c.loop-word.numbers.items c.in-Some-short-2.number c.loop-word.invariant.small
    c.in-Some-short-2.ensures.within)
