use Rattle.std.specs.Prelude.{◌≡◌, Option, List, ℕ, IfSome, slice_index_or}
use Rattle.std.proofs.Common.{arith, subst, ◌∙◌}
use Rattle.bb_cuts.specs.Variables.{AreSame}
use Rattle.bb_cuts.proofs.Words.{words_next}
use Rattle.bb_cuts.proofs.variables.words_of.Goals as goal

pub loop-word-preserved : goal.loop-word-preserved
loop-word-preserved c =
    let nodes = c.args.nodes.now in
    let words = c.args.words.now in
    let i = c.loop-word.word-index in
    let d = c.word-item.result in
    let P : Option (List ℕ) → Type 0 = λ o. IfSome o (λ made. AreSame nodes made c.as_slice.result.now) in
    let Q : List ℕ → Type 0 = λ os. AreSame nodes c.in-Some.own os in
    let e : c.as_slice.result.now ≡ slice_index_or words i d = c.as_slice.ensures ∙ c.word-item.is in
    words_next nodes c.loop-word.made c.push.new.self words i d c.in-Some.own (omega arith) c.loop-word.invariant
    (subst Q e (subst P c.in-Some.is c.in_ok-own.ensures)) c.in_ok-push.ensures.ok
