use Rattle.std.specs.Prelude.{◌≡◌, ◌-◌, ◌∷◌, ◌++◌, [], length, take}
use Rattle.std.proofs.Common.{arith, ap, ◌∙◌}
use Rattle.bb_words.proofs.Copies.{made_top_turned}
use Rattle.bb_words.proofs.without_gates.with_top_turned.Goals as goal

pub returns : goal.returns
returns c = λ graph h.
    let word = c.args.word.now in
    let last = length word - 1 in
    let front : c.in_ok-made.made.items ≡ take last word = c.in_ok-made.ensures.items in
    made_top_turned graph word c.push.new.self.items last _ c.complement.result (omega arith)
    (c.complement.ensures.there graph) (c.complement.ensures.turned graph)
    (c.in_ok-push.ensures.items ∙ ap (λ ls. ls ++ c.complement.result ∷ []) front) h
