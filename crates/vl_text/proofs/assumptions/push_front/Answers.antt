use Rattle.std.proofs.Common.{[], ◌∷◌}
use Rattle.fv_text.specs.declared.keyword.Keyword.TheVariants as w
use Rattle.fv_text.specs.declared.symbol.Symbol.TheVariants as s
use Rattle.vl_text.specs.Assumptions.{word_at, sign_at}
use Rattle.vl_text.proofs.Sorting.{pushed, none_pushed}
use Rattle.vl_text.proofs.assumptions.push_front.Goals as goal

pub returns : goal.returns
returns c =
    let xs = c.args.tokens.now.items in
    let at = c.args.at in
    pushed xs (word_at w.Always at ∷ sign_at s.At at ∷ sign_at s.Star at ∷ word_at w.Assume at ∷ [])
    c.push-4.new.self.items c.push-5.new.self.items c.sign_at-3.result (sign_at s.OpenParen at)
    (pushed xs (word_at w.Always at ∷ sign_at s.At at ∷ sign_at s.Star at ∷ []) c.push-3.new.self.items
    c.push-4.new.self.items c.word_at-2.result (word_at w.Assume at)
    (pushed xs (word_at w.Always at ∷ sign_at s.At at ∷ []) c.push-2.new.self.items c.push-3.new.self.items
    c.sign_at-2.result (sign_at s.Star at)
    (pushed xs (word_at w.Always at ∷ []) c.push.new.self.items c.push-2.new.self.items c.sign_at.result
    (sign_at s.At at)
    (pushed xs [] xs c.push.new.self.items c.word_at.result (word_at w.Always at) (none_pushed xs)
    c.in_ok-push.ensures.items c.word_at.ensures) c.in_ok-push-2.ensures.items c.sign_at.ensures)
    c.in_ok-push-3.ensures.items c.sign_at-2.ensures) c.in_ok-push-4.ensures.items c.word_at-2.ensures)
    c.in_ok-push-5.ensures.items c.sign_at-3.ensures
