use Rattle.std.proofs.Common.{[], ◌∷◌}
use Rattle.fv_text.specs.declared.symbol.Symbol.TheVariants as s
use Rattle.vl_text.specs.Assumptions.{sign_at}
use Rattle.vl_text.proofs.Sorting.{pushed, none_pushed}
use Rattle.vl_text.proofs.assumptions.push_end.Goals as goal

pub returns : goal.returns
returns c =
    let at = c.args.at in
    pushed c.args.tokens.now.items (sign_at s.CloseParen at ∷ []) c.push.new.self.items c.push-2.new.self.items
    c.sign_at-2.result (sign_at s.Semicolon at)
    (pushed c.args.tokens.now.items [] c.args.tokens.now.items c.push.new.self.items c.sign_at.result
    (sign_at s.CloseParen at) (none_pushed c.args.tokens.now.items) c.in_ok-push.ensures.items c.sign_at.ensures)
    c.in_ok-push-2.ensures.items c.sign_at-2.ensures
