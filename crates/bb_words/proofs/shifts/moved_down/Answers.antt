use Rattle.std.specs.Prelude.{◌++◌, drop}
use Rattle.std.proofs.Common.{ap, ◌∙◌}
use Rattle.std.proofs.lemmas.List.{take_rest}
use Rattle.bb_words.proofs.Past.{down_made}
use Rattle.bb_words.proofs.shifts.moved_down.Goals as goal

pub returns : goal.returns
returns c =
    let word = c.args.word.now in
    down_made c.args.fill c.args.by word c.extend_from_slice.new.self.items c.requires
    (c.in_ok-extend_from_slice.ensures.items
    ∙ ap (λ ls. ls ++ c.as_slice.result.now) (c.in_ok-made.ensures.items ∙ take_rest word c.args.by)
    ∙ ap (λ ls. drop c.args.by word ++ ls) (c.as_slice.ensures.value ∙ c.in_ok-filled.ensures))
