use Rattle.std.specs.Prelude.{◌-◌, ◌++◌, length, take}
use Rattle.std.proofs.Common.{ap, ◌∙◌}
use Rattle.bb_words.proofs.Past.{up_made}
use Rattle.bb_words.proofs.shifts.moved_up.Goals as goal

pub returns : goal.returns
returns c =
    let word = c.args.word.now in
    let n = length word - c.args.by in
    up_made c.args.fill c.args.by word c.extend_from_slice.new.self.items c.requires
    (c.in_ok-extend_from_slice.ensures.items ∙ ap (λ ls. ls ++ take n word) c.in_ok-made.ensures)
