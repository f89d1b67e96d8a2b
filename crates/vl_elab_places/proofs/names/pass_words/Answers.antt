use Rattle.std.proofs.Common.{◌∙◌, ap}
use Rattle.vl_elab_places.specs.Passing.{moved}
use Rattle.vl_elab_places.proofs.names.pass_words.Goals as goal

pub returns : goal.returns
returns c = c.moved.ensures ∙ ap (λ n. moved n c.args.name.now.pos c.args.start) c.in_ok-count.ensures
