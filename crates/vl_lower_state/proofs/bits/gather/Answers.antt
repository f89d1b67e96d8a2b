use Rattle.std.specs.Prelude.{◌≡◌, refl, ℕ, List, length}
use Rattle.std.proofs.Common.{ap, sym, ◌∙◌}
use Rattle.wn_net.specs.Net.{width_at, value_at}
use Rattle.wn_net.proofs.Moved.{value_below}
use Rattle.vl_lower_spec.specs.Maps.{gathered}
use Rattle.vl_lower_spec.specs.Sources.{below}
use Rattle.vl_lower_spec.proofs.Bits.{below_many, gathered_whole}
use Rattle.vl_lower_state.proofs.bits.gather.Goals as goal

pub returns-then-are_all-clause-shows : goal.returns-then-are_all-clause-shows
returns-then-are_all-clause-shows c =
    let net = c.args.net.now in
    let width = width_at net c.args.node in
    let all : c.args.bits.now ≡ below width =
    c.if-are_all.ensures refl ∙ ap below c.width-width.ensures.value in
    record {
      node = (c.requires.node, sym (ap (λ (xs : List ℕ). length xs) all ∙ below_many width));
      value = λ g given.
          sym (ap (gathered (value_at net g c.args.node)) all
          ∙ gathered_whole (value_at net g c.args.node) width
          (value_below net g c.width-width.ensures.whole given c.args.node));
    }
