use Rattle.std.proofs.Common.{◌∙◌}
use Rattle.wn_net.specs.Net.{value_at}
use Rattle.wn_net.proofs.Laws.{built_node}
use Rattle.rv_words.proofs.WordLemmas.{word_below}
use Rattle.rv_rows.proofs.SignedLemmas.{sign_is}
use Rattle.rv_rows.proofs.signed.is_negative.Goals as goal

pub returns-clause-shows : goal.returns-clause-shows
returns-clause-shows c =
    let old = c.args.net.now in
    let sign = c.in_ok-sign.ensures.built in
    record {
      node = built_node _ _ _ _ _ _ sign;
      value = λ g given.
          sign.value g
          ∙ sign_is (value_at old g c.args.a) (word_below old g c.args.a c.width.ensures.whole given c.requires);
    }
