use Rattle.std.specs.Prelude.{◌≡◌, ◌+◌, ◌-◌}
use Rattle.std.proofs.Common.{◌∙◌, sym, ap, arith}
use Rattle.wn_net.specs.Net.{value_at}
use Rattle.rv_expand.specs.Spans.{size, sizes, behind}
use Rattle.rv_expand.proofs.span.+behind.Goals as goal

pub returns-clause-shows : goal.returns-clause-shows
returns-clause-shows t c =
    let old = c.args.net.now in
    let word = c.args.word in
    let first = c.in-Some.first.now in
    let others = c.in-Some.others.now in
    let more = c.in_ok-more.ensures in
    let bits = c.in_ok-bits.ensures in
    let whole = sym c.in-Some.ensures.cases.0 in
    let wide : c.args.width + (first.high + 1 - first.low) + sizes others ≡ c.args.width + (size first + sizes others) =
    omega arith in
    record {
      node = (bits.shows.node.0, bits.shows.node.1 ∙ wide ∙ ap (λ ss. c.args.width + sizes ss) whole);
      value = λ g given.
          let same = more.adds.keeps.values g word c.requires.word.0 in
          bits.shows.value g (more.adds.keeps.given g given)
          ∙ (λ i. behind (same i) (more.shows.value g given i) others)
          ∙ (λ i. behind (value_at old g word) (value_at old g c.args.front) (whole i));
    }
