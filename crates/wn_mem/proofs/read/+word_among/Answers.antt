use Rattle.std.specs.Prelude.{◌≡◌, ◌∷◌, ◌*◌, ◌^◌, min, length}
use Rattle.std.proofs.Common.{rules, arith, ap, ◌∙◌}
use Rattle.wn_net.specs.Net.{width_at}
use Rattle.wn_net.proofs.Laws.{given_on, nodes_on}
use Rattle.wn_mem.specs.Words.{apart}
use Rattle.wn_mem.proofs.Tree.{among_value, back_own, rest_own, back_short, zero_on}
use Rattle.wn_mem.proofs.Telling.{tell_on}
use Rattle.wn_mem.proofs.read.+word_among.Goals as goal

pub word_among-requires-2 : goal.word_among-requires-2
word_among-requires-2 t c =
    let e : c.args.bits.now ≡ c.in-Some.top.now ∷ c.in-Some.rest.now = search rules in
    let each : c.max.result ≡ apart c.args.marks.now = c.max.ensures in
    let half_is : c.half_of-half.result
    ≡ min (length c.args.words.now) (2 ^ length c.in-Some.rest.now * apart c.args.marks.now) =
    c.half_of-half.ensures ∙ ap (λ s. min (length c.args.words.now) (2 ^ length c.in-Some.rest.now * s)) each in
    let adds = c.in_ok-low.ensures.adds in (
      search rules,
      (
        back_own _ _ c.args.zero c.half_of-half.result c.args.words.now _ adds c.requires.zero.there c.requires.words
            c.split_at.ensures.back,
        (
          rest_own _ _ c.args.bits.now _ _ adds e c.requires.bits,
          (
            nodes_on _ _ 1 c.args.marks.now adds c.requires.marks,
            (
              zero_on _ _ c.args.zero adds c.requires.zero,
              (
                omega (arith, c.requires.few, ap length e),
                (
                  c.requires.few_marks,
                  back_short c.args.words.now _ c.args.bits.now _ _ c.half_of-half.result (apart c.args.marks.now) e
                      c.requires.enough half_is c.split_at.ensures.back,
                ),
              ),
            ),
          ),
        ),
      ),
    )

pub returns-clause-value : goal.returns-clause-value
returns-clause-value t c = λ g n given few tell.
    let e : c.args.bits.now ≡ c.in-Some.top.now ∷ c.in-Some.rest.now = search rules in
    let each : c.max.result ≡ apart c.args.marks.now = c.max.ensures in
    let half_is : c.half_of-half.result
    ≡ min (length c.args.words.now) (2 ^ length c.in-Some.rest.now * apart c.args.marks.now) =
    c.half_of-half.ensures ∙ ap (λ s. min (length c.args.words.now) (2 ^ length c.in-Some.rest.now * s)) each in
    let low = c.in_ok-low.ensures in
    among_value c.args.net.now c.word_among.new.net c.word_among-2.new.net c.mux.new.self g c.args.words.now
    c.args.bits.now
    (width_at c.args.net.now c.args.zero) c.in-Some.top.now c.in-Some.rest.now
    c.split_at.result.0.now c.split_at.result.1.now
    c.half_of-half.result c.in_ok-low.low c.in_ok-high.high c.in_ok-found.found (apart c.args.marks.now) n
    c.split_at.ensures.front
    c.split_at.ensures.back
    c.width.ensures.whole given e c.requires.bits c.requires.words (omega (arith, half_is))
    (omega (arith, half_is))
    (λ k. omega (arith, half_is, k)) few low.adds c.in_ok-high.ensures.adds low.there.0
    (low.value g n given few tell)
    (c.in_ok-high.ensures.value g n (given_on _ _ g low.adds given) few
    (tell_on _ _ g c.args.marks.now n low.adds c.requires.marks tell))
    (c.in_ok-found.ensures.built.value g)
