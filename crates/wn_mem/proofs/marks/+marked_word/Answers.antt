use Rattle.std.specs.Prelude.{◌/◌, length}
use Rattle.std.proofs.Common.{rules, arith}
use Rattle.wn_net.specs.Net.{width_at}
use Rattle.wn_net.proofs.Laws.{nodes_on}
use Rattle.wn_mem.proofs.Tree.{back_own, zero_on}
use Rattle.wn_mem.proofs.Telling.{marked_value, tell_on}
use Rattle.wn_mem.proofs.marks.+marked_word.Goals as goal

pub marked_word-requires-2 : goal.marked_word-requires-2
marked_word-requires-2 t c =
    let adds = c.in_ok-low.ensures.adds in (
      search rules,
      (
        back_own _ _ c.args.zero (length c.args.words.now / 2) c.args.words.now _ adds c.requires.zero.there
            c.requires.words c.split_at.ensures.back,
        (
          nodes_on _ _ 1 c.args.marks.now adds c.requires.marks,
          (
            zero_on _ _ c.args.zero adds c.requires.zero,
            omega (arith, c.requires.enough, c.split_at.ensures.back_len),
          ),
        ),
      ),
    )

pub returns-clause-value : goal.returns-clause-value
returns-clause-value t c = λ g n tell.
    let low = c.in_ok-low.ensures in
    marked_value c.args.net.now c.marked_word.new.net c.marked_word-2.new.net c.or.new.self g c.args.words.now
    c.split_at.result.0.now c.split_at.result.1.now (width_at c.args.net.now c.args.zero) c.args.first n
    (length c.args.words.now / 2) c.in_ok-low.low c.in_ok-high.high c.in_ok-found-2.found
    c.split_at.ensures.front c.split_at.ensures.back c.requires.words low.adds c.in_ok-high.ensures.adds low.there.0
    (low.value g n tell)
    (c.in_ok-high.ensures.value g n (tell_on _ _ g c.args.marks.now n low.adds c.requires.marks tell))
    (c.in_ok-found-2.ensures.built.value g)
