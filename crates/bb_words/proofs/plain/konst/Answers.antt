use Rattle.std.specs.Prelude.{◌≡◌, ℕ}
use Rattle.std.proofs.Common.{arith, subst}
use Rattle.fv_text.specs.Word.{number}
use Rattle.bb_words.proofs.Numbers.{Taking, taking_start, taking_next, taken_all}
use Rattle.bb_words.proofs.plain.konst.Goals as goal

pub loop-index-init : goal.loop-index-init
loop-index-init c =
    taking_start c.args.gates.now (number c.args.word.now) c.value-left.result c.new-made.result.items
    c.value-left.ensures c.new-made.ensures.items

pub loop-index-preserved : goal.loop-index-preserved
loop-index-preserved c =
    taking_next c.args.gates.now (number c.args.word.now) c.loop-index.index c.loop-index.left c.constant-one.result
    c.constant-zero.result c.lowest.result c.loop-index.made.items c.push.new.self.items c.constant-one.ensures
    c.constant-zero.ensures c.lowest.ensures c.in_ok-push.ensures.items c.loop-index.invariant

pub returns : goal.returns
returns c =
    let P : ℕ → Type 0 = λ i. Taking c.args.gates.now (number c.args.word.now) i c.loop-index.left
    c.loop-index.made.items in
    let all : c.loop-index.index ≡ c.args.word.now.width = omega arith in
    taken_all c.args.gates.now (number c.args.word.now) c.args.word.now.width c.loop-index.left c.loop-index.made.items
    c.from_vec.result c.args.word.now.value_fits c.from_vec.ensures (subst P all c.loop-index.invariant)
