use Rattle.std.specs.Prelude.{◌<◌}
use Rattle.std.proofs.Common.{sym, refl, arith, subst, ℕ}
use Rattle.wn_net.specs.Net.{value_at}
use Rattle.wn_net.proofs.Laws.{adds_on}
use Rattle.rv_words.proofs.WordLemmas.{word_below}
use Rattle.rv_rows.proofs.DivisionLemmas.{starts, divided_at}
use Rattle.rv_rows.proofs.division.divide.Goals as goal

pub loop-done-init : goal.loop-done-init
loop-done-init c =
    let old = c.args.net.now in
    let zero = c.in_ok-zero.ensures in
    let whole = c.width.ensures.whole in
    record {
      adds = zero.adds;
      there = record { quotient = zero.shows.node; rest = zero.shows.node };
      value = λ g given some.
          starts (value_at old g c.args.a) (value_at old g c.args.b) _
          (word_below old g c.args.a whole given c.requires.left) some (zero.shows.value g given);
    }

pub loop-done-preserved : goal.loop-done-preserved
loop-done-preserved c =
    let adds = c.loop-done.invariant.adds in
    let step = c.in_ok-division.ensures in
    record {
      adds = adds_on _ _ _ adds step.adds;
      there = step.there;
      value = λ g given some.
          let a_is = adds.keeps.values g c.args.a c.requires.left.0 in
          let b_is = adds.keeps.values g c.args.b c.requires.right.0 in
          let P : ℕ → Type 0 = λ n. 0 < n in
          divided_at _ _ _ _ _ _ _ _ _ _ a_is b_is (omega arith) refl refl
          (step.value g (adds.keeps.given g given) (subst P (sym b_is) some)
          (divided_at _ _ _ _ _ _ _ _ _ _ (sym a_is) (sym b_is) (omega arith) refl refl
          (c.loop-done.invariant.value g given some)));
    }
