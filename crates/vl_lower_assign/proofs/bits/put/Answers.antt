use Rattle.std.specs.Prelude.{◌≡◌, refl, ◌+◌, ◌-◌, ◌/◌, ◌^◌, ℕ, ℤ, pos, ◌+ℤ◌}
use mir.Syntax.{w64}
use mir.Val.{to_z, of_z}
use Rattle.std.proofs.Common.{ap, sym, ◌∙◌, arith, subst}
use Rattle.std.proofs.lemmas.Int.{ints}
use Rattle.fv_bits.specs.Bits.{joined, low, part}
use Rattle.wn_net.specs.Net.{width_at, value_at}
use Rattle.wn_net.proofs.Laws.{value_on, given_on, adds_on}
use Rattle.wn_net.proofs.Moved.{value_below}
use Rattle.vl_lower_assign.specs.Overlap.{IsOverlap}
use Rattle.vl_lower_assign.proofs.Spliced.{spliced, untouched}
use Rattle.vl_lower_assign.proofs.bits.put.Goals as goal

pub returns-in_default-clause-shows : goal.returns-in_default-clause-shows
returns-in_default-clause-shows c =
    let net = c.args.net.now in
    let place_is : to_z w64 (of_z w64 c.args.place) ≡ c.args.place = omega (arith, ints) in
    record {
      node = (c.requires.vector, refl);
      value = λ g given.
          untouched (width_at net c.args.value) (width_at net c.args.vector) c.args.place (value_at net g c.args.value)
          (value_at net g c.args.vector) (value_below net g c.width-width.ensures.whole given c.args.vector)
          (λ j i low few e.
          c.overlap_of.ensures.none c.in_default.is j i (omega (arith, low, c.width-width.ensures.value))
          (omega (arith, few, c.width-count.ensures.value)) (e ∙ ap (λ q. q +ℤ pos i) (sym place_is)));
    }

pub returns-clause-shows : goal.returns-clause-shows
returns-clause-shows c =
    let net = c.args.net.now in
    let n = width_at net c.args.value in
    let w = width_at net c.args.vector in
    let from = c.in-Some.overlap.from in
    let past = c.in-Some.overlap.past in
    let skip = c.in-Some.overlap.skip in
    let place_is : to_z w64 (of_z w64 c.args.place) ≡ c.args.place = omega (arith, ints) in
    let P : ℤ → Type 0 = λ p. IsOverlap c.width-count.result c.width-width.result p from past skip in
    let Q : ℕ → Type 0 = λ k. IsOverlap k c.width-width.result c.args.place from past skip in
    let R : ℕ → Type 0 = λ k. IsOverlap n k c.args.place from past skip in
    let o : IsOverlap n w c.args.place from past skip =
    subst R c.width-width.ensures.value (subst Q c.width-count.ensures.value (subst P place_is
    c.in-Some.ensures.some)) in
    let one = c.in_ok-middle.ensures in
    let two = c.in_ok-below.ensures in
    let three = c.in_ok-whole.ensures in
    let both = adds_on _ _ _ one.adds two.adds in
    let first = c.part_of.new.net in
    let last = c.with_low.new.net in
    let long : width_at last c.in_ok-below.below ≡ past =
    two.shows.node.1 ∙ (λ i. one.shows.node.1 i + from) ∙ omega (arith, o.some) in
    record {
      node = (three.shows.node.0, three.shows.node.1 ∙ both.keeps.widths c.args.vector c.requires.vector);
      value = λ g given.
          let x = value_at net g c.args.vector in
          let y = value_at net g c.args.value in
          let below : value_at last g c.in_ok-below.below ≡ joined from (part skip (past - from) y) (low from x) =
          two.shows.value g (given_on net first g one.adds given)
          ∙ (λ i. joined from (one.shows.value g given i)
          (low from (value_on net first g c.args.vector one.adds c.requires.vector i))) in
          three.shows.value g (given_on net last g both given)
          ∙ (λ i. joined (long i) (value_on net last g c.args.vector both c.requires.vector i / 2 ^ long i) (below i))
          ∙ spliced n w c.args.place y x from past skip
          (value_below net g c.width-width.ensures.whole given c.args.vector) o;
    }
