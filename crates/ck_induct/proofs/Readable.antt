-- From the bits of a witness to choices of the net.
use Rattle.std.specs.Prelude.{◌≡◌, ℕ, suc, ◌<◌, ◌≤◌, ◌^◌, List, [], ◌∷◌, length, map}
use Rattle.std.specs.List.{AllByRecursion}
use Rattle.std.proofs.Common.{ap, sym, ◌∙◌, arith, subst, inl, inr, ◌⊎◌}
use Rattle.std.proofs.lemmas.Bool.{cases_lt}
use Rattle.std.proofs.lemmas.List.{length-map}
use Rattle.std.proofs.lemmas.Nat.{pow_pos}
use Rattle.wn_net.specs.Given.{AreNumbersOf}
use Rattle.wn_net.specs.Net.{Netlist}
use Rattle.wn_run.specs.Runs.{Choices, AreChoicesOf}
use Rattle.bm_unroll.specs.declared.frames.Source.{Source}
use Rattle.bm_unroll.specs.declared.frames.Source.TheVariants as s
use Rattle.bm_unroll.specs.Frames.{Chooses, chosen, source_width}
use Rattle.bm_decide.specs.declared.verdict.ChoiceBits.{ChoiceBits}
use Rattle.bm_decide.specs.declared.verdict.Witness.{Witness}
use Rattle.bm_decide.specs.Chosen.{AreReadable, HaveNumbers, numbers_read}
use Rattle.ck_induct.specs.Verdicts.{AreBitsBy}

pub readable : (net : Netlist) (IsSource : Source → Type 0) (bits : ChoiceBits) → AreBitsBy net IsSource bits
    → AreReadable bits
readable net IsSource bits own = record {
  distinct = own.distinct;
  each = ap length own.widths ∙ length-map bits.sources (source_width net);
  widths = own.wide;
  places = own.places;
}

-- each source has a number of its width
fits : (net : Netlist) (ch : Choices) (xs : List Source) → AreNumbersOf (map (source_width net) xs) (map (chosen ch) xs)
    → AllByRecursion (λ y. chosen ch y < 2 ^ source_width net y) xs
fits net ch [] h = tt
fits net ch (x ∷ xs) h =
    (h.below 0, fits net ch xs (record { each = omega (arith, h.each); below = λ i. h.below (suc i) }))

-- so one that has none isn't there
absent : (net : Netlist) (ch : Choices) (xs : List Source) (x : Source)
    → AllByRecursion (λ y. chosen ch y < 2 ^ source_width net y) xs → 2 ^ source_width net x ≤ chosen ch x
    → AllByRecursion (λ y. y ≡ x → ⊥) xs
absent net ch [] x own high = tt
absent net ch (y ∷ ys) x own high =
    let P : Source → Type 0 = λ z. chosen ch z < 2 ^ source_width net z in
    (λ e. absurd (omega (arith, subst P e own.0, high)), absent net ch ys x own.1 high)

small : (net : Netlist) (ch : Choices) (xs : List Source) (ns : List ℕ) (x : Source)
    → AllByRecursion (λ y. chosen ch y < 2 ^ source_width net y) xs → HaveNumbers xs ns ch
    → chosen ch x < 2 ^ source_width net x
small net ch xs ns x own have = by (cases_lt (chosen ch x) (2 ^ source_width net x))
  where
    by : (chosen ch x < 2 ^ source_width net x) ⊎ (2 ^ source_width net x ≤ chosen ch x)
        → chosen ch x < 2 ^ source_width net x
    by (inl less) = less
    by (inr high) =
        let none = have.others x (absent net ch xs x own high) in
        omega (arith, none, pow_pos (source_width net x))

-- choices with the numbers of some others are of the net
pub read_of_net : (net : Netlist) (IsSource : Source → Type 0) (x : Witness) (ch : Choices)
    → AreBitsBy net IsSource x.bits → Chooses net x.bits.sources (numbers_read x)
    → HaveNumbers x.bits.sources (numbers_read x) ch → AreChoicesOf net ch
read_of_net net IsSource x ch bits some have =
    let xs = x.bits.sources in
    let W : List ℕ → Type 0 = λ ws. AreNumbersOf ws (map (chosen some.ch) xs) in
    let F : List ℕ → Type 0 = λ ns. AreNumbersOf (map (source_width net) xs) ns in
    let own = fits net ch xs
    (subst F (some.same ∙ sym have.same) (subst W bits.widths (bits.chosen.number some.ch some.of_net))) in
    record {
      each_cycle = λ k i below. small net ch xs (numbers_read x) (s.Each i k) own have;
      once = λ i below. small net ch xs (numbers_read x) (s.Once i) own have;
      regs = λ r below. small net ch xs (numbers_read x) (s.RegStart r) own have;
      words = λ m w below. small net ch xs (numbers_read x) (s.WordStart m w) own have;
    }
