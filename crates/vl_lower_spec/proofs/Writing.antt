-- Words written one after the other, and the state that comes of it.
use Rattle.std.specs.Prelude.{◌≡◌, refl, ℕ, zero, suc, ◌+◌, ◌<◌, ◌^◌, List, [], ◌∷◌, ◌++◌, length, map}
use Rattle.std.specs.Prelude.{slice_index, slice_set, bit_and, bit_or}
use Rattle.std.proofs.Common.{ap, sym, ◌∙◌, arith}
use Rattle.std.proofs.lemmas.Nat.{and_comm, and_mask}
use Rattle.std.specs.Int.Bits.{and_zero_r, or_zero_r}
use Rattle.std.proofs.Math.Nat.{mod-eq_of_lt}
use Rattle.fv_bits.specs.Bits.{complement, masked, ones}
use Rattle.vl_size.specs.Size.{Values}
use Rattle.vl_lower_spec.specs.Maps.{spot_number}
use Rattle.wn_net.specs.declared.names.Names.{Names}
use Rattle.wn_net.specs.declared.names.Spot.{Spot}
use Rattle.wn_net.specs.declared.parts.MemWrite.{MemWrite}
use Rattle.wn_net.specs.declared.parts.Reg.{Reg}
use Rattle.wn_net.specs.Value.{Given, word_at}
use Rattle.wn_net.specs.Net.{Netlist, value_at, values_of}
use Rattle.wn_net.specs.Next.{write, write_each, written}
use Rattle.vl_lower_spec.specs.Sources.{AreEach}
use Rattle.vl_lower_spec.specs.Edges.{IsNextOf, NextStatesAreNext, WriteWords, WritesWord}

-- under a mask of ones all bits are new
all_new : (w from to : ℕ) → to < 2 ^ w → masked w (ones w) from to ≡ to
all_new w from to small =
    let low : bit_and (ones w) to ≡ to =
    and_comm (ones w) to ∙ and_mask to w ∙ mod-eq_of_lt small in
    let none : complement w (ones w) ≡ 0 = omega arith in
    let gone : bit_and (complement w (ones w)) from ≡ 0 =
    ap (λ n. bit_and n from) none ∙ and_comm 0 from ∙ and_zero_r from in
    ap (λ n. bit_or n (bit_and (complement w (ones w)) from)) low ∙ ap (bit_or to) gone ∙ or_zero_r to

set_here : (done : List ℕ) (r : ℕ) (rest : List ℕ) (k y : ℕ) → length done ≡ k
    → slice_set (done ++ r ∷ rest) k y ≡ done ++ y ∷ rest
set_here [] r rest zero y e = refl
set_here [] r rest (suc k) y e = absurd (omega (arith, e))
set_here (d ∷ ds) r rest zero y e = absurd (omega (arith, e))
set_here (d ∷ ds) r rest (suc k) y e = ap (λ zs. d ∷ zs) (set_here ds r rest k y (omega (arith, e)))

module _ (net : Netlist) (g : Given) (width : ℕ) (w : Values) where
  abbrev vs : List ℕ
  vs = values_of net g

  one_written : (done : List ℕ) (r : ℕ) (rest : List ℕ) (k number : ℕ) (x : MemWrite) → length done ≡ k
      → WritesWord net g width k number x → write vs width (done ++ r ∷ rest) x ≡ done ++ number ∷ rest
  unfolding value_at
  one_written done r rest k number x e is =
      let words = done ++ r ∷ rest in
      ap (λ n. written width words n (slice_index vs x.addr) (slice_index vs x.mask) (slice_index vs x.value)) is.acts
      ∙ (λ j. slice_set words (is.at j) (masked width (is.whole j) (word_at words (is.at j)) (is.is j)))
      ∙ ap (slice_set words k) (all_new width (word_at words k) number is.small)
      ∙ set_here done r rest k number e

  all_written : (done rest : List ℕ) (k : ℕ) (xs : List MemWrite) (ns : List (List ℕ)) → length done ≡ k
      → length rest ≡ length ns → WriteWords net g width w k xs ns
      → write_each vs width (done ++ rest) xs ≡ done ++ map w ns
  all_written done [] k [] [] e m h = refl
  all_written done (r ∷ rest) k [] [] e m h = absurd (omega (arith, m))
  all_written done rest k [] (n ∷ ns) e m h = absurd h
  all_written done rest k (x ∷ xs) [] e m h = absurd h
  all_written done [] k (x ∷ xs) (n ∷ ns) e m h = absurd (omega (arith, m))
  all_written done (r ∷ rest) k (x ∷ xs) (n ∷ ns) e m h =
      ap (λ ws. write_each vs width ws xs)
      (one_written done r rest k (w n) x e h.0 ∙ sym (grouped done (w n) rest))
      ∙ all_written (done ++ w n ∷ []) rest (k + 1) xs ns (longer done (w n) k e) (omega (arith, m)) h.1
      ∙ grouped done (w n) (map w ns)
    where
      grouped : (ds : List ℕ) (y : ℕ) (zs : List ℕ) → (ds ++ y ∷ []) ++ zs ≡ ds ++ y ∷ zs
      grouped [] y zs = refl
      grouped (d ∷ ds) y zs = ap (λ qs. d ∷ qs) (grouped ds y zs)

      longer : (ds : List ℕ) (y k : ℕ) → length ds ≡ k → length (ds ++ y ∷ []) ≡ k + 1
      longer [] y k f = omega (arith, f)
      longer (d ∷ ds) y zero f = absurd (omega (arith, f))
      longer (d ∷ ds) y (suc k) f = omega (arith, longer ds y k (omega (arith, f)))

module _ (net : Netlist) (names : Names) (g : Given) (w : Values) where
  regs_next : (rs : List Reg) (ps : List Spot) → AreEach (IsNextOf net names g w) rs ps
      → map (λ r. slice_index (values_of net g) r.next) rs ≡ map (spot_number names w) ps
  unfolding value_at
  regs_next [] [] h = refl
  regs_next [] (p ∷ ps) h = absurd h
  regs_next (r ∷ rs) [] h = absurd h
  regs_next (r ∷ rs) (p ∷ ps) h = λ j. h.0 j ∷ regs_next rs ps h.1 j

-- words of which each is written with a number
pub words_written : (net : Netlist) (g : Given) (width : ℕ) (w : Values) (words : List ℕ) (xs : List MemWrite)
    (ns : List (List ℕ)) → length words ≡ length ns → WriteWords net g width w 0 xs ns
    → write_each (values_of net g) width words xs ≡ map w ns
words_written net g width w words xs ns many h = all_written net g width w [] words 0 xs ns refl many h

pub next_is : NextStatesAreNext
next_is net names g w is regs mems =
    let rs = regs_next net names g w net.regs names.regs regs in
    λ j. record { regs = rs j; mems = mems j }
