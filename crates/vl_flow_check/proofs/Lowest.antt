-- The lowest bit, and the first name with one.
use Rattle.std.specs.Prelude.{◌≡◌, refl, ℕ, zero, suc, ◌+◌, ◌<◌, ◌≤◌, ◌^◌, ◌==◌, List, [], ◌∷◌, length, take, Bool}
use Rattle.std.specs.Prelude.{true, false, ◌&&◌, nat_lt, Option, Some, None, is_none, is_some, not, slice_get}
use Rattle.std.specs.Prelude.{if◌then◌else◌}
use Rattle.std.proofs.Common.{ap, sym, ◌∙◌, arith, subst, true≢false, ◌⊎◌, inl, inr}
use Rattle.std.proofs.lemmas.Bool.{and_parts, cases_order}
use Rattle.std.proofs.lemmas.Bool.Decides.{nat_tests}
use Rattle.std.proofs.lemmas.Nat.Bits.{bit_at-trailing_zeros}
use Rattle.std.proofs.lemmas.Option.{same_Some}
use Rattle.std.specs.Int.{bit_at, trailing_zeros, w128}
use Rattle.fv_text.specs.declared.pos.Pos.{Pos}
use Rattle.vl_size.specs.declared.decl.Decl.{Decl}
use Rattle.vl_mean.specs.Cells.{cells}
use Rattle.vl_mean.specs.declared.driver.Driver.{Driver}
use Rattle.fv_bit_sets.specs.declared.step.Step.{Step}
use Rattle.fv_bit_sets.specs.Cells.{has, is_set}
use Rattle.fv_bit_sets.proofs.Masks.{set_zero}
use Rattle.vl_flow_spec.specs.Refusals.{are_two, bits_counted, first_below, in_order, places_of, twice_driven}
use Rattle.vl_flow_spec.specs.Refusals.{two_drivers}
use Rattle.vl_flow_spec.specs.Refusals.{with_two}
use Rattle.vl_flow_cells.specs.Numbered.{first_cell}
use Rattle.vl_flow_cells.proofs.Lists.{get_less}
use Rattle.vl_flow_cells.proofs.Numbers.{next_first}
use Rattle.vl_flow_order.specs.CellGroups.{IsCellAt}
use Rattle.vl_flow_check.specs.Layouts.{AreAllBits}
use Rattle.vl_flow_check.proofs.Firsts.{first_at, none_at}
use Rattle.vl_flow_check.proofs.OpenBits.{lowest_below, none_below}
use Rattle.vl_flow_check.specs.declared.overlap.Overlap.{Overlap}
use Rattle.vl_flow_check.specs.declared.share.Share.{Share}
use Rattle.vl_flow_check.specs.Doubled.{doubled_of, Tells}
use Rattle.vl_flow_check.specs.Shares.{places_at, AreBitShares, AreNameShares, IsOverlapOf}
use Rattle.vl_flow_check.proofs.Drivers.{one_cell}

-- ---- the lowest bit of a mask

not_this : (a b : Bool) → (a && b) ≡ false → b ≡ true → a ≡ false
not_this true b e f = absurd (true≢false (sym f ∙ e))
not_this false b e f = refl

module _ (mask : ℕ) (f : ℕ → Bool) (p : ℕ → Bool) (width : ℕ) (is : (i : ℕ) → is_set mask i ≡ f i)
    (tells : (i : ℕ) → f i ≡ (p i && nat_lt i width)) where
  pub no_bit : mask ≡ 0 → None ≡ first_below p width
  no_bit zero_it =
      sym (none_below p width (λ i less.
      not_this (p i) (nat_lt i width)
      (sym (tells i) ∙ sym (is i) ∙ ap (λ m. is_set m i) zero_it ∙ set_zero i) (grind (arith, nat_tests, less))))

  pub lowest : 0 < mask → mask < 2 ^ 128 → Some (trailing_zeros w128 mask) ≡ first_below p width
  lowest some fits =
      sym (lowest_below p width bit less parts.0 (λ j h.
      not_this (p j) (nat_lt j width) (sym (tells j) ∙ sym (is j) ∙ ap (λ z. z == 1) (low.2 j h))
      (grind (arith, nat_tests, h, less))))
    where
      bit : ℕ
      bit = trailing_zeros w128 mask

      low : (bit < 128) × (bit_at mask bit ≡ 1) × ((i : ℕ) → i < bit → bit_at mask i ≡ 0)
      low = bit_at-trailing_zeros w128 mask some fits

      parts : (p bit ≡ true) × (nat_lt bit width ≡ true)
      parts = and_parts (p bit) (nat_lt bit width)
          (sym (tells bit) ∙ sym (is bit) ∙ ap (λ z. z == 1) low.1)

      less : bit < width
      less = let test = parts.1 in grind (arith, nat_tests, test)

pub few_zeros : (mask : ℕ) → 0 < mask → mask < 2 ^ 128 → trailing_zeros w128 mask < 128
few_zeros mask some fits = (bit_at-trailing_zeros w128 mask some fits).0

pub found_below : (p : ℕ → Bool) (n i : ℕ) → first_below p n ≡ Some i → i < n
found_below p zero i e = absurd (true≢false (ap is_none e))
found_below p (suc n) i e = by (found_below p n i) (first_below p n) refl (p n) e
  where
    by : (first_below p n ≡ Some i → i < n) → (o : Option ℕ) → first_below p n ≡ o → (b : Bool)
        → (if is_none o && b then Some n else o) ≡ Some i → i < suc n
    by f (Some x) g b h = let less = f (g ∙ h) in omega (arith, less)
    by f None g true h = let same : n ≡ i = same_Some n i h in omega (arith, same)
    by f None g false h = absurd (true≢false (ap is_none h))

-- ---- the bits that count

module _ (ds : List Decl) (drivers : List Driver) where
  vector_counts : (d : Decl) → is_none d.words ≡ true → bits_counted d ≡ d.width
  vector_counts d none = ap (λ b. if b then d.width else 1) none

  memory_counts : (d : Decl) → is_none d.words ≡ false → bits_counted d ≡ 1
  memory_counts d some = ap (λ b. if b then d.width else 1) some

  pub vectors_told : (shares given : List Share) (all bits : List Step) (o : Overlap)
      → AreBitShares ds drivers shares → given ≡ shares → IsOverlapOf given o → AreAllBits ds all
      → ((c i : ℕ) → has bits c i ≡ (has o.two c i && has all c i)) → (at : ℕ) (d : Decl) → slice_get ds at ≡ Some d
      → is_none d.words ≡ true → Tells ds drivers shares bits (first_cell ds at) d
  vectors_told shares given all bits o are same over whole is at d e none = record {
    places = λ i less. are at i d e none;
    twice = λ i. is (first_cell ds at) i
        ∙ (λ j. (over.two (first_cell ds at) i ∙ ap (λ xs. are_two (places_at xs (first_cell ds at) i)) same
        ∙ ap are_two (are at i d e none)) j && whole at (first_cell ds at) i d e of j)
        ∙ ap (λ w. are_two (places_of ds drivers d i) && nat_lt i w) (sym (vector_counts d none));
  }
    where
      of : IsCellAt ds (first_cell ds at) at
      of =
          let next = next_first ds at d e in
          let size : length (cells d) ≡ 1 = ap length (one_cell ds d none) in
          (omega arith, omega (arith, next, size))

  pub names_told : (shares given : List Share) (o : Overlap) → AreNameShares ds drivers shares → given ≡ shares
      → IsOverlapOf given o → (at : ℕ) (d : Decl) → slice_get ds at ≡ Some d → is_none d.words ≡ false
      → Tells ds drivers shares o.two at d
  names_told shares given o are same over at d e some = record {
    places = λ i less. are at i d e some
        ∙ ap (λ b. if b then places_of ds drivers d i else [])
        (first i (subst (λ w. i < w) (memory_counts d some) less));
    twice = λ i. over.two at i ∙ ap (λ xs. are_two (places_at xs at i)) same ∙ ap are_two (are at i d e some)
        ∙ by i (i == 0) refl;
  }
    where
      first : (i : ℕ) → i < 1 → (i == 0) ≡ true
      first i less = grind (arith, nat_tests, less)

      by : (i : ℕ) (b : Bool) → (i == 0) ≡ b
          → are_two (if i == 0 then places_of ds drivers d i else [])
          ≡ (are_two (places_of ds drivers d i) && nat_lt i (bits_counted d))
      by i true t =
          let low : nat_lt i 1 ≡ true = grind (arith, nat_tests, t) in
          ap (λ b. are_two (if b then places_of ds drivers d i else [])) t
          ∙ sym (ap (λ w. are_two (places_of ds drivers d i) && nat_lt i w) (memory_counts d some)
          ∙ ap (λ b. are_two (places_of ds drivers d i) && b) low ∙ both_true (are_two (places_of ds drivers d i)))
        where
          both_true : (a : Bool) → (a && true) ≡ a
          both_true true = refl
          both_true false = refl
      by i false t =
          let high : nat_lt i 1 ≡ false = grind (arith, nat_tests, t) in
          ap (λ b. are_two (if b then places_of ds drivers d i else [])) t
          ∙ sym (ap (λ w. are_two (places_of ds drivers d i) && nat_lt i w) (memory_counts d some)
          ∙ ap (λ b. are_two (places_of ds drivers d i) && b) high ∙ none_true (are_two (places_of ds drivers d i)))
        where
          none_true : (a : Bool) → (a && false) ≡ false
          none_true true = refl
          none_true false = refl

  -- ---- the bit of one name

  first_two : (text : List ℕ) (i : ℕ) (ps : List Pos) → with_two text i (take 2 ps) ≡ with_two text i ps
  first_two text i [] = refl
  first_two text i (p ∷ []) = refl
  first_two text i (p ∷ q ∷ ps) = refl

  module _ (shares : List Share) (bits : List Step) (number : ℕ) (d : Decl) (t : Tells ds drivers shares bits number d)
    where
      pub no_doubled : None ≡ first_below (λ i. are_two (places_of ds drivers d i)) (bits_counted d)
          → None ≡ doubled_of ds drivers d
      no_doubled none = ap (twice_driven ds drivers d) none

      pub doubled_is : (bit : ℕ) (given : List Share) (ps : List Pos) (found : Option (List ℕ × ℕ × Pos × Pos))
          → Some bit ≡ first_below (λ i. are_two (places_of ds drivers d i)) (bits_counted d)
          → given ≡ shares → ps ≡ take 2 (in_order (places_at given number bit)) → found ≡ with_two d.name bit ps
          → found ≡ doubled_of ds drivers d
      doubled_is bit given ps found low same two is =
          is ∙ ap (with_two d.name bit) (two
          ∙ ap (λ xs. take 2 (in_order (places_at xs number bit))) same
          ∙ ap (λ qs. take 2 (in_order qs)) (t.places bit less))
          ∙ first_two d.name bit (in_order (places_of ds drivers d bit)) ∙ ap (twice_driven ds drivers d) low
        where
          less : bit < bits_counted d
          less = found_below (λ i. are_two (places_of ds drivers d i)) (bits_counted d) bit (sym low)

  -- ---- name by name

  -- no name before this place has such a bit
  abbrev pub AreSingle : ℕ → Type 0
  AreSingle count = (k : ℕ) (d : Decl) → k < count → slice_get ds k ≡ Some d → doubled_of ds drivers d ≡ None

  pub one_more : (count : ℕ) (found : Option (List ℕ × ℕ × Pos × Pos)) → AreSingle count
      → ((d : Decl) → slice_get ds count ≡ Some d → found ≡ doubled_of ds drivers d) → is_some found ≡ false
      → AreSingle (count + 1)
  one_more count found were is none k d less at = by (cases_order k count)
    where
      empty : (o : Option (List ℕ × ℕ × Pos × Pos)) → is_some o ≡ false → o ≡ None
      empty None h = refl
      empty (Some x) h = absurd (true≢false h)

      by : (k ≡ count) ⊎ ((k < count) ⊎ (count < k)) → doubled_of ds drivers d ≡ None
      by (inl same) = sym (is d (ap (slice_get ds) (sym same) ∙ at)) ∙ empty found none
      by (inr (inl h)) = were k d h at
      by (inr (inr h)) = absurd (omega (arith, less, h))

  pub none_doubled : (count : ℕ) → length ds ≤ count → AreSingle count → None ≡ two_drivers ds drivers
  none_doubled count le were =
      sym (none_at (doubled_of ds drivers) ds
      (λ k d at. let less = get_less ds k d at in were k d (omega (arith, less, le)) at))

  pub first_doubled : (place : ℕ) (d : Decl) (found : Option (List ℕ × ℕ × Pos × Pos)) → slice_get ds place ≡ Some d
      → AreSingle place → found ≡ doubled_of ds drivers d → is_some found ≡ true → found ≡ two_drivers ds drivers
  first_doubled place d found at were is some = by found refl some
    where
      by : (o : Option (List ℕ × ℕ × Pos × Pos)) → found ≡ o → is_some o ≡ true → found ≡ two_drivers ds drivers
      by None e h = absurd (true≢false (sym h))
      by (Some v) e h =
          e ∙ sym (first_at (doubled_of ds drivers) ds place d v at (sym is ∙ e)
          (λ k z less g. were k z less g))

pub memory_named : (d : Decl) → not (is_none d.words) ≡ true → is_none d.words ≡ false
memory_named d h = by (is_none d.words) h
  where
    by : (b : Bool) → not b ≡ true → b ≡ false
    by true e = sym e
    by false e = refl

pub vector_named : (d : Decl) → not (is_none d.words) ≡ false → is_none d.words ≡ true
vector_named d h = by (is_none d.words) h
  where
    by : (b : Bool) → not b ≡ false → b ≡ true
    by true e = refl
    by false e = sym e
