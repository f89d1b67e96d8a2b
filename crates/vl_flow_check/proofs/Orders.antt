-- The first two of places in order.
use Rattle.std.specs.Prelude.{◌≡◌, refl, ℕ, zero, suc, ◌+◌, ◌<◌, ◌≤◌, List, [], ◌∷◌, length, take, drop}
use Rattle.std.specs.Prelude.{Bool, true, false, if◌then◌else◌}
use Rattle.std.proofs.Common.{ap, sym, ◌∙◌, arith, get_or}
use Rattle.std.proofs.Math.Seq.{drop-cons}
use Rattle.fv_text.specs.declared.pos.Pos.{Pos}
use Rattle.vl_size.specs.Places.{is_earlier}
use Rattle.fv_bit_sets.specs.Cells.{has}
use Rattle.vl_flow_spec.specs.Refusals.{in_order, with_place}
use Rattle.vl_flow_check.specs.declared.share.Share.{Share}
use Rattle.vl_flow_check.specs.Shares.{places_at}

-- what is put among places leaves the first two of them to be told
pub two_with : (p : Pos) (qs : List Pos) → take 2 (with_place p (take 2 qs)) ≡ take 2 (with_place p qs)
two_with p [] = refl
two_with p (q ∷ []) = refl
two_with p (q ∷ r ∷ qs) = by (is_earlier q p) (is_earlier r p)
  where
    by : (b c : Bool)
        → take 2 (if b then q ∷ (if c then r ∷ p ∷ [] else p ∷ r ∷ []) else p ∷ q ∷ r ∷ [])
        ≡ take 2 (if b then q ∷ (if c then r ∷ with_place p qs else p ∷ r ∷ qs) else p ∷ q ∷ r ∷ qs)
    by true true = refl
    by true false = refl
    by false c = refl

-- ---- of shares

module _ (s : Share) (shares : List Share) (c i : ℕ) where
  pub with_it : (found made : List Pos) → has s.bits c i ≡ true → found ≡ take 2 (in_order (places_at shares c i))
      → made ≡ take 2 (with_place s.pos found) → made ≡ take 2 (in_order (places_at (s ∷ shares) c i))
  with_it found made there were is =
      is ∙ ap (λ qs. take 2 (with_place s.pos qs)) were ∙ two_with s.pos (in_order (places_at shares c i))
      ∙ ap (λ b. take 2 (in_order (if b then s.pos ∷ places_at shares c i else places_at shares c i))) (sym there)

  pub without_it : (found : List Pos) → has s.bits c i ≡ false → found ≡ take 2 (in_order (places_at shares c i))
      → found ≡ take 2 (in_order (places_at (s ∷ shares) c i))
  without_it found none were =
      were
      ∙ ap (λ b. take 2 (in_order (if b then s.pos ∷ places_at shares c i else places_at shares c i))) (sym none)

pub none_behind : (shares : List Share) (rest c i : ℕ) → length shares ≤ rest
    → [] ≡ take 2 (in_order (places_at (drop rest shares) c i))
none_behind shares rest c i le = ap (λ xs. take 2 (in_order (places_at xs c i))) (sym (behind shares rest le))
  where
    behind : (xs : List Share) (k : ℕ) → length xs ≤ k → drop k xs ≡ []
    behind [] zero h = refl
    behind [] (suc k) h = refl
    behind (x ∷ xs) zero h = absurd (omega (arith, h))
    behind (x ∷ xs) (suc k) h = behind xs k (omega (arith, h))

pub one_before : (shares : List Share) (rest c i : ℕ) (s : Share) (made : List Pos) → rest < length shares
    → s ≡ get_or shares rest s
    → made ≡ take 2 (in_order (places_at (s ∷ drop (rest + 1) shares) c i))
    → made ≡ take 2 (in_order (places_at (drop rest shares) c i))
one_before shares rest c i s made less same is =
    let next : suc rest ≡ rest + 1 = omega arith in
    let parts : drop rest shares ≡ s ∷ drop (rest + 1) shares =
    drop-cons shares rest s less ∙ ap (λ y. y ∷ drop (suc rest) shares) (sym same)
    ∙ ap (λ k. s ∷ drop k shares) next in
    is ∙ ap (λ xs. take 2 (in_order (places_at xs c i))) (sym parts)
