-- Places of shares one behind the other.
use Rattle.std.specs.Prelude.{◌≡◌, refl, ℕ, ◌-◌, List, [], ◌∷◌, ◌++◌, length, take, drop, Bool, true, false}
use Rattle.std.specs.Prelude.{◌&&◌, ◌||◌, replicate, if◌then◌else◌}
use Rattle.std.proofs.Common.{ap, sym, ◌∙◌, arith, subst, length-drop, get_or}
use Rattle.std.proofs.lemmas.List.{append_assoc, take_all, take-append-drop}
use Rattle.fv_text.specs.declared.pos.Pos.{Pos}
use Rattle.vl_size.specs.declared.decl.Decl.{Decl}
use Rattle.fv_bit_sets.specs.declared.step.Step.{Step}
use Rattle.fv_bit_sets.specs.Cells.{has, IsBare}
use Rattle.vl_flow_spec.specs.Refusals.{are_two}
use Rattle.vl_flow_order.proofs.Tests.{or_none}
use Rattle.vl_flow_check.specs.declared.overlap.Overlap.{Overlap}
use Rattle.vl_flow_check.specs.declared.share.Share.{Share}
use Rattle.vl_flow_check.specs.Shares.{are_some, places_at, AddsPlaces, IsJoined, IsOverlapOf}
use Rattle.vl_flow_check.proofs.Once.{one_if}

pub places_append : (xs ys : List Share) (c i : ℕ) → places_at (xs ++ ys) c i ≡ places_at xs c i ++ places_at ys c i
places_append [] ys c i = refl
places_append (x ∷ xs) ys c i = by (has x.bits c i) (places_append xs ys c i)
  where
    by : (b : Bool) → places_at (xs ++ ys) c i ≡ places_at xs c i ++ places_at ys c i
        → (if b then x.pos ∷ places_at (xs ++ ys) c i else places_at (xs ++ ys) c i)
        ≡ (if b then x.pos ∷ places_at xs c i else places_at xs c i) ++ places_at ys c i
    by true e = ap (λ ps. x.pos ∷ ps) e
    by false e = e

pub one_place : (s : Share) (c i : ℕ) → places_at (s ∷ []) c i ≡ replicate (one_if (has s.bits c i)) s.pos
one_place s c i = by (has s.bits c i)
  where
    by : (b : Bool) → (if b then s.pos ∷ [] else []) ≡ replicate (one_if b) s.pos
    by true = refl
    by false = refl

-- one share more
pub share_more : (xs ys : List Share) (s : Share) (c i : ℕ) → ys ≡ xs ++ s ∷ []
    → places_at ys c i ≡ places_at xs c i ++ replicate (one_if (has s.bits c i)) s.pos
share_more xs ys s c i e =
    ap (λ zs. places_at zs c i) e ∙ places_append xs (s ∷ []) c i ∙ ap (λ ps. places_at xs c i ++ ps) (one_place s c i)

-- ---- what is added in two steps

module _ (ds : List Decl) where
  pub adds_then : (xs ys zs : List Share) (J K L : List ℕ → ℕ → List Pos)
      → ((n : List ℕ) (i : ℕ) → J n i ++ K n i ≡ L n i) → AddsPlaces ds xs ys J → AddsPlaces ds ys zs K
      → AddsPlaces ds xs zs L
  adds_then xs ys zs J K L both first second c n i e =
      second c n i e ∙ ap (λ ps. ps ++ K n i) (first c n i e) ∙ append_assoc (places_at xs c i) (J n i) (K n i)
      ∙ ap (λ ps. places_at xs c i ++ ps) (both n i)

-- ---- overlaps

some_append : (xs ys : List Pos) → are_some (xs ++ ys) ≡ (are_some xs || are_some ys)
some_append [] ys = refl
some_append (x ∷ xs) ys = refl

two_append : (xs ys : List Pos)
    → are_two (xs ++ ys) ≡ ((are_two xs || are_two ys) || (are_some xs && are_some ys))
two_append [] ys = sym (or_none (are_two ys))
two_append (x ∷ []) [] = refl
two_append (x ∷ []) (y ∷ []) = refl
two_append (x ∷ []) (y ∷ z ∷ ys) = refl
two_append (x ∷ w ∷ xs) ys = refl

pub no_overlap : (xs : List Share) (o : Overlap) → length xs ≡ 0 → IsOverlapOf [] o → IsOverlapOf xs o
no_overlap [] o e h = h
no_overlap (x ∷ xs) o e h = absurd (omega (arith, e))

pub overlap_one : (xs : List Share) (x : Share) (o : Overlap) (none : List Step) → length xs ≡ 1 → x ≡ get_or xs 0 x
    → ((c : ℕ) → IsBare none c) → ((c i : ℕ) → has o.some c i ≡ (has x.bits c i || has none c i))
    → ((c : ℕ) → IsBare o.two c) → IsOverlapOf xs o
overlap_one [] x o none e at bare some two = absurd (omega (arith, e))
overlap_one (y ∷ []) x o none e at bare some two =
    subst (λ z. IsOverlapOf (z ∷ []) o) at (record {
      some = λ c i. some c i ∙ ap (λ b. has x.bits c i || b) (bare c i) ∙ one (has x.bits c i);
      two = λ c i. two c i ∙ sym (single (has x.bits c i));
    })
  where
    one : (b : Bool) → (b || false) ≡ are_some (if b then x.pos ∷ [] else [])
    one true = refl
    one false = refl

    single : (b : Bool) → are_two (if b then x.pos ∷ [] else []) ≡ false
    single true = refl
    single false = refl
overlap_one (y ∷ z ∷ ys) x o none e at bare some two = absurd (omega (arith, e))

pub halves : (xs : List Share) (k : ℕ) (left right made : Overlap) → IsOverlapOf (take k xs) left
    → IsOverlapOf (take (length xs - k) (drop k xs)) right → IsJoined left right made → IsOverlapOf xs made
halves xs k left right made l r joined = record {
  some = λ c i. joined.some c i ∙ (λ j. l.some c i j || behind.some c i j)
      ∙ sym (ap are_some (split c i) ∙ some_append (front c i) (rest c i));
  two = λ c i. joined.two c i
      ∙ (λ j. (l.two c i j || behind.two c i j) || (l.some c i j && behind.some c i j))
      ∙ sym (ap are_two (split c i) ∙ two_append (front c i) (rest c i));
}
  where
    all : take (length xs - k) (drop k xs) ≡ drop k xs
    all = take_all (length xs - k) (drop k xs) (omega (arith, length-drop k xs))

    behind : IsOverlapOf (drop k xs) right
    behind = subst (λ zs. IsOverlapOf zs right) all r

    front : ℕ → ℕ → List Pos
    front c i = places_at (take k xs) c i

    rest : ℕ → ℕ → List Pos
    rest c i = places_at (drop k xs) c i

    split : (c i : ℕ) → places_at xs c i ≡ places_at (take k xs) c i ++ places_at (drop k xs) c i
    split c i = ap (λ zs. places_at zs c i) (sym (take-append-drop k xs)) ∙ places_append (take k xs) (drop k xs) c i
