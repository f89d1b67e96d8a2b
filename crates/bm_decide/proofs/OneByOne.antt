-- Sources that get their numbers one by one.
use Rattle.std.specs.Prelude.{◌≡◌, ℕ, zero, suc, ◌+◌, ◌<◌, ◌≤◌, List, [], ◌∷◌, length, map, slice_index, take}
use Rattle.std.specs.List.{AllByRecursion}
use Rattle.std.proofs.Common.{ap, sym, ◌∙◌, add-one, arith, get_or, subst}
use Rattle.std.proofs.lemmas.List.{take_all}
use Rattle.wn_run.specs.Runs.{Choices}
use Rattle.bm_unroll.specs.declared.frames.Source.{Source}
use Rattle.bm_unroll.specs.Frames.{AreDistinct, chosen}
use Rattle.bm_unroll.proofs.Items.{all_at}
use Rattle.bm_decide.specs.Chosen.{HaveNumbers}

-- the last of the first items, and those before it
last_of : (P : Source → Type 0) (xs : List Source) (i : ℕ) (x d : Source) → i < length xs → x ≡ get_or xs i d
    → AllByRecursion P (take (suc i) xs) → AllByRecursion P (take i xs) × P x
last_of P [] i x d below here h = absurd (omega arith)
last_of P (y ∷ ys) zero x d below here h = (tt, subst P (sym here) h.0)
last_of P (y ∷ ys) (suc i) x d below here h =
    let rest = last_of P ys i x d (omega arith) here h.1 in
    ((h.0, rest.0), rest.1)

same_next : (old new : Choices) (xs : List Source) (ns : List ℕ) (i : ℕ) (x d : Source) → i < length xs
    → x ≡ get_or xs i d → length ns ≡ length xs → AreDistinct xs → chosen new x ≡ slice_index ns i
    → ((y : Source) → (y ≡ x → ⊥) → chosen new y ≡ chosen old y)
    → map (chosen old) (take i xs) ≡ take i ns → map (chosen new) (take (suc i) xs) ≡ take (suc i) ns
same_next old new [] ns i x d below here each distinct own others same = absurd (omega arith)
same_next old new (y ∷ ys) [] i x d below here each distinct own others same = absurd (omega (arith, each))
same_next old new (y ∷ ys) (n ∷ ns) zero x d below here each distinct own others same =
    ap (λ m. m ∷ []) (sym (ap (chosen new) here) ∙ own)
same_next old new (y ∷ ys) (n ∷ ns) (suc i) x d below here each distinct own others same =
    let first : chosen old y ≡ n = cc in
    let behind : map (chosen old) (take i ys) ≡ take i ns = cc in
    let other : y ≡ get_or ys i d → ⊥ = all_at (λ z. y ≡ z → ⊥) d ys i distinct.0 (omega arith) in
    let differs : y ≡ x → ⊥ = λ e. other (e ∙ here) in
    let rest = same_next old new ys ns i x d (omega arith) here (omega (arith, each)) distinct.1 own others behind in
    λ p. (others y differs ∙ first) p ∷ rest p

pub have_next : (old new : Choices) (xs : List Source) (ns : List ℕ) (i : ℕ) (x d : Source) (n : ℕ) → i < length xs
    → x ≡ get_or xs i d → length ns ≡ length xs → AreDistinct xs → n ≡ slice_index ns i → chosen new x ≡ n
    → ((y : Source) → (y ≡ x → ⊥) → chosen new y ≡ chosen old y)
    → HaveNumbers (take i xs) (take i ns) old → HaveNumbers (take (i + 1) xs) (take (i + 1) ns) new
have_next old new xs ns i x d n below here each distinct is own others have =
    let H : ℕ → Type 0 = λ k. HaveNumbers (take k xs) (take k ns) new in
    subst H (sym (add-one i)) (record {
      same = same_next old new xs ns i x d below here each distinct (own ∙ is) others have.same;
      others = λ y none.
          let h = last_of (λ z. z ≡ y → ⊥) xs i x d below here none in
          others y (λ e. h.1 (sym e)) ∙ have.others y h.0;
    })

pub have_all : (ch : Choices) (xs : List Source) (ns : List ℕ) (i : ℕ) → length xs ≤ i → length ns ≡ length xs
    → HaveNumbers (take i xs) (take i ns) ch → HaveNumbers xs ns ch
have_all ch xs ns i past each have =
    let H : List Source → Type 0 = λ ys. HaveNumbers ys (take i ns) ch in
    let K : List ℕ → Type 0 = λ ms. HaveNumbers xs ms ch in
    subst K (take_all i ns (omega (arith, each))) (subst H (take_all i xs past) have)
