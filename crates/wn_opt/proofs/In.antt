-- Items of lists.
use Rattle.std.specs.Prelude.{◌≡◌, refl, ℕ, zero, suc, List, [], ◌∷◌, ◌++◌, length, Some, is_none, slice_get, take}
use Rattle.std.proofs.Common.{ap, ◌∙◌, subst, true≢false, ◌⊎◌, inl, inr}
use Rattle.std.proofs.lemmas.Option.{same_Some}
use Rattle.fv_graph.proofs.Lists.{get_front, get_last, get_cases}
use Rattle.wn_net.specs.Changes.{IsBegun}
use Rattle.wn_opt.specs.Needed.{IsIn}

pub in_rest : {A : Type 0} (P : A → Type 0) (y : A) (ys : List A) (x : A) → P y → ((z : A) → IsIn ys z → P z)
    → IsIn (y ∷ ys) x → P x
in_rest P y ys x first rest h = by h.0 h.1
  where
    by : (k : ℕ) → slice_get (y ∷ ys) k ≡ Some x → P x
    by zero e = subst P (same_Some y x e) first
    by (suc k) e = rest x (k, e)

pub in_none : {A : Type 0} (P : A → Type 0) (x : A) → IsIn [] x → P x
in_none P x h = absurd (true≢false (ap is_none h.1))

pub in_one : {A : Type 0} (P : A → Type 0) (a x : A) → P a → IsIn (a ∷ []) x → P x
in_one P a x p h = in_rest P a [] x p (in_none P) h

pub in_two : {A : Type 0} (P : A → Type 0) (a b x : A) → P a → P b → IsIn (a ∷ b ∷ []) x → P x
in_two P a b x p q h = in_rest P a (b ∷ []) x p (λ z i. in_one P b z q i) h

pub in_three : {A : Type 0} (P : A → Type 0) (a b c x : A) → P a → P b → P c → IsIn (a ∷ b ∷ c ∷ []) x → P x
in_three P a b c x p q r h = in_rest P a (b ∷ c ∷ []) x p (λ z i. in_two P b c z q r i) h

pub in_here : {A : Type 0} (x : A) (xs : List A) → IsIn (x ∷ xs) x
in_here x xs = (0, refl)

pub in_next : {A : Type 0} (y : A) (xs : List A) (x : A) → IsIn xs x → IsIn (y ∷ xs) x
in_next y xs x h = (suc h.0, h.1)

-- ---- one more behind the others

pub in_front : {A : Type 0} (xs : List A) (y x : A) → IsIn xs x → IsIn (xs ++ y ∷ []) x
in_front xs y x h = (h.0, get_front xs y h.0 x h.1)

pub in_last : {A : Type 0} (xs : List A) (y : A) → IsIn (xs ++ y ∷ []) y
in_last xs y = (length xs, get_last xs y)

pub in_push : {A : Type 0} (P : A → Type 0) (xs : List A) (y x : A) → ((z : A) → IsIn xs z → P z) → P y
    → IsIn (xs ++ y ∷ []) x → P x
in_push P xs y x front last h = by (get_cases xs y h.0 x h.1)
  where
    by : (slice_get xs h.0 ≡ Some x) ⊎ ((h.0 ≡ length xs) × (y ≡ x)) → P x
    by (inl e) = front x (h.0, e)
    by (inr e) = subst P e.1 last

-- ---- first items

pub taken : {A : Type 0} (n : ℕ) (ys : List A) (k : ℕ) (x : A) → slice_get (take n ys) k ≡ Some x
    → slice_get ys k ≡ Some x
taken zero ys k x e = absurd (true≢false (ap is_none e))
taken (suc n) [] k x e = e
taken (suc n) (y ∷ ys) zero x e = e
taken (suc n) (y ∷ ys) (suc k) x e = taken n ys k x e

pub get_begun : {A : Type 0} (xs ys : List A) (k : ℕ) (x : A) → IsBegun xs ys → slice_get xs k ≡ Some x
    → slice_get ys k ≡ Some x
get_begun xs ys k x b e = taken (length xs) ys k x (ap (λ zs. slice_get zs k) b ∙ e)

pub in_begun : {A : Type 0} (xs ys : List A) (x : A) → IsBegun xs ys → IsIn xs x → IsIn ys x
in_begun xs ys x b h = (h.0, get_begun xs ys h.0 x b h.1)
