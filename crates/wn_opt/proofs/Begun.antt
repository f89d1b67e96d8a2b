-- What two lists have in common, item by item.
use Rattle.std.specs.Prelude.{◌≡◌, refl, ℕ, zero, suc, ◌<◌, List, [], ◌∷◌, length, map, Some, slice_get, slice_index}
use Rattle.std.specs.Prelude.{slice_index_or, unwrap_or, is_none}
use Rattle.std.proofs.Common.{ap, sym, ◌∙◌, arith, true≢false}
use Rattle.std.proofs.lemmas.Option.{same_Some, slice_get-get_or, unwrap_or-slice_get}

-- an item has a partner of the same image
pub record HasLike {A B : Type 0} (f : A → B) (ys : List A) (i : ℕ) (x : A) : Type 0 where
  pub item : A
  pub there : slice_get ys i ≡ Some item
  pub same : f item ≡ f x

pub map_like : {A B : Type 0} (f : A → B) (xs ys : List A) → length ys ≡ length xs
    → ((i : ℕ) (x : A) → slice_get xs i ≡ Some x → HasLike f ys i x) → map f ys ≡ map f xs
map_like f [] [] e like = refl
map_like f [] (y ∷ ys) e like = absurd (omega (arith, e))
map_like f (x ∷ xs) [] e like = absurd (omega (arith, e))
map_like {A} {B} f (x ∷ xs) (y ∷ ys) e like =
    let first = like zero x refl in
    let head : f y ≡ f x = ap f (same_Some y first.item first.there) ∙ first.same in
    let long : length ys ≡ length xs = omega (arith, e) in
    let more : (i : ℕ) (z : A) → slice_get xs i ≡ Some z → HasLike f ys i z = λ i z h.
    let l = like (suc i) z h in record { item = l.item; there = l.there; same = l.same } in
    let rest = map_like f xs ys long more in
    λ i. head i ∷ rest i

pub index_map : {A : Type 0} (f : A → ℕ) (xs : List A) (i : ℕ) (x : A) → slice_get xs i ≡ Some x
    → slice_index (map f xs) i ≡ f x
index_map f [] i x e = absurd (true≢false (ap is_none e))
index_map f (y ∷ ys) zero x e = ap f (same_Some y x e)
index_map f (y ∷ ys) (suc i) x e = index_map f ys i x e

pub index_like : {A : Type 0} (xs ys : List A) (i : ℕ) (d : A) → slice_get ys i ≡ slice_get xs i
    → slice_index_or ys i d ≡ slice_index_or xs i d
index_like xs ys i d e =
    sym (unwrap_or-slice_get ys i d) ∙ ap (λ o. unwrap_or o d) e ∙ unwrap_or-slice_get xs i d

-- an item that was read at a place of a list
pub item_at : {A : Type 0} (xs ys : List A) (i k : ℕ) (x d : A) → ys ≡ xs → k ≡ i → i < length ys
    → x ≡ slice_index_or ys i d → slice_get xs k ≡ Some x
item_at xs ys i k x d e f less read =
    ap (λ zs. slice_get zs k) (sym e) ∙ ap (slice_get ys) f ∙ slice_get-get_or ys i d less ∙ ap Some (sym read)
