-- Items of lists by their places, where one comes behind the others, and where the last one goes to the place of one that
-- is taken out.
use Rattle.std.proofs.Common.{◌≡◌, ℕ, zero, suc, ◌+◌, ◌-◌, ◌<◌, cond, eqb, List, [], ◌∷◌, ◌++◌}
use Rattle.std.proofs.Common.{length, get_or, Some, None, refl, ap, sym, subst, ◌∙◌, ◌⊎◌, inl, inr, arith}
use Rattle.std.specs.Prelude.{slice_get}
use Rattle.std.proofs.lemmas.Bool.{cases_eq, eq-eqb, ne_eqb}
use Rattle.std.proofs.lemmas.Option.{slice_get_within, slice_get-get_or, get_or_from_slice_get}

pub none_some : {X : Type 0} (x : X) → None ≡ Some x → ⊥
none_some x e = cc

pub some_is : {X : Type 0} (x y : X) → Some x ≡ Some y → x ≡ y
some_is x y e = cc

pub push_cases : {X : Type 0} (xs : List X) (x : X) (k : ℕ) (y : X) → slice_get (xs ++ x ∷ []) k ≡ Some y
    → (slice_get xs k ≡ Some y) ⊎ ((k ≡ length xs) × (x ≡ y))
push_cases [] x zero y e = inr (refl, some_is x y e)
push_cases [] x (suc k) y e = absurd (none_some y e)
push_cases (z ∷ zs) x zero y e = inl e
push_cases (z ∷ zs) x (suc k) y e =
    elim (push_cases zs x k y e) [ inl h ↦ inl h | inr h ↦ inr (ap suc h.0, h.1) ]

pub push_left : {X : Type 0} (xs : List X) (x : X) (k : ℕ) (y : X) → slice_get xs k ≡ Some y
    → slice_get (xs ++ x ∷ []) k ≡ Some y
push_left [] x k y e = absurd (none_some y e)
push_left (z ∷ zs) x zero y e = e
push_left (z ∷ zs) x (suc k) y e = push_left zs x k y e

pub push_last : {X : Type 0} (xs : List X) (x : X) (k : ℕ) → k ≡ length xs → slice_get (xs ++ x ∷ []) k ≡ Some x
push_last [] x zero e = refl
push_last [] x (suc k) e = absurd (omega (arith, e))
push_last (z ∷ zs) x zero e = absurd (omega (arith, e))
push_last (z ∷ zs) x (suc k) e = push_last zs x k (omega (arith, e))

-- of n + 1 items one is taken out, to whose place the last one goes
pub record TakesOut {X : Type 0} (p n : ℕ) (xs ys : List X) : Type 0 where
  pub many : length xs ≡ n + 1
  pub left : length ys ≡ n
  pub moved : (d : X) → p < n → get_or ys p d ≡ get_or xs n d
  pub rest : (k : ℕ) (d : X) → (k ≡ p → ⊥) → k < n → get_or ys k d ≡ get_or xs k d

-- as the code takes it out
pub takes_out : {X : Type 0} (p n old now : ℕ) (xs ys : List X) → old ≡ length xs → now ≡ length ys → now + 1 ≡ old
    → length xs ≡ n + 1
    → ((d : X) → p + 1 < old → get_or ys p d ≡ get_or xs (old - 1) d)
    × ((k : ℕ) (d : X) → (k ≡ p → ⊥) → k + 1 < old → get_or ys k d ≡ get_or xs k d) → TakesOut p n xs ys
takes_out p n old now xs ys a b c e h =
    let last : old - 1 ≡ n = omega (arith, a, e) in
    record {
      many = e;
      left = omega (arith, a, b, c, e);
      moved = λ d less. h.0 d (omega (arith, a, e, less)) ∙ ap (λ z. get_or xs z d) last;
      rest = λ k d apart less. h.1 k d apart (omega (arith, a, e, less));
    }

pub found : {X : Type 0} (xs : List X) (p : ℕ) (x : X) → p < length xs → x ≡ get_or xs p x → slice_get xs p ≡ Some x
found xs p x h e = slice_get-get_or xs p x h ∙ ap Some (sym e)

-- where the item at a place came from, and where it goes
abbrev pub origin : ℕ → ℕ → ℕ → ℕ
origin p n k = cond (eqb k p) n k

abbrev pub target : ℕ → ℕ → ℕ → ℕ
target p n k = cond (eqb k n) p k

pub origin_at : (p n k : ℕ) → k ≡ p → origin p n k ≡ n
origin_at p n k e = ap (λ b. cond b n k) (eq-eqb k p e)

pub origin_other : (p n k : ℕ) → (k ≡ p → ⊥) → origin p n k ≡ k
origin_other p n k e = ap (λ b. cond b n k) (ne_eqb k p e)

pub target_at : (p n k : ℕ) → k ≡ n → target p n k ≡ p
target_at p n k e = ap (λ b. cond b p k) (eq-eqb k n e)

pub target_other : (p n k : ℕ) → (k ≡ n → ⊥) → target p n k ≡ k
target_other p n k e = ap (λ b. cond b p k) (ne_eqb k n e)

-- none comes from the place itself
pub not_from : (p n k : ℕ) → k < n → origin p n k ≡ p → ⊥
not_from p n k h e = elim (cases_eq k p) [
  | inl q ↦ (let o = origin_at p n k q in omega (arith, o, e, q, h))
  | inr q ↦ q (sym (origin_other p n k q) ∙ e)
]

-- no two come from one
pub one_from : (p n j k : ℕ) → j < n → k < n → origin p n j ≡ origin p n k → j ≡ k
one_from p n j k g h e = elim (cases_eq j p) [
  | inl q ↦ elim (cases_eq k p) [
    | inl r ↦ q ∙ sym r
    | inr r ↦
        let a = origin_at p n j q in let b = origin_other p n k r in absurd (omega (arith, a, b, e, h))
  ]
  | inr q ↦ elim (cases_eq k p) [
    | inl r ↦
        let a = origin_other p n j q in let b = origin_at p n k r in absurd (omega (arith, a, b, e, g))
    | inr r ↦ sym (origin_other p n j q) ∙ e ∙ origin_other p n k r
  ]
]

module _ {X : Type 0} (p n : ℕ) (xs ys : List X) (t : TakesOut p n xs ys) where
  pub within : (k : ℕ) (x : X) → slice_get ys k ≡ Some x → k < n
  within k x e = let h = slice_get_within ys k x e in let l = t.left in omega (arith, h, l)

  pub back : (k : ℕ) (x : X) → slice_get ys k ≡ Some x → slice_get xs (origin p n k) ≡ Some x
  back k x e =
      let h = within k x e in
      let m = t.many in
      elim (cases_eq k p) [
        | inl q ↦
            let P : ℕ → Type 0 = λ o. slice_get xs o ≡ Some x in
            subst P (sym (origin_at p n k q)) (slice_get-get_or xs n x (omega (arith, m))
            ∙ ap Some (sym (t.moved x (omega (arith, h, q))) ∙ ap (λ o. get_or ys o x) (sym q)
            ∙ get_or_from_slice_get ys k x x e))
        | inr q ↦
            let P : ℕ → Type 0 = λ o. slice_get xs o ≡ Some x in
            subst P (sym (origin_other p n k q)) (slice_get-get_or xs k x (omega (arith, m, h))
            ∙ ap Some (sym (t.rest k x q h) ∙ get_or_from_slice_get ys k x x e))
      ]

  pub forth : (k : ℕ) (x : X) → (k ≡ p → ⊥) → p < n + 1 → slice_get xs k ≡ Some x → slice_get ys (target p n k) ≡ Some x
  forth k x d w e =
      let h = slice_get_within xs k x e in
      let m = t.many in
      let l = t.left in
      let P : ℕ → Type 0 = λ o. slice_get ys o ≡ Some x in
      elim (cases_eq k n) [
        | inl q ↦
            let less : p < n = apart_less q d w in
            subst P (sym (target_at p n k q)) (slice_get-get_or ys p x (omega (arith, l, less))
            ∙ ap Some (t.moved x less ∙ ap (λ o. get_or xs o x) (sym q) ∙ get_or_from_slice_get xs k x x e))
        | inr q ↦
            let less : k < n = below q h m in
            subst P (sym (target_other p n k q)) (slice_get-get_or ys k x (omega (arith, l, less))
            ∙ ap Some (t.rest k x d less ∙ get_or_from_slice_get xs k x x e))
      ] where
        apart_less : k ≡ n → (k ≡ p → ⊥) → p < n + 1 → p < n
        apart_less q d w = elim (cases_eq p n) [
          | inl r ↦ absurd (d (q ∙ sym r))
          | inr r ↦ omega (arith, r, w)
        ]

        below : (k ≡ n → ⊥) → k < length xs → length xs ≡ n + 1 → k < n
        below q h m = omega (arith, q, h, m)
