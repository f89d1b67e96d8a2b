-- Sets of literals by what they hold.
use Rattle.std.proofs.Common.{
  ◌≡◌,
  Bool,
  true,
  false,
  not,
  cond,
  ◌||◌,
  List,
  [],
  ◌∷◌,
  ◌++◌,
  ℤ,
  neg_ℤ,
  filter,
  refl,
}
use Rattle.std.proofs.Common.{ap, sym, ◌∙◌, ◌⊎◌, inl, inr, arith}
use Rattle.std.specs.List.{list_any}
use Rattle.std.specs.Ordering.{int_eq}
use Rattle.std.specs.Cmp.{signed_Decides}
use Rattle.std.proofs.lemmas.Bool.{false≢true, cases_Bool}
use Rattle.lrat_check.specs.Sets.{has, without, union}

pub same_is : (a b : ℤ) → int_eq a b ≡ true → a ≡ b
same_is a b e = (signed_Decides a b).0 e

pub same_self : (a b : ℤ) → a ≡ b → int_eq a b ≡ true
same_self a b e = (signed_Decides a b).1 e

pub neg_neg : (a : ℤ) → neg_ℤ (neg_ℤ a) ≡ a
neg_neg a = grind arith

pub or_left : (a b : Bool) → a ≡ true → (a || b) ≡ true
or_left true b e = refl
or_left false b e = absurd (false≢true e)

pub or_right : (a b : Bool) → b ≡ true → (a || b) ≡ true
or_right true b e = refl
or_right false b e = e

pub or_cases : (a b : Bool) → (a || b) ≡ true → (a ≡ true) ⊎ (b ≡ true)
or_cases true b e = inl refl
or_cases false b e = inr e

pub or_none : (a b : Bool) → (a || b) ≡ false → (a ≡ false) × (b ≡ false)
or_none true b h = absurd (false≢true (sym h))
or_none false b h = (refl, h)

pub or_both : (a b : Bool) → a ≡ false → b ≡ false → (a || b) ≡ false
or_both a b e f = ap (λ x. x || b) e ∙ f

pub has_head : (x : ℤ) (c : List ℤ) → has (x ∷ c) x ≡ true
has_head x c = or_left (int_eq x x) (has c x) (same_self x x refl)

pub has_tail : (x y : ℤ) (c : List ℤ) → has c x ≡ true → has (y ∷ c) x ≡ true
has_tail x y c h = or_right (int_eq x y) (has c x) h

pub any_from : (p : ℤ → Bool) (c : List ℤ) (x : ℤ) → has c x ≡ true → p x ≡ true → list_any p c ≡ true
any_from p [] x h k = h
any_from p (l ∷ ls) x h k = elim (or_cases (int_eq x l) (has ls x) h) [
  | inl e ↦ or_left (p l) (list_any p ls) (ap p (sym (same_is x l e)) ∙ k)
  | inr e ↦ or_right (p l) (list_any p ls) (any_from p ls x e k)
]

pub any_has : (p : ℤ → Bool) (c : List ℤ) → list_any p c ≡ true → (x : ℤ) × (has c x ≡ true) × (p x ≡ true)
any_has p [] h = absurd (false≢true h)
any_has p (l ∷ ls) h = elim (or_cases (p l) (list_any p ls) h) [
  | inl e ↦ (l, has_head l ls, e)
  | inr e ↦ let r = any_has p ls e in (r.0, has_tail r.0 l ls r.1, r.2)
]

pub any_none : (p : ℤ → Bool) (c : List ℤ) → ((x : ℤ) → has c x ≡ true → p x ≡ false) → list_any p c ≡ false
any_none p [] h = refl
any_none p (l ∷ ls) h =
    or_both (p l) (list_any p ls) (h l (has_head l ls)) (any_none p ls (λ x k. h x (has_tail x l ls k)))

pub none_at : (p : ℤ → Bool) (c : List ℤ) (x : ℤ) → list_any p c ≡ false → has c x ≡ true → p x ≡ false
none_at p [] x h k = absurd (false≢true k)
none_at p (l ∷ ls) x h k = let n = or_none (p l) (list_any p ls) h in elim (or_cases (int_eq x l) (has ls x) k) [
  | inl e ↦ ap p (same_is x l e) ∙ n.0
  | inr e ↦ none_at p ls x n.1 e
]

or_assoc : (a b c : Bool) → (a || (b || c)) ≡ ((a || b) || c)
or_assoc true b c = refl
or_assoc false b c = refl

pub has_append : (a b : List ℤ) (x : ℤ) → has (a ++ b) x ≡ (has a x || has b x)
has_append [] b x = refl
has_append (l ∷ ls) b x = ap (λ z. int_eq x l || z) (has_append ls b x) ∙ or_assoc (int_eq x l) (has ls x) (has b x)

cond_has : (b : Bool) (l x : ℤ) (c : List ℤ) → has (cond b (l ∷ c) c) x ≡ true → ((b ≡ true) × (int_eq x l ≡ true))
    ⊎ (has c x ≡ true)
cond_has true l x c h = elim (or_cases (int_eq x l) (has c x) h) [ inl e ↦ inl (refl, e) | inr e ↦ inr e ]
cond_has false l x c h = inr h

cond_from : (b : Bool) (l x : ℤ) (c : List ℤ) → has c x ≡ true → has (cond b (l ∷ c) c) x ≡ true
cond_from true l x c h = has_tail x l c h
cond_from false l x c h = h

cond_head : (b : Bool) (l x : ℤ) (c : List ℤ) → b ≡ true → int_eq x l ≡ true → has (cond b (l ∷ c) c) x ≡ true
cond_head true l x c e h = or_left (int_eq x l) (has c x) h
cond_head false l x c e h = absurd (false≢true e)

pub filter_has : (p : ℤ → Bool) (c : List ℤ) (x : ℤ) → has (filter p c) x ≡ true → (has c x ≡ true) × (p x ≡ true)
filter_has p [] x h = absurd (false≢true h)
filter_has p (l ∷ ls) x h = elim (cond_has (p l) l x (filter p ls) h) [
  | inl e ↦ (or_left (int_eq x l) (has ls x) e.1, ap p (same_is x l e.1) ∙ e.0)
  | inr e ↦ let r = filter_has p ls x e in (has_tail x l ls r.0, r.1)
]

pub filter_from : (p : ℤ → Bool) (c : List ℤ) (x : ℤ) → has c x ≡ true → p x ≡ true → has (filter p c) x ≡ true
filter_from p [] x h k = h
filter_from p (l ∷ ls) x h k = elim (or_cases (int_eq x l) (has ls x) h) [
  | inl e ↦ cond_head (p l) l x (filter p ls) (ap p (sym (same_is x l e)) ∙ k) e
  | inr e ↦ cond_from (p l) l x (filter p ls) (filter_from p ls x e k)
]

not_true : (b : Bool) → not b ≡ true → b ≡ false
not_true true h = absurd (false≢true h)
not_true false h = refl

pub without_has : (l : ℤ) (c : List ℤ) (x : ℤ) → has (without l c) x ≡ true → (has c x ≡ true) × (int_eq l x ≡ false)
without_has l c x h = let r = filter_has (λ m. not (int_eq l m)) c x h in (r.0, not_true (int_eq l x) r.1)

pub without_from : (l : ℤ) (c : List ℤ) (x : ℤ) → has c x ≡ true → int_eq l x ≡ false → has (without l c) x ≡ true
without_from l c x h e = filter_from (λ m. not (int_eq l m)) c x h (ap not e)

pub union_has : (a b : List ℤ) (x : ℤ) → has (union a b) x ≡ true → (has a x ≡ true) ⊎ (has b x ≡ true)
union_has a b x h = elim (or_cases (has (filter (λ l. not (has b l)) a) x) (has b x)
    (sym (has_append (filter (λ l. not (has b l)) a) b x) ∙ h)) [
      | inl e ↦ inl (filter_has (λ l. not (has b l)) a x e).0
      | inr e ↦ inr e
    ]

pub union_right : (a b : List ℤ) (x : ℤ) → has b x ≡ true → has (union a b) x ≡ true
union_right a b x h =
    has_append (filter (λ l. not (has b l)) a) b x ∙ or_right (has (filter (λ l. not (has b l)) a) x) (has b x) h

pub union_left : (a b : List ℤ) (x : ℤ) → has a x ≡ true → has (union a b) x ≡ true
union_left a b x h = elim (cases_Bool (has b x)) [
  | inl e ↦ union_right a b x e
  | inr e ↦ has_append (filter (λ l. not (has b l)) a) b x
      ∙ or_left (has (filter (λ l. not (has b l)) a) x) (has b x) (filter_from (λ l. not (has b l)) a x h (ap not e))
]
