-- The two literals that are watched come to the front.
use Rattle.std.proofs.Common.{◌≡◌, ℕ, zero, suc, ◌<◌, Bool, true, false, not, List, [], ◌∷◌, ℤ, pos, length}
use Rattle.std.proofs.Common.{get_or, Some, None, refl, ap, sym, subst, ◌∙◌, ◌⊎◌, inl, inr, arith}
use Rattle.std.proofs.Common.{w64, to_z, of_z}
use Rattle.std.specs.Prelude.{MatchBool}
use Rattle.sat_trail.proofs.Codes.{lit_kept}
use Rattle.std.specs.List.{swap}
use Rattle.std.specs.Ordering.{int_eq}
use Rattle.std.proofs.lemmas.Bool.{false≢true, true≢false, cases_Bool}
use Rattle.std.proofs.lemmas.List.Sorted.{IsPermutation-swap, list_any-IsPermutation}
use Rattle.std.proofs.lemmas.List.Edits.{swapped_from_swap, length-swap}
use Rattle.lrat_check.specs.Sets.{has, IsLit, AreLits}
use Rattle.sat_trail.specs.Trail.{Entries, Outlasts}
use Rattle.sat_trail.proofs.Members.{same_is, same_self, or_cases, has_head, has_tail}
use Rattle.sat_propagate.specs.Watches.{lit_at, SameLits, Latest, Leads, OneAlone}

pub lit_from : (c : List ℤ) (x : ℤ) → AreLits c → has c x ≡ true → IsLit x
lit_from [] x a h = absurd (false≢true h)
lit_from (l ∷ c) x a h = elim (or_cases (int_eq x l) (has c x) h) [
  | inl e ↦ subst IsLit (sym (same_is x l e)) a.0
  | inr e ↦ lit_from c x a.1 e
]

pub lits_from : (c : List ℤ) → ((x : ℤ) → has c x ≡ true → IsLit x) → AreLits c
lits_from [] f = tt
lits_from (l ∷ c) f = (f l (has_head l c), lits_from c (λ x h. f x (has_tail x l c h)))

pub lits_same : (c d : List ℤ) → SameLits c d → AreLits c → AreLits d
lits_same c d s a = lits_from d (λ x h. lit_from c x a (s x ∙ h))

pub index_of : (c : List ℤ) (x : ℤ) → has c x ≡ true → (i : ℕ) × (i < length c) × (lit_at c i ≡ x)
index_of [] x h = absurd (false≢true h)
index_of (l ∷ c) x h = elim (or_cases (int_eq x l) (has c x) h) [
  | inl e ↦ (0, omega arith, sym (same_is x l e))
  | inr e ↦ let r = index_of c x e in (suc r.0, omega (arith, r.1), r.2)
]

pub same_swap : (c : List ℤ) (i k : ℕ) → i < length c → k < length c → SameLits c (swap c i k)
same_swap c i k l m x = list_any-IsPermutation (int_eq x) c (swap c i k) (IsPermutation-swap c (swap c i k) i k l m refl)

-- no literal, or none other than the first one
pub none_alone : (t : Entries) (c : List ℤ) → Latest t c None (length c) None → OneAlone c
none_alone t c b x y h k = let r = index_of c x h in absurd (true≢false (b r.0 r.1))

not_other : (l x : ℤ) → not (int_eq l x) ≡ false → l ≡ x
not_other l x h = elim (cases_Bool (int_eq l x)) [
  | inl e ↦ same_is l x e
  | inr e ↦ absurd (true≢false (ap not (sym e) ∙ h))
]

pub one_alone : (t : Entries) (c d : List ℤ) (l : ℤ) → SameLits c d → Latest t d (Some l) (length d) None → OneAlone c
one_alone t c d l s b x y h k =
    let p = index_of d x (sym (s x) ∙ h) in
    let q = index_of d y (sym (s y) ∙ k) in
    same_self x y (sym (not_other l x (ap (λ z. not (int_eq l z)) (sym p.2) ∙ b p.0 p.1))
    ∙ not_other l y (ap (λ z. not (int_eq l z)) (sym q.2) ∙ b q.0 q.1))

other_differs : (l x : ℤ) → not (int_eq l x) ≡ true → int_eq l x ≡ false
other_differs l x h = elim (cases_Bool (int_eq l x)) [
  | inl e ↦ absurd (false≢true (ap not (sym e) ∙ h))
  | inr e ↦ e
]

-- the literal that no other one outlasts comes first
pub lead_first : (t : Entries) (c d : List ℤ) (first : ℕ) → Latest t c None (length c) (Some first)
    → d ≡ swap c 0 first → (x : ℤ) → has d x ≡ true → Outlasts t (lit_at d 0) x
lead_first t c d first b f x k =
    let some = b.0 in
    let head_is : lit_at d 0 ≡ lit_at c first = ap (λ z. lit_at z 0) f
    ∙ (swapped_from_swap c (swap c 0 first) 0 first (pos 0) (omega (arith, some)) some refl).0 in
    let r = index_of c x (same_swap c 0 first (omega (arith, some)) some x ∙ ap (λ z. has z x) (sym f) ∙ k) in
    subst (λ z. Outlasts t z x) (sym head_is) (subst (Outlasts t (lit_at c first)) r.2 (b.2 r.0 r.1 refl))

zero_or : (k : ℕ) → (k ≡ 0) ⊎ (0 < k)
zero_or zero = inl refl
zero_or (suc k) = inr (omega arith)

-- another literal than the first one stands behind it
pub second_beyond : (t : Entries) (d : List ℤ) (second : ℕ)
    → Latest t d (Some (lit_at d 0)) (length d) (Some second) → (0 < second) × (second < length d)
second_beyond t d second g = (
  elim (zero_or second) [
    | inl z ↦ absurd (false≢true (sym (other_differs (lit_at d 0) (lit_at d second) g.1)
        ∙ same_self (lit_at d 0) (lit_at d second) (ap (lit_at d) (sym z))))
    | inr z ↦ z
  ],
  g.0,
)

pub lead_second : (t : Entries) (d e : List ℤ) (second : ℕ)
    → ((x : ℤ) → has d x ≡ true → Outlasts t (lit_at d 0) x)
    → Latest t d (Some (lit_at d 0)) (length d) (Some second) → e ≡ swap d 1 second → Leads t e
lead_second t d e second f g h =
    let n = (second_beyond t d second g).0 in
    let long = g.0 in
    let many : length (swap d 1 second) ≡ length d = length-swap d 1 second in
    let one : 1 < length d = omega (arith, n, long) in
    let zero_is : lit_at (swap d 1 second) 0 ≡ lit_at d 0 =
    (swapped_from_swap d (swap d 1 second) 1 second (pos 0) one long refl).2 0
    (λ z. omega (arith, z)) (λ z. omega (arith, z, n)) in
    let one_is : lit_at (swap d 1 second) 1 ≡ lit_at d second =
    (swapped_from_swap d (swap d 1 second) 1 second (pos 0) one long refl).0 in
    subst (Leads t) (sym h) (record {
      long = omega (arith, one, many);
      apart = ap (λ z. int_eq z (lit_at (swap d 1 second) 1)) zero_is ∙ ap (int_eq (lit_at d 0)) one_is
          ∙ other_differs (lit_at d 0) (lit_at d second) g.1;
      first = λ x k. subst (λ z. Outlasts t z x) (sym zero_is) (f x (same_swap d 1 second one long x ∙ k));
      second = λ x k q. subst (λ z. Outlasts t z x) (sym one_is)
          (let r = index_of d x (same_swap d 1 second one long x ∙ k) in
          subst (Outlasts t (lit_at d second)) r.2 (g.2 r.0 r.1
          (ap (λ z. not (int_eq (lit_at d 0) z)) r.2 ∙ ap not (ap (λ z. int_eq z x) (sym zero_is) ∙ q))));
    })

pub alone_on : (b : Bool) (A : Type 0) (c d : List ℤ) → SameLits c d → MatchBool b A (OneAlone d)
    → MatchBool b A (OneAlone c)
alone_on true A c d s m = m
alone_on false A c d s m = λ x y h k. m x y (sym (s x) ∙ h) (sym (s y) ∙ k)

pub first_kept : (d : List ℤ) (x : ℤ) → x ≡ get_or d 0 x → 0 < length d → AreLits d
    → to_z w64 (of_z w64 x) ≡ lit_at d 0
first_kept [] x e l a = absurd (omega (arith, l))
first_kept (y ∷ d) x e l a = ap (λ z. to_z w64 (of_z w64 z)) e ∙ lit_kept y a.0

-- a literal that is read from a clause
pub kept_at : (d : List ℤ) (k : ℕ) (x : ℤ) → x ≡ get_or d k x → k < length d → AreLits d
    → to_z w64 (of_z w64 x) ≡ lit_at d k
kept_at [] k x e l a = absurd (omega (arith, l))
kept_at (y ∷ d) zero x e l a = ap (λ z. to_z w64 (of_z w64 z)) e ∙ lit_kept y a.0
kept_at (y ∷ d) (suc k) x e l a = kept_at d k x e (omega (arith, l)) a.1
