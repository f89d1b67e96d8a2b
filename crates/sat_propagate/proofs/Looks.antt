-- What a look at a clause finds.
use Rattle.std.proofs.Common.{
  ◌≡◌,
  ℕ,
  zero,
  suc,
  ◌-◌,
  ◌<◌,
  true,
  false,
  eqb,
  List,
  [],
  ◌∷◌,
  length,
  get_or,
  refl,
  ap,
  sym,
  subst,
  ◌∙◌,
  inl,
  inr,
  arith,
}
use Rattle.std.proofs.lemmas.Bool.{false≢true, cases_Bool}
use Rattle.lrat_check.specs.Codes.{lit_of, lits_of}
use Rattle.lrat_check.specs.Sets.{IsLit, AreLits}
use Rattle.sat_trail.specs.Trail.{has_code}
use Rattle.sat_trail.proofs.Members.{or_left, or_right, or_cases}
use Rattle.sat_propagate.specs.Watching.{is_false_code, NoneFrom}
use Rattle.sat_propagate.proofs.Quiets.{eq_is, eq_self}

pub at_index : (c : List ℕ) (x : ℕ) → has_code c x ≡ true → (i : ℕ) × (i < length c) × (get_or c i 0 ≡ x)
at_index [] x h = absurd (false≢true h)
at_index (l ∷ ls) x h = elim (or_cases (eqb x l) (has_code ls x) h) [
  | inl e ↦ (0, omega arith, sym (eq_is x l e))
  | inr e ↦ let r = at_index ls x e in (suc r.0, omega (arith, r.1), r.2)
]

pub has_index : (c : List ℕ) (i : ℕ) → i < length c → has_code c (get_or c i 0) ≡ true
has_index [] i h = absurd (omega (arith, h))
has_index (l ∷ ls) zero h = or_left (eqb l l) (has_code ls l) (eq_self l l refl)
has_index (l ∷ ls) (suc i) h =
    or_right (eqb (get_or ls i 0) l) (has_code ls (get_or ls i 0)) (has_index ls i (omega (arith, h)))

-- where no literal behind the watched ones is free, all but the other watched one are false
pub last_one : (set c : List ℕ) (place other x : ℕ) → place < 2 → other ≡ get_or c (1 - place) 0
    → is_false_code set (get_or c place 0) ≡ true → NoneFrom set c other (length c) → has_code c x ≡ true
    → eqb x other ≡ false → is_false_code set x ≡ true
last_one set c place other x l o f n h d = let r = at_index c x h in at r.0 r.1 r.2 where
  at : (i : ℕ) → i < length c → get_or c i 0 ≡ x → is_false_code set x ≡ true
  at i b e = elim (cases_Bool (eqb i place)) [
    | inl k ↦ ap (is_false_code set) (sym e ∙ ap (λ j. get_or c j 0) (eq_is i place k)) ∙ f
    | inr k ↦ elim (cases_Bool (eqb i (1 - place))) [
      | inl m ↦ absurd (false≢true (sym d
          ∙ eq_self x other (sym e ∙ ap (λ j. get_or c j 0) (eq_is i (1 - place) m) ∙ sym o)))
      | inr m ↦ ap (is_false_code set) (sym e) ∙ n i (grind (arith, k, m, l)) b (ap (λ z. eqb z other) e ∙ d)
    ]
  ]

pub all_false : (set c : List ℕ) (place other : ℕ) → place < 2 → other ≡ get_or c (1 - place) 0
    → is_false_code set (get_or c place 0) ≡ true → is_false_code set other ≡ true
    → NoneFrom set c other (length c) → (x : ℕ) → has_code c x ≡ true → is_false_code set x ≡ true
all_false set c place other l o f g n x h = elim (cases_Bool (eqb x other)) [
  | inl k ↦ ap (is_false_code set) (eq_is x other k) ∙ g
  | inr k ↦ last_one set c place other x l o f n h k
]

-- the literal at a place of a clause has a complement
pub lit_index : (c : List ℕ) (i : ℕ) → AreLits (lits_of c) → i < length c → IsLit (lit_of (get_or c i 0))
lit_index [] i a l = absurd (omega (arith, l))
lit_index (x ∷ c) zero a l = a.0
lit_index (x ∷ c) (suc i) a l = lit_index c i a.1 (omega (arith, l))

pub lit_same : (c : List ℕ) (i x : ℕ) → x ≡ get_or c i 0 → AreLits (lits_of c) → i < length c → IsLit (lit_of x)
lit_same c i x e a l = subst (λ z. IsLit (lit_of z)) (sym e) (lit_index c i a l)
