-- What the watches keep from one look to the next.
use Rattle.std.proofs.Common.{◌≡◌, ℕ, zero, suc, ◌+◌, ◌-◌, ◌≤◌, true, false, cond, eqb, min, List, [], ◌∷◌}
use Rattle.std.proofs.Common.{ℤ, length, drop, get_or, refl, ap, sym, subst, ◌∙◌, inl, inr}
use Rattle.std.proofs.Common.{arith}
use Rattle.std.proofs.lemmas.Bool.{false≢true, cases_Bool}
use Rattle.lrat_check.specs.Codes.{code_of, lit_of, codes_of, flip}
use Rattle.lrat_check.specs.Sets.{IsLit}
use Rattle.lrat_check.specs.Store.{Coded}
use Rattle.lrat_check.proofs.Codes.{lit_code}
use Rattle.sat_trail.specs.Trail.{Entries, oldest, true_codes, has_code, IsNext}
use Rattle.sat_trail.proofs.Members.{or_left, or_right, or_cases}
use Rattle.sat_trail.proofs.Standing.{oldest_whole}
use Rattle.sat_propagate.specs.declared.watch.Watch.{Watch}
use Rattle.sat_propagate.specs.Watching.{is_false_code, Among, satisfied, Lists, is_listed, taken, Watched}
use Rattle.sat_propagate.specs.Watching.{Calm, CalmBelow}
use Rattle.sat_propagate.proofs.Quiets.{eq_is, eq_self, ends}

pub flip_flip : (n : ℕ) → flip (flip n) ≡ n
flip_flip n = grind arith

pub among_self : (a : List ℕ) → Among a a
among_self a x h = h

in_drop : (k : ℕ) (t : Entries) → Among (true_codes (drop k t)) (true_codes t)
in_drop zero t x h = h
in_drop (suc k) [] x h = h
in_drop (suc k) (e ∷ t) x h = or_right (eqb x (code_of e.lit)) (has_code (true_codes t) x) (in_drop k t x h)

-- what is oldest was true all along
pub among_oldest : (n : ℕ) (t : Entries) → Among (true_codes (oldest n t)) (true_codes t)
among_oldest n t = in_drop (length t - n) t

-- of fewer of the oldest entries the literals are among those of more
pub among_fewer : (few many : ℕ) (t : Entries) → few ≤ many
    → Among (true_codes (oldest few t)) (true_codes (oldest many t))
among_fewer few many t h = at (length t - few) (length t - many) t (omega (arith, h)) where
  at : (i k : ℕ) (t : Entries) → k ≤ i → Among (true_codes (drop i t)) (true_codes (drop k t))
  at i zero t l x h = in_drop i t x h
  at zero (suc k) t l x h = absurd (omega (arith, l))
  at (suc i) (suc k) [] l x h = h
  at (suc i) (suc k) (e ∷ t) l x h = at i k t (omega (arith, l)) x h

module _ (held : Coded) (lists : Lists) (done set next : List ℕ) (p code : ℕ) (n : next ≡ p ∷ done)
    (f : code ≡ flip p) where
  calm_next : (c : List ℕ) (x : ℕ) → eqb code x ≡ false → (is_false_code done x ≡ true → satisfied set c ≡ true)
      → is_false_code next x ≡ true → satisfied set c ≡ true
  calm_next c x d q h = elim (or_cases (eqb (flip x) p) (has_code done (flip x))
      (sym (ap (λ z. has_code z (flip x)) n) ∙ h)) [
        | inl j ↦ absurd (false≢true (sym d
            ∙ eq_self code x (f ∙ ap flip (sym (eq_is (flip x) p j)) ∙ flip_flip x)))
        | inr j ↦ q j
      ]

  -- the list of the literal that became false is taken out
  pub begins : (old : ℕ) → Watched held lists done set old []
      → Watched held (taken lists code) next set code (lists code)
  begins old s = record {
    two = s.two;
    apart = s.apart;
    kept = λ id c place h m. elim (s.kept id c place h m) [
      | inr r ↦ absurd (false≢true r.1)
      | inl q ↦ elim (cases_Bool (eqb code (get_or c place 0))) [
        | inl k ↦ inr (
          sym (eq_is code (get_or c place 0) k),
          ap (λ x. is_listed (lists x) id) (eq_is code (get_or c place 0) k) ∙ q.inside,
        )
        | inr k ↦ inl (record {
          inside = ap (λ b. is_listed (cond b [] (lists (get_or c place 0))) id) k ∙ q.inside;
          calm = calm_next c (get_or c place 0) k q.calm;
        })
      ]
    ];
  }

-- a true literal's complement is false
pub false_next : (t : Entries) (place : ℕ) (l : ℤ) → IsNext t place l
    → is_false_code (true_codes t) (flip (code_of l)) ≡ true
false_next t place l n =
    ap (has_code (true_codes t)) (flip_flip (code_of l))
    ∙ among_oldest (place + 1) t (code_of l) (ap (λ z. has_code (codes_of z) (code_of l)) n.next
    ∙ or_left (eqb (code_of l) (code_of l)) (has_code (true_codes (oldest place t)) (code_of l))
    (eq_self (code_of l) (code_of l) refl))

pub lit_next : (l : ℤ) → IsLit l → IsLit (lit_of (code_of l))
lit_next l i = subst IsLit (sym (lit_code l)) i

-- once all was gone through, all is calm
pub all_calm : (held : Coded) (lists : Lists) (t : Entries) (head code : ℕ) (rest : List Watch) → length t ≤ head
    → rest ≡ [] → Watched held lists (true_codes (oldest head t)) (true_codes t) code rest → Calm held (true_codes t)
all_calm held lists t head code rest l e s =
    let P : List Watch → Type 0 = λ z. Watched held lists (true_codes (oldest head t)) (true_codes t) code z in
    let Q : Entries → Type 0 = λ z. Watched held lists (true_codes z) (true_codes t) code [] in
    ends held lists (true_codes t) code (subst Q (oldest_whole t head l) (subst P e s))

-- what is older than each decision stays calm
pub below_on : (held now : Coded) (all : List ℕ)
    → ((older : List ℕ) → Among older all → Calm held older → Calm now older) → (t : Entries)
    → Among (true_codes t) all → CalmBelow held t → CalmBelow now t
below_on held now all f [] a c = tt
below_on held now all f (e ∷ t) a c =
    let b : Among (true_codes t) all =
    λ x h. a x (or_right (eqb x (code_of e.lit)) (has_code (true_codes t) x) h) in
    (λ d. f (true_codes t) b (c.0 d), below_on held now all f t b c.1)

-- no more than all entries were gone through
pub oldest_min : (head : ℕ) (t : Entries) → oldest (min head (length t)) t ≡ oldest head t
oldest_min head t = let q : length t - min head (length t) ≡ length t - head = omega arith in ap (λ n. drop n t) q
