-- What is put into a file's name.
use Rattle.std.proofs.Common.{◌≡◌, ℕ, ◌-◌, ◌<◌, false, cond, List, [], ◌∷◌, ◌++◌, length, take, drop, get_or, refl}
use Rattle.std.proofs.Common.{ap, sym, ◌∙◌, append_assoc, inl, inr, arith}
use Rattle.std.specs.Prelude.{nat_eq, codes}
use Rattle.std.specs.List.{starts_with}
use Rattle.std.proofs.lemmas.Bool.{cases_Bool}
use Rattle.std.proofs.lemmas.Bool.Decides.{Decides-eqb}
use Rattle.std.proofs.lemmas.List.{take_all}
use Rattle.std.proofs.lemmas.Slice.Eq.{starts_is}
use Rattle.ck_cfg.specs.Files.{filled_behind, filled}

-- the base folder is put in
pub base_put : (core basedir name rest out new : List ℕ) → name ≡ codes "@basedir@" ++ rest → new ≡ out ++ basedir
    → new ++ filled core basedir rest ≡ out ++ filled core basedir name
base_put core basedir name rest out new e n =
    ap (λ x. x ++ filled core basedir rest) n ∙ append_assoc out basedir (filled core basedir rest)
    ∙ ap (λ x. out ++ x) (sym (ap (filled core basedir) e ∙ here)) where
      here : filled core basedir (codes "@basedir@" ++ rest) ≡ basedir ++ filled core basedir rest
      here = refl

-- the core's name is put in
pub core_put : (core basedir name rest out new : List ℕ) → name ≡ codes "@core@" ++ rest → new ≡ out ++ core
    → new ++ filled core basedir rest ≡ out ++ filled core basedir name
core_put core basedir name rest out new e n =
    ap (λ x. x ++ filled core basedir rest) n ∙ append_assoc out core (filled core basedir rest)
    ∙ ap (λ x. out ++ x) (sym (ap (filled core basedir) e ∙ here)) where
      here : filled core basedir (codes "@core@" ++ rest) ≡ core ++ filled core basedir rest
      here = refl

other_front : (bs front : List ℕ) → ((rest : List ℕ) → bs ≡ front ++ rest → ⊥) → starts_with nat_eq bs front ≡ false
other_front bs front n = elim (cases_Bool (starts_with nat_eq bs front)) [
  | inl t ↦ absurd (n (drop (length front) bs)
      ((starts_is Decides-eqb bs front (starts_with nat_eq bs front) refl).0 t))
  | inr f ↦ f
]

-- any other byte stays
pub byte_put : (core basedir name out new : List ℕ) → 0 < length name
    → ((rest : List ℕ) → name ≡ codes "@basedir@" ++ rest → ⊥)
    → ((rest : List ℕ) → name ≡ codes "@core@" ++ rest → ⊥) → new ≡ out ++ get_or name 0 0 ∷ []
    → new ++ filled core basedir (take (length name - 1) (drop 1 name)) ≡ out ++ filled core basedir name
byte_put core basedir [] out new h b c n = absurd (omega arith)
byte_put core basedir (x ∷ xs) out new h b c n =
    ap (λ y. y ++ filled core basedir (take (length (x ∷ xs) - 1) xs)) n
    ∙ append_assoc out (x ∷ []) (filled core basedir (take (length (x ∷ xs) - 1) xs))
    ∙ ap (λ y. out ++ x ∷ filled core basedir y) (take_all (length (x ∷ xs) - 1) xs (omega arith))
    ∙ ap (λ y. out ++ y) (sym (
    ap (λ t. cond t (basedir ++ filled_behind core basedir 8 xs)
    (cond (starts_with nat_eq (x ∷ xs) (codes "@core@")) (core ++ filled_behind core basedir 5 xs)
    (x ∷ filled core basedir xs))) (other_front (x ∷ xs) (codes "@basedir@") b)
    ∙ ap (λ t. cond t (core ++ filled_behind core basedir 5 xs) (x ∷ filled core basedir xs))
    (other_front (x ∷ xs) (codes "@core@") c)))
