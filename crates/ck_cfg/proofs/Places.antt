-- What stands in a list.
use Rattle.std.proofs.Common.{◌≡◌, ℕ, ◌≤◌, Bool, true, false, cond, List, [], ◌∷◌, ◌++◌, length, drop, Option, Some}
use Rattle.std.proofs.Common.{None, refl, subst, arith}
use Rattle.std.specs.Prelude.{find, nat_eq, IfSome}
use Rattle.std.specs.List.{starts_with}
use Rattle.std.proofs.lemmas.Bool.Decides.{Decides-eqb}
use Rattle.std.proofs.lemmas.Slice.Eq.{starts_is}
use Rattle.std.proofs.lemmas.List.{length-append}
use Rattle.ck_cfg.specs.declared.kind.CheckKind.{CheckKind}
use Rattle.ck_cfg.specs.Kind.{kind_name}

find_step : {X : Type 0} (b : Bool) (p : X → Bool) (x t : X) (o : Option X) → p x ≡ b → (o ≡ Some t → p t ≡ true)
    → cond b (Some x) o ≡ Some t → p t ≡ true
find_step true p x t o e h same = let one : x ≡ t = cc in subst (λ y. p y ≡ true) one e
find_step false p x t o e h same = h same

-- what is found passes the test
pub find_passes : {X : Type 0} (p : X → Bool) (xs : List X) (t : X) → find p xs ≡ Some t → p t ≡ true
find_passes p [] t e = absurd (let f : ⊥ = cc in f)
find_passes p (x ∷ xs) t e = find_step (p x) p x t (find p xs) refl (find_passes p xs t) e

front_fits : (bytes front rest : List ℕ) → bytes ≡ front ++ rest → length front ≤ length bytes
front_fits bytes front rest e = rw e (omega (arith, length-append front rest))

-- a kind whose name begins a word
pub kind_fits : (word : List ℕ) (ks : List CheckKind) (r : Option CheckKind)
    → r ≡ find (λ k. starts_with nat_eq word (kind_name k)) ks → IfSome r (λ k. length (kind_name k) ≤ length word)
kind_fits word ks None e = tt
kind_fits word ks (Some k) e =
    let p : find (λ k. starts_with nat_eq word (kind_name k)) ks ≡ Some k = cc in
    let q = find_passes (λ k. starts_with nat_eq word (kind_name k)) ks k p in
    front_fits word (kind_name k) (drop (length (kind_name k)) word)
    ((starts_is Decides-eqb word (kind_name k) (starts_with nat_eq word (kind_name k)) refl).0 q)
