-- Look-ups by names in a map whose keys are bytes.
use Rattle.std.proofs.Common.{◌≡◌, ℕ, List, [], ◌∷◌, refl, ap, sym, ◌∙◌}
use Rattle.std.specs.Prelude.{Bool, true, false, cond, Option, Some, None}
use Rattle.std.specs.Map.{lookup}
use Rattle.std.specs.Str.{bytes_eq}
use Rattle.std.proofs.lemmas.Bool.Decides.{same_from_decides, not_from_Decides, Decides-like}
use Rattle.std.proofs.lemmas.Slice.Eq.{bytes_eq-Decides}
use Rattle.indexmap.specs.IndexMap.{insert_entry}

pub bytes_eq-swap : (xs ys : List ℕ) → bytes_eq xs ys ≡ bytes_eq ys xs
bytes_eq-swap xs ys =
    same_from_decides (bytes_eq xs ys) (bytes_eq ys xs) (bytes_eq-Decides xs ys)
    (Decides-like (bytes_eq ys xs) (λ e. sym e) (λ e. sym e) (bytes_eq-Decides ys xs))

once : {X : Type 0} (b : Bool) (x y z : X) → cond b x z ≡ cond b x (cond b y z)
once true x y z = refl
once false x y z = refl

apart : {X : Type 0} (b c : Bool) (x y z : X) → (b ≡ true → c ≡ true → ⊥)
    → cond b y (cond c x z) ≡ cond c x (cond b y z)
apart true true x y z h = absurd (h refl refl)
apart true false x y z h = refl
apart false true x y z h = refl
apart false false x y z h = refl

module _ {K X : Type 0} (bytes : K → List ℕ) (k : K) (v : X) (other : List ℕ) where
  -- what the map has at the bytes, once a value is put at a key
  pub lookup-insert_entry : (es : List (K × X)) →
      lookup (λ q. bytes_eq other (bytes q)) (insert_entry (λ a b. bytes_eq (bytes a) (bytes b)) es k v)
      ≡ cond (bytes_eq (bytes k) other) (Some v) (lookup (λ q. bytes_eq other (bytes q)) es)
  lookup-insert_entry [] = ap (λ b. cond b (Some v) None) (bytes_eq-swap other (bytes k))
  lookup-insert_entry (e ∷ es) = by (bytes_eq (bytes k) (bytes e.0)) refl (lookup-insert_entry es)
    where
      by : (b : Bool) → bytes_eq (bytes k) (bytes e.0) ≡ b →
          lookup (λ q. bytes_eq other (bytes q)) (insert_entry (λ a b. bytes_eq (bytes a) (bytes b)) es k v)
          ≡ cond (bytes_eq (bytes k) other) (Some v) (lookup (λ q. bytes_eq other (bytes q)) es) →
          lookup (λ q. bytes_eq other (bytes q)) (cond b ((e.0, v) ∷ es)
          (e ∷ insert_entry (λ a b. bytes_eq (bytes a) (bytes b)) es k v))
          ≡ cond (bytes_eq (bytes k) other) (Some v)
          (cond (bytes_eq other (bytes e.0)) (Some e.1) (lookup (λ q. bytes_eq other (bytes q)) es))
      by true h others =
          once (bytes_eq other (bytes e.0)) (Some v) (Some e.1) (lookup (λ q. bytes_eq other (bytes q)) es)
          ∙ ap (λ c. cond c (Some v) (cond (bytes_eq other (bytes e.0)) (Some e.1)
          (lookup (λ q. bytes_eq other (bytes q)) es)))
          (bytes_eq-swap other (bytes e.0) ∙ ap (λ l. bytes_eq l other)
          (sym ((bytes_eq-Decides (bytes k) (bytes e.0)).0 h)))
      by false h others =
          ap (λ r. cond (bytes_eq other (bytes e.0)) (Some e.1) r) others
          ∙ apart (bytes_eq other (bytes e.0)) (bytes_eq (bytes k) other) (Some v) (Some e.1)
          (lookup (λ q. bytes_eq other (bytes q)) es)
          (λ s t. not_from_Decides (bytes_eq (bytes k) (bytes e.0)) (bytes_eq-Decides (bytes k) (bytes e.0)) h
          ((bytes_eq-Decides (bytes k) other).0 t ∙ (bytes_eq-Decides other (bytes e.0)).0 s))

-- what a map has at each name, once a value is put at a name
pub lookup_after : {K X : Type 0} (bytes : K → List ℕ) (k : K) (w : X) (other : List ℕ) (old new : List (K × X))
    (name : List ℕ) →
    new ≡ insert_entry (λ a b. bytes_eq (bytes a) (bytes b)) old k w → bytes k ≡ name →
    lookup (λ q. bytes_eq other (bytes q)) new
    ≡ cond (bytes_eq name other) (Some w) (lookup (λ q. bytes_eq other (bytes q)) old)
lookup_after bytes k w other old new name e n =
    ap (λ es. lookup (λ q. bytes_eq other (bytes q)) es) e
    ∙ lookup-insert_entry bytes k w other old
    ∙ ap (λ l. cond (bytes_eq l other) (Some w) (lookup (λ q. bytes_eq other (bytes q)) old)) n
