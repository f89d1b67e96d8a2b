-- A name that some scope declares is found under its full name, where each declaration of the scopes stands under it.
use Rattle.std.specs.Prelude.{◌≡◌, refl, ℕ, Bool, true, false, ◌||◌, is_none, cond, if◌then◌else◌, List, [], ◌∷◌, ◌++◌}
use Rattle.std.specs.Prelude.{Option, Some, None, bytes_eq}
use Rattle.std.proofs.Common.{ap, sym, ◌∙◌, true≢false}
use Rattle.std.proofs.lemmas.Option.{same_Some}
use Rattle.std.proofs.lemmas.Slice.Eq.{bytes_eq-Decides}
use Rattle.vl_size.specs.declared.decl.Decl.{Decl}
use Rattle.vl_size.specs.Table.{is_declared, declared_as}
use Rattle.vl_mean.specs.Scopes.{Scope, full, visible}
use Rattle.vl_mean_flat.specs.Found.{Found}

-- what a scope with this path declares stands in the design under its full names
abbrev pub AreOf : List Decl → List ℕ → List Decl → Type 0
AreOf es path [] = Unit {0}
AreOf es path (d ∷ ds) =
    (declared_as es (path ++ d.name) ≡ Some (record d { name = path ++ d.name })) × AreOf es path ds

abbrev pub AreScopes : List Decl → List Scope → Type 0
AreScopes es [] = Unit {0}
AreScopes es (s ∷ ss) = AreOf es s.path s.decls × AreScopes es ss

none_some : {A : Type 0} (x : A) → None ≡ Some x → ⊥
none_some x e = true≢false (ap is_none e)

-- ---- in one scope

module _ (es : List Decl) (path text : List ℕ) where
  past_decl : (d : Decl) (b : Bool) (x : Option Decl) → b ≡ false → cond b (Some d) x ≡ x
  past_decl d b x e = ap (λ c. cond c (Some d) x) e

  past : (ds rest : List Decl) → is_declared ds text ≡ false → declared_as (ds ++ rest) text ≡ declared_as rest text
  past [] rest h = refl
  past (d ∷ ds) rest h = by (bytes_eq text d.name) refl h (past ds rest)
    where
      by : (b : Bool) → bytes_eq text d.name ≡ b → (b || is_declared ds text) ≡ false
          → (is_declared ds text ≡ false → declared_as (ds ++ rest) text ≡ declared_as rest text)
          → declared_as (d ∷ (ds ++ rest)) text ≡ declared_as rest text
      by true e f next = absurd (true≢false f)
      by false e f next = past_decl d (bytes_eq text d.name) (declared_as (ds ++ rest) text) e ∙ next f

  -- what is known where the scope declares the name
  record IsHere (d : Decl) : Type 0 where
    own : d.name ≡ text
    there : declared_as es (path ++ text) ≡ Some (record d { name = path ++ text })

  here : (ds rest : List Decl) (d : Decl) → AreOf es path ds → is_declared ds text ≡ true
      → declared_as (ds ++ rest) text ≡ Some d → IsHere d
  here [] rest d l h e = absurd (true≢false (sym h))
  here (x ∷ ds) rest d l h e = by (bytes_eq text x.name) refl h (here ds rest d l.1)
    where
      by : (b : Bool) → bytes_eq text x.name ≡ b → (b || is_declared ds text) ≡ true
          → (is_declared ds text ≡ true → declared_as (ds ++ rest) text ≡ Some d → IsHere d) → IsHere d
      by true f g next =
          let same : x ≡ d = same_Some x d (sym (ap (λ c. cond c (Some x) (declared_as (ds ++ rest) text)) f) ∙ e) in
          let named_so : text ≡ x.name = (bytes_eq-Decides text x.name).0 f in
          record {
            own = sym (named_so ∙ ap (λ y. y.name) same);
            there = ap (λ t. declared_as es (path ++ t)) named_so ∙ l.0
                ∙ (λ i. Some (record (same i) { name = path ++ sym named_so i }));
          }
      by false f g next = next g (sym (past_decl x (bytes_eq text x.name) (declared_as (ds ++ rest) text) f) ∙ e)

-- ---- in scopes

full_next : (s : Scope) (ss : List Scope) (text : List ℕ) (b : Bool) → is_declared s.decls text ≡ b
    → full (s ∷ ss) text ≡ (if b then s.path ++ text else full ss text)
full_next s ss text b h = λ i. if h i then s.path ++ text else full ss text

record IsSomewhere (es : List Decl) (ss : List Scope) (text : List ℕ) (d : Decl) : Type 0 where
  own : d.name ≡ text
  there : declared_as es (full ss text) ≡ Some (record d { name = full ss text })

somewhere : (es : List Decl) (text : List ℕ) (ss : List Scope) (d : Decl) → AreScopes es ss
    → declared_as (visible ss) text ≡ Some d
    → IsSomewhere es ss text d
somewhere es text [] d l e = absurd (none_some d e)
somewhere es text (s ∷ ss) d l e = by (is_declared s.decls text) refl (somewhere es text ss d l.1)
  where
    by : (b : Bool) → is_declared s.decls text ≡ b → (declared_as (visible ss) text ≡ Some d → IsSomewhere es ss text d)
        → IsSomewhere es (s ∷ ss) text d
    by true f after =
        let at : IsHere es s.path text d = here es s.path text s.decls (visible ss) d l.0 f e in
        let is : full (s ∷ ss) text ≡ s.path ++ text = full_next s ss text true f in
        record { own = at.own; there = ap (declared_as es) is ∙ at.there ∙ (λ i. Some (record d { name = sym is i })) }
    by false f after =
        let next : IsSomewhere es ss text d = after (sym (past es s.path text s.decls (visible ss) f) ∙ e) in
        let is : full (s ∷ ss) text ≡ full ss text = full_next s ss text false f in
        record {
          own = next.own;
          there = ap (declared_as es) is ∙ next.there
              ∙ (λ i. Some (record d { name = sym is i }));
        }

pub found : (es : List Decl) (ss : List Scope) (text : List ℕ) (d : Decl) → AreScopes es ss
    → declared_as (visible ss) text ≡ Some d → Found es ss text
found es ss text d l e =
    let at : IsSomewhere es ss text d = somewhere es text ss d l e
    in record { decl = d; own = at.own; here = e; there = at.there }
