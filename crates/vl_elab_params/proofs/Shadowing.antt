-- Names of a block of which something is said around.
use Rattle.std.specs.Prelude.{◌≡◌, refl, ℕ, List, [], ◌∷◌, ◌++◌, Bool, true, false, ◌||◌, bytes_eq, if◌then◌else◌}
use Rattle.std.specs.Prelude.{Result, OnOk}
use Rattle.std.proofs.Common.{ap, sym, ◌∙◌, subst}
use Rattle.std.proofs.lemmas.Result.{on_ok_weaker}
use Rattle.std.proofs.lemmas.Slice.Eq.{bytes_eq-Decides}
use Rattle.vl_mean.specs.Cells.{contains_name}
use Rattle.vl_elab_spec.specs.Meanings.{Meaning, undeclared, constant, loop_variable, object, faulty, shapeless, later}
use Rattle.vl_elab_spec.specs.Meanings.{Names, is_undeclared, meaning_of, meaning_in}
use Rattle.vl_elab_scope.specs.declared.meaning.Meaning.{Meaning as Kept}
use Rattle.vl_elab_scope.specs.Seen.{IsNamed, AreNamed, AllNamed, seen, with_name}
use Rattle.vl_elab_scope.proofs.Levels.{seen_declared}
use Rattle.vl_elab_params.proofs.Listed.{inner_or, inner_assoc, named_only, not_undeclared, meaning_with, named_with}
use Rattle.vl_elab_params.specs.Shadows.{with_meaning, with_shadow, with_shadows}

-- ---- what is found under a name stands under it

names_found : (ns : Names) → AreNamed ns → (text : List ℕ) → is_undeclared (meaning_of ns text) ≡ false
    → IsNamed (text, meaning_of ns text)
names_found [] h text d = cc
names_found (n ∷ ns) h text d = by (bytes_eq text n.0) refl (names_found ns h.1 text) d
  where
    by : (b : Bool) → bytes_eq text n.0 ≡ b
        → (is_undeclared (meaning_of ns text) ≡ false → IsNamed (text, meaning_of ns text))
        → is_undeclared (if b then n.1 else meaning_of ns text) ≡ false
        → IsNamed (text, (if b then n.1 else meaning_of ns text))
    by true e f d = subst (λ t. IsNamed (t, n.1)) (sym ((bytes_eq-Decides text n.0).0 e)) h.0
    by false e f d = f d

pub all_found : (ns : List Names) → AllNamed ns → (text : List ℕ) → is_undeclared (meaning_in ns text) ≡ false
    → IsNamed (text, meaning_in ns text)
all_found [] h text d = cc
all_found (n ∷ ns) h text d = by (is_undeclared (meaning_of n text)) refl (all_found ns h.1 text) d
  where
    by : (b : Bool) → is_undeclared (meaning_of n text) ≡ b
        → (is_undeclared (meaning_in ns text) ≡ false → IsNamed (text, meaning_in ns text))
        → is_undeclared (if b then meaning_in ns text else meaning_of n text) ≡ false
        → IsNamed (text, (if b then meaning_in ns text else meaning_of n text))
    by true e f d = f d
    by false e f d = names_found n h.0 text e

-- ---- one name

-- of what is found
pub kept_named : (names : List Names) (text name : List ℕ) (m n : Kept) → AllNamed names
    → seen m ≡ meaning_in names text → seen n ≡ seen m → name ≡ text → IsNamed (name, seen n)
kept_named names text name m n all e f g =
    let found = f ∙ e in
    subst (λ t. IsNamed (t, seen n)) (sym g)
    (subst (λ k. IsNamed (text, k)) (sym found)
    (all_found names all text (ap is_undeclared (sym found) ∙ seen_declared n)))

pub none_kept : (names : List Names) (l : Names) (text : List ℕ) → undeclared ≡ meaning_in names text
    → l ≡ with_meaning names l text
none_kept names l text e = ap (λ m. if is_undeclared m then l else with_name l text m) e

pub one_kept : (names : List Names) (old new : Names) (text name : List ℕ) (m n : Kept)
    → seen m ≡ meaning_in names text → seen n ≡ seen m → name ≡ text → {A E : Type 0} (r : Result A E)
    → OnOk r (new ≡ with_name old name (seen n)) → OnOk r (new ≡ with_meaning names old text)
one_kept names old new text name m n e f g r h =
    let found = f ∙ e in
    on_ok_weaker r (λ k. k ∙ (λ i. with_name old (g i) (found i))
    ∙ ap (λ t. if t then old else with_name old text (meaning_in names text))
    (sym (ap is_undeclared (sym found) ∙ seen_declared n))) h

without : (m : Meaning) → inner_or m undeclared ≡ m
without undeclared = refl
without (constant c selected) = refl
without loop_variable = refl
without (object d role scalar) = refl
without faulty = refl
without shapeless = refl
without later = refl

same_either : (b : Bool) (m : Meaning) → (if b then m else m) ≡ m
same_either true m = refl
same_either false m = refl

module _ (names around : List Names) where
  pub shadows_append : (l : Names) (xs ys : List (List ℕ))
      → with_shadows names around l (xs ++ ys) ≡ with_shadows names around (with_shadows names around l xs) ys
  shadows_append l [] ys = refl
  shadows_append l (x ∷ xs) ys = shadows_append (with_shadow names around l x) xs ys

  -- what is kept of a name
  abbrev pub shadow : List ℕ → Meaning
  shadow text = if is_undeclared (meaning_in around text) then undeclared else meaning_in names text

  nothing_more : (m n : Meaning) (b : Bool) → n ≡ undeclared → m ≡ inner_or m (if b then n else undeclared)
  nothing_more m n b e =
      sym (without m) ∙ ap (inner_or m) (sym (same_either b undeclared) ∙ ap (λ k. if b then k else undeclared) (sym e))

  meaning_more : (l : Names) → AreNamed l → (x text : List ℕ) (t : Bool) → is_undeclared (meaning_in names x) ≡ t
      → meaning_of (if t then l else with_name l x (meaning_in names x)) text
      ≡ inner_or (meaning_of l text) (named_only x (meaning_in names x) text)
  meaning_more l h x text true e =
      nothing_more (meaning_of l text) (meaning_in names x) (bytes_eq text x) (not_undeclared (meaning_in names x) e)
  meaning_more l h x text false e = meaning_with l x (meaning_in names x) h text

  shadow_more : (l : Names) → AreNamed l → (x text : List ℕ) (t : Bool) → is_undeclared (meaning_in around x) ≡ t
      → meaning_of (if t then l else with_meaning names l x) text
      ≡ inner_or (meaning_of l text) (named_only x (if t then undeclared else meaning_in names x) text)
  shadow_more l h x text true e = nothing_more (meaning_of l text) undeclared (bytes_eq text x) refl
  shadow_more l h x text false e = meaning_more l h x text (is_undeclared (meaning_in names x)) refl

  module _ (all : AllNamed names) where
    named_meaning : (l : Names) → AreNamed l → (x : List ℕ) (t : Bool) → is_undeclared (meaning_in names x) ≡ t
        → AreNamed (if t then l else with_name l x (meaning_in names x))
    named_meaning l h x true e = h
    named_meaning l h x false e = named_with l x (meaning_in names x) h (all_found names all x e)

    named_shadow : (l : Names) → AreNamed l → (x : List ℕ) (t : Bool)
        → AreNamed (if t then l else with_meaning names l x)
    named_shadow l h x true = h
    named_shadow l h x false = named_meaning l h x (is_undeclared (meaning_in names x)) refl

    -- ---- several names

    pub shadows_named : (l : Names) (texts : List (List ℕ)) → AreNamed l
        → AreNamed (with_shadows names around l texts)
    shadows_named l [] h = h
    shadows_named l (x ∷ texts) h =
        shadows_named (with_shadow names around l x) texts
        (named_shadow l h x (is_undeclared (meaning_in around x)))

    either : (b q : Bool) (m : Meaning)
        → inner_or (if b then m else undeclared) (if q then m else undeclared) ≡ (if b || q then m else undeclared)
    either true q undeclared = same_either q undeclared
    either true q (constant c selected) = refl
    either true q loop_variable = refl
    either true q (object d role scalar) = refl
    either true q faulty = refl
    either true q shapeless = refl
    either true q later = refl
    either false q m = refl

    -- under the name itself
    own_shadow : (x text : List ℕ) (b : Bool) → bytes_eq text x ≡ b
        → (if b then shadow x else undeclared) ≡ (if b then shadow text else undeclared)
    own_shadow x text true e = ap shadow (sym ((bytes_eq-Decides text x).0 e))
    own_shadow x text false e = refl

    pub shadows_mean : (l : Names) (texts : List (List ℕ)) → AreNamed l → (text : List ℕ)
        → meaning_of (with_shadows names around l texts) text
        ≡ inner_or (meaning_of l text) (if contains_name texts text then shadow text else undeclared)
    shadows_mean l [] h text = sym (without (meaning_of l text))
    shadows_mean l (x ∷ texts) h text =
        let t = is_undeclared (meaning_in around x) in
        let rest = if contains_name texts text then shadow text else undeclared in
        shadows_mean (with_shadow names around l x) texts (named_shadow l h x t) text
        ∙ ap (λ m. inner_or m rest)
        (shadow_more l h x text t refl ∙ ap (inner_or (meaning_of l text)) (own_shadow x text (bytes_eq text x) refl))
        ∙ sym (inner_assoc (meaning_of l text) (if bytes_eq text x then shadow text else undeclared) rest)
        ∙ ap (inner_or (meaning_of l text)) (either (bytes_eq text x) (contains_name texts text) (shadow text))
