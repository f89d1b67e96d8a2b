-- Names that differ and are each of a kind, below a path.
use Rattle.std.specs.Prelude.{◌≡◌, refl, ℕ, List, [], ◌∷◌, ◌++◌, Bool, true, false, bytes_eq}
use Rattle.std.proofs.Common.{sym, ◌∙◌, subst, append_assoc}
use Rattle.std.proofs.lemmas.List.{append_cancel_left}
use Rattle.vl_mean.specs.Cells.{contains_name}
use Rattle.vl_mean.specs.Runs.{Each}
use Rattle.vl_mean.specs.Walk.{Step}
use Rattle.vl_mean_flat.proofs.EachOf.{each_map, both}
use Rattle.vl_elab_accepted_laws.proofs.Contained.{Lacks, Different, clash, same_text, text_same, or_first, or_second}
use Rattle.vl_elab_accepted_laws.proofs.Contained.{or_neither, different-append}
use Rattle.vl_elab_accepted_laws.proofs.Declared.{full_names, full-append, under}
use Rattle.vl_elab_accepted_laws.proofs.Genblk.{is_mark}
use Rattle.vl_elab_accepted_laws.proofs.Plain.{Plain}
use Rattle.vl_elab_accepted_laws.proofs.Texts.{until, until-mark}

-- names of a kind, which differ
pub record Good (P : List ℕ → Type 0) (ns : List (List ℕ)) : Type 0 where
  pub each : Each P ns
  pub different : Different ns

pub good-none : (P : List ℕ → Type 0) → Good P []
good-none P = record { each = tt; different = tt }

pub good-map : {P Q : List ℕ → Type 0} → ((n : List ℕ) → P n → Q n) → (ns : List (List ℕ))
    → Good P ns → Good Q ns
good-map f ns g = record { each = each_map f ns g.each; different = g.different }

pub good-both : (P Q R : List ℕ → Type 0) (xs ys : List Step) → ((n : List ℕ) → P n → Q n → ⊥)
    → ((n : List ℕ) → P n → R n) → ((n : List ℕ) → Q n → R n)
    → Good P (full_names xs) → Good Q (full_names ys) → Good R (full_names (xs ++ ys))
good-both P Q R xs ys apart f g p q =
    let joined : Good R (full_names xs ++ full_names ys) = record {
      each = both R (full_names xs) (full_names ys) (each_map f (full_names xs) p.each)
          (each_map g (full_names ys) q.each);
      different = different-append P Q (full_names xs) (full_names ys) apart p.each q.each p.different q.different;
    } in subst (Good R) (sym (full-append xs ys)) joined

-- ---- below a path

-- the name has the path before it; what is behind the path begins with a text of a kind
pub record Under (path : List ℕ) (H : List ℕ → Type 0) (n : List ℕ) : Type 0 where
  pub rest : List ℕ
  pub is : n ≡ path ++ rest
  pub head : H (until is_mark rest)

abbrev pub Any : List ℕ → Type 0
Any h = Unit {0}

pub under-map : {H K : List ℕ → Type 0} → (path : List ℕ) → ((h : List ℕ) → H h → K h)
    → (n : List ℕ) → Under path H n
    → Under path K n
under-map path f n u = record { rest = u.rest; is = u.is; head = f (until is_mark u.rest) u.head }

pub under-apart : {H K : List ℕ → Type 0} → (path : List ℕ) → ((h : List ℕ) → H h → K h → ⊥)
    → (n : List ℕ)
    → Under path H n → Under path K n → ⊥
under-apart {H} {K} path f n u v =
    let same : u.rest ≡ v.rest = append_cancel_left path u.rest v.rest (sym u.is ∙ v.is) in
    f (until is_mark v.rest) (subst (λ r. H (until is_mark r)) same u.head) v.head

lacks-under : (path : List ℕ) (ns : List (List ℕ)) (n : List ℕ) → Lacks ns n
    → Lacks (under path ns) (path ++ n)
lacks-under path [] n h = refl
lacks-under path (m ∷ ns) n h =
    or_neither (bytes_eq (path ++ n) (path ++ m)) (contains_name (under path ns) (path ++ n))
    (by (bytes_eq (path ++ n) (path ++ m)) refl)
    (lacks-under path ns n (or_second (bytes_eq n m) (contains_name ns n) h))
  where
    by : (b : Bool) → bytes_eq (path ++ n) (path ++ m) ≡ b → bytes_eq (path ++ n) (path ++ m) ≡ false
    by true e =
        absurd (clash (text_same n m (append_cancel_left path n m (same_text (path ++ n) (path ++ m) e)))
        (or_first (bytes_eq n m) (contains_name ns n) h))
    by false e = e

different-under : (path : List ℕ) (ns : List (List ℕ)) → Different ns → Different (under path ns)
different-under path [] h = tt
different-under path (n ∷ ns) h = (lacks-under path ns n h.0, different-under path ns h.1)

each-under : (path : List ℕ) (H : List ℕ → Type 0) (ns : List (List ℕ)) → Each (λ n. H (until is_mark n)) ns
    → Each (Under path H) (under path ns)
each-under path H [] h = tt
each-under path H (n ∷ ns) h = (record { rest = n; is = refl; head = h.0 }, each-under path H ns h.1)

pub good-under : (path : List ℕ) (H : List ℕ → Type 0) (ns : List (List ℕ))
    → Each (λ n. H (until is_mark n)) ns
    → Different ns → Good (Under path H) (under path ns)
good-under path H ns h k = record { each = each-under path H ns h; different = different-under path ns k }

-- ---- below a scope in it

inside-scope : (path name rest : List ℕ) → path ++ name ++ 46 ∷ [] ++ rest ≡ path ++ (name ++ 46 ∷ rest)
inside-scope path name rest =
    append_assoc (path ++ name) (46 ∷ []) rest ∙ append_assoc path name (46 ∷ rest)

pub deeper : {H K : List ℕ → Type 0} → (path name : List ℕ) → Plain name → K name → (n : List ℕ)
    → Under (path ++ name ++ 46 ∷ []) H n → Under path K n
deeper {H} {K} path name plain h n u = record {
  rest = name ++ 46 ∷ u.rest;
  is = u.is ∙ inside-scope path name u.rest;
  head = subst K (sym (until-mark is_mark name 46 u.rest plain refl)) h;
}

pub inside-turn : (path label index rest : List ℕ)
    → path ++ label ++ 91 ∷ [] ++ index ++ 93 ∷ 46 ∷ [] ++ rest
    ≡ path ++ (label ++ 91 ∷ (index ++ 93 ∷ 46 ∷ rest))
inside-turn path label index rest =
    append_assoc (path ++ label ++ 91 ∷ [] ++ index) (93 ∷ 46 ∷ []) rest
    ∙ append_assoc (path ++ label ++ 91 ∷ []) index (93 ∷ 46 ∷ rest)
    ∙ append_assoc (path ++ label) (91 ∷ []) (index ++ 93 ∷ 46 ∷ rest)
    ∙ append_assoc path label (91 ∷ (index ++ 93 ∷ 46 ∷ rest))
