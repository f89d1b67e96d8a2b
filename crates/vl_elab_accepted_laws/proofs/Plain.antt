-- Names have neither a dot nor a bracket in them.
use Rattle.std.specs.Prelude.{◌≡◌, refl, ℕ, suc, ◌==◌, List, [], ◌∷◌, Bool, true, false, ◌&&◌}
use Rattle.std.specs.Prelude.{◌||◌, not, All}
use Rattle.std.specs.List.{list_all}
use Rattle.std.proofs.Common.{ap, sym, ◌∙◌, true≢false, arith}
use Rattle.std.proofs.lemmas.Bool.Decides.{nat_tests}
use Rattle.fv_text.specs.Name.{is_name, is_word, begins_word, continues_word}
use Rattle.vl_tree.specs.declared.declaration.DeclaredName.{DeclaredName}
use Rattle.vl_tree.specs.DeclarationWellFormed.{IsDeclaredName}
use Rattle.vl_tree.specs.ExprWellFormed.{IsName}
use Rattle.vl_mean.specs.Runs.{Each}
use Rattle.vl_elab_accepted_laws.proofs.Declared.{name_list}
use Rattle.vl_elab_accepted_laws.proofs.Genblk.{is_mark}
use Rattle.vl_elab_accepted_laws.proofs.Texts.{is_free}

abbrev pub Plain : List ℕ → Type 0
Plain text = is_free is_mark text ≡ true

and_first : (a b : Bool) → (a && b) ≡ true → a ≡ true
and_first true b h = refl
and_first false b h = h

and_second : (a b : Bool) → (a && b) ≡ true → b ≡ true
and_second true b h = h
and_second false b h = absurd (true≢false (sym h))

same_number : (m n : ℕ) → (m == n) ≡ true → m ≡ n
same_number m n h = grind (arith, nat_tests)

module _ (p : ℕ → Bool) (dot : p 46 ≡ false) (bracket : p 91 ≡ false) where
  no-mark : (c : ℕ) → p c ≡ true → is_mark c ≡ false
  no-mark c h = by (c == 46) (c == 91) refl refl
    where
      by : (a b : Bool) → (c == 46) ≡ a → (c == 91) ≡ b → (a || b) ≡ false
      by true b e f = absurd (true≢false (sym h ∙ ap p (same_number c 46 e) ∙ dot))
      by false true e f = absurd (true≢false (sym h ∙ ap p (same_number c 91 f) ∙ bracket))
      by false false e f = refl

  all-free : (cs : List ℕ) → list_all p cs ≡ true → is_free is_mark cs ≡ true
  all-free [] h = refl
  all-free (c ∷ cs) h =
      ap (λ b. not b && is_free is_mark cs) (no-mark c (and_first (p c) (list_all p cs) h))
      ∙ all-free cs (and_second (p c) (list_all p cs) h)

word-plain : (cs : List ℕ) → is_word cs ≡ true → Plain cs
word-plain [] h = refl
word-plain (c ∷ cs) h =
    ap (λ b. not b && is_free is_mark cs)
    (no-mark begins_word refl refl c (and_first (begins_word c) (list_all continues_word cs) h))
    ∙ all-free continues_word refl refl cs (and_second (begins_word c) (list_all continues_word cs) h)

pub name-plain : (text : List ℕ) → IsName text → Plain text
unfolding is_name
name-plain text h = word-plain text (and_first (is_word text) _ h)

-- ---- what all elements of a list are

pub all-head : {A : Type 0} (P : A → Type 0) (x : A) (xs : List A) → All P (x ∷ xs) → P x
all-head P x xs h = h 0 x (omega arith)

pub all-tail : {A : Type 0} (P : A → Type 0) (x : A) (xs : List A) → All P (x ∷ xs) → All P xs
all-tail P x xs h = λ k d l. h (suc k) d (omega arith)

pub all-each : {A : Type 0} (P : A → Type 0) (xs : List A) → All P xs → Each P xs
all-each P [] h = tt
all-each P (x ∷ xs) h = (all-head P x xs h, all-each P xs (all-tail P x xs h))

names-each : (xs : List DeclaredName) → Each IsDeclaredName xs → Each Plain (name_list xs)
names-each [] h = tt
names-each (x ∷ xs) h = (name-plain x.name h.0.0, names-each xs h.1)

pub names-plain : (xs : List DeclaredName) → All IsDeclaredName xs → Each Plain (name_list xs)
names-plain xs h = names-each xs (all-each IsDeclaredName xs h)
