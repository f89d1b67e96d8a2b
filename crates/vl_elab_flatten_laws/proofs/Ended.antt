-- A full name ends as its last name does, which has no bracket in it.
use Rattle.std.specs.Prelude.{◌≡◌, refl, ℕ, ◌==◌, List, [], ◌∷◌, ◌++◌, Bool, true, false, not}
use Rattle.std.specs.List.{list_all}
use Rattle.std.proofs.Common.{ap, sym, ◌∙◌, true≢false, arith}
use Rattle.std.proofs.lemmas.Bool.Decides.{nat_tests}
use Rattle.fv_text.specs.Name.{is_name, is_word, begins_word, continues_word}
use Rattle.vl_tree.specs.ExprWellFormed.{IsName}
use Rattle.vl_elab_draft.specs.Ends.{ends_plain}
use Rattle.vl_elab_accepted_laws.proofs.Constants.{first_true, second_true}

same_number : (m n : ℕ) → (m == n) ≡ true → m ≡ n
same_number m n h = grind (arith, nat_tests)

-- where a test fails for the bracket, what passes it is none
no_bracket : (p : ℕ → Bool) → p 93 ≡ false → (c : ℕ) → p c ≡ true → not (c == 93) ≡ true
no_bracket p bracket c h = by (c == 93) refl
  where
    by : (b : Bool) → (c == 93) ≡ b → not b ≡ true
    by true e = absurd (true≢false (sym h ∙ ap p (same_number c 93 e) ∙ bracket))
    by false e = refl

continued : (c : ℕ) (cs : List ℕ) → not (c == 93) ≡ true → list_all continues_word cs ≡ true
    → ends_plain (c ∷ cs) ≡ true
continued c [] h k = h
continued c (d ∷ cs) h k =
    continued d cs
    (no_bracket continues_word refl d (first_true (continues_word d) (list_all continues_word cs) k))
    (second_true (continues_word d) (list_all continues_word cs) k)

-- a name behind a path
word_behind : (path text : List ℕ) → is_word text ≡ true → ends_plain (path ++ text) ≡ true
word_behind path [] h = absurd (true≢false (sym h))
word_behind [] (c ∷ cs) h =
    continued c cs (no_bracket begins_word refl c (first_true (begins_word c) (list_all continues_word cs) h))
    (second_true (begins_word c) (list_all continues_word cs) h)
word_behind (b ∷ []) (c ∷ cs) h = word_behind [] (c ∷ cs) h
word_behind (b ∷ d ∷ path) (c ∷ cs) h = word_behind (d ∷ path) (c ∷ cs) h

pub name_behind : (path text : List ℕ) → IsName text → ends_plain (path ++ text) ≡ true
unfolding is_name
name_behind path text h = word_behind path text (first_true (is_word text) _ h)
