-- Which texts are one.
use Rattle.std.proofs.Common.{◌≡◌, ◌⊎◌, inl, inr, ℕ, Bool, true, false, cond, ◌&&◌, ◌||◌, List, [], ◌∷◌, ◌++◌, refl}
use Rattle.std.proofs.Common.{◌+◌, ◌<◌, length, drop, get_or, sym, ◌∙◌, ap, bytes_eq}
use Rattle.std.specs.Prelude.{map}
use Rattle.std.specs.List.{filter, list_any}
use Rattle.std.proofs.lemmas.Cmp.{nat_list_eq_equiv}
use Rattle.std.proofs.lemmas.List.Folds.{list_any-append}
use Rattle.ck_ask.specs.Questions.{question_kind}
use Rattle.ck_ask.specs.declared.question.Question.{Question}
use Rattle.ck_cfg.specs.declared.config.Config.{Config}
use Rattle.ck_cfg.specs.declared.config.KindPiece.{KindPiece}
use Rattle.ck_cfg.specs.declared.config.Piece.{Piece}
use Rattle.ck_cfg.specs.declared.kind.CheckKind.{CheckKind}
use Rattle.ck_cfg.specs.Kind.{is_kind}
use Rattle.rvf_case.specs.Steps.{has_same, kind_lines}
use Rattle.rvf_case.specs.Texts.{are_same_lines, is_same_text, leaders_behind}
use Rattle.rvf_case.proofs.Next.{next_is}

-- lists of lines' bytes that are the same
abbrev pub same_bytes : List (List ℕ) → List (List ℕ) → Bool
same_bytes [] [] = true
same_bytes [] (b ∷ bs) = false
same_bytes (a ∷ ls) [] = false
same_bytes (a ∷ ls) (b ∷ bs) = bytes_eq a b && same_bytes ls bs

pub equal_bytes : (bytes : List ℕ) → bytes_eq bytes bytes ≡ true
equal_bytes bytes = nat_list_eq_equiv.refl bytes

by_bytes : (ps qs : List Piece) → are_same_lines ps qs ≡ same_bytes (map (λ x. x.text) ps) (map (λ x. x.text) qs)
by_bytes [] [] = refl
by_bytes [] (q ∷ qs) = refl
by_bytes (p ∷ ps) [] = refl
by_bytes (p ∷ ps) (q ∷ qs) = ap (λ b. bytes_eq p.text q.text && b) (by_bytes ps qs)

-- the lines that both begin with decide nothing
behind_lines : (ds ps qs : List Piece) → are_same_lines (ds ++ ps) (ds ++ qs) ≡ are_same_lines ps qs
behind_lines [] ps qs = refl
behind_lines (d ∷ ds) ps qs =
    ap (λ b. b && are_same_lines (ds ++ ps) (ds ++ qs)) (equal_bytes d.text) ∙ behind_lines ds ps qs

bytes_of : (xs : List KindPiece) → map (λ x. x.text) (map (λ x. x.piece) xs) ≡ map (λ x. x.piece.text) xs
bytes_of [] = refl
bytes_of (x ∷ xs) = ap (λ ys. x.piece.text ∷ ys) (bytes_of xs)

-- texts are compared by the lines for the kinds alone
pub by_kind_lines : (c : Config) (kind other : CheckKind)
    → same_bytes (kind_lines c.kind_defines kind) (kind_lines c.kind_defines other) ≡ is_same_text c kind other
by_kind_lines c kind other =
    let ps : List KindPiece = filter (λ x. is_kind x.kind kind) c.kind_defines in
    let qs : List KindPiece = filter (λ x. is_kind x.kind other) c.kind_defines in
    sym (behind_lines c.defines (map (λ x. x.piece) ps) (map (λ x. x.piece) qs)
    ∙ by_bytes (map (λ x. x.piece) ps) (map (λ x. x.piece) qs)
    ∙ ap (λ bs. same_bytes bs (map (λ x. x.text) (map (λ x. x.piece) qs))) (bytes_of ps)
    ∙ ap (λ bs. same_bytes (map (λ x. x.piece.text) ps) bs) (bytes_of qs))

-- ---- leaders

pub text_is_its_own : (c : Config) (kind : CheckKind) → is_same_text c kind kind ≡ true
text_is_its_own c kind = own (c.defines ++ map (λ x. x.piece) (filter (λ x. is_kind x.kind kind) c.kind_defines)) where
  own : (ps : List Piece) → are_same_lines ps ps ≡ true
  own [] = refl
  own (p ∷ ps) = ap (λ b. b && are_same_lines ps ps) (equal_bytes p.text) ∙ own ps

or_true : (b : Bool) → (b || true) ≡ true
or_true true = refl
or_true false = refl

-- one more kind that has the text
one_more : (c : Config) (there : List CheckKind) (more kind : CheckKind) → is_same_text c more kind ≡ true
    → has_same c (there ++ more ∷ []) kind ≡ true
one_more c there more kind e =
    list_any-append (λ k. is_same_text c k kind) there (more ∷ [])
    ∙ ap (λ b. list_any (λ k. is_same_text c k kind) there || (b || false)) e
    ∙ or_true (list_any (λ k. is_same_text c k kind) there)

still_there : (c : Config) (there : List CheckKind) (more kind : CheckKind) → has_same c there kind ≡ true
    → has_same c (there ++ more ∷ []) kind ≡ true
still_there c there more kind e =
    list_any-append (λ k. is_same_text c k kind) there (more ∷ [])
    ∙ ap (λ b. b || list_any (λ k. is_same_text c k kind) (more ∷ [])) e

-- a text that has a leader keeps it
kept : (c : Config) (qs : List Question) (there : List CheckKind) (kind : CheckKind) → has_same c there kind ≡ true
    → has_same c (leaders_behind c there qs) kind ≡ true
kept c [] there kind e = e
kept c (x ∷ xs) there kind e =
    step (has_same c there (question_kind x)) (kept c xs there kind e)
    (kept c xs (there ++ question_kind x ∷ []) kind (still_there c there (question_kind x) kind e)) where
      step : (b : Bool) → has_same c (leaders_behind c there xs) kind ≡ true
          → has_same c (leaders_behind c (there ++ question_kind x ∷ []) xs) kind ≡ true
          → has_same c (cond b (leaders_behind c there xs) (leaders_behind c (there ++ question_kind x ∷ []) xs)) kind
          ≡ true
      step true f g = f
      step false f g = g

module _ (c : Config) (qs : List Question) (i : ℕ) (x d : Question) (kinds new all : List CheckKind)
    (l : i < length qs) (e : x ≡ get_or qs i d)
    (h : leaders_behind c kinds (drop i qs) ≡ all) where
  here : leaders_behind c kinds (drop i qs) ≡ cond (has_same c kinds (question_kind x))
      (leaders_behind c kinds (drop (i + 1) qs)) (leaders_behind c (kinds ++ question_kind x ∷ []) (drop (i + 1) qs))
  here = ap (leaders_behind c kinds) (next_is qs i x d l e)

  -- the next question's text has no leader yet
  pub led_by_new : has_same c kinds (question_kind x) ≡ false → new ≡ kinds ++ question_kind x ∷ []
      → leaders_behind c new (drop (i + 1) qs) ≡ all
  led_by_new f n =
      ap (λ ks. leaders_behind c ks (drop (i + 1) qs)) n
      ∙ sym (here ∙ ap (λ b. cond b (leaders_behind c kinds (drop (i + 1) qs))
      (leaders_behind c (kinds ++ question_kind x ∷ []) (drop (i + 1) qs))) f) ∙ h

  -- it has one
  pub led_already : has_same c kinds (question_kind x) ≡ true → new ≡ kinds
      → leaders_behind c new (drop (i + 1) qs) ≡ all
  led_already t n =
      ap (λ ks. leaders_behind c ks (drop (i + 1) qs)) n
      ∙ sym (here ∙ ap (λ b. cond b (leaders_behind c kinds (drop (i + 1) qs))
      (leaders_behind c (kinds ++ question_kind x ∷ []) (drop (i + 1) qs))) t) ∙ h

-- an element of a list
abbrev pub IsIn : {X : Type 0} → X → List X → Type 0
IsIn x [] = ⊥
IsIn x (y ∷ ys) = (x ≡ y) ⊎ IsIn x ys

-- each question's text has a leader
pub led : (c : Config) (qs : List Question) (there : List CheckKind) (x : Question) → IsIn x qs
    → has_same c (leaders_behind c there qs) (question_kind x) ≡ true
led c [] there x i = absurd i
led c (y ∷ ys) there x (inl e) =
    step (has_same c there (question_kind y)) refl where
      step : (b : Bool) → has_same c there (question_kind y) ≡ b
          → has_same c (cond b (leaders_behind c there ys) (leaders_behind c (there ++ question_kind y ∷ []) ys)) (question_kind x)
          ≡ true
      step true t = kept c ys there (question_kind x) (ap (λ (z : Question). has_same c there (question_kind z)) e ∙ t)
      step false f = kept c ys (there ++ question_kind y ∷ []) (question_kind x)
          (one_more c there (question_kind y) (question_kind x)
          (ap (λ (z : Question). is_same_text c (question_kind y) (question_kind z)) e
          ∙ text_is_its_own c (question_kind y)))
led c (y ∷ ys) there x (inr i) =
    step (has_same c there (question_kind y)) (led c ys there x i) (led c ys (there ++ question_kind y ∷ []) x i) where
      step : (b : Bool) → has_same c (leaders_behind c there ys) (question_kind x) ≡ true
          → has_same c (leaders_behind c (there ++ question_kind y ∷ []) ys) (question_kind x) ≡ true
          → has_same c (cond b (leaders_behind c there ys) (leaders_behind c (there ++ question_kind y ∷ []) ys)) (question_kind x)
          ≡ true
      step true f g = f
      step false f g = g
