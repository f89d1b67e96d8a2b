-- Each state that is reached can be brought to its end.
use Rattle.std.proofs.Common.{◌≡◌, ℕ, zero, suc, Bool, true, false, ◌&&◌, List, [], ◌∷◌, ◌++◌, Option, Some, None}
use Rattle.std.proofs.Common.{refl, sym, ap, ◌∙◌, subst, inl, inr}
use Rattle.std.specs.Prelude.{◌⊎◌}
use Rattle.vl_parse_grammar.proofs.Steps.{is_pop, apart}
use Rattle.vl_parse_grammar.specs.Machine.{Move, take, pop, bad, symbols, free_step, accepts, free_after}

pub both : (a b : Bool) → (a && b) ≡ true → (a ≡ true) × (b ≡ true)
both true b h = (refl, h)
both false b h = cc

-- at most
abbrev upto : ℕ → ℕ → Bool
upto zero n = true
upto (suc m) zero = false
upto (suc m) (suc n) = upto m n

-- A word for each rule; how many of the rules that may be left out have to be left out at the token behind it, in their
-- order; and which rules may come up at all.
module _ {S T : Type 0} (expand : S → T → Move S) (ends : S → Bool) (word : S → List T) (follow : S → ℕ)
    (left_out : ℕ → S)
    (sound : S → Bool) where
  -- the tokens at which the first rules that may be left out are left out
  abbrev pub lets : ℕ → T → Bool
  lets zero t = true
  lets (suc c) t = is_pop (expand (left_out c) t) && lets c t

  abbrev pub finish : List S → List T
  finish [] = []
  finish (x ∷ k) = word x ++ finish k

  -- the tokens begin with what may come, or are at their end
  abbrev pub Lets : ℕ → List T → Type 0
  Lets c [] = Unit {0}
  Lets c (t ∷ ts) = lets c t ≡ true

  -- what comes behind a rule of a row may come there; b is what may come behind the row
  abbrev pub row_lets : ℕ → List S → ℕ → Bool
  row_lets zero row b = true
  row_lets (suc c) [] b = upto (suc c) b
  row_lets (suc c) (y ∷ row) b = elim (word y) [ [] ↦ row_lets (suc c) row b | t ∷ ts ↦ lets (suc c) t ]

  abbrev pub row_fits : List S → ℕ → Bool
  row_fits [] b = true
  row_fits (y ∷ row) b = row_lets (follow y) row b && (sound y && row_fits row b)

  -- each rule of the stack has what it wants behind it
  abbrev pub Fits : List S → Type 0
  Fits [] = Unit {0}
  Fits (x ∷ k) = Lets (follow x) (finish k) × (sound x ≡ true) × Fits k

  -- two things to show of a grammar: its rows fit, and each word is read
  abbrev pub Fit : Move S → ℕ → Type 0
  Fit (take opened row) b = row_fits (symbols row) b ≡ true
  Fit pop b = Unit {0}
  Fit bad b = Unit {0}

  abbrev pub RowsFit : Type 0
  RowsFit = (x : S) (t : T) → Fit (expand x t) (follow x)

  abbrev pub WordsRead : Type 0
  WordsRead =
      (x : S) (k : List S) (ts : List T) → sound x ≡ true → Lets (follow x) ts
      → accepts expand ends (x ∷ k) (word x ++ ts) ≡ accepts expand ends k ts

  -- brought to its end, a state is accepted
  pub finishes : WordsRead → (k : List S) → Fits k → accepts expand ends k (finish k) ≡ true
  finishes w [] f = refl
  finishes w (x ∷ k) f = w x k (finish k) f.1 f.0 ∙ finishes w k f.2

  fewer : (c b : ℕ) (t : T) → upto c b ≡ true → lets b t ≡ true → lets c t ≡ true
  fewer c zero t e h = zero_only c e
    where
      zero_only : (c : ℕ) → upto c 0 ≡ true → lets c t ≡ true
      zero_only zero e = refl
      zero_only (suc c) e = apart e
  fewer c (suc b) t e h =
      by_both c e (λ c f. fewer c b t f (both (is_pop (expand (left_out b) t)) (lets b t) h).1) h
    where
      at_top : (c b : ℕ) → upto (suc c) (suc b) ≡ true → (upto (suc c) b ≡ true) ⊎ (c ≡ b)
      at_top zero zero e = inr refl
      at_top zero (suc b) e = inl refl
      at_top (suc c) zero e = apart e
      at_top (suc c) (suc b) e = elim (at_top c b e) [ inl f ↦ inl f | inr f ↦ inr (ap suc f) ]

      by_both : (c : ℕ) → upto c (suc b) ≡ true → ((c : ℕ) → upto c b ≡ true → lets c t ≡ true) → lets (suc b) t ≡ true
          → lets c t ≡ true
      by_both zero e below h = refl
      by_both (suc c) e below h =
          elim (at_top c b e) [ inl f ↦ below (suc c) f | inr f ↦ subst (λ m. lets (suc m) t ≡ true) (sym f) h ]

  lets_fewer : (c b : ℕ) (ts : List T) → upto c b ≡ true → Lets b ts → Lets c ts
  lets_fewer c b [] e h = tt
  lets_fewer c b (t ∷ ts) e h = fewer c b t e h

  lets_none : (ts : List T) → Lets 0 ts
  lets_none [] = tt
  lets_none (t ∷ ts) = refl

  lets_row : (c : ℕ) (row : List S) (b : ℕ) (k : List S) → row_lets c row b ≡ true → Lets b (finish k)
      → Lets c (finish (row ++ k))
  lets_row zero row b k e h = lets_none (finish (row ++ k))
  lets_row (suc c) [] b k e h = lets_fewer (suc c) b (finish k) e h
  lets_row (suc c) (y ∷ row) b k e h = by_word (word y) e (λ f. lets_row (suc c) row b k f h)
    where
      by_word : (us : List T)
          → elim us as (λ _. Bool) [ [] ↦ row_lets (suc c) row b | t ∷ ts ↦ lets (suc c) t ] ≡ true
          → (row_lets (suc c) row b ≡ true → Lets (suc c) (finish (row ++ k)))
          → Lets (suc c) (us ++ finish (row ++ k))
      by_word [] e next = next e
      by_word (t ∷ ts) e next = e

  fits_row : (row : List S) (b : ℕ) (k : List S) → row_fits row b ≡ true → Lets b (finish k) → Fits k → Fits (row ++ k)
  fits_row [] b k e h f = f
  fits_row (y ∷ row) b k e h f =
      let (one, others) = both (row_lets (follow y) row b) (sound y && row_fits row b) e in
      let (fine, rest) = both (sound y) (row_fits row b) others in
      (lets_row (follow y) row b k one h, fine, fits_row row b k rest h f)

  none_some : {A : Type 0} (j : List S) → None ≡ Some j → A
  none_some j e = absurd (no e)
    where
      no : None ≡ Some j → ⊥
      no e = cc

  some_same : (i j : List S) → Some i ≡ Some j → i ≡ j
  some_same i j e = cc

  -- a step keeps it
  step_fits : RowsFit → (k : List S) (t : T) (j : List S) → Fits k → free_step expand k t ≡ Some j → Fits j
  step_fits r [] t j f e = none_some j e
  step_fits r (x ∷ k) t j f e = by_move (expand x t) (r x t) (λ g. step_fits r k t j f.2 g) e
    where
      by_move : (m : Move S) → Fit m (follow x) → (free_step expand k t ≡ Some j → Fits j)
          → elim m as (λ _. Option (List S))
          [ take opened row ↦ Some (symbols row ++ k) | pop ↦ free_step expand k t | bad ↦ None ] ≡ Some j
          → Fits j
      by_move (take opened row) fit next e =
          (let g : symbols row ++ k ≡ j = some_same _ _ e in
          subst Fits g (fits_row (symbols row) (follow x) k fit f.0 f.2))
      by_move pop fit next e = next e
      by_move bad fit next e = none_some j e

  -- so each beginning of a text goes on to a text
  pub viable : RowsFit → WordsRead → (k : List S) (before : List T) (j : List S) → Fits k
      → free_after expand k before ≡ Some j → (Fits j) × (accepts expand ends j (finish j) ≡ true)
  viable r w k [] j f e = (let g : k ≡ j = some_same _ _ e in let h : Fits j = subst Fits g f in (h, finishes w j h))
  viable r w k (t ∷ ts) j f e =
      by_first (free_step expand k t) (λ i g. step_fits r k t i f g) (λ i h. viable r w i ts j h) e
    where
      by_first : (o : Option (List S)) → ((i : List S) → o ≡ Some i → Fits i)
          → ((i : List S) → Fits i → free_after expand i ts ≡ Some j
          → (Fits j) × (accepts expand ends j (finish j) ≡ true))
          → elim o as (λ _. Option (List S)) [ None ↦ None | Some i ↦ free_after expand i ts ] ≡ Some j
          → (Fits j) × (accepts expand ends j (finish j) ≡ true)
      by_first None fits next e = none_some j e
      by_first (Some i) fits next e = next i (fits i refl) e
