-- One token of a text: it is taken, or the next rule is left out before it.
use Rattle.std.proofs.Common.{◌≡◌, ℕ, Bool, true, false, List, [], ◌∷◌, ◌++◌, Option, Some, None, refl, ap}
use Rattle.vl_parse_grammar.specs.Machine.{Move, take, pop, bad, symbols, free_step, all_may_end, accepts}

pub apart : {A : Type 0} → false ≡ true → A
apart h = absurd (no h)
  where
    no : false ≡ true → ⊥
    no h = cc

abbrev pub is_pop : {S : Type 0} → Move S → Bool
is_pop pop = true
is_pop (take opened row) = false
is_pop bad = false

module _ {S T : Type 0} (expand : S → T → Move S) (ends : S → Bool) where
  abbrev stepped : List S → T → Move S → Option (List S)
  stepped k t m = elim m as (λ _. Option (List S))
      [ take opened row ↦ Some (symbols row ++ k) | pop ↦ free_step expand k t | bad ↦ None ]

  -- a rule that is left out
  pub popped : (x : S) (k : List S) (t : T) (ts : List T) → is_pop (expand x t) ≡ true
      → accepts expand ends (x ∷ k) (t ∷ ts) ≡ accepts expand ends k (t ∷ ts)
  popped x k t ts h = by_move (expand x t) h
    where
      by_move : (m : Move S) → is_pop m ≡ true
          → elim (stepped k t m) as (λ _. Bool) [ None ↦ false | Some i ↦ accepts expand ends i ts ]
          ≡ elim (free_step expand k t) as (λ _. Bool) [ None ↦ false | Some i ↦ accepts expand ends i ts ]
      by_move (take opened row) h = apart h
      by_move pop h = refl
      by_move bad h = apart h

  -- a token that is taken
  pub took : (x : S) (k : List S) (t : T) (ts : List T) (opened : ℕ) (row : List (S × ℕ)) → expand x t ≡ take opened row
      → accepts expand ends (x ∷ k) (t ∷ ts) ≡ accepts expand ends (symbols row ++ k) ts
  took x k t ts opened row h =
      ap (λ m. elim (stepped k t m) as (λ _. Bool) [ None ↦ false | Some i ↦ accepts expand ends i ts ]) h

  -- the rule is left out before the tokens
  abbrev pub Leaves : S → List T → Type 0
  Leaves x [] = ends x ≡ true
  Leaves x (t ∷ ts) = is_pop (expand x t) ≡ true

  pub leaves : (x : S) (k : List S) (ts : List T) → Leaves x ts
      → accepts expand ends (x ∷ k) ts ≡ accepts expand ends k ts
  leaves x k [] h = ap (λ b. elim b [ true ↦ all_may_end ends k | false ↦ false ]) h
  leaves x k (t ∷ ts) h = popped x k t ts h
