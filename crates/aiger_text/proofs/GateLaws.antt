-- What the words of a gate's line say.
use Rattle.std.proofs.Common.{◌≡◌, ℕ, Bool, cond, not, ◌==◌, ◌&&◌, ◌%◌, List, [], ◌∷◌, Option, Some, None}
use Rattle.std.proofs.Common.{refl, ap, sym, ◌∙◌}
use Rattle.aiger_text.specs.declared.gate.Gate.{Gate}
use Rattle.aiger_text.specs.Lines.{literal_of}
use Rattle.aiger_text.specs.Header.{if_some}
use Rattle.aiger_text.specs.Said.{if_even, defined_literal, gate_of}
use Rattle.aiger_text.specs.Bodies.{AreNotThree}

pub no_defined : (most : ℕ) (word : List ℕ) → None ≡ literal_of most word → None ≡ defined_literal most word
no_defined most word e = ap (λ o. if_some o if_even) e

pub defined : (most l : ℕ) (word : List ℕ) → Some l ≡ literal_of most word
    → cond ((l % 2 == 0) && not (l == 0)) (Some l) None ≡ defined_literal most word
defined most l word e = ap (λ o. if_some o if_even) e

pub not_three : (most line : ℕ) (ws : List (List ℕ)) → AreNotThree ws → None ≡ gate_of most line ws
not_three most line [] h = refl
not_three most line (a ∷ []) h = refl
not_three most line (a ∷ b ∷ []) h = refl
not_three most line (a ∷ b ∷ c ∷ []) h = absurd (h a b c refl)
not_three most line (a ∷ b ∷ c ∷ d ∷ ds) h = refl

-- the gate of three answers
abbrev of_three : ℕ → Option ℕ → Option ℕ → Option ℕ → Option Gate
of_three line o p q =
    if_some o (λ x. if_some p (λ y. if_some q (λ z. Some (record { line = line; literal = x; left = y; right = z }))))

of_words : (most line : ℕ) (ws : List (List ℕ)) (a b c : List ℕ) (o p q : Option ℕ) → ws ≡ a ∷ b ∷ c ∷ []
    → o ≡ defined_literal most a → p ≡ literal_of most b → q ≡ literal_of most c
    → of_three line o p q ≡ gate_of most line ws
of_words most line ws a b c o p q e x y z =
    ap (λ v. of_three line v p q) x ∙ ap (λ v. of_three line (defined_literal most a) v q) y
    ∙ ap (λ v. of_three line (defined_literal most a) (literal_of most b) v) z ∙ ap (gate_of most line) (sym e)

pub no_literal : (most line : ℕ) (ws : List (List ℕ)) (a b c : List ℕ) → ws ≡ a ∷ b ∷ c ∷ []
    → None ≡ defined_literal most a → None ≡ gate_of most line ws
no_literal most line ws a b c e p =
    of_words most line ws a b c None (literal_of most b) (literal_of most c) e p refl refl

pub no_left : (most line x : ℕ) (ws : List (List ℕ)) (a b c : List ℕ) → ws ≡ a ∷ b ∷ c ∷ []
    → Some x ≡ defined_literal most a → None ≡ literal_of most b → None ≡ gate_of most line ws
no_left most line x ws a b c e p q =
    of_words most line ws a b c (Some x) None (literal_of most c) e p q refl

pub no_right : (most line x y : ℕ) (ws : List (List ℕ)) (a b c : List ℕ) → ws ≡ a ∷ b ∷ c ∷ []
    → Some x ≡ defined_literal most a → Some y ≡ literal_of most b → None ≡ literal_of most c
    → None ≡ gate_of most line ws
no_right most line x y ws a b c e p q r =
    of_words most line ws a b c (Some x) (Some y) None e p q r

pub all_three : (most line x y z : ℕ) (ws : List (List ℕ)) (a b c : List ℕ) → ws ≡ a ∷ b ∷ c ∷ []
    → Some x ≡ defined_literal most a → Some y ≡ literal_of most b → Some z ≡ literal_of most c
    → Some (record { line = line; literal = x; left = y; right = z }) ≡ gate_of most line ws
all_three most line x y z ws a b c e p q r =
    of_words most line ws a b c (Some x) (Some y) (Some z) e p q r
