-- Hints with a resolvent are accepted.
use Rattle.std.proofs.Common.{◌≡◌, ℕ, ◌<◌, false, cond, leb, List, [], ◌∷◌, ◌++◌, ℤ, Option, Some, None, refl, sym}
use Rattle.std.proofs.Common.{◌∙◌, arith}
use Rattle.std.specs.Prelude.{unsigned_abs}
use Rattle.std.specs.List.{list_any}
use Rattle.std.proofs.lemmas.Bool.{cond-false, lt-leb}
use Rattle.lrat_check.specs.declared.reading.Reading.{Reading}
use Rattle.lrat_check.specs.declared.reading.Reading.TheVariants as read
use Rattle.lrat_check.specs.declared.step.StepFault.TheVariants as fault
use Rattle.lrat_check.specs.Sets.{negs, reading}
use Rattle.lrat_check.specs.Steps.{Held, is_negative, walk, add_fault}
use Rattle.lrat_check.specs.Resolved.{resolvent}

walks_unit : (held : Held) (id : ℕ) (set : List ℤ) (h : ℤ) (hs c r : List ℤ) (l : ℤ) (o : Option (List ℤ))
    → held (unsigned_abs h) ≡ Some c → reading set c ≡ read.Unit l → resolvent held (set ++ l ∷ []) hs ≡ o
    → resolvent held set (h ∷ hs) ≡ Some r →
    ((q : List ℤ) → resolvent held (set ++ l ∷ []) hs ≡ Some q → walk held id (set ++ l ∷ []) hs ≡ None)
    → walk held id set (h ∷ hs) ≡ None
walks_unit held id set h hs c r l None g u e k rest = absurd (none_some r (sym fails ∙ k)) where
  none_some : (x : List ℤ) → None ≡ Some x → ⊥
  none_some x e = cc

  fails : resolvent held set (h ∷ hs) ≡ None
  fails = grind (arith, g, u, e)
walks_unit held id set h hs c r l (Some q) g u e k rest = steps ∙ rest q e where
  steps : walk held id set (h ∷ hs) ≡ walk held id (set ++ l ∷ []) hs
  steps = grind (arith, g, u)

walks_read : (held : Held) (id : ℕ) (set : List ℤ) (h : ℤ) (hs c r : List ℤ) (now : Reading)
    → held (unsigned_abs h) ≡ Some c → reading set c ≡ now → resolvent held set (h ∷ hs) ≡ Some r
    → ((s q : List ℤ) → resolvent held s hs ≡ Some q → walk held id s hs ≡ None) → walk held id set (h ∷ hs) ≡ None
walks_read held id set h hs c r read.True g u k rest = absurd (none_some r (sym fails ∙ k)) where
  none_some : (x : List ℤ) → None ≡ Some x → ⊥
  none_some x e = cc

  fails : resolvent held set (h ∷ hs) ≡ None
  fails = grind (arith, g, u)
walks_read held id set h hs c r read.False g u k rest = grind (arith, g, u)
walks_read held id set h hs c r (read.Unit l) g u k rest =
    walks_unit held id set h hs c r l (resolvent held (set ++ l ∷ []) hs) g u refl k (λ q e. rest (set ++ l ∷ []) q e)
walks_read held id set h hs c r read.Open g u k rest = absurd (none_some r (sym fails ∙ k)) where
  none_some : (x : List ℤ) → None ≡ Some x → ⊥
  none_some x e = cc

  fails : resolvent held set (h ∷ hs) ≡ None
  fails = grind (arith, g, u)

walks_at : (held : Held) (id : ℕ) (set : List ℤ) (h : ℤ) (hs r : List ℤ) (o : Option (List ℤ))
    → held (unsigned_abs h) ≡ o → resolvent held set (h ∷ hs) ≡ Some r
    → ((s q : List ℤ) → resolvent held s hs ≡ Some q → walk held id s hs ≡ None) → walk held id set (h ∷ hs) ≡ None
walks_at held id set h hs r None g k rest = absurd (none_some r (sym fails ∙ k)) where
  none_some : (x : List ℤ) → None ≡ Some x → ⊥
  none_some x e = cc

  fails : resolvent held set (h ∷ hs) ≡ None
  fails = grind (arith, g)
walks_at held id set h hs r (Some c) g k rest = walks_read held id set h hs c r (reading set c) g refl k rest

none_some : (x : List ℤ) → None ≡ Some x → ⊥
none_some x e = cc

-- hints with a resolvent lead to a conflict
pub walks_to : (held : Held) (id : ℕ) (set hints r : List ℤ) → resolvent held set hints ≡ Some r
    → walk held id set hints ≡ None
walks_to held id set [] r e = absurd (none_some r e)
walks_to held id set (h ∷ hs) r e =
    walks_at held id set h hs r (held (unsigned_abs h)) refl e (λ s q k. walks_to held id s hs q k)

-- and the clause that they are for is accepted
pub accepted : (held : Held) (top id : ℕ) (lits hints : List ℤ) → top < id → list_any is_negative hints ≡ false
    → walk held id (negs lits) hints ≡ None → add_fault held top id lits hints ≡ None
accepted held top id lits hints h n w =
    cond-false (leb id top) (Some (fault.IdOrder id))
    (cond (list_any is_negative hints) (Some (fault.Rat id)) (walk held id (negs lits) hints)) (lt-leb id top h)
    ∙ cond-false (list_any is_negative hints) (Some (fault.Rat id)) (walk held id (negs lits) hints) n ∙ w
