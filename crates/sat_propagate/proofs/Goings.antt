-- A list of watches is gone through.
use Rattle.std.proofs.Common.{◌≡◌, ℕ, List, [], ◌∷◌, ◌++◌, subst}
use Rattle.lrat_check.specs.Store.{Coded}
use Rattle.sat_propagate.specs.declared.watch.Watch.{Watch}
use Rattle.sat_propagate.specs.Watching.{Lists, Watched, Fits, AreFit, Going}
use Rattle.sat_propagate.specs.declared.visit.Visit.{Visit}
use Rattle.sat_propagate.specs.declared.visit.Visit.TheVariants as visit
use Rattle.sat_propagate.specs.Watching.{KeepsFit, Passes, KeepsCalm, Visits, Forces, IsFalse}
use Rattle.sat_propagate.proofs.Quiets.{turned, renewed}
use Rattle.sat_propagate.proofs.Readies.{all_front, all_map}

-- one watch more was dealt with
pub going_on : (held middle now : Coded) (lists between lists_now : Lists) (set : List ℕ) (code : ℕ)
    (all old left : List Watch) (w : Watch) → Going held middle lists between set code all old → old ≡ left ++ w ∷ []
    → Passes middle now between lists_now set code w → KeepsCalm middle now between set code w
    → Going held now lists lists_now set code all left
going_on held middle now lists between lists_now set code all old left w g e p k done u s =
    let r = g done u s in
    let t = turned middle between done set code w left old e r.0 in
    (p done left u t, λ older o z. k done left older u t o (r.1 older o z))

-- the watches fit, the last one too
pub fit_parts : (held : Coded) (bound : ℕ) (old left : List Watch) (w : Watch) → old ≡ left ++ w ∷ []
    → AreFit held bound old → AreFit held bound left × Fits held bound w
fit_parts held bound old left w e a = all_front (Fits held bound) left w (subst (AreFit held bound) e a)

pub fit_on : (held now : Coded) (bound : ℕ) (ws : List Watch) → KeepsFit held now bound → AreFit held bound ws
    → AreFit now bound ws
fit_on held now bound ws k a = all_map (Fits held bound) (Fits now bound) ws k a

-- the last watch that is left is one of the same clause
pub going_new : (held middle : Coded) (lists between : Lists) (set : List ℕ) (code : ℕ) (all old left : List Watch)
    (w v : Watch) → Going held middle lists between set code all old → old ≡ left ++ w ∷ [] → v.id ≡ w.id
    → Going held middle lists between set code all (left ++ v ∷ [])
going_new held middle lists between set code all old left w v g e i done u s =
    let r = g done u s in
    (renewed middle between done set code w v left i (subst (Watched middle between done set code) e r.0), r.1)

-- nothing changed
pub going_same : (held middle now : Coded) (lists between lists_now : Lists) (set : List ℕ) (code : ℕ)
    (all left rest : List Watch) → Going held middle lists between set code all left → middle ≡ now
    → between ≡ lists_now → left ≡ rest → Going held now lists lists_now set code all rest
going_same held middle now lists between lists_now set code all left rest g e f h =
    subst (λ z. Going held z lists lists_now set code all rest) e
    (subst (λ z. Going held middle lists z set code all rest) f
    (subst (λ z. Going held middle lists between set code all z) h g))

module _ (held now : Coded) (lists lists_now : Lists) (set : List ℕ) (code : ℕ) (w : Watch) (v : Visit) where
  pub passes_of : v ≡ visit.Passed → Visits held now lists lists_now set code w v
      → Passes held now lists lists_now set code w
  passes_of e h = subst (Visits held now lists lists_now set code w) e h

  pub unit_of : (x : ℕ) → v ≡ visit.Unit x → Visits held now lists lists_now set code w v
      → (held ≡ now) × (lists ≡ lists_now) × Forces held set w.id x
  unit_of x e h = subst (Visits held now lists lists_now set code w) e h

  pub conflict_of : v ≡ visit.Conflict → Visits held now lists lists_now set code w v
      → (held ≡ now) × (lists ≡ lists_now) × IsFalse held set w.id
  conflict_of e h = subst (Visits held now lists lists_now set code w) e h
