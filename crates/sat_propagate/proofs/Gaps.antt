-- Ids that hold no clause are taken up.
use Rattle.std.proofs.Common.{◌≡◌, ℕ, ◌<◌, ◌≤◌, Bool, true, false, cond, eqb, List, [], ◌∷◌, Option, Some, None}
use Rattle.std.proofs.Common.{refl, ap, sym, subst, ◌∙◌, inl, inr, arith}
use mathlib.Core.Path.{fun_ext}
use Rattle.std.proofs.lemmas.Bool.{false≢true}
use Rattle.lrat_check.specs.Store.{Clauses, Coded, coded, next, with_code, without_code, Removes}
use Rattle.sat_trail.specs.Trail.{Entries, oldest, true_codes}
use Rattle.sat_trail.proofs.Members.{or_cases}
use Rattle.sat_propagate.specs.declared.watch.Watch.{Watch}
use Rattle.sat_propagate.specs.Watching.{lists_of, is_listed, Watched, CalmBelow, Fits, AreFit, Ready}
use Rattle.sat_propagate.specs.Watches.{State, Keeps}
use Rattle.sat_propagate.proofs.Quiets.{eq_is, eq_self}
use Rattle.sat_propagate.proofs.Readies.{all_map}

none_some : (c : List ℕ) → None ≡ Some c → ⊥
none_some c e = cc

-- what is held once the id's empty clause is removed
without : (held added now : Coded) (id : ℕ) → held id ≡ None → added ≡ with_code held id []
    → now ≡ without_code added id → now ≡ held
without held added now id n a r =
    r ∙ ap (λ z. without_code z id) a ∙ fun_ext (λ x. at (eqb id x) x refl) where
      at : (b : Bool) (x : ℕ) → eqb id x ≡ b → without_code (with_code held id []) id x ≡ held x
      at true x e = ap (λ z. cond z None (cond z (Some []) (held x))) e ∙ sym n ∙ ap held (eq_is id x e)
      at false x e = ap (λ z. cond z None (cond z (Some []) (held x))) e

pub left_out : (held added now : Coded) (id : ℕ) (was_held : Bool) → held id ≡ None
    → added ≡ with_code held id [] → Removes added now id was_held → now ≡ held
left_out held added now id true n a r = without held added now id n a r.1
left_out held added now id false n a r =
    absurd (none_some [] (sym r ∙ ap (λ z. z id) a ∙ ap (λ z. cond z (Some []) (held id)) (eq_self id id refl)))

listed_below : (held : Coded) (bound id : ℕ) (ws : List Watch) → AreFit held bound ws → is_listed ws id ≡ true
    → id < bound
listed_below held bound id [] f h = absurd (false≢true h)
listed_below held bound id (w ∷ ws) f h = elim (or_cases (eqb w.id id) (is_listed ws id) h) [
  | inl e ↦ subst (λ z. z < bound) (eq_is w.id id e) f.0.known
  | inr e ↦ listed_below held bound id ws f.1 e
]

below : (w : State) (t : Entries) (id : ℕ) (c : List ℕ) → Keeps w t → coded w.store id ≡ Some c
    → id < next w.store
below w t id c k h = elim (k.watched.kept id c 0 h (omega arith)) [
  | inl q ↦ listed_below (coded w.store) (next w.store) id (lists_of w.lists _) (k.ready.fit _) q.inside
  | inr r ↦ listed_below (coded w.store) (next w.store) id w.rest k.fit r.1
]

-- an id that may be added holds no clause
pub none_above : (w : State) (t : Entries) (id : ℕ) → Keeps w t → next w.store ≤ id → coded w.store id ≡ None
none_above w t id k l = at (coded w.store id) refl where
  at : (o : Option (List ℕ)) → coded w.store id ≡ o → o ≡ None
  at None e = refl
  at (Some c) e = let h = below w t id c k e in absurd (omega (arith, h, l))

fits_higher : (held : Coded) (bound higher : ℕ) (w : Watch) → bound ≤ higher → Fits held bound w
    → Fits held higher w
fits_higher held bound higher w l f = let h = f.known in record {
  known = omega (arith, h, l);
  lit = f.lit;
  stands = f.stands;
}

fit_higher : (held : Coded) (bound higher : ℕ) (ws : List Watch) → bound ≤ higher → AreFit held bound ws
    → AreFit held higher ws
fit_higher held bound higher ws l f =
    all_map (Fits held bound) (Fits held higher) ws (λ w. fits_higher held bound higher w l) f

-- nothing else is held
pub left_out_on : (w : State) (t : Entries) (now : Clauses) → Keeps w t → coded now ≡ coded w.store
    → next w.store ≤ next now
    → Keeps (record { store = now; lists = w.lists; head = w.head; code = w.code; rest = w.rest }) t
left_out_on w t now k e l = record {
  watched = subst (λ z. Watched z (lists_of w.lists) (true_codes (oldest w.head t)) (true_codes t) w.code w.rest)
      (sym e) k.watched;
  calm = subst (λ z. CalmBelow z t) (sym e) k.calm;
  ready = subst (λ z. Ready z (next now) (lists_of w.lists)) (sym e) (record {
    lits = k.ready.lits;
    long = k.ready.long;
    fit = λ x. fit_higher (coded w.store) (next w.store) (next now) (lists_of w.lists x) l (k.ready.fit x);
  });
  fit = subst (λ z. AreFit z (next now) w.rest) (sym e)
      (fit_higher (coded w.store) (next w.store) (next now) w.rest l k.fit);
  lit = k.lit;
}
