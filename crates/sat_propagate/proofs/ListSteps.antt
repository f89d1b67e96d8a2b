-- The lists of watches after a change of one.
use Rattle.std.proofs.Common.{◌≡◌, ℕ, zero, suc, ◌<◌, ◌≤◌, Bool, true, false, cond, eqb, List, [], ◌∷◌, ◌++◌, length}
use Rattle.std.proofs.Common.{get_or, refl, ap, sym, ◌∙◌, inl, inr, arith}
use mathlib.Core.Path.{fun_ext}
use Rattle.std.proofs.Math.ListN.{set}
use Rattle.std.specs.Global.{Vec}
use Rattle.std.proofs.lemmas.Bool.{cases_Bool}
use Rattle.sat_propagate.specs.declared.watch.Watch.{Watch}
use Rattle.sat_propagate.specs.Watching.{Lists, with_watch, taken, joined, lists_of, items_of}
use Rattle.sat_propagate.proofs.Quiets.{eq_is}

apart : (x : ℕ) → eqb 0 (suc x) ≡ false
apart x = grind arith

apart_back : (x : ℕ) → eqb (suc x) 0 ≡ false
apart_back x = grind arith

both : (n x : ℕ) → eqb (suc n) (suc x) ≡ eqb n x
both n x = grind arith

lists_set : (ls : List (Vec Watch)) (code : ℕ) (u : Vec Watch) → code < length ls → (x : ℕ)
    → lists_of (items_of (set ls code u)) x ≡ cond (eqb code x) u.items (lists_of (items_of ls) x)
lists_set [] code u h x = absurd (omega (arith, h))
lists_set (l ∷ ls) zero u h zero = refl
lists_set (l ∷ ls) zero u h (suc x) = sym (ap (λ b. cond b u.items (lists_of (items_of ls) x)) (apart x))
lists_set (l ∷ ls) (suc n) u h zero = sym (ap (λ b. cond b u.items l.items) (apart_back n))
lists_set (l ∷ ls) (suc n) u h (suc x) =
    lists_set ls n u (omega (arith, h)) x ∙ sym (ap (λ b. cond b u.items (lists_of (items_of ls) x)) (both n x))

pub length_items : (ls : List (Vec Watch)) → length (items_of ls) ≡ length ls
length_items [] = refl
length_items (l ∷ ls) = ap suc (length_items ls)

item_at : (ls : List (Vec Watch)) (code : ℕ) (old : Vec Watch) → code < length ls → old ≡ get_or ls code old
    → lists_of (items_of ls) code ≡ old.items
item_at [] code old h e = absurd (omega (arith, h))
item_at (l ∷ ls) zero old h e = ap (λ v. v.items) (sym e)
item_at (l ∷ ls) (suc n) old h e = item_at ls n old (omega (arith, h)) e

-- one list has a further watch
pub pushed : (ls : List (Vec Watch)) (code : ℕ) (old u : Vec Watch) (w : Watch) (all : Lists)
    → lists_of (items_of ls) ≡ all → code < length ls → old ≡ get_or ls code old → u.items ≡ old.items ++ w ∷ []
    → lists_of (items_of (set ls code u)) ≡ with_watch all code w
pushed ls code old u w all v h e k = fun_ext (λ x. at x) where
  at : (x : ℕ) → lists_of (items_of (set ls code u)) x ≡ with_watch all code w x
  at x = lists_set ls code u h x ∙ elim (cases_Bool (eqb code x)) [
    | inl b ↦ ap (λ z. cond z u.items (lists_of (items_of ls) x)) b ∙ k
        ∙ ap (λ z. z ++ w ∷ []) (sym (item_at ls code old h e)) ∙ ap (λ z. z code ++ w ∷ []) v
        ∙ ap (λ z. all z ++ w ∷ []) (eq_is code x b) ∙ sym (ap (λ z. cond z (all x ++ w ∷ []) (all x)) b)
    | inr b ↦ ap (λ z. cond z u.items (lists_of (items_of ls) x)) b ∙ ap (λ z. z x) v
        ∙ sym (ap (λ z. cond z (all x ++ w ∷ []) (all x)) b)
  ]

-- watches go in front of one list
pub put : (ls : List (Vec Watch)) (code : ℕ) (old u : Vec Watch) (front : List Watch) (all : Lists)
    → lists_of (items_of ls) ≡ all → code < length ls → old ≡ get_or ls code old → u.items ≡ front ++ old.items
    → lists_of (items_of (set ls code u)) ≡ joined all code front
put ls code old u front all v h e k = fun_ext (λ x. at x) where
  at : (x : ℕ) → lists_of (items_of (set ls code u)) x ≡ joined all code front x
  at x = lists_set ls code u h x ∙ elim (cases_Bool (eqb code x)) [
    | inl b ↦ ap (λ z. cond z u.items (lists_of (items_of ls) x)) b ∙ k
        ∙ ap (λ z. front ++ z) (sym (item_at ls code old h e)) ∙ ap (λ z. front ++ z code) v
        ∙ ap (λ z. front ++ all z) (eq_is code x b) ∙ sym (ap (λ z. cond z (front ++ all x) (all x)) b)
    | inr b ↦ ap (λ z. cond z u.items (lists_of (items_of ls) x)) b ∙ ap (λ z. z x) v
        ∙ sym (ap (λ z. cond z (front ++ all x) (all x)) b)
  ]

-- no watches go in front of one list
pub put_none : (all : Lists) (code : ℕ) → joined all code [] ≡ all
put_none all code = fun_ext (λ x. at (eqb code x) x) where
  at : (b : Bool) (x : ℕ) → cond b ([] ++ all x) (all x) ≡ all x
  at true x = refl
  at false x = refl

-- one list is empty
pub took : (ls : List (Vec Watch)) (code : ℕ) (u : Vec Watch) (all : Lists) → lists_of (items_of ls) ≡ all
    → code < length ls → u.items ≡ [] → lists_of (items_of (set ls code u)) ≡ taken all code
took ls code u all v h k = fun_ext (λ x. at x) where
  at : (x : ℕ) → lists_of (items_of (set ls code u)) x ≡ taken all code x
  at x = lists_set ls code u h x ∙ ap (λ z. cond (eqb code x) z (lists_of (items_of ls) x)) k
      ∙ ap (λ z. cond (eqb code x) [] (z x)) v

-- one list was empty all along
pub took_none : (ls : List (List Watch)) (code : ℕ) → length ls ≤ code
    → (lists_of ls code ≡ []) × (lists_of ls ≡ taken (lists_of ls) code)
took_none ls code h = (none ls code h, fun_ext (λ x. at x)) where
  none : (ls : List (List Watch)) (code : ℕ) → length ls ≤ code → lists_of ls code ≡ []
  none [] code h = refl
  none (l ∷ ls) zero h = absurd (omega (arith, h))
  none (l ∷ ls) (suc n) h = none ls n (omega (arith, h))

  at : (x : ℕ) → lists_of ls x ≡ taken (lists_of ls) code x
  at x = elim (cases_Bool (eqb code x)) [
    | inl b ↦ ap (lists_of ls) (sym (eq_is code x b)) ∙ none ls code h
        ∙ sym (ap (λ z. cond z [] (lists_of ls x)) b)
    | inr b ↦ sym (ap (λ z. cond z [] (lists_of ls x)) b)
  ]

-- an empty list behind the others
pub widened : (ls all : List (Vec Watch)) (v : Vec Watch) → all ≡ ls ++ v ∷ [] → v.items ≡ []
    → lists_of (items_of all) ≡ lists_of (items_of ls)
widened ls all v e n = fun_ext (λ x. ap (λ z. lists_of (items_of z) x) e ∙ at ls x) where
  at : (ls : List (Vec Watch)) (x : ℕ) → lists_of (items_of (ls ++ v ∷ [])) x ≡ lists_of (items_of ls) x
  at [] zero = n
  at [] (suc x) = refl
  at (l ∷ ls) zero = refl
  at (l ∷ ls) (suc x) = at ls x
