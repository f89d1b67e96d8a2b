-- Searches in lists of which the first item that is sought counts.
use Rattle.std.specs.Prelude.{◌≡◌, refl, Bool, true, false, not, ◌&&◌}
use Rattle.std.specs.Prelude.{◌||◌, if◌then◌else◌, List, [], ◌∷◌, ◌++◌}
use Rattle.std.specs.Prelude.{find, reverse, Some}
use Rattle.std.specs.List.{list_any}
use Rattle.std.proofs.Common.{ap, ◌∙◌, cond}
use Rattle.std.proofs.lemmas.List.{reverse-append}
use Rattle.rv_table.specs.declared.retire.Retire.{Retire}
use Rattle.ck_spec.specs.declared.retired.Retired.{Retired}
use Rattle.ck_spec.specs.Lists.{where_found}
use Rattle.ck_history.specs.Entries.{Entry}
use Rattle.ck_history.specs.declared.sought.Sought.{Sought}
use Rattle.ck_history.specs.Searches.{is_sought, agrees, first_agrees}

-- ---- retirements: what the first says that is sought, and else the rest

abbrev pub first_says : (Retired → Bool) → (Retired → Bool) → Bool → List Retired → Bool
first_says p t rest [] = rest
first_says p t rest (x ∷ xs) = if p x then t x else first_says p t rest xs

pub says_append : (p t : Retired → Bool) (rest : Bool) (xs ys : List Retired)
    → first_says p t rest (xs ++ ys) ≡ first_says p t (first_says p t rest ys) xs
says_append p t rest [] ys = refl
says_append p t rest (x ∷ xs) ys = ap (λ b. if p x then t x else b) (says_append p t rest xs ys)

pub found_says : (p : Retired → Bool) (such : Retire → Bool) (xs : List Retired)
    → where_found (find p xs) such ≡ first_says p (λ e. such e.retire) true xs
found_says p such [] = refl
found_says p such (x ∷ xs) = by (p x) (found_says p such xs)
  where
    by : (b : Bool) → where_found (find p xs) such ≡ first_says p (λ e. such e.retire) true xs
        → where_found (cond b (Some x) (find p xs)) such
        ≡ (if b then such x.retire else first_says p (λ e. such e.retire) true xs)
    by true rest = refl
    by false rest = rest

never : Retired → Bool
never x = false

-- none is sought
pub none_says : (p : Retired → Bool) (rest : Bool) (xs : List Retired)
    → first_says p (λ e. false) rest (reverse xs) ≡ (rest && not (list_any p xs))
none_says p rest [] = by rest
  where
    by : (b : Bool) → b ≡ (b && true)
    by true = refl
    by false = refl
none_says p rest (x ∷ xs) =
    ap (first_says p (λ e. false) rest) (reverse-append (x ∷ []) xs)
    ∙ says_append p (λ e. false) rest (reverse xs) (x ∷ [])
    ∙ none_says p (if p x then false else rest) xs
    ∙ by (p x) rest (list_any p xs)
  where
    by : (b r a : Bool) → ((if b then false else r) && not a) ≡ (r && not (b || a))
    by true true a = refl
    by true false a = refl
    by false r a = refl

-- ---- entries

abbrev pub agrees_or : Sought → Entry → Bool → List Entry → Bool
agrees_or s own rest [] = rest
agrees_or s own rest (e ∷ es) = if is_sought s own e then agrees s.word own e else agrees_or s own rest es

pub first_or : (s : Sought) (own : Entry) (es : List Entry) → first_agrees s own es ≡ agrees_or s own true es
first_or s own [] = refl
first_or s own (e ∷ es) = ap (λ b. if is_sought s own e then agrees s.word own e else b) (first_or s own es)

pub or_append : (s : Sought) (own : Entry) (rest : Bool) (xs ys : List Entry)
    → agrees_or s own rest (xs ++ ys) ≡ agrees_or s own (agrees_or s own rest ys) xs
or_append s own rest [] ys = refl
or_append s own rest (x ∷ xs) ys =
    ap (λ b. if is_sought s own x then agrees s.word own x else b) (or_append s own rest xs ys)
