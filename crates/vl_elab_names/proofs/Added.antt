-- A set with a name more.
use Rattle.std.specs.Prelude.{◌≡◌, refl, ℕ, List, Bool, true, false, ◌||◌, bytes_eq, is_some, not, Option, Some, None}
use Rattle.std.specs.Prelude.{if◌then◌else◌, Result, Ok, Err, OnOk, OnErr}
use Rattle.std.proofs.Common.{ap, ◌∙◌}
use Rattle.fv_text.proofs.Lookups.{bytes_eq-swap}
use Rattle.vl_elab_names.specs.Known.{is_apart}

some_if : {A : Type 0} (b : Bool) (w : A) (o : Option A) → is_some (if b then Some w else o) ≡ (b || is_some o)
some_if true w o = refl
some_if false w o = refl

pub set_after : {A : Type 0} (new old : Option A) (w : A) (name other : List ℕ)
    → new ≡ (if bytes_eq name other then Some w else old)
    → is_some new ≡ (bytes_eq other name || is_some old)
set_after new old w name other e =
    ap is_some e ∙ some_if (bytes_eq name other) w old ∙ ap (λ b. b || is_some old) (bytes_eq-swap name other)

-- ---- where it stands

swap : (a b c : Bool) → (a || (b || c)) ≡ (b || (a || c))
swap true true c = refl
swap true false c = refl
swap false true c = refl
swap false false c = refl

-- the first of all
pub at_first : (first : Option (List ℕ)) (added rest : Bool) (other : List ℕ) (b : Bool) → is_some first ≡ not b
    → b ≡ true → (added || rest) ≡ (added || (is_apart first other || rest))
at_first None added rest other b e h = refl
at_first (Some text) added rest other b e h = let no : true ≡ false = e ∙ ap not h in cc

-- the second one
pub at_second : (second : Option (List ℕ)) (first added rest : Bool) (other : List ℕ) (b : Bool)
    → is_some second ≡ not b → b ≡ true
    → (first || (added || rest)) ≡ (added || (first || (is_apart second other || rest)))
at_second None first added rest other b e h = swap first added rest
at_second (Some text) first added rest other b e h = let no : true ≡ false = e ∙ ap not h in cc

behind_two : (first second added new old : Bool) → new ≡ (added || old)
    → (first || (second || new)) ≡ (added || (first || (second || old)))
behind_two first second added new old e =
    ap (λ b. first || (second || b)) e ∙ ap (λ b. first || b) (swap second added old)
    ∙ swap first added (second || old)

-- one of the others
pub others_added : {A E : Type 0} (r : Result A E) (first second : Option (List ℕ)) (name : List ℕ)
    (old new : List ℕ → Bool) → OnOk r ((other : List ℕ) → new other ≡ (bytes_eq other name || old other))
    → OnOk r ((other : List ℕ) → (is_apart first other || (is_apart second other || new other))
    ≡ (bytes_eq other name || (is_apart first other || (is_apart second other || old other))))
others_added (Ok x) first second name old new h = λ other.
    behind_two (is_apart first other) (is_apart second other) (bytes_eq other name) (new other) (old other) (h other)
others_added (Err x) first second name old new h = h

pub others_stay : {A E : Type 0} (r : Result A E) (first second : Option (List ℕ)) (old new : List ℕ → Bool)
    → OnErr r ((other : List ℕ) → new other ≡ old other)
    → OnErr r ((other : List ℕ) → (is_apart first other || (is_apart second other || new other))
    ≡ (is_apart first other || (is_apart second other || old other)))
others_stay (Ok x) first second old new h = h
others_stay (Err x) first second old new h = λ other.
    ap (λ b. is_apart first other || (is_apart second other || b)) (h other)
