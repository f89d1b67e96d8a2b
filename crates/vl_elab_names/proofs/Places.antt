-- Modules by their places.
use Rattle.std.specs.Prelude.{◌≡◌, refl, ℕ, ◌+◌, List, [], ◌∷◌, ◌++◌, length, Bool, true, false, ◌||◌}
use Rattle.std.specs.Prelude.{bytes_eq, slice_get, Option, Some, None, if◌then◌else◌}
use Rattle.std.proofs.Common.{ap, sym, ◌∙◌}
use Rattle.std.proofs.lemmas.List.{append_assoc, length-append}
use Rattle.vl_tree.specs.declared.source.Module.{Module}
use Rattle.vl_mean.specs.Cells.{contains_name}
use Rattle.vl_mean.specs.Walk.{module_named}
use Rattle.vl_elab_spec.specs.declared.elab_fault.ElabFault.TheVariants as f
use Rattle.vl_elab_spec.specs.Refused.{modules_twice}
use Rattle.vl_elab_names.specs.Table.{place_from, with_name, twice_by}

-- ---- the module at a place

behind : (front : List Module) (m : Module) (ms : List Module) → slice_get (front ++ m ∷ ms) (length front) ≡ Some m
behind [] m ms = refl
behind (x ∷ front) m ms = behind front m ms

module _ (text : List ℕ) where
  found_from : (front ms : List Module) (i : ℕ) → place_from (length front) ms text ≡ Some i
      → slice_get (front ++ ms) i ≡ module_named ms text
  found_from front [] i e = cc
  found_from front (m ∷ ms) i e =
      by (bytes_eq text m.name) (λ f. ap (λ xs. slice_get xs i) (sym (append_assoc front (m ∷ []) ms))
      ∙ found_from (front ++ m ∷ []) ms i (ap (λ n. place_from n ms text) (length-append front (m ∷ [])) ∙ f)) e
    where
      or : Option ℕ → ℕ
      or None = i
      or (Some n) = n

      by : (b : Bool)
          → (place_from (length front + 1) ms text ≡ Some i → slice_get (front ++ m ∷ ms) i ≡ module_named ms text)
          → (if b then Some (length front) else place_from (length front + 1) ms text) ≡ Some i
          → slice_get (front ++ m ∷ ms) i ≡ (if b then Some m else module_named ms text)
      by true f e = ap (slice_get (front ++ m ∷ ms)) (sym (ap or e)) ∙ behind front m ms
      by false f e = f e

  none_from : (n : ℕ) (ms : List Module) → place_from n ms text ≡ None → module_named ms text ≡ None
  none_from n [] e = refl
  none_from n (m ∷ ms) e = by (bytes_eq text m.name) (none_from (n + 1) ms) e
    where
      by : (b : Bool) → (place_from (n + 1) ms text ≡ None → module_named ms text ≡ None)
          → (if b then Some n else place_from (n + 1) ms text) ≡ None
          → (if b then Some m else module_named ms text) ≡ None
      by true f e = cc
      by false f e = f e

  pub found : (ms : List Module) (i : ℕ) → place_from 0 ms text ≡ Some i → slice_get ms i ≡ module_named ms text
  found ms i e = found_from [] ms i e

  pub not_found : (ms : List Module) → place_from 0 ms text ≡ None → None ≡ module_named ms text
  not_found ms e = sym (none_from 0 ms e)

-- ---- modules that stand twice

-- one whose name is new
pub twice_on : (earlier later : List ℕ → Bool) (m : Module) (ms rest : List Module) → rest ≡ m ∷ ms
    → earlier m.name ≡ false → ((text : List ℕ) → later text ≡ with_name earlier m.name text)
    → twice_by later ms ≡ twice_by earlier rest
twice_on earlier later m ms rest front new more =
    (λ i. twice_by (λ text. more text i) ms)
    ∙ ap (λ b. if b then Some (f.Twice m.name m.pos) else twice_by (with_name earlier m.name) ms) (sym new)
    ∙ ap (twice_by earlier) (sym front)

contains_more : (names : List (List ℕ)) (name other : List ℕ)
    → contains_name (names ++ name ∷ []) other ≡ (bytes_eq other name || contains_name names other)
contains_more [] name other = refl
contains_more (n ∷ ns) name other =
    ap (λ b. bytes_eq other n || b) (contains_more ns name other)
    ∙ swap (bytes_eq other n) (bytes_eq other name) (contains_name ns other)
  where
    swap : (a b c : Bool) → (a || (b || c)) ≡ (b || (a || c))
    swap true true c = refl
    swap true false c = refl
    swap false true c = refl
    swap false false c = refl

pub same_twice : (earlier : List ℕ → Bool) (names : List (List ℕ)) (ms : List Module)
    → ((text : List ℕ) → earlier text ≡ contains_name names text) → twice_by earlier ms ≡ modules_twice names ms
same_twice earlier names [] h = refl
same_twice earlier names (m ∷ ms) h =
    λ i. if h m.name i then Some (f.Twice m.name m.pos)
    else same_twice (with_name earlier m.name) (names ++ m.name ∷ []) ms
    (λ text. ap (λ b. bytes_eq text m.name || b) (h text) ∙ sym (contains_more names m.name text)) i
