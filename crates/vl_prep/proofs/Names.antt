-- Look-ups by names in maps of macros.
use Rattle.std.proofs.Common.{◌≡◌, ℕ, List, refl, ap, sym, ◌∙◌}
use Rattle.std.specs.Prelude.{Bool, true, false, cond, Option, Some}
use Rattle.std.specs.Map.{lookup}
use Rattle.std.specs.Option.{option_map}
use Rattle.std.specs.Str.{bytes_eq}
use Rattle.std.proofs.lemmas.Option.{same_Some}
use Rattle.fv_text.proofs.Lookups.{lookup-insert_entry}
use Rattle.indexmap.specs.IndexMap.{insert_entry}
use Rattle.vl_prep.specs.Macros.{joined}

joined_cond : {X Y : Type 0} (f : X → Y) (b : Bool) (l : Option (Option X)) (w : Option X) →
    option_map f (joined (cond b (Some w) l)) ≡ cond b (option_map f w) (option_map f (joined l))
joined_cond f true l w = refl
joined_cond f false l w = refl

-- at another name, and at this one
pub kept_after : {X : Type 0} (b : Bool) (w x : X) (old new : Option X) → new ≡ cond b (Some w) old → b ≡ false
    → new ≡ Some x → old ≡ Some x
kept_after b w x old new e f s = sym (e ∙ ap (λ c. cond c (Some w) old) f) ∙ s

pub put_after : {X : Type 0} (b : Bool) (w x : X) (old new : Option X) → new ≡ cond b (Some w) old → b ≡ true
    → new ≡ Some x → x ≡ w
put_after b w x old new e f s = sym (same_Some w x (sym (e ∙ ap (λ c. cond c (Some w) old) f) ∙ s))

-- what a map of optional values has at each name, once one is put at a name
pub held_after : {K X Y : Type 0} (bytes : K → List ℕ) (k : K) (w : Option X) (other : List ℕ)
    (old new : List (K × Option X)) (name : List ℕ) (f : X → Y) →
    new ≡ insert_entry (λ a b. bytes_eq (bytes a) (bytes b)) old k w → bytes k ≡ name →
    option_map f (joined (lookup (λ q. bytes_eq other (bytes q)) new))
    ≡ cond (bytes_eq name other) (option_map f w)
    (option_map f (joined (lookup (λ q. bytes_eq other (bytes q)) old)))
held_after bytes k w other old new name f e n =
    ap (λ es. option_map f (joined (lookup (λ q. bytes_eq other (bytes q)) es))) e
    ∙ ap (λ l. option_map f (joined l)) (lookup-insert_entry bytes k w other old)
    ∙ joined_cond f (bytes_eq (bytes k) other) (lookup (λ q. bytes_eq other (bytes q)) old) w
    ∙ ap (λ l. cond (bytes_eq l other) (option_map f w)
    (option_map f (joined (lookup (λ q. bytes_eq other (bytes q)) old)))) n
